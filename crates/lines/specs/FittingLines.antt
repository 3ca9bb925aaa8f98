-- The list `fitting rs`: the lines of the fit through two ends, in lowest terms, by rising slope.
--
--     FittingAs rs x c                   c is in the fit, and x is c in lowest terms
--     in_fitting, in_fitting_inv         the entries of `fitting rs` are the candidates that fit, in lowest terms
--     fitting_rising, fitting_proper     it rises by `before`, and its lines are in lowest terms
--     fitting_fit                        its lines are in the fit
--
-- Assumes nothing.
use Rattle.std.specs.Prelude.{◌≡◌, List, map}
use Rattle.integers.specs.Lists.{filter, All, Any, In, All_in, All_of, All_imp, All-map, in_filter, in_filter_inv, in_map, in-map-inv}
use Rattle.integers.specs.Sorting.{Rising, sorted_rising, in_sorted, in_sorted_inv, All_sorted}
use Rattle.definitions.specs.Ranges.{Range}
use Rattle.definitions.specs.Lines.{Line, fits, candidates}
use Rattle.definitions.specs.Corners.{reduced, before, fitting}
use Rattle.definitions.specs.Fit.{InFit, Ordered}
use Rattle.lines.specs.HasLine.{fits_iff, candidates-positive}
use Rattle.lines.specs.LineOrder.{Proper, line-order, reduced_proper, reduced_restates, InFit_same}

-- c is a line of the fit, and x is c in lowest terms
pub record FittingAs (rs : List Range) (x c : Line) : Type 0 where
  pub fit : InFit rs c
  pub is : reduced c ≡ x

-- those through two ends, as they are before they are reduced
abbrev found : List Range → List Line
found rs = filter (fits rs) (candidates rs)

module _ (rs : List Range) (o : Ordered rs) where
  found_inv : {c : Line} → In c (found rs) → In c (candidates rs) × InFit rs c
  found_inv {c} i = let (k, t) = in_filter_inv (fits rs) (candidates rs) i in (k, (fits_iff rs c (All_in (candidates-positive rs o) k)).0 t)

  found_fit : All (InFit rs) (found rs)
  found_fit = All_of (found rs) (λ c i. (found_inv i).1)

  found_proper : All Proper (map reduced (found rs))
  found_proper = All-map reduced (All_imp (λ c f. reduced_proper c f.positive) found_fit)

  pub in_fitting : {c : Line} → In c (candidates rs) → InFit rs c → In (reduced c) (fitting rs)
  unfolding fitting
  in_fitting {c} i f = in_sorted line-order found_proper (in_map reduced (in_filter (fits rs) i ((fits_iff rs c f.positive).1 f)))

  pub in_fitting_inv : {x : Line} → In x (fitting rs) → Any (FittingAs rs x) (candidates rs)
  unfolding fitting
  in_fitting_inv {x} i =
      let (c, k, e) = in-map-inv reduced (found rs) (in_sorted_inv before (map reduced (found rs)) i) in
      let (m, f) = found_inv k in
      record { entry = c; among = m; holds = record { fit = f; is = e } }

  pub fitting_proper : All Proper (fitting rs)
  unfolding fitting
  fitting_proper = All_sorted before found_proper

  pub fitting_rising : Rising before (fitting rs)
  unfolding fitting
  fitting_rising = sorted_rising line-order found_proper

  pub fitting_fit : All (InFit rs) (fitting rs)
  unfolding fitting
  fitting_fit = All_sorted before (All-map reduced (All_imp (λ c f. InFit_same (reduced_restates f.positive) f) found_fit))
