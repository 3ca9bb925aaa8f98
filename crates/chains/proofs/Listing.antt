-- Laws that rest on those of specs/Listing.antt.
--
--     list_mean             every line of the fit is a weighted mean of the listed lines
--     list_pinned           each listed line is a line of the fit that touches two ends at two times
--     list_corner, corner_list_is   each listed line is a corner, each corner is listed
--     list_order            the list is in corner order: least slope, above the diagonal by rising slope, greatest slope, below the diagonal by falling slope
--
-- Assumes nothing.
use Rattle.std.specs.Prelude.{◌≡◌, ℤ, pos, ◌<ℤ◌}
use Rattle.std.proofs.Common.{sym, ◌∙◌, ap, subst}
use mathlib.Core.List.{List, [], ◌∷◌, ◌++◌, map, map-append, reverse, reverse_aux, reverse_aux-eq, reverse_aux-append}
use Rattle.std.proofs.Math.IntN.{*ℤ_comm}
use Rattle.integers.specs.OrderLaws.{<ℤ→≤ℤ}
use Rattle.integers.specs.Lists.{All, nil, cons, All_imp, All_map_inv, Any_here}
use Rattle.definitions.specs.Lines.{Line}
use Rattle.definitions.specs.Corners.{side}
use Rattle.definitions.specs.Fit.{RisingSlopes, InCornerOrder, single, around}
use Rattle.chains.specs.Points.{Point, through, through-first, through-second}
use Rattle.chains.specs.Mirror.{neg_p, negL}
use Rattle.chains.specs.Extremes.{Laws, mirror-laws}
use Rattle.chains.specs.Chain.{Polygon, Chain, last, next, Chains, first_fits, last_fits, head_top}
use Rattle.chains.specs.State.{State, with_chains, one_line, only}
use Rattle.chains.specs.Weights.{none, more, WholeMean}
use Rattle.chains.specs.Hull.{lines_of, corners_of}
use Rattle.chains.proofs.Hull.{lines-negs, hull}
use Rattle.chains.specs.CornersOfChains.{CornerOf, Pinned, Listed, ends_pinned, pinned_corner}
use Rattle.chains.proofs.CornersOfChains.{corners_pinned, corner_listed}
use Rattle.chains.specs.Listing.{Between, chain-rises, chain_slope, list-many, list-single, list_of, mirror-side, over_diagonal, rises-onto, single-term, upper_rises, widen}

module _ {F : Line → Type 0} {Top Bot : Point → Type 0} (x : Polygon) (ch : Chains F Top Bot x) where
  lower_rises : RisingSlopes (x.slow ∷ (reverse (lines_of x.lower) ++ (x.fast ∷ [])))
  lower_rises = subst RisingSlopes turned (rises-onto x.fast (lines_of x.lower ++ (x.slow ∷ [])) [] (subst RisingSlopes images (chain-rises ch.down)) tt)
    where
      images : negL x.fast ∷ (lines_of (map neg_p x.lower) ++ (negL x.slow ∷ [])) ≡ map negL (x.fast ∷ (lines_of x.lower ++ (x.slow ∷ [])))
      images = ap (λ ls. negL x.fast ∷ (ls ++ (negL x.slow ∷ []))) (lines-negs x.lower) ∙ ap (λ ls. negL x.fast ∷ ls) (sym (map-append negL (lines_of x.lower) (x.slow ∷ [])))

      turned : reverse_aux (lines_of x.lower ++ (x.slow ∷ [])) (x.fast ∷ []) ≡ x.slow ∷ (reverse (lines_of x.lower) ++ (x.fast ∷ []))
      turned = reverse_aux-append (lines_of x.lower) (x.slow ∷ []) (x.fast ∷ []) ∙ ap (λ ls. x.slow ∷ ls) (reverse_aux-eq (lines_of x.lower) (x.fast ∷ []))

module _ {F : Line → Type 0} {Top Bot : Point → Type 0} {T : ℤ} (laws : Laws F Top Bot T) where
  chain_between : {v : Line} {xs : List Point} {w : Line} → Chain F Top v xs w → All (Between Top v w) (lines_of xs)
  chain_between (last b f) = nil
  chain_between (next {v} {w} {A} {B} b lt c) =
      cons
      (record {
        positive = laws.positive _ (first_fits c);
        left = b.turns;
        right = chain_slope laws c;
        first = A;
        second = B;
        first_top = b.top;
        second_top = head_top c;
        rise = lt;
        on_first = through-first A B;
        on_second = through-second A B;
      })
      (All_imp (λ m. widen laws v (through A B) w m (laws.positive _ b.fits) (laws.positive _ (first_fits c)) b.turns) (chain_between c))

  chain_over : {v : Line} {xs : List Point} {w : Line} → Chain F Top v xs w → All (λ m. pos 0 <ℤ side v w m) (lines_of xs)
  chain_over {v} {xs} {w} c = All_imp (λ m. over_diagonal laws v w m (first_fits c) (last_fits c)) (chain_between c)

module _ {F : Line → Type 0} {Top Bot : Point → Type 0} {T : ℤ} (laws : Laws F Top Bot T) (x : Polygon) (ch : Chains F Top Bot x) where
  lower_under : All (λ m. side x.slow x.fast m <ℤ pos 0) (lines_of x.lower)
  lower_under =
      All_imp (mirror-side x.slow x.fast)
      (All_map_inv negL (lines_of x.lower) (subst (All (λ m. pos 0 <ℤ side (negL x.fast) (negL x.slow) m)) (lines-negs x.lower) (chain_over (mirror-laws laws) ch.down)))

  corners_order : InCornerOrder (corners_of x)
  corners_order = around x.slow (lines_of x.upper) x.fast (lines_of x.lower) (upper_rises x ch) (lower_rises x ch) (chain_over laws ch.up) lower_under

module _ {F : Line → Type 0} {Top Bot : Point → Type 0} {T : ℤ} (laws : Laws F Top Bot T) (x : Polygon) where
  pub list_mean : State F Top Bot x → (l : Line) → F l → WholeMean (list_of x) l
  list_mean (with_chains c) l f = list-many (λ ls. WholeMean ls l) x (chain_slope laws c.up) (hull laws x c l f)
  list_mean (one_line z) l f =
      let s = only laws x z l f in
      list-single (λ ls. WholeMean ls l) x z.same
      (record {
        weights = more l.d (<ℤ→≤ℤ (laws.positive l f)) none;
        c = x.slow.d;
        c_over = laws.positive _ z.slow_fits;
        on_p = single-term l.p x.slow.d x.slow.p l.d s.slope;
        on_q = single-term l.q x.slow.d x.slow.q l.d s.intercept;
        on_d = single-term l.d x.slow.d x.slow.d l.d (*ℤ_comm l.d x.slow.d);
      })

  pub list_pinned : State F Top Bot x → All (Pinned F Top Bot) (list_of x)
  list_pinned (with_chains c) = list-many (All (Pinned F Top Bot)) x (chain_slope laws c.up) (corners_pinned x c)
  list_pinned (one_line z) = list-single (All (Pinned F Top Bot)) x z.same (cons (ends_pinned x.slow z.slow_fits z.slow_ends) nil)

  pub list_corner : State F Top Bot x → All (CornerOf F) (list_of x)
  list_corner z = All_imp (λ m. pinned_corner laws) (list_pinned z)

  pub corner_list_is : State F Top Bot x → (l : Line) → CornerOf F l → Listed (list_of x) l
  corner_list_is (with_chains c) l k = list-many (λ ls. Listed ls l) x (chain_slope laws c.up) (corner_listed laws x c l k)
  corner_list_is (one_line z) l k =
      let s = only laws x z l k.fits in
      list-single (λ ls. Listed ls l) x z.same (Any_here (record { slope = sym s.slope; intercept = sym s.intercept }))

  pub list_order : State F Top Bot x → InCornerOrder (list_of x)
  list_order (with_chains c) = list-many InCornerOrder x (chain_slope laws c.up) (corners_order laws x c)
  list_order (one_line z) = list-single InCornerOrder x z.same (single x.slow)
