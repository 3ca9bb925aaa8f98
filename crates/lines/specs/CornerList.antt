-- The list `corners rs` of the definitions is what the scope says of corners. All of it is for ranges rs with rising times, given a list ls of the corners in any terms (`CornersOf rs ls`).
--
--     extreme_idle           every fitting line through two ends is a corner, so `extreme` removes none
--     fitting_members        the entries of `fitting rs` are the lines of ls in lowest terms
--     fitting_ends           `fitting rs` begins with the slow line of ls and ends with the fast one, both in lowest terms
--     corners_are            `corners rs` is ls in lowest terms
--     corners_exact          its entries are exactly the corners of the fit that are in lowest terms
--     corners_ordered        it is in corner order
--     corners_proper         each entry has d above 0 and no common divisor above 1
--     corners_once           no entry stands twice
--     corners_count          k ranges have at most 2k
--     corners_mean           each line of the fit is a weighted mean of its entries
--     corners_members, corners_known   its entries are those of `fitting rs`, and it is the only list in corner order, in lowest terms, of which that is so
--     corners_unique         it is the only list in corner order with exactly these entries
--
-- Assumes nothing.
use Rattle.std.specs.Prelude.{◌≡◌, ◌↔◌, not, ◌*◌, ◌≤◌, T, length}
use Rattle.std.proofs.Math.Path.{sym, ap}
use Rattle.std.proofs.Common.{◌∙◌, subst, subst₂}
use mathlib.Core.List.{List, map, Nodup}
use Rattle.std.proofs.Math.Dec.{not_T}
use Rattle.std.proofs.lemmas.List.{length-map}
use Rattle.integers.specs.Lists.{any, All, In, SameMembers, same_members_trans, any_means, All_in, All_of, All_imp, All-map, filter_all, in_map, in-map-inv}
use Rattle.integers.specs.LowestTerms.{InLowestTerms}
use Rattle.definitions.specs.Ranges.{Range}
use Rattle.definitions.specs.Lines.{Line}
use Rattle.definitions.specs.Corners.{reduced, between, between_some, fitting, extreme, corner_order, corners}
use Rattle.definitions.specs.Fit.{InFit, Ordered, WeightedMean, Corner, InCornerOrder}
use Rattle.lines.specs.LineOrder.{Positive, Proper, reduced_proper, reduced-alike, reduced-is, Restates, reduced_restates, InFit_same, same-sym}
use Rattle.lines.specs.MeanLaws.{mean-reduced, Corner_same, between_means}
use Rattle.lines.specs.HasLine.{candidates-positive}
use Rattle.lines.specs.FittingLines.{in_fitting, in_fitting_inv, fitting_rising, fitting_fit}
use Rattle.lines.specs.CornerOrder.{slow_of, fast_of, Ends, Resorted, corner_order-of, ends_of, order-nodup, OrderedFrom, order-reduced}
use Rattle.lines.specs.CornerFacts.{CornersOf}

-- ---- lines that are corners are not strictly between others

-- a line strictly between two others of a list
record BetweenSome (ls : List Line) (l : Line) : Type 0 where
  j : Line
  k : Line
  j_in : In j ls
  k_in : In k ls
  passes : T (between j k l)

between_some-means : (ls : List Line) (l : Line) → T (between_some ls l) → BetweenSome ls l
unfolding between_some
between_some-means ls l t =
    let first = any_means (λ j. any (λ k. between j k l) ls) (λ j s. s) ls t in
    let second = any_means (λ k. between first.entry k l) (λ k s. s) ls first.holds in
    record { j = first.entry; k = second.entry; j_in = first.among; k_in = second.among; passes = second.holds }

corner_not_between : {rs : List Range} {ls : List Line} (l : Line) → All (InFit rs) ls → Corner rs l → ¬ T (between_some ls l)
corner_not_between {ls} l fit c t =
    let b = between_some-means ls l t in
    let f = All_in fit b.j_in in
    let g = All_in fit b.k_in in
    c.extreme b.j b.k f g (between_means f.positive g.positive c.fit.positive b.passes)

extreme-corners : {rs : List Range} {ls : List Line} → All (InFit rs) ls → All (Corner rs) ls → extreme ls ≡ ls
unfolding extreme
extreme-corners {ls} fit cs = filter_all (λ l. not (between_some ls l)) (All_imp (λ l c. not_T (between_some ls l) (corner_not_between l fit c)) cs)

-- ---- the list `corners`
module _ {rs : List Range} {ls : List Line} (o : Ordered rs) (c : CornersOf rs ls) where
  positive : All Positive ls
  positive = All_imp (λ l f. f.positive) c.listed_fit

  pub fitting_members : SameMembers (fitting rs) (map reduced ls)
  fitting_members = record { into = into; back = back }
    where
      into : (x : Line) → In x (fitting rs) → In x (map reduced ls)
      into x i =
          let a = in_fitting_inv rs o i in
          let b = c.candidate_listed a.entry a.among a.holds.fit in
          let e = reduced-alike a.holds.fit.positive (All_in positive b.among) b.holds in
          subst (λ y. In y (map reduced ls)) (sym e ∙ a.holds.is) (in_map reduced b.among)

      back : (x : Line) → In x (map reduced ls) → In x (fitting rs)
      back x i =
          let (l, k, e) = in-map-inv reduced ls i in
          let a = All_in c.listed_candidate k in
          let h = All_in positive k in
          let g = All_in (candidates-positive rs o) a.among in
          let r : Restates l a.entry = record { same = a.holds; left_positive = h; right_positive = g } in
          subst (λ y. In y (fitting rs)) (sym (reduced-alike h g a.holds) ∙ e) (in_fitting rs o a.among (InFit_same r (All_in c.listed_fit k)))

  reduced_corners : All (Corner rs) (map reduced ls)
  reduced_corners = All-map reduced (All_imp (λ l k. Corner_same (reduced_restates k.fit.positive) k) c.listed_corner)

  pub extreme_idle : extreme (fitting rs) ≡ fitting rs
  extreme_idle = extreme-corners (fitting_fit rs o) (All_of (fitting rs) (λ x i. All_in reduced_corners (fitting_members.into x i)))

  reduced_proper_all : All Proper (map reduced ls)
  reduced_proper_all = All-map reduced (All_imp (λ l h. reduced_proper l h) positive)

  fitting_resorted : Resorted (map reduced ls) (fitting rs)
  fitting_resorted = record { proper = reduced_proper_all; rising = fitting_rising rs o; members = fitting_members }

  reduced_order : OrderedFrom (reduced (slow_of c.ordered)) (reduced (fast_of c.ordered)) (map reduced ls)
  reduced_order = order-reduced c.ordered positive

  pub corners_are : corners rs ≡ map reduced ls
  unfolding corners
  corners_are = ap corner_order extreme_idle ∙ corner_order-of reduced_order.order fitting_resorted

  pub fitting_ends : Ends (fitting rs) (reduced (slow_of c.ordered)) (reduced (fast_of c.ordered))
  fitting_ends = subst₂ (Ends (fitting rs)) reduced_order.slow_is reduced_order.fast_is (ends_of reduced_order.order fitting_resorted)

  pub corners_ordered : InCornerOrder (corners rs)
  corners_ordered = subst InCornerOrder (sym corners_are) reduced_order.order

  pub corners_proper : All Proper (corners rs)
  corners_proper = subst (All Proper) (sym corners_are) reduced_proper_all

  pub corners_once : Nodup (corners rs)
  corners_once = order-nodup corners_ordered corners_proper

  pub corners_count : length (corners rs) ≤ 2 * length rs
  corners_count = subst (λ n. n ≤ 2 * length rs) (sym (ap length corners_are ∙ length-map ls reduced)) c.few

  pub corners_mean : (l : Line) → InFit rs l → WeightedMean (corners rs) l
  corners_mean l f = subst (λ ks. WeightedMean ks l) (sym corners_are) (mean-reduced positive (c.means l f))

  -- the lines of `corners` are the corners of the fit
  pub corners_exact : (l : Line) → In l (corners rs) ↔ (Corner rs l × InLowestTerms l.p l.q l.d)
  corners_exact l = (λ i. (All_in (subst (All (Corner rs)) (sym corners_are) reduced_corners) i, (All_in corners_proper i).lowest), λ h. listed h.0 h.1)
    where
      listed : Corner rs l → InLowestTerms l.p l.q l.d → In l (corners rs)
      listed k low =
          let a = c.corner_listed l k in
          let e = reduced-is (All_in positive a.among) (record { positive = k.fit.positive; lowest = low }) (same-sym a.holds) in
          subst (λ ks. In l ks) (sym corners_are) (subst (λ y. In y (map reduced ls)) e (in_map reduced a.among))

  pub corners_members : SameMembers (fitting rs) (corners rs)
  corners_members = subst (SameMembers (fitting rs)) (sym corners_are) fitting_members

  pub corners_known : (ks : List Line) → InCornerOrder ks → All Proper ks → SameMembers (fitting rs) ks → ks ≡ corners rs
  unfolding corners
  corners_known ks order proper members = sym (ap corner_order extreme_idle ∙ corner_order-of order (record { proper = proper; rising = fitting_rising rs o; members = members }))

  pub corners_unique : (ks : List Line) → InCornerOrder ks → ((l : Line) → In l ks ↔ (Corner rs l × InLowestTerms l.p l.q l.d)) → ks ≡ corners rs
  corners_unique ks order exact = corners_known ks order proper members
    where
      proper : All Proper ks
      proper = All_of ks (λ l i. record { positive = ((exact l).0 i).0.fit.positive; lowest = ((exact l).0 i).1 })

      members : SameMembers (fitting rs) ks
      members = same_members_trans corners_members (record { into = λ l i. (exact l).1 ((corners_exact l).0 i); back = λ l i. (corners_exact l).1 ((exact l).0 i) })
