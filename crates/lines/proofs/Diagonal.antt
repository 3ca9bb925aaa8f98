-- Laws that rest on those of specs/Diagonal.antt.
--
--     side_above, side_below     `side` is above 0, or below 0, exactly if l's intercept is greater, or smaller, than that of m
--     corner_order-iff           it is the corner order of the definitions
--
-- Assumes nothing.
use Rattle.std.specs.Prelude.{◌↔◌, List, [], ◌∷◌, ◌++◌, reverse, pos, ◌*ℤ◌, ◌<ℤ◌}
use Rattle.integers.specs.OrderLaws.{sub-pos}
use Rattle.integers.specs.Lists.{All, All_imp, All_imp₂}
use Rattle.definitions.specs.Lines.{Line}
use Rattle.definitions.specs.Corners.{side}
use Rattle.definitions.specs.Fit.{SlopeBelow, RisingSlopes, InCornerOrder, single, around}
use Rattle.lines.specs.LineOrder.{Positive, SameOrder, order-<, order_flip, order_sym}
use Rattle.lines.specs.Diagonal.{above_within, AboveDiagonal, below_within, BelowDiagonal, ByDiagonal, diagonal_on, fast-over, from_slow, intercepts_differ, met, OnDiagonal, one_line, rise, slow_over, two_sides}

module _ {j k : Line} (j-over : Positive j) (k-over : Positive k) (rises : SlopeBelow j k) where
  -- the side of l is to 0 as its intercept is to that of the diagonal's line
  side_is : {l m : Line} → OnDiagonal j k l m → SameOrder (pos 0) (side j k l) (m.q *ℤ l.d) (l.q *ℤ m.d)
  side_is {l} {m} o =
      record {
        left = m.d;
        right = rise j k;
        left_positive = o.positive;
        right_positive = sub-pos rises;
        scaled = intercepts_differ j k m l (diagonal_on j-over k-over rises o) o.same_slope;
      }

  pub side_above : {l m : Line} → OnDiagonal j k l m → (pos 0 <ℤ side j k l) ↔ ((m.q *ℤ l.d) <ℤ (l.q *ℤ m.d))
  side_above o = (order-< (side_is o), order-< (order_sym (side_is o)))

  pub side_below : {l m : Line} → OnDiagonal j k l m → (side j k l <ℤ pos 0) ↔ ((l.q *ℤ m.d) <ℤ (m.q *ℤ l.d))
  side_below o = (order-< (order_flip (side_is o)), order-< (order_flip (order_sym (side_is o))))

module _
    (slow : Line) (above : List Line) (fast : Line) (below : List Line) (h : All Positive (slow ∷ above ++ (fast ∷ below)))
    (rises : RisingSlopes (slow ∷ above ++ (fast ∷ []))) (falls : RisingSlopes (slow ∷ reverse below ++ (fast ∷ []))) where
  sides_apart : All (λ l. pos 0 <ℤ side slow fast l) above → All (λ l. side slow fast l <ℤ pos 0) below → ByDiagonal (slow ∷ above ++ (fast ∷ below))
  sides_apart over under =
      two_sides slow above fast below rises falls
      (All_imp₂ (λ l w g. let (m, o) = met slow above fast below h rises falls w in record { line = m; on_diagonal = o; greater = (side_above (slow_over slow above fast below h rises falls) (fast-over slow above fast below h rises falls) (from_slow slow above fast below h rises falls) o).0 g }) (above_within slow above fast below h rises falls) over)
      (All_imp₂ (λ l w g. let (m, o) = met slow above fast below h rises falls w in record { line = m; on_diagonal = o; smaller = (side_below (slow_over slow above fast below h rises falls) (fast-over slow above fast below h rises falls) (from_slow slow above fast below h rises falls) o).0 g }) (below_within slow above fast below h rises falls) under)

  sides_told : All (AboveDiagonal slow fast) above → All (BelowDiagonal slow fast) below → InCornerOrder (slow ∷ above ++ (fast ∷ below))
  sides_told over under =
      around slow above fast below rises falls
      (All_imp (λ l a. (side_above (slow_over slow above fast below h rises falls) (fast-over slow above fast below h rises falls) (from_slow slow above fast below h rises falls) a.on_diagonal).1 a.greater) over)
      (All_imp (λ l a. (side_below (slow_over slow above fast below h rises falls) (fast-over slow above fast below h rises falls) (from_slow slow above fast below h rises falls) a.on_diagonal).1 a.smaller) under)

pub corner_order-iff : {ls : List Line} → All Positive ls → InCornerOrder ls ↔ ByDiagonal ls
corner_order-iff h = (λ o. to o h, λ o. from o h)
  where
    to : {ls : List Line} → InCornerOrder ls → All Positive ls → ByDiagonal ls
    to (single l) h = one_line l
    to (around slow above fast below rises falls over under) h = sides_apart slow above fast below h rises falls over under

    from : {ls : List Line} → ByDiagonal ls → All Positive ls → InCornerOrder ls
    from (one_line l) h = single l
    from (two_sides slow above fast below rises falls over under) h = sides_told slow above fast below h rises falls over under
