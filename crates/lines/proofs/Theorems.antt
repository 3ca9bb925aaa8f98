-- Laws that rest on those of specs/Theorems.antt.
--
--     one_range_no_corner  one range has lines of every slope, and no corner
--     no_range_no_corner  no range has every line, and no corner
--     corners_by_diagonal        the same order in the words of `Diagonal`: above the diagonal is a greater intercept than the diagonal has at the same slope, below it a smaller one
--     side_above, side_below     the determinant `side` is above 0, or below 0, exactly if a line's intercept is greater, or smaller, than that of the diagonal's line of its slope
--     corner_order-iff           so the corner order of the definitions is that of `Diagonal`
--
-- Assumes nothing.
use Rattle.std.specs.Prelude.{◌↔◌, pos, ◌*ℤ◌, ◌<ℤ◌}
use mathlib.Core.List.{List, [], ◌∷◌}
use Rattle.std.proofs.Common.{arith}
use Rattle.integers.specs.Lists.{All, All_imp}
use Rattle.definitions.specs.Ranges.{Range}
use Rattle.definitions.specs.Lines.{Line}
use Rattle.definitions.specs.Corners.{side, corners}
use Rattle.definitions.specs.Fit.{HasLine, Ordered, SlopeBelow, Corner, InCornerOrder}
use Rattle.lines.specs.LineOrder.{Positive}
use Rattle.lines.proofs.OneRange.{no_corner}
use Rattle.lines.proofs.OneRange as OneRange
use Rattle.lines.specs.Diagonal.{OnDiagonal, ByDiagonal}
use Rattle.lines.proofs.Diagonal as Diagonal
use Rattle.lines.specs.Theorems.{corners_fit, corners_ordered}

pub one_range_no_corner : (r : Range) (l : Line) → Corner (r ∷ []) l → ⊥
one_range_no_corner = no_corner

pub no_range_no_corner : (l : Line) → Corner [] l → ⊥
no_range_no_corner = OneRange.few_no_corner [] (omega arith)

module _ {j k : Line} (j-over : Positive j) (k-over : Positive k) (rises : SlopeBelow j k) where
  pub side_above : {l m : Line} → OnDiagonal j k l m → (pos 0 <ℤ side j k l) ↔ ((m.q *ℤ l.d) <ℤ (l.q *ℤ m.d))
  side_above = Diagonal.side_above j-over k-over rises

  pub side_below : {l m : Line} → OnDiagonal j k l m → (side j k l <ℤ pos 0) ↔ ((l.q *ℤ m.d) <ℤ (m.q *ℤ l.d))
  side_below = Diagonal.side_below j-over k-over rises

pub corner_order-iff : {ls : List Line} → All Positive ls → InCornerOrder ls ↔ ByDiagonal ls
corner_order-iff = Diagonal.corner_order-iff

module _ (r s : Range) (ws : List Range) (o : Ordered (r ∷ s ∷ ws)) (h : HasLine (r ∷ s ∷ ws)) where
  pub corners_by_diagonal : ByDiagonal (corners (r ∷ s ∷ ws))
  corners_by_diagonal = (corner_order-iff (All_imp (λ l f. f.positive) (corners_fit r s ws o h))).0 (corners_ordered r s ws o h)
