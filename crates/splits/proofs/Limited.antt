-- Laws that rest on those of specs/Limited.antt.
--
--     limited_segments_fewest  an example: no split into runs with a line and of at most so many ranges has fewer runs than the greedy one
--
-- Assumes nothing.
use Rattle.std.specs.Prelude.{List, ℕ, ◌≤◌, ◌<◌, length}
use Rattle.definitions.specs.Ranges.{Range}
use Rattle.definitions.specs.Lines.{has_line}
use Rattle.definitions.specs.Fit.{HasLine, Ordered}
use Rattle.definitions.specs.Splits.{cut, Split}
use Rattle.splits.specs.Greedy.{Decides}
use Rattle.splits.proofs.Greedy.{cut_fewest}
use Rattle.splits.specs.Limited.{Limited, limited, limited_decides}

module _ (decides : Decides Ordered HasLine has_line) (most : ℕ) (some : 0 < most) where
  pub limited_segments_fewest : (rs : List Range) (runs : List (List Range)) → Ordered rs → Split (Limited most HasLine) rs runs → length (cut (limited most has_line) rs) ≤ length runs
  limited_segments_fewest = cut_fewest (limited_decides decides most some)
