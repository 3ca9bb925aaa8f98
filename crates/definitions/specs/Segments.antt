-- Segments.
--
--     segments               the scope's segments: the first begins at the first range; each next range joins if some line fits the segment with it, and else begins a new one
--     running_after           the segment then running after the first k ranges, up to range k
--
-- Assumes nothing.
use Rattle.std.specs.Prelude.{ℕ, List, take}
use Rattle.definitions.specs.Ranges.{Range}
use Rattle.definitions.specs.Lines.{has_line}
use Rattle.definitions.specs.Splits.{cut, last_run}

unfoldable pub segments : List Range → List (List Range)
segments rs = cut has_line rs

unfoldable pub running_after : ℕ → List Range → List Range
running_after k rs = last_run (segments (take k rs))
