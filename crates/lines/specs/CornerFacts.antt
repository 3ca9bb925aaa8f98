-- What a list of lines has to satisfy for `CornerList` to prove it the corners of the fit of some ranges. Its lines may be in any terms.
--
--     CornersOf rs ls        the lines of ls are the corners of the fit of rs, in corner order
--
-- Assumes nothing.
use Rattle.std.specs.Prelude.{List, ◌*◌, ◌≤◌, length}
use Rattle.integers.specs.Lists.{All, Any, In}
use Rattle.definitions.specs.Ranges.{Range}
use Rattle.definitions.specs.Lines.{Line, candidates}
use Rattle.definitions.specs.Fit.{InFit, SameLine, WeightedMean, Corner, InCornerOrder}

pub record CornersOf (rs : List Range) (ls : List Line) : Type 0 where
  pub ordered : InCornerOrder ls
  pub listed_fit : All (InFit rs) ls
  -- each is a line through an end of a range and an end of a later one, and each of those that fits is listed
  pub listed_candidate : All (λ l. Any (SameLine l) (candidates rs)) ls
  pub candidate_listed : (l : Line) → In l (candidates rs) → InFit rs l → Any (SameLine l) ls
  -- each is a corner, and each corner is listed
  pub listed_corner : All (Corner rs) ls
  pub corner_listed : (l : Line) → Corner rs l → Any (SameLine l) ls
  pub few : length ls ≤ 2 * length rs
  pub means : (l : Line) → InFit rs l → WeightedMean ls l
