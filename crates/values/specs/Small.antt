-- The bounds of a line through two ends of ranges, within which i64 holds every number that the code makes of it.
--
--     most_slope, most_intercept     |p| ≤ 2^29 and |q| ≤ 2^61, as p is a difference of two values, and q one of two products of a value and a time
--     Bounded l        l is within them, and d is within the greatest time
--     Small l          l is within them, and d is above 0
--     Reduced l r      r is l in lowest terms, and within them as l is
--
-- A line that code makes of two ends is bounded whatever their order; that its d is above 0 is known once it is a line of the fit.
-- Assumes nothing.
use Rattle.std.specs.Prelude.{◌≡◌, ℕ, pos, ◌<ℤ◌}
use Rattle.integers.specs.Bounds.{Within}
use Rattle.definitions.specs.Spans.{most_time}
use Rattle.definitions.specs.Corners.{reduced}
use Rattle.values.specs.declared.Line.{Line}
use Rattle.values.specs.Meanings.{line_of}

abbrev pub most_slope : ℕ
most_slope = 536870912

abbrev pub most_intercept : ℕ
most_intercept = 2305843009213693952

pub record Bounded (l : Line) : Type 0 where
  pub p_in : Within most_slope l.p
  pub q_in : Within most_intercept l.q
  pub d_in : Within most_time l.d

pub record Small (l : Line) : Type 0 where
  pub bounds : Bounded l
  pub d_above_0 : pos 0 <ℤ l.d

pub record Reduced (l r : Line) : Type 0 where
  pub is : line_of r ≡ reduced (line_of l)
  pub small : Small r
