-- The front page: what the scope's definitions mean. Ranges are ordered, as those of every accepted trace are; p, q and d of a line are of any size, d above 0. A direction is the number 0 or 1 and a step is above 0, as every accepted one is.
--
-- The fit
--     has-line                   `has_line` passes exactly if some line fits each of the ranges
--     one_range_open   one range has lines of every slope, and no corner
--     no_range_open   no range has every line, and no corner
--     two-ranges                 two ranges always have a line
-- The corners of two or more ranges that have a line
--     corners_exact              a line is listed exactly if it is a corner, in lowest terms
--     corners_ordered, corners_once, corners_some, corners_count   in corner order, none twice, at least one, at most 2k for k ranges
--     corners_unique             no other list is so
--     corners_fit, corners_mean  each fits, and every line of the fit is a weighted mean of them
-- The diagonal, from a line to one of greater slope
--     diagonal_line, diagonal_only   it has a line of every slope from the one to the other, and a single one
-- The outlook of two or more ranges that have a line
--     outlook-means              its lines have the least and the greatest slope of the fit, its times are the least multiples of the step at which some and all lines of the fit have reached the level (RunOutlook)
-- The mirror image of a trace: level, lows and highs negated, lows and highs exchanged, the direction turned, the step kept
--     segments_of-mirrored        its segments have the same times and counts, *some* and *all* as those of the trace; slow is the image of fast, and fast that of slow (MirroredOutlook)
--     segments-mirrored          the segments of the image are the images of the segments (MirroredFit)
--     corners_mirrored           the corners are the same ring, negated, begun at the corner of greatest slope (MirroredCorners)
-- The segments: demand 3
--     segments_split             they are a split
--     segments_times, segments_ranges   the times given are those of the first and the last range of each, and its ranges are those from the one time to the other
--     segments_ahead             no split's j-th run ends after the j-th segment, by last times; segments_ahead_count: by the number of ranges, for every j
--     segments_fewest            every split has at least as many runs
--     segments_close             where a further range closes a segment, two ranges of it, at different times, and the further one have no line
--     segments_room              at most 2,048
--     segments_back              cutting from the end gives as many
--     running_has_line           the segment then running after k ranges is not empty and has a line
--
-- The latest run: `LatestTrend`.
-- Further laws stand in proofs/Theorems.antt.
-- Assumes nothing.
use Rattle.std.specs.Prelude.{◌≡◌, ◌↔◌, ℕ, ◌*◌, ◌<◌, ◌≤◌, T, ℤ, pos, ◌*ℤ◌, length, get_or, ◌≤ℤ◌, ◌<ℤ◌}
use mathlib.Core.List.{List, [], ◌∷◌, ◌++◌, reverse, Nodup}
use Rattle.std.proofs.Common.{arith}
use Rattle.integers.specs.Lists.{All, All_of, In, filter}
use Rattle.integers.specs.LowestTerms.{InLowestTerms}
use Rattle.definitions.specs.Services.{Service}
use Rattle.definitions.specs.Spans.{most_ranges, segment_room}
use Rattle.definitions.specs.Ranges.{Range}
use Rattle.definitions.specs.Lines.{Line, has_line}
use Rattle.definitions.specs.Corners.{corners}
use Rattle.definitions.specs.Fit.{InFit, HasLine, Ordered, SameLine, SlopeBelow, WeightedMean, Corner, InCornerOrder, single, around}
use Rattle.definitions.specs.Splits.{cut, GoodRun, Split, end_of}
use Rattle.definitions.specs.Segments.{segments, running_after}
use Rattle.definitions.specs.Results.{segment_of, segments_of}
use Rattle.splits.specs.OrderedRanges.{first_time_of, last_time_of}
use Rattle.splits.specs.RunTimes.{in_span}
use Rattle.splits.specs.Segments.{TimesOf, TwoWithout}
use Rattle.splits.specs.Segments as Splits
use Rattle.splits.proofs.Segments as SplitsAbove
use Rattle.chains.proofs.Results.{two_have_line}
use Rattle.lines.specs.LineOrder.{Positive}
use Rattle.lines.specs.HasLine.{every-slope}
use Rattle.lines.specs.OneRange as OneRange
use Rattle.lines.specs.Diagonal.{OnDiagonal, ByDiagonal}
use Rattle.lines.specs.Diagonal as Diagonal
use Rattle.lines.specs.CornerList as Listing
use Rattle.lines.specs.Polygon.{corners_of, decides, closes}

-- ---- the fit

pub has-line : (rs : List Range) → Ordered rs → T (has_line rs) ↔ HasLine rs
has-line rs o = (decides.means rs o, decides.passes rs o)

pub one_range_open : (r : Range) → Ordered (r ∷ []) → (p d : ℤ) → pos 0 <ℤ d → (q : ℤ) × InFit (r ∷ []) (record { p = p; q = q; d = d })
one_range_open r o = every-slope r o.0

pub no_range_open : (l : Line) → pos 0 <ℤ l.d → InFit [] l
no_range_open = OneRange.no_range_open

pub two-ranges : (r s : Range) → Ordered (r ∷ s ∷ []) → HasLine (r ∷ s ∷ [])
two-ranges = two_have_line

-- ---- the diagonal

module _ {j k : Line} (j-over : Positive j) (k-over : Positive k) (rises : SlopeBelow j k) where
  pub diagonal_line : (l : Line) → Positive l → (j.p *ℤ l.d) ≤ℤ (l.p *ℤ j.d) → (l.p *ℤ k.d) ≤ℤ (k.p *ℤ l.d) → (m : Line) × OnDiagonal j k l m
  diagonal_line = Diagonal.diagonal_line j-over k-over rises

  pub diagonal_only : {l m n : Line} → Positive l → OnDiagonal j k l m → OnDiagonal j k l n → SameLine m n
  diagonal_only = Diagonal.diagonal_only j-over k-over rises

-- ---- the corners

module _ (r s : Range) (ws : List Range) (o : Ordered (r ∷ s ∷ ws)) (h : HasLine (r ∷ s ∷ ws)) where
  pub corners_exact : (l : Line) → In l (corners (r ∷ s ∷ ws)) ↔ (Corner (r ∷ s ∷ ws) l × InLowestTerms l.p l.q l.d)
  corners_exact = Listing.corners_exact o (corners_of r s ws o h)

  pub corners_ordered : InCornerOrder (corners (r ∷ s ∷ ws))
  corners_ordered = Listing.corners_ordered o (corners_of r s ws o h)

  pub corners_once : Nodup (corners (r ∷ s ∷ ws))
  corners_once = Listing.corners_once o (corners_of r s ws o h)

  pub corners_some : 0 < length (corners (r ∷ s ∷ ws))
  corners_some = by corners_ordered
    where
      by : {ks : List Line} → InCornerOrder ks → 0 < length ks
      by (single l) = omega arith
      by (around slow above fast below rising falling over under) = omega arith

  pub corners_count : length (corners (r ∷ s ∷ ws)) ≤ 2 * length (r ∷ s ∷ ws)
  corners_count = Listing.corners_count o (corners_of r s ws o h)

  pub corners_unique : (ks : List Line) → InCornerOrder ks → ((l : Line) → In l ks ↔ (Corner (r ∷ s ∷ ws) l × InLowestTerms l.p l.q l.d)) → ks ≡ corners (r ∷ s ∷ ws)
  corners_unique = Listing.corners_unique o (corners_of r s ws o h)

  pub corners_fit : All (InFit (r ∷ s ∷ ws)) (corners (r ∷ s ∷ ws))
  corners_fit = All_of (corners (r ∷ s ∷ ws)) (λ l i. ((corners_exact l).0 i).0.fit)

  pub corners_mean : (l : Line) → InFit (r ∷ s ∷ ws) l → WeightedMean (corners (r ∷ s ∷ ws)) l
  corners_mean = Listing.corners_mean o (corners_of r s ws o h)

-- ---- the segments

module _ (rs : List Range) (o : Ordered rs) where
  pub segments_split : Split HasLine rs (segments rs)
  segments_split = Splits.segments_split decides rs o

  pub segments_times : (v : Service) (j : ℕ) → j < length (segments rs) → TimesOf (get_or (segments rs) j []) (get_or (segments_of v rs) j (segment_of v []))
  segments_times v = Splits.segments_times decides v rs o

  pub segments_ranges : (j : ℕ) → j < length (segments rs) → filter (in_span (first_time_of (get_or (segments rs) j [])) (last_time_of (get_or (segments rs) j []))) rs ≡ get_or (segments rs) j []
  segments_ranges = Splits.segments_ranges decides rs o

  pub segments_ahead : (runs : List (List Range)) → Split HasLine rs runs → (j : ℕ) → j < length runs → j < length (segments rs) → last_time_of (get_or runs j []) ≤ last_time_of (get_or (segments rs) j [])
  segments_ahead runs = SplitsAbove.segments_ahead_times decides rs runs o

  pub segments_ahead_count : (runs : List (List Range)) → Split HasLine rs runs → (j : ℕ) → end_of j runs ≤ end_of j (segments rs)
  segments_ahead_count runs = SplitsAbove.segments_ahead decides rs runs o

  pub segments_fewest : (runs : List (List Range)) → Split HasLine rs runs → length (segments rs) ≤ length runs
  segments_fewest runs = SplitsAbove.segments_fewest decides rs runs o

  pub segments_close : (before : List (List Range)) (run : List Range) (w : Range) (more : List Range) (after : List (List Range)) → segments rs ≡ before ++ (run ∷ (w ∷ more) ∷ after) → TwoWithout run w
  segments_close before run w more after = Splits.segments_close decides closes rs before run w more after o

  pub segments_room : length rs ≤ most_ranges → length (segments rs) ≤ segment_room
  segments_room = SplitsAbove.segments_room decides two-ranges rs o

  pub segments_back : length (cut (λ run. has_line (reverse run)) (reverse rs)) ≡ length (segments rs)
  segments_back = SplitsAbove.segments_back decides rs o

  pub running_has_line : (k : ℕ) → 0 < k → k ≤ length rs → GoodRun HasLine (running_after k rs)
  running_has_line k = Splits.running_good decides k rs o
