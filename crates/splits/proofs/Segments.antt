-- Laws that rest on those of specs/Segments.antt.
--
--     segments_ahead_times             the last time of the j-th segment is at or after the last time of the j-th run of any split
--     segments_ahead                   the same by the number of ranges in the first j runs, for every j
--     segments_fewest                  every split has at least as many runs as there are segments
--     segments_back                    cutting from the end gives as many runs
--     segments_count, segments_room    with `two`: at most half as many segments as ranges, rounded up: 2,048 of 4,096
--
-- Assumes nothing.
use Rattle.std.specs.Prelude.{◌≡◌, ℕ, suc, ◌+◌, ◌*◌, ◌≤◌, ◌<◌, length, get_or}
use Rattle.std.proofs.Common.{arith}
use mathlib.Core.List.{List, [], ◌∷◌, reverse}
use Rattle.definitions.specs.Spans.{most_ranges, segment_room}
use Rattle.definitions.specs.Ranges.{Range}
use Rattle.definitions.specs.Lines.{has_line}
use Rattle.definitions.specs.Fit.{HasLine, Ordered}
use Rattle.definitions.specs.Splits.{cut, Split, end_of}
use Rattle.definitions.specs.Segments.{segments}
use Rattle.splits.specs.Greedy.{Decides}
use Rattle.splits.proofs.Greedy.{cut_ahead, cut_fewest}
use Rattle.splits.proofs.Backward.{cut_back}
use Rattle.splits.specs.OrderedRanges.{last_time_of}
use Rattle.splits.specs.RunTimes.{split_ahead_times}
use Rattle.splits.specs.Segments.{pairs, pairs-count, pairs-whole, pairs_good, segments_split}

module _ (decides : Decides Ordered HasLine has_line) where
  pub segments_ahead : (rs : List Range) (runs : List (List Range)) → Ordered rs → Split HasLine rs runs → (j : ℕ) → end_of j runs ≤ end_of j (segments rs)
  unfolding segments
  segments_ahead rs runs o s j = cut_ahead decides rs runs o s j

  pub segments_ahead_times : (rs : List Range) (runs : List (List Range)) → Ordered rs → Split HasLine rs runs
      → (j : ℕ) → j < length runs → j < length (segments rs) → last_time_of (get_or runs j []) ≤ last_time_of (get_or (segments rs) j [])
  segments_ahead_times rs runs o s j h k = split_ahead_times o s (segments_split decides rs o) j (segments_ahead rs runs o s (suc j)) h k

  pub segments_fewest : (rs : List Range) (runs : List (List Range)) → Ordered rs → Split HasLine rs runs → length (segments rs) ≤ length runs
  unfolding segments
  segments_fewest rs runs o s = cut_fewest decides rs runs o s

  pub segments_back : (rs : List Range) → Ordered rs → length (cut (λ run. has_line (reverse run)) (reverse rs)) ≡ length (segments rs)
  unfolding segments
  segments_back rs o = cut_back decides rs o

  module _ (two : (r s : Range) → Ordered (r ∷ s ∷ []) → HasLine (r ∷ s ∷ [])) where
    pub segments_count : (rs : List Range) → Ordered rs → 2 * length (segments rs) ≤ length rs + 1
    segments_count rs o = omega (arith, segments_fewest rs (pairs rs) o (record { whole = pairs-whole rs; each = pairs_good decides two rs o }), pairs-count rs)

    pub segments_room : (rs : List Range) → Ordered rs → length rs ≤ most_ranges → length (segments rs) ≤ segment_room
    segments_room rs o h = omega (arith, segments_count rs o)
