-- The segment running after the first k ranges, where no row of Corners holds: on the way to the front pages `CornerTheorems` and `Mirror`.
--
--     segment_front      the segment is the front, up to range k, of the whole trace's segment that has range k
--     running_ordered, running_short, running_good   its times rise, it has at most k ranges, at least one, and some line fits it
--
-- Assumes nothing.
use Rattle.std.specs.Prelude.{◌≡◌, false, ℕ, ◌≤◌, length, take, drop}
use Rattle.std.proofs.Common.{sym, ap, subst, arith, length-append, take-append-drop}
use mathlib.Core.List.{List, ◌++◌, flatten, drop_last}
use Rattle.std.proofs.Math.Seq.{length-take-le}
use Rattle.definitions.specs.Spans.{most_ranges, corner_room}
use Rattle.definitions.specs.Ranges.{Range, Lists, ranges_of}
use Rattle.definitions.specs.Lines.{has_line}
use Rattle.definitions.specs.Fit.{HasLine, Ordered}
use Rattle.definitions.specs.Splits.{GoodRun}
use Rattle.definitions.specs.Segments.{segments, running_after}
use Rattle.definitions.specs.Answers.{accepted, firstRow}
use Rattle.definitions.specs.Trial.{too_short, corner_rows}
use Rattle.trial_laws.specs.RangeLists.{ranges_length}
use Rattle.trial_laws.specs.Accepted.{AcceptedLists}
use Rattle.trial_laws.proofs.Accepted.{corner_accepted}
use Rattle.splits.specs.Runs.{FrontOf}
use Rattle.splits.specs.Cutting.{cut_ends}
use Rattle.splits.specs.OrderedRanges.{ordered-left, ordered-right}
use Rattle.splits.specs.Segments.{running-front}
use Rattle.lines.specs.Theorems.{running_has_line}

module _ (ns : List ℕ) (k : ℕ) (ls : Lists) (passed : firstRow (corner_rows ns k ls) ≡ accepted tt) where
  abbrev running : List Range
  running = running_after k (ranges_of ls)

  proper : (too_short corner_room ns ≡ false) × (1 ≤ k) × (k ≤ length ls.times) × AcceptedLists ls × (length ls.times ≤ most_ranges)
  proper = (corner_accepted ns k ls).0 passed

  order : Ordered (ranges_of ls)
  order = proper.3.ranges.ordered

  within : k ≤ length (ranges_of ls)
  within = omega (arith, proper.2, ranges_length ls proper.3.same)

  pub segment_front : FrontOf k (segments (ranges_of ls)) running
  segment_front = running-front k (ranges_of ls) (omega (arith, proper.1)) within

  -- the segment running then ends the first k ranges
  ends : flatten (drop_last (segments (take k (ranges_of ls)))) ++ running ≡ take k (ranges_of ls)
  unfolding running_after segments
  ends = cut_ends has_line (take k (ranges_of ls)) (omega (arith, length-take-le k (ranges_of ls) within, proper.1))

  pub running_ordered : Ordered running
  running_ordered =
      ordered-right (flatten (drop_last (segments (take k (ranges_of ls))))) running
      (subst Ordered (sym ends) (ordered-left (take k (ranges_of ls)) (drop k (ranges_of ls)) (subst Ordered (sym (take-append-drop k (ranges_of ls))) order)))

  pub running_short : length running ≤ k
  running_short = omega (arith, length-append (flatten (drop_last (segments (take k (ranges_of ls))))) running, ap length ends, length-take-le k (ranges_of ls) within)

  pub running_good : GoodRun HasLine running
  running_good = running_has_line (ranges_of ls) order k (omega (arith, proper.1)) within
