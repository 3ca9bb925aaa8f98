-- Filling the slices of Segment, one segment a turn.
--
--     Tried              the service and the lists, where no row of the scope's table holds for them
--     StartReady         these, room for the chains of a run, and a range at which a segment is to begin
--     FillReady          the service and the lists tried, and room for all segments: what filling takes
--     NextSegment        the segment that begins at a range is the next one, and ends within the lists
--     Turn               after some turns: the first segments are stored, and the ranges from `start` on hold those that are left
--     ranges-long        there are no more ranges than times
--
-- Assumes nothing.
use Rattle.std.specs.Prelude.{ℕ, ◌+◌, ◌≤◌, ◌<◌, ◌≡◌, List, [], ◌∷◌, ℤ, length, drop}
use Rattle.std.proofs.Common.{arith}
use Rattle.definitions.specs.Spans.{most_ranges}
use Rattle.definitions.specs.Services.{Service}
use Rattle.definitions.specs.Ranges.{Lists, zip_ranges, ranges_of}
use Rattle.definitions.specs.Results.{Segment, segments_of}
use Rattle.trial_laws.specs.Accepted.{GoodService, AcceptedLists}
use Rattle.drift_laws.specs.ChainParts.{Chain, Long}
use Rattle.drift.specs.Columns.{Columns, Room, FirstStored}

pub record Tried (v : Service) (ls : Lists) : Type 0 where
  pub good : GoodService v
  pub lists_accepted : AcceptedLists ls
  pub few : length ls.times ≤ most_ranges

pub record StartReady (v : Service) (ls : Lists) (up down : Chain) (start : ℕ) : Type 0 where
  pub tried : Tried v ls
  pub up_room : Long (length ls.times) up
  pub down_room : Long (length ls.times) down
  pub inside : start < length ls.times

pub record FillReady (v : Service) (ls : Lists) (cs : Columns) : Type 0 where
  pub tried : Tried v ls
  pub room : Room (length (segments_of v (ranges_of ls))) cs

pub record NextSegment (v : Service) (ls : Lists) (start : ℕ) (s : Segment) : Type 0 where
  pub next : segments_of v (drop start (ranges_of ls)) ≡ s ∷ segments_of v (drop (start + s.count) (ranges_of ls))
  pub within : start + s.count ≤ length ls.times
  pub some : 0 < s.count

pub record Turn (v : Service) (ls : Lists) (old new : Columns) (start count : ℕ) : Type 0 where
  pub within : start ≤ length ls.times
  pub left : drop count (segments_of v (ranges_of ls)) ≡ segments_of v (drop start (ranges_of ls))
  pub stored : FirstStored count (segments_of v (ranges_of ls)) old new

pub ranges-long : (ts : List ℕ) (us vs : List ℤ) → length (zip_ranges ts us vs) ≤ length ts
unfolding zip_ranges
ranges-long [] us vs = omega arith
ranges-long (t ∷ ts) [] vs = omega arith
ranges-long (t ∷ ts) (u ∷ us) [] = omega arith
ranges-long (t ∷ ts) (u ∷ us) (v ∷ vs) = let h = ranges-long ts us vs in omega arith
