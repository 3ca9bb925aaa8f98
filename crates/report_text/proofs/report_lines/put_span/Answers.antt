-- `report_text::report_lines::put_span` meets its contract: four words, each with its number, one after the other. Assumes nothing.
-- ---- the four pieces
use Prim.Native.Nat.{ℕ, ◌≤◌}
use mathlib.Core.List.{List, ◌++◌}
use native.Mathlib.Omega.{arith}
use lib.ListN.{length}
use Rattle.definitions.specs.Report.{labelled, decimal, span_text}
use Rattle.text.specs.Put.{Room, Put}
use Rattle.text.specs.PutLaws.{put_then, room-front, room_then}
use Rattle.report_text.specs.Short.{span-short}
use Rattle.report_text.proofs.report_lines.put_span.Goals.{After-put_labelled, After-put_labelled-next-2, After-put_labelled-next-3, Start}
use Rattle.report_text.proofs.report_lines.put_span.Goals as goal

abbrev place : Start → List ℕ
place s = labelled "segment " (decimal s.args.place)

abbrev first : Start → List ℕ
first s = labelled " from " (decimal s.args.first)

abbrev last : Start → List ℕ
last s = labelled " to " (decimal s.args.last)

abbrev count : Start → List ℕ
count s = labelled " ranges " (decimal s.args.count)

-- ---- room for them

short : (s : Start) → length (span_text s.args.place s.args.first s.args.last s.args.count) ≤ 66
short s = span-short s.args.place s.args.first s.args.last s.args.count s.ranges.place s.ranges.first s.ranges.last s.ranges.count

room : (s : Start) → Room s.args.at (place s ++ first s ++ last s ++ count s) s.args.text.now
unfolding span_text
room s = omega (arith, s.requires, short s)

room-three : (s : Start) → Room s.args.at (place s ++ first s ++ last s) s.args.text.now
room-three s = room-front s.args.at (place s ++ first s ++ last s) (count s) s.args.text.now (room s)

room-two : (s : Start) → Room s.args.at (place s ++ first s) s.args.text.now
room-two s = room-front s.args.at (place s ++ first s) (last s) s.args.text.now (room-three s)

-- ---- what is put so far

two : (c : After-put_labelled-next-2) → let s = (goal.at.After-put_labelled-next-2 c).Start in Put c.args.at (place s ++ first s) c.args.text.now c.put_labelled-next-2.result c.put_labelled-next-2.new.text
two c = put_then (rw c.from.ensures at c.put_labelled-next.ensures) (rw c.from-2.ensures at c.put_labelled-next-2.ensures)

three : (c : After-put_labelled-next-3) → let s = (goal.at.After-put_labelled-next-3 c).Start in Put c.args.at (place s ++ first s ++ last s) c.args.text.now c.put_labelled-next-3.result c.put_labelled-next-3.new.text
three c = put_then (two (goal.at.After-put_labelled-next-3 c).After-put_labelled-next-2) (rw c.from-3.ensures at c.put_labelled-next-3.ensures)

whole : (c : After-put_labelled) → Put c.args.at (span_text c.args.place c.args.first c.args.last c.args.count) c.args.text.now c.put_labelled.result c.put_labelled.new.text
unfolding span_text
whole c = put_then (three (goal.at.After-put_labelled c).After-put_labelled-next-3) (rw c.from-4.ensures at c.put_labelled.ensures)

-- ---- the goals

pub put_labelled-next-requires : goal.put_labelled-next-requires
put_labelled-next-requires c = let s = (goal.at.put_labelled-next-requires c).Start in rw c.from.ensures (room-front c.args.at (place s) (first s) c.args.text.now (room-two s))

pub put_labelled-next-requires-2 : goal.put_labelled-next-requires-2
put_labelled-next-requires-2 c = let s = (goal.at.put_labelled-next-requires-2 c).Start in rw c.from-2.ensures (room_then (rw c.from.ensures at c.put_labelled-next.ensures) (first s) (room-two s))

pub put_labelled-next-requires-3 : goal.put_labelled-next-requires-3
put_labelled-next-requires-3 c = let s = (goal.at.put_labelled-next-requires-3 c).Start in rw c.from-3.ensures (room_then (two (goal.at.put_labelled-next-requires-3 c).After-put_labelled-next-2) (last s) (room-three s))

pub put_labelled-requires : goal.put_labelled-requires
put_labelled-requires c = let s = (goal.at.put_labelled-requires c).Start in rw c.from-4.ensures (room_then (three (goal.at.put_labelled-requires c).After-put_labelled-next-3) (count s) (room s))

pub returns : goal.returns
returns c = let done = whole (goal.at.returns c).After-put_labelled in (done, omega (arith, done.next_is, short (goal.at.returns c).Start))
