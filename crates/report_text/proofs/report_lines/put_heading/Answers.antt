-- `report_text::report_lines::put_heading` meets its contract: four words, each with its number, and the line feed. Assumes nothing.
-- ---- the pieces
use Prim.Native.Nat.{ℕ, ◌≤◌}
use mathlib.Core.Path.{◌≡◌, ap, ◌∙◌, subst}
use mathlib.Core.List.{List, ◌++◌}
use native.Mathlib.Omega.{arith}
use lib.ListN.{length}
use mir.Syntax.{w32, w64}
use mir.Val.{SFits, to_z, of_z}
use mir.Facts.{to_z-of_z}
use Rattle.integers.specs.Machine.{◌▸◌, end, no_overflow!, reads}
use Rattle.definitions.specs.Report.{ascii, labelled, decimal, signed_decimal, trace_line}
use Rattle.text.specs.Put.{Room, Put}
use Rattle.text.specs.PutLaws.{put_then, room-front, room_then}
use Rattle.report_text.specs.Short.{heading-short}
use Rattle.report_text.proofs.report_lines.put_heading.Goals.{After-from-2, After-put_labelled-next, After-put_labelled-next-3, After-put_labelled-next-4, After-put_labelled-next-2, After-put_word, Start}
use Rattle.report_text.proofs.report_lines.put_heading.Goals as goal

abbrev address : Start → List ℕ
address s = labelled "detector " (decimal s.args.address)

abbrev level : Start → List ℕ
level s = labelled " level " (signed_decimal s.args.level)

abbrev ranges : Start → List ℕ
ranges s = labelled " ranges " (decimal s.args.ranges)

abbrev segments : Start → List ℕ
segments s = labelled " segments " (decimal s.args.segments)

-- ---- the level, from 32 bits to 64

wide : (s : Start) → SFits w64 (to_z w32 (of_z w32 s.args.level))
wide s = no_overflow! (s.ranges.level ▸ end) (search reads depth 30) tt

level_is : (c : After-from-2) → to_z w64 (of_z w64 c.from-2.result) ≡ c.args.level
level_is c = let s = (goal.at.After-from-2 c).Start in ap (λ z. to_z w64 (of_z w64 z)) c.from-2.ensures ∙ to_z-of_z (wide s) ∙ to_z-of_z s.ranges.level

-- ---- room for them

short : (s : Start) → let a = s.args in length (trace_line a.address a.level a.ranges a.segments) ≤ 256
short s =
    let a = s.args in
    heading-short a.address a.level a.ranges a.segments s.ranges.address (subst (SFits w64) (to_z-of_z s.ranges.level) (wide s)) s.ranges.ranges s.ranges.segments

room : (s : Start) → Room s.args.at (address s ++ level s ++ ranges s ++ segments s ++ ascii "\n") s.args.text.now
unfolding trace_line
room s = omega (arith, s.requires, short s)

room-four : (s : Start) → Room s.args.at (address s ++ level s ++ ranges s ++ segments s) s.args.text.now
room-four s = room-front s.args.at (address s ++ level s ++ ranges s ++ segments s) (ascii "\n") s.args.text.now (room s)

room-three : (s : Start) → Room s.args.at (address s ++ level s ++ ranges s) s.args.text.now
room-three s = room-front s.args.at (address s ++ level s ++ ranges s) (segments s) s.args.text.now (room-four s)

room-two : (s : Start) → Room s.args.at (address s ++ level s) s.args.text.now
room-two s = room-front s.args.at (address s ++ level s) (ranges s) s.args.text.now (room-three s)

-- ---- what is put so far

two : (c : After-put_labelled-next-2) → let s = (goal.at.After-put_labelled-next-2 c).Start in Put c.args.at (address s ++ level s) c.args.text.now c.put_labelled-next-2.result c.put_labelled-next-2.new.text
two c = put_then (rw c.from.ensures at c.put_labelled-next.ensures) (rw (level_is (goal.at.After-put_labelled-next-2 c).After-from-2) at c.put_labelled-next-2.ensures)

three : (c : After-put_labelled-next-3) → let s = (goal.at.After-put_labelled-next-3 c).Start in Put c.args.at (address s ++ level s ++ ranges s) c.args.text.now c.put_labelled-next-3.result c.put_labelled-next-3.new.text
three c = put_then (two (goal.at.After-put_labelled-next-3 c).After-put_labelled-next-2) c.put_labelled-next-3.ensures

four : (c : After-put_labelled-next-4) → let s = (goal.at.After-put_labelled-next-4 c).Start in Put c.args.at (address s ++ level s ++ ranges s ++ segments s) c.args.text.now c.put_labelled-next-4.result c.put_labelled-next-4.new.text
four c = put_then (three (goal.at.After-put_labelled-next-4 c).After-put_labelled-next-3) c.put_labelled-next-4.ensures

whole : (c : After-put_word) → Put c.args.at (trace_line c.args.address c.args.level c.args.ranges c.args.segments) c.args.text.now c.put_word.result c.put_word.new.text
unfolding trace_line
whole c = put_then (four (goal.at.After-put_word c).After-put_labelled-next-4) c.put_word.ensures

-- ---- the goals

pub put_labelled-next-requires : goal.put_labelled-next-requires
put_labelled-next-requires c = let s = (goal.at.put_labelled-next-requires c).Start in rw c.from.ensures (room-front c.args.at (address s) (level s) c.args.text.now (room-two s))

pub put_labelled-next-requires-2 : goal.put_labelled-next-requires-2
put_labelled-next-requires-2 c = let s = (goal.at.put_labelled-next-requires-2 c).Start in rw (level_is (goal.at.put_labelled-next-requires-2 c).After-from-2) (room_then (rw c.from.ensures at c.put_labelled-next.ensures) (level s) (room-two s))

pub put_labelled-next-requires-3 : goal.put_labelled-next-requires-3
put_labelled-next-requires-3 c = let s = (goal.at.put_labelled-next-requires-3 c).Start in room_then (two (goal.at.put_labelled-next-requires-3 c).After-put_labelled-next-2) (ranges s) (room-three s)

pub put_labelled-next-requires-4 : goal.put_labelled-next-requires-4
put_labelled-next-requires-4 c = let s = (goal.at.put_labelled-next-requires-4 c).Start in room_then (three (goal.at.put_labelled-next-requires-4 c).After-put_labelled-next-3) (segments s) (room-four s)

pub put_word-requires : goal.put_word-requires
put_word-requires c = room_then (four (goal.at.put_word-requires c).After-put_labelled-next-4) (ascii "\n") (room (goal.at.put_word-requires c).Start)

pub returns : goal.returns
returns c = let done = whole (goal.at.returns c).After-put_word in (done, omega (arith, done.next_is, short (goal.at.returns c).Start))
