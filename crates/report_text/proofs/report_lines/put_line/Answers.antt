-- `report_text::report_lines::put_line` meets its contract: the word with p, then q and d, each after a space. Assumes nothing.
-- ---- the three pieces
use Prim.Native.Nat.{ℕ}
use mathlib.Core.List.{List, ◌++◌}
use native.Mathlib.Omega.{arith}
use mir.Facts.{to_z-of_z}
use borrow.Author.Rules.{rules}
use Rattle.definitions.specs.Report.{labelled, signed_decimal}
use Rattle.text.specs.Put.{Room, Put}
use Rattle.text.specs.PutLaws.{put_then, room-front, room_then}
use Rattle.values.specs.Meanings.{line_of}
use Rattle.report_text.specs.Lines.{line_bytes}
use Rattle.report_text.specs.Short.{LineFits, line-short}
use Rattle.report_text.proofs.report_lines.put_line.Goals.{After-put_labelled, After-put_labelled-next, After-put_labelled-next-2, Start}
use Rattle.report_text.proofs.report_lines.put_line.Goals as goal

abbrev word-p : Start → List ℕ
word-p s = s.args.word.now ++ signed_decimal s.args.l.p

abbrev then-q : Start → List ℕ
then-q s = labelled " " (signed_decimal s.args.l.q)

abbrev then-d : Start → List ℕ
then-d s = labelled " " (signed_decimal s.args.l.d)

-- ---- room for them

line-fits : (c : Start) → LineFits (line_of c.args.l)
line-fits c = record { p_fits = search rules; q_fits = search rules; d_fits = search rules }

room : (c : Start) → Room c.args.at (word-p c ++ then-q c ++ then-d c) c.args.text.now
unfolding line_bytes
room c = omega (arith, c.requires.1, line-short c.args.word.now c.requires.0 (line_of c.args.l) (line-fits c))

room-two : (c : Start) → Room c.args.at (word-p c ++ then-q c) c.args.text.now
room-two c = room-front c.args.at (word-p c ++ then-q c) (then-d c) c.args.text.now (room c)

-- ---- what is put so far

one : (c : After-put_labelled-next) → let s = (goal.at.After-put_labelled-next c).Start in Put c.args.at (word-p s) c.args.text.now c.put_labelled-next.result c.put_labelled-next.new.text
one c = rw (to_z-of_z (line-fits (goal.at.After-put_labelled-next c).Start).p_fits) at c.put_labelled-next.ensures

two : (c : After-put_labelled-next-2) → let s = (goal.at.After-put_labelled-next-2 c).Start in Put c.args.at (word-p s ++ then-q s) c.args.text.now c.put_labelled-next-2.result c.put_labelled-next-2.new.text
two c = put_then (one (goal.at.After-put_labelled-next-2 c).After-put_labelled-next) (rw (to_z-of_z (line-fits (goal.at.After-put_labelled-next-2 c).Start).q_fits) at c.put_labelled-next-2.ensures)

whole : (c : After-put_labelled) → Put c.args.at (line_bytes c.args.word.now (line_of c.args.l)) c.args.text.now c.put_labelled.result c.put_labelled.new.text
unfolding line_bytes
whole c = put_then (two (goal.at.After-put_labelled c).After-put_labelled-next-2) (rw (to_z-of_z (line-fits (goal.at.After-put_labelled c).Start).d_fits) at c.put_labelled.ensures)

-- ---- the goals

pub put_labelled-next-requires : goal.put_labelled-next-requires
put_labelled-next-requires c = let s = (goal.at.put_labelled-next-requires c).Start in rw (to_z-of_z (line-fits s).p_fits) (room-front c.args.at (word-p s) (then-q s) c.args.text.now (room-two s))

pub put_labelled-next-requires-2 : goal.put_labelled-next-requires-2
put_labelled-next-requires-2 c = let s = (goal.at.put_labelled-next-requires-2 c).Start in rw (to_z-of_z (line-fits s).q_fits) (room_then (one (goal.at.put_labelled-next-requires-2 c).After-put_labelled-next) (then-q s) (room-two s))

pub put_labelled-requires : goal.put_labelled-requires
put_labelled-requires c = let s = (goal.at.put_labelled-requires c).Start in rw (to_z-of_z (line-fits s).d_fits) (room_then (two (goal.at.put_labelled-requires c).After-put_labelled-next-2) (then-d s) (room s))

pub returns : goal.returns
returns c = let done = whole (goal.at.returns c).After-put_labelled in (done, omega (arith, done.next_is, line-short c.args.word.now c.requires.0 (line_of c.args.l) (line-fits (goal.at.returns c).Start)))
