-- `report_text::report_lines::put_refused` meets its contract: the word with the number, then the line feed. Assumes nothing.
use Prim.Native.Nat.{ℕ}
use mathlib.Core.List.{List, ◌++◌}
use native.Mathlib.Omega.{arith}
use Rattle.definitions.specs.Report.{ascii, labelled, decimal, refused_line}
use Rattle.text.specs.Put.{Room, Put}
use Rattle.text.specs.PutLaws.{put_then, room-front, room_then}
use Rattle.report_text.specs.Short.{refused-short}
use Rattle.report_text.proofs.report_lines.put_refused.Goals.{After-put_word, Start}
use Rattle.report_text.proofs.report_lines.put_refused.Goals as goal

abbrev number : Start → List ℕ
number s = labelled "refused " (decimal s.args.number)

room : (s : Start) → Room s.args.at (number s ++ ascii "\n") s.args.text.now
unfolding refused_line
room s = omega (arith, s.requires, refused-short s.args.number s.ranges.number)

pub put_labelled-next-requires : goal.put_labelled-next-requires
put_labelled-next-requires c = let s = (goal.at.put_labelled-next-requires c).Start in rw c.from.ensures (room-front c.args.at (number s) (ascii "\n") c.args.text.now (room s))

pub put_word-requires : goal.put_word-requires
put_word-requires c = room_then (rw c.from.ensures at c.put_labelled-next.ensures) (ascii "\n") (room (goal.at.put_word-requires c).Start)

whole : (c : After-put_word) → Put c.args.at (refused_line c.args.number) c.args.text.now c.put_word.result c.put_word.new.text
unfolding refused_line
whole c = put_then (rw c.from.ensures at c.put_labelled-next.ensures) c.put_word.ensures

pub returns : goal.returns
returns c = whole (goal.at.returns c).After-put_word
