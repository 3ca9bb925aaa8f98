-- `report_text::report_lines::put_segment` meets its contract: the span, the outlook and the line feed. Assumes nothing.
-- ---- the pieces
use Prim.Native.Nat.{ℕ}
use mathlib.Core.List.{List, ◌++◌}
use native.Mathlib.Omega.{arith}
use Rattle.definitions.specs.Report.{span_text, outlook_text, segment_line}
use Rattle.text.specs.Put.{Put}
use Rattle.text.specs.PutLaws.{put_then}
use Rattle.values.specs.Meanings.{outlook_of, segment_of}
use Rattle.report_text.proofs.report_lines.put_segment.Goals.{After-put_outlook-next, After-put_word, Start}
use Rattle.report_text.proofs.report_lines.put_segment.Goals as goal

abbrev span : Start → List ℕ
span s = let z = s.args.s in span_text s.args.place z.first_time z.last_time z.count

abbrev outlook : Start → List ℕ
outlook s = outlook_text (outlook_of s.args.s.outlook)

-- ---- what is put so far

two : (c : After-put_outlook-next) → let s = (goal.at.After-put_outlook-next c).Start in Put c.args.at (span s ++ outlook s) c.args.text.now c.put_outlook-next.result c.put_outlook-next.new.text
two c = put_then c.put_span-next.ensures.0 c.put_outlook-next.ensures.0

whole : (c : After-put_word) → Put c.args.at (segment_line c.args.place (segment_of c.args.s)) c.args.text.now c.put_word.result c.put_word.new.text
unfolding segment_line segment_of
whole c = put_then (two (goal.at.After-put_word c).After-put_outlook-next) c.put_word.ensures

-- ---- the goals

pub returns : goal.returns
returns c = (whole (goal.at.returns c).After-put_word, omega (arith, c.put_span-next.ensures.1, c.put_outlook-next.ensures.1, c.put_word.ensures.next_is))
