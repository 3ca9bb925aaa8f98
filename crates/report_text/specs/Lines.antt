-- The lines of a report by what code has at hand: a line's numbers, and the slices that Segment filled.
--
--     line_bytes              a word and a line's three numbers
--     lines_from              the lines of the first n rows of the slices
--     RowsReady              the slices have the rows that are to be told, and the text has room for their lines
--     lists_text              the report of lists: of their segments, or of the number that turns them down
--
-- Assumes nothing.
use Rattle.std.specs.Prelude.{ℕ, zero, suc, ◌+◌, ◌*◌, ◌≤◌, List, [], ◌++◌, ℤ, length, replicate}
use Rattle.definitions.specs.Spans.{segment_room}
use Rattle.definitions.specs.Services.{Service}
use Rattle.definitions.specs.Ranges.{Lists}
use Rattle.definitions.specs.Lines.{Line}
use Rattle.definitions.specs.Results.{Segment, row_length}
use Rattle.definitions.specs.Answers.{Answer, refused, accepted}
use Rattle.definitions.specs.Calls.{segment_call}
use Rattle.definitions.specs.Report.{labelled, signed_decimal, refused_line, trace_line, segment_line, segment_lines}
use Rattle.values.specs.Rows.{segment_from}
use Rattle.drift.specs.Columns.{Columns, row_at, Room}

unfoldable pub line_bytes : List ℕ → Line → List ℕ
line_bytes word l = (word ++ signed_decimal l.p) ++ labelled " " (signed_decimal l.q) ++ labelled " " (signed_decimal l.d)

unfoldable pub lines_from : Columns → ℕ → List ℕ
lines_from cs zero = []
lines_from cs (suc n) = lines_from cs n ++ segment_line (suc n) (segment_from (row_at cs n))

-- a line has at most 256 bytes
pub record RowsReady (from rows : ℕ) (text : List ℕ) (cs : Columns) : Type 0 where
  pub few : rows ≤ segment_room
  pub rows_in : Room rows cs
  pub room : from + 256 * rows ≤ length text

unfoldable pub answer_text : ℕ → ℤ → ℕ → Answer (List Segment) → List ℕ
answer_text address level ranges (refused n) = refused_line n
answer_text address level ranges (accepted ss) = trace_line address level ranges (length ss) ++ segment_lines 1 ss

unfoldable pub lists_text : ℕ → Service → Lists → List ℕ
lists_text address v ls = answer_text address v.level (length ls.times) (segment_call (replicate row_length segment_room) v ls)
