-- The report: its text, byte by byte.
--
--     ascii                  the bytes of a text
--     decimal, signed_decimal a number in decimal, without leading zeros; a minus sign stands before a number below 0
--     trace_line              the first line: address, level, number of ranges and number of segments
--     segment_line            a segment's line: its place from 1, its times, number of ranges and outlook
--     refused_line            the one line of a file that is turned down
--     report_text, report     the report of what Read gives, and of a file
--     report_call             the report into a slice of a given length
--
-- A slice for a report has room for 2,049 lines, one for the trace and one for each segment, of 256 bytes each.
-- Assumes nothing.
use Rattle.std.specs.Prelude.{ℕ, zero, suc, ◌+◌, ◌/◌, ◌%◌, cond, List, [], ◌∷◌, ◌++◌, ltb, length, ℤ, pos, negsuc}
use Prim.Native.Char.{code}
use Prim.Native.String.{String, [] as end, ◌∷◌ as ◌then◌}
use Rattle.definitions.specs.Times.{Time, none, at}
use Rattle.definitions.specs.Lines.{Line}
use Rattle.definitions.specs.Outlook.{Outlook, open_strip, lines}
use Rattle.definitions.specs.Results.{Segment, segments_of}
use Rattle.definitions.specs.Answers.{Answer, refused, accepted, ◌>>=◌, ◌if◌, firstRow}
use Rattle.definitions.specs.Trial.{too_short}
use Rattle.definitions.specs.TraceFile.{Trace, read_file}

abbrev pub ascii : String → List ℕ
ascii end = []
ascii (c then s) = code c ∷ ascii s

-- ---- numbers

-- with at most so many digits
unfoldable pub digits_within : ℕ → ℕ → List ℕ
digits_within zero n = []
digits_within (suc k) n = cond (ltb n 10) ((48 + n) ∷ []) (digits_within k (n / 10) ++ ((48 + n % 10) ∷ []))

-- n has at most n + 1 digits
unfoldable pub decimal : ℕ → List ℕ
decimal n = digits_within (suc n) n

unfoldable pub signed_decimal : ℤ → List ℕ
signed_decimal (pos n) = decimal n
signed_decimal (negsuc n) = ascii "-" ++ decimal (suc n)

-- ---- lines

-- a word, and what it tells
abbrev pub labelled : String → List ℕ → List ℕ
labelled word text = ascii word ++ text

unfoldable pub time_text : Time → List ℕ
time_text none = ascii "none"
time_text (at t) = decimal t

unfoldable pub line_text : String → Line → List ℕ
line_text word l = labelled word (signed_decimal l.p) ++ labelled " " (signed_decimal l.q) ++ labelled " " (signed_decimal l.d)

unfoldable pub outlook_text : Outlook → List ℕ
outlook_text open_strip = ascii " open"
outlook_text (lines slow fast first every) = line_text " slow " slow ++ line_text " fast " fast ++ labelled " some " (time_text first) ++ labelled " all " (time_text every)

unfoldable pub span_text : ℕ → ℕ → ℕ → ℕ → List ℕ
span_text place first last count = labelled "segment " (decimal place) ++ labelled " from " (decimal first) ++ labelled " to " (decimal last) ++ labelled " ranges " (decimal count)

unfoldable pub segment_line : ℕ → Segment → List ℕ
segment_line place s = span_text place s.first_time s.last_time s.count ++ outlook_text s.outlook ++ ascii "\n"

-- the lines of segments whose first has this place
unfoldable pub segment_lines : ℕ → List Segment → List ℕ
segment_lines place [] = []
segment_lines place (s ∷ ss) = segment_line place s ++ segment_lines (suc place) ss

unfoldable pub trace_line : ℕ → ℤ → ℕ → ℕ → List ℕ
trace_line address level ranges segments = labelled "detector " (decimal address) ++ labelled " level " (signed_decimal level) ++ labelled " ranges " (decimal ranges) ++ labelled " segments " (decimal segments) ++ ascii "\n"

unfoldable pub refused_line : ℕ → List ℕ
refused_line n = labelled "refused " (decimal n) ++ ascii "\n"

-- ---- the whole

unfoldable pub trace_text : Trace → List Segment → List ℕ
trace_text t ss = trace_line t.head.address t.head.service.level (length t.ranges) (length ss) ++ segment_lines 1 ss

unfoldable pub report_text : Answer Trace → List ℕ
report_text (refused n) = refused_line n
report_text (accepted t) = trace_text t (segments_of t.head.service t.ranges)

unfoldable pub report : List ℕ → List ℕ
report file = report_text (read_file file)

abbrev pub report_room : ℕ
report_room = 524544

unfoldable pub report_call : List ℕ → List ℕ → Answer (List ℕ)
report_call lengths file = firstRow (8 if too_short report_room lengths ∷ []) >>= λ ok. accepted (report file)
