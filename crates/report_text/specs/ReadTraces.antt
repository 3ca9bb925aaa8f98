-- A trace that was read has lists that Segment takes, so that the report of a file is the report of its lists; and how much of a file its report depends on.
--
--     report_of_lists        the report of what was read is the report of its lists
--     report-refused         the report of a file that was turned down
--     level-fits             the level that was read has 32 bits
--     report_of_front        bytes after the first 65,536 do not change the report
--
-- Assumes nothing.
use Rattle.std.specs.Prelude.{ℕ, ◌≡◌, refl, List, ◌++◌, length, take, replicate}
use Rattle.std.proofs.Common.{sym, ap, ◌∙◌, subst, arith, le-ltb, SFits}
use Rattle.std.proofs.lemmas.List.{length-map}
use Rattle.std.specs.Int.{w32}
use Rattle.integers.specs.Lists.{any}
use Rattle.definitions.specs.Spans.{most_ranges, read_room, segment_room}
use Rattle.definitions.specs.Times.{none}
use Rattle.definitions.specs.Ranges.{Range, ranges_of}
use Rattle.definitions.specs.Results.{segments_of, row_length}
use Rattle.definitions.specs.Answers.{refused, accepted, ◌>>=◌, firstRow}
use Rattle.definitions.specs.Trial.{ranges_rows, too_short, list_rows, segment_rows}
use Rattle.definitions.specs.TraceFile.{Trace, read_file}
use Rattle.definitions.specs.Calls.{read_call, segment_call}
use Rattle.definitions.specs.Report.{refused_line, trace_line, segment_lines, trace_text, report_text, report}
use Rattle.trial_laws.specs.Rows.{NoneHolds, first_row-accepted}
use Rattle.trial_laws.specs.RangeLists.{lists_of, ranges_of-lists, lists-alike}
use Rattle.trace_laws.specs.Numbers.{in_span_lem}
use Rattle.trace_laws.specs.ReadTried.{TraceTried, read-tried}
use Rattle.trace_laws.proofs.TraceLaws.{first-bytes}
use Rattle.report_text.specs.Lines.{answer_text, lists_text}

times_long : (rs : List Range) → length (lists_of rs).times ≡ length rs
unfolding lists_of
times_long rs = length-map rs (λ r. r.time)

lists-taken : (t : Trace) → TraceTried t → segment_call (replicate row_length segment_room) t.head.service (lists_of t.ranges) ≡ accepted (segments_of t.head.service t.ranges)
unfolding segment_call segment_rows list_rows too_short any ◌>>=◌
lists-taken t h =
    let rs = t.ranges in
    let back = ranges_of-lists rs in
    let few = le-ltb most_ranges (length (lists_of rs).times) (omega (arith, times_long rs, h.count_in)) in
    let rows = subst (λ l. NoneHolds (ranges_rows none l)) (sym back) h.ranges_in in
    let passed = (first_row-accepted (segment_rows (replicate row_length segment_room) t.head.service (lists_of rs))).1 (refl, (lists-alike rs, (few, (h.head_in.1.0, (h.head_in.1.1.0, (h.head_in.1.1.1.0, rows)))))) in
    ap (λ a. a >>= λ ok. accepted (segments_of t.head.service (ranges_of (lists_of rs)))) passed ∙ ap (λ l. accepted (segments_of t.head.service l)) back

pub report_of_lists : (bs : List ℕ) (t : Trace) → read_file bs ≡ accepted t → lists_text t.head.address t.head.service (lists_of t.ranges) ≡ report bs
unfolding lists_text answer_text report report_text trace_text
report_of_lists bs t e =
    ap (answer_text t.head.address t.head.service.level (length (lists_of t.ranges).times)) (lists-taken t (read-tried bs t e))
    ∙ ap (λ n. trace_line t.head.address t.head.service.level n (length (segments_of t.head.service t.ranges)) ++ segment_lines 1 (segments_of t.head.service t.ranges)) (times_long t.ranges)
    ∙ sym (ap report_text e)

pub report-refused : (bs : List ℕ) (n : ℕ) → read_file bs ≡ refused n → refused_line n ≡ report bs
unfolding report report_text
report-refused bs n e = sym (ap report_text e)

-- the level has 32 bits
pub level-fits : (bs : List ℕ) (t : Trace) → read_file bs ≡ accepted t → SFits w32 t.head.service.level
level-fits bs t e = record { sfits = in_span_lem t.head.service.level (read-tried bs t e).head_in.1.0 }

-- the report program reads no further
pub report_of_front : (file : List ℕ) → report (take 65536 file) ≡ report file
unfolding report read_call too_short any firstRow ◌>>=◌
report_of_front file = ap report_text (first-bytes (replicate 3 read_room) file)
