-- `report_text::trace_text::put_trace` meets its contract: Segment's refusal is told, or the heading and a line for each segment. Assumes nothing.
use Rattle.definitions.specs.declared.refusals.Refusal.{Refusal}
use Rattle.std.proofs.Common.{ℕ, Result, sym, ap, ◌∙◌, subst}
use native.Mathlib.Omega.{arith}
use lib.ListN.{length}
use mir.Syntax.{w32}
use mir.Facts.{to_z-of_z}
use Rattle.definitions.specs.Services.{Service}
use Rattle.definitions.specs.Ranges.{Lists}
use Rattle.definitions.specs.Report.{trace_line, refused_line}
use Rattle.definitions.specs.Spans.{segment_room}
use Rattle.drift.specs.Columns.{Columns, columns, zero_columns, zero-lengths}
use Rattle.drift.specs.SegmentPromise.{SegmentPromise}
use Rattle.text.specs.Put.{Put}
use Rattle.text.specs.PutLaws.{put_length, put_then}
use Rattle.drift.specs.GivenColumns.{rows_room}
use Rattle.report_text.specs.SegmentText.{few_given, text_accepted, text-refused}
use Rattle.report_text.proofs.trace_text.put_trace.Goals.{After-put_heading-next, After-segment-answer, Start}
use Rattle.report_text.proofs.trace_text.put_trace.Goals as goal

-- ---- Segment's call

abbrev service : Start → Service
service s = record { level = s.args.level; direction = s.args.direction; step = s.args.step }

abbrev lists : Start → Lists
lists s = record { times = s.args.times.now; lows = s.args.lows.now; highs = s.args.highs.now }

-- the slices after it
abbrev new : After-segment-answer → Columns
new c = let l = c.segment-answer.new in columns l.first_times l.last_times l.counts l.slow_ps l.slow_qs l.slow_ds l.fast_ps l.fast_qs l.fast_ds l.somes l.alls

abbrev Promise : After-segment-answer → Result ℕ Refusal → Type 0
Promise c a = let s = (goal.at.After-segment-answer c).Start in SegmentPromise (service s) (lists s) (zero_columns segment_room) (new c) a

promise : (c : After-segment-answer) → Promise c c.segment-answer.result
promise c =
    let s = (goal.at.After-segment-answer c).Start in
    subst (λ z. SegmentPromise (record { level = z; direction = c.args.direction; step = c.args.step }) (lists s) (zero_columns segment_room) (new c) c.segment-answer.result) (to_z-of_z {w = w32} c.ranges.level) c.segment-answer.ensures

-- the heading, of the level itself
heading-put : (c : After-put_heading-next) → Put 0 (trace_line c.args.address c.args.level (length c.args.times.now) c.in-Ok.rows) c.args.text.now c.put_heading-next.result c.put_heading-next.new.text
heading-put c =
    subst (λ z. Put 0 (trace_line c.args.address z (length c.args.times.now) c.in-Ok.rows) c.args.text.now c.put_heading-next.result c.put_heading-next.new.text) (to_z-of_z {w = w32} c.ranges.level) c.put_heading-next.ensures.0

-- ---- the goals

pub put_segments-requires : goal.put_segments-requires
put_segments-requires c =
    let heading = (goal.at.put_segments-requires c).After-put_heading-next in
    let segment = (goal.at.put_segments-requires c).After-segment-answer in
    let accepts = subst (Promise segment) c.in-Ok.is (promise segment) in
    let few = few_given accepts in
    record { few = few; rows_in = rows_room accepts; room = omega (arith, few, c.requires, c.put_heading-next.ensures.1, put_length (heading-put heading)) }

pub returns-in-Err : goal.returns-in-Err
returns-in-Err c =
    let segment = (goal.at.returns-in-Err c).After-segment-answer in
    let refuses = subst (Promise segment) c.in-Err.is (promise segment) in
    subst (λ bs. Put 0 bs c.args.text.now c.put_refused.result c.put_refused.new.text) (ap refused_line c.from.ensures ∙ sym (text-refused refuses c.args.address (zero-lengths segment_room))) c.put_refused.ensures

pub returns-in-Ok : goal.returns-in-Ok
returns-in-Ok c =
    let heading = (goal.at.returns-in-Ok c).After-put_heading-next in
    let segment = (goal.at.returns-in-Ok c).After-segment-answer in
    let accepts = subst (Promise segment) c.in-Ok.is (promise segment) in
    subst (λ bs. Put 0 bs c.args.text.now c.put_segments.result c.put_segments.new.text) (sym (text_accepted accepts c.args.address (zero-lengths segment_room))) (put_then (heading-put heading) c.put_segments.ensures)
