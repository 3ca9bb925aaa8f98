-- `report_text::report` meets its contract: 8 for a text that is too short; else what Read answers is told. Assumes nothing.
use Rattle.std.proofs.Common.{sym, ap, ◌∙◌, subst}
use Rattle.definitions.specs.Answers.{refused}
use lib.IntN.{pos}
use lib.ListN.{replicate}
use lib.Seq.{length-take-le}
use Rattle.trace.specs.Promises.{ReadPromise}
use Rattle.text.specs.Put.{Put}
use Rattle.report_text.specs.ReadTraces.{report-refused}
use Rattle.report_text.specs.ReportPromiseLaws.{promise_short, promise_put, trace_read, file_refused, told_is, zero_room}
use Rattle.report_text.proofs.report.Goals.{After-read-answer}
use Rattle.report_text.proofs.report.Goals as goal

-- what Read gave
promise : (c : After-read-answer) → let l = c.read-answer.new in ReadPromise c.args.file.now (replicate 4096 0) (replicate 4096 (pos 0)) (replicate 4096 (pos 0)) l.times l.lows l.highs c.read-answer.result
promise c = c.read-answer.ensures

-- ---- the goals

pub returns-then-text-lt-REPORT_ROOM : goal.returns-then-text-lt-REPORT_ROOM
returns-then-text-lt-REPORT_ROOM c = promise_short c.args.file.now c.args.text.now c.if-text-lt-REPORT_ROOM.true

pub slice_bounds-times-end : goal.slice_bounds-times-end
slice_bounds-times-end c = (trace_read (promise (goal.at.slice_bounds-times-end c).After-read-answer) zero_room c.in-Ok.is).inside.times_in

pub slice_bounds-put_trace-end : goal.slice_bounds-put_trace-end
slice_bounds-put_trace-end c = sym (length-take-le c.in-Ok.known.ranges c.read-answer.new.times (trace_read (promise (goal.at.slice_bounds-put_trace-end c).After-read-answer) zero_room c.in-Ok.is).inside.times_in)

pub slice_bounds-lows-end : goal.slice_bounds-lows-end
slice_bounds-lows-end c = (trace_read (promise (goal.at.slice_bounds-lows-end c).After-read-answer) zero_room c.in-Ok.is).inside.lows_in

pub slice_bounds-put_trace-end-in-Ok : goal.slice_bounds-put_trace-end-in-Ok
slice_bounds-put_trace-end-in-Ok c = sym (length-take-le c.in-Ok.known.ranges c.read-answer.new.lows (trace_read (promise (goal.at.slice_bounds-put_trace-end-in-Ok c).After-read-answer) zero_room c.in-Ok.is).inside.lows_in)

pub slice_bounds-highs-end : goal.slice_bounds-highs-end
slice_bounds-highs-end c = (trace_read (promise (goal.at.slice_bounds-highs-end c).After-read-answer) zero_room c.in-Ok.is).inside.highs_in

pub slice_bounds-put_trace-end-in-Ok-2 : goal.slice_bounds-put_trace-end-in-Ok-2
slice_bounds-put_trace-end-in-Ok-2 c = sym (length-take-le c.in-Ok.known.ranges c.read-answer.new.highs (trace_read (promise (goal.at.slice_bounds-put_trace-end-in-Ok-2 c).After-read-answer) zero_room c.in-Ok.is).inside.highs_in)

pub returns-in-Err : goal.returns-in-Err
returns-in-Err c =
    let file = c.args.file.now in
    let refuses = file_refused (promise (goal.at.returns-in-Err c).After-read-answer) zero_room c.in-Err.is in
    promise_put file c.args.text.now c.put_refused.new.text c.put_refused.result c.if-text-lt-REPORT_ROOM.false
    (subst (λ bs. Put 0 bs c.args.text.now c.put_refused.result c.put_refused.new.text) (report-refused file c.from.result (refuses ∙ ap refused (sym c.from.ensures))) c.put_refused.ensures)

pub returns-in-Ok : goal.returns-in-Ok
returns-in-Ok c =
    let file = c.args.file.now in
    let given = promise (goal.at.returns-in-Ok c).After-read-answer in
    promise_put file c.args.text.now c.put_trace.new.text c.put_trace.result c.if-text-lt-REPORT_ROOM.false
    (subst (λ bs. Put 0 bs c.args.text.now c.put_trace.result c.put_trace.new.text) (told_is given zero_room (trace_read given zero_room c.in-Ok.is)) c.put_trace.ensures)
