-- `report_text::trace_text::put_segments` meets its contract. The invariant is `Told`: the lines of the first j rows are put. Assumes nothing.
use Rattle.drift.specs.Columns.{columns}
use Rattle.report_text.specs.RowLaws.{Told}
use Rattle.report_text.proofs.trace_text.put_segments.Given as goal

abbrev pub invariant-loop-j : goal.invariant-loop-j
invariant-loop-j l =
    Told l.from (columns l.first_times l.last_times l.counts l.slow_ps l.slow_qs l.slow_ds l.fast_ps l.fast_qs l.fast_ds l.somes l.alls) l.rows l.initial.text l.j l.at l.text
