-- `report_text::trace_text::put_segments` meets its contract. The invariant is `Told`: the lines of the first j rows are put. Assumes nothing.
use Prim.Native.Nat.{◌+◌}
use mathlib.Core.Path.{◌≡◌, ap, ◌∙◌, subst}
use native.Mathlib.Omega.{arith}
use Rattle.definitions.specs.Report.{segment_line}
use Rattle.text.specs.Put.{Put}
use Rattle.values.specs.Meanings.{segment_of}
use Rattle.values.specs.Rows.{segment_from}
use Rattle.drift.specs.Columns.{Columns, columns, row_at}
use Rattle.report_text.specs.RowLaws.{told_none, told_next}
use Rattle.report_text.proofs.trace_text.put_segments.Goals.{Start}
use Rattle.report_text.proofs.trace_text.put_segments.Goals as goal

-- the slices' contents

abbrev cells : Start → Columns
cells s =
    let a = s.args in
    columns a.first_times.now a.last_times.now a.counts.now a.slow_ps.now a.slow_qs.now a.slow_ds.now a.fast_ps.now a.fast_qs.now a.fast_ds.now a.somes.now a.alls.now

pub loop-j-init : goal.loop-j-init
loop-j-init c = let s = (goal.at.loop-j-init c).Start in told_none c.args.from c.args.rows c.args.text.now (cells s) c.requires

pub loop-j-preserved : goal.loop-j-preserved
loop-j-preserved c =
    let s = (goal.at.loop-j-preserved c).Start in
    let k = c.loop-j in
    let put = c.put_segment-at in
    let row : segment_of c.from.result ≡ segment_from (row_at (cells s) k.j) = c.from.ensures ∙ ap segment_from c.row_at-row.ensures in
    let line = subst (λ r. Put k.at (segment_line (k.j + 1) r) k.text put.result put.new.text) row put.ensures.0 in
    told_next c.args.from c.args.rows c.args.text.now (cells s) c.requires k.j k.at put.result k.text put.new.text (omega arith) k.invariant line put.ensures.1
