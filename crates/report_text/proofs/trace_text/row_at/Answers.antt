-- `report_text::trace_text::row_at` meets its contract, number by number. Assumes nothing.
use borrow.Author.Rules.{rules}
use Rattle.drift.specs.Columns.{row_at}
use Rattle.report_text.proofs.trace_text.row_at.Goals as goal

pub returns : goal.returns
unfolding row_at
returns c = search rules
