-- What is written lies in the text. Assumes nothing.
use Rattle.std.proofs.Common.{sym}
use Rattle.std.proofs.lemmas.List.{length-take-le}
use Rattle.report_text.specs.ReportPromiseLaws.{report-inside}
use Rattle.report.proofs.print_report.Goals as goal

pub slice_bounds-text-end : goal.slice_bounds-text-end
slice_bounds-text-end c = report-inside c.in-Ok.ensures

pub slice_bounds-write_all-end : goal.slice_bounds-write_all-end
slice_bounds-write_all-end c = sym (length-take-le c.in-Ok.count c.report-answer.new.text (report-inside c.in-Ok.ensures))
