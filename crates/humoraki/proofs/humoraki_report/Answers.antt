-- `humoraki::humoraki_report` meets its contract: the call below fills the text, and its answer is told as numbers. Assumes nothing.
use Rattle.report_text.specs.ReportPromise.{report_meaning}
use Rattle.humoraki.specs.Promises.{ReportLent}
use Rattle.humoraki.specs.PromiseLaws.{after-report}
use Rattle.humoraki.proofs.humoraki_report.Goals.{After-report-reported, After-tell_count, Start}
use Rattle.humoraki.proofs.humoraki_report.Goals as goal

abbrev called : After-tell_count → After-report-reported
called c = (goal.at.After-tell_count c).After-report-reported

abbrev entry : After-report-reported → Start
entry c = (goal.at.After-report-reported c).Start

abbrev lent : Start → ReportLent
lent c = record { text = c.args.text.now; count = c.args.count.now }

pub returns : goal.returns
unfolding report_meaning
returns c =
    let start = entry (called c) in
    after-report start.args.file.now (lent start) (record { text = (called c).report-reported.new.text; count = c.tell_count.new.count }) (called c).report-reported.ensures c.tell_count.ensures
