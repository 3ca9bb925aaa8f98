-- Proof of `answer_numbers::tell_latest`, case by case. Assumes nothing.
use Rattle.std.proofs.Common.{ap}
use Rattle.definitions.specs.Results.{OutlookNumbers}
use Rattle.latest.specs.LatestPromise.{latest_meaning}
use Rattle.answer_numbers.specs.Told.{eight}
use Rattle.answer_numbers.specs.ToldLaws.{latest-accepted, latest-refused}
use Rattle.answer_numbers.proofs.tell_latest.Goals.{Start}
use Rattle.answer_numbers.proofs.tell_latest.Goals as goal

abbrev lent : Start → OutlookNumbers
lent c = eight c.args.slow_p.now c.args.slow_q.now c.args.slow_d.now c.args.fast_p.now c.args.fast_q.now c.args.fast_d.now c.args.some.now c.args.all.now

pub returns-in-Ok : goal.returns-in-Ok
unfolding latest_meaning
returns-in-Ok c =
    let start = (goal.at.returns-in-Ok c).Start in
    latest-accepted (ap latest_meaning c.in-Ok.is) c.args.ranges.now (lent start) c.args.corners.now c.tell_outlook.ensures

pub returns-in-Err : goal.returns-in-Err
unfolding latest_meaning
returns-in-Err c =
    let start = (goal.at.returns-in-Err c).Start in
    rw c.from.ensures (latest-refused (ap latest_meaning c.in-Err.is) c.args.ranges.now (lent start) c.args.corners.now)
