-- Proof of `answer_numbers::tell_read`, case by case. Assumes nothing.
use Rattle.std.proofs.Common.{ap, rules}
use Rattle.trace.specs.Promises.{read_meaning}
use Rattle.answer_numbers.specs.ToldLaws.{read-accepted, read-refused}
use Rattle.answer_numbers.proofs.tell_read.Goals as goal

pub returns-in-Ok : goal.returns-in-Ok
unfolding read_meaning
returns-in-Ok c =
    let args = c.args in
    read-accepted (ap read_meaning c.in-Ok.is) (search rules) args.address.now args.level.now args.direction.now args.step.now args.ranges.now

pub returns-in-Err : goal.returns-in-Err
unfolding read_meaning
returns-in-Err c =
    let args = c.args in
    rw c.from.ensures (read-refused (ap read_meaning c.in-Err.is) args.address.now args.level.now args.direction.now args.step.now args.ranges.now)
