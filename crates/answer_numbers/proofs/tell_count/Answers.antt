-- Proof of `answer_numbers::tell_count`, case by case. Assumes nothing.
use Rattle.std.proofs.Common.{ap}
use Rattle.definitions.specs.Refusals.{answered}
use Rattle.answer_numbers.specs.ToldLaws.{counts-accepted, counts-refused}
use Rattle.answer_numbers.proofs.tell_count.Goals as goal

pub returns-in-Ok : goal.returns-in-Ok
returns-in-Ok c = counts-accepted (ap answered c.in-Ok.is) (λ n. n) c.args.count.now

pub returns-in-Err : goal.returns-in-Err
returns-in-Err c = rw c.from.ensures (counts-refused (ap answered c.in-Err.is) (λ n. n) c.args.count.now)
