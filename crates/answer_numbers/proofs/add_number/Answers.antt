-- Proof of `answer_numbers::add_number`, case by case. Assumes nothing.
use Rattle.std.proofs.Common.{ap}
use Rattle.definitions.specs.Refusals.{answered}
use Rattle.answer_numbers.specs.ToldLaws.{number-accepted, number-refused}
use Rattle.answer_numbers.proofs.add_number.Goals as goal

pub returns-in-Ok : goal.returns-in-Ok
returns-in-Ok c = number-accepted (ap answered c.in-Ok.is)

pub returns-in-Err : goal.returns-in-Err
returns-in-Err c = rw c.from.ensures (number-refused (ap answered c.in-Err.is))
