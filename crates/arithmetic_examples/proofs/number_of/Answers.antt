-- `arithmetic_examples::number_of` meets its contract: an i64 holds every number below 2^63. Assumes nothing.
use Rattle.integers.specs.Quotes.{quotes}
use Rattle.integers.specs.Bounds.{nat_below}
use Rattle.integers.specs.Machine.{◌◂◌, end, machine_value!, reads}
use Rattle.arithmetic_examples.proofs.number_of.Goals as goal

pub returns : goal.returns
returns c = machine_value! (nat_below c.requires ◂ end) (search reads depth 30) (search quotes depth 30) tt
