-- `arithmetic_examples::value_of` meets its contract: an i64 holds every i32. Assumes nothing.
use Rattle.integers.specs.Quotes.{quotes}
use Rattle.integers.specs.Machine.{◌▸◌, end, no_overflow!, machine_value!, reads}
use Rattle.arithmetic_examples.proofs.value_of.Goals as goal

pub overflow_cast-result : goal.overflow_cast-result
overflow_cast-result c = no_overflow! (c.ranges.u ▸ end) (search reads depth 30) tt

pub returns : goal.returns
returns c = machine_value! (c.ranges.u ▸ end) (search reads depth 30) (search quotes depth 30) tt
