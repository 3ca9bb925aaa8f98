-- `arithmetic_examples::size_of` meets its contract: a u64 holds every i64 that is not negative. Assumes nothing.
use Rattle.integers.specs.Quotes.{quotes}
use Rattle.integers.specs.Bounds.{nonneg-signed}
use Rattle.integers.specs.Machine.{◌◂◌, end, no_loss!, machine_value!, reads, casts}
use Rattle.arithmetic_examples.proofs.size_of.Goals as goal

pub overflow_cast-result : goal.overflow_cast-result
overflow_cast-result c = no_loss! (nonneg-signed c.ranges.z c.requires ◂ end) (search casts depth 30) tt

pub returns : goal.returns
returns c = machine_value! (nonneg-signed c.ranges.z c.requires ◂ end) (search reads depth 30) (search quotes depth 30) tt
