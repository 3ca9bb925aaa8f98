-- `arithmetic_examples::time_of` meets its contract: an i64 holds every u32. Assumes nothing.
use Rattle.integers.specs.Quotes.{quotes}
use Rattle.integers.specs.Bounds.{unsigned-between}
use Rattle.integers.specs.Machine.{◌◂◌, end, machine_value!, reads}
use Rattle.arithmetic_examples.proofs.time_of.Goals as goal

pub returns : goal.returns
returns c = machine_value! (unsigned-between c.ranges.t ◂ end) (search reads depth 30) (search quotes depth 30) tt
