-- `arithmetic_examples::elapsed` meets its contract: the casts lose nothing, and the difference is below 2^32. Assumes nothing.
use Rattle.integers.specs.Quotes.{quotes}
use Rattle.integers.specs.Bounds.{unsigned-between}
use Rattle.integers.specs.Machine.{◌◂◌, end, no_overflow!, machine_value!, reads}
use Rattle.arithmetic_examples.proofs.elapsed.Goals as goal

pub overflow_sub-result : goal.overflow_sub-result
overflow_sub-result c = no_overflow! (unsigned-between c.ranges.t ◂ unsigned-between c.ranges.s ◂ end) (search reads depth 30) tt

pub returns : goal.returns
returns c = machine_value! (unsigned-between c.ranges.t ◂ unsigned-between c.ranges.s ◂ end) (search reads depth 30) (search quotes depth 30) tt
