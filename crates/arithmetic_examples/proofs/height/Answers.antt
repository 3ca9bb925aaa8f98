-- `arithmetic_examples::height` meets its contract: two values differ by at most 2^29. Assumes nothing.
use native.Mathlib.Omega.{arith}
use Rattle.integers.specs.Machine.{◌▹◌, end, no_overflow!, machine_linear!, reads, tests}
use Rattle.arithmetic_examples.proofs.height.Goals as goal

pub overflow_sub-result : goal.overflow_sub-result
overflow_sub-result c = no_overflow! (c.requires.0 ▹ c.requires.1 ▹ end) (search reads depth 30) tt

pub returns : goal.returns
returns c = machine_linear! (c.requires.0 ▹ c.requires.1 ▹ end) c.requires.2 (search tests depth 30) tt (omega arith)
