-- `arithmetic_examples::less_steep` meets its contract: each product is below 2^61. Assumes nothing.
use native.Mathlib.Omega.{arith}
use Rattle.integers.specs.Solve.{no_facts}
use Rattle.integers.specs.Machine.{no_overflow!, machine_linear!, reads, tests}
use Rattle.arithmetic_examples.proofs.Bounded.{two-lines}
use Rattle.arithmetic_examples.proofs.less_steep.Goals as goal

pub overflow_mul-result : goal.overflow_mul-result
overflow_mul-result c = no_overflow! (two-lines c.requires) (search reads depth 40) tt

pub overflow_mul-result-2 : goal.overflow_mul-result-2
overflow_mul-result-2 c = no_overflow! (two-lines c.requires) (search reads depth 40) tt

pub returns : goal.returns
returns c = machine_linear! (two-lines c.requires) no_facts (search tests depth 40) tt (omega arith)
