-- `arithmetic_examples::touches` meets its contract: equal words stand for equal integers. Assumes nothing.
use native.Mathlib.Omega.{arith}
use Rattle.integers.specs.Solve.{no_facts}
use Rattle.integers.specs.Machine.{no_overflow!, machine_linear!, reads, tests}
use Rattle.arithmetic_examples.proofs.Bounded.{line_at}
use Rattle.arithmetic_examples.proofs.touches.Goals as goal

pub overflow_mul-result : goal.overflow_mul-result
overflow_mul-result c = no_overflow! (line_at c.requires) (search reads depth 40) tt

pub overflow_add-result : goal.overflow_add-result
overflow_add-result c = no_overflow! (line_at c.requires) (search reads depth 40) tt

pub overflow_mul-result-2 : goal.overflow_mul-result-2
overflow_mul-result-2 c = no_overflow! (line_at c.requires) (search reads depth 40) tt

pub returns : goal.returns
returns c = machine_linear! (line_at c.requires) no_facts (search tests depth 40) tt (omega arith)
