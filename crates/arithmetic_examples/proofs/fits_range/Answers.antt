-- `arithmetic_examples::fits_range` meets its contract: the second test is made where the first holds. Assumes nothing.
use native.Mathlib.Omega.{arith}
use Rattle.integers.specs.Machine.{no_overflow!, machine_linear!, reads, tests}
use Rattle.arithmetic_examples.proofs.Bounded.{line_in}
use Rattle.arithmetic_examples.proofs.fits_range.Goals as goal

pub overflow_mul-e : goal.overflow_mul-e
overflow_mul-e c = no_overflow! (line_in c.requires) (search reads depth 40) tt

pub overflow_add-e : goal.overflow_add-e
overflow_add-e c = no_overflow! (line_in c.requires) (search reads depth 40) tt

pub overflow_mul-l : goal.overflow_mul-l
overflow_mul-l c = no_overflow! (line_in c.requires) (search reads depth 40) tt

pub overflow_mul-result : goal.overflow_mul-result
overflow_mul-result c = no_overflow! (line_in c.requires) (search reads depth 40) tt

pub returns-then-l-low : goal.returns-then-l-low
returns-then-l-low c = machine_linear! (line_in c.requires) c.if-l-low.true (search tests depth 60) tt (omega arith)

pub returns-else-l-low : goal.returns-else-l-low
returns-else-l-low c = machine_linear! (line_in c.requires) c.if-l-low.false (search tests depth 60) tt (omega arith)
