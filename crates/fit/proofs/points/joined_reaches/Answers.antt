-- `fit::points::joined_reaches` meets its contract: differences of values are within 2^29 and of times below 2^33, so a product is below 2^63. Assumes nothing.
use native.Mathlib.Omega.{arith}
use Rattle.integers.specs.Solve.{no_facts}
use Rattle.integers.specs.Machine.{no_overflow!, machine_polynomial!, reads, tests}
use Rattle.fit.specs.LinesOfEnds.{three-env}
use Rattle.fit.proofs.points.joined_reaches.Goals as goal

pub overflow_sub-result : goal.overflow_sub-result
overflow_sub-result c = no_overflow! (three-env c.requires) (search reads depth 40) tt

pub overflow_sub-result-2 : goal.overflow_sub-result-2
overflow_sub-result-2 c = no_overflow! (three-env c.requires) (search reads depth 40) tt

pub overflow_mul-result : goal.overflow_mul-result
overflow_mul-result c = no_overflow! (three-env c.requires) (search reads depth 40) tt

pub overflow_sub-result-3 : goal.overflow_sub-result-3
overflow_sub-result-3 c = no_overflow! (three-env c.requires) (search reads depth 40) tt

pub overflow_sub-result-4 : goal.overflow_sub-result-4
overflow_sub-result-4 c = no_overflow! (three-env c.requires) (search reads depth 40) tt

pub overflow_mul-result-2 : goal.overflow_mul-result-2
overflow_mul-result-2 c = no_overflow! (three-env c.requires) (search reads depth 40) tt

pub returns : goal.returns
returns c = machine_polynomial! (three-env c.requires) no_facts (search tests depth 60) tt (omega arith)
