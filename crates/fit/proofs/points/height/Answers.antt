-- `fit::points::height` meets its contract: |p t| ≤ 2^61, |q| ≤ 2^61, |d u| < 2^60. Assumes nothing.
use Rattle.integers.specs.Quotes.{quotes}
use Rattle.integers.specs.Machine.{no_overflow!, machine_value!, reads}
use Rattle.fit.specs.LinesOfEnds.{line_at}
use Rattle.fit.proofs.points.height.Goals as goal

pub overflow_mul-result : goal.overflow_mul-result
overflow_mul-result c = no_overflow! (line_at c.requires) (search reads depth 40) tt

pub overflow_add-result : goal.overflow_add-result
overflow_add-result c = no_overflow! (line_at c.requires) (search reads depth 40) tt

pub overflow_mul-result-2 : goal.overflow_mul-result-2
overflow_mul-result-2 c = no_overflow! (line_at c.requires) (search reads depth 40) tt

pub overflow_sub-result : goal.overflow_sub-result
overflow_sub-result c = no_overflow! (line_at c.requires) (search reads depth 40) tt

pub returns : goal.returns
returns c = machine_value! (line_at c.requires) (search reads depth 40) (search quotes depth 40) tt
