-- `fit::points::steeper` meets its contract: each product is below 2^61. Assumes nothing.
use mathlib.Core.Path.{ap}
use lib.IntN.{pos}
use lib.Signed.{lt_z}
use Rattle.integers.specs.Machine.{no_overflow!, reads}
use Rattle.fit.specs.LinesOfEnds.{lines-env, turn-read}
use Rattle.fit.proofs.points.steeper.Goals as goal

pub overflow_mul-result : goal.overflow_mul-result
overflow_mul-result c = no_overflow! (lines-env c.requires) (search reads depth 40) tt

pub overflow_mul-result-2 : goal.overflow_mul-result-2
overflow_mul-result-2 c = no_overflow! (lines-env c.requires) (search reads depth 40) tt

pub overflow_sub-result : goal.overflow_sub-result
overflow_sub-result c = no_overflow! (lines-env c.requires) (search reads depth 40) tt

pub returns : goal.returns
returns c = ap (lt_z (pos 0)) (turn-read c.requires)
