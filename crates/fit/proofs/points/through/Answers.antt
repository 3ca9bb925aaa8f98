-- `fit::points::through` meets its contract: |u s| ≤ 2^60, and times differ by less than 2^32. Assumes nothing.
use Rattle.integers.specs.Quotes.{quotes}
use Rattle.integers.specs.Machine.{no_overflow!, machine_value!, reads}
use Rattle.fit.specs.LinesOfEnds.{points-env, line-through}
use Rattle.fit.proofs.points.through.Goals.{Start}
use Rattle.fit.proofs.points.through.Goals as goal

pub overflow_sub-result : goal.overflow_sub-result
overflow_sub-result c = no_overflow! (points-env c.requires) (search reads depth 40) tt

pub overflow_mul-result : goal.overflow_mul-result
overflow_mul-result c = no_overflow! (points-env c.requires) (search reads depth 40) tt

pub overflow_mul-result-2 : goal.overflow_mul-result-2
overflow_mul-result-2 c = no_overflow! (points-env c.requires) (search reads depth 40) tt

pub overflow_sub-result-2 : goal.overflow_sub-result-2
overflow_sub-result-2 c = no_overflow! (points-env c.requires) (search reads depth 40) tt

pub overflow_sub-result-3 : goal.overflow_sub-result-3
overflow_sub-result-3 c = no_overflow! (points-env c.requires) (search reads depth 40) tt

pub returns : goal.returns
returns c =
    line-through c.args.a c.args.b c.requires _ _ _ (machine_value! (points-env c.requires) (search reads depth 40) (search quotes depth 40) tt)
    (machine_value! (points-env c.requires) (search reads depth 40) (search quotes depth 40) tt) (machine_value! (points-env c.requires) (search reads depth 40) (search quotes depth 40) tt)
