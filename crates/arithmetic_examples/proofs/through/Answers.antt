-- `arithmetic_examples::through` meets its contract: the products are below 2^60, and each field is what the machine computes. Assumes nothing.
use Rattle.integers.specs.Quotes.{quotes}
use Rattle.integers.specs.Machine.{no_overflow!, machine_value!, reads}
use Rattle.arithmetic_examples.proofs.Bounded.{points, line-is}
use Rattle.arithmetic_examples.proofs.through.Goals as goal

pub overflow_sub-result : goal.overflow_sub-result
overflow_sub-result c = no_overflow! (points c.requires) (search reads depth 40) tt

pub overflow_mul-result : goal.overflow_mul-result
overflow_mul-result c = no_overflow! (points c.requires) (search reads depth 40) tt

pub overflow_mul-result-2 : goal.overflow_mul-result-2
overflow_mul-result-2 c = no_overflow! (points c.requires) (search reads depth 40) tt

pub overflow_sub-result-2 : goal.overflow_sub-result-2
overflow_sub-result-2 c = no_overflow! (points c.requires) (search reads depth 40) tt

pub overflow_sub-result-3 : goal.overflow_sub-result-3
overflow_sub-result-3 c = no_overflow! (points c.requires) (search reads depth 40) tt

pub returns : goal.returns
returns c =
    let e = points c.requires in
    line-is (machine_value! e (search reads depth 40) (search quotes depth 40) tt) (machine_value! e (search reads depth 40) (search quotes depth 40) tt) (machine_value! e (search reads depth 40) (search quotes depth 40) tt)
