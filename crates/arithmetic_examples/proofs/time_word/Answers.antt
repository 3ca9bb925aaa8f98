-- `arithmetic_examples::time_word` meets its contract: a u32 holds every time. Assumes nothing.
use Rattle.integers.specs.Quotes.{quotes}
use Rattle.integers.specs.Machine.{◌◂◌, end, no_loss!, machine_value!, reads, casts}
use Rattle.arithmetic_examples.proofs.Bounded.{time-between}
use Rattle.arithmetic_examples.proofs.time_word.Goals as goal

pub overflow_cast-result : goal.overflow_cast-result
overflow_cast-result c = no_loss! (time-between c.requires ◂ end) (search casts depth 30) tt

pub returns : goal.returns
returns c = machine_value! (time-between c.requires ◂ end) (search reads depth 30) (search quotes depth 30) tt
