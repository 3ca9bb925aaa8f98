-- `arithmetic_examples::is_least` meets its contract: the literal's word is that of −2^28 alone. Assumes nothing.
use native.Mathlib.Omega.{arith}
use Rattle.integers.specs.Solve.{no_facts}
use Rattle.integers.specs.Machine.{◌▸◌, end, machine_linear!, tests}
use Rattle.arithmetic_examples.proofs.is_least.Goals as goal

pub returns : goal.returns
returns c = machine_linear! (c.ranges.u ▸ end) no_facts (search tests depth 30) tt (omega arith)
