-- `arithmetic_examples::larger` meets its contract: both parts at once, from the test's outcome. Assumes nothing.
use native.Mathlib.Omega.{arith}
use Rattle.integers.specs.Machine.{◌▸◌, end, machine_linear!, tests}
use Rattle.arithmetic_examples.proofs.larger.Goals as goal

pub returns-then-a-b : goal.returns-then-a-b
returns-then-a-b c = machine_linear! (c.ranges.a ▸ c.ranges.b ▸ end) c.if-a-b.true (search tests depth 30) tt (omega arith)

pub returns-else-a-b : goal.returns-else-a-b
returns-else-a-b c = machine_linear! (c.ranges.a ▸ c.ranges.b ▸ end) c.if-a-b.false (search tests depth 30) tt (omega arith)
