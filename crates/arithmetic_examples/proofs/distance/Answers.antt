-- `arithmetic_examples::distance` meets its contract: the difference that a test shows not to be negative is cast. Assumes nothing.
-- the difference as the machine computes it
use mathlib.Core.Path.{◌≡◌, ◌∙◌, ap}
use native.Mathlib.Omega.{arith}
use lib.IntN.{ℤ, nat_abs, ◌-ℤ◌}
use mir.Syntax.{w32}
use Rattle.integers.specs.Quotes.{quotes}
use Rattle.integers.specs.Bounds.{abs-sub-is}
use Rattle.integers.specs.Solve.{◌&◌}
use Rattle.integers.specs.Machine.{read, ◌▹◌, end, no_overflow!, machine_value!, machine_linear!, reads, tests}
use Rattle.arithmetic_examples.specs.Points.{Value}
use Rattle.arithmetic_examples.proofs.distance.Goals as goal

read-distance : (x y : ℤ) → Value x → Value y → nat_abs (read w32 (read w32 x -ℤ read w32 y)) ≡ nat_abs (x -ℤ y)
read-distance x y h k =
    let e : read w32 (read w32 x -ℤ read w32 y) ≡ x -ℤ y = machine_value! (h ▹ k ▹ end) (search reads depth 30) (search quotes depth 30) tt in
    ap nat_abs e

pub overflow_sub-result : goal.overflow_sub-result
overflow_sub-result c = no_overflow! (c.requires.0 ▹ c.requires.1 ▹ end) (search reads depth 30) tt

pub overflow_cast-result : goal.overflow_cast-result
overflow_cast-result c = let s = c.requires in machine_linear! (s.0 ▹ s.1 ▹ end) (c.if-a-b.true & s) (search tests depth 30) tt (omega arith)

pub overflow_sub-result-else-a-b : goal.overflow_sub-result-else-a-b
overflow_sub-result-else-a-b c = no_overflow! (c.requires.0 ▹ c.requires.1 ▹ end) (search reads depth 30) tt

pub overflow_cast-result-else-a-b : goal.overflow_cast-result-else-a-b
overflow_cast-result-else-a-b c = let s = c.requires in machine_linear! (s.0 ▹ s.1 ▹ end) (c.if-a-b.false & s) (search tests depth 30) tt (omega arith)

pub returns-then-a-b : goal.returns-then-a-b
returns-then-a-b c = read-distance c.args.b c.args.a c.requires.1 c.requires.0

pub returns-else-a-b : goal.returns-else-a-b
returns-else-a-b c = read-distance c.args.a c.args.b c.requires.0 c.requires.1 ∙ abs-sub-is c.args.a c.args.b
