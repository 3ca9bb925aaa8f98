-- `values::numbers::gcd` meets its contract. The loop's invariant: the divisor of x and y is that of a and b. The measure is y, as x % y is below it.
-- Assumes nothing.
use mathlib.Core.Path.{◌≡◌}
use Rattle.integers.specs.Gcd.{gcd as gcdOf}
use Rattle.values.proofs.numbers.gcd.Given as goal

abbrev pub invariant-loop-y : goal.invariant-loop-y
invariant-loop-y l =
    gcdOf l.x l.y ≡ gcdOf l.a l.b

abbrev pub decreases-loop-y : goal.decreases-loop-y
decreases-loop-y l =
    l.y
