-- `values::numbers::gcd` meets its contract. The loop's invariant: the divisor of x and y is that of a and b. The measure is y, as x % y is below it.
-- Assumes nothing.
use mathlib.Core.Path.{◌≡◌, sym, ap, ◌∙◌}
use native.Mathlib.Omega.{arith}
use Rattle.integers.specs.Gcd.{gcd-zero, gcd_step_above_0, gcd as gcdOf}
use Rattle.values.proofs.numbers.gcd.Goals as goal

pub loop-y-preserved : goal.loop-y-preserved
loop-y-preserved c = let k = c.loop-y in sym (gcd_step_above_0 k.x k.y (omega (arith, c.loop-y-test.true))) ∙ k.invariant

pub returns : goal.returns
returns c =
    let k = c.loop-y in
    let ended : k.y ≡ 0 = omega (arith, c.loop-y-test.false) in
    sym (gcd-zero k.x) ∙ ap (gcdOf k.x) (sym ended) ∙ k.invariant
