-- `arithmetic_examples::sign` meets its contract: an equality that failed and a test that failed leave the third sign. Assumes nothing.
use mathlib.Core.Path.{◌≡◌, refl, sym, ap}
use Prim.Native.Nat.{zero, suc}
use native.Mathlib.Omega.{arith}
use lib.IntN.{ℤ, pos, negsuc}
use lib.Signed.{◌<ℤ◌}
use Rattle.integers.specs.Parts.{ints}
use Rattle.integers.specs.Solve.{◌&◌}
use Rattle.integers.specs.Machine.{◌▸◌, end, machine_linear!, tests}
use Rattle.arithmetic_examples.specs.Points.{sign_of}
use Rattle.arithmetic_examples.proofs.sign.Goals as goal

zero-sign : (z : ℤ) → z ≡ pos 0 → pos 0 ≡ sign_of z
zero-sign z e = sym (ap sign_of e)

negative-sign : (z : ℤ) → z <ℤ pos 0 → negsuc 0 ≡ sign_of z
negative-sign (pos n) h = absurd (omega ints)
negative-sign (negsuc n) h = refl

positive-sign : (z : ℤ) → pos 0 <ℤ z → pos 1 ≡ sign_of z
positive-sign (pos zero) h = absurd (omega ints)
positive-sign (pos (suc n)) h = refl
positive-sign (negsuc n) h = absurd h.lt

pub returns-then-z-eq0 : goal.returns-then-z-eq0
returns-then-z-eq0 c = zero-sign c.args.z (machine_linear! (c.ranges.z ▸ end) c.if-z-eq0.true (search tests depth 30) tt (omega arith))

pub returns-then-z-lt0 : goal.returns-then-z-lt0
returns-then-z-lt0 c = negative-sign c.args.z (machine_linear! (c.ranges.z ▸ end) c.if-z-lt0.true (search tests depth 30) tt (omega arith))

pub returns-else-z-lt0 : goal.returns-else-z-lt0
returns-else-z-lt0 c = positive-sign c.args.z (machine_linear! (c.ranges.z ▸ end) (c.if-z-eq0.false & c.if-z-lt0.false) (search tests depth 30) tt (omega arith))
