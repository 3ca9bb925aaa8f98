-- `arithmetic_examples::against` meets its contract: the tests are those of the definition. Assumes nothing.
use mathlib.Core.Path.{◌≡◌}
use mathlib.Core.Bool.{true, false}
use native.Mathlib.Omega.{arith}
use lib.IntN.{◌*ℤ◌}
use lib.Signed.{lt_z}
use Rattle.integers.specs.Machine.{no_overflow!, machine_linear!, reads, tests}
use Rattle.arithmetic_examples.specs.Points.{scaled}
use Rattle.arithmetic_examples.proofs.Bounded.{line_at}
use Rattle.arithmetic_examples.proofs.against.Goals as goal

pub overflow_mul-e : goal.overflow_mul-e
overflow_mul-e c = no_overflow! (line_at c.requires) (search reads depth 40) tt

pub overflow_add-e : goal.overflow_add-e
overflow_add-e c = no_overflow! (line_at c.requires) (search reads depth 40) tt

pub overflow_mul-f : goal.overflow_mul-f
overflow_mul-f c = no_overflow! (line_at c.requires) (search reads depth 40) tt

pub returns-then-e-f : goal.returns-then-e-f
returns-then-e-f c =
    let l = c.args.l in
    let below : lt_z (scaled l c.args.t) (l.d *ℤ c.args.u) ≡ true = machine_linear! (line_at c.requires) c.if-e-f.true (search tests depth 40) tt (omega arith) in
    rw below

pub returns-then-f-e : goal.returns-then-f-e
returns-then-f-e c =
    let l = c.args.l in
    let not-below : lt_z (scaled l c.args.t) (l.d *ℤ c.args.u) ≡ false = machine_linear! (line_at c.requires) c.if-e-f.false (search tests depth 40) tt (omega arith) in
    let above : lt_z (l.d *ℤ c.args.u) (scaled l c.args.t) ≡ true = machine_linear! (line_at c.requires) c.if-f-e.true (search tests depth 40) tt (omega arith) in
    rw (not-below, above)

pub returns-else-f-e : goal.returns-else-f-e
returns-else-f-e c =
    let l = c.args.l in
    let not-below : lt_z (scaled l c.args.t) (l.d *ℤ c.args.u) ≡ false = machine_linear! (line_at c.requires) c.if-e-f.false (search tests depth 40) tt (omega arith) in
    let not-above : lt_z (l.d *ℤ c.args.u) (scaled l c.args.t) ≡ false = machine_linear! (line_at c.requires) c.if-f-e.false (search tests depth 40) tt (omega arith) in
    rw (not-below, not-above)
