-- `values::reaching::crossing_time` meets its contract: |d·level − q| < 2^62 and |p·step| < 2^46, and the quotient is the number of steps where that is a time at all. Assumes nothing.
use mathlib.Core.Path.{◌≡◌, sym, ap, ap₂, ◌∙◌, subst₂}
use Prim.Native.Nat.{◌*◌}
use native.Mathlib.Omega.{arith}
use lib.IntN.{pos, nat_abs}
use lib.Signed.{◌≤ℤ◌, ◌<ℤ◌, le_z_yes}
use mir.Syntax.{w32, w64}
use mir.Val.{of_z}
use mir.Facts.{to_z-of_z}
use Rattle.integers.specs.Booleans.{true→T}
use Rattle.integers.specs.Rounding.{ceil_div}
use Rattle.integers.specs.Multiples.{to_turn}
use Rattle.integers.specs.Machine.{◌▹◌, ◌▸◌, end, to_z_fits, no_overflow!, machine_linear!, reads, tests}
use Rattle.definitions.specs.Spans.{most_time}
use Rattle.definitions.specs.Times.{at}
use Rattle.values.specs.Meanings.{line_of, time_of}
use Rattle.values.specs.Signed.{as_i64, cast-nonneg}
use Rattle.values.specs.Readings.{scaled_sizes, rest-is, rest_in}
use Rattle.values.specs.ReachLaws.{pace_sizes, pace_is, pace_over, crossing_of, crossing_nonneg, crossing_in, crossing_time_in, crossing_never, crossing_at, crossing_late}
use Rattle.values.proofs.reaching.crossing_time.Goals.{After-ceil_div-k, After-from-then-p-gt0-2, Then-k-from, Then-p-gt0}
use Rattle.values.proofs.reaching.crossing_time.Goals as goal

pub overflow_sub-l : goal.overflow_sub-l
overflow_sub-l c = no_overflow! (scaled_sizes c.requires.0 c.requires.1 c.from.ensures) (search reads depth 30) tt

pub overflow_mul-p : goal.overflow_mul-p
overflow_mul-p c = no_overflow! (pace_sizes c.requires.0 c.requires.2 c.from-then-p-gt0.ensures) (search reads depth 30) tt

ascends : (c : Then-p-gt0) → pos 0 <ℤ c.args.l.p
ascends c = machine_linear! (c.requires.0.bounds.p_in ▹ end) c.if-p-gt0.true (search tests depth 30) tt (omega arith)

pub ceil_div-k-requires : goal.ceil_div-k-requires
ceil_div-k-requires c =
    (rest_in c.requires.0 c.requires.1 c.from.ensures, rw (pace_is c.requires.0 c.requires.2 c.from-then-p-gt0.ensures) (pace_over c.requires.2.over (ascends (goal.at.ceil_div-k-requires c).Then-p-gt0)))

-- what is tested and cast is the number of steps after which the line reaches the level

quotient_is : (c : After-ceil_div-k) → as_i64 c.ceil_div-k.result ≡ crossing_of (line_of c.args.l) c.args.level c.args.step
quotient_is c =
    to_z-of_z {w = w64} (record { sfits = c.ceil_div-k.type_inv }) ∙ c.ceil_div-k.ensures ∙ ap₂ (λ x y. ceil_div x y) (rest-is c.requires.0 c.requires.1 c.from.ensures) (pace_is c.requires.0 c.requires.2 c.from-then-p-gt0.ensures)

last_is : (c : After-from-then-p-gt0-2) → as_i64 c.from-then-p-gt0-2.result ≡ pos (to_turn c.args.step most_time)
last_is c = to_z-of_z {w = w64} (record { sfits = c.from-then-p-gt0-2.type_inv }) ∙ c.from-then-p-gt0-2.ensures ∙ ap pos c.requires.3

early : (c : Then-k-from) → crossing_of (line_of c.args.l) c.args.level c.args.step ≤ℤ pos (to_turn c.args.step most_time)
early c = subst₂ (λ x y. x ≤ℤ y) (quotient_is (goal.at.Then-k-from c).After-ceil_div-k) (last_is (goal.at.Then-k-from c).After-from-then-p-gt0-2) (le_z_yes (true→T c.if-k-from.true))

pub overflow_cast-result : goal.overflow_cast-result
overflow_cast-result c =
    let A = c.args in
    let up = ascends (goal.at.overflow_cast-result c).Then-p-gt0 in
    let nonneg = crossing_nonneg (line_of A.l) A.level A.step c.requires.2.over A.turns.first c.requires.4 up in
    rw (quotient_is (goal.at.overflow_cast-result c).After-ceil_div-k) (cast-nonneg w32 (crossing_of (line_of A.l) A.level A.step) nonneg (crossing_in (line_of A.l) A.level A.step c.requires.2.over A.turns.first c.requires.4 up (early c)) tt)

pub overflow_mul-result : goal.overflow_mul-result
overflow_mul-result c =
    let A = c.args in
    let within = crossing_time_in (line_of A.l) A.level A.step c.requires.2.over A.turns.first c.requires.4 (ascends (goal.at.overflow_mul-result c).Then-p-gt0) (early c) in
    rw (quotient_is (goal.at.overflow_mul-result c).After-ceil_div-k) (record { fits = omega arith })

pub returns-then-k-from : goal.returns-then-k-from
unfolding time_of
returns-then-k-from c =
    let A = c.args in
    ap (λ z. at (nat_abs z * A.step)) (quotient_is (goal.at.returns-then-k-from c).After-ceil_div-k)
    ∙ sym (crossing_at (line_of A.l) A.level A.step c.requires.2.over A.turns.first c.requires.4 (ascends (goal.at.returns-then-k-from c).Then-p-gt0) (early c))

pub returns-else-k-from : goal.returns-else-k-from
unfolding time_of
returns-else-k-from c =
    let A = c.args in
    let late : as_i64 c.from-then-p-gt0-2.result <ℤ as_i64 c.ceil_div-k.result = machine_linear! (to_z_fits w64 (of_z w64 c.ceil_div-k.result) ▸ to_z_fits w64 (of_z w64 c.from-then-p-gt0-2.result) ▸ end) c.if-k-from.false (search tests depth 30) tt (omega arith) in
    sym (crossing_late (line_of A.l) A.level A.step c.requires.2.over A.turns.first c.requires.4 (ascends (goal.at.returns-else-k-from c).Then-p-gt0) (subst₂ (λ x y. x <ℤ y) (last_is (goal.at.returns-else-k-from c).After-from-then-p-gt0-2) (quotient_is (goal.at.returns-else-k-from c).After-ceil_div-k) late))

pub returns-else-p-gt0 : goal.returns-else-p-gt0
unfolding time_of
returns-else-p-gt0 c =
    let A = c.args in
    let falls : A.l.p ≤ℤ pos 0 = machine_linear! (c.requires.0.bounds.p_in ▹ end) c.if-p-gt0.false (search tests depth 30) tt (omega arith) in
    sym (crossing_never (line_of A.l) A.level A.step c.requires.2.over A.turns.first c.requires.4 falls)
