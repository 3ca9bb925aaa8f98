-- Proof of `latest::backward::read_backward`: the loop's invariant is `Turning`. Assumes nothing.
use mathlib.Core.Path.{refl}
use Prim.Native.Nat.{ℕ, ◌<◌, ◌≤◌}
use native.Mathlib.Omega.{arith}
use mir.Syntax.{w32}
use mir.Facts.{to_z-of_z}
use Rattle.definitions.specs.Spans.{most_time}
use Rattle.definitions.specs.Ranges.{Lists}
use Rattle.drift_laws.specs.RangeEnds.{lent}
use Rattle.latest.specs.ReadBackward.{turning, turns_on, all-turned}
use Rattle.latest.proofs.backward.read_backward.Goals.{Start}
use Rattle.latest.proofs.backward.read_backward.Goals as goal

abbrev lists : Start → Lists
lists c = lent c.args.times.now c.args.highs.now c.args.lows.now

abbrev copies : Start → Lists
copies c = lent c.args.back_times.now c.args.back_highs.now c.args.back_lows.now

-- a time of 32 bits is at most the last

below_last : {t : ℕ} → t < 4294967296 → t ≤ most_time
below_last h = omega arith

pub loop-k-init : goal.loop-k-init
loop-k-init c = turning (lists c) (copies c)

pub overflow_sub-back_times : goal.overflow_sub-back_times
overflow_sub-back_times c = below_last (c.shared_slice_known-1.given _).fits

pub loop-k-preserved : goal.loop-k-preserved
loop-k-preserved c =
    let s = (goal.at.loop-k-preserved c).Start in
    let at = c.loop-k in
    turns_on (lists s) (copies s) (lent at.back_times at.back_highs at.back_lows) at.k _ c.requires c.loop-k-test.true refl (λ i. below_last (c.shared_slice_known-1.given i).fits)
    (to_z-of_z {w = w32} (record { sfits = c.back_lows-1.given })) (to_z-of_z {w = w32} (record { sfits = c.back_highs-1.given })) at.invariant

pub returns : goal.returns
returns c =
    let s = (goal.at.returns c).Start in
    let at = c.loop-k in
    all-turned (lists s) (copies s) (lent at.back_times at.back_highs at.back_lows) at.k c.requires.same c.loop-k-test.false at.invariant
