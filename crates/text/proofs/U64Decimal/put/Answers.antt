-- `text::U64Decimal::put` meets its contract. The loop's invariant: from `place` on the last digits are put, and the rest has those before them.
-- Assumes nothing.
use Prim.Native.Nat.{◌+◌}
use mathlib.Core.Path.{ap}
use Rattle.text.specs.LastDigits.{last_none, last_next}
use Rattle.text.proofs.U64Decimal.put.Goals.{Start}
use Rattle.text.proofs.U64Decimal.put.Goals as goal

pub loop-place-init : goal.loop-place-init
loop-place-init c =
    let a = c.args in
    last_none a.at a.self (a.at + c.digit_count.result) a.text.now c.requires (ap (λ k. a.at + k) c.digit_count.ensures)

pub loop-place-preserved : goal.loop-place-preserved
loop-place-preserved c =
    let a = c.args in
    last_next a.at a.self (a.at + c.digit_count.result) a.text.now c.loop-place-test.true c.loop-place.invariant
