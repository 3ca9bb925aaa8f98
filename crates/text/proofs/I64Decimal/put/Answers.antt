-- `text::I64Decimal::put` meets its contract: a number below 0 is a minus sign and its size. Assumes nothing.
use mathlib.Core.Path.{◌≡◌, sym, ap, ◌∙◌, subst}
use mathlib.Core.List.{◌++◌}
use native.Mathlib.Omega.{arith}
use lib.IntN.{nat_abs}
use mir.Facts.{to_z-of_z}
use Rattle.integers.specs.Machine.{◌▸◌, end, machine_linear!, tests}
use Rattle.definitions.specs.Report.{decimal, signed_decimal, ascii}
use Rattle.text.specs.Put.{Room, Put}
use Rattle.text.specs.PutLaws.{put_then, room-front, room_then}
use Rattle.text.specs.SignLaws.{from_zero-text, below_zero-text}
use Rattle.text.proofs.I64Decimal.put.Goals.{After-unsigned_abs-size, Else-self-ge0, Then-self-ge0}
use Rattle.text.proofs.I64Decimal.put.Goals as goal

size_is : (c : After-unsigned_abs-size) → c.unsigned_abs-size.result ≡ nat_abs c.args.self
size_is c = c.unsigned_abs-size.ensures.value ∙ ap nat_abs (to_z-of_z c.ranges.self)

-- ---- a number that is not below 0

from_zero : (c : Then-self-ge0) → signed_decimal c.args.self ≡ decimal c.unsigned_abs-size.result
from_zero c = from_zero-text c.args.self (machine_linear! (c.ranges.self ▸ end) c.if-self-ge0.true (search tests depth 30) tt (omega arith)) ∙ ap decimal (sym (size_is (goal.at.Then-self-ge0 c).After-unsigned_abs-size))

pub put-requires : goal.put-requires
put-requires c = subst (λ bs. Room c.args.at bs c.args.text.now) (from_zero (goal.at.put-requires c).Then-self-ge0) c.requires

pub returns-then-self-ge0 : goal.returns-then-self-ge0
returns-then-self-ge0 c =
    let a = c.args in
    subst (λ bs. Put a.at bs a.text.now c.put.result c.put.new.text) (sym (from_zero (goal.at.returns-then-self-ge0 c).Then-self-ge0)) c.put.ensures

-- ---- a number below 0

under-zero : (c : Else-self-ge0) → signed_decimal c.args.self ≡ ascii "-" ++ decimal c.unsigned_abs-size.result
under-zero c =
    below_zero-text c.args.self (machine_linear! (c.ranges.self ▸ end) c.if-self-ge0.false (search tests depth 30) tt (omega arith)) ∙ ap (λ k. ascii "-" ++ decimal k) (sym (size_is (goal.at.Else-self-ge0 c).After-unsigned_abs-size))

-- there is room for the sign and the digits
signed-room : (c : Else-self-ge0) → Room c.args.at (ascii "-" ++ decimal c.unsigned_abs-size.result) c.args.text.now
signed-room c = subst (λ bs. Room c.args.at bs c.args.text.now) (under-zero c) c.requires

pub put_word-next-requires : goal.put_word-next-requires
put_word-next-requires c = room-front c.args.at (ascii "-") (decimal c.unsigned_abs-size.result) c.args.text.now (signed-room (goal.at.put_word-next-requires c).Else-self-ge0)

pub put-requires-2 : goal.put-requires-2
put-requires-2 c = room_then c.put_word-next.ensures (decimal c.unsigned_abs-size.result) (signed-room (goal.at.put-requires-2 c).Else-self-ge0)

pub returns : goal.returns
returns c =
    let a = c.args in
    subst (λ bs. Put a.at bs a.text.now c.put-2.result c.put-2.new.text) (sym (under-zero (goal.at.returns c).Else-self-ge0)) (put_then c.put_word-next.ensures c.put-2.ensures)
