-- `text::U64Decimal::put` meets its contract. The loop's invariant: from `place` on the last digits are put, and the rest has those before them.
-- Assumes nothing.
use Rattle.text.specs.LastDigits.{LastPut}
use Rattle.text.proofs.U64Decimal.put.Given as goal

abbrev pub invariant-loop-place : goal.invariant-loop-place
invariant-loop-place l =
    LastPut l.at l.self l.next l.initial.text l.place l.rest l.text
