-- `text::digit_count` meets its contract. The loop's invariant: what is counted and the digits of the rest are one more than the digits of n. The measure is the rest, as a tenth of it is less.
-- Assumes nothing.
use Prim.Native.Nat.{◌+◌}
use mathlib.Core.Path.{◌≡◌}
use lib.ListN.{length}
use Rattle.definitions.specs.Report.{decimal}
use Rattle.text.proofs.digit_count.Given as goal

abbrev pub invariant-loop-rest : goal.invariant-loop-rest
invariant-loop-rest l =
    l.count + length (decimal l.rest) ≡ 1 + length (decimal l.n)

abbrev pub decreases-loop-rest : goal.decreases-loop-rest
decreases-loop-rest l =
    l.rest
