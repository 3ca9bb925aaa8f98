-- Proof of `latest::backward::read_backward`: the loop's invariant is `Turning`. Assumes nothing.
use Rattle.drift_laws.specs.RangeEnds.{lent}
use Rattle.latest.specs.ReadBackward.{Turning}
use Rattle.latest.proofs.backward.read_backward.Given as goal

abbrev pub invariant-loop-k : goal.invariant-loop-k
invariant-loop-k l =
    Turning (lent l.times l.highs l.lows) (lent l.initial.back_times l.initial.back_highs l.initial.back_lows) (lent l.back_times l.back_highs l.back_lows) l.k
