-- `fit::last_run::last_run` meets its contract: at each turn the segment running after k ranges is the last of those from `start` on. What shrinks is the number of ranges from `start` to k. Assumes nothing.
use Prim.Native.Nat.{◌-◌}
use Rattle.drift_laws.specs.RangeEnds.{lent}
use Rattle.fit.specs.LastRuns.{Reached}
use Rattle.fit.proofs.last_run.last_run.Given as goal

abbrev pub invariant-loop-reach : goal.invariant-loop-reach
invariant-loop-reach l =
    Reached (lent l.times l.highs l.lows) l.k l.start

abbrev pub decreases-loop-reach : goal.decreases-loop-reach
decreases-loop-reach l =
    l.k - l.start
