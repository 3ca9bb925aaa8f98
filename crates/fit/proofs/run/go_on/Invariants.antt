-- `fit::run::go_on` meets its contract: at k the polygon at hand is that of the run before the slices and of their ranges up to k, of whatever lists these are ranges. Assumes nothing.
use Rattle.drift_laws.specs.RangeEnds.{lent}
use Rattle.fit.specs.ChainsOfEnds.{chain_of}
use Rattle.fit.specs.RunsOn.{Going}
use Rattle.fit.proofs.run.go_on.Given as goal

abbrev pub invariant-loop-k : goal.invariant-loop-k
invariant-loop-k l =
    Going (lent l.times l.highs l.lows) (chain_of l.initial.up) (chain_of l.initial.down) l.initial.polygon l.from l.k (chain_of l.up) (chain_of l.down) l.polygon
