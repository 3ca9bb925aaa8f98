-- `fit::chain::drop_head` meets its contract. The invariant: what `drop_over` makes of the part is what it makes of the whole one. Assumes nothing.
use Prim.Native.Nat.{◌<◌, ◌≤◌, ◌-◌}
use mathlib.Core.Path.{◌≡◌}
use Rattle.chains.specs.Cut.{drop_over}
use Rattle.drift_laws.specs.ChainParts.{between, of_chain}
use Rattle.fit.specs.ChainsOfEnds.{chain_of}
use Rattle.fit.specs.LinesOfEnds.{point_of}
use Rattle.fit.proofs.chain.drop_head.Given as goal

abbrev pub invariant-loop-h : goal.invariant-loop-h
invariant-loop-h l =
    (l.p.start ≤ l.h) × (l.h < l.p.end) × (drop_over (point_of l.n) (between (of_chain l.flip (chain_of l.ends)) l.h l.p.end) ≡ drop_over (point_of l.n) (between (of_chain l.flip (chain_of l.ends)) l.p.start l.p.end))

abbrev pub decreases-loop-h : goal.decreases-loop-h
decreases-loop-h l =
    l.p.end - l.h
