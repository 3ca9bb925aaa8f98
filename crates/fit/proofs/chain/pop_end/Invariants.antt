-- `fit::chain::pop_end` meets its contract. The invariant: what `trim` makes of the stack is what it makes of the whole one. Assumes nothing.
use Prim.Native.Nat.{◌<◌, ◌≤◌, ◌-◌}
use mathlib.Core.Path.{◌≡◌}
use Rattle.chains.specs.Pop.{trim}
use Rattle.drift_laws.specs.ChainParts.{stack, of_chain}
use Rattle.fit.specs.ChainsOfEnds.{chain_of}
use Rattle.fit.specs.LinesOfEnds.{point_of}
use Rattle.fit.proofs.chain.pop_end.Given as goal

abbrev pub invariant-loop-m : goal.invariant-loop-m
invariant-loop-m l =
    (l.p.start < l.m) × (l.m ≤ l.p.end) × (trim (point_of l.n) (stack (of_chain l.flip (chain_of l.ends)) l.p.start (l.m - l.p.start)) ≡ trim (point_of l.n) (stack (of_chain l.flip (chain_of l.ends)) l.p.start (l.p.end - l.p.start)))

abbrev pub decreases-loop-m : goal.decreases-loop-m
decreases-loop-m l =
    l.m
