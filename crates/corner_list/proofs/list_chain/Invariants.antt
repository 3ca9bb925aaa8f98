-- `corner_list::list_chain` meets its contract: the lines up to the j-th point stand in the slices. Assumes nothing.
use mathlib.Core.Bool.{false}
use Prim.Native.Nat.{◌+◌, ◌-◌}
use Rattle.drift_laws.specs.ChainParts.{of_chain}
use Rattle.fit.specs.ChainsOfEnds.{chain_of}
use Rattle.corner_list.specs.CornerRows.{ChainListed}
use Rattle.corner_list.proofs.list_chain.Given as goal

abbrev pub invariant-loop-j : goal.invariant-loop-j
invariant-loop-j l =
    ChainListed (of_chain false (chain_of l.ends)) l.p.start l.j l.initial.ps l.initial.qs l.initial.ds l.at l.ps l.qs l.ds (l.at + (l.j - l.p.start - 1))
