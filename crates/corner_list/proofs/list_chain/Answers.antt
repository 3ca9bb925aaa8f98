-- `corner_list::list_chain` meets its contract. Assumes nothing.
use mathlib.Core.Path.{◌≡◌, subst}
use mathlib.Core.Bool.{false}
use Prim.Native.Nat.{◌+◌, ◌-◌}
use native.Mathlib.Omega.{arith}
use Rattle.drift_laws.specs.ChainParts.{of_chain}
use Rattle.fit.specs.ChainsOfEnds.{chain_of}
use Rattle.corner_list.specs.CornerRows.{ChainListed, listed-none, listed_more, joined_is}
use Rattle.corner_list.proofs.list_chain.Goals as goal

pub loop-j-init : goal.loop-j-init
loop-j-init c =
    let A = c.args in
    let f = of_chain false (chain_of A.ends.now) in
    let first : A.at ≡ A.at + (A.p.start + 1 - A.p.start - 1) = omega arith in
    subst (ChainListed f A.p.start (A.p.start + 1) A.ps.now A.qs.now A.ds.now A.at A.ps.now A.qs.now A.ds.now) first (listed-none f A.p.start A.ps.now A.qs.now A.ds.now A.at)

pub loop-j-preserved : goal.loop-j-preserved
loop-j-preserved c =
    let A = c.args in
    let L = c.loop-j in
    let S = c.put.new in
    let next : A.at + (L.j - A.p.start - 1) + 1 ≡ A.at + (L.j + 1 - A.p.start - 1) = omega (arith, L.auto.j) in
    subst (ChainListed (of_chain false (chain_of A.ends.now)) A.p.start (L.j + 1) A.ps.now A.qs.now A.ds.now A.at S.ps S.qs S.ds) next
    (listed_more (omega (arith, L.auto.j)) c.through-l.result L.invariant (joined_is c.point_at-a.ensures c.point_at-b.ensures c.through-l.ensures) c.put.ensures)
