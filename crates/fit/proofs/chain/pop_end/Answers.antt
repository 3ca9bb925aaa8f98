-- `fit::chain::pop_end` meets its contract. Assumes nothing.
use Prim.Native.Nat.{◌-◌}
use native.Mathlib.Omega.{arith}
use mathlib.Core.Path.{◌∙◌}
use Rattle.drift_laws.specs.ChainParts.{of_chain, popped, pop_step, pop_stop, pop_one}
use Rattle.fit.specs.ChainsOfEnds.{chain_of}
use Rattle.fit.specs.LinesOfEnds.{point_of, joined-told}
use Rattle.fit.proofs.chain.pop_end.Goals as goal

pub loop-m-preserved : goal.loop-m-preserved
loop-m-preserved c =
    let A = c.args in
    let f = of_chain A.flip (chain_of A.ends.now) in
    (omega arith, omega arith, pop_step f (point_of A.n) A.p.start c.loop-m.m (omega arith) (joined-told A.n c.point_at-a.ensures c.point_at-b.ensures c.joined_reaches.ensures) c.if-not-joined_reaches.false ∙ c.loop-m.invariant.2)

pub returns-then-not-joined_reaches : goal.returns-then-not-joined_reaches
returns-then-not-joined_reaches c =
    let A = c.args in
    let m = c.loop-m.m in
    let f = of_chain A.flip (chain_of A.ends.now) in
    record { from = omega arith; to = omega arith; is = popped f (point_of A.n) A.p.start (m - A.p.start) (A.p.end - A.p.start) (pop_stop f (point_of A.n) A.p.start m (omega arith) (joined-told A.n c.point_at-a.ensures c.point_at-b.ensures c.joined_reaches.ensures) c.if-not-joined_reaches.true ∙ c.loop-m.invariant.2) }

pub returns-after-loop-m : goal.returns-after-loop-m
returns-after-loop-m c =
    let A = c.args in
    let m = c.loop-m.m in
    let f = of_chain A.flip (chain_of A.ends.now) in
    record { from = omega arith; to = omega arith; is = popped f (point_of A.n) A.p.start (m - A.p.start) (A.p.end - A.p.start) (pop_one f (point_of A.n) A.p.start m (omega arith) (omega arith) ∙ c.loop-m.invariant.2) }
