-- `fit::chain::drop_head` meets its contract. Assumes nothing.
use native.Mathlib.Omega.{arith}
use mathlib.Core.Path.{◌∙◌}
use Rattle.drift_laws.specs.ChainParts.{of_chain, drop-step, drop_stop, drop-one}
use Rattle.fit.specs.ChainsOfEnds.{chain_of}
use Rattle.fit.specs.LinesOfEnds.{point_of, joined-told}
use Rattle.fit.proofs.chain.drop_head.Goals as goal

pub loop-h-preserved : goal.loop-h-preserved
loop-h-preserved c =
    let A = c.args in
    let f = of_chain A.flip (chain_of A.ends.now) in
    (omega arith, omega arith, drop-step f (point_of A.n) A.p.end c.loop-h.h (omega arith) (joined-told A.n c.point_at-a.ensures c.point_at-b.ensures c.joined_reaches.ensures) c.if-not-joined_reaches.false ∙ c.loop-h.invariant.2)

pub returns-then-not-joined_reaches : goal.returns-then-not-joined_reaches
returns-then-not-joined_reaches c =
    let A = c.args in
    let f = of_chain A.flip (chain_of A.ends.now) in
    record { from = omega arith; to = omega arith; is = drop_stop f (point_of A.n) A.p.end c.loop-h.h (omega arith) (joined-told A.n c.point_at-a.ensures c.point_at-b.ensures c.joined_reaches.ensures) c.if-not-joined_reaches.true ∙ c.loop-h.invariant.2 }

pub returns-after-loop-h : goal.returns-after-loop-h
returns-after-loop-h c =
    let A = c.args in
    let f = of_chain A.flip (chain_of A.ends.now) in
    record { from = omega arith; to = omega arith; is = drop-one f (point_of A.n) A.p.end c.loop-h.h (omega arith) (omega arith) ∙ c.loop-h.invariant.2 }
