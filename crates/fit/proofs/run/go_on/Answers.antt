-- `fit::run::go_on` meets its contract. Assumes nothing.
use native.Mathlib.Omega.{arith}
use Rattle.fit.specs.RunsOn.{going_more, gone_closed, gone-over}
use Rattle.fit.proofs.run.go_on.Goals as goal

pub returns-then-closes : goal.returns-then-closes
returns-then-closes c = let L = c.loop-k in gone_closed c.args.from L.k L.auto.k L.invariant c.range_at-r.ensures c.closes.ensures c.args.n c.loop-k-test.true c.if-closes.true

pub loop-k-preserved : goal.loop-k-preserved
loop-k-preserved c = let L = c.loop-k in going_more c.args.from L.k L.auto.k L.invariant c.range_at-r.ensures c.closes.ensures c.if-closes.false c.join-polygon.ensures

pub returns : goal.returns
returns c = let L = c.loop-k in gone-over c.args.from c.args.n L.k L.auto.k L.invariant (omega (arith, L.auto.k-end)) c.loop-k-test.false
