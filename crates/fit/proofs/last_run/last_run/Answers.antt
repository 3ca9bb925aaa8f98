-- `fit::last_run::last_run` meets its contract. Assumes nothing.
use Rattle.fit.specs.LastRuns.{reached_first, reached_next, reached_last}
use Rattle.fit.proofs.last_run.last_run.Goals as goal

pub loop-reach-init : goal.loop-reach-init
loop-reach-init c = reached_first c.requires.0 c.args.k c.requires.2 c.requires.1

pub returns-then-k-reach : goal.returns-then-k-reach
returns-then-k-reach c = reached_last c.requires.0 c.args.k c.requires.2 c.loop-reach.invariant c.run_from-reach.ensures c.if-k-reach.true

pub loop-reach-preserved : goal.loop-reach-preserved
loop-reach-preserved c = reached_next c.requires.0 c.args.k c.requires.2 c.loop-reach.invariant c.run_from-reach.ensures c.if-k-reach.false
