-- `fit::run::first_two` meets its contract. Assumes nothing.
use Rattle.fit.specs.RunsFrom.{running_start}
use Rattle.fit.proofs.run.first_two.Goals as goal

pub returns : goal.returns
returns c = running_start c.requires.0 c.args.from c.requires.1.second c.range_at-first.ensures c.range_at-second.ensures c.begin.ensures
