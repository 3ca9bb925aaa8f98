-- Proof of `panel_trial::tallies::count_in`. Assumes nothing.
use mathlib.Core.Path.{refl, sym}
use Rattle.panel_laws.specs.Tallies.{incremented, incremented-past}
use Rattle.panel_trial.proofs.tallies.count_in.Goals as goal

pub returns-then-at-counts : goal.returns-then-at-counts
unfolding incremented
returns-then-at-counts c = refl

pub returns-else-at-counts : goal.returns-else-at-counts
returns-else-at-counts c = let args = c.args in sym (incremented-past args.counts.now args.address c.if-at-counts.false)
