-- Proof of `panel_trial::decisions::try_room`. Assumes nothing.
use Rattle.std.proofs.Common.{sym}
use Rattle.definitions.specs.Answers.{firstRow}
use Rattle.trial_laws.specs.Rows.{row-holds, row-passes}
use Rattle.panel_trial.proofs.decisions.try_room.Goals as goal

pub returns : goal.returns
unfolding firstRow
returns c = sym (row-passes 8 _ (sym c.if-some_short.ensures))

pub returns-then-some_short : goal.returns-then-some_short
returns-then-some_short c = sym (row-holds 8 _ (sym c.if-some_short.ensures))
