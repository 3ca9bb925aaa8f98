-- Proof of `panel_trial::heads::miscounted`. Assumes nothing.
use Rattle.std.proofs.Common.{arith, ap, sym, ◌∙◌}
use Rattle.integers.specs.Lists.{any}
use Rattle.panel_laws.specs.Tallies.{none-counted}
use Rattle.panel_trial.specs.Chains.{any_list, miscounts, counted_all}
use Rattle.panel_trial.proofs.heads.miscounted.Goals as goal

pub tally-requires : goal.tally-requires
tally-requires c = (c.requires.1, none-counted 65536)

pub returns : goal.returns
returns c = c.miscounted_by.ensures ∙ sym (any_list (miscounts c.tally.new.counts) c.args.entries.now) ∙ ap (λ cs. any (miscounts cs) c.args.entries.now) c.tally.ensures ∙ counted_all 65536 (omega arith) c.args.addresses.now c.args.entries.now c.requires.2
