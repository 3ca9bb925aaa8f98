-- Proof of `panel_trial::tallies::least_time`. The loop's invariant: the least time after all is that after the first k, as none of the later ones has the address. Assumes nothing.
use mathlib.Core.Path.{◌≡◌}
use lib.ListN.{take}
use Rattle.panel_laws.specs.Tallies.{least_from}
use Rattle.panel_trial.proofs.tallies.least_time.Given as goal

abbrev pub invariant-loop-k : goal.invariant-loop-k
invariant-loop-k l =
    least_from l.address 0 l.addresses l.times ≡ least_from l.address 0 (take l.k l.addresses) (take l.k l.times)
