-- Proof of `panel_trial::heads::twice`. The loop's invariant: none of the first k stands again later. Assumes nothing.
use mathlib.Core.Path.{◌≡◌}
use lib.ListN.{drop}
use Rattle.definitions.specs.Panels.{twice}
use Rattle.panel_trial.proofs.heads.twice.Given as goal

abbrev pub invariant-loop-k : goal.invariant-loop-k
invariant-loop-k l =
    twice l.entries ≡ twice (drop l.k l.entries)
