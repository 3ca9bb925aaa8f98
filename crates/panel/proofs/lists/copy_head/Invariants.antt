-- Proof of `panel::lists::copy_head`: the loop's invariant is `Going`. Assumes nothing.
use Rattle.panel.specs.Copies.{Going}
use Rattle.panel.proofs.lists.copy_head.Given as goal

abbrev pub invariant-loop-k : goal.invariant-loop-k
invariant-loop-k l =
    Going l.address l.addresses l.times l.lows l.highs (record { times = l.initial.into_times; lows = l.initial.into_lows; highs = l.initial.into_highs }) (record { times = l.into_times; lows = l.into_lows; highs = l.into_highs }) l.at l.k
