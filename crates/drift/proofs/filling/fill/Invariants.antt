-- `drift::filling::fill` meets its contract. The invariant is `Turn`: the first `count` segments are stored, and the ranges from `start` on hold those
-- that are left. What shrinks is the number of ranges from `start` on. Assumes nothing.
use Prim.Native.Nat.{◌-◌}
use mathlib.Core.Path.{◌≡◌}
use lib.ListN.{length}
use Rattle.definitions.specs.Spans.{most_ranges}
use Rattle.values.specs.Meanings.{service_of}
use Rattle.drift.specs.Columns.{columns}
use Rattle.drift.specs.Filling.{Turn}
use Rattle.drift.proofs.filling.fill.Given as goal

abbrev pub invariant-loop-start : goal.invariant-loop-start
invariant-loop-start l =
    Turn (service_of l.v) (record { times = l.times; lows = l.lows; highs = l.highs }) (columns l.initial.first_times l.initial.last_times l.initial.counts l.initial.slow_ps l.initial.slow_qs l.initial.slow_ds l.initial.fast_ps l.initial.fast_qs l.initial.fast_ds l.initial.somes l.initial.alls) (columns l.first_times l.last_times l.counts l.slow_ps l.slow_qs l.slow_ds l.fast_ps l.fast_qs l.fast_ds l.somes l.alls) l.start l.count × (length l.up ≡ most_ranges) × (length l.down ≡ most_ranges)

abbrev pub decreases-loop-start : goal.decreases-loop-start
decreases-loop-start l =
    length l.times - l.start
