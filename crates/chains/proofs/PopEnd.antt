-- Laws that rest on those of specs/PopEnd.antt.
--
--     join-same  they are the same on a state
--
-- Assumes nothing.
use Rattle.std.specs.Prelude.{◌≡◌, List, ℕ, zero, suc, ◌<◌, ℤ, negsuc, ◌-ℤ◌, ◌≤ℤ◌}
use Rattle.std.proofs.Math.Path.{refl, ap}
use Rattle.std.proofs.Common.{◌∙◌, inl}
use Rattle.std.proofs.Math.IntN.{pos}
use Rattle.integers.specs.OrderLaws.{<ℤ→≤ℤ, ≤ℤ_<ℤ-trans, ≤ℤ_of_≡}
use Rattle.definitions.specs.Ranges.{Range}
use Rattle.definitions.specs.Fit.{InFit}
use Rattle.chains.specs.Points.{gap}
use Rattle.chains.specs.Ends.{H, L, time<}
use Rattle.chains.specs.Extremes.{Laws}
use Rattle.chains.specs.Chain.{Polygon}
use Rattle.chains.specs.Cut.{Under, With, under-laws, keep_under}
use Rattle.chains.specs.State.{State, cut_above}
use Rattle.chains.proofs.State.{cut_above_is}
use Rattle.chains.specs.Run.{TopOf, BotOf, Until, RunState, run-laws, join, join_if}
use Rattle.chains.specs.Pop.{pop_end}
use Rattle.chains.specs.PopEnd.{above_same, below-same, pop_above, pop_below, pop_join, pop_spot, spot_same}

-- a range that joins
pub join-same : (rs : List Range) (T : ℕ) → Until rs T → (r : Range) → T < r.time → r.low ≤ℤ r.high → (x : Polygon) → RunState rs x → gap x.slow (H r) ≤ℤ pos 0
    → pop_join r x ≡ join r x
unfolding pop_above pop_below pop_spot pop_join
join-same rs T u r lt le x z h = by (r.high -ℤ r.low)
  where
    laws : Laws (InFit rs) (TopOf rs) (BotOf rs) (pos T)
    laws = run-laws rs T u

    late : pos T ≤ℤ pos r.time
    late = <ℤ→≤ℤ (time< T r.time lt)

    above : State (Under (InFit rs) (H r)) (With (TopOf rs) (H r)) (BotOf rs) (cut_above (H r) x)
    above = cut_above_is laws (H r) late (λ B b. inl (≤ℤ_<ℤ-trans (laws.bot_early B b) (time< T r.time lt))) x z h

    by : (g : ℤ) → join_if pop_end g r x ≡ join_if keep_under g r x
    by (pos zero) = spot_same laws (H r) late x z
    by (pos (suc n)) =
        ap (pop_below (L r)) (above_same laws (H r) late x z) ∙ below-same (under-laws (H r) laws late) (L r) (≤ℤ_of_≡ refl) (cut_above (H r) x) above
    by (negsuc n) = refl
