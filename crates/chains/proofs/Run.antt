-- Laws that rest on those of specs/Run.antt.
--
--     joined                     where slow is not above the new range and fast not below it, join has the polygon of the longer run
--
-- Assumes nothing.
use Rattle.std.specs.Prelude.{◌≡◌, refl, List, ◌∷◌, ◌⊎◌, ℕ, zero, suc, ◌<◌, ℤ, pos, negsuc, ◌-ℤ◌, ◌≤ℤ◌, ◌<ℤ◌}
use Rattle.std.proofs.Common.{sym, ◌∙◌, subst, inl, inr}
use Rattle.integers.specs.OrderLaws.{≤ℤ_<ℤ-trans, <ℤ→≤ℤ, ≤ℤ_of_≡, ≤ℤ_antisym, ≤ℤ-<ℤ-⊥}
use Rattle.integers.specs.Lists.{cons}
use Rattle.definitions.specs.Ranges.{Range}
use Rattle.definitions.specs.Lines.{Line}
use Rattle.definitions.specs.Fit.{InFit}
use Rattle.chains.specs.Signs.{negsuc<0, pos≥0, suc>0, diff_neg, diff_pos, diff-zero}
use Rattle.chains.specs.Points.{Point, gap, Touches, through, through-second}
use Rattle.chains.specs.Ends.{H, L, fits_range_is, time<, touch-over}
use Rattle.chains.specs.Extremes.{Laws}
use Rattle.chains.specs.Chain.{head_of, Polygon}
use Rattle.chains.specs.Cut.{Under, under-laws, drop_over, keep_under}
use Rattle.chains.specs.State.{State, state-map, state-fast, cut_above, cut_fast, cut_slow, cut_below}
use Rattle.chains.proofs.State.{cut_above_is, cut_below_lem}
use Rattle.chains.specs.Spot.{spot}
use Rattle.chains.proofs.Spot.{spot_state}
use Rattle.chains.specs.Run.{BotOf, join, join_if, run-laws, RunState, TopOf, Until}

-- after the cut above, fast is still at or over the low end
fast-over : (r : Range) (x : Polygon) → r.low ≤ℤ r.high → pos 0 <ℤ (cut_above (H r) x).fast.d → gap x.slow (H r) ≤ℤ pos 0 → pos 0 ≤ℤ gap x.fast (L r)
    → pos 0 ≤ℤ gap (cut_above (H r) x).fast (L r)
fast-over r x le d h k = by (gap x.fast (H r)) d
  where
    inner : (g : ℤ) → gap x.slow (H r) ≡ g → pos 0 <ℤ (cut_slow keep_under g (H r) x).fast.d → pos 0 ≤ℤ gap (cut_slow keep_under g (H r) x).fast (L r)
    inner (pos n) e d = touch-over x.slow (pos r.time) r.low r.high d (≤ℤ_antisym h (pos≥0 _ n e)) le
    inner (negsuc n) e d =
        touch-over (through (head_of (drop_over (H r) x.lower)) (H r)) (pos r.time) r.low r.high d (through-second (head_of (drop_over (H r) x.lower)) (H r)) le

    by : (g : ℤ) → pos 0 <ℤ (cut_fast keep_under g (H r) x).fast.d → pos 0 ≤ℤ gap (cut_fast keep_under g (H r) x).fast (L r)
    by (pos zero) d = k
    by (pos (suc n)) d = inner (gap x.slow (H r)) refl d
    by (negsuc n) d = k

pub joined : (rs : List Range) (T : ℕ) → Until rs T → (r : Range) → T < r.time → r.low ≤ℤ r.high → (x : Polygon) → RunState rs x → gap x.slow (H r) ≤ℤ pos 0
    → pos 0 ≤ℤ gap x.fast (L r) → RunState (r ∷ rs) (join r x)
joined rs T u r lt le x z h k = by (r.high -ℤ r.low) refl
  where
    laws : Laws (InFit rs) (TopOf rs) (BotOf rs) (pos T)
    laws = run-laws rs T u

    late : pos T <ℤ pos r.time
    late = time< T r.time lt

    all : (l : Line) → InFit rs l → gap l (H r) ≤ℤ pos 0 → pos 0 ≤ℤ gap l (L r) → InFit (r ∷ rs) l
    all l f a b = record { positive = f.positive; each = cons (fits_range_is b a) f.each }

    -- a range with one value
    one : r.low ≡ r.high → RunState (r ∷ rs) (spot (H r) x)
    one e =
        let m : H r ≡ L r = λ i. record { t = pos r.time; u = sym e i } in
        state-map (λ l f. all l f.0 (≤ℤ_of_≡ f.1) (≤ℤ_of_≡ (sym (subst (λ A. Touches l A) m f.1)))) (λ A a. a) (λ A a. elim a [ inl b ↦ inl b | inr b ↦ inr (b ∙ m) ])
        (spot_state laws (H r) late x z h (subst (λ A. pos 0 ≤ℤ gap x.fast A) (sym m) k))

    above : State (Under (InFit rs) (H r)) (TopOf (r ∷ rs)) (BotOf rs) (cut_above (H r) x)
    above = cut_above_is laws (H r) (<ℤ→≤ℤ late) (λ B b. inl (≤ℤ_<ℤ-trans (laws.bot_early B b) late)) x z h

    cut_laws : Laws (Under (InFit rs) (H r)) (TopOf (r ∷ rs)) (BotOf rs) (pos r.time)
    cut_laws = under-laws (H r) laws (<ℤ→≤ℤ late)

    apart : r.low <ℤ r.high → (B : Point) → TopOf (r ∷ rs) B → (B.t <ℤ pos r.time) ⊎ (r.low <ℤ B.u)
    apart w B (inl b) = inl (≤ℤ_<ℤ-trans (laws.top_early B b) late)
    apart w B (inr e) = inr (subst (λ A. r.low <ℤ A.u) (sym e) w)

    -- a range with more
    two : r.low <ℤ r.high → RunState (r ∷ rs) (cut_below (L r) (cut_above (H r) x))
    two w =
        state-map (λ l f. all l f.0.0 f.0.1 f.1) (λ A a. a) (λ A a. a)
        (cut_below_lem cut_laws (L r) (≤ℤ_of_≡ refl) (apart w) (cut_above (H r) x) above (fast-over r x le (cut_laws.positive _ (state-fast (cut_above (H r) x) above)) h k))

    by : (g : ℤ) → r.high -ℤ r.low ≡ g → RunState (r ∷ rs) (join_if keep_under g r x)
    by (pos zero) e = one (diff-zero r.high r.low e)
    by (pos (suc n)) e = two (diff_pos r.high r.low (suc>0 _ n e))
    by (negsuc n) e = absurd (≤ℤ-<ℤ-⊥ le (diff_neg r.high r.low (negsuc<0 _ n e)))
