-- A line against a level at a time: what `side_at` and `has_reached` of the definitions say of the line's value.
--
--     SideIs x v s (is_below, is_on, is_above)     s tells that x is below, at or above v; side-unique: there is only one such s
--     side_at_is                                    side_at tells it of p·t + q against d·level
--     below_iff, on_iff, above_iff                 so it is below, on or above exactly when p·t + q is below, equal to or above d·level
--     reaches_same   the same line reaches a level at the same times
--
-- Example: with h : T (has_reached v t l), `(has_reached-iff v t l).0 h : Reached v t l`.
-- Further laws stand in proofs/Levels.antt.
-- Assumes nothing.
use Rattle.std.specs.Prelude.{◌≡◌, refl, ◌↔◌, ℕ, T, ℤ, ◌*ℤ◌, ◌<ℤ◌}
use Rattle.std.proofs.Common.{sym, subst}
use Rattle.std.proofs.Math.Bool.{true, false}
use Rattle.std.specs.Int.Signed.{lt_z}
use Rattle.integers.specs.OrderLaws.{≤ℤ_antisym, ≤ℤ_of_≡, ≤ℤ-<ℤ-⊥, <ℤ→≤ℤ, by_lt_z}
use Rattle.definitions.specs.Services.{Direction, rising, falling}
use Rattle.definitions.specs.Lines.{Line, reading, Side, below, on, above, side_at, at_or_above, at_or_below}
use Rattle.definitions.specs.Outlook.{passed}
use Rattle.definitions.specs.Fit.{Reaches, ReachedBy}
use Rattle.lines.specs.LineOrder.{Restates, restates_sym, order-≤, order_flip, reading_same, Reaches_same}

-- ---- one number against another
pub data SideIs (x v : ℤ) : Side → Type 0 where
  is_below : x <ℤ v → SideIs x v below
  is_on : x ≡ v → SideIs x v on
  is_above : v <ℤ x → SideIs x v above

pub side-unique : {x v : ℤ} {r s : Side} → SideIs x v r → SideIs x v s → r ≡ s
side-unique (is_below h) (is_below k) = refl
side-unique (is_below h) (is_on k) = absurd (≤ℤ-<ℤ-⊥ (≤ℤ_of_≡ (sym k)) h)
side-unique (is_below h) (is_above k) = absurd (≤ℤ-<ℤ-⊥ (<ℤ→≤ℤ h) k)
side-unique (is_on h) (is_below k) = absurd (≤ℤ-<ℤ-⊥ (≤ℤ_of_≡ (sym h)) k)
side-unique (is_on h) (is_on k) = refl
side-unique (is_on h) (is_above k) = absurd (≤ℤ-<ℤ-⊥ (≤ℤ_of_≡ h) k)
side-unique (is_above h) (is_below k) = absurd (≤ℤ-<ℤ-⊥ (<ℤ→≤ℤ h) k)
side-unique (is_above h) (is_on k) = absurd (≤ℤ-<ℤ-⊥ (≤ℤ_of_≡ k) h)
side-unique (is_above h) (is_above k) = refl

-- ---- a line against a level
module _ (l : Line) (level : ℤ) (t : ℕ) where
  pub side_at_is : SideIs (reading l t) (l.d *ℤ level) (side_at l level t)
  unfolding side_at
  side_at_is =
      let x = reading l t in
      let v = l.d *ℤ level in
      by_lt_z (λ b. SideIs x v (elim b [ true ↦ below | false ↦ elim (lt_z v x) [ true ↦ above | false ↦ on ] ])) x v (λ h. is_below h)
      (λ h. by_lt_z (λ b. SideIs x v (elim b [ true ↦ above | false ↦ on ])) v x (λ k. is_above k) (λ k. is_on (≤ℤ_antisym k h)))

  told : {s : Side} → side_at l level t ≡ s → SideIs (reading l t) (l.d *ℤ level) s
  told e = subst (SideIs (reading l t) (l.d *ℤ level)) e side_at_is

  pub below_iff : (side_at l level t ≡ below) ↔ (reading l t <ℤ (l.d *ℤ level))
  below_iff = (λ e. elim (told e) [ is_below h ↦ h ], λ h. side-unique side_at_is (is_below h))

  pub on_iff : (side_at l level t ≡ on) ↔ (reading l t ≡ l.d *ℤ level)
  on_iff = (λ e. elim (told e) [ is_on h ↦ h ], λ h. side-unique side_at_is (is_on h))

  pub above_iff : (side_at l level t ≡ above) ↔ ((l.d *ℤ level) <ℤ reading l t)
  above_iff = (λ e. elim (told e) [ is_above h ↦ h ], λ h. side-unique side_at_is (is_above h))

-- ---- has it reached the level

pub passed-iff : (e : Direction) (l : Line) (level : ℤ) (t : ℕ) {s : Side} → SideIs (reading l t) (l.d *ℤ level) s → T (passed e s) ↔ ReachedBy e level t l
unfolding passed at_or_above at_or_below
passed-iff rising l level t (is_below h) = (λ p. absurd p, λ k. ≤ℤ-<ℤ-⊥ k h)
passed-iff rising l level t (is_on h) = (λ p. ≤ℤ_of_≡ (sym h), λ k. tt)
passed-iff rising l level t (is_above h) = (λ p. <ℤ→≤ℤ h, λ k. tt)
passed-iff falling l level t (is_below h) = (λ p. <ℤ→≤ℤ h, λ k. tt)
passed-iff falling l level t (is_on h) = (λ p. ≤ℤ_of_≡ h, λ k. tt)
passed-iff falling l level t (is_above h) = (λ p. absurd p, λ k. ≤ℤ-<ℤ-⊥ k h)

-- ---- the same line
pub reaches_same : {k l : Line} → Restates k l → (level : ℤ) (t : ℕ) → Reaches level t k ↔ Reaches level t l
reaches_same r level t = (Reaches_same r level t, Reaches_same (restates_sym r) level t)

pub reached_by_same : (e : Direction) {k l : Line} → Restates k l → (level : ℤ) (t : ℕ) → ReachedBy e level t k → ReachedBy e level t l
reached_by_same rising r level t h = Reaches_same r level t h
reached_by_same falling r level t h = order-≤ (order_flip (reading_same r t level)) h
