-- Laws that rest on those of specs/Rounding.antt.
--
--     ceil_div_reaches                         x ≤ d · ceil_div x d
--     ceil_div_least                           and it is at most every t with x ≤ d · t
--     ceil_div_iff                             both as one: x ≤ d · t exactly when ceil_div x d ≤ t
--     ceil_div_above                           t < ceil_div x d where d · t < x
--     ceil_div_close                           d · ceil_div x d < x + d
--     ceil_div_only                            whatever t has x ≤ d · t < x + d, is ceil_div x d
--     ceil_div-mono, ceil_div_nonneg            it rises with x, and is not below 0 where x is not
--     in_ceil_div                              it is within the bound of x
--     ceil_div-pos                             which is ceil_div of them as integers
--
-- Assumes nothing.
use Rattle.std.specs.Prelude.{◌≡◌, ◌↔◌, ℕ, ◌*◌, ◌<◌, ◌≤◌, ℤ, negsuc, ◌+ℤ◌, ◌*ℤ◌, ◌≤ℤ◌, ◌<ℤ◌}
use Rattle.std.proofs.Common.{inl, inr}
use Rattle.std.proofs.Math.Nat as NatL
use Rattle.std.proofs.Math.IntN.{pos}
use Rattle.std.specs.Int.Signed.{quot_z, rem_z}
use Rattle.integers.specs.Parts.{ints}
use Rattle.integers.specs.OrderLaws.{≤ℤ-trans, ≤ℤ_antisym, ≤ℤ_or_<ℤ, ≤ℤ-<ℤ-⊥, <ℤ→≤ℤ, *ℤ-mono_l, pos_cancel_≤}
use Rattle.integers.specs.Bounds.{Within, in_of, in_le, in_ge}
use Rattle.integers.specs.Division.{quot-rem, rem_below, rem-above}
use Rattle.integers.specs.Rounding.{at_least-minus, at_most-times, below_suc, ceil_div, ceil_div_up, ceil_div_whole, ceil_divℕ, ceil_divℕ-iff, not-above, up_close, up_reaches, whole_close, whole_reaches}

module _ (x d : ℤ) where
  module _ (h : pos 0 <ℤ d) where
    pub ceil_div_reaches : x ≤ℤ (d *ℤ ceil_div x d)
    ceil_div_reaches = elim (≤ℤ_or_<ℤ (rem_z x d) (pos 0)) [
      | inl l ↦ rw (ceil_div_whole x d l) (whole_reaches x d (quot_z x d) (rem_z x d) (quot-rem x d h) l)
      | inr g ↦ rw (ceil_div_up x d g) (up_reaches x d (quot_z x d) (rem_z x d) (quot-rem x d h) (rem_below x d h))
    ]

    pub ceil_div_close : (d *ℤ ceil_div x d) <ℤ (x +ℤ d)
    ceil_div_close = elim (≤ℤ_or_<ℤ (rem_z x d) (pos 0)) [
      | inl l ↦ rw (ceil_div_whole x d l) (whole_close x d (quot_z x d) (rem_z x d) (quot-rem x d h) (rem-above x d h))
      | inr g ↦ rw (ceil_div_up x d g) (up_close x d (quot_z x d) (rem_z x d) (quot-rem x d h) g)
    ]

    pub ceil_div_least : (t : ℤ) → x ≤ℤ (d *ℤ t) → ceil_div x d ≤ℤ t
    ceil_div_least t k = below_suc (ceil_div x d) t (not-above x d (ceil_div x d) t h ceil_div_close k)

    pub ceil_div_iff : (t : ℤ) → (x ≤ℤ (d *ℤ t)) ↔ (ceil_div x d ≤ℤ t)
    ceil_div_iff t = (ceil_div_least t, λ k. ≤ℤ-trans ceil_div_reaches (*ℤ-mono_l d (<ℤ→≤ℤ h) k))

    pub ceil_div_above : (t : ℤ) → (d *ℤ t) <ℤ x → t <ℤ ceil_div x d
    ceil_div_above t k = elim (≤ℤ_or_<ℤ (ceil_div x d) t) [ inl l ↦ absurd (≤ℤ-<ℤ-⊥ ((ceil_div_iff t).1 l) k) | inr g ↦ g ]

    pub ceil_div_only : (t : ℤ) → x ≤ℤ (d *ℤ t) → (d *ℤ t) <ℤ (x +ℤ d) → ceil_div x d ≡ t
    ceil_div_only t k l = ≤ℤ_antisym (ceil_div_least t k) (below_suc t (ceil_div x d) (not-above x d t (ceil_div x d) h l ceil_div_reaches))

    pub ceil_div_nonneg : pos 0 ≤ℤ x → pos 0 ≤ℤ ceil_div x d
    ceil_div_nonneg k = pos_cancel_≤ h (≤ℤ-trans k ceil_div_reaches)

pub ceil_div-mono : (x y d : ℤ) → pos 0 <ℤ d → x ≤ℤ y → ceil_div x d ≤ℤ ceil_div y d
ceil_div-mono x y d h k = ceil_div_least x d h (ceil_div y d) (≤ℤ-trans k (ceil_div_reaches y d h))

pub in_ceil_div : {x : ℤ} {A : ℕ} (d : ℤ) → pos 0 <ℤ d → Within A x → Within A (ceil_div x d)
in_ceil_div {x} {A} d h w =
    let n : pos 0 ≤ℤ pos A = omega ints in
    in_of (at_least-minus (pos A) d x (ceil_div x d) n h (in_ge w) (ceil_div_reaches x d h)) (ceil_div_least x d h (pos A) (at_most-times (pos A) d x n h (in_le w)))

pub ceil_div-pos : (n d : ℕ) → 0 < d → ceil_div (pos n) (pos d) ≡ pos (ceil_divℕ n d)
ceil_div-pos n d h =
    let r : n ≤ d * ceil_divℕ n d = (ceil_divℕ-iff n d h (ceil_divℕ n d)).1 (NatL.le_refl (ceil_divℕ n d)) in
    ≤ℤ_antisym
    (ceil_div_least (pos n) (pos d) over (pos (ceil_divℕ n d)) (omega ints))
    (at_most (ceil_div (pos n) (pos d)) (ceil_div_nonneg (pos n) (pos d) over (omega ints)) (ceil_div_reaches (pos n) (pos d) over))
  where
    over : pos 0 <ℤ pos d
    over = omega ints

    at_most : (z : ℤ) → pos 0 ≤ℤ z → pos n ≤ℤ (pos d *ℤ z) → pos (ceil_divℕ n d) ≤ℤ z
    at_most (pos m) k l = let g : ceil_divℕ n d ≤ m = (ceil_divℕ-iff n d h m).0 (omega ints) in omega ints
    at_most (negsuc m) k l = absurd k.le
