-- Divisibility. Of natural numbers it is the toolchain's `◌∣◌`; its laws are passed on here, so that one import line serves. Of integers it is divisibility of the absolute values: a divisor has no sign and is a natural number.
--
--     k ∣ a                                   k divides the natural number a
--     dvd_refl, dvd_trans, dvd_antisymm       it is an order: k ∣ k, transitive, and two numbers that divide each other are equal
--     dvd-zero, one-dvd                       every number divides 0, and 1 divides every number
--     dvd-add, dvd-sub                        a common divisor of a and b divides a + b and a − b
--     dvd-mul_left_of_dvd, dvd-mul_right_of_dvd  a divisor of a divides c · a and a · c
--     le_of_dvd, pos_of_dvd_of_pos            a divisor of a number above 0 is at most that number, and above 0
--     dvd-mod_iff                             a divisor of b divides a % b exactly when it divides a
--     k ∣ℤ z                                  k divides the integer z
--     ∣ℤ-zero, ∣ℤ-neg, ∣ℤ-add, ∣ℤ-sub         of 0, of −z, of a sum and of a difference
--     ∣ℤ-mul_left, ∣ℤ-mul_right               a divisor of z divides c · z and z · c
--     ∣ℤ-multiple                             k divides z · k
--     ∣ℤ-same_size                            two integers that divide each other have the same absolute value
--     ∣ℤ_quot                                 (z / k) · k = z where k divides z
--     quot_multiple                           (z · k) / k = z where k is above 0
--     abs-mul_is, abs-neg-is, abs-quot_is     the absolute value of a product, a negation and a quotient
--     abs-zero, abs_above_0                   it is 0 exactly for 0, and above 0 for an integer above 0
--
-- Example: from h : 3 ∣ℤ x and k : 3 ∣ℤ y, that 3 divides x + y is `∣ℤ-add 3 x y h k`; that x is three times its third is `∣ℤ_quot 3 x h : quot_z x (pos 3) *ℤ pos 3 ≡ x`.
-- Assumes nothing.
use Rattle.std.specs.Prelude.{◌≡◌, refl, ◌↔◌, ℕ, suc, ◌+◌, ◌-◌, ◌/◌, ◌<◌, ℤ, pos, negsuc, neg_ℤ, nat_abs, ◌+ℤ◌, ◌-ℤ◌, ◌*ℤ◌, ◌<ℤ◌}
use Rattle.std.proofs.Common.{ap, ◌∙◌, subst, arith}
use Rattle.std.specs.Int.{◌∣◌}
use Rattle.std.proofs.Math.Nat as NatL
use Rattle.std.proofs.Math.IntN.{*ℤ_comm}
use Rattle.std.specs.Int.Signed.{quot_z}
use Rattle.integers.specs.Parts.{pos_part, neg_part, parts_add, ints}
use Rattle.integers.specs.RingLaws.{neg-*ℤ}
use Rattle.integers.specs.OrderLaws.{*ℤ_cancel_≡}
pub use Rattle.std.proofs.Math.Nat.{dvd_refl, dvd_trans, dvd_antisymm, dvd-zero, one-dvd, dvd-add, dvd-sub, dvd-mul_left_of_dvd, dvd-mul_right_of_dvd, le_of_dvd, pos_of_dvd_of_pos, dvd-mod_iff}
pub use Rattle.integers.specs.Bounds.{abs-mul_is, abs-neg-is}

infix 50 ◌∣ℤ◌
abbrev pub ◌∣ℤ◌ : ℕ → ℤ → Type 0
k ∣ℤ z = k ∣ nat_abs z

-- ---- absolute values
pub abs-zero : (z : ℤ) → (nat_abs z ≡ 0) ↔ (z ≡ pos 0)
abs-zero (pos n) = (λ e. ap pos e, λ e. ap nat_abs e)
abs-zero (negsuc n) = (λ e. absurd (omega arith), λ e. absurd (omega ints))

pub abs_above_0 : (z : ℤ) → pos 0 <ℤ z → 0 < nat_abs z
abs_above_0 (pos n) h = omega ints
abs_above_0 (negsuc n) h = absurd h.lt

pub abs-quot_is : (z : ℤ) (k : ℕ) → nat_abs (quot_z z (pos k)) ≡ nat_abs z / k
abs-quot_is (pos a) k = refl
abs-quot_is (negsuc a) k = abs-neg-is (pos (suc a / k))

-- ---- sums
module _ (k : ℕ) where
  in_pos_part : (z : ℤ) → k ∣ℤ z → k ∣ pos_part z
  in_pos_part (pos n) h = h
  in_pos_part (negsuc n) h = dvd-zero k

  in_neg_part : (z : ℤ) → k ∣ℤ z → k ∣ neg_part z
  in_neg_part (pos n) h = dvd-zero k
  in_neg_part (negsuc n) h = h

  -- z = a − b
  of_difference : (a b : ℕ) (z : ℤ) → pos_part z + b ≡ neg_part z + a → k ∣ a → k ∣ b → k ∣ℤ z
  of_difference a b (pos n) e h g = let s : a - b ≡ n = omega arith in subst (λ m. k ∣ m) s (dvd-sub k h g)
  of_difference a b (negsuc n) e h g = let s : b - a ≡ suc n = omega arith in subst (λ m. k ∣ m) s (dvd-sub k g h)

  pub ∣ℤ-zero : k ∣ℤ pos 0
  ∣ℤ-zero = dvd-zero k

  pub ∣ℤ-neg : (z : ℤ) → k ∣ℤ z → k ∣ℤ neg_ℤ z
  ∣ℤ-neg z h = rw (abs-neg-is z) h

  pub ∣ℤ-add : (x y : ℤ) → k ∣ℤ x → k ∣ℤ y → k ∣ℤ (x +ℤ y)
  ∣ℤ-add x y h g =
      of_difference (pos_part x + pos_part y) (neg_part x + neg_part y) (x +ℤ y) (parts_add x y)
      (dvd-add k (in_pos_part x h) (in_pos_part y g))
      (dvd-add k (in_neg_part x h) (in_neg_part y g))

  pub ∣ℤ-sub : (x y : ℤ) → k ∣ℤ x → k ∣ℤ y → k ∣ℤ (x -ℤ y)
  ∣ℤ-sub x y h g = ∣ℤ-add x (neg_ℤ y) h (∣ℤ-neg y g)

  -- ---- products
  pub ∣ℤ-mul_left : (c z : ℤ) → k ∣ℤ z → k ∣ℤ (c *ℤ z)
  ∣ℤ-mul_left c z h = rw (abs-mul_is c z) (dvd-mul_left_of_dvd k h (nat_abs c))

  pub ∣ℤ-mul_right : (z c : ℤ) → k ∣ℤ z → k ∣ℤ (z *ℤ c)
  ∣ℤ-mul_right z c h = rw (abs-mul_is z c) (dvd-mul_right_of_dvd k h (nat_abs c))

  pub ∣ℤ-multiple : (z : ℤ) → k ∣ℤ (z *ℤ pos k)
  ∣ℤ-multiple z = ∣ℤ-mul_left z (pos k) (dvd_refl k)

  pub ∣ℤ_quot : (z : ℤ) → k ∣ℤ z → quot_z z (pos k) *ℤ pos k ≡ z
  ∣ℤ_quot (pos a) h = ap pos (NatL.div-mul_cancel k h)
  ∣ℤ_quot (negsuc a) h = neg-*ℤ (pos (suc a / k)) (pos k) ∙ ap (λ n. neg_ℤ (pos n)) (NatL.div-mul_cancel k h)

pub quot_multiple : (k : ℕ) → 0 < k → (z : ℤ) → quot_z (z *ℤ pos k) (pos k) ≡ z
quot_multiple k h z =
    let q = quot_z (z *ℤ pos k) (pos k) in
    *ℤ_cancel_≡ {a = q} {b = z} (pos k) (omega ints) (*ℤ_comm (pos k) q ∙ ∣ℤ_quot k (z *ℤ pos k) (∣ℤ-multiple k z) ∙ *ℤ_comm z (pos k))

pub ∣ℤ-same_size : (x y : ℤ) → nat_abs x ∣ℤ y → nat_abs y ∣ℤ x → nat_abs x ≡ nat_abs y
∣ℤ-same_size x y h g = dvd_antisymm h g
