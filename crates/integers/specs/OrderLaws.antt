-- The laws of the ordered ring ℤ: ≤ℤ and <ℤ, decided, with sums and with products.
--
--     ≤ℤ-trans, <ℤ-trans, ≤ℤ_<ℤ-trans, ≤ℤ_antisym, <ℤ→≤ℤ, ≤ℤ_of_≡, ≤ℤ-<ℤ-⊥   the order
--     ≤ℤ_or_<ℤ, ≤ℤ-total, ≤ℤ-dec, <ℤ-dec                                     which of the two
--     <ℤ→suc≤ℤ, suc≤ℤ→<ℤ                                                     x < y as x + 1 ≤ y
--     sub-nonneg, nonneg-sub, sub-pos, pos-sub, +ℤ-mono                      differences and sums
--     neg-≤, un-≤, neg-<, un-<, neg_≤_iff, lt_z-neg                           negation turns the order about, to the negated numbers and from them, and the test x < y
--     nonneg_pos, mul-nonneg, mul-pos, square-nonneg, *ℤ-mono_l, *ℤ-mono_r   numbers that are not negative; products
--     pos_cancel_≤, pos_cancel_<, pos_cancel_≡, *ℤ_cancel_≤, *ℤ_cancel_<, *ℤ_cancel_≡   a positive factor cancelled
--     by_lt_z                                                                 a branch on the test x < y, by what the test says of x and y
--
-- Example: `elim (≤ℤ_or_<ℤ x y) [ inl h ↦ .. | inr h ↦ .. ]` goes by whether x ≤ y or y < x; with h : pos 0 <ℤ d and k : (d *ℤ a) ≤ℤ (d *ℤ b), `*ℤ_cancel_≤ d h k : a ≤ℤ b`.
-- Assumes nothing.
use Rattle.std.specs.Prelude.{◌≡◌, refl, ◌⊎◌, ◌↔◌, Bool, true, false, not, suc, ◌*◌, T, ℤ, pos, negsuc, neg_ℤ, nat_abs, ◌+ℤ◌, ◌-ℤ◌, ◌*ℤ◌, ◌≤ℤ◌, ◌<ℤ◌}
use Rattle.std.proofs.Common.{sym, ◌∙◌, ap, subst, inl, inr, arith}
use Rattle.std.proofs.Math.Nat as NatL
use Rattle.std.proofs.Math.IntN.{*ℤ_comm, neg_ℤ-neg_ℤ}
use Rattle.std.specs.Int.Signed.{le_z, lt_z, lt_z_no}
use Rattle.integers.specs.Booleans.{T_ext}
use Rattle.integers.specs.Parts.{parts_add, parts-sub, pos_part-neg, neg_part-neg, ≤_fromℕ, <_fromℕ, le_z_fromℕ, ints}
use Rattle.integers.specs.RingLaws.{*ℤ-+, *ℤ-neg}

-- ---- the order
pub ≤ℤ-trans : {x y z : ℤ} → x ≤ℤ y → y ≤ℤ z → x ≤ℤ z
≤ℤ-trans h k = omega ints

pub ≤ℤ_antisym : {x y : ℤ} → x ≤ℤ y → y ≤ℤ x → x ≡ y
≤ℤ_antisym h k = omega ints

pub <ℤ→≤ℤ : {x y : ℤ} → x <ℤ y → x ≤ℤ y
<ℤ→≤ℤ h = omega ints

pub ≤ℤ_<ℤ-trans : {x y z : ℤ} → x ≤ℤ y → y <ℤ z → x <ℤ z
≤ℤ_<ℤ-trans h k = omega ints

pub <ℤ-trans : {x y z : ℤ} → x <ℤ y → y <ℤ z → x <ℤ z
<ℤ-trans h k = omega ints

pub <ℤ→suc≤ℤ : {x y : ℤ} → x <ℤ y → (x +ℤ pos 1) ≤ℤ y
<ℤ→suc≤ℤ {x} h = omega (ints, parts_add x (pos 1))

pub +ℤ-mono : {a b c d : ℤ} → a ≤ℤ b → c ≤ℤ d → (a +ℤ c) ≤ℤ (b +ℤ d)
+ℤ-mono {a} {b} {c} {d} h k = omega (ints, parts_add a c, parts_add b d)

pub sub-nonneg : {a b : ℤ} → a ≤ℤ b → pos 0 ≤ℤ (b -ℤ a)
sub-nonneg {a} {b} h = omega (ints, parts-sub b a)

pub suc≤ℤ→<ℤ : {x y : ℤ} → (x +ℤ pos 1) ≤ℤ y → x <ℤ y
suc≤ℤ→<ℤ {x} h = omega (ints, parts_add x (pos 1))

pub nonneg-sub : {a b : ℤ} → pos 0 ≤ℤ (b -ℤ a) → a ≤ℤ b
nonneg-sub {a} {b} h = omega (ints, parts-sub b a)

pub sub-pos : {a b : ℤ} → a <ℤ b → pos 0 <ℤ (b -ℤ a)
sub-pos {a} {b} h = omega (ints, parts-sub b a)

pub pos-sub : {a b : ℤ} → pos 0 <ℤ (b -ℤ a) → a <ℤ b
pos-sub {a} {b} h = omega (ints, parts-sub b a)

pub ≤ℤ_of_≡ : {x y : ℤ} → x ≡ y → x ≤ℤ y
≤ℤ_of_≡ e = omega ints

pub ≤ℤ-<ℤ-⊥ : {x y : ℤ} → x ≤ℤ y → y <ℤ x → ⊥
≤ℤ-<ℤ-⊥ h k = omega ints

-- ---- negation
pub neg-≤ : {x y : ℤ} → x ≤ℤ y → neg_ℤ y ≤ℤ neg_ℤ x
neg-≤ {x} {y} h = omega (ints, pos_part-neg x, neg_part-neg x, pos_part-neg y, neg_part-neg y)

pub un-≤ : {x y : ℤ} → neg_ℤ y ≤ℤ neg_ℤ x → x ≤ℤ y
un-≤ {x} {y} h = omega (ints, pos_part-neg x, neg_part-neg x, pos_part-neg y, neg_part-neg y)

pub neg-< : {x y : ℤ} → x <ℤ y → neg_ℤ y <ℤ neg_ℤ x
neg-< {x} {y} h = omega (ints, pos_part-neg x, neg_part-neg x, pos_part-neg y, neg_part-neg y)

pub un-< : {x y : ℤ} → neg_ℤ y <ℤ neg_ℤ x → x <ℤ y
un-< {x} {y} h = omega (ints, pos_part-neg x, neg_part-neg x, pos_part-neg y, neg_part-neg y)

pub neg_≤_iff : (x y : ℤ) → (x ≤ℤ y) ↔ (neg_ℤ y ≤ℤ neg_ℤ x)
neg_≤_iff x y = (neg-≤, un-≤)

pub lt_z-neg : (x y : ℤ) → lt_z (neg_ℤ y) (neg_ℤ x) ≡ lt_z x y
lt_z-neg x y = T_ext (λ t. (un-< {x = x} {y = y} (record { lt = t })).lt) (λ t. (neg-< {x = x} {y = y} (record { lt = t })).lt)

-- ---- which of the two
pub ≤ℤ_or_<ℤ : (x y : ℤ) → (x ≤ℤ y) ⊎ (y <ℤ x)
≤ℤ_or_<ℤ x y = by (le_z x y) refl
  where
    by : (b : Bool) → le_z x y ≡ b → (x ≤ℤ y) ⊎ (y <ℤ x)
    by true e = inl (record { le = subst T (sym e) tt })
    by false e = inr (<_fromℕ y x (NatL.lt_of_not-le (λ h. subst T e (le_z_fromℕ x y h))))

pub ≤ℤ-total : (x y : ℤ) → (x ≤ℤ y) ⊎ (y ≤ℤ x)
≤ℤ-total x y = elim (≤ℤ_or_<ℤ x y) [ inl h ↦ inl h | inr h ↦ inr (<ℤ→≤ℤ h) ]

pub ≤ℤ-dec : (x y : ℤ) → Dec (x ≤ℤ y)
≤ℤ-dec x y = elim (≤ℤ_or_<ℤ x y) [ inl h ↦ yes h | inr h ↦ no (λ k. ≤ℤ-<ℤ-⊥ k h) ]

pub <ℤ-dec : (x y : ℤ) → Dec (x <ℤ y)
<ℤ-dec x y = elim (≤ℤ_or_<ℤ y x) [ inl h ↦ no (λ k. ≤ℤ-<ℤ-⊥ h k) | inr h ↦ yes h ]

-- ---- products
pub nonneg_pos : {x : ℤ} → pos 0 ≤ℤ x → x ≡ pos (nat_abs x)
nonneg_pos {x = pos n} h = refl
nonneg_pos {x = negsuc n} h = absurd h.le

pub mul-nonneg : {x y : ℤ} → pos 0 ≤ℤ x → pos 0 ≤ℤ y → pos 0 ≤ℤ (x *ℤ y)
mul-nonneg {x = pos a} {y = pos b} h k = ≤_fromℕ (pos 0) (pos (a * b)) (omega arith)
mul-nonneg {x = pos a} {y = negsuc b} h k = absurd k.le
mul-nonneg {x = negsuc a} {y} h k = absurd h.le

pub mul-pos : {x y : ℤ} → pos 0 <ℤ x → pos 0 <ℤ y → pos 0 <ℤ (x *ℤ y)
mul-pos {x = pos a} {y = pos b} h k = <_fromℕ (pos 0) (pos (a * b)) (omega (arith, NatL.one-le-mul {a = a} {b = b} (omega ints) (omega ints)))
mul-pos {x = pos a} {y = negsuc b} h k = absurd k.lt
mul-pos {x = negsuc a} {y} h k = absurd h.lt

pub square-nonneg : (x : ℤ) → pos 0 ≤ℤ (x *ℤ x)
square-nonneg (pos a) = ≤_fromℕ (pos 0) (pos (a * a)) (omega arith)
square-nonneg (negsuc a) = ≤_fromℕ (pos 0) (pos (suc a * suc a)) (omega arith)

-- cancelling a positive factor
pub pos_cancel_≤ : {m x : ℤ} → pos 0 <ℤ m → pos 0 ≤ℤ (m *ℤ x) → pos 0 ≤ℤ x
pos_cancel_≤ {m} {x} h k = ⊎-pick (≤ℤ_or_<ℤ (pos 0) x)
  where
    ⊎-pick : (pos 0 ≤ℤ x) ⊎ (x <ℤ pos 0) → pos 0 ≤ℤ x
    ⊎-pick (inl a) = a
    ⊎-pick (inr b) = absurd (≤ℤ-<ℤ-⊥ k (subst (λ z. z <ℤ pos 0) (neg_ℤ-neg_ℤ (m *ℤ x)) (neg-< (subst (λ z. pos 0 <ℤ z) (*ℤ-neg m x) (mul-pos h (neg-< b))))))

pub pos_cancel_< : {m x : ℤ} → pos 0 <ℤ m → pos 0 <ℤ (m *ℤ x) → pos 0 <ℤ x
pos_cancel_< {m} {x} h k = ⊎-pick (≤ℤ_or_<ℤ x (pos 0))
  where
    ⊎-pick : (x ≤ℤ pos 0) ⊎ (pos 0 <ℤ x) → pos 0 <ℤ x
    ⊎-pick (inl b) = absurd (≤ℤ-<ℤ-⊥ (un-≤ {y = pos 0} (subst (λ z. pos 0 ≤ℤ z) (*ℤ-neg m x) (mul-nonneg (<ℤ→≤ℤ h) (neg-≤ b)))) k)
    ⊎-pick (inr a) = a

-- monotone products
pub *ℤ-mono_l : {a b : ℤ} (k : ℤ) → pos 0 ≤ℤ k → a ≤ℤ b → (k *ℤ a) ≤ℤ (k *ℤ b)
*ℤ-mono_l {a} {b} k h l = nonneg-sub (subst (λ z. pos 0 ≤ℤ z) (*ℤ-+ k b (neg_ℤ a) ∙ ap (λ z. k *ℤ b +ℤ z) (*ℤ-neg k a)) (mul-nonneg h (sub-nonneg l)))

pub *ℤ-mono_r : {a b : ℤ} (k : ℤ) → pos 0 ≤ℤ k → a ≤ℤ b → (a *ℤ k) ≤ℤ (b *ℤ k)
*ℤ-mono_r {a} {b} k h l = rw (*ℤ_comm a k, *ℤ_comm b k) (*ℤ-mono_l k h l)

pub *ℤ_cancel_≤ : {a b : ℤ} (k : ℤ) → pos 0 <ℤ k → (k *ℤ a) ≤ℤ (k *ℤ b) → a ≤ℤ b
*ℤ_cancel_≤ {a} {b} k h l = nonneg-sub (pos_cancel_≤ {x = b -ℤ a} h (subst (λ z. pos 0 ≤ℤ z) (sym (*ℤ-+ k b (neg_ℤ a) ∙ ap (λ z. k *ℤ b +ℤ z) (*ℤ-neg k a))) (sub-nonneg l)))

pub *ℤ_cancel_< : {a b : ℤ} (k : ℤ) → pos 0 <ℤ k → (k *ℤ a) <ℤ (k *ℤ b) → a <ℤ b
*ℤ_cancel_< {a} {b} k h l = pos-sub (pos_cancel_< {x = b -ℤ a} h (subst (λ z. pos 0 <ℤ z) (sym (*ℤ-+ k b (neg_ℤ a) ∙ ap (λ z. k *ℤ b +ℤ z) (*ℤ-neg k a))) (sub-pos l)))

pub pos_cancel_≡ : {m x : ℤ} → pos 0 <ℤ m → m *ℤ x ≡ pos 0 → x ≡ pos 0
pos_cancel_≡ {m} {x} h e =
    ≤ℤ_antisym (un-≤ {y = pos 0} (pos_cancel_≤ {x = neg_ℤ x} h (≤ℤ_of_≡ (sym (*ℤ-neg m x ∙ ap neg_ℤ e))))) (pos_cancel_≤ {x = x} h (≤ℤ_of_≡ (sym e)))

pub *ℤ_cancel_≡ : {a b : ℤ} (k : ℤ) → pos 0 <ℤ k → k *ℤ a ≡ k *ℤ b → a ≡ b
*ℤ_cancel_≡ {a} {b} k h e = ≤ℤ_antisym (*ℤ_cancel_≤ {a = a} {b = b} k h (≤ℤ_of_≡ e)) (*ℤ_cancel_≤ {a = b} {b = a} k h (≤ℤ_of_≡ (sym e)))

-- ---- what a test says
pub by_lt_z : (C : Bool → Type 0) (x y : ℤ) → (x <ℤ y → C true) → (y ≤ℤ x → C false) → C (lt_z x y)
by_lt_z C x y f g = by (lt_z x y) refl
  where
    by : (b : Bool) → lt_z x y ≡ b → C b
    by true e = f (record { lt = subst T (sym e) tt })
    by false e = g (lt_z_no (subst (λ b. T (not b)) (sym e) tt))
