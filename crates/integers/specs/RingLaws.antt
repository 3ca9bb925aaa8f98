-- The laws of the commutative ring ℤ that the toolchain's library lacks.
--
--     *ℤ-assoc                        (x · y) · z = x · (y · z)
--     *ℤ-+, +-*ℤ                      a product with a sum, on either side
--     neg-*ℤ, *ℤ-neg                  a product with a negation, on either side
--     _⊖_, ⊖-ind, ⊖-eq, ⊖-+, ⊖-neg, ⊖-*  an integer as a difference of naturals that does not compute, so that an identity of ℤ is one of ℕ
--
-- Example: an identity f x y ≡ g x y over ℤ is `⊖-ind _ λ a b. ⊖-ind _ λ c d. simp (⊖-*, ⊖-+) (⊖-eq _ _ _ _ (omega arith))`. `RingSolver` proves any identity without this.
-- Assumes nothing.
use Rattle.std.specs.Prelude.{◌≡◌, ℕ, ◌+◌, ◌*◌, ℤ, neg_ℤ, ◌+ℤ◌, ◌*ℤ◌}
use Rattle.std.proofs.Common.{ap, subst, arith}
use Rattle.std.proofs.Math.IntN.{sub_ℕ}
use Rattle.integers.specs.Parts.{pos_part, neg_part, parts_subℕ, parts_add, parts-mul, pos_part-neg, neg_part-neg, ≡_fromℕ}

-- ---- differences of naturals
infixl 6 ◌⊖◌
pub ◌⊖◌ : ℕ → ℕ → ℤ
a ⊖ b = sub_ℕ a b

⊖_PN : (a b : ℕ) → pos_part (a ⊖ b) + b ≡ a + neg_part (a ⊖ b)
unfolding ◌⊖◌
⊖_PN a b = parts_subℕ a b

pub ⊖-eq : (a b c d : ℕ) → a + d ≡ c + b → a ⊖ b ≡ c ⊖ d
⊖-eq a b c d h = ≡_fromℕ (a ⊖ b) (c ⊖ d) (omega (arith, ⊖_PN a b, ⊖_PN c d))

pub ⊖-parts : (z : ℤ) → pos_part z ⊖ neg_part z ≡ z
⊖-parts z = ≡_fromℕ (pos_part z ⊖ neg_part z) z (omega (arith, ⊖_PN (pos_part z) (neg_part z)))

pub ⊖-ind : (Quoted : ℤ → Type 0) → ((a b : ℕ) → Quoted (a ⊖ b)) → (z : ℤ) → Quoted z
⊖-ind Quoted f z = subst Quoted (⊖-parts z) (f (pos_part z) (neg_part z))

pub ⊖-+ : (a b c d : ℕ) → (a ⊖ b) +ℤ (c ⊖ d) ≡ (a + c) ⊖ (b + d)
⊖-+ a b c d = ≡_fromℕ _ _ (omega (arith, parts_add (a ⊖ b) (c ⊖ d), ⊖_PN a b, ⊖_PN c d, ⊖_PN (a + c) (b + d)))

pub ⊖-neg : (a b : ℕ) → neg_ℤ (a ⊖ b) ≡ b ⊖ a
⊖-neg a b = ≡_fromℕ _ _ (omega (arith, pos_part-neg (a ⊖ b), neg_part-neg (a ⊖ b), ⊖_PN a b, ⊖_PN b a))

-- (P₁ − N₁)(P₂ − N₂) with P₁ + b = a + N₁, P₂ + d = c + N₂
mul_nat : (p n q m a b c d : ℕ) → p + b ≡ a + n → q + d ≡ c + m → p * q + n * m + (a * d + b * c) ≡ p * m + n * q + (a * c + b * d)
mul_nat p n q m a b c d h k =
    omega (arith, ap (λ (t : ℕ). t * q) h, ap (λ (t : ℕ). t * m) h, ap (λ (t : ℕ). a * t) k, ap (λ (t : ℕ). b * t) k)

pub ⊖-* : (a b c d : ℕ) → (a ⊖ b) *ℤ (c ⊖ d) ≡ (a * c + b * d) ⊖ (a * d + b * c)
⊖-* a b c d = ≡_fromℕ _ _ (omega (arith, parts-mul (a ⊖ b) (c ⊖ d), mul_nat (pos_part (a ⊖ b)) (neg_part (a ⊖ b)) (pos_part (c ⊖ d)) (neg_part (c ⊖ d)) a b c d (⊖_PN a b) (⊖_PN c d), ⊖_PN (a * c + b * d) (a * d + b * c)))

-- ---- the ring
pub *ℤ-assoc : (x y z : ℤ) → (x *ℤ y) *ℤ z ≡ x *ℤ (y *ℤ z)
*ℤ-assoc = ⊖-ind _ λ a b. ⊖-ind _ λ c d. ⊖-ind _ λ e f. simp (⊖-*) (⊖-eq _ _ _ _ (omega arith))

pub *ℤ-+ : (x y z : ℤ) → x *ℤ (y +ℤ z) ≡ x *ℤ y +ℤ x *ℤ z
*ℤ-+ = ⊖-ind _ λ a b. ⊖-ind _ λ c d. ⊖-ind _ λ e f. simp (⊖-*, ⊖-+) (⊖-eq _ _ _ _ (omega arith))

pub +-*ℤ : (x y z : ℤ) → (x +ℤ y) *ℤ z ≡ x *ℤ z +ℤ y *ℤ z
+-*ℤ = ⊖-ind _ λ a b. ⊖-ind _ λ c d. ⊖-ind _ λ e f. simp (⊖-*, ⊖-+) (⊖-eq _ _ _ _ (omega arith))

pub neg-*ℤ : (x y : ℤ) → neg_ℤ x *ℤ y ≡ neg_ℤ (x *ℤ y)
neg-*ℤ = ⊖-ind _ λ a b. ⊖-ind _ λ c d. simp (⊖-*, ⊖-neg) (⊖-eq _ _ _ _ (omega arith))

pub *ℤ-neg : (x y : ℤ) → x *ℤ neg_ℤ y ≡ neg_ℤ (x *ℤ y)
*ℤ-neg = ⊖-ind _ λ a b. ⊖-ind _ λ c d. simp (⊖-*, ⊖-neg) (⊖-eq _ _ _ _ (omega arith))
