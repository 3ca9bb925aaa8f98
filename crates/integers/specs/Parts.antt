-- An integer as the difference of two natural numbers, its positive and its negative part, so that `omega`, which reads natural numbers only, proves linear facts of ℤ.
--
--     pos_part z, neg_part z            z = pos_part z − neg_part z, and one of the two is 0
--     parts_add, parts-sub, parts-mul what the parts of a sum, a difference and a product are
--     pos_part-neg, neg_part-neg        what those of −z are
--     ≤_toℕ, <_toℕ, ≡_toℕ             a fact of ℤ as one of ℕ
--     ≤_fromℕ, <_fromℕ, ≡_fromℕ       and back
--     ints                            the rules with which `omega` crosses by itself
--
-- Example: from h : x <ℤ y, that x + 1 ≤ y, is `omega (ints, parts_add x (pos 1))`. Each sum or product in the goal or in a fact is handed over so. `Solve` does this for whole statements; use that first.
-- Assumes nothing.
use Rattle.std.specs.Prelude.{◌≡◌, refl, Bool, true, false, not, cond, ℕ, zero, suc, ◌+◌, ◌*◌, ◌-◌, ◌<◌, ◌≤◌, T, ltb, ℤ, pos, negsuc, neg_ℤ, ◌+ℤ◌, ◌-ℤ◌, ◌*ℤ◌, ◌≤ℤ◌, ◌<ℤ◌}
use Rattle.std.proofs.Common.{ap, subst, arith, ltb→lt, nltb→le, lt→ltb, le→leb, leb→le}
use Rattle.std.proofs.Math.IntN.{sub_ℕ}
use Rattle.std.specs.Int.Signed.{le_z, lt_z}

abbrev pub pos_part : ℤ → ℕ
pos_part (pos n) = n
pos_part (negsuc n) = zero

abbrev pub neg_part : ℤ → ℕ
neg_part (pos n) = zero
neg_part (negsuc n) = suc n

cond_ind : (c : Bool) (x y : ℤ) (Quoted : ℤ → Type 0) → (T c → Quoted x) → (T (not c) → Quoted y) → Quoted (cond c x y)
cond_ind true x y Quoted f g = f tt
cond_ind false x y Quoted f g = g tt

pub parts_subℕ : (a b : ℕ) → pos_part (sub_ℕ a b) + b ≡ a + neg_part (sub_ℕ a b)
parts_subℕ a b = cond_ind (ltb a b) (negsuc (b - suc a)) (pos (a - b)) (λ z. pos_part z + b ≡ a + neg_part z)
    (λ t. let h : a < b = ltb→lt a b t in omega arith)
    (λ t. let h : b ≤ a = nltb→le a b t in omega arith)

-- ---- to ℕ and back
pub ≡_fromℕ : (x y : ℤ) → pos_part x + neg_part y ≡ pos_part y + neg_part x → x ≡ y
≡_fromℕ (pos a) (pos b) h = ap pos (omega arith)
≡_fromℕ (pos a) (negsuc b) h = absurd (omega arith)
≡_fromℕ (negsuc a) (pos b) h = absurd (omega arith)
≡_fromℕ (negsuc a) (negsuc b) h = ap negsuc (omega arith)

pub ≡_toℕ : {x y : ℤ} → x ≡ y → pos_part x + neg_part y ≡ pos_part y + neg_part x
≡_toℕ {x} {y} e = subst (λ z. pos_part x + neg_part z ≡ pos_part z + neg_part x) e refl

pub le_z_fromℕ : (x y : ℤ) → pos_part x + neg_part y ≤ pos_part y + neg_part x → T (le_z x y)
le_z_fromℕ (pos a) (pos b) h = le→leb a b (omega arith)
le_z_fromℕ (pos a) (negsuc b) h = absurd (omega arith)
le_z_fromℕ (negsuc a) (pos b) h = tt
le_z_fromℕ (negsuc a) (negsuc b) h = le→leb b a (omega arith)

pub ≤_fromℕ : (x y : ℤ) → pos_part x + neg_part y ≤ pos_part y + neg_part x → x ≤ℤ y
≤_fromℕ x y h = record { le = le_z_fromℕ x y h }

le_z_toℕ : (x y : ℤ) → T (le_z x y) → pos_part x + neg_part y ≤ pos_part y + neg_part x
le_z_toℕ (pos a) (pos b) t = let h : a ≤ b = leb→le a b t in omega arith
le_z_toℕ (pos a) (negsuc b) t = absurd t
le_z_toℕ (negsuc a) (pos b) t = omega arith
le_z_toℕ (negsuc a) (negsuc b) t = let h : b ≤ a = leb→le b a t in omega arith

pub ≤_toℕ : {x y : ℤ} → x ≤ℤ y → pos_part x + neg_part y ≤ pos_part y + neg_part x
≤_toℕ {x} {y} h = le_z_toℕ x y h.le

lt_z_fromℕ : (x y : ℤ) → pos_part x + neg_part y < pos_part y + neg_part x → T (lt_z x y)
lt_z_fromℕ (pos a) (pos b) h = lt→ltb a b (omega arith)
lt_z_fromℕ (pos a) (negsuc b) h = absurd (omega arith)
lt_z_fromℕ (negsuc a) (pos b) h = tt
lt_z_fromℕ (negsuc a) (negsuc b) h = lt→ltb b a (omega arith)

pub <_fromℕ : (x y : ℤ) → pos_part x + neg_part y < pos_part y + neg_part x → x <ℤ y
<_fromℕ x y h = record { lt = lt_z_fromℕ x y h }

lt_z_toℕ : (x y : ℤ) → T (lt_z x y) → pos_part x + neg_part y < pos_part y + neg_part x
lt_z_toℕ (pos a) (pos b) t = let h : a < b = ltb→lt a b t in omega arith
lt_z_toℕ (pos a) (negsuc b) t = absurd t
lt_z_toℕ (negsuc a) (pos b) t = omega arith
lt_z_toℕ (negsuc a) (negsuc b) t = let h : b < a = ltb→lt b a t in omega arith

pub <_toℕ : {x y : ℤ} → x <ℤ y → pos_part x + neg_part y < pos_part y + neg_part x
<_toℕ {x} {y} h = lt_z_toℕ x y h.lt

-- ---- the parts of a sum, a negation, a product
pub parts_add : (x y : ℤ) → pos_part (x +ℤ y) + (neg_part x + neg_part y) ≡ neg_part (x +ℤ y) + (pos_part x + pos_part y)
parts_add (pos a) (pos b) = omega arith
parts_add (pos a) (negsuc b) = omega (arith, parts_subℕ a (suc b))
parts_add (negsuc a) (pos b) = omega (arith, parts_subℕ b (suc a))
parts_add (negsuc a) (negsuc b) = omega arith

pub pos_part-neg : (x : ℤ) → pos_part (neg_ℤ x) ≡ neg_part x
pos_part-neg (pos zero) = refl
pos_part-neg (pos (suc n)) = refl
pos_part-neg (negsuc n) = refl

pub neg_part-neg : (x : ℤ) → neg_part (neg_ℤ x) ≡ pos_part x
neg_part-neg (pos zero) = refl
neg_part-neg (pos (suc n)) = refl
neg_part-neg (negsuc n) = refl

pub parts-sub : (x y : ℤ) → pos_part (x -ℤ y) + (neg_part x + pos_part y) ≡ neg_part (x -ℤ y) + (pos_part x + neg_part y)
parts-sub x y = omega (arith, parts_add x (neg_ℤ y), pos_part-neg y, neg_part-neg y)

pub parts-mul : (x y : ℤ) → pos_part (x *ℤ y) + (pos_part x * neg_part y + neg_part x * pos_part y) ≡ neg_part (x *ℤ y) + (pos_part x * pos_part y + neg_part x * neg_part y)
parts-mul (pos a) (pos b) = omega arith
parts-mul (pos a) (negsuc b) = omega (arith, pos_part-neg (pos (a * suc b)), neg_part-neg (pos (a * suc b)))
parts-mul (negsuc a) (pos b) = omega (arith, pos_part-neg (pos (suc a * b)), neg_part-neg (pos (suc a * b)))
parts-mul (negsuc a) (negsuc b) = omega arith

-- ---- linear facts of ℤ by `omega ints`
pub ruleset ints = (arith, ≤_toℕ, <_toℕ, ≡_toℕ, ≤_fromℕ, <_fromℕ, ≡_fromℕ)
