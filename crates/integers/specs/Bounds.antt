-- Bounds of integers, and what fits a machine's width by them.
--
--     Within A z                          |z| ≤ A, as `Within 268435456 u` in a contract
--     in_add, in_sub, in_neg, in_mul      |x + y| ≤ A + B and so on: `in_add hx hy : Within (A + B) (x +ℤ y)`
--     in_lit, in_wide, in_up              of a literal; a wider bound, by a test (`in_wide h tt`) or by a proof (`in_up h (omega arith)`)
--     in_of, in_nonneg, in_below          from −A ≤ z ≤ A, 0 ≤ z ≤ A, 0 ≤ z < A: `in_nonneg since until : Within A z`
--     in_le, in_ge                        from it z ≤ A, and −A ≤ z: `in_le h : z ≤ℤ pos A`
--     fits                                what fits a signed width by it: `fits h tt : SFits w64 z`
--
--     Between L H z                       −L ≤ z ≤ H, the bounds that `Machine` computes with
--     between-add, -neg, -mul, -lit, -wide  of a sum and so on: `between-mul hp ht : Between .. .. (p *ℤ t)`
--     within-between, between-within      the two kinds of bound, each from the other
--     nonneg-between, nonneg-below        from 0 ≤ z ≤ A, 0 ≤ z < B: `nonneg-between since until : Between 0 4294967295 t`
--     nat_between, nat_below              from n ≤ A, n < B, of the integer `pos n`
--     unsigned-between, signed-between    from Fits w n, of `pos n`, and from SFits w z: `unsigned-between c.fits.n : Between 0 4294967295 (pos n)` for a u32
--     nonneg-signed                       from SFits w z and 0 ≤ z
--     between-nonneg, between-fits        to 0 ≤ z, and to SFits w z
--
--     sfits-≤, ≤-sfits                    SFits w z as −2^(w−1) ≤ z < 2^(w−1)
--     abs-<, <-abs                        |z| < B as −B < z < B
--     non_neg-≤                            the test `non_neg z` as 0 ≤ z
--     abs-neg-is, abs-sub-is, abs-mul_is  |−z| = |z|, |x − y| = |y − x|, |x y| = |x| |y|
-- Assumes nothing.
use Rattle.std.specs.Prelude.{◌≡◌, refl, ℕ, zero, suc, ◌+◌, ◌*◌, ◌-◌, ◌^◌, ◌≤◌, ◌<◌, max, T, leb, ltb, ℤ, pos, negsuc, neg_ℤ, nat_abs, ◌+ℤ◌, ◌-ℤ◌, ◌*ℤ◌, ◌≤ℤ◌, ◌<ℤ◌}
use Rattle.std.proofs.Common.{◌∙◌, ap, arith, leb→le, ltb→lt, pow_pos}
use Rattle.std.proofs.Math.Nat as NatL
use Rattle.std.specs.Int.Signed.{mag, non_neg}
use Rattle.std.specs.Int.{Width}
use mir.Val.{SFits, Fits, bits, hbits}
use Rattle.integers.specs.Parts.{pos_part, neg_part, parts_add, parts-sub, pos_part-neg, neg_part-neg, ints, ≡_fromℕ}

abs-parts : (z : ℤ) → nat_abs z ≡ pos_part z + neg_part z
abs-parts (pos n) = omega arith
abs-parts (negsuc n) = omega arith

pub abs-neg-is : (z : ℤ) → nat_abs (neg_ℤ z) ≡ nat_abs z
abs-neg-is (pos zero) = refl
abs-neg-is (pos (suc n)) = refl
abs-neg-is (negsuc n) = refl

pub abs-mul_is : (x y : ℤ) → nat_abs (x *ℤ y) ≡ nat_abs x * nat_abs y
abs-mul_is (pos a) (pos b) = refl
abs-mul_is (pos a) (negsuc b) = abs-neg-is (pos (a * suc b))
abs-mul_is (negsuc a) (pos b) = abs-neg-is (pos (suc a * b))
abs-mul_is (negsuc a) (negsuc b) = refl

pub abs-sub-is : (x y : ℤ) → nat_abs (x -ℤ y) ≡ nat_abs (y -ℤ x)
abs-sub-is x y =
    ap nat_abs (≡_fromℕ (x -ℤ y) (neg_ℤ (y -ℤ x)) (omega (arith, parts-sub x y, parts-sub y x, pos_part-neg (y -ℤ x), neg_part-neg (y -ℤ x)))) ∙ abs-neg-is (y -ℤ x)

-- the parts of a sum are no larger than those of its terms
parts_add-le : (x y : ℤ) → (pos_part (x +ℤ y) ≤ pos_part x + pos_part y) × (neg_part (x +ℤ y) ≤ neg_part x + neg_part y)
parts_add-le x y = go (x +ℤ y) (parts_add x y)
  where
    go : (z : ℤ) → pos_part z + (neg_part x + neg_part y) ≡ neg_part z + (pos_part x + pos_part y) → (pos_part z ≤ pos_part x + pos_part y) × (neg_part z ≤ neg_part x + neg_part y)
    go (pos n) e = omega arith
    go (negsuc n) e = omega arith

-- one of the two is 0
abs-le : (z : ℤ) {A : ℕ} → pos_part z ≤ A → neg_part z ≤ A → nat_abs z ≤ A
abs-le (pos n) h k = h
abs-le (negsuc n) h k = k

-- ---- |z| ≤ A. A record, so that z and A are read off a hypothesis
pub record Within (A : ℕ) (z : ℤ) : Type 0 where
  pub within : nat_abs z ≤ A

pub in_add : {x y : ℤ} {A B : ℕ} → Within A x → Within B y → Within (A + B) (x +ℤ y)
in_add {x} {y} h k = record { within = abs-le (x +ℤ y) (omega (arith, parts_add-le x y, abs-parts x, abs-parts y)) (omega (arith, parts_add-le x y, abs-parts x, abs-parts y)) }

pub in_neg : {x : ℤ} {A : ℕ} → Within A x → Within A (neg_ℤ x)
in_neg {x} h = record { within = omega (arith, abs-neg-is x) }

pub in_sub : {x y : ℤ} {A B : ℕ} → Within A x → Within B y → Within (A + B) (x -ℤ y)
in_sub h k = in_add h (in_neg k)

pub in_mul : {x y : ℤ} {A B : ℕ} → Within A x → Within B y → Within (A * B) (x *ℤ y)
in_mul {x} {y} h k = record { within = omega (arith, abs-mul_is x y, NatL.mul-le-mul h.within k.within) }

pub in_lit : (z : ℤ) → Within (nat_abs z) z
in_lit z = record { within = omega arith }

pub in_wide : {z : ℤ} {A B : ℕ} → Within A z → T (leb A B) → Within B z
in_wide {z} {A} {B} h t = record { within = omega (arith, leb→le A B t) }

pub in_up : {z : ℤ} {A B : ℕ} → Within A z → A ≤ B → Within B z
in_up h k = record { within = omega arith }

pub in_of : {z : ℤ} {A : ℕ} → neg_ℤ (pos A) ≤ℤ z → z ≤ℤ pos A → Within A z
in_of {z = pos n} {A} h k = record { within = omega ints }
in_of {z = negsuc n} {A} h k = record { within = omega (ints, pos_part-neg (pos A), neg_part-neg (pos A)) }

pub in_nonneg : {z : ℤ} {A : ℕ} → pos 0 ≤ℤ z → z ≤ℤ pos A → Within A z
in_nonneg {z = pos n} {A} h k = record { within = omega ints }
in_nonneg {z = negsuc n} {A} h k = absurd h.le

pub in_below : {z : ℤ} {A : ℕ} → pos 0 ≤ℤ z → z <ℤ pos A → Within A z
in_below {z = pos n} {A} h k = record { within = omega ints }
in_below {z = negsuc n} {A} h k = absurd h.le

pub in_le : {z : ℤ} {A : ℕ} → Within A z → z ≤ℤ pos A
in_le {z} h = omega (ints, abs-parts z)

pub in_ge : {z : ℤ} {A : ℕ} → Within A z → neg_ℤ (pos A) ≤ℤ z
in_ge {z} {A} h = omega (ints, abs-parts z, pos_part-neg (pos A), neg_part-neg (pos A))

-- ---- −L ≤ z ≤ H
pub record Between (L H : ℕ) (z : ℤ) : Type 0 where
  pub low : neg_part z ≤ L
  pub high : pos_part z ≤ H

pub within-between : {z : ℤ} {A : ℕ} → Within A z → Between A A z
within-between {z} h = record { low = omega (arith, abs-parts z); high = omega (arith, abs-parts z) }

pub between-within : {z : ℤ} {L H : ℕ} → Between L H z → Within (max L H) z
between-within {z} h = record { within = abs-le z (omega arith) (omega arith) }

pub between-wide : {z : ℤ} {L H M J : ℕ} → Between L H z → L ≤ M → H ≤ J → Between M J z
between-wide h p q = record { low = omega arith; high = omega arith }

pub between-add : {x y : ℤ} {L H M J : ℕ} → Between L H x → Between M J y → Between (L + M) (H + J) (x +ℤ y)
between-add {x} {y} h k = record { low = omega (arith, parts_add-le x y); high = omega (arith, parts_add-le x y) }

pub between-neg : {x : ℤ} {L H : ℕ} → Between L H x → Between H L (neg_ℤ x)
between-neg {x} h = record { low = omega (arith, neg_part-neg x); high = omega (arith, pos_part-neg x) }

-- the largest products of one sign are those of the bounds
pub between-mul : {x y : ℤ} {L H M J : ℕ} → Between L H x → Between M J y → Between (max (L * J) (H * M)) (max (L * M) (H * J)) (x *ℤ y)
between-mul {x = pos a} {y = pos b} h k = record { low = omega arith; high = omega (arith, NatL.mul-le-mul h.high k.high) }
between-mul {x = pos a} {y = negsuc b} h k =
    record { low = omega (arith, neg_part-neg (pos (a * suc b)), NatL.mul-le-mul h.high k.low); high = omega (arith, pos_part-neg (pos (a * suc b))) }
between-mul {x = negsuc a} {y = pos b} h k =
    record { low = omega (arith, neg_part-neg (pos (suc a * b)), NatL.mul-le-mul h.low k.high); high = omega (arith, pos_part-neg (pos (suc a * b))) }
between-mul {x = negsuc a} {y = negsuc b} h k = record { low = omega arith; high = omega (arith, NatL.mul-le-mul h.low k.low) }

pub between-lit : (z : ℤ) → Between (neg_part z) (pos_part z) z
between-lit z = record { low = omega arith; high = omega arith }

pub nat_between : {n A : ℕ} → n ≤ A → Between 0 A (pos n)
nat_between h = record { low = omega arith; high = h }

pub nat_below : {n B : ℕ} → n < B → Between 0 (B - 1) (pos n)
nat_below h = record { low = omega arith; high = omega arith }

pub nonneg-between : {z : ℤ} {A : ℕ} → pos 0 ≤ℤ z → z ≤ℤ pos A → Between 0 A z
nonneg-between {z = pos n} h k = record { low = omega ints; high = omega ints }
nonneg-between {z = negsuc n} h k = absurd h.le

pub nonneg-below : {z : ℤ} {B : ℕ} → pos 0 ≤ℤ z → z <ℤ pos B → Between 0 (B - 1) z
nonneg-below {z = pos n} h k = record { low = omega ints; high = omega ints }
nonneg-below {z = negsuc n} h k = absurd h.le

pub between-nonneg : {z : ℤ} {A : ℕ} → Between 0 A z → pos 0 ≤ℤ z
between-nonneg h = omega ints

-- ---- what a width holds
pub unsigned-between : {w : Width} {n : ℕ} → Fits w n → Between 0 (2 ^ bits w - 1) (pos n)
unsigned-between h = record { low = omega arith; high = omega arith }

mag-parts : (z : ℤ) {B : ℕ} → mag z < B → (neg_part z ≤ B) × (pos_part z ≤ B - 1)
mag-parts (pos n) h = omega arith
mag-parts (negsuc n) h = omega arith

parts-mag : (z : ℤ) {B : ℕ} → neg_part z ≤ B → pos_part z < B → mag z < B
parts-mag (pos n) h k = k
parts-mag (negsuc n) h k = h

pub signed-between : {w : Width} {z : ℤ} → SFits w z → Between (2 ^ hbits w) (2 ^ hbits w - 1) z
signed-between {w} {z} h = let p = mag-parts z h.sfits in record { low = p.0; high = p.1 }

pub nonneg-signed : {w : Width} {z : ℤ} → SFits w z → pos 0 ≤ℤ z → Between 0 (2 ^ hbits w - 1) z
nonneg-signed {w} {z} h k = let b = signed-between h in record { low = neg_part-0 z k; high = b.high }
  where
    neg_part-0 : (z : ℤ) → pos 0 ≤ℤ z → neg_part z ≤ 0
    neg_part-0 (pos n) k = omega arith
    neg_part-0 (negsuc n) k = absurd k.le

pub between-fits : {w : Width} {z : ℤ} {L H : ℕ} → Between L H z → L ≤ 2 ^ hbits w → H < 2 ^ hbits w → SFits w z
between-fits {w} {z} h p q = record { sfits = parts-mag z (omega arith) (omega arith) }

pub fits : {w : Width} {z : ℤ} {A : ℕ} → Within A z → T (ltb A (2 ^ hbits w)) → SFits w z
fits {w} {z} {A} h t = let k = ltb→lt A (2 ^ hbits w) t in between-fits (within-between h) (omega arith) k

-- ---- the same as orders of ℤ
pub sfits-≤ : {w : Width} {z : ℤ} → SFits w z → (neg_ℤ (pos (2 ^ hbits w)) ≤ℤ z) × (z <ℤ pos (2 ^ hbits w))
sfits-≤ {w} {z} h = let b = signed-between h in let p = pow_pos (hbits w) in (omega (ints, pos_part-neg (pos (2 ^ hbits w)), neg_part-neg (pos (2 ^ hbits w))), omega ints)

pub ≤-sfits : {w : Width} {z : ℤ} → neg_ℤ (pos (2 ^ hbits w)) ≤ℤ z → z <ℤ pos (2 ^ hbits w) → SFits w z
≤-sfits {w} {z = pos n} h k = record { sfits = omega ints }
≤-sfits {w} {z = negsuc n} h k = record { sfits = omega (ints, pos_part-neg (pos (2 ^ hbits w)), neg_part-neg (pos (2 ^ hbits w))) }

pub abs-< : {z : ℤ} {B : ℕ} → nat_abs z < B → (neg_ℤ (pos B) <ℤ z) × (z <ℤ pos B)
abs-< {z} {B} h = (omega (ints, abs-parts z, pos_part-neg (pos B), neg_part-neg (pos B)), omega (ints, abs-parts z))

pub <-abs : {z : ℤ} {B : ℕ} → neg_ℤ (pos B) <ℤ z → z <ℤ pos B → nat_abs z < B
<-abs {z = pos n} {B} h k = omega ints
<-abs {z = negsuc n} {B} h k = omega (ints, pos_part-neg (pos B), neg_part-neg (pos B))

pub non_neg-≤ : {z : ℤ} → T (non_neg z) → pos 0 ≤ℤ z
non_neg-≤ {z = pos n} t = omega ints
non_neg-≤ {z = negsuc n} t = absurd t
