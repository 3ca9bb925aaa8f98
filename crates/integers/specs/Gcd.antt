-- The greatest common divisor of two natural numbers, by Euclid's rule.
--
--     gcd a b                                 the greatest common divisor; gcd 0 0 is 0
--     gcd-zero, gcd-step, gcd_step_above_0    gcd a 0 = a; gcd a b = gcd b (a % b), for b = c + 1 or for b above 0: what a program has to know of a step
--     IsGcd a b g                             g divides a and b, and every common divisor divides g
--     gcd-is                                  gcd a b is such a g
--     gcd-only                                and there is only one
--     gcd-left, gcd-right, gcd-greatest       the three parts of `gcd-is`
--     gcd-comm, gcd-zero_left                 gcd a b = gcd b a; gcd 0 b = b
--     gcd-mul                                 gcd (k · a) (k · b) = k · gcd a b
--     gcd_above_0_left, gcd_above_0_right     it is above 0 where a is, or where b is
--     gcd-le_left, gcd-le_right               it is then at most that number
--     euclid n a b                            Euclid's rule with at most n calls
--     euclid-enough                           from b + 1 on, the number of calls that are allowed does not matter
--
-- Example: gcd 12 18 computes to 6. That a loop or recursion gives gcd a b needs `gcd-zero` at the end and `gcd_step_above_0` at each step; that 5 divides gcd a b follows by `gcd-greatest 5 h k` from h : 5 ∣ a and k : 5 ∣ b.
-- Assumes nothing.
use Rattle.std.specs.Prelude.{◌≡◌, refl, ℕ, zero, suc, ◌*◌, ◌/◌, ◌%◌, ◌<◌, ◌≤◌}
use Rattle.std.proofs.Common.{sym, ap, ◌∙◌, arith}
use Rattle.std.specs.Int.{◌∣◌}
use Rattle.std.proofs.Math.Nat as NatL
use Rattle.integers.specs.Divides.{dvd_refl, dvd-zero, dvd_antisymm, dvd-mod_iff, le_of_dvd, pos_of_dvd_of_pos}

-- ---- the definition
unfoldable pub euclid : ℕ → ℕ → ℕ → ℕ
euclid zero a b = a
euclid (suc n) a zero = a
euclid (suc n) a (suc b) = euclid n (suc b) (a % suc b)

unfoldable pub gcd : ℕ → ℕ → ℕ
gcd a b = euclid (suc b) a b

pub record IsGcd (a b g : ℕ) : Type 0 where
  pub left : g ∣ a
  pub right : g ∣ b
  pub greatest : (k : ℕ) → k ∣ a → k ∣ b → k ∣ g

-- ---- the recursion
pub euclid-enough : (m n a b : ℕ) → b < m → b < n → euclid m a b ≡ euclid n a b
unfolding euclid
euclid-enough zero n a b h k = absurd (omega arith)
euclid-enough (suc m) zero a b h k = absurd (omega arith)
euclid-enough (suc m) (suc n) a zero h k = refl
euclid-enough (suc m) (suc n) a (suc b) h k =
    let r : a % suc b < suc b = NatL.mod-lt a (omega arith) in
    euclid-enough m n (suc b) (a % suc b) (omega arith) (omega arith)

pub gcd-zero : (a : ℕ) → gcd a 0 ≡ a
unfolding gcd euclid
gcd-zero a = refl

pub gcd-step : (a b : ℕ) → gcd a (suc b) ≡ gcd (suc b) (a % suc b)
unfolding gcd euclid
gcd-step a b =
    let r : a % suc b < suc b = NatL.mod-lt a (omega arith) in
    euclid-enough (suc b) (suc (a % suc b)) (suc b) (a % suc b) r (omega arith)

pub gcd_step_above_0 : (a b : ℕ) → 0 < b → gcd a b ≡ gcd b (a % b)
gcd_step_above_0 a zero h = absurd (omega arith)
gcd_step_above_0 a (suc b) h = gcd-step a b

-- ---- it is the greatest common divisor
euclid-is : (n a b : ℕ) → b < n → IsGcd a b (euclid n a b)
unfolding euclid
euclid-is zero a b h = absurd (omega arith)
euclid-is (suc n) a zero h = record { left = dvd_refl a; right = dvd-zero a; greatest = λ k x y. x }
euclid-is (suc n) a (suc b) h =
    let r : a % suc b < suc b = NatL.mod-lt a (omega arith) in
    let g = euclid-is n (suc b) (a % suc b) (omega arith) in
    record {
      left = (dvd-mod_iff (euclid n (suc b) (a % suc b)) g.left).0 g.right;
      right = g.left;
      greatest = λ k x y. g.greatest k y ((dvd-mod_iff k y).1 x);
    }

pub gcd-is : (a b : ℕ) → IsGcd a b (gcd a b)
unfolding gcd
gcd-is a b = euclid-is (suc b) a b (omega arith)

pub gcd-left : (a b : ℕ) → gcd a b ∣ a
gcd-left a b = (gcd-is a b).left

pub gcd-right : (a b : ℕ) → gcd a b ∣ b
gcd-right a b = (gcd-is a b).right

pub gcd-greatest : {a b : ℕ} (k : ℕ) → k ∣ a → k ∣ b → k ∣ gcd a b
gcd-greatest {a} {b} k x y = (gcd-is a b).greatest k x y

pub gcd-only : {a b g : ℕ} → IsGcd a b g → gcd a b ≡ g
gcd-only {a} {b} {g} h = dvd_antisymm (h.greatest (gcd a b) (gcd-left a b) (gcd-right a b)) (gcd-greatest g h.left h.right)

-- ---- laws
pub gcd-comm : (a b : ℕ) → gcd a b ≡ gcd b a
gcd-comm a b = gcd-only (record { left = gcd-right b a; right = gcd-left b a; greatest = λ k x y. gcd-greatest k y x })

pub gcd-zero_left : (b : ℕ) → gcd 0 b ≡ b
gcd-zero_left b = gcd-comm 0 b ∙ gcd-zero b

pub gcd-mul : (k a b : ℕ) → gcd (k * a) (k * b) ≡ k * gcd a b
gcd-mul zero a b = ap (λ n. gcd n (zero * b)) (NatL.zero-mul a) ∙ ap (gcd 0) (NatL.zero-mul b) ∙ gcd-zero 0 ∙ sym (NatL.zero-mul (gcd a b))
gcd-mul (suc j) a b = dvd_antisymm at_most (gcd-greatest (k * gcd a b) (NatL.mul-dvd-mul_left (gcd a b) k (gcd-left a b)) (NatL.mul-dvd-mul_left (gcd a b) k (gcd-right a b)))
  where
    k : ℕ
    k = suc j

    g : ℕ
    g = gcd (k * a) (k * b)

    -- k divides both, hence g: g is k times some m, and that m divides a and b
    k_times : k * (g / k) ≡ g
    k_times = NatL.mul-div_cancel' k (gcd-greatest k (NatL.dvd-mul_right k a) (NatL.dvd-mul_right k b))

    part : (c : ℕ) → g ∣ k * c → g / k ∣ c
    part c h = NatL.dvd_of_mul-dvd-mul_left (g / k) (NatL.zero-lt-suc j) (rw k_times h)

    at_most : g ∣ k * gcd a b
    at_most = rw k_times at (NatL.mul-dvd-mul_left (g / k) k (gcd-greatest (g / k) (part a (gcd-left (k * a) (k * b))) (part b (gcd-right (k * a) (k * b)))))

pub gcd_above_0_left : (a b : ℕ) → 0 < a → 0 < gcd a b
gcd_above_0_left a b h = pos_of_dvd_of_pos (gcd-left a b) h

pub gcd_above_0_right : (a b : ℕ) → 0 < b → 0 < gcd a b
gcd_above_0_right a b h = pos_of_dvd_of_pos (gcd-right a b) h

pub gcd-le_left : (a b : ℕ) → 0 < a → gcd a b ≤ a
gcd-le_left a b h = le_of_dvd h (gcd-left a b)

pub gcd-le_right : (a b : ℕ) → 0 < b → gcd a b ≤ b
gcd-le_right a b h = le_of_dvd h (gcd-right a b)
