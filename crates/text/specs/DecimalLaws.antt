-- Laws of decimal numbers, as code makes them.
--
--     decimal-small          a number below 10 is one digit
--     decimal-more           any other is its quotient by 10 with one digit more
--     by_digits              what holds of the numbers below 10, and of any other if of its quotient by 10, holds of all
--     length-small, length_more  a number below 10 has one digit, and any other one more than its quotient by 10
--     decimal-long           a number below 10 ^ k has at most k digits, for k from 1 on
--
-- Assumes nothing.
use Rattle.std.specs.Prelude.{ℕ, zero, suc, ◌+◌, ◌/◌, ◌%◌, ◌^◌, ◌≤◌, ◌<◌, ◌≡◌, refl, Bool, true, false, List, [], ◌∷◌, ◌++◌, ltb, length}
use Rattle.std.proofs.Common.{sym, ap, ◌∙◌, arith, ltb-true, ltb-false, lt-ltb, le-ltb, length-append}
use Rattle.definitions.specs.Report.{digits_within, decimal}

abbrev digit : ℕ → List ℕ
digit n = (48 + n % 10) ∷ []

within-small : (k n : ℕ) → n < 10 → digits_within (suc k) n ≡ (48 + n) ∷ []
unfolding digits_within
within-small k n h = rw (lt-ltb n 10 h) refl

within_more : (k n : ℕ) → 10 ≤ n → digits_within (suc k) n ≡ digits_within k (n / 10) ++ digit n
unfolding digits_within
within_more k n h = rw (le-ltb n 10 h) refl

-- room for more digits than there are changes nothing
stable : (j k n : ℕ) → n < j → n < k → digits_within j n ≡ digits_within k n
stable zero k n h g = absurd (omega arith)
stable (suc j) zero n h g = absurd (omega arith)
stable (suc j) (suc k) n h g = by (λ large. stable j k (n / 10) (omega (arith, large)) (omega (arith, large))) (ltb n 10) refl
  where
    by : (10 ≤ n → digits_within j (n / 10) ≡ digits_within k (n / 10)) → (t : Bool) → ltb n 10 ≡ t → digits_within (suc j) n ≡ digits_within (suc k) n
    by front true e = let small = ltb-true n 10 e in within-small j n small ∙ sym (within-small k n small)
    by front false e = let large = ltb-false n 10 e in within_more j n large ∙ ap (λ bs. bs ++ digit n) (front large) ∙ sym (within_more k n large)

pub decimal-small : (n : ℕ) → n < 10 → decimal n ≡ (48 + n) ∷ []
unfolding decimal
decimal-small n h = within-small n n h

pub decimal-more : (n : ℕ) → 10 ≤ n → decimal n ≡ decimal (n / 10) ++ ((48 + n % 10) ∷ [])
unfolding decimal
decimal-more n h = within_more n n h ∙ ap (λ bs. bs ++ digit n) (stable n (suc (n / 10)) (n / 10) (omega arith) (omega arith))

-- induction by tenths
pub by_digits : (P : ℕ → Type 0) → ((n : ℕ) → n < 10 → P n) → ((n : ℕ) → 10 ≤ n → P (n / 10) → P n) → (n : ℕ) → P n
by_digits P small more n = within (suc n) n (omega arith)
  where
    step : (n : ℕ) → (10 ≤ n → P (n / 10)) → (t : Bool) → ltb n 10 ≡ t → P n
    step n front true e = small n (ltb-true n 10 e)
    step n front false e = let large = ltb-false n 10 e in more n large (front large)

    within : (k n : ℕ) → n < k → P n
    within zero n h = absurd (omega arith)
    within (suc k) n h = step n (λ large. within k (n / 10) (omega (arith, large))) (ltb n 10) refl

pub length-small : (n : ℕ) → n < 10 → length (decimal n) ≡ 1
length-small n h = ap length (decimal-small n h)

pub length_more : (n : ℕ) → 10 ≤ n → length (decimal n) ≡ length (decimal (n / 10)) + 1
length_more n h = ap length (decimal-more n h) ∙ length-append (decimal (n / 10)) (digit n)

pub decimal-long : (k n : ℕ) → n < 10 ^ suc k → length (decimal n) ≤ suc k
decimal-long zero n h = omega (arith, length-small n (omega (arith, h)))
decimal-long (suc k) n h = by (λ large. decimal-long k (n / 10) (omega (arith, h))) (ltb n 10) refl
  where
    by : (10 ≤ n → length (decimal (n / 10)) ≤ suc k) → (t : Bool) → ltb n 10 ≡ t → length (decimal n) ≤ suc (suc k)
    by front true e = omega (arith, length-small n (ltb-true n 10 e))
    by front false e = let large = ltb-false n 10 e in omega (arith, length_more n large, front large)
