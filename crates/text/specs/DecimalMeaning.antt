-- What a decimal number means: read digit by digit it is the number, and it has no zero in front.
--
--     value_of                the number that digits tell, the most significant first
--     decimal-value          the digits of n tell n
--     decimal-digits         each byte is a digit
--     decimal-first          the first digit is 0 only where the number is 0
--
-- Assumes nothing.
use Rattle.std.specs.Prelude.{ℕ, ◌+◌, ◌-◌, ◌*◌, ◌/◌, ◌%◌, ◌≤◌, ◌<◌, ◌≡◌, refl, List, [], ◌∷◌, ◌++◌, length, get_or}
use Rattle.std.proofs.Common.{sym, ap, ◌∙◌, subst, arith}
use Rattle.std.proofs.Math.ListN.{get_or-append}
use Rattle.integers.specs.Lists.{All, nil, cons, All-append}
use Rattle.definitions.specs.Report.{decimal}
use Rattle.text.specs.DecimalLaws.{decimal-small, decimal-more, by_digits, length-small, length_more}

-- after digits that tell `front`
abbrev value_after : ℕ → List ℕ → ℕ
value_after front [] = front
value_after front (b ∷ bs) = value_after (front * 10 + (b - 48)) bs

abbrev pub value_of : List ℕ → ℕ
value_of bs = value_after 0 bs

value-append : (front : ℕ) (bs : List ℕ) (b : ℕ) → value_after front (bs ++ (b ∷ [])) ≡ value_after front bs * 10 + (b - 48)
value-append front [] b = refl
value-append front (c ∷ bs) b = value-append (front * 10 + (c - 48)) bs b

abbrev Digit : ℕ → Type 0
Digit b = (48 ≤ b) × (b < 58)

pub decimal-value : (n : ℕ) → value_of (decimal n) ≡ n
decimal-value =
    by_digits (λ n. value_of (decimal n) ≡ n)
    (λ n h. ap value_of (decimal-small n h) ∙ omega arith)
    (λ n h e. ap value_of (decimal-more n h) ∙ value-append 0 (decimal (n / 10)) (48 + n % 10) ∙ omega (arith, e))

pub decimal-digits : (n : ℕ) → All Digit (decimal n)
decimal-digits =
    by_digits (λ n. All Digit (decimal n))
    (λ n h. subst (All Digit) (sym (decimal-small n h)) (cons (omega arith, omega arith) nil))
    (λ n h front. subst (All Digit) (sym (decimal-more n h)) (All-append front (cons (omega arith, omega arith) nil)))

-- there is a digit
decimal-some : (n : ℕ) → 0 < length (decimal n)
decimal-some =
    by_digits (λ n. 0 < length (decimal n))
    (λ n h. omega (arith, length-small n h))
    (λ n h front. omega (arith, length_more n h))

pub decimal-first : (n : ℕ) → get_or (decimal n) 0 48 ≡ 48 → n ≡ 0
decimal-first =
    by_digits (λ n. get_or (decimal n) 0 48 ≡ 48 → n ≡ 0)
    (λ n h e. let first = ap (λ bs. get_or bs 0 48) (decimal-small n h) in omega (arith, e, first))
    (λ n h front e.
    let same = ap (λ bs. get_or bs 0 48) (decimal-more n h) ∙ get_or-append (decimal (n / 10)) ((48 + n % 10) ∷ []) 48 0 (decimal-some (n / 10)) in
    let tenth = front (sym same ∙ e) in
    absurd (omega (arith, h, tenth)))
