-- Digits that are put from the last to the first.
--
--     LastPut at n next old place rest text   `text` is `old` with the last digits of n from `place` up to `next`; those in front of them, where there are any, are the digits of `rest`
--     last_none, last_next, last_all   no digit is put, one more, and all
--
-- Assumes nothing.
use Rattle.std.specs.Prelude.{ℕ, ◌+◌, ◌-◌, ◌/◌, ◌%◌, ◌≤◌, ◌<◌, ◌≡◌, refl, List, [], ◌∷◌, ◌++◌, length, set}
use Rattle.std.proofs.Common.{sym, ap, ◌∙◌, subst, append_assoc, append-nil, arith, length-append, drop_of_length-le}
use Rattle.definitions.specs.Report.{decimal}
use Rattle.text.specs.Put.{Room, Put}
use Rattle.text.specs.PutLaws.{put-none, put-before}
use Rattle.text.specs.DecimalLaws.{decimal-small, decimal-more, by_digits}

-- the last digit, and the digits in front of it, which are those of a tenth where there are any
record LastDigit (n : ℕ) : Type 0 where
  pub front : List ℕ
  pub digits : decimal n ≡ front ++ ((48 + n % 10) ∷ [])
  pub front_is : 0 < length front → front ≡ decimal (n / 10)

last-digit : (n : ℕ) → LastDigit n
last-digit =
    by_digits LastDigit
    (λ n h.
    let same : n ≡ n % 10 = omega (arith, h) in
    record { front = []; digits = decimal-small n h ∙ ap (λ d. (48 + d) ∷ []) same; front_is = λ some. absurd (omega (arith, some)) })
    (λ n h tenth. record { front = decimal (n / 10); digits = decimal-more n h; front_is = λ some. refl })

pub record LastPut (at n next : ℕ) (old : List ℕ) (place rest : ℕ) (text : List ℕ) : Type 0 where
  pub front : List ℕ
  pub back : List ℕ
  pub digits : decimal n ≡ front ++ back
  pub place_is : place ≡ at + length front
  pub front_is : 0 < length front → front ≡ decimal rest
  pub put : Put place back old next text

module _ (at n next : ℕ) (old : List ℕ) where
  pub last_none : Room at (decimal n) old → next ≡ at + length (decimal n) → LastPut at n next old next n old
  last_none room is =
      record { front = decimal n; back = []; digits = sym (append-nil (decimal n)); place_is = is; front_is = λ h. refl; put = subst (λ k. Put next [] old k old) (omega arith) (put-none next old (omega (arith, room, is))) }

  pub last_next : {place rest : ℕ} {text : List ℕ} → at < place → LastPut at n next old place rest text → LastPut at n next old (place - 1) (rest / 10) (set text (place - 1) (48 + rest % 10))
  last_next {place} {rest} {text} h last =
      let split = last-digit rest in
      let digit = 48 + rest % 10 in
      let front-split : last.front ≡ split.front ++ (digit ∷ []) = last.front_is (omega (arith, h, last.place_is)) ∙ split.digits in
      let shorter = ap length front-split ∙ length-append split.front (digit ∷ []) in
      let before : place ≡ (place - 1) + 1 = omega (arith, h) in
      record {
        front = split.front;
        back = digit ∷ last.back;
        digits = last.digits ∙ ap (λ bs. bs ++ last.back) front-split ∙ append_assoc split.front (digit ∷ []) last.back;
        place_is = omega (arith, last.place_is, shorter);
        front_is = split.front_is;
        put = put-before digit (subst (λ p. Put p last.back old next text) before last.put);
      }

  pub last_all : {place rest : ℕ} {text : List ℕ} → place ≤ at → LastPut at n next old place rest text → Put at (decimal n) old next text
  last_all {place} {rest} {text} h last =
      -- a list without entries is what is left of it after its first 0
      let none : last.front ≡ [] = drop_of_length-le last.front {i = 0} (omega (arith, h, last.place_is)) in
      let all : last.back ≡ decimal n = sym (last.digits ∙ ap (λ bs. bs ++ last.back) none) in
      let first : place ≡ at = omega (arith, h, last.place_is) in
      subst (λ bs. Put at bs old next text) all (subst (λ p. Put p last.back old next text) first last.put)
