-- Laws of rows: which answer a list of rows gives, and what its number tells.
--
--     NoneHolds rows                   no row holds
--     FirstAt n rows                   a row with the number n holds, and no earlier row does
--     Numbered rows                    no row has the number 0
--     Only P rows                      every row has a number with P; only-first: so has the number that is given
--     row-holds, row-passes            the answer where the first row holds, and where it does not
--     first_row-accepted               accepted exactly where no row holds
--     first_row-exact                  refused with n exactly where the first row that holds has the number n
--     first_row-append                 of rows and then more: the answer of the former, and where that is accepted the answer of the latter
--     first_row-rest                   rest of one answer, behind the same rows
--     none-split, none-join            no row of two lists holds exactly where none of each does
--     accepted-append                  accepted exactly where both parts are
--     Numbered-append                  rows and more rows, both numbered
--     refusal-zero                     where rows are numbered, 0 stands for accepted and for nothing else
--     refusal-above                    a number above 0 is that of a refusal
--     refused_not_accepted             no answer is both
--
-- Example: with e : firstRow (4 if a ∷ 5 if b ∷ []) ≡ accepted tt, `(first_row-accepted _).0 e` is (a ≡ false) × ((b ≡ false) × Unit).
-- Assumes nothing.
use Rattle.std.specs.Prelude.{◌≡◌, refl, ◌↔◌, Bool, true, false, List, [], ◌∷◌, ◌++◌, ℕ, ◌<◌}
use Rattle.std.proofs.Common.{sym, ap, ◌∙◌, subst, arith}
use Rattle.definitions.specs.Answers.{Answer, refused, accepted, ◌>>=◌, Row, ◌if◌, firstRow, refusal}

abbrev pub NoneHolds : List Row → Type 0
NoneHolds [] = Unit
NoneHolds ((n if b) ∷ rows) = (b ≡ false) × NoneHolds rows

pub record FirstAt (n : ℕ) (rows : List Row) : Type 0 where
  pub earlier : List Row
  pub later : List Row
  pub is : rows ≡ earlier ++ n if true ∷ later
  pub none_earlier : NoneHolds earlier

abbrev pub Numbered : List Row → Type 0
Numbered [] = Unit
Numbered ((n if b) ∷ rows) = (0 < n) × Numbered rows

pub refused_not_accepted {ℓ} : {X : Type ℓ} {A : Type 0} {n : ℕ} {a : A} → refused n ≡ accepted a → X
refused_not_accepted e = absurd (let z : ◌≡◌ {A = ℕ} 0 1 = cc in omega arith)

pub row-holds : (n : ℕ) {b : Bool} (rows : List Row) → b ≡ true → firstRow (n if b ∷ rows) ≡ refused n
unfolding firstRow
row-holds n rows e = rw e refl

pub row-passes : (n : ℕ) {b : Bool} (rows : List Row) → b ≡ false → firstRow (n if b ∷ rows) ≡ firstRow rows
unfolding firstRow
row-passes n rows e = rw e refl

-- ---- accepted

none-holds : (rows : List Row) → firstRow rows ≡ accepted tt → NoneHolds rows
unfolding firstRow
none-holds [] e = tt
none-holds ((n if true) ∷ rows) e = refused_not_accepted e
none-holds ((n if false) ∷ rows) e = (refl, none-holds rows e)

accepts : (rows : List Row) → NoneHolds rows → firstRow rows ≡ accepted tt
unfolding firstRow
accepts [] h = refl
accepts ((n if b) ∷ rows) h = rw h.0 (accepts rows h.1)

pub first_row-accepted : (rows : List Row) → (firstRow rows ≡ accepted tt) ↔ NoneHolds rows
first_row-accepted rows = (none-holds rows, accepts rows)

-- ---- refused

first-at : (n : ℕ) (rows : List Row) → firstRow rows ≡ refused n → FirstAt n rows
unfolding firstRow
first-at n [] e = refused_not_accepted (sym e)
first-at n ((m if true) ∷ rows) e =
    let z : m ≡ n = cc in
    record { earlier = []; later = rows; is = ap (λ k. k if true ∷ rows) z; none_earlier = tt }
first-at n ((m if false) ∷ rows) e =
    let f = first-at n rows e in
    record { earlier = m if false ∷ f.earlier; later = f.later; is = ap (λ more. m if false ∷ more) f.is; none_earlier = (refl, f.none_earlier) }

after_none : (n : ℕ) (earlier later : List Row) → NoneHolds earlier → firstRow (earlier ++ n if true ∷ later) ≡ refused n
unfolding firstRow
after_none n [] later h = refl
after_none n ((m if b) ∷ earlier) later h = rw h.0 (after_none n earlier later h.1)

pub first_row-exact : (n : ℕ) (rows : List Row) → (firstRow rows ≡ refused n) ↔ FirstAt n rows
first_row-exact n rows = (first-at n rows, λ f. ap firstRow f.is ∙ after_none n f.earlier f.later f.none_earlier)

abbrev pub Only : (ℕ → Type 0) → List Row → Type 0
Only P [] = Unit
Only P ((n if b) ∷ rows) = P n × Only P rows

pub only-first : (P : ℕ → Type 0) (rows : List Row) → Only P rows → {n : ℕ} → firstRow rows ≡ refused n → P n
unfolding firstRow
only-first P [] h e = refused_not_accepted (sym e)
only-first P ((m if true) ∷ rows) h {n} e = let z : m ≡ n = cc in subst P z h.0
only-first P ((m if false) ∷ rows) h e = only-first P rows h.1 e

-- ---- rows and then more

pub first_row-append : (rows more : List Row) → firstRow (rows ++ more) ≡ firstRow rows >>= λ ok. firstRow more
unfolding firstRow ◌>>=◌
first_row-append [] more = refl
first_row-append ((n if true) ∷ rows) more = refl
first_row-append ((n if false) ∷ rows) more = first_row-append rows more

pub first_row-rest : (rows more rest : List Row) → firstRow more ≡ firstRow rest → firstRow (rows ++ more) ≡ firstRow (rows ++ rest)
first_row-rest rows more rest e = first_row-append rows more ∙ ap (λ answer. firstRow rows >>= λ ok. answer) e ∙ sym (first_row-append rows rest)

pub none-split : (rows more : List Row) → NoneHolds (rows ++ more) → NoneHolds rows × NoneHolds more
none-split [] more h = (tt, h)
none-split ((n if b) ∷ rows) more h = let s = none-split rows more h.1 in ((h.0, s.0), s.1)

pub none-join : (rows more : List Row) → NoneHolds rows → NoneHolds more → NoneHolds (rows ++ more)
none-join [] more h k = k
none-join ((n if b) ∷ rows) more h k = (h.0, none-join rows more h.1 k)

pub accepted-append : (rows more : List Row) → (firstRow (rows ++ more) ≡ accepted tt) ↔ ((firstRow rows ≡ accepted tt) × (firstRow more ≡ accepted tt))
accepted-append rows more = (λ e. let s = none-split rows more (none-holds (rows ++ more) e) in (accepts rows s.0, accepts more s.1), λ p. accepts (rows ++ more) (none-join rows more (none-holds rows p.0) (none-holds more p.1)))

pub Numbered-append : (rows more : List Row) → Numbered rows → Numbered more → Numbered (rows ++ more)
Numbered-append [] more h k = k
Numbered-append ((n if b) ∷ rows) more h k = (h.0, Numbered-append rows more h.1 k)

-- ---- the number

zero-accepts : (rows : List Row) → Numbered rows → refusal (firstRow rows) ≡ 0 → firstRow rows ≡ accepted tt
unfolding firstRow refusal
zero-accepts [] h e = refl
zero-accepts ((n if true) ∷ rows) h e = let above = h.0 in absurd (omega arith)
zero-accepts ((n if false) ∷ rows) h e = zero-accepts rows h.1 e

accepted-zero : {A : Type 0} (answer : Answer A) (a : A) → answer ≡ accepted a → refusal answer ≡ 0
unfolding refusal
accepted-zero answer a e = rw e refl

pub refusal-zero : (rows : List Row) → Numbered rows → (refusal (firstRow rows) ≡ 0) ↔ (firstRow rows ≡ accepted tt)
refusal-zero rows h = (zero-accepts rows h, accepted-zero (firstRow rows) tt)

pub refusal-above : {A : Type 0} (answer : Answer A) (n : ℕ) → refusal answer ≡ n → 0 < n → answer ≡ refused n
unfolding refusal
refusal-above (refused m) n e above = ap refused e
refusal-above (accepted a) n e above = absurd (omega arith)
