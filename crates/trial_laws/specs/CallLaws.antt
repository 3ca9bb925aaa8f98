-- Laws of calls: answers one after the other, and calls that try their rows and then give a result.
--
--     call-refused, call-accepted           such a call is refused with n exactly where n is the first row to hold, and accepted exactly where none holds
--     told_refused, told_accepted           the same of an answer that tells of such a call's result
--     along                                 the same of a call that is equal to such a call
--     both-accepted                         a call in two steps that is accepted has both accepted
--     then-then, then_same, then-accepted   calls one after the other
--     then-known                            what follows an answer matters only where it is accepted
--     rows_then                             rows are tried one list after the other
--     bind-accepted, bind-refused           what is accepted in two steps is accepted in each; what only the first step can refuse
--     bind-refusal                          the number of two trials, one after the other
--     refusal-tells                         an answer that tells of another's result has its number
--     number-row                            the number of a trial, as a row
--     accepted-is, refused-is               equal answers have equal results, and equal numbers
--
-- Example: Write is a call on `write_rows`, so `call-refused` says of each number exactly when Write gives it.
-- Assumes nothing.
use Rattle.std.specs.Prelude.{◌≡◌, refl, ◌↔◌, Bool, true, false, not, List, [], ◌∷◌, ◌++◌, ℕ, eqb}
use Rattle.std.proofs.Common.{sym, ap, ◌∙◌, eqb-true}
use Rattle.definitions.specs.Answers.{Answer, refused, accepted, ◌>>=◌, Row, ◌if◌, firstRow, refusal}
use Rattle.trial_laws.specs.Rows.{NoneHolds, FirstAt, refused_not_accepted, first_row-accepted, first_row-exact, first_row-append}

pub accepted-is : {A : Type 0} {a b : A} → accepted a ≡ accepted b → a ≡ b
accepted-is e = cc

pub refused-is : {A : Type 0} {m n : ℕ} → ◌≡◌ {A = Answer A} (refused m) (refused n) → m ≡ n
refused-is e = cc

-- ---- calls

-- what is known exactly of one answer is known of an equal one
pub along : {A B : Type 0} {x y z : A} → x ≡ y → (y ≡ z) ↔ B → (x ≡ z) ↔ B
along e c = (λ f. c.0 (sym e ∙ f), λ b. e ∙ c.1 b)

pub both-accepted : {A B C : Type 0} (x : Answer A) (f : A → Answer B) (b : B) → x >>= f ≡ accepted b → ((a : A) → x ≡ accepted a → f a ≡ accepted b → C) → C
unfolding ◌>>=◌
both-accepted (accepted a) f b e k = k a refl e
both-accepted (refused n) f b e k = refused_not_accepted e

pub then-then : {A B C : Type 0} (x : Answer A) (f : A → Answer B) (g : B → Answer C) → (x >>= f >>= g) ≡ (x >>= λ a. f a >>= g)
unfolding ◌>>=◌
then-then (refused n) f g = refl
then-then (accepted a) f g = refl

pub then-known : {A B : Type 0} (x : Answer A) (f g : A → Answer B) → ((a : A) → x ≡ accepted a → f a ≡ g a) → (x >>= f) ≡ (x >>= g)
unfolding ◌>>=◌
then-known (refused n) f g h = refl
then-known (accepted a) f g h = h a refl

pub then_same : {A B : Type 0} (x : Answer A) (f g : A → Answer B) → ((a : A) → f a ≡ g a) → (x >>= f) ≡ (x >>= g)
then_same x f g h = then-known x f g (λ a e. h a)

pub then-accepted : {A : Type 0} (x : Answer A) → (x >>= λ a. accepted a) ≡ x
unfolding ◌>>=◌
then-accepted (refused n) = refl
then-accepted (accepted a) = refl

-- rows are tried, then others, then a result is given
pub rows_then : {A : Type 0} (rows more : List Row) (a : A) → (firstRow rows >>= λ ok. firstRow more >>= λ ok. accepted a) ≡ (firstRow (rows ++ more) >>= λ ok. accepted a)
rows_then rows more a = sym (then-then (firstRow rows) (λ ok. firstRow more) (λ ok. accepted a)) ∙ ap (λ x. x >>= λ ok. accepted a) (sym (first_row-append rows more))

-- a call that gives a after an answer gives the answer's refusals, and no other
same-refusal : {A : Type 0} (x : Answer Unit) (a : A) (n : ℕ) → ((x >>= λ ok. accepted a) ≡ refused n) ↔ (x ≡ refused n)
unfolding ◌>>=◌
same-refusal (refused m) a n = (λ e. ap refused (refused-is e), λ e. ap refused (refused-is e))
same-refusal (accepted u) a n = (λ e. refused_not_accepted (sym e), λ e. refused_not_accepted (sym e))

pub call-refused : {A : Type 0} (rows : List Row) (a : A) (n : ℕ) → ((firstRow rows >>= λ ok. accepted a) ≡ refused n) ↔ FirstAt n rows
call-refused rows a n = (λ e. (first_row-exact n rows).0 ((same-refusal (firstRow rows) a n).0 e), λ f. (same-refusal (firstRow rows) a n).1 ((first_row-exact n rows).1 f))

pub call-accepted : {A : Type 0} (rows : List Row) (a b : A) → ((firstRow rows >>= λ ok. accepted a) ≡ accepted b) ↔ (NoneHolds rows × (a ≡ b))
unfolding ◌>>=◌
call-accepted {A} rows a b = (there, λ h. ap (λ (x : Answer Unit). x >>= λ ok. accepted a) ((first_row-accepted rows).1 h.0) ∙ ap accepted h.1)
  where
    there : (firstRow rows >>= λ ok. accepted a) ≡ accepted b → NoneHolds rows × (a ≡ b)
    there e = both-accepted (firstRow rows) (λ ok. accepted a) b e λ ok e1 e2. ((first_row-accepted rows).0 e1, accepted-is e2)

pub bind-accepted : {A B : Type 0} (answer : Answer A) (f : A → Answer B) (b : B) → (answer >>= f) ≡ accepted b → (a : A) × (answer ≡ accepted a) × (f a ≡ accepted b)
unfolding ◌>>=◌
bind-accepted (refused n) f b e = refused_not_accepted e
bind-accepted (accepted a) f b e = (a, refl, e)

pub bind-refused : {A B : Type 0} (answer : Answer A) (f : A → B) (n : ℕ) → (answer >>= λ a. accepted (f a)) ≡ refused n → answer ≡ refused n
unfolding ◌>>=◌
bind-refused (refused m) f n e = cc
bind-refused (accepted a) f n e = refused_not_accepted (sym e)

pub refusal-tells : {A B : Type 0} (tells : A → B) (below : Answer A) → refusal (below >>= λ a. accepted (tells a)) ≡ refusal below
unfolding refusal ◌>>=◌
refusal-tells tells (refused n) = refl
refusal-tells tells (accepted a) = refl

-- an answer that tells of the result of a call on rows, by a part of it
module _ {A B : Type 0} (rows : List Row) (a : A) (tells : A → B) {answer : Answer B} (is : answer ≡ ((firstRow rows >>= λ ok. accepted a) >>= λ b. accepted (tells b))) where
  told : answer ≡ (firstRow rows >>= λ ok. accepted (tells a))
  unfolding ◌>>=◌
  told = is ∙ then-then (firstRow rows) (λ ok. accepted a) (λ b. accepted (tells b))

  pub told_refused : (n : ℕ) → (answer ≡ refused n) ↔ FirstAt n rows
  told_refused n = along told (call-refused rows (tells a) n)

  pub told_accepted : (answer ≡ accepted (tells a)) ↔ NoneHolds rows
  told_accepted = (λ e. ((call-accepted rows (tells a) (tells a)).0 (sym told ∙ e)).0, λ h. told ∙ (call-accepted rows (tells a) (tells a)).1 (h, refl))

-- ---- trials, which are accepted with nothing

pub bind-refusal : (answer f g : Answer Unit) → refusal f ≡ refusal g → refusal (answer >>= λ ok. f) ≡ refusal (answer >>= λ ok. g)
unfolding ◌>>=◌
bind-refusal (refused n) f g e = refl
bind-refusal (accepted ok) f g e = e

pub number-row : (n : ℕ) → refusal (firstRow (n if not (eqb n 0) ∷ [])) ≡ n
unfolding refusal firstRow
number-row n = by (eqb n 0) refl
  where
    by : (test : Bool) → eqb n 0 ≡ test → refusal (firstRow (n if not (eqb n 0) ∷ [])) ≡ n
    by true e = rw e (sym (eqb-true n 0 e))
    by false e = rw e refl
