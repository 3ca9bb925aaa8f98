-- What a call gives: a result, or one number.
--
--     Answer                 refused with a number, or accepted with a result
--     _>>=_                  the first refusal, or the second call on the result of the first
--     Row, firstRow          a row of the scope's table of refusals, and the number of the first row that holds
--     refusal                the number of a refusal, and 0 where the call is accepted: what a trial without a result gives
--     filled                 what a lent slice holds after a call
--     given                  what anything else that was lent is after a call
--
-- The order in which numbers are tried is the order of a list of rows.
-- Assumes nothing.
use Rattle.std.specs.Prelude.{ℕ, Bool, true, false, List, [], ◌∷◌, ◌++◌, length, drop}

pub data Answer (A : Type 0) : Type 0 where
  refused : ℕ → Answer A
  accepted : A → Answer A

infixl 20 ◌>>=◌
unfoldable pub ◌>>=◌ : {A B : Type 0} → Answer A → (A → Answer B) → Answer B
refused n >>= f = refused n
accepted a >>= f = f a

-- a number, and whether its row holds
infix 70 ◌if◌
pub data Row : Type 0 where
  ◌if◌ : ℕ → Bool → Row

unfoldable pub firstRow : List Row → Answer Unit
firstRow [] = accepted tt
firstRow ((n if true) ∷ rows) = refused n
firstRow ((n if false) ∷ rows) = firstRow rows

unfoldable pub refusal : {A : Type 0} → Answer A → ℕ
refusal (refused n) = n
refusal (accepted a) = 0

-- its old contents where the call is refused; else the new entries, and past these its old contents
unfoldable pub filled : {A B : Type 0} → Answer B → (B → List A) → List A → List A
filled (refused n) entries old = old
filled (accepted b) entries old = entries b ++ drop (length (entries b)) old

-- its old value where the call is refused; else a value of the result
unfoldable pub given : {A B : Type 0} → Answer B → (B → A) → A → A
given (refused n) value old = old
given (accepted b) value old = value b
