-- The refusal with a number of the table, from the number.
--
--     InTable              the numbers of the table: 1 to 14
--     refusal_of           the case with such a number
--     number_again         it has this number
--     answer_with          the answer of code with a number, where 0 stands for none, and with a result beside it
--     with_number          it means what the number and the result stand for
--
-- Assumes nothing.
use Rattle.std.specs.Prelude.{ℕ, zero, suc, ◌+◌, ◌<◌, ◌≤◌, ◌≡◌, refl, List, [], ◌∷◌, Result, Ok, Err, length, get_or}
use Rattle.std.proofs.Common.{arith, ap}
use Rattle.definitions.specs.Answers.{refused}
use Rattle.definitions.specs.Refusals.{refusal_number, answered}
use Rattle.definitions.specs.declared.refusals.Refusal.{Refusal}
use Rattle.definitions.specs.declared.refusals.Refusal.TheVariants as Case

pub record InTable (n : ℕ) : Type 0 where
  pub above_none : 0 < n
  pub at_most : n ≤ 14

abbrev cases : List Refusal
cases = Case.BytesRunOut ∷ Case.TagNotDue ∷ Case.LengthNotOfTag ∷ Case.OutsideSpan ∷ Case.LowAboveHigh ∷ Case.TimeNotLater ∷ Case.TooManyRanges ∷ Case.SliceTooShort ∷ Case.NoFirstRanges ∷ Case.LengthsDiffer ∷ Case.ReadingNotWhole ∷ Case.AddressUnknown ∷ Case.PanelFull ∷ Case.NotAPanel ∷ []

-- the cases have the numbers from m on, in their order
abbrev RunsFrom : ℕ → List Refusal → Type 0
RunsFrom m [] = Unit
RunsFrom m (c ∷ cs) = (refusal_number c ≡ m) × RunsFrom (m + 1) cs

-- past the table any
unfoldable pub refusal_of : ℕ → Refusal
refusal_of zero = Case.NotAPanel
refusal_of (suc k) = get_or cases k Case.NotAPanel

number-at : (m : ℕ) (cs : List Refusal) → RunsFrom m cs → (k : ℕ) → k < length cs → refusal_number (get_or cs k Case.NotAPanel) ≡ m + k
number-at m [] h k l = absurd (omega (arith, l))
number-at m (c ∷ cs) h zero l = let e = h.0 in omega (arith, e)
number-at m (c ∷ cs) h (suc k) l = let e = number-at (m + 1) cs h.1 k (omega (arith, l)) in omega (arith, e)

pub number_again : (n : ℕ) → InTable n → refusal_number (refusal_of n) ≡ n
unfolding refusal_of
number_again zero h = absurd (let above = h.above_none in omega (arith, above))
number_again (suc k) h =
    let most = h.at_most in
    let e = number-at 1 cases (refl, (refl, (refl, (refl, (refl, (refl, (refl, (refl, (refl, (refl, (refl, (refl, (refl, (refl, tt)))))))))))))) k (omega (arith, most)) in
    omega (arith, e)

unfoldable pub answer_with : {A : Type 0} → A → ℕ → Result A Refusal
answer_with a zero = Ok a
answer_with a (suc k) = Err (refusal_of (suc k))

pub with_number : {A : Type 0} (a : A) (n : ℕ) → InTable n → answered (answer_with a n) ≡ refused n
unfolding answer_with
with_number a zero h = absurd (let above = h.above_none in omega (arith, above))
with_number a (suc k) h = ap refused (number_again (suc k) h)
