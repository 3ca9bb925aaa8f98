-- The refusals of the code, and what its answers mean: each case of `Refusal` stands for its number of the scope's table.
--
--     refusal_number      the number of each case
--     meant               an answer of the code: refused with the number of its case, or accepted with what its result means
--     answered            the same, where the definitions have the result as it is
--
-- Assumes nothing.
use Rattle.std.specs.Prelude.{ℕ, Result, Ok, Err}
use Rattle.definitions.specs.Answers.{Answer, refused, accepted}
use Rattle.definitions.specs.declared.refusals.Refusal.{Refusal}
use Rattle.definitions.specs.declared.refusals.Refusal.TheVariants as Case

abbrev pub refusal_number : Refusal → ℕ
refusal_number Case.BytesRunOut = 1
refusal_number Case.TagNotDue = 2
refusal_number Case.LengthNotOfTag = 3
refusal_number Case.OutsideSpan = 4
refusal_number Case.LowAboveHigh = 5
refusal_number Case.TimeNotLater = 6
refusal_number Case.TooManyRanges = 7
refusal_number Case.SliceTooShort = 8
refusal_number Case.NoFirstRanges = 9
refusal_number Case.LengthsDiffer = 10
refusal_number Case.ReadingNotWhole = 11
refusal_number Case.AddressUnknown = 12
refusal_number Case.PanelFull = 13
refusal_number Case.NotAPanel = 14

-- what the code answers, as an answer of the definitions, with a meaning for its results
abbrev pub meant : {A B : Type 0} → (A → B) → Result A Refusal → Answer B
meant of (Ok a) = accepted (of a)
meant of (Err e) = refused (refusal_number e)

abbrev pub answered : {A : Type 0} → Result A Refusal → Answer A
answered r = meant (λ a. a) r
