-- What Corners promises: its answer and the three slices, by equations with the scope's call.
--
--     CornerCount, count_of   what the answer tells of a fit: that it is open, or how many corners it has
--     counted                 what a number of corners, or none, stands for
--     corners_meaning         what each case of the answer stands for
--     CornersPromise         the answer is that of the call; each slice has its number of each corner and past these its old contents, and its old contents whole
--                            where the call is refused or the fit is open
--
-- Example: with h : CornersPromise k ls ps qs ds ps' qs' ds' answer, `h.ps_are` is the equation of the slice that holds the p of each corner.
-- Assumes nothing.
use Rattle.definitions.specs.declared.refusals.Refusal.{Refusal}
use Rattle.std.specs.Prelude.{ℕ, ◌≡◌, List, [], ◌∷◌, map, ℤ, length, None, Option, Result, Some}
use Rattle.definitions.specs.Ranges.{Lists}
use Rattle.definitions.specs.Answers.{Answer, accepted, ◌>>=◌, filled}
use Rattle.definitions.specs.Refusals.{meant}
use Rattle.definitions.specs.Calls.{Fit, open_strip, bounded, corners_in, corners_call}

pub data CornerCount : Type 0 where
  unbounded : CornerCount
  corner_count : ℕ → CornerCount

unfoldable pub count_of : Fit → CornerCount
count_of open_strip = unbounded
count_of (bounded ls) = corner_count (length ls)

-- no number of corners stands for an open fit
abbrev pub counted : Option ℕ → CornerCount
counted None = unbounded
counted (Some n) = corner_count n

unfoldable pub corners_meaning : Result (Option ℕ) Refusal → Answer CornerCount
corners_meaning = meant counted

-- the lengths of the slices to be filled
abbrev pub three_lengths : List ℤ → List ℤ → List ℤ → List ℕ
three_lengths ps qs ds = length ps ∷ length qs ∷ length ds ∷ []

pub record CornersPromise (k : ℕ) (ls : Lists) (ps qs ds ps' qs' ds' : List ℤ) (answer : Result (Option ℕ) Refusal) : Type 0 where
  pub answer_is : corners_meaning answer ≡ (corners_call (three_lengths ps qs ds) k ls >>= λ fit. accepted (count_of fit))
  pub ps_are : ps' ≡ filled (corners_call (three_lengths ps qs ds) k ls) (λ fit. map (λ l. l.p) (corners_in fit)) ps
  pub qs_are : qs' ≡ filled (corners_call (three_lengths ps qs ds) k ls) (λ fit. map (λ l. l.q) (corners_in fit)) qs
  pub ds_are : ds' ≡ filled (corners_call (three_lengths ps qs ds) k ls) (λ fit. map (λ l. l.d) (corners_in fit)) ds
