-- What Add and Head ranges promise: the answer, and the contents of every lent slice, for every panel, range and slice of any length.
--
--     add_meaning, head_ranges_meaning        the number or the value that an answer stands for
--     AddPromise                           the answer and the panel equal the scope's; where the call is refused the panel is as it was
--     lengths_of, HeadRangesPromise         the answer and each list that is filled equal the scope's; past the count, and where the call is refused, a list holds its old contents
--
-- Assumes nothing.
use Rattle.std.specs.Prelude.{ℕ, ◌≡◌, List, [], ◌∷◌, Result, map, length}
use Rattle.definitions.specs.Answers.{Answer, accepted, ◌>>=◌, filled, given}
use Rattle.definitions.specs.Ranges.{Range, Lists}
use Rattle.definitions.specs.Panels.{Panel}
use Rattle.definitions.specs.PanelCalls.{add_call, head_ranges_call}
use Rattle.definitions.specs.Refusals.{answered}
use Rattle.definitions.specs.declared.refusals.Refusal.{Refusal}

abbrev pub add_meaning : Result Unit Refusal → Answer Unit
add_meaning = answered

abbrev pub head_ranges_meaning : Result ℕ Refusal → Answer ℕ
head_ranges_meaning = answered

pub record AddPromise (old : Panel) (a : ℕ) (r : Range) (answer : Result Unit Refusal) (new : Panel) : Type 0 where
  pub answer_is : add_meaning answer ≡ (add_call old a r >>= λ s. accepted tt)
  pub panel_is : new ≡ given (add_call old a r) (λ s. s) old

unfoldable pub lengths_of : Lists → List ℕ
lengths_of ls = length ls.times ∷ length ls.lows ∷ length ls.highs ∷ []

pub record HeadRangesPromise (s : Panel) (a : ℕ) (old new : Lists) (answer : Result ℕ Refusal) : Type 0 where
  pub answer_is : head_ranges_meaning answer ≡ (head_ranges_call (lengths_of old) s a >>= λ rs. accepted (length rs))
  pub times_are : new.times ≡ filled (head_ranges_call (lengths_of old) s a) (map (λ (r : Range). r.time)) old.times
  pub lows_are : new.lows ≡ filled (head_ranges_call (lengths_of old) s a) (map (λ (r : Range). r.low)) old.lows
  pub highs_are : new.highs ≡ filled (head_ranges_call (lengths_of old) s a) (map (λ (r : Range). r.high)) old.highs
