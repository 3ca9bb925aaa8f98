-- When Preview refuses and when it accepts, as theorems about the answer that a caller holds.
--
--     preview-refused        refused with n exactly if a row with the number n holds and no row that is tried earlier does
--     preview-accepted       accepted, with the effect of the range, exactly if no row holds
--     differ_refused         on lists that differ in length refused with 10, whatever else is wrong
--     PreviewNumber, numbers_given   the numbers that it gives are 4 to 7 and 10, and so never 8
--     service-refused        refused with 4 for a level, a direction or a step outside its span, on lists of one length that have room
--     full_refused           on lists of one length that are full, or longer, refused with 7, whatever the level, the direction, the step and the ranges are
--
-- Assumes nothing.
use Rattle.definitions.specs.declared.refusals.Refusal.{Refusal}
use Rattle.std.specs.Prelude.{◌≡◌, ◌↔◌, ◌⊎◌, true, List, [], ◌∷◌, ◌++◌, ℕ, ◌≤◌, ◌<◌, length, Result}
use Rattle.std.proofs.Math.Path.{refl, ap, ap₂}
use Rattle.std.proofs.Common.{◌∙◌}
use Rattle.std.proofs.Math.Logic.{inl, inr}
use Rattle.std.proofs.Math.Bool.{false}
use native.Mathlib.Omega.{arith}
use borrow.Author.Tests.{lt-ltb, le-ltb}
use Rattle.std.proofs.Math.Dec.{ltb}
use Rattle.integers.specs.Lists.{any}
use Rattle.definitions.specs.Services.{Service}
use Rattle.definitions.specs.Spans.{most_ranges}
use Rattle.definitions.specs.Times.{Time, none, at}
use Rattle.definitions.specs.Ranges.{Range, Lists, ranges_of}
use Rattle.definitions.specs.Segments.{segments}
use Rattle.definitions.specs.Results.{segments_of}
use Rattle.definitions.specs.Answers.{refused, accepted, ◌>>=◌, Row, ◌if◌, firstRow}
use Rattle.definitions.specs.Trial.{outside, bad_direction, bad_step, range_rows, ranges_rows, service_rows, too_short, differ, list_rows, segment_rows}
use Rattle.definitions.specs.Calls.{segment_call}
use Rattle.definitions.specs.Previews.{longer, effect_of, preview_rows, preview_call}
use Rattle.trial_laws.specs.Rows.{NoneHolds, FirstAt, first_row-exact, Only, only-first}
use Rattle.trial_laws.specs.CallLaws.{told_refused, told_accepted}
use Rattle.trial_laws.specs.RangeLists.{SameLength, same_length}
use Rattle.trial_laws.specs.ListTrial.{bad-refused}
use Rattle.trial_laws.specs.Accepted.{GoodService, service-bad}
use Rattle.trial_laws.specs.LongerLists.{longer_length, longer_differ, effect_on, preview_by_rows, preview_trial}
use Rattle.preview.specs.declared.Effect.{Effect as EffectOfCode}
use Rattle.preview.specs.PreviewPromise.{preview_meaning, PreviewPromise}

abbrev pub PreviewNumber : ℕ → Type 0
PreviewNumber n = (4 ≤ n) × ((n ≤ 7) ⊎ (n ≡ 10))

ranges-numbers : (before : Time) (rs : List Range) → Only PreviewNumber (ranges_rows before rs)
unfolding ranges_rows range_rows
ranges-numbers before [] = tt
ranges-numbers before (r ∷ rs) =
    let low : PreviewNumber 4 = (omega arith, inl (omega arith)) in
    (low, (low, ((omega arith, inl (omega arith)), ((omega arith, inl (omega arith)), ranges-numbers (at r.time) rs))))

module _ {v : Service} {ls : Lists} {r : Range} {answer : Result EffectOfCode Refusal} (promise : PreviewPromise v ls r answer) where
  pub preview-refused : (n : ℕ) → (preview_meaning answer ≡ refused n) ↔ FirstAt n (preview_rows v ls r)
  unfolding preview_call segment_call
  preview-refused = told_refused (preview_rows v ls r) (segments_of v (ranges_of (longer ls r))) (effect_of (length (segments (ranges_of ls)))) promise.answer_is

  pub preview-accepted : (preview_meaning answer ≡ accepted (effect_on v ls r)) ↔ NoneHolds (preview_rows v ls r)
  unfolding preview_call segment_call
  preview-accepted = told_accepted (preview_rows v ls r) (segments_of v (ranges_of (longer ls r))) (effect_of (length (segments (ranges_of ls)))) promise.answer_is

  abbrev later : List Row
  later = service_rows v ++ ranges_rows none (ranges_of (longer ls r))

  pub differ_refused : differ ls ≡ true → preview_meaning answer ≡ refused 10
  unfolding segment_rows list_rows too_short any
  differ_refused e =
      let full = ltb most_ranges (length (longer ls r).times) in
      (preview-refused 10).1
      (record {
        earlier = 8 if false ∷ [];
        later = 7 if full ∷ later;
        is = ap (λ d. 8 if false ∷ 10 if d ∷ 7 if full ∷ later) (longer_differ ls r ∙ e);
        none_earlier = (refl, tt);
      })

  pub full_refused : SameLength ls → most_ranges ≤ length ls.times → preview_meaning answer ≡ refused 7
  unfolding segment_rows list_rows too_short any
  full_refused same full =
      (preview-refused 7).1
      (record {
        earlier = 8 if false ∷ 10 if false ∷ [];
        later = later;
        is =
            ap₂ (λ d m. 8 if false ∷ 10 if d ∷ 7 if m ∷ later) (longer_differ ls r ∙ (same_length ls).1 same)
            (lt-ltb most_ranges (length (longer ls r).times) (omega (arith, longer_length ls r)));
        none_earlier = (refl, (refl, tt));
      })

  pub service-refused : SameLength ls → length ls.times < most_ranges → ¬ GoodService v → preview_meaning answer ≡ refused 4
  unfolding ◌>>=◌
  service-refused same place bad =
      let few = le-ltb most_ranges (length (longer ls r).times) (omega (arith, longer_length ls r)) in
      promise.answer_is
      ∙ preview_by_rows v ls r
      ∙ ap (λ a. a >>= λ ok. accepted (effect_on v ls r)) (preview_trial v ls r ∙ bad-refused (longer ls r) refl (longer_differ ls r ∙ (same_length ls).1 same) few (service-bad v bad))

  pub numbers_given : (n : ℕ) → preview_meaning answer ≡ refused n → PreviewNumber n
  unfolding segment_rows list_rows too_short any firstRow
  numbers_given n e =
      let low : PreviewNumber 4 = (omega arith, inl (omega arith)) in
      only-first PreviewNumber (10 if differ (longer ls r) ∷ 7 if ltb most_ranges (length (longer ls r).times) ∷ 4 if outside v.level ∷ 4 if bad_direction v.direction ∷ 4 if bad_step v.step ∷ ranges_rows none (ranges_of (longer ls r)))
      ((omega arith, inr (omega arith)), ((omega arith, inl (omega arith)), (low, (low, (low, ranges-numbers none (ranges_of (longer ls r)))))))
      ((first_row-exact n (preview_rows v ls r)).1 ((preview-refused n).0 e))
