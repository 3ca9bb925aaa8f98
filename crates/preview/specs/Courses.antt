-- A course of previews: each range of some lists, previewed after those before it.
--
--     Course v ls answers    the k-th answer is that of Preview on the first k ranges and range k, counted from 0
--     effects_in answers      the effects that answers tell, refusals left out
--     course_meanings        where Segment accepts the lists, the answers mean the effects of the ranges, one after the other
--     course_effects         so they tell those effects
--     course_told            and the outlooks told last are those of the segments
--
-- Assumes nothing.
use Rattle.definitions.specs.declared.refusals.Refusal.TheVariants.{NotAPanel}
use Rattle.definitions.specs.declared.refusals.Refusal.{Refusal}
use Rattle.std.specs.Prelude.{◌≡◌, refl, ℕ, suc, ◌<◌, length, get_or, take, Err, Ok, Result}
use Rattle.std.proofs.Common.{sym, ap, ap₂, ◌∙◌, arith, take-suc}
use mathlib.Core.List.{List, [], ◌∷◌, ◌++◌, map, head-eq_of_cons-eq, tail-eq_of_cons-eq, nil≢cons}
use Rattle.definitions.specs.Services.{Service}
use Rattle.definitions.specs.Ranges.{Range, Lists, ranges_of}
use Rattle.definitions.specs.Segments.{segments}
use Rattle.definitions.specs.Outlook.{open_strip}
use Rattle.definitions.specs.Results.{segments_of}
use Rattle.definitions.specs.Answers.{accepted}
use Rattle.definitions.specs.Previews.{Effect, joins, begins, effect_of}
use Rattle.splits.specs.Effects.{effect_after, effects, last_outlooks, effects_length, effects_at}
use Rattle.splits.proofs.Effects.{effects_outlooks}
use Rattle.trial_laws.specs.Rows.{refused_not_accepted}
use Rattle.trial_laws.specs.CallLaws.{accepted-is}
use Rattle.trial_laws.specs.RangeLists.{zero_range, range_at, ranges_length, ranges-at, first_entries, first-ranges}
use Rattle.values.specs.Meanings.{outlook_of}
use Rattle.drift.specs.Columns.{Columns}
use Rattle.drift.specs.SegmentPromise.{SegmentPromise}
use Rattle.drift.specs.GivenColumns.{taken_good, taken, taken_few}
use Rattle.preview.specs.declared.Effect.{Effect as EffectOfCode}
use Rattle.preview.specs.declared.Effect.TheVariants.{Joins, Begins}
use Rattle.preview.specs.PreviewPromise.{preview_meaning, PreviewPromise}
use Rattle.preview.specs.GivenEffects.{effect_given}
use Rattle.preview.specs.FirstRanges.{first_rows}

pub record Course (v : Service) (ls : Lists) (answers : List (Result EffectOfCode Refusal)) : Type 0 where
  pub as_many : length answers ≡ length ls.times
  pub each : (k : ℕ) → k < length ls.times → PreviewPromise v (first_entries k ls) (range_at ls k) (get_or answers k (Err NotAPanel))

unfoldable pub effects_in : List (Result EffectOfCode Refusal) → List Effect
effects_in [] = []
effects_in (Ok (Joins o) ∷ answers) = joins (outlook_of o) ∷ effects_in answers
effects_in (Ok (Begins o) ∷ answers) = begins (outlook_of o) ∷ effects_in answers
effects_in (Err n ∷ answers) = effects_in answers

-- lists whose entries are mapped alike, place by place
map-alike : {A B C : Type 0} (f : A → C) (g : B → C) (xs : List A) (ys : List B) (past : A) (past' : B) → length xs ≡ length ys
    → ((k : ℕ) → k < length xs → f (get_or xs k past) ≡ g (get_or ys k past')) → map f xs ≡ map g ys
map-alike f g [] [] past past' e h = refl
map-alike f g [] (y ∷ ys) past past' e h = absurd (omega arith)
map-alike f g (x ∷ xs) [] past past' e h = absurd (omega arith)
map-alike f g (x ∷ xs) (y ∷ ys) past past' e h = ap₂ (λ c cs. c ∷ cs) (h 0 (omega arith)) (map-alike f g xs ys past past' (omega arith) (λ k l. h (suc k) (omega arith)))

told-effects : (answers : List (Result EffectOfCode Refusal)) (es : List Effect) → map preview_meaning answers ≡ map accepted es → effects_in answers ≡ es
unfolding effects_in preview_meaning
told-effects [] [] e = refl
told-effects [] (x ∷ es) e = absurd (nil≢cons e)
told-effects (a ∷ answers) [] e = absurd (nil≢cons (sym e))
told-effects (Ok (Joins o) ∷ answers) (x ∷ es) e = ap₂ (λ y ys. y ∷ ys) (accepted-is (head-eq_of_cons-eq e)) (told-effects answers es (tail-eq_of_cons-eq e))
told-effects (Ok (Begins o) ∷ answers) (x ∷ es) e = ap₂ (λ y ys. y ∷ ys) (accepted-is (head-eq_of_cons-eq e)) (told-effects answers es (tail-eq_of_cons-eq e))
told-effects (Err n ∷ answers) (x ∷ es) e = refused_not_accepted (head-eq_of_cons-eq e)

module _ {v : Service} {ls : Lists} {answers : List (Result EffectOfCode Refusal)} (course : Course v ls answers) {old new : Columns} {m : ℕ} (segmented : SegmentPromise v ls old new (Ok m)) where
  abbrev rs : List Range
  rs = ranges_of ls

  many : length rs ≡ length ls.times
  many = ranges_length ls (taken segmented).same

  -- the k-th answer tells the k-th effect
  effect_at : (k : ℕ) → k < length ls.times → preview_meaning (get_or answers k (Err NotAPanel)) ≡ accepted (get_or (effects v rs) k (joins open_strip))
  effect_at k h =
      let none = first_rows (taken segmented) v (taken_good segmented) (taken_few segmented) k h in
      let next-taken = sym (take-suc rs k zero_range (omega (arith, many)) ∙ ap (λ r. take k rs ++ (r ∷ [])) (ranges-at ls (taken segmented).same k)) in
      effect_given (course.each k h) none
      ∙ ap (λ l. accepted (effect_after v l (range_at ls k))) (first-ranges k ls)
      ∙ ap (λ l. accepted (effect_of (length (segments (take k rs))) (segments_of v l))) next-taken
      ∙ ap accepted (sym (effects_at v rs k (joins open_strip) (omega (arith, many))))

  pub course_meanings : map preview_meaning answers ≡ map accepted (effects v rs)
  course_meanings =
      map-alike preview_meaning accepted answers (effects v rs) (Err NotAPanel) (joins open_strip) (course.as_many ∙ sym (effects_length v rs ∙ many))
      (λ k h. effect_at k (omega (arith, course.as_many)))

  pub course_effects : effects_in answers ≡ effects v rs
  course_effects = told-effects answers (effects v rs) course_meanings

  pub course_told : last_outlooks (effects_in answers) ≡ map (λ s. s.outlook) (segments_of v rs)
  course_told = ap last_outlooks course_effects ∙ effects_outlooks v rs
