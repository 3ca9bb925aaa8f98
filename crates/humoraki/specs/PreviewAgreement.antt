-- What the library's Preview sets, against what its Segment leaves on the lists with the range added.
--
--     segment-below   what the library leaves is what the call below leaves with this answer, so drift's and preview's theorems are about it
--     preview-below                    the same of Preview, refused or not
--     same_number                      where the slices of Segment are long enough, both give one number
--     same_outlook                     where that is 0, the eight numbers set are those of the last row in the slices
--     same_kind                        and the kind is by how much the count of segments rises
--     begins_exactly_zeros             the kind is 1 exactly if the eight numbers are 0
--
-- Assumes nothing.
use Rattle.definitions.specs.Trial.{segment_rows}
use Rattle.trial_laws.specs.LongerLists.{effect_on, preview_by_rows}
use Rattle.preview.specs.declared.Effect.{Effect as EffectOfCode}
use Rattle.humoraki.specs.TabledNumbers.{in-table, result-means, few_numbers, service-tabled}
use Rattle.trial_laws.specs.RefusalNumbers.{refusal_of, number_again, answer_with}
use Rattle.definitions.specs.declared.refusals.Refusal.{Refusal}
use Rattle.std.specs.Prelude.{ℕ, ◌+◌, ◌-◌, ◌≡◌, ◌↔◌, ◌⊎◌, false, length, ◌<ℤ◌, ◌≤◌, ◌<◌, Err, Ok, Result}
use Rattle.std.proofs.Math.Path.{refl, sym, ap, subst}
use Rattle.std.proofs.Common.{◌∙◌, inl, inr, arith}
use mathlib.Core.List.{[]}
use Rattle.std.proofs.Math.IntN.{pos}
use Rattle.std.specs.Int.Signed.{<ℤ_irrefl}
use Rattle.definitions.specs.Spans.{segment_room}
use Rattle.definitions.specs.Services.{Service}
use Rattle.definitions.specs.Ranges.{Range, Lists, ranges_of}
use Rattle.definitions.specs.Segments.{segments}
use Rattle.definitions.specs.Results.{segments_of, slow_line, outlook_numbers, last_eight}
use Rattle.definitions.specs.Answers.{Answer, refused, accepted, ◌>>=◌, firstRow, refusal}
use Rattle.definitions.specs.Trial.{too_short}
use Rattle.definitions.specs.Calls.{segment_call}
use Rattle.definitions.specs.Previews.{Effect, longer, effect_of, preview_call}
use Rattle.trial_laws.specs.CallLaws.{refusal-tells}
use Rattle.drift.specs.Columns.{lengths, row_at}
use Rattle.drift.specs.SegmentPromise.{segment_meaning, SegmentPromise}
use Rattle.preview.specs.PreviewPromise.{preview_meaning, PreviewPromise}
use Rattle.preview.specs.Agreement.{rows_same}
use Rattle.preview.specs.PreviewTheorems.{agrees_outlook, agrees_begins, agrees_joins}
use Rattle.answer_numbers.specs.Told.{eight}
use Rattle.humoraki.specs.Promises.{SegmentLent, segment_answer, AfterSegment, PreviewLent, preview_answer, AfterPreview}
use Rattle.humoraki.specs.Zero as Zero
use Rattle.humoraki.specs.PreviewNumbers.{answer-below, effect_found, numbers_found, kind_in, joins_kind, joins_means, begins_kind, begins_zeros}

pub segment-below : {v : Service} {ls : Lists} {old new : SegmentLent} {number : ℕ} → AfterSegment v ls old new number → SegmentPromise v ls old.columns new.columns (answer_with new.count number)
unfolding segment_meaning segment_call segment_rows
segment-below {v} {ls} {old} {new} {number} after =
    let few : number ≤ 14 = subst (λ n. n ≤ 14) (sym after.counted.number_is) (few_numbers _ (segments_of v (ranges_of ls)) (service-tabled segment_room (lengths old.columns) v ls)) in
    record { answer_is = result-means number new.count few ∙ Zero.counted-mean (segment_answer v ls old) length old.count new.count number after.counted (Zero.segment-zero after).0; columns_are = after.columns_are }

pub preview-below : {v : Service} {ls : Lists} {r : Range} {old new : PreviewLent} {number : ℕ} → AfterPreview v ls r old new number
    → (answer : Result EffectOfCode Refusal) × PreviewPromise v ls r answer × (number ≡ refusal (preview_meaning answer))
unfolding preview_meaning segment_rows refusal
preview-below {v} {ls} {r} {number = number} after = by (preview_answer v ls r) refl
  where
    few : refusal (preview_answer v ls r) ≤ 14
    few = subst (λ x. refusal x ≤ 14) (sym (preview_by_rows v ls r)) (few_numbers _ (effect_on v ls r) (service-tabled segment_room [] v (longer ls r)))

    by : (x : Answer Effect) → preview_answer v ls r ≡ x → (answer : Result EffectOfCode Refusal) × PreviewPromise v ls r answer × (number ≡ refusal (preview_meaning answer))
    by (refused n) e =
        let above : 0 < n = Zero.preview-above v ls r n e in
        let told = number_again n (in-table n above (subst (λ x. refusal x ≤ 14) e few)) in
        (Err (refusal_of n), record { answer_is = ap refused told ∙ sym e }, after.number_is ∙ ap refusal e ∙ sym told)
    by (accepted x) e = let below = answer-below v ls r e in (below.0, below.1, after.number_is ∙ ap refusal (e ∙ sym below.2))

module _ {v : Service} {ls : Lists} {r : Range} {old new : PreviewLent} (after : AfterPreview v ls r old new 0) where
  joins_positive : new.kind ≡ 0 → pos 0 <ℤ new.numbers.slow.d
  unfolding slow_line
  joins_positive z =
      let (o, numbers, told) = joins_means after refl z in
      subst (λ d. pos 0 <ℤ d) (sym (ap (λ n. n.slow.d) (numbers ∙ ap outlook_numbers told.is))) told.means.slow_proper.positive

  pub begins_exactly_zeros : (new.kind ≡ 1) ↔ (new.numbers ≡ eight (pos 0) (pos 0) (pos 0) (pos 0) (pos 0) (pos 0) 0 0)
  begins_exactly_zeros = (begins_zeros after refl, λ e. by e (kind_in after refl))
    where
      by : new.numbers ≡ eight (pos 0) (pos 0) (pos 0) (pos 0) (pos 0) (pos 0) 0 0 → (new.kind ≡ 0) ⊎ (new.kind ≡ 1) → new.kind ≡ 1
      by e (inl z) = absurd (<ℤ_irrefl (subst (λ d. pos 0 <ℤ d) (ap (λ n. n.slow.d) e) (joins_positive z)))
      by e (inr k) = k

module _ {v : Service} {ls : Lists} {r : Range} {p p' : PreviewLent} {s s' : SegmentLent} where
  pub same_number : {a b : ℕ} → AfterPreview v ls r p p' a → AfterSegment v (longer ls r) s s' b → too_short segment_room (lengths s.columns) ≡ false → a ≡ b
  unfolding preview_call segment_call
  same_number previewed segmented room =
      previewed.number_is
      ∙ refusal-tells (effect_of (length (segments (ranges_of ls)))) (segment_call [] v (longer ls r))
      ∙ ap (λ rows. refusal (firstRow rows >>= λ ok. accepted (segments_of v (ranges_of (longer ls r))))) (sym (rows_same (lengths s.columns) v (longer ls r) room))
      ∙ sym segmented.counted.number_is

  module _ (previewed : AfterPreview v ls r p p' 0) (segmented : AfterSegment v (longer ls r) s s' 0) where
    abbrev below : (answer : Result EffectOfCode Refusal) × PreviewPromise v ls r answer × (preview_meaning answer ≡ accepted (effect_found previewed refl).0)
    below = answer-below v ls r (effect_found previewed refl).1

    segmented_below : SegmentPromise v (longer ls r) s.columns s'.columns (Ok s'.count)
    unfolding answer_with
    segmented_below = segment-below segmented

    pub same_outlook : p'.numbers ≡ last_eight (row_at s'.columns (s'.count - 1))
    same_outlook = numbers_found previewed refl ∙ sym (agrees_outlook below.1 segmented_below below.2)

    pub same_kind : {t t' : SegmentLent} → AfterSegment v ls t t' 0 → s'.count ≡ t'.count + p'.kind
    unfolding answer_with
    same_kind {t} {t'} before = by (kind_in previewed refl)
      where
        before_below : SegmentPromise v ls t.columns t'.columns (Ok t'.count)
        before_below = segment-below before

        by : (p'.kind ≡ 0) ⊎ (p'.kind ≡ 1) → s'.count ≡ t'.count + p'.kind
        by (inl z) = let j = (joins_kind previewed refl).0 z in let b = answer-below v ls r j.1 in omega (arith, z, (agrees_joins b.1 segmented_below before_below).0 (j.0, b.2))
        by (inr o) = let j = (begins_kind previewed refl).0 o in let b = answer-below v ls r j in omega (arith, o, (agrees_begins b.1 segmented_below before_below).0 (_, b.2))
