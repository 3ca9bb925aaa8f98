-- What the numbers tell that Preview gives and sets. With after : AfterPreview v ls r old new number:
--
--     outlook_in, outlook-means      the outlook of the call below that stands for one of the scope
--     lent_kept                     where the number is not 0, everything that was lent is as it was
--     effect_found                  where it is 0, the effect that Preview tells
--     kind_found, numbers_found     then the kind and the eight numbers are those of that effect
--     kind_in                       so the kind is 0 or 1
--     joins_kind, begins_kind       and it is 0 exactly if the range joins the last segment, and 1 exactly if it begins one, which is open
--     joins_means                   so where the kind is 0, the eight numbers are those of the lines and times of the last segment with the range
--     begins_zeros                  and where the kind is 1, each of the eight numbers is 0
--     answer-below                  an effect that the library tells is that of an answer with which the call below keeps its promise, so preview's PreviewTheorems are about it
--
-- Assumes nothing.
use Rattle.preview.specs.declared.Effect.TheVariants.{Joins, Begins}
use Rattle.preview.specs.declared.Effect.{Effect as EffectOfCode}
use Rattle.definitions.specs.declared.refusals.Refusal.{Refusal}
use Rattle.std.specs.Prelude.{ℕ, Option, None, Some, ◌<◌, ◌≡◌, refl, ◌↔◌, ◌⊎◌, [], ◌∷◌, ◌++◌, pos, Ok, Result}
use Rattle.std.proofs.Common.{sym, ap₂, ◌∙◌, arith}
use Rattle.std.proofs.Math.Path.{ap}
use Rattle.std.proofs.Math.Logic.{inl, inr}
use Rattle.definitions.specs.Times.{none, at, Time as TimeTerm}
use Rattle.definitions.specs.Services.{Service}
use Rattle.definitions.specs.Ranges.{Range, Lists, ranges_of}
use Rattle.definitions.specs.Splits.{last_run}
use Rattle.definitions.specs.Segments.{segments}
use Rattle.definitions.specs.Outlook.{open_strip, lines, Outlook as OutlookTerm}
use Rattle.definitions.specs.Results.{slow_line, fast_line, some_number, all_number, outlook_numbers}
use Rattle.definitions.specs.Answers.{Answer, refused, accepted, refusal, given}
use Rattle.definitions.specs.Previews.{Effect, joins, begins, kind_number, effect_outlook}
use Rattle.lines.specs.RunOutlook.{LinesOf}
use Rattle.trial_laws.specs.CallLaws.{accepted-is}
use Rattle.values.specs.declared.Outlook.{Outlook}
use Rattle.values.specs.declared.Outlook.TheVariants.{Open, Lines}
use Rattle.values.specs.Meanings.{time_of, outlook_of}
use Rattle.preview.specs.PreviewPromise.{preview_meaning, PreviewPromise}
use Rattle.preview.specs.PreviewTheorems.{begins_open, joins_lines}
use Rattle.answer_numbers.specs.Told.{eight}
use Rattle.humoraki.specs.Promises.{PreviewLent, preview_answer, AfterPreview}
use Rattle.humoraki.specs.Zero.{Accepted, preview-zero}

-- ---- the answer of the call below that tells of an effect

time_in : TimeTerm → Option ℕ
time_in none = None
time_in (at t) = Some t

pub outlook_in : OutlookTerm → Outlook
outlook_in open_strip = Open
outlook_in (lines slow fast s a) = Lines (record { p = slow.p; q = slow.q; d = slow.d }) (record { p = fast.p; q = fast.q; d = fast.d }) (time_in s) (time_in a)

answer_of : Effect → Result EffectOfCode Refusal
answer_of (joins o) = Ok (Joins (outlook_in o))
answer_of (begins o) = Ok (Begins (outlook_in o))

time-means : (t : TimeTerm) → time_of (time_in t) ≡ t
unfolding time_of time_in
time-means none = refl
time-means (at t) = refl

pub outlook-means : (o : OutlookTerm) → outlook_of (outlook_in o) ≡ o
unfolding outlook_of outlook_in
outlook-means open_strip = refl
outlook-means (lines slow fast s a) = ap₂ (lines slow fast) (time-means s) (time-means a)

answer-means : (e : Effect) → preview_meaning (answer_of e) ≡ accepted e
unfolding answer_of preview_meaning
answer-means (joins o) = ap (λ x. accepted (joins x)) (outlook-means o)
answer-means (begins o) = ap (λ x. accepted (begins x)) (outlook-means o)

pub answer-below : (v : Service) (ls : Lists) (r : Range) {e : Effect} → preview_answer v ls r ≡ accepted e
    → (answer : Result EffectOfCode Refusal) × PreviewPromise v ls r answer × (preview_meaning answer ≡ accepted e)
answer-below v ls r {e} is = (answer_of e, record { answer_is = answer-means e ∙ sym is }, answer-means e)

-- what begins is open
begun_open : (v : Service) (ls : Lists) (r : Range) {o : OutlookTerm} → preview_answer v ls r ≡ accepted (begins o) → o ≡ open_strip
begun_open v ls r is = let below = answer-below v ls r is in begins_open below.1 below.2

-- ---- after Preview

kept : (answer : Answer Effect) {old new : PreviewLent} {number : ℕ} → number ≡ refusal answer → 0 < number → new.kind ≡ given answer kind_number old.kind
    → new.numbers ≡ given answer (λ e. outlook_numbers (effect_outlook e)) old.numbers → new ≡ old
unfolding refusal given
kept (refused n) e above kind numbers = λ i. record { kind = kind i; numbers = numbers i }
kept (accepted x) e above kind numbers = absurd (omega arith)

module _ {v : Service} {ls : Lists} {r : Range} {old new : PreviewLent} {number : ℕ} (after : AfterPreview v ls r old new number) where
  pub lent_kept : 0 < number → new ≡ old
  lent_kept above = kept (preview_answer v ls r) after.number_is above after.kind_is after.numbers_are

  module _ (zero : number ≡ 0) where
    pub effect_found : Accepted (preview_answer v ls r)
    effect_found = (preview-zero after).0 zero

    pub kind_found : new.kind ≡ kind_number effect_found.0
    unfolding given
    kind_found = after.kind_is ∙ ap (λ x. given x kind_number old.kind) effect_found.1

    pub numbers_found : new.numbers ≡ outlook_numbers (effect_outlook effect_found.0)
    unfolding given
    numbers_found = after.numbers_are ∙ ap (λ x. given x (λ e. outlook_numbers (effect_outlook e)) old.numbers) effect_found.1

    pub kind_in : (new.kind ≡ 0) ⊎ (new.kind ≡ 1)
    unfolding kind_number
    kind_in = by effect_found.0 kind_found
      where
        by : (e : Effect) → new.kind ≡ kind_number e → (new.kind ≡ 0) ⊎ (new.kind ≡ 1)
        by (joins o) k = inl k
        by (begins o) k = inr k

    pub joins_kind : (new.kind ≡ 0) ↔ ((o : OutlookTerm) × (preview_answer v ls r ≡ accepted (joins o)))
    unfolding kind_number
    joins_kind = (by effect_found.0 effect_found.1 kind_found, λ j. kind_found ∙ ap kind_number (accepted-is (sym effect_found.1 ∙ j.1)))
      where
        by : (e : Effect) → preview_answer v ls r ≡ accepted e → new.kind ≡ kind_number e → new.kind ≡ 0 → (o : OutlookTerm) × (preview_answer v ls r ≡ accepted (joins o))
        by (joins o) is k z = (o, is)
        by (begins o) is k z = absurd (omega arith)

    pub joins_means : new.kind ≡ 0 → (o : OutlookTerm) × (new.numbers ≡ outlook_numbers o) × LinesOf v (last_run (segments (ranges_of ls)) ++ (r ∷ [])) r.time o
    unfolding effect_outlook
    joins_means z =
        let j = joins_kind.0 z in
        let below = answer-below v ls r j.1 in
        (j.0, numbers_found ∙ ap (λ e. outlook_numbers (effect_outlook e)) (accepted-is (sym effect_found.1 ∙ j.1)), joins_lines below.1 below.2)

    pub begins_kind : (new.kind ≡ 1) ↔ (preview_answer v ls r ≡ accepted (begins open_strip))
    unfolding kind_number
    begins_kind = (by effect_found.0 effect_found.1 kind_found, λ b. kind_found ∙ ap kind_number (accepted-is (sym effect_found.1 ∙ b)))
      where
        by : (e : Effect) → preview_answer v ls r ≡ accepted e → new.kind ≡ kind_number e → new.kind ≡ 1 → preview_answer v ls r ≡ accepted (begins open_strip)
        by (joins o) is k one = absurd (omega arith)
        by (begins o) is k one = is ∙ ap (λ x. accepted (begins x)) (begun_open v ls r is)

    pub begins_zeros : new.kind ≡ 1 → new.numbers ≡ eight (pos 0) (pos 0) (pos 0) (pos 0) (pos 0) (pos 0) 0 0
    unfolding effect_outlook slow_line fast_line some_number all_number
    begins_zeros one = numbers_found ∙ ap (λ e. outlook_numbers (effect_outlook e)) (accepted-is (sym effect_found.1 ∙ begins_kind.0 one))
