-- What an accepted preview tells, case by case: on the way to the front page `PreviewTheorems`.
--
--     Taken, Joined, Begun answer      the answer is no refusal; the range joins the last segment; it begins one
--     joins-is, begins-is, joins_not_begins   answers that are equal tell the same
--     none_given                       where Preview accepted, no row holds
--     ranges_given, effect_given       where no row holds: the ranges of the longer lists, and the effect that Preview gives
--     Given, given                     this in two cases: the range joins and there are as many segments, or it begins one and there is one more
--     LastEight row o                  the last eight numbers of the row are those of the outlook
--     numbers-told                     a segment's row has those of its outlook
--
-- Assumes nothing.
use Rattle.definitions.specs.declared.refusals.Refusal.{Refusal}
use Rattle.std.specs.Prelude.{◌≡◌, refl, ◌↔◌, ◌⊎◌, ℕ, suc, ◌<◌, ◌≤◌, T, length, Result}
use Rattle.std.proofs.Common.{sym, ap, ◌∙◌, subst, inl, inr, arith, length-append}
use mathlib.Core.List.{List, [], ◌∷◌, ◌++◌, flatten, drop_last, append_assoc}
use Rattle.integers.specs.Booleans.{true→T, false→¬T}
use Rattle.definitions.specs.Services.{Service}
use Rattle.definitions.specs.Ranges.{Range, Lists, ranges_of}
use Rattle.definitions.specs.Lines.{has_line}
use Rattle.definitions.specs.Fit.{HasLine, Ordered}
use Rattle.definitions.specs.Splits.{last_run}
use Rattle.definitions.specs.Segments.{segments}
use Rattle.definitions.specs.Outlook.{Outlook, open_strip, outlook, end_time}
use Rattle.definitions.specs.Results.{Numbers, Segment, numbers_of, last_eight, outlook_numbers}
use Rattle.definitions.specs.Answers.{accepted, ◌>>=◌, firstRow}
use Rattle.definitions.specs.Previews.{Effect, joins, begins, longer, preview_rows}
use Rattle.splits.specs.Cutting.{cut_nil, cut_not_empty, cut_last, cut_ends}
use Rattle.splits.specs.OrderedRanges.{last_time_of, ordered-right, last-append}
use Rattle.splits.specs.Effects.{grown, effect_after, Next, next_joins, next_begins}
use Rattle.splits.proofs.Effects.{next}
use Rattle.lines.specs.RunOutlook.{LinesOf}
use Rattle.lines.proofs.RunOutlook.{run-lines}
use Rattle.lines.specs.Theorems.{has-line}
use Rattle.trial_laws.specs.Rows.{NoneHolds, first_row-accepted}
use Rattle.trial_laws.specs.CallLaws.{call-accepted}
use Rattle.trial_laws.specs.RangeLists.{SameLength, ranges_length}
use Rattle.trial_laws.specs.Accepted.{GoodService, AcceptedLists}
use Rattle.trial_laws.specs.LongerLists.{longer_same, longer_ranges, effect_on, preview_by_rows, preview-accepted}
use Rattle.preview.specs.declared.Effect.{Effect as EffectOfCode}
use Rattle.preview.specs.PreviewPromise.{preview_meaning, PreviewPromise}
use Rattle.preview.specs.FoundEffects.{effect_on_lem}

-- ---- the last segment with a range after it

-- it ends the list
grown-ends : (rs : List Range) (r : Range) → 0 < length rs → flatten (drop_last (segments rs)) ++ grown rs r ≡ rs ++ (r ∷ [])
unfolding segments
grown-ends rs r h =
    sym (append_assoc (flatten (drop_last (segments rs))) (last_run (segments rs)) (r ∷ []))
    ∙ ap (λ l. l ++ (r ∷ [])) (cut_ends has_line rs h)

grown-first : (r : Range) → grown [] r ≡ r ∷ []
unfolding segments last_run
grown-first r = ap (λ runs. last_run runs ++ (r ∷ [])) (cut_nil has_line)

grown-ordered : (rs : List Range) (r : Range) → Ordered (rs ++ (r ∷ [])) → Ordered (grown rs r)
grown-ordered [] r o = subst Ordered (sym (grown-first r)) o
grown-ordered (s ∷ rs) r o = ordered-right (flatten (drop_last (segments (s ∷ rs)))) (grown (s ∷ rs) r) (subst Ordered (sym (grown-ends (s ∷ rs) r (omega arith))) o)

grown-two : (rs : List Range) (r : Range) → 0 < length rs → 2 ≤ length (grown rs r)
unfolding segments
grown-two rs r h =
    let run = last_run (segments rs) in
    omega (arith, length-append run (r ∷ []), cut_not_empty has_line rs (drop_last (segments rs)) run [] (cut_last has_line rs h))

grown-outlook : (v : Service) → GoodService v → (rs : List Range) (r : Range) → 0 < length rs → Ordered (rs ++ (r ∷ [])) → HasLine (grown rs r) → LinesOf v (grown rs r) r.time (outlook v (grown rs r))
unfolding last_time_of end_time
grown-outlook v good rs r h o line =
    subst (λ t. LinesOf v (grown rs r) t (outlook v (grown rs r))) (last-append (last_run (segments rs)) r []) (run-lines v good.direction_in_is good.step_good.over (grown rs r) (grown-two rs r h) (grown-ordered rs r o) line)

-- ---- the effect given

abbrev pub Taken : Result EffectOfCode Refusal → Type 0
Taken answer = (e : Effect) × (preview_meaning answer ≡ accepted e)

abbrev pub Joined : Result EffectOfCode Refusal → Type 0
Joined answer = (o : Outlook) × (preview_meaning answer ≡ accepted (joins o))

abbrev pub Begun : Result EffectOfCode Refusal → Type 0
Begun answer = (o : Outlook) × (preview_meaning answer ≡ accepted (begins o))

pub joins-is : {o p : Outlook} → accepted (joins o) ≡ accepted (joins p) → o ≡ p
joins-is e = cc

pub begins-is : {o p : Outlook} → accepted (begins o) ≡ accepted (begins p) → o ≡ p
begins-is e = cc

pub joins_not_begins : {X : Type 0} {o p : Outlook} → accepted (joins o) ≡ accepted (begins p) → X
joins_not_begins e = absurd (let z : ◌≡◌ {A = ℕ} 0 1 = cc in omega arith)

-- what no row's holding gives: two cases, each with what the range does to the number of segments
pub data Given (v : Service) (ls : Lists) (r : Range) (answer : Result EffectOfCode Refusal) : Type 0 where
  given_joins : 0 < length ls.times → LinesOf v (grown (ranges_of ls) r) r.time (outlook v (grown (ranges_of ls) r)) → HasLine (grown (ranges_of ls) r)
      → preview_meaning answer ≡ accepted (joins (outlook v (grown (ranges_of ls) r))) → length (segments (ranges_of ls ++ (r ∷ []))) ≡ length (segments (ranges_of ls)) → Given v ls r answer
  given_begins : (length ls.times ≡ 0) ⊎ ¬ HasLine (grown (ranges_of ls) r) → preview_meaning answer ≡ accepted (begins open_strip)
      → length (segments (ranges_of ls ++ (r ∷ []))) ≡ suc (length (segments (ranges_of ls))) → Given v ls r answer

module _ {v : Service} {ls : Lists} {r : Range} {answer : Result EffectOfCode Refusal} (promise : PreviewPromise v ls r answer) where
  abbrev rs : List Range
  rs = ranges_of ls

  answered : preview_meaning answer ≡ firstRow (preview_rows v ls r) >>= λ ok. accepted (effect_on v ls r)
  answered = promise.answer_is ∙ preview_by_rows v ls r

  pub none_given : (e : Effect) → preview_meaning answer ≡ accepted e → NoneHolds (preview_rows v ls r)
  none_given e f = ((call-accepted (preview_rows v ls r) (effect_on v ls r) e).0 (sym answered ∙ f)).0

  module _ (none : NoneHolds (preview_rows v ls r)) where
    good : GoodService v
    good = ((preview-accepted v ls r).0 ((first_row-accepted (preview_rows v ls r)).1 none)).0

    taken : AcceptedLists (longer ls r)
    taken = ((preview-accepted v ls r).0 ((first_row-accepted (preview_rows v ls r)).1 none)).1

    same : SameLength ls
    same = (longer_same ls r).1 taken.same

    pub ranges_given : ranges_of (longer ls r) ≡ rs ++ (r ∷ [])
    ranges_given = longer_ranges ls r same

    pub effect_given : preview_meaning answer ≡ accepted (effect_after v rs r)
    effect_given = answered ∙ (call-accepted (preview_rows v ls r) (effect_on v ls r) (effect_on v ls r)).1 (none, refl) ∙ ap accepted (effect_on_lem v ls r same)

    rising : Ordered (rs ++ (r ∷ []))
    rising = subst Ordered ranges_given taken.ranges.ordered

    -- among these ranges the test decides
    line_iff : T (has_line (grown rs r)) ↔ HasLine (grown rs r)
    line_iff = has-line (grown rs r) (grown-ordered rs r rising)

    pub given : Given v ls r answer
    given = by (next v rs r)
      where
        by : Next v rs r → Given v ls r answer
        by (next_joins some test is count) =
            let line = line_iff.0 (true→T test) in
            given_joins (omega (arith, ranges_length ls same)) (grown-outlook v good rs r some rising line) line (effect_given ∙ ap accepted is) count
        by (next_begins (inl e) is count) = given_begins (inl (omega (arith, ranges_length ls same))) (effect_given ∙ ap accepted is) count
        by (next_begins (inr test) is count) = given_begins (inr (λ line. false→¬T test (line_iff.1 line))) (effect_given ∙ ap accepted is) count

-- ---- the outlook's eight numbers

abbrev pub LastEight : Numbers → Outlook → Type 0
LastEight row o = last_eight row ≡ outlook_numbers o

pub numbers-told : (s : Segment) → LastEight (numbers_of s) s.outlook
unfolding numbers_of
numbers-told s = refl
