-- Seeing the effect of a range before it is added: theorems about the answers that a caller holds. `Taken`, `Joined` and `Begun` say of an answer that it is no refusal, that the range
-- joins the last segment, that it begins one. `grown (ranges_of ls) r` is the last segment of the lists with r after it, `LinesOf v run t o` says that o is a slow line, a fast line and the
-- two times of a run that ends at t, and `LastEight row o` that the last eight numbers of a row are those of an outlook.
--
--     begins_open                      what begins is open
--     joins_lines                      what joins has the lines and times of the last segment with the range, over all lines of its fit
--     joins_exactly                    it joins exactly if no row holds, there is a range before it, and some line fits the last segment with it
--     begins_exactly                   it begins a segment exactly if no row holds, and there is no range before it or no such line
--
-- Against Segment on the lists with the range added:
--
--     agrees-refused, agrees_accepted  where its slices are long enough, Preview is refused with n exactly if Segment is, and accepted exactly if Segment is
--     agrees-some, agrees_outlook      Segment gives a segment at least, and the last row's last eight numbers are those of the outlook that Preview gave
--     agrees_begins, agrees_joins      it begins a segment exactly if Segment gives one more than on the lists, and joins exactly if it gives as many
--
-- A course, `Course v ls answers`: each range of the lists is previewed after those before it, and `effects_in answers` are the effects told. Where Segment accepted the lists:
--
--     course_accepted                  no answer is a refusal
--     course_begun                     as many of them begin a segment as Segment gave
--     course_count, course_outlooks    the outlooks told last of each segment: as many as Segment gave, and the j-th has the last eight numbers of the j-th row
--
-- Assumes nothing.
use Rattle.definitions.specs.Refusals.{refusal_number}
use Rattle.definitions.specs.declared.refusals.Refusal.{Refusal}
use Rattle.std.specs.Prelude.{◌≡◌, ◌↔◌, ◌⊎◌, false, List, [], ℕ, ◌+◌, ◌-◌, ◌<◌, length, Err, Ok, Result}
use Rattle.std.proofs.Common.{sym, ◌∙◌, inl, inr, arith}
use Rattle.std.proofs.Math.Path.{ap, subst}
use Rattle.std.proofs.Math.ListN.{get_or, get_or-map}
use Rattle.std.proofs.lemmas.List.{length-map}
use Rattle.integers.specs.Lists.{In, in_map, in-map-inv}
use Rattle.definitions.specs.Services.{Service}
use Rattle.definitions.specs.Spans.{segment_room}
use Rattle.definitions.specs.Ranges.{Range, Lists, ranges_of}
use Rattle.definitions.specs.Fit.{HasLine}
use Rattle.definitions.specs.Outlook.{Outlook, open_strip, outlook}
use Rattle.definitions.specs.Results.{segment_of, segments_of}
use Rattle.definitions.specs.Answers.{refused, accepted}
use Rattle.definitions.specs.Trial.{too_short}
use Rattle.definitions.specs.Previews.{Effect, joins, begins, longer, effect_outlook, preview_rows}
use Rattle.splits.specs.Effects.{grown, effect_after, effects, begun_in, last_outlooks, segments_of-length}
use Rattle.splits.proofs.Effects.{effects_begun}
use Rattle.lines.specs.RunOutlook.{LinesOf}
use Rattle.trial_laws.specs.Rows.{NoneHolds, FirstAt, refused_not_accepted}
use Rattle.drift.specs.Columns.{Columns, lengths, row_at}
use Rattle.drift.specs.SegmentPromise.{segment_meaning, SegmentPromise}
use Rattle.drift.specs.Refusals.{segment_refused, segment-accepted}
use Rattle.drift.specs.GivenColumns.{count-is, row-at}
use Rattle.preview.specs.declared.Effect.{Effect as EffectOfCode}
use Rattle.preview.specs.PreviewPromise.{preview_meaning, PreviewPromise}
use Rattle.preview.specs.Refusals.{preview-refused}
use Rattle.preview.specs.GivenEffects.{Taken, Joined, Begun, joins-is, begins-is, joins_not_begins, Given, given_joins, given_begins, given, none_given, effect_given, LastEight, numbers-told}
use Rattle.preview.specs.Agreement.{rows_same, none-meant, longer_some, last_told, kinds}
use Rattle.preview.specs.Courses.{Course, effects_in, course_meanings, course_effects, course_told}

-- ---- one preview

module _ {v : Service} {ls : Lists} {r : Range} {answer : Result EffectOfCode Refusal} (promise : PreviewPromise v ls r answer) where
  pub begins_open : {o : Outlook} → preview_meaning answer ≡ accepted (begins o) → o ≡ open_strip
  begins_open {o} e = by (given promise (none_given promise (begins o) e))
    where
      by : Given v ls r answer → o ≡ open_strip
      by (given_joins some lines line is count) = joins_not_begins (sym is ∙ e)
      by (given_begins out is count) = begins-is (sym e ∙ is)

  pub joins_lines : {o : Outlook} → preview_meaning answer ≡ accepted (joins o) → LinesOf v (grown (ranges_of ls) r) r.time o
  joins_lines {o} e = by (given promise (none_given promise (joins o) e))
    where
      by : Given v ls r answer → LinesOf v (grown (ranges_of ls) r) r.time o
      by (given_joins some lines line is count) = subst (LinesOf v (grown (ranges_of ls) r) r.time) (joins-is (sym is ∙ e)) lines
      by (given_begins out is count) = joins_not_begins (sym e ∙ is)

  pub joins_exactly : Joined answer ↔ (NoneHolds (preview_rows v ls r) × (0 < length ls.times) × HasLine (grown (ranges_of ls) r))
  joins_exactly = (λ j. let none = none_given promise (joins j.0) j.1 in to j none (given promise none), λ h. from h.1 h.2 (given promise h.0))
    where
      to : Joined answer → NoneHolds (preview_rows v ls r) → Given v ls r answer → NoneHolds (preview_rows v ls r) × (0 < length ls.times) × HasLine (grown (ranges_of ls) r)
      to j none (given_joins some lines line is count) = (none, some, line)
      to j none (given_begins out is count) = joins_not_begins (sym j.1 ∙ is)

      from : 0 < length ls.times → HasLine (grown (ranges_of ls) r) → Given v ls r answer → Joined answer
      from some line (given_joins h lines t is count) = (outlook v (grown (ranges_of ls) r), is)
      from some line (given_begins (inl e) is count) = absurd (omega arith)
      from some line (given_begins (inr out) is count) = absurd (out line)

  pub begins_exactly : Begun answer ↔ (NoneHolds (preview_rows v ls r) × ((length ls.times ≡ 0) ⊎ ¬ HasLine (grown (ranges_of ls) r)))
  begins_exactly = (λ b. let none = none_given promise (begins b.0) b.1 in to b none (given promise none), λ h. from h.1 (given promise h.0))
    where
      to : Begun answer → NoneHolds (preview_rows v ls r) → Given v ls r answer → NoneHolds (preview_rows v ls r) × ((length ls.times ≡ 0) ⊎ ¬ HasLine (grown (ranges_of ls) r))
      to b none (given_joins some lines line is count) = joins_not_begins (sym is ∙ b.1)
      to b none (given_begins out is count) = (none, out)

      from : (length ls.times ≡ 0) ⊎ ¬ HasLine (grown (ranges_of ls) r) → Given v ls r answer → Begun answer
      from out (given_begins h is count) = (open_strip, is)
      from (inl e) (given_joins some lines line is count) = absurd (omega arith)
      from (inr out) (given_joins some lines line is count) = absurd (out line)

-- ---- against Segment

module _ {v : Service} {ls : Lists} {r : Range} {answer : Result EffectOfCode Refusal} (promise : PreviewPromise v ls r answer) where
  module _ {old new : Columns} {answer' : Result ℕ Refusal} (segmented : SegmentPromise v (longer ls r) old new answer') (room : too_short segment_room (lengths old) ≡ false) where
    pub agrees-refused : (n : ℕ) → (preview_meaning answer ≡ refused n) ↔ (segment_meaning answer' ≡ refused n)
    agrees-refused n =
        let same = rows_same (lengths old) v (longer ls r) room in (
          λ e. (segment_refused segmented n).1 (subst (FirstAt n) (sym same) ((preview-refused promise n).0 e)),
          λ e. (preview-refused promise n).1 (subst (FirstAt n) same ((segment_refused segmented n).0 e)),
        )

    pub agrees_accepted : Taken answer ↔ ((m : ℕ) × (segment_meaning answer' ≡ accepted m))
    agrees_accepted =
        let same = rows_same (lengths old) v (longer ls r) room in (
          λ t. (length (segments_of v (ranges_of (longer ls r))), (segment-accepted segmented).1 (subst NoneHolds (sym same) (none_given promise t.0 t.1))),
          λ t. (effect_after v (ranges_of ls) r, effect_given promise (subst NoneHolds same (none-meant segmented t.1))),
        )

  module _ {old new : Columns} {m : ℕ} (segmented : SegmentPromise v (longer ls r) old new (Ok m)) where
    pub agrees-some : 0 < m
    agrees-some = longer_some promise segmented

    pub agrees_outlook : {e : Effect} → preview_meaning answer ≡ accepted e → LastEight (row_at new (m - 1)) (effect_outlook e)
    agrees_outlook = last_told promise segmented

    module _ {old₀ new₀ : Columns} {m₀ : ℕ} (before : SegmentPromise v ls old₀ new₀ (Ok m₀)) where
      pub agrees_begins : Begun answer ↔ (m ≡ m₀ + 1)
      agrees_begins = (kinds promise segmented before).0

      pub agrees_joins : Joined answer ↔ (m ≡ m₀)
      agrees_joins = (kinds promise segmented before).1

-- ---- a course of previews

module _ {v : Service} {ls : Lists} {answers : List (Result EffectOfCode Refusal)} (course : Course v ls answers) {old new : Columns} {m : ℕ} (segmented : SegmentPromise v ls old new (Ok m)) where
  pub course_accepted : (e : Refusal) → ¬ In (Err e) answers
  unfolding preview_meaning
  course_accepted e i =
      let found = in-map-inv accepted (effects v (ranges_of ls)) (subst (In (refused (refusal_number e))) (course_meanings course segmented) (in_map preview_meaning i)) in
      refused_not_accepted (sym found.2)

  pub course_begun : begun_in (effects_in answers) ≡ m
  course_begun = ap begun_in (course_effects course segmented) ∙ effects_begun v (ranges_of ls) ∙ sym (count-is segmented ∙ segments_of-length v (ranges_of ls))

  pub course_count : length (last_outlooks (effects_in answers)) ≡ m
  course_count = ap length (course_told course segmented) ∙ length-map (segments_of v (ranges_of ls)) (λ s. s.outlook) ∙ sym (count-is segmented)

  pub course_outlooks : (j : ℕ) → j < m → LastEight (row_at new j) (get_or (last_outlooks (effects_in answers)) j open_strip)
  unfolding segment_of
  course_outlooks j h =
      let s = get_or (segments_of v (ranges_of ls)) j (segment_of v []) in
      let outlook_is = ap (λ os. get_or os j open_strip) (course_told course segmented) ∙ get_or-map (λ s. s.outlook) (segments_of v (ranges_of ls)) j (segment_of v []) in
      subst (LastEight (row_at new j)) (sym outlook_is) (subst (λ row. LastEight row s.outlook) (sym (row-at segmented j h)) (numbers-told s))
