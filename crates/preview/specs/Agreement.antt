-- Preview against Segment on the lists with the range added: on the way to the front page `PreviewTheorems`.
--
--     rows_same                        Segment's rows on slices that are long enough are Preview's
--     none-segmented, none-meant       none holds where Segment accepted
--     longer_some                      Segment gives at least one segment of the longer lists
--     last_told                        and its last row has the outlook that Preview gives
--     kinds                            what Preview gives, by the numbers of segments on the lists and on the longer ones
--
-- Assumes nothing.
use Rattle.definitions.specs.declared.refusals.Refusal.{Refusal}
use Rattle.std.specs.Prelude.{◌≡◌, refl, ◌↔◌, Bool, true, false, cond, ℕ, zero, suc, ◌<◌, ◌+◌, ◌-◌, eqb, length, get_or, Err, Ok, Result}
use Rattle.std.proofs.Common.{sym, ap, ◌∙◌, subst, arith, length-append}
use mathlib.Core.List.{List, [], ◌∷◌, ◌++◌, map, get_last_d}
use Rattle.integers.specs.Lists.{any, last_cons}
use Rattle.definitions.specs.Services.{Service}
use Rattle.definitions.specs.Spans.{segment_room}
use Rattle.definitions.specs.Ranges.{Range, Lists, ranges_of}
use Rattle.definitions.specs.Segments.{segments}
use Rattle.definitions.specs.Outlook.{Outlook, open_strip, outlook}
use Rattle.definitions.specs.Results.{Segment, segments_of, segment_of}
use Rattle.definitions.specs.Answers.{accepted}
use Rattle.definitions.specs.Trial.{too_short, list_rows, segment_rows}
use Rattle.definitions.specs.Previews.{Effect, joins, begins, longer, last_outlook, effect_of, effect_outlook, preview_rows}
use Rattle.splits.specs.Effects.{grown, segments-some, segments_of-length}
use Rattle.trial_laws.specs.Rows.{NoneHolds, refused_not_accepted}
use Rattle.trial_laws.specs.CallLaws.{accepted-is}
use Rattle.drift.specs.Columns.{Columns, lengths, row_at}
use Rattle.drift.specs.SegmentPromise.{segment_meaning, SegmentPromise}
use Rattle.drift.specs.Refusals.{segment-accepted}
use Rattle.drift.specs.GivenColumns.{count-is, row-at}
use Rattle.preview.specs.declared.Effect.{Effect as EffectOfCode}
use Rattle.preview.specs.PreviewPromise.{preview_meaning, PreviewPromise}
use Rattle.preview.specs.GivenEffects.{effect_given, LastEight, numbers-told, Joined, Begun, joins_not_begins, Given, given_joins, given_begins, given, ranges_given}

pub rows_same : (lengths : List ℕ) (v : Service) (ls : Lists) → too_short segment_room lengths ≡ false → segment_rows lengths v ls ≡ segment_rows [] v ls
unfolding segment_rows list_rows too_short any
rows_same lengths v ls e = rw e refl

-- no row of Segment holds, so its slices are long enough
long-enough : (lengths : List ℕ) (v : Service) (ls : Lists) → NoneHolds (segment_rows lengths v ls) → too_short segment_room lengths ≡ false
unfolding segment_rows list_rows
long-enough lengths v ls none = none.0

-- Segment accepted
pub none-segmented : {v : Service} {ls : Lists} {old new : Columns} {m : ℕ} → SegmentPromise v ls old new (Ok m) → NoneHolds (segment_rows (lengths old) v ls)
unfolding segment_meaning
none-segmented segmented = (segment-accepted segmented).0 (ap accepted (count-is segmented))

-- the same of an answer that means acceptance
pub none-meant : {v : Service} {ls : Lists} {old new : Columns} {answer : Result ℕ Refusal} → SegmentPromise v ls old new answer → {m : ℕ} → segment_meaning answer ≡ accepted m → NoneHolds (segment_rows (lengths old) v ls)
unfolding segment_meaning
none-meant {answer = Ok n} promise e = none-segmented promise
none-meant {answer = Err n} promise e = refused_not_accepted e

last-at : (d : Outlook) (ss : List Segment) (past : Segment) (k : ℕ) → length ss ≡ suc k → get_last_d (map (λ s. s.outlook) ss) d ≡ (get_or ss k past).outlook
unfolding get_last_d
last-at d [] past k e = absurd (omega arith)
last-at d (s ∷ []) past zero e = refl
last-at d (s ∷ []) past (suc k) e = absurd (omega arith)
last-at d (s ∷ t ∷ ss) past zero e = absurd (omega arith)
last-at d (s ∷ t ∷ ss) past (suc k) e = last_cons d s.outlook (map (λ s. s.outlook) (t ∷ ss)) ∙ last-at s.outlook (t ∷ ss) past k (omega arith)

effect_told : (n : ℕ) (ss : List Segment) (past : Segment) (k : ℕ) → length ss ≡ suc k → effect_outlook (effect_of n ss) ≡ (get_or ss k past).outlook
unfolding effect_of effect_outlook last_outlook
effect_told n ss past k e = by (eqb (length ss) (suc n)) ∙ last-at open_strip ss past k e
  where
    by : (b : Bool) → effect_outlook (cond b (begins (last_outlook ss)) (joins (last_outlook ss))) ≡ last_outlook ss
    by true = refl
    by false = refl

module _ {v : Service} {ls : Lists} {r : Range} {answer : Result EffectOfCode Refusal} (promise : PreviewPromise v ls r answer) {old new : Columns} {m : ℕ} (segmented : SegmentPromise v (longer ls r) old new (Ok m)) where
  abbrev rs : List Range
  rs = ranges_of ls

  none_previewed : NoneHolds (preview_rows v ls r)
  none_previewed =
      let none = none-segmented segmented in
      subst NoneHolds (rows_same (lengths old) v (longer ls r) (long-enough (lengths old) v (longer ls r) none)) none

  longer_count : m ≡ length (segments (rs ++ (r ∷ [])))
  longer_count = count-is segmented ∙ segments_of-length v (ranges_of (longer ls r)) ∙ ap (λ l. length (segments l)) (ranges_given promise none_previewed)

  pub longer_some : 0 < m
  longer_some = omega (arith, longer_count, segments-some (rs ++ (r ∷ [])) (omega (arith, length-append rs (r ∷ []))))

  pub last_told : {e : Effect} → preview_meaning answer ≡ accepted e → LastEight (row_at new (m - 1)) (effect_outlook e)
  last_told {e} f =
      let ss = segments_of v (ranges_of (longer ls r)) in
      let last = get_or ss (m - 1) (segment_of v []) in
      let told = effect_told (length (segments rs)) ss (segment_of v []) (m - 1) (omega (arith, count-is segmented, longer_some)) in
      let effect_is = accepted-is (sym f ∙ effect_given promise none_previewed) ∙ ap (λ l. effect_of (length (segments rs)) (segments_of v l)) (sym (ranges_given promise none_previewed)) in
      subst (LastEight (row_at new (m - 1))) (sym (ap effect_outlook effect_is ∙ told))
      (subst (λ row. LastEight row last.outlook) (sym (row-at segmented (m - 1) (omega (arith, longer_some)))) (numbers-told last))

  pub kinds : {old₀ new₀ : Columns} {m₀ : ℕ} → SegmentPromise v ls old₀ new₀ (Ok m₀) → (Begun answer ↔ (m ≡ m₀ + 1)) × (Joined answer ↔ (m ≡ m₀))
  kinds {m₀ = m₀} before = by (given promise none_previewed) (count-is before ∙ segments_of-length v rs)
    where
      by : Given v ls r answer → m₀ ≡ length (segments rs) → (Begun answer ↔ (m ≡ m₀ + 1)) × (Joined answer ↔ (m ≡ m₀))
      by (given_joins some lines line is count) count-before = (
        (λ b. joins_not_begins (sym is ∙ b.1), λ e. absurd (omega (arith, longer_count))),
        (λ j. omega (arith, longer_count), λ e. (outlook v (grown rs r), is)),
      )
      by (given_begins out is count) count-before = (
        (λ b. omega (arith, longer_count), λ e. (open_strip, is)),
        (λ j. joins_not_begins (sym j.1 ∙ is), λ e. absurd (omega (arith, longer_count))),
      )
