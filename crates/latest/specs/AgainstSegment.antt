-- Latest against Segment on the same lists: theorems about what both calls give.
--
--     rows_same              where the slices of both are long enough, both have the same rows
--     agrees-refused         where the slices of both are long enough, Latest is refused with n exactly if Segment is
--     covers_last            the latest run has at least as many ranges as the last segment
--     agrees_outlook         where it has as many, its outlook has the last eight numbers of the last row
--
-- Assumes nothing.
use Rattle.definitions.specs.declared.refusals.Refusal.{Refusal}
use Rattle.std.specs.Prelude.{◌≡◌, ◌↔◌, false, ℕ, suc, ◌-◌, ◌<◌, ◌≤◌, ℤ, length, get_or, drop, Ok, Result}
use Rattle.std.proofs.Math.Path.{refl}
use Rattle.std.proofs.Common.{sym, ap, ◌∙◌, subst, arith, length-append, drop_at}
use mathlib.Core.List.{List, [], ◌∷◌, ◌++◌, flatten, drop_last}
use Rattle.std.proofs.lemmas.List.{get_or_at}
use Rattle.definitions.specs.Spans.{segment_room, corner_room}
use Rattle.definitions.specs.Services.{Service}
use Rattle.definitions.specs.Ranges.{Range, Lists, ranges_of}
use Rattle.definitions.specs.Lines.{has_line}
use Rattle.definitions.specs.Fit.{HasLine}
use Rattle.definitions.specs.Splits.{GoodRuns, last_run}
use Rattle.definitions.specs.Segments.{segments}
use Rattle.definitions.specs.Outlook.{outlook}
use Rattle.definitions.specs.Results.{segment_of, numbers_of, outlook_numbers, last_eight}
use Rattle.definitions.specs.Answers.{refused}
use Rattle.definitions.specs.Trial.{too_short, list_rows, segment_rows, latest_rows}
use Rattle.trial_laws.specs.Rows.{FirstAt}
use Rattle.trial_laws.specs.RangeLists.{ranges_length}
use Rattle.splits.specs.Effects.{segments_of-length}
use Rattle.splits.specs.Runs.{good-run, good_at}
use Rattle.splits.specs.Cutting.{cut_last, cut_ends}
use Rattle.splits.specs.Segments.{segments_of-at}
use Rattle.lines.specs.Theorems.{segments_split}
use Rattle.lines.specs.LatestTrend.{latest_longest}
use Rattle.values.specs.Meanings.{outlook_of}
use Rattle.drift.specs.Columns.{Columns, lengths, row_at}
use Rattle.drift.specs.SegmentPromise.{segment_meaning, SegmentPromise}
use Rattle.drift.specs.Refusals.{segment_refused}
use Rattle.drift.specs.GivenColumns.{count-is, row-at}
use Rattle.drift.specs.CornersPromise.{three_lengths}
use Rattle.latest.specs.declared.Trend.{Trend}
use Rattle.latest.specs.LatestPromise.{latest_meaning, LatestPromise}
use Rattle.latest.specs.Refusals.{latest-refused}
use Rattle.latest.specs.GivenTrends.{last_ranges, taken, ordered, run_is, run_length, told_outlook}

pub rows_same : (ns ms : List ℕ) (v : Service) (ls : Lists) → too_short corner_room ns ≡ false → too_short segment_room ms ≡ false → latest_rows ns v ls ≡ segment_rows ms v ls
unfolding latest_rows segment_rows list_rows
rows_same ns ms v ls e f = rw (e, f) refl

pub agrees-refused : {v : Service} {ls : Lists} {ps qs ds ps' qs' ds' : List ℤ} {answer : Result Trend Refusal} → LatestPromise v ls ps qs ds ps' qs' ds' answer
    → {old new : Columns} {answer' : Result ℕ Refusal} → SegmentPromise v ls old new answer'
    → too_short corner_room (three_lengths ps qs ds) ≡ false → too_short segment_room (lengths old) ≡ false → (n : ℕ) → (latest_meaning answer ≡ refused n) ↔ (segment_meaning answer' ≡ refused n)
agrees-refused {v} {ls} {ps} {qs} {ds} promise {old} segmented room room' n =
    let same = rows_same (three_lengths ps qs ds) (lengths old) v ls room room' in (
      λ e. (segment_refused segmented n).1 (subst (FirstAt n) same ((latest-refused promise n).0 e)),
      λ e. (latest-refused promise n).1 (subst (FirstAt n) (sym same) ((segment_refused segmented n).0 e)),
    )

module _ {v : Service} {ls : Lists} {ps qs ds ps' qs' ds' : List ℤ} {t : Trend} (promise : LatestPromise v ls ps qs ds ps' qs' ds' (Ok t))
    {old new : Columns} {m : ℕ} (segmented : SegmentPromise v ls old new (Ok m)) (some : 0 < length ls.times) where
  abbrev rs : List Range
  rs = ranges_of ls

  abbrev runs : List (List Range)
  runs = segments rs

  long : 0 < length rs
  long = omega (arith, some, ranges_length ls (taken promise).same)

  runs_are : runs ≡ drop_last runs ++ (last_run runs ∷ [])
  unfolding segments
  runs_are = cut_last has_line rs long

  ends : flatten (drop_last runs) ++ last_run runs ≡ rs
  unfolding segments
  ends = cut_ends has_line rs long

  count : m ≡ suc (length (drop_last runs))
  count = count-is segmented ∙ segments_of-length v rs ∙ ap length runs_are ∙ omega (arith, length-append (drop_last runs) (last_run runs ∷ []))

  last_run_is : get_or runs (m - 1) [] ≡ last_run runs
  last_run_is = ap (λ l. get_or l (m - 1) []) runs_are ∙ get_or_at (drop_last runs) (last_run runs) [] [] (m - 1) (omega (arith, count))

  last_row : row_at new (m - 1) ≡ numbers_of (segment_of v (last_run runs))
  last_row = row-at segmented (m - 1) (omega (arith, count)) ∙ ap numbers_of (segments_of-at v rs (m - 1) ∙ ap (segment_of v) last_run_is)

  row_count : (run : List Range) → (numbers_of (segment_of v run)).count ≡ length run
  unfolding numbers_of segment_of
  row_count [] = refl
  row_count (r ∷ run) = refl

  row_eight : (run : List Range) → last_eight (numbers_of (segment_of v run)) ≡ outlook_numbers (outlook v run)
  unfolding numbers_of segment_of outlook
  row_eight [] = refl
  row_eight (r ∷ run) = refl

  last_line : HasLine (last_run runs)
  last_line = good-run HasLine (last_run runs) (good_at HasLine (drop_last runs) (last_run runs) [] (subst (GoodRuns HasLine) runs_are (segments_split rs (ordered promise)).each))

  pub covers_last : (row_at new (m - 1)).count ≤ t.ranges
  covers_last =
      let most = latest_longest rs (ordered promise) (flatten (drop_last runs)) (last_run runs) (sym ends) last_line in
      omega (arith, most, ap (λ n. n.count) last_row, row_count (last_run runs), ap length (run_is promise), (run_length promise).0)

  -- the last segment, where it has as many ranges
  same_run : (row_at new (m - 1)).count ≡ t.ranges → last_run runs ≡ last_ranges t.ranges ls
  same_run same =
      let front = flatten (drop_last runs) in
      let k = length ls.times - t.ranges in
      let n : length front ≡ k = omega (arith, ap length ends, length-append front (last_run runs), ranges_length ls (taken promise).same, sym same ∙ ap (λ n. n.count) last_row ∙ row_count (last_run runs)) in
      sym (ap (drop k) (sym ends) ∙ drop_at front (last_run runs) k n)

  pub agrees_outlook : (row_at new (m - 1)).count ≡ t.ranges → last_eight (row_at new (m - 1)) ≡ outlook_numbers (outlook_of t.outlook)
  agrees_outlook same = ap last_eight last_row ∙ row_eight (last_run runs) ∙ ap outlook_numbers (ap (outlook v) (same_run same) ∙ sym (told_outlook promise))
