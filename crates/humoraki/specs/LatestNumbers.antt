-- What the numbers tell that Latest gives and sets. With after : AfterLatest v ls old new number:
--
--     lent_kept              where the number is not 0, everything that was lent is as it was
--     trend_found            where it is 0, the trend that Latest tells
--     numbers_found          then the eight numbers are those of its outlook
--     trend_at, promise_below, numbers-below   then the numbers set and the slices are what the call below gives and leaves, so latest's theorems are about them
--     latest-below           of any number: what the library gives and leaves is what the call below gives and leaves with this answer
--     few_iff                fewer than two ranges are set exactly if the lists have fewer than two
--     zeros_iff, corners_iff and exactly then each of the eight numbers is 0, and the count of corners: no range and one range are open
--     lines_told             else they are the lines and times of the last ranges, as many as are set
--     same_number            with slices that are long enough, Latest and Segment give one number
--     last_covered, same_outlook   where that is 0, and there are ranges, as many are set as the last row has, or more; where as many, the eight numbers are the last eight of that row
--     rest-zero              after a call that gave 0, the next one gives 0 on the lists without the run that was set, if its slices are long enough
--     LatestCalls, calls_are_segments   cutting a whole trace from its end: Latest is called on the lists, then on the lists without the run that it set, until nothing is left, and that takes as many calls as Segment sets as the count of segments
--
-- Assumes nothing.
use Rattle.definitions.specs.Refusals.{refusal_number}
use Rattle.humoraki.specs.TabledNumbers.{in-table, few_numbers, service-tabled}
use Rattle.trial_laws.specs.RefusalNumbers.{refusal_of, number_again, answer_with}
use Rattle.definitions.specs.declared.refusals.Refusal.{Refusal}
use Rattle.std.specs.Prelude.{ℕ, suc, ◌-◌, ◌<◌, ◌≤◌, ◌≡◌, ◌↔◌, Bool, List, [], ◌∷◌, map, get_or, ◌<ℤ◌, Err, Ok, Result}
use Rattle.std.proofs.Math.Path.{refl, sym, ap}
use Rattle.std.proofs.Common.{◌∙◌, subst, arith}
use Rattle.std.proofs.Math.Bool.{true, false}
use borrow.Author.Tests.{ltb-true, ltb-false}
use Rattle.std.proofs.Math.Dec.{ltb}
use Rattle.std.proofs.Math.IntN.{pos}
use Rattle.std.proofs.Math.ListN.{length}
use Rattle.std.specs.Int.Signed.{<ℤ_irrefl}
use Rattle.definitions.specs.Services.{Service}
use Rattle.definitions.specs.Spans.{segment_room, corner_room}
use Rattle.definitions.specs.Ranges.{Lists, ranges_of}
use Rattle.definitions.specs.Outlook.{Outlook as OutlookTerm}
use Rattle.definitions.specs.Results.{segments_of, slow_line, fast_line, some_number, all_number, outlook_numbers, last_eight}
use Rattle.definitions.specs.Answers.{Answer, refused, accepted, ◌>>=◌, firstRow, refusal, filled, given}
use Rattle.definitions.specs.Trial.{too_short, segment_rows, latest_rows}
use Rattle.definitions.specs.Calls.{segment_call}
use Rattle.definitions.specs.Latest.{latest_run, trend_of, latest_call, Trend as TrendTerm}
use Rattle.trial_laws.specs.CallLaws.{refusal-tells}
use Rattle.lines.specs.RunOutlook.{LinesOf}
use Rattle.values.specs.Meanings.{outlook_of}
use Rattle.drift.specs.Columns.{lengths, row_at}
use Rattle.drift.specs.CornersPromise.{three_lengths}
use Rattle.latest.specs.declared.Trend.{Trend}
use Rattle.latest.specs.LatestPromise.{told_of, trend_meaning, latest_meaning, LatestPromise}
use Rattle.latest.specs.GivenTrends.{last_ranges, run_length}
use Rattle.latest.specs.LatestTheorems.{given_two, given_open, given_few, given_lines_is, given_some}
use Rattle.latest.specs.AgainstSegment.{rows_same, covers_last, agrees_outlook}
use Rattle.latest.specs.CutFromEnd.{without, CallsFromEnd, nothing_left, one_call, rest_accepted, calls_count}
use Rattle.answer_numbers.specs.Told.{eight}
use Rattle.humoraki.specs.Promises.{SegmentLent, AfterSegment, LatestLent, latest_answer, AfterLatest}
use Rattle.humoraki.specs.Zero.{latest-above}
use Rattle.humoraki.specs.Zero as Zero
use Rattle.humoraki.specs.PreviewNumbers.{outlook_in, outlook-means}
use Rattle.humoraki.specs.PreviewAgreement.{segment-below}

kept : (answer : Answer TrendTerm) {old new : LatestLent} {number : ℕ} → number ≡ refusal answer → 0 < number → new.ranges ≡ given answer (λ t. t.ranges) old.ranges
    → new.numbers ≡ given answer (λ t. outlook_numbers t.outlook) old.numbers → new.corners ≡ given answer (λ t. length t.corners) old.corners
    → new.ps ≡ filled answer (λ t. map (λ l. l.p) t.corners) old.ps → new.qs ≡ filled answer (λ t. map (λ l. l.q) t.corners) old.qs
    → new.ds ≡ filled answer (λ t. map (λ l. l.d) t.corners) old.ds → new ≡ old
unfolding refusal given filled
kept (refused n) e above ranges numbers corners ps qs ds = λ i. record { ps = ps i; qs = qs i; ds = ds i; ranges = ranges i; numbers = numbers i; corners = corners i }
kept (accepted x) e above ranges numbers corners ps qs ds = absurd (omega arith)

module _ {v : Service} {ls : Lists} {old new : LatestLent} {number : ℕ} (after : AfterLatest v ls old new number) where
  pub lent_kept : 0 < number → new ≡ old
  lent_kept above = kept (latest_answer v ls old) after.number_is above after.ranges_is after.numbers_are after.corners_is after.ps_are after.qs_are after.ds_are

  module _ (zero : number ≡ 0) where
    pub trend_found : Zero.Accepted (latest_answer v ls old)
    trend_found = (Zero.latest-zero after).0 zero

    ranges_found : new.ranges ≡ trend_found.0.ranges
    unfolding given
    ranges_found = after.ranges_is ∙ ap (λ x. given x (λ t. t.ranges) old.ranges) trend_found.1

    pub numbers_found : new.numbers ≡ outlook_numbers trend_found.0.outlook
    unfolding given
    numbers_found = after.numbers_are ∙ ap (λ x. given x (λ t. outlook_numbers t.outlook) old.numbers) trend_found.1

    corners_found : new.corners ≡ length trend_found.0.corners
    unfolding given
    corners_found = after.corners_is ∙ ap (λ x. given x (λ t. length t.corners) old.corners) trend_found.1

    abbrev pub trend_at : Trend
    trend_at = record { ranges = new.ranges; outlook = outlook_in trend_found.0.outlook; corners = new.corners }

    pub promise_below : LatestPromise v ls old.ps old.qs old.ds new.ps new.qs new.ds (Ok trend_at)
    unfolding latest_meaning ◌>>=◌
    promise_below =
        let told : trend_meaning trend_at ≡ told_of trend_found.0 = λ i. record { ranges = ranges_found i; outlook = outlook-means trend_found.0.outlook i; corners = corners_found i } in
        record { answer_is = ap accepted told ∙ sym (ap (λ x. x >>= λ t. accepted (told_of t)) trend_found.1); ps_are = after.ps_are; qs_are = after.qs_are; ds_are = after.ds_are }

    -- ---- open or not

    pub numbers-below : new.numbers ≡ outlook_numbers (outlook_of trend_at.outlook)
    numbers-below = numbers_found ∙ ap outlook_numbers (sym (outlook-means trend_found.0.outlook))

    pub few_iff : (new.ranges < 2) ↔ (length ls.times < 2)
    few_iff = (λ h. by h (ltb (length ls.times) 2) refl, λ h. omega (arith, (given_few promise_below h).0))
      where
        by : new.ranges < 2 → (b : Bool) → ltb (length ls.times) 2 ≡ b → length ls.times < 2
        by h true e = ltb-true (length ls.times) 2 e
        by h false e = absurd (omega (arith, given_two promise_below (ltb-false (length ls.times) 2 e)))

    pub lines_told : 2 ≤ new.ranges → (o : OutlookTerm) × (new.numbers ≡ outlook_numbers o) × LinesOf v (last_ranges new.ranges ls) (get_or ls.times (length ls.times - 1) 0) o
    lines_told h = (outlook_of trend_at.outlook, numbers-below, given_lines_is promise_below (by (ltb (length ls.times) 2) refl))
      where
        by : (b : Bool) → ltb (length ls.times) 2 ≡ b → 2 ≤ length ls.times
        by true e = absurd (omega (arith, few_iff.1 (ltb-true (length ls.times) 2 e)))
        by false e = ltb-false (length ls.times) 2 e

    pub zeros_iff : (new.ranges < 2) ↔ (new.numbers ≡ eight (pos 0) (pos 0) (pos 0) (pos 0) (pos 0) (pos 0) 0 0)
    unfolding slow_line fast_line some_number all_number
    zeros_iff = (λ h. numbers-below ∙ ap outlook_numbers ((given_open promise_below).1 (few_iff.0 h)), λ e. by e (ltb new.ranges 2) refl)
      where
        by : new.numbers ≡ eight (pos 0) (pos 0) (pos 0) (pos 0) (pos 0) (pos 0) 0 0 → (b : Bool) → ltb new.ranges 2 ≡ b → new.ranges < 2
        by e true f = ltb-true new.ranges 2 f
        by e false f =
            let (o, numbers, told) = lines_told (ltb-false new.ranges 2 f) in
            absurd (<ℤ_irrefl (subst (λ d. pos 0 <ℤ d) (sym (ap (λ n. n.slow.d) (numbers ∙ ap outlook_numbers told.is)) ∙ ap (λ n. n.slow.d) e) told.means.slow_proper.positive))

    pub corners_iff : (new.corners ≡ 0) ↔ (new.ranges < 2)
    corners_iff = (λ z. by z (ltb new.ranges 2) refl, λ h. (given_few promise_below (few_iff.0 h)).1)
      where
        by : new.corners ≡ 0 → (b : Bool) → ltb new.ranges 2 ≡ b → new.ranges < 2
        by z true e = ltb-true new.ranges 2 e
        by z false e = absurd (omega (arith, given_some promise_below (omega (arith, ltb-false new.ranges 2 e, (run_length promise_below).1))))

  pub latest-below : (answer : Result Trend Refusal) × LatestPromise v ls old.ps old.qs old.ds new.ps new.qs new.ds answer × (number ≡ refusal (latest_meaning answer))
  unfolding latest_meaning latest_call latest_rows ◌>>=◌ refusal
  latest-below = by (latest_answer v ls old) refl
    where
      few : refusal (latest_answer v ls old) ≤ 14
      few = few_numbers _ (trend_of v (latest_run (ranges_of ls))) (service-tabled corner_room (three_lengths old.ps old.qs old.ds) v ls)

      by : (x : Answer TrendTerm) → latest_answer v ls old ≡ x → (answer : Result Trend Refusal) × LatestPromise v ls old.ps old.qs old.ds new.ps new.qs new.ds answer × (number ≡ refusal (latest_meaning answer))
      by (refused n) e =
          let told = number_again n (in-table n (latest-above v ls old n e) (subst (λ x. refusal x ≤ 14) e few)) in
          (Err (refusal_of n), record { answer_is = ap refused told ∙ sym (ap (λ x. x >>= λ t. accepted (told_of t)) e); ps_are = after.ps_are; qs_are = after.qs_are; ds_are = after.ds_are }, after.number_is ∙ ap refusal e ∙ sym told)
      by (accepted x) e = let zero = after.number_is ∙ ap refusal e in (Ok (trend_at zero), promise_below zero, zero)

-- ---- against Segment

module _ {v : Service} {ls : Lists} {p p' : LatestLent} {s s' : SegmentLent} where
  pub same_number : {a b : ℕ} → AfterLatest v ls p p' a → AfterSegment v ls s s' b → too_short corner_room (three_lengths p.ps p.qs p.ds) ≡ false → too_short segment_room (lengths s.columns) ≡ false → a ≡ b
  unfolding latest_call segment_call
  same_number after segmented room room' =
      let ns = three_lengths p.ps p.qs p.ds in
      after.number_is
      ∙ refusal-tells (λ ok. trend_of v (latest_run (ranges_of ls))) (firstRow (latest_rows ns v ls))
      ∙ ap (λ rows. refusal (firstRow rows)) (rows_same ns (lengths s.columns) v ls room room')
      ∙ sym (refusal-tells (λ ok. segments_of v (ranges_of ls)) (firstRow (segment_rows (lengths s.columns) v ls)))
      ∙ sym segmented.counted.number_is

  module _ (after : AfterLatest v ls p p' 0) (segmented : AfterSegment v ls s s' 0) (some : 0 < length ls.times) where
    pub last_covered : (row_at s'.columns (s'.count - 1)).count ≤ p'.ranges
    unfolding answer_with
    last_covered = covers_last (promise_below after refl) (segment-below segmented) some

    pub same_outlook : (row_at s'.columns (s'.count - 1)).count ≡ p'.ranges → last_eight (row_at s'.columns (s'.count - 1)) ≡ p'.numbers
    unfolding answer_with
    same_outlook same = agrees_outlook (promise_below after refl) (segment-below segmented) some same ∙ sym (numbers-below after refl)

-- ---- cutting from the end

pub rest-zero : {v : Service} {ls : Lists} {old new old₁ new₁ : LatestLent} {number : ℕ} → AfterLatest v ls old new 0 → AfterLatest v (without new.ranges ls) old₁ new₁ number
    → too_short corner_room (three_lengths old₁.ps old₁.qs old₁.ds) ≡ false → number ≡ 0
unfolding latest_meaning refusal
rest-zero after next room = let (answer, promise, is) = latest-below next in is ∙ by answer (rest_accepted (promise_below after refl) room promise)
  where
    by : (answer : Result Trend Refusal) → ((n : ℕ) → ¬ (latest_meaning answer ≡ refused n)) → refusal (latest_meaning answer) ≡ 0
    by (Ok t) h = refl
    by (Err e) h = absurd (h (refusal_number e) refl)

pub data LatestCalls (v : Service) : Lists → ℕ → Type 0 where
  none_left : {ls : Lists} → length ls.times ≡ 0 → LatestCalls v ls 0
  call : {ls : Lists} {old new : LatestLent} {k : ℕ} → 0 < length ls.times → AfterLatest v ls old new 0 → LatestCalls v (without new.ranges ls) k → LatestCalls v ls (suc k)

below : {v : Service} {ls : Lists} {k : ℕ} → LatestCalls v ls k → (trends : List Trend) × CallsFromEnd v ls trends × (length trends ≡ k)
below (none_left e) = ([], nothing_left e, refl)
below (call {new = new} some after rest) =
    let (trends, calls, count) = below rest in
    (trend_at after refl ∷ trends, one_call some (promise_below after refl) calls, ap suc count)

pub calls_are_segments : {v : Service} {ls : Lists} {k : ℕ} → LatestCalls v ls k → {old new : SegmentLent} → AfterSegment v ls old new 0 → k ≡ new.count
unfolding answer_with
calls_are_segments cuts after = let (trends, calls, count) = below cuts in sym count ∙ calls_count calls (segment-below after)
