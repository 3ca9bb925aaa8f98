-- The outlook through the call: theorems about what Segment left in the slices, wherever it accepted. `row_at new j` has the j-th entries of the eleven slices,
-- and `given_run ls new j` is the run of demand 3, the ranges from the j-th first time to the j-th last time.
--
--     LastEightZero row                the last eight numbers of the row are 0
--     slow_of, fast_of                   the lines whose p, q and d are in the row
--     LinesTold v run row              these lines are in lowest terms, fit the run, and have the least and the greatest slope of its whole fit; the last two numbers are the least multiples of the step,
--                                      from the row's last time to 4,294,967,295, at which at least one line and every line of the fit is at or above the level
--                                      on a rising trace, at or below it on a falling one; 4,294,967,296 stands for none
--     OutlookTold v run row            the run has one range and the last eight numbers are 0, or it has two or more and the row tells its lines and times
--     NeverFrom step from P            P holds at no multiple of the step from `from` to 4,294,967,295
--     given_length                     the j-th count is the number of ranges of the j-th run
--     given_outlook                    the j-th entries tell the outlook of the j-th run
--     given_open                       the j-th count is 1 exactly if the last eight of the j-th entries are 0
--     given_lines_is                      where it is 2 or more, the j-th entries tell the lines and times of the j-th run
--     given_some_none, given_all_none  there the number for none stands for *some*, or for *all*, exactly if there is no such multiple
--     given_every_second               and where the step is 1, the two are the least of all times
--
-- Runs are counted from 0. Example: `(given_lines_is promise j h two).means.fast_greatest m f` says of any line m of the j-th fit that its slope is not above that of the fast line given.
-- Assumes nothing.
use Rattle.std.specs.Prelude.{◌≡◌, refl, ◌↔◌, List, [], ◌∷◌, ℕ, ◌≤◌, ◌<◌, pos, get_or, ◌<ℤ◌, Ok}
use Rattle.std.proofs.Common.{sym, ◌∙◌, arith}
use Rattle.std.proofs.Math.Path.{ap, subst}
use Rattle.std.proofs.Math.ListN.{length}
use Rattle.std.specs.Int.Signed.{<ℤ_irrefl}
use Rattle.integers.specs.Least.{IsLeast, nowhere, least_at}
use Rattle.integers.specs.Multiples.{MultipleOf, LeastMultiple}
use Rattle.definitions.specs.Spans.{most_time, no_time}
use Rattle.definitions.specs.Services.{Service}
use Rattle.definitions.specs.Times.{Time, none, at}
use Rattle.definitions.specs.Ranges.{Range, Lists, ranges_of}
use Rattle.definitions.specs.Lines.{Line}
use Rattle.definitions.specs.Fit.{HasLine, Ordered, SomeReached, AllReached}
use Rattle.definitions.specs.Splits.{GoodRun}
use Rattle.definitions.specs.Segments.{segments}
use Rattle.definitions.specs.Outlook.{outlook, end_time}
use Rattle.definitions.specs.Results.{Numbers, segment_of, time_number, slow_line, fast_line, some_number, all_number, numbers_of}
use Rattle.splits.specs.OrderedRanges.{ordered_at}
use Rattle.splits.specs.RunTimes.{split_run_good}
use Rattle.splits.specs.Segments.{segments_of-at}
use Rattle.lines.specs.RunOutlook.{OutlookMeans, every-second}
use Rattle.lines.proofs.RunOutlook.{outlook-means}
use Rattle.lines.specs.Theorems.{segments_split}
use Rattle.trial_laws.specs.Accepted.{GoodService}
use Rattle.drift.specs.Columns.{Columns, row_at}
use Rattle.drift.specs.SegmentPromise.{SegmentPromise}
use Rattle.drift.specs.GivenColumns.{taken_good, ordered, row-at}
use Rattle.drift.specs.Demand3.{given_run, given_count, run_given}

-- ---- what a row tells

pub record LastEightZero (row : Numbers) : Type 0 where
  pub slow_p_is : row.slow_p ≡ pos 0
  pub slow_q_is : row.slow_q ≡ pos 0
  pub slow_d_is : row.slow_d ≡ pos 0
  pub fast_p_is : row.fast_p ≡ pos 0
  pub fast_q_is : row.fast_q ≡ pos 0
  pub fast_d_is : row.fast_d ≡ pos 0
  pub some-0 : row.some ≡ 0
  pub all-0 : row.all ≡ 0

abbrev pub slow_of : Numbers → Line
slow_of row = record { p = row.slow_p; q = row.slow_q; d = row.slow_d }

abbrev pub fast_of : Numbers → Line
fast_of row = record { p = row.fast_p; q = row.fast_q; d = row.fast_d }

pub record LinesTold (v : Service) (run : List Range) (row : Numbers) : Type 0 where
  pub some_time : Time
  pub all_time : Time
  pub some_number_is : row.some ≡ time_number some_time
  pub all_number_is : row.all ≡ time_number all_time
  pub means : OutlookMeans v run row.last_time (slow_of row) (fast_of row) some_time all_time

pub data OutlookTold (v : Service) (run : List Range) (row : Numbers) : Type 0 where
  open_told : length run ≡ 1 → LastEightZero row → OutlookTold v run row
  lines_told : 2 ≤ length run → LinesTold v run row → OutlookTold v run row

abbrev pub NeverFrom : ℕ → ℕ → (ℕ → Type 0) → Type 0
NeverFrom step from P = (t : ℕ) → MultipleOf step t → from ≤ t → t ≤ most_time → ¬ P t

-- ---- the row of a run

run_length : (v : Service) (run : List Range) → (numbers_of (segment_of v run)).count ≡ length run
unfolding numbers_of segment_of
run_length v [] = refl
run_length v (r ∷ rs) = refl

run-told : (v : Service) → GoodService v → (run : List Range) → Ordered run → GoodRun HasLine run → OutlookTold v run (numbers_of (segment_of v run))
unfolding segment_of numbers_of outlook slow_line fast_line some_number all_number end_time
run-told v good [] o g = absurd g
run-told v good (r ∷ []) o g = open_told refl (record { slow_p_is = refl; slow_q_is = refl; slow_d_is = refl; fast_p_is = refl; fast_q_is = refl; fast_d_is = refl; some-0 = refl; all-0 = refl })
run-told v good (r ∷ s ∷ ws) o g =
    let (k, l, x, y, e, means) = outlook-means r s ws o g v good.direction_in_is good.step_good.over in
    lines_told (omega arith)
    (subst (λ z. LinesTold v (r ∷ s ∷ ws) (numbers_of (record { first_time = r.time; last_time = end_time s ws; count = length (r ∷ s ∷ ws); outlook = z }))) (sym e)
    (record { some_time = x; all_time = y; some_number_is = refl; all_number_is = refl; means = means }))

none-iff : {step : ℕ} {P : ℕ → Type 0} {from : ℕ} (t : Time) → LeastMultiple step P from most_time t → (time_number t ≡ no_time) ↔ NeverFrom step from P
unfolding time_number
none-iff none (nowhere h) = (λ e t m a b p. h t a b (m, p), λ k. refl)
none-iff (at t) (least_at u a b p f) = (λ e. absurd (omega arith), λ k. absurd (k u p.0 a b p.1))

-- ---- the slices

module _ {v : Service} {ls : Lists} {old new : Columns} {n : ℕ} (promise : SegmentPromise v ls old new (Ok n)) (j : ℕ) (h : j < n) where
  abbrev segment : List Range
  segment = get_or (segments (ranges_of ls)) j []

  abbrev run : List Range
  run = given_run ls new j

  row_given : row_at new j ≡ numbers_of (segment_of v segment)
  row_given = row-at promise j h ∙ ap numbers_of (segments_of-at v (ranges_of ls) j)

  pub given_length : get_or new.counts j 0 ≡ length run
  unfolding row_at
  given_length = ap (λ row. row.count) row_given ∙ run_length v segment ∙ ap length (sym (run_given promise j h))

  pub given_outlook : OutlookTold v run (row_at new j)
  given_outlook =
      let split = segments_split (ranges_of ls) (ordered promise) in
      let inner = ordered_at (segments (ranges_of ls)) (subst Ordered (sym split.whole) (ordered promise)) j in
      let good = split_run_good split j (omega (arith, given_count promise)) in
      subst (λ rs. OutlookTold v rs (row_at new j)) (sym (run_given promise j h)) (subst (OutlookTold v segment) (sym row_given) (run-told v (taken_good promise) segment inner good))

  pub given_open : (get_or new.counts j 0 ≡ 1) ↔ LastEightZero (row_at new j)
  given_open = (zeros given_outlook, one given_outlook)
    where
      zeros : OutlookTold v run (row_at new j) → get_or new.counts j 0 ≡ 1 → LastEightZero (row_at new j)
      zeros (open_told e z) c = z
      zeros (lines_told two t) c = absurd (omega (arith, given_length))

      one : OutlookTold v run (row_at new j) → LastEightZero (row_at new j) → get_or new.counts j 0 ≡ 1
      one (open_told e z) w = given_length ∙ e
      one (lines_told two t) w = absurd (<ℤ_irrefl (subst (λ d. pos 0 <ℤ d) w.slow_d_is t.means.slow_proper.positive))

  module _ (two : 2 ≤ get_or new.counts j 0) where
    pub given_lines_is : LinesTold v run (row_at new j)
    given_lines_is = by given_outlook
      where
        by : OutlookTold v run (row_at new j) → LinesTold v run (row_at new j)
        by (open_told e z) = absurd (omega (arith, given_length))
        by (lines_told more t) = t

    pub given_some_none : (get_or new.somes j 0 ≡ no_time) ↔ NeverFrom v.step (get_or new.last_times j 0) (SomeReached run v)
    unfolding row_at
    given_some_none = let t = given_lines_is in subst (λ x. (x ≡ no_time) ↔ NeverFrom v.step (get_or new.last_times j 0) (SomeReached run v)) (sym t.some_number_is) (none-iff t.some_time t.means.some_is)

    pub given_all_none : (get_or new.alls j 0 ≡ no_time) ↔ NeverFrom v.step (get_or new.last_times j 0) (AllReached run v)
    unfolding row_at
    given_all_none = let t = given_lines_is in subst (λ x. (x ≡ no_time) ↔ NeverFrom v.step (get_or new.last_times j 0) (AllReached run v)) (sym t.all_number_is) (none-iff t.all_time t.means.all_is)

    pub given_every_second : v.step ≡ 1
        → IsLeast (SomeReached run v) (get_or new.last_times j 0) most_time given_lines_is.some_time × IsLeast (AllReached run v) (get_or new.last_times j 0) most_time given_lines_is.all_time
    unfolding row_at
    given_every_second one = every-second one given_lines_is.means
