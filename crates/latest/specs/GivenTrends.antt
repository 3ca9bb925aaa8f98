-- What Latest gives where it accepted: on the way to the front page `LatestTheorems`.
--
--     last_ranges n ls        the last n ranges of the lists
--     slices                 what the three slices hold, by the call's result
--     taken_good, taken, taken_few, ordered   no row held: the service is good, the lists are acceptable and have at most 4,096 ranges, and their times rise
--     trend_is, called       the trend that is told, and the call's result
--     run_is                 the last ranges, as many as are told, are the latest run
--     run_length, run_ordered, run_good   how many they are, that their times rise, and that some line fits them if there are any
--     told_outlook           the outlook that is told is theirs
--
-- Assumes nothing.
use Rattle.definitions.specs.declared.refusals.Refusal.{Refusal}
use Rattle.std.specs.Prelude.{◌≡◌, false, List, ℕ, ◌-◌, ◌<◌, ◌≤◌, ℤ, length, take, drop, Ok, Result}
use Rattle.std.proofs.Common.{sym, ◌∙◌, subst, arith, drop_at, length-take-le}
use Rattle.std.proofs.Math.Path.{ap}
use Rattle.definitions.specs.Spans.{most_ranges, corner_room}
use Rattle.definitions.specs.Services.{Service}
use Rattle.definitions.specs.Ranges.{Range, Lists, ranges_of}
use Rattle.definitions.specs.Fit.{HasLine, Ordered}
use Rattle.definitions.specs.Splits.{GoodRun}
use Rattle.definitions.specs.Outlook.{outlook}
use Rattle.definitions.specs.Answers.{accepted, ◌>>=◌, firstRow}
use Rattle.definitions.specs.Trial.{too_short, latest_rows}
use Rattle.definitions.specs.Latest.{latest_run, trend_of, latest_call, Trend as TrendTerm}
use Rattle.trial_laws.specs.Rows.{first_row-accepted}
use Rattle.trial_laws.specs.CallLaws.{both-accepted, call-accepted, accepted-is}
use Rattle.trial_laws.specs.RangeLists.{ranges_length}
use Rattle.trial_laws.specs.Accepted.{GoodService, AcceptedLists, latest-accepted}
use Rattle.splits.specs.OrderedRanges.{ordered-right}
use Rattle.lines.specs.LatestTrend.{rest_of, latest-suffix, latest_has_line}
use Rattle.values.specs.Meanings.{outlook_of}
use Rattle.drift.specs.GivenLines.{LinesFilled}
use Rattle.drift.specs.CornersPromise.{three_lengths}
use Rattle.latest.specs.declared.Trend.{Trend}
use Rattle.latest.specs.LatestPromise.{told_of, trend_meaning, latest_meaning, LatestPromise}

abbrev pub last_ranges : ℕ → Lists → List Range
last_ranges n ls = drop (length ls.times - n) (ranges_of ls)

pub slices : {v : Service} {ls : Lists} {ps qs ds ps' qs' ds' : List ℤ} {answer : Result Trend Refusal} → LatestPromise v ls ps qs ds ps' qs' ds' answer
    → LinesFilled (latest_call (three_lengths ps qs ds) v ls) (λ t. t.corners) ps qs ds ps' qs' ds'
slices promise = record { ps_are = promise.ps_are; qs_are = promise.qs_are; ds_are = promise.ds_are }

module _ {v : Service} {ls : Lists} {ps qs ds ps' qs' ds' : List ℤ} {t : Trend} (promise : LatestPromise v ls ps qs ds ps' qs' ds' (Ok t)) where
  abbrev ns : List ℕ
  ns = three_lengths ps qs ds

  abbrev rs : List Range
  rs = ranges_of ls

  taken_rows : firstRow (latest_rows ns v ls) ≡ accepted tt
  unfolding latest_meaning latest_call
  taken_rows = both-accepted (latest_call ns v ls) (λ t. accepted (told_of t)) (trend_meaning t) (sym promise.answer_is) (λ x e f. passed x e)
    where
      passed : (x : TrendTerm) → latest_call ns v ls ≡ accepted x → firstRow (latest_rows ns v ls) ≡ accepted tt
      passed x e = (first_row-accepted (latest_rows ns v ls)).1 ((call-accepted (latest_rows ns v ls) (trend_of v (latest_run rs)) x).0 e).0

  proper : (too_short corner_room ns ≡ false) × GoodService v × AcceptedLists ls × (length ls.times ≤ most_ranges)
  proper = (latest-accepted ns v ls).0 taken_rows

  pub taken_good : GoodService v
  taken_good = proper.1

  pub taken : AcceptedLists ls
  taken = proper.2

  pub taken_few : length ls.times ≤ most_ranges
  taken_few = proper.3

  pub ordered : Ordered rs
  ordered = taken.ranges.ordered

  pub called : latest_call ns v ls ≡ accepted (trend_of v (latest_run rs))
  unfolding latest_call ◌>>=◌
  called = ap (λ x. x >>= λ ok. accepted (trend_of v (latest_run rs))) taken_rows

  pub trend_is : trend_meaning t ≡ told_of (trend_of v (latest_run rs))
  unfolding latest_meaning ◌>>=◌
  trend_is = accepted-is (promise.answer_is ∙ ap (λ x. x >>= λ t. accepted (told_of t)) called)

  ranges_is : t.ranges ≡ length (latest_run rs)
  unfolding trend_of
  ranges_is = ap (λ x. x.ranges) trend_is

  pub run_is : last_ranges t.ranges ls ≡ latest_run rs
  run_is =
      let (whole, few) = latest-suffix rs in
      let n : length ls.times - t.ranges ≡ rest_of rs = omega (arith, ranges_length ls taken.same, ranges_is) in
      ap (λ i. drop i rs) n ∙ ap (drop (rest_of rs)) whole ∙ drop_at (take (rest_of rs) rs) (latest_run rs) (rest_of rs) (length-take-le (rest_of rs) rs (omega arith))

  pub run_length : (length (last_ranges t.ranges ls) ≡ t.ranges) × (t.ranges ≤ length ls.times)
  run_length = (ap length run_is ∙ sym ranges_is, omega (arith, ranges_is, (latest-suffix rs).1, ranges_length ls taken.same))

  pub run_ordered : Ordered (last_ranges t.ranges ls)
  run_ordered = subst Ordered (sym run_is) (ordered-right (take (rest_of rs) rs) (latest_run rs) (subst Ordered (latest-suffix rs).0 ordered))

  pub run_good : 0 < length ls.times → GoodRun HasLine (last_ranges t.ranges ls)
  run_good some = subst (GoodRun HasLine) (sym run_is) (latest_has_line rs ordered (omega (arith, some, ranges_length ls taken.same)))

  pub told_outlook : outlook_of t.outlook ≡ outlook v (last_ranges t.ranges ls)
  unfolding trend_of
  told_outlook = ap (λ x. x.outlook) trend_is ∙ ap (outlook v) (sym run_is)
