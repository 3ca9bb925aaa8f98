-- `drift::corners` meets its contract: the trial and the row 9 answer with the first row that holds; where none does, the segment running after k
-- ranges is open or its corners are listed. Assumes nothing.
use Rattle.std.proofs.Common.{◌≡◌, sym, ap, ◌∙◌, ℕ, ◌≤◌, false, List, length, arith}
use Rattle.std.proofs.lemmas.Result.{err_from_is_err_and}
use Rattle.definitions.specs.Spans.{most_ranges, corner_room}
use Rattle.definitions.specs.Ranges.{Lists}
use Rattle.definitions.specs.Answers.{Row, accepted, firstRow}
use Rattle.definitions.specs.Refusals.{answered}
use Rattle.definitions.specs.declared.refusals.Refusal.TheVariants.{NoFirstRanges}
use Rattle.definitions.specs.Trial.{corner_rows}
use Rattle.trial_laws.specs.ListTrial.{trial_rows}
use Rattle.trial_laws.specs.Inside.{count-inside}
use Rattle.trial_laws.specs.Accepted.{AcceptedLists, trial_accepted}
use Rattle.drift_laws.specs.LineRows.{RowRoom}
use Rattle.fit.specs.RunsFrom.{polygon_some, polygon_none}
use Rattle.corner_list.specs.RunCorners.{proper_corners, points_few, run_corners}
use Rattle.drift.specs.CornersPromise.{three_lengths}
use Rattle.drift.specs.CornersPromiseLaws.{rows-refused, count_refused, rows_passed, room-tested, promise_refused, promise_open, promise_corners}
use Rattle.drift.proofs.corners.Goals.{After-try_lists, Else-count_outside, Start}
use Rattle.drift.proofs.corners.Goals as goal

abbrev lists : Start → Lists
lists c = record { times = c.args.times.now; lows = c.args.lows.now; highs = c.args.highs.now }

abbrev lengths : Start → List ℕ
lengths c = three_lengths c.args.ps.now c.args.qs.now c.args.ds.now

-- what the trial told, and what the lists are where it turned nothing down
module _ (c : After-try_lists) where
  abbrev entry : Start
  entry = (goal.at.After-try_lists c).Start

  abbrev rows : List Row
  rows = trial_rows c.some_short-short.result false (lists entry)

  told : firstRow rows ≡ answered c.try_lists.result
  told = sym c.try_lists.ensures

  module _ (none : firstRow rows ≡ accepted tt) where
    lists_accepted : AcceptedLists (lists entry)
    lists_accepted = ((trial_accepted c.some_short-short.result false (lists entry)).0 none).2

    lists-few : length (lists entry).times ≤ most_ranges
    lists-few = ((trial_accepted c.some_short-short.result false (lists entry)).0 none).3

    room : RowRoom corner_room entry.args.ps.now entry.args.qs.now entry.args.ds.now
    room = room-tested entry.args.ps.now entry.args.qs.now entry.args.ds.now (sym c.some_short-short.ensures ∙ ((trial_accepted c.some_short-short.result false (lists entry)).0 none).0)

pub returns-in_err-try_lists : goal.returns-in_err-try_lists
returns-in_err-try_lists c =
    let t = (goal.at.returns-in_err-try_lists c).After-try_lists in
    let s = entry t in
    let p = err_from_is_err_and c.from_residual.result c.from_residual.ensures.1 in
    rw (p.1, p.2)
    (promise_refused s.args.k (lists s) s.args.ps.now s.args.qs.now s.args.ds.now c.in_err-try_lists.field-0.0
    (rows-refused (lengths s) s.args.k (lists s) t.some_short-short.ensures (told t ∙ ap answered c.in_err-try_lists.was)))

pub returns-then-count_outside : goal.returns-then-count_outside
returns-then-count_outside c =
    let t = (goal.at.returns-then-count_outside c).After-try_lists in
    let s = entry t in
    promise_refused s.args.k (lists s) s.args.ps.now s.args.qs.now s.args.ds.now NoFirstRanges
    (count_refused (lengths s) s.args.k (lists s) t.some_short-short.ensures (told t ∙ ap answered c.in_ok-try_lists.was) c.count_outside.ensures c.if-count_outside.true)

-- ---- where no row holds

module _ (c : Else-count_outside) where
  abbrev tried : After-try_lists
  tried = (goal.at.Else-count_outside c).After-try_lists

  abbrev start : Start
  start = entry tried

  none : firstRow (rows tried) ≡ accepted tt
  none = told tried ∙ ap answered c.in_ok-try_lists.was

  good : AcceptedLists (lists start)
  good = lists_accepted tried none

  passed : firstRow (corner_rows (lengths start) start.args.k (lists start)) ≡ accepted tt
  passed = rows_passed (lengths start) start.args.k (lists start) tried.some_short-short.ensures none c.count_outside.ensures c.if-count_outside.false

  counted : (1 ≤ start.args.k) × (start.args.k ≤ length start.args.times.now)
  counted = (count-inside start.args.k (length start.args.times.now)).0 (sym c.count_outside.ensures ∙ c.if-count_outside.false)

  few : start.args.k ≤ most_ranges
  few = omega (arith, counted.1, lists-few tried none)

pub last_run-found-requires : goal.last_run-found-requires
last_run-found-requires c = let e = (goal.at.last_run-found-requires c).Else-count_outside in (good e, (counted e).0, (counted e).1, few e, few e)

pub returns-in_default : goal.returns-in_default
returns-in_default c =
    let e = (goal.at.returns-in_default c).Else-count_outside in
    let s = start e in
    let z = c.last_run-found.ensures in
    promise_open s.args.k (lists s) s.args.ps.now s.args.qs.now s.args.ds.now (passed e) (good e) (counted e).1 z (omega (arith, polygon_none c.in_default.is z.polygon_is))

-- ---- where the corners are listed

pub list_corners-count-requires : goal.list_corners-count-requires
list_corners-count-requires c =
    let e = (goal.at.list_corners-count-requires c).Else-count_outside in
    let found = c.last_run-found in
    let (two, z) = polygon_some c.in-Some.is found.ensures.polygon_is in
    let k = (start e).args.k in
    let few-points = points_few (good e) found.result.start k two (counted e).1 found.ensures.line z in
    let roomy = room (tried e) (none e) in (
      z.shape,
      proper_corners (good e) found.result.start k two (counted e).1 found.ensures.line z,
      record { ps_long = omega (arith, few e, few-points, roomy.ps_long); qs_long = omega (arith, few e, few-points, roomy.qs_long); ds_long = omega (arith, few e, few-points, roomy.ds_long) },
    )

pub returns : goal.returns
returns c =
    let e = (goal.at.returns c).Else-count_outside in
    let s = start e in
    let found = c.last_run-found in
    let (two, z) = polygon_some c.in-Some.is found.ensures.polygon_is in
    let listed = c.list_corners-count in
    promise_corners s.args.k (lists s) s.args.ps.now s.args.qs.now s.args.ds.now (passed e) (good e) (counted e).1 found.ensures two listed.result
    (run_corners (good e) found.result.start s.args.k two (counted e).1 found.ensures.line z listed.ensures)
