-- Proof of `latest::find_trend`: the run that begins where the latest run does goes up to the last range, so its outlook and its corners are those of the latest run. Assumes nothing.
use Prim.Native.Nat.{ℕ, ◌+◌, ◌≤◌}
use native.Mathlib.Nat.{le_refl}
use native.Mathlib.Omega.{arith}
use lib.ListN.{length}
use Rattle.definitions.specs.Ranges.{Lists}
use Rattle.corner_list.specs.RunCorners.{proper_corners, points_few, run_corners}
use Rattle.latest.specs.LatestStarts.{LatestStart, start-two}
use Rattle.latest.specs.FoundTrends.{line_at, polygon_there, polygon_at, trend_given}
use Rattle.latest.proofs.find_trend.Goals.{Start}
use Rattle.latest.proofs.find_trend.Goals as goal

abbrev lists : Start → Lists
lists s = record { times = s.args.times.now; lows = s.args.lows.now; highs = s.args.highs.now }

-- the latest run has two ranges or more

two_at : (s : Start) {start : ℕ} → LatestStart (lists s) start → start + 2 ≤ length s.args.times.now
two_at s z = start-two s.requires.tried.lists_accepted s.requires.two z

pub run_from-run-requires : goal.run_from-run-requires
run_from-run-requires c =
    let s = (goal.at.run_from-run-requires c).Start in
    let few = c.requires.tried.few in
    let start = c.latest_start-start in
    (c.requires.tried.lists_accepted, omega (arith, two_at s start.ensures), le_refl _, omega (arith, few, start.auto.up), omega (arith, few, start.auto.down))

pub unwrap-polygon-requires : goal.unwrap-polygon-requires
unwrap-polygon-requires c = polygon_there c.requires.tried c.requires.two c.latest_start-start.ensures c.run_from-run.ensures

pub outlook_of-outlook-requires : goal.outlook_of-outlook-requires
outlook_of-outlook-requires c =
    let z = polygon_at c.requires.tried c.requires.two c.latest_start-start.ensures c.run_from-run.ensures c.unwrap-polygon.ensures in
    (z.slow_small, z.fast_small, c.requires.tried.good)

pub list_corners-corners-requires : goal.list_corners-corners-requires
list_corners-corners-requires c =
    let s = (goal.at.list_corners-corners-requires c).Start in
    let tried = c.requires.tried in
    let start = c.latest_start-start in
    let found = c.run_from-run in
    let n = length c.args.times.now in
    let z = polygon_at tried c.requires.two start.ensures found.ensures c.unwrap-polygon.ensures in
    let line = line_at tried c.requires.two start.ensures found.ensures in
    let few-points = points_few tried.lists_accepted start.result n (two_at s start.ensures) (le_refl n) line z in
    let few = tried.few in
    let room = c.requires.room in (
      z.shape,
      proper_corners tried.lists_accepted start.result n (two_at s start.ensures) (le_refl n) line z,
      record { ps_long = omega (arith, few, few-points, room.ps_long); qs_long = omega (arith, few, few-points, room.qs_long); ds_long = omega (arith, few, few-points, room.ds_long) },
    )

pub returns : goal.returns
returns c =
    let s = (goal.at.returns c).Start in
    let tried = c.requires.tried in
    let start = c.latest_start-start in
    let found = c.run_from-run in
    let is = c.unwrap-polygon.ensures in
    let n = length c.args.times.now in
    trend_given tried c.requires.two start.ensures found.ensures is c.outlook_of-outlook.ensures
    (run_corners tried.lists_accepted start.result n (two_at s start.ensures) (le_refl n) (line_at tried c.requires.two start.ensures found.ensures) (polygon_at tried c.requires.two start.ensures found.ensures is) c.list_corners-corners.ensures)
