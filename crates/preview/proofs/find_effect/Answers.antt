-- `preview::find_effect` meets its contract. Assumes nothing.
use native.Mathlib.Nat.{le_refl}
use native.Mathlib.Omega.{arith}
use Rattle.definitions.specs.Ranges.{Lists}
use Rattle.trial_laws.specs.LongerLists.{shorter_accepted}
use Rattle.fit.specs.RangesByValue.{range_of}
use Rattle.preview.specs.FoundEffects.{given_closed, polygon_joined, given_joined}
use Rattle.preview.proofs.find_effect.Goals.{Start}
use Rattle.preview.proofs.find_effect.Goals as goal

abbrev lists : Start → Lists
lists s = record { times = s.args.times.now; lows = s.args.lows.now; highs = s.args.highs.now }

pub last_run-last-requires : goal.last_run-last-requires
last_run-last-requires c =
    let P = c.requires in
    let room = P.room in
    (shorter_accepted (lists (goal.at.last_run-last-requires c).Start) (range_of c.args.r) P.lists_accepted, P.some, le_refl _, omega arith, omega arith)

pub returns-in_default : goal.returns-in_default
returns-in_default c = given_closed c.requires c.last_run-last.ensures c.run_with.ensures c.in_default.is

pub outlook_of-outlook-requires : goal.outlook_of-outlook-requires
outlook_of-outlook-requires c =
    let (two, z) = polygon_joined c.requires c.last_run-last.ensures c.run_with.ensures c.in-Some.is in
    (z.slow_small, z.fast_small, c.requires.good)

pub returns : goal.returns
returns c = given_joined c.requires c.last_run-last.ensures c.run_with.ensures c.in-Some.is c.outlook_of-outlook.ensures
