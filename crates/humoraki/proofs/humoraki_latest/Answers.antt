-- `humoraki::humoraki_latest` meets its contract: the call below fills the slices, and its answer is told as numbers. Assumes nothing.
use mathlib.Core.Path.{subst}
use mir.Facts.{to_z-of_z}
use Rattle.definitions.specs.Services.{Service}
use Rattle.definitions.specs.Ranges.{Lists}
use Rattle.latest.specs.LatestPromise.{LatestPromise}
use Rattle.answer_numbers.specs.Told.{eight}
use Rattle.humoraki.specs.Promises.{LatestLent}
use Rattle.humoraki.specs.PromiseLaws.{after-latest}
use Rattle.humoraki.proofs.humoraki_latest.Goals.{After-latest-answer, After-tell_latest, Start}
use Rattle.humoraki.proofs.humoraki_latest.Goals as goal

abbrev called : After-tell_latest → After-latest-answer
called c = (goal.at.After-tell_latest c).After-latest-answer

abbrev entry : After-latest-answer → Start
entry c = (goal.at.After-latest-answer c).Start

abbrev service : Start → Service
service c = record { level = c.args.level; direction = c.args.direction; step = c.args.step }

abbrev lists : Start → Lists
lists c = record { times = c.args.times.now; lows = c.args.lows.now; highs = c.args.highs.now }

abbrev lent : Start → LatestLent
lent c =
    record {
      ps = c.args.ps.now;
      qs = c.args.qs.now;
      ds = c.args.ds.now;
      ranges = c.args.ranges.now;
      numbers = eight c.args.slow_p.now c.args.slow_q.now c.args.slow_d.now c.args.fast_p.now c.args.fast_q.now c.args.fast_d.now c.args.some.now c.args.all.now;
      corners = c.args.corners.now;
    }

-- all that was lent, after the two calls

abbrev left : After-tell_latest → LatestLent
left c =
    let call = (called c).latest-answer in
    let told = c.tell_latest in
    record {
      ps = call.new.ps;
      qs = call.new.qs;
      ds = call.new.ds;
      ranges = told.new.ranges;
      numbers = eight told.new.slow_p told.new.slow_q told.new.slow_d told.new.fast_p told.new.fast_q told.new.fast_d told.new.some told.new.all;
      corners = told.new.corners;
    }

-- the level is passed on as bits

promise : (c : After-tell_latest) → let start = entry (called c) in let old = lent start in let new = left c in LatestPromise (service start) (lists start) old.ps old.qs old.ds new.ps new.qs new.ds (called c).latest-answer.result
promise c =
    let s = entry (called c) in
    let old = lent s in
    let new = left c in
    subst (λ level. LatestPromise (record { level = level; direction = s.args.direction; step = s.args.step }) (lists s) old.ps old.qs old.ds new.ps new.qs new.ds (called c).latest-answer.result) (to_z-of_z s.ranges.level) (called c).latest-answer.ensures

pub returns : goal.returns
returns c = let start = entry (called c) in after-latest (service start) (lists start) (lent start) (left c) (promise c) c.tell_latest.ensures
