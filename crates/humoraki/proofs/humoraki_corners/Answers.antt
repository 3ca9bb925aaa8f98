-- `humoraki::humoraki_corners` meets its contract: the call below fills the slices, and its answer is told as numbers. Assumes nothing.
use Prim.Native.Nat.{ℕ}
use Rattle.definitions.specs.Ranges.{Lists}
use Rattle.drift.specs.CornersPromise.{CornersPromise}
use Rattle.humoraki.specs.Promises.{CornersLent}
use Rattle.humoraki.specs.PromiseLaws.{after-corners}
use Rattle.humoraki.proofs.humoraki_corners.Goals.{After-corners-answer, After-tell_corners, Start}
use Rattle.humoraki.proofs.humoraki_corners.Goals as goal

abbrev called : After-tell_corners → After-corners-answer
called c = (goal.at.After-tell_corners c).After-corners-answer

abbrev entry : After-corners-answer → Start
entry c = (goal.at.After-corners-answer c).Start

abbrev lists : Start → Lists
lists c = record { times = c.args.times.now; lows = c.args.lows.now; highs = c.args.highs.now }

abbrev lent : Start → CornersLent
lent c = record { ps = c.args.ps.now; qs = c.args.qs.now; ds = c.args.ds.now; count = c.args.count.now }

-- all that was lent, after the call below and with this count

abbrev left : After-corners-answer → ℕ → CornersLent
left c count = record { ps = c.corners-answer.new.ps; qs = c.corners-answer.new.qs; ds = c.corners-answer.new.ds; count = count }

promise : (c : After-corners-answer) → let old = lent (entry c) in let new = left c old.count in CornersPromise (entry c).args.k (lists (entry c)) old.ps old.qs old.ds new.ps new.qs new.ds c.corners-answer.result
promise c = c.corners-answer.ensures

pub returns : goal.returns
returns c =
    let start = entry (called c) in
    after-corners start.args.k (lists start) (lent start) (left (called c) c.tell_corners.new.count) (promise (called c)) c.tell_corners.ensures
