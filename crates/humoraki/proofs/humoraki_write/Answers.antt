-- `humoraki::humoraki_write` meets its contract: the call below fills the file, and its answer is told as numbers. Assumes nothing.
use mathlib.Core.Path.{subst}
use mir.Facts.{to_z-of_z}
use Rattle.definitions.specs.Ranges.{Lists}
use Rattle.definitions.specs.Headers.{Header}
use Rattle.trace.specs.Promises.{WritePromise, write_meaning}
use Rattle.humoraki.specs.Promises.{WriteLent}
use Rattle.humoraki.specs.PromiseLaws.{after_write}
use Rattle.humoraki.proofs.humoraki_write.Goals.{After-tell_count, After-write-written, Start}
use Rattle.humoraki.proofs.humoraki_write.Goals as goal

abbrev called : After-tell_count → After-write-written
called c = (goal.at.After-tell_count c).After-write-written

abbrev entry : After-write-written → Start
entry c = (goal.at.After-write-written c).Start

abbrev header : Start → Header
header c = record { address = c.args.address; service = record { level = c.args.level; direction = c.args.direction; step = c.args.step } }

abbrev lists : Start → Lists
lists c = record { times = c.args.times.now; lows = c.args.lows.now; highs = c.args.highs.now }

abbrev lent : Start → WriteLent
lent c = record { file = c.args.file.now; count = c.args.count.now }

-- the level is passed on as bits

promise : (c : After-write-written) → WritePromise (header (entry c)) (lists (entry c)) (lent (entry c)).file c.write-written.new.file c.write-written.result
promise c =
    let s = entry c in
    subst (λ level. WritePromise (record { address = s.args.address; service = record { level = level; direction = s.args.direction; step = s.args.step } }) (lists s) (lent s).file c.write-written.new.file c.write-written.result) (to_z-of_z s.ranges.level) c.write-written.ensures

pub returns : goal.returns
unfolding write_meaning
returns c =
    let start = entry (called c) in
    after_write (header start) (lists start) (lent start) (record { file = (called c).write-written.new.file; count = c.tell_count.new.count }) (promise (called c)) c.tell_count.ensures
