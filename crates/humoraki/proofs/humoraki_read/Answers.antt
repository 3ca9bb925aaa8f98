-- `humoraki::humoraki_read` meets its contract: the call below fills the lists, and its answer is told as numbers. Assumes nothing.
use Rattle.humoraki.specs.Promises.{ReadLent}
use Rattle.humoraki.specs.PromiseLaws.{after_read}
use Rattle.humoraki.proofs.humoraki_read.Goals.{After-read-answer, After-tell_read, Start}
use Rattle.humoraki.proofs.humoraki_read.Goals as goal

abbrev called : After-tell_read → After-read-answer
called c = (goal.at.After-tell_read c).After-read-answer

abbrev entry : After-read-answer → Start
entry c = (goal.at.After-read-answer c).Start

abbrev lent : Start → ReadLent
lent c = record { times = c.args.times.now; lows = c.args.lows.now; highs = c.args.highs.now; address = c.args.address.now; level = c.args.level.now; direction = c.args.direction.now; step = c.args.step.now; ranges = c.args.ranges.now }

pub returns : goal.returns
returns c =
    let call = (called c).read-answer in
    let told = c.tell_read in
    let start = entry (called c) in
    after_read start.args.file.now (lent start)
    (record { times = call.new.times; lows = call.new.lows; highs = call.new.highs; address = told.new.address; level = told.new.level; direction = told.new.direction; step = told.new.step; ranges = told.new.ranges })
    call.ensures told.ensures
