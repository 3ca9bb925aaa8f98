-- `humoraki::humoraki_head_ranges` meets its contract: the call below fills the lists, and its answer is told as numbers. Assumes nothing.
use Rattle.definitions.specs.Ranges.{Lists}
use Rattle.definitions.specs.Panels.{Panel}
use Rattle.humoraki.specs.PromiseLaws.{after-head-ranges}
use Rattle.humoraki.proofs.humoraki_head_ranges.Goals as goal

pub returns : goal.returns
returns c =
    let args = c.args in
    let new = c.head_ranges-listed.new in
    let panel : Panel = record { entries = args.entries.now; places = record { addresses = args.addresses.now; times = args.times.now; lows = args.lows.now; highs = args.highs.now } } in
    let lent : Lists = record { times = args.into_times.now; lows = args.into_lows.now; highs = args.into_highs.now } in
    let left : Lists = record { times = new.into_times; lows = new.into_lows; highs = new.into_highs } in
    after-head-ranges panel args.address (record { lists = lent; count = args.count.now }) (record { lists = left; count = c.tell_count.new.count }) c.head_ranges-listed.ensures c.tell_count.ensures
