-- `humoraki::humoraki_add` meets its contract: the call below changes the panel, and its answer is told as a number. Assumes nothing.
use Rattle.definitions.specs.declared.refusals.Refusal.{Refusal}
use Rattle.std.proofs.Common.{ℕ, ℤ, ◌≡◌, sym, to_z-of_z, Result}
use Rattle.definitions.specs.Panels.{Panel}
use Rattle.panel.specs.Promises.{AddPromise}
use Rattle.humoraki.specs.PromiseLaws.{after-add}
use Rattle.humoraki.proofs.humoraki_add.Goals as goal

-- the low and the high are passed on as bits

by_bits : {low high low' high' : ℤ} {old new : Panel} {a time : ℕ} {answer : Result Unit Refusal} → low' ≡ low → high' ≡ high
    → AddPromise old a (record { time = time; low = low'; high = high' }) answer new → AddPromise old a (record { time = time; low = low; high = high }) answer new
by_bits e f h = rw (sym e, sym f) h

pub returns : goal.returns
returns c =
    let args = c.args in
    let new = c.add-answer.new in
    let lent : Panel = record { entries = args.entries.now; places = record { addresses = args.addresses.now; times = args.times.now; lows = args.lows.now; highs = args.highs.now } } in
    let left : Panel = record { entries = new.entries; places = record { addresses = new.addresses; times = new.times; lows = new.lows; highs = new.highs } } in
    after-add lent args.address (record { time = args.time; low = args.low; high = args.high }) left (by_bits (to_z-of_z c.ranges.low) (to_z-of_z c.ranges.high) c.add-answer.ensures) c.add_number.ensures
