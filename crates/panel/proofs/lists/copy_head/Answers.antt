-- Proof of `panel::lists::copy_head`: the loop's invariant is `Going`. Assumes nothing.
use Rattle.panel.specs.Copies.{going, goes_on, gone}
use Rattle.definitions.specs.Ranges.{Lists}
use Rattle.panel.proofs.lists.copy_head.Goals.{At-loop-k, Start}
use Rattle.panel.proofs.lists.copy_head.Goals as goal

abbrev lent : Start → Lists
lent c = record { times = c.args.into_times.now; lows = c.args.into_lows.now; highs = c.args.into_highs.now }

pub loop-k-init : goal.loop-k-init
loop-k-init c = let args = c.args in going args.address args.addresses.now args.times.now args.lows.now args.highs.now (lent (goal.at.loop-k-init c).Start)

pub loop-k-preserved : goal.loop-k-preserved
loop-k-preserved c =
    let start = (goal.at.loop-k-preserved c).Start in
    let args = c.args in
    goes_on args.address args.addresses.now args.times.now args.lows.now args.highs.now (lent start) (record { times = c.loop-k.into_times; lows = c.loop-k.into_lows; highs = c.loop-k.into_highs }) _ c.loop-k.at c.after-at.result c.loop-k.k c.requires c.loop-k-test.true c.loop-k.invariant
    c.copy_if.ensures
    c.after-at.ensures

pub returns : goal.returns
returns c =
    let start = (goal.at.returns c).Start in
    let args = c.args in
    gone args.address args.addresses.now args.times.now args.lows.now args.highs.now (lent start) (record { times = c.loop-k.into_times; lows = c.loop-k.into_lows; highs = c.loop-k.into_highs }) c.loop-k.at c.loop-k.k c.loop-k-test.false c.loop-k.invariant
