-- `humoraki::humoraki_segment` meets its contract: the call below fills the slices, and its answer is told as numbers. Assumes nothing.
use mathlib.Core.Path.{subst}
use mir.Facts.{to_z-of_z}
use Rattle.definitions.specs.Services.{Service}
use Rattle.definitions.specs.Ranges.{Lists}
use Rattle.drift.specs.Columns.{Columns, columns}
use Rattle.drift.specs.SegmentPromise.{SegmentPromise, segment_meaning}
use Rattle.humoraki.specs.PromiseLaws.{after-segment}
use Rattle.humoraki.proofs.humoraki_segment.Goals.{After-segment-segmented, After-tell_count, Start}
use Rattle.humoraki.proofs.humoraki_segment.Goals as goal

abbrev called : After-tell_count → After-segment-segmented
called c = (goal.at.After-tell_count c).After-segment-segmented

abbrev entry : After-segment-segmented → Start
entry c = (goal.at.After-segment-segmented c).Start

abbrev service : Start → Service
service c = record { level = c.args.level; direction = c.args.direction; step = c.args.step }

abbrev lists : Start → Lists
lists c = record { times = c.args.times.now; lows = c.args.lows.now; highs = c.args.highs.now }

abbrev lent : Start → Columns
lent c = columns c.args.first_times.now c.args.last_times.now c.args.counts.now c.args.slow_ps.now c.args.slow_qs.now c.args.slow_ds.now c.args.fast_ps.now c.args.fast_qs.now c.args.fast_ds.now c.args.somes.now c.args.alls.now

abbrev left : After-segment-segmented → Columns
left c = columns c.segment-segmented.new.first_times c.segment-segmented.new.last_times c.segment-segmented.new.counts c.segment-segmented.new.slow_ps c.segment-segmented.new.slow_qs c.segment-segmented.new.slow_ds c.segment-segmented.new.fast_ps c.segment-segmented.new.fast_qs c.segment-segmented.new.fast_ds c.segment-segmented.new.somes c.segment-segmented.new.alls

-- the level is passed on as bits

promise : (c : After-segment-segmented) → SegmentPromise (service (entry c)) (lists (entry c)) (lent (entry c)) (left c) c.segment-segmented.result
promise c =
    let s = entry c in
    subst (λ level. SegmentPromise (record { level = level; direction = s.args.direction; step = s.args.step }) (lists s) (lent s) (left c) c.segment-segmented.result) (to_z-of_z s.ranges.level) c.segment-segmented.ensures

pub returns : goal.returns
unfolding segment_meaning
returns c =
    let start = entry (called c) in
    after-segment (service start) (lists start) (record { columns = lent start; count = start.args.count.now }) (record { columns = left (called c); count = c.tell_count.new.count }) (promise (called c)) c.tell_count.ensures
