-- `drift::filling::fill` meets its contract. The invariant is `Turn`: the first `count` segments are stored, and the ranges from `start` on hold those
-- that are left. What shrinks is the number of ranges from `start` on. Assumes nothing.
use Prim.Native.Nat.{◌+◌, ◌*◌, suc}
use mathlib.Core.Path.{◌≡◌, refl, sym, ap, ◌∙◌}
use mathlib.Core.List.{List, ◌∷◌}
use native.Mathlib.Omega.{arith}
use borrow.Author.Rules.{scaled_Fits}
use lib.ListN.{length, drop, drop_of_length-le}
use mir.Syntax.{w64}
use mir.Val.{Fits}
use Rattle.definitions.specs.Services.{Service}
use Rattle.definitions.specs.Ranges.{Lists, ranges_of}
use Rattle.definitions.specs.Splits.{cut}
use Rattle.definitions.specs.Segments.{segments}
use Rattle.definitions.specs.Results.{Segment, segments_of}
use Rattle.values.specs.Meanings.{service_of, segment_of}
use Rattle.fit.specs.ChainsOfEnds.{long_of}
use Rattle.drift.specs.Columns.{Columns, columns, Room, SameLengths, FirstStored, AllStored}
use Rattle.drift.specs.ColumnLaws.{first-none, first-lengths, first_room, first_next, rest_left, first-all}
use Rattle.drift.specs.Filling.{FillReady, ranges-long}
use Rattle.drift.proofs.filling.fill.Goals.{After-fast_ds-1, After-loop-start, After-segment_from-segment, Start}
use Rattle.drift.proofs.filling.fill.Goals as goal

-- ---- at entry

abbrev service : Start → Service
service c = service_of c.args.v

abbrev lists : Start → Lists
lists c = record { times = c.args.times.now; lows = c.args.lows.now; highs = c.args.highs.now }

abbrev all : Start → List Segment
all c = segments_of (service c) (ranges_of (lists c))

abbrev old : Start → Columns
old c = columns c.args.first_times.now c.args.last_times.now c.args.counts.now c.args.slow_ps.now c.args.slow_qs.now c.args.slow_ds.now c.args.fast_ps.now c.args.fast_qs.now c.args.fast_ds.now c.args.somes.now c.args.alls.now

ready : (c : Start) → FillReady (service c) (lists c) (old c)
ready c = c.requires

pub loop-start-init : goal.loop-start-init
loop-start-init c = let s = (goal.at.loop-start-init c).Start in (record { within = omega arith; left = refl; stored = first-none (all s) (old s) }, refl, refl)

pub slice_bounds-segment_from-end : goal.slice_bounds-segment_from-end
slice_bounds-segment_from-end c = sym c.loop-start.invariant.1

pub slice_bounds-segment_from-end-in-loop-start : goal.slice_bounds-segment_from-end-in-loop-start
slice_bounds-segment_from-end-in-loop-start c = sym c.loop-start.invariant.2

pub segment_from-segment-requires : goal.segment_from-segment-requires
segment_from-segment-requires c =
    let s = (goal.at.segment_from-segment-requires c).Start in
    let few = c.requires.tried.few in
    let kept = c.loop-start.invariant in
    record {
      tried = (ready s).tried;
      up_room = long_of c.loop-start.up (omega (arith, few, kept.1));
      down_room = long_of c.loop-start.down (omega (arith, few, kept.2));
      inside = c.loop-start-test.true;
    }

-- ---- a turn, where its segment is known

abbrev entry : After-segment_from-segment → Start
entry c = (goal.at.After-segment_from-segment c).Start

abbrev now : After-segment_from-segment → Columns
now c = columns c.loop-start.first_times c.loop-start.last_times c.loop-start.counts c.loop-start.slow_ps c.loop-start.slow_qs c.loop-start.slow_ds c.loop-start.fast_ps c.loop-start.fast_qs c.loop-start.fast_ds c.loop-start.somes c.loop-start.alls

stored : (c : After-segment_from-segment) → FirstStored c.loop-start.count (all (entry c)) (old (entry c)) (now c)
stored c = c.loop-start.invariant.0.stored

room : (c : After-segment_from-segment) → Room (length (all (entry c))) (old (entry c))
room c = (ready (entry c)).room

next : (c : After-segment_from-segment) → drop c.loop-start.count (all (entry c)) ≡ segment_of c.segment_from-segment.result ∷ segments_of (service (entry c)) (drop (c.loop-start.start + c.segment_from-segment.result.count) (ranges_of (lists (entry c))))
unfolding segment_of
next c = c.loop-start.invariant.0.left ∙ c.segment_from-segment.ensures.next

pub overflow_cast-ranges : goal.overflow_cast-ranges
unfolding segment_of
overflow_cast-ranges c = let t = (goal.at.overflow_cast-ranges c).After-segment_from-segment in record { fits = omega (arith, c.segment_from-segment.ensures.within, (entry t).well_formed.1.0.0) }

roomy : (c : After-segment_from-segment) → Room (suc c.loop-start.count) (now c)
roomy c = first_room (stored c) (room c) (next c)

-- a place of an entry, in bytes

fits-4 : (c : After-segment_from-segment) → Fits w64 (c.loop-start.count * 4)
fits-4 c = scaled_Fits _ _ 4 (omega (arith, (roomy c).first_times_is, (first-lengths (stored c) (room c)).first_times_is)) (entry c).well_formed.1.1.1.1.0.1

fits_8 : (c : After-segment_from-segment) → Fits w64 (c.loop-start.count * 8)
fits_8 c = scaled_Fits _ _ 8 (omega (arith, (roomy c).somes, (first-lengths (stored c) (room c)).somes)) (entry c).well_formed.1.1.1.1.1.1.1.1.1.1.1.1.1.0.1

pub offset_bounds-first_times-count : goal.offset_bounds-first_times-count
offset_bounds-first_times-count c = fits-4 (goal.at.offset_bounds-first_times-count c).After-segment_from-segment

pub bounds-first_times-count : goal.bounds-first_times-count
bounds-first_times-count c = (roomy (goal.at.bounds-first_times-count c).After-segment_from-segment).first_times_is

pub offset_bounds-last_times-count : goal.offset_bounds-last_times-count
offset_bounds-last_times-count c = fits-4 (goal.at.offset_bounds-last_times-count c).After-segment_from-segment

pub bounds-last_times-count : goal.bounds-last_times-count
bounds-last_times-count c = (roomy (goal.at.bounds-last_times-count c).After-segment_from-segment).last_times_is

pub offset_bounds-counts-count : goal.offset_bounds-counts-count
offset_bounds-counts-count c = fits-4 (goal.at.offset_bounds-counts-count c).After-segment_from-segment

pub bounds-counts-count : goal.bounds-counts-count
bounds-counts-count c = (roomy (goal.at.bounds-counts-count c).After-segment_from-segment).counts

-- where all is stored

abbrev turn : After-fast_ds-1 → After-segment_from-segment
turn c = (goal.at.After-fast_ds-1 c).After-segment_from-segment

pub store_line-requires : goal.store_line-requires
store_line-requires c = let r = roomy (goal.at.store_line-requires c).After-segment_from-segment in record { ps_long = r.slow_ps_is; qs_long = r.slow_qs_is; ds_long = r.slow_ds_is }

pub store_line-requires-in-loop-start : goal.store_line-requires-in-loop-start
store_line-requires-in-loop-start c = let r = roomy (goal.at.store_line-requires-in-loop-start c).After-segment_from-segment in record { ps_long = r.fast_ps_is; qs_long = r.fast_qs_is; ds_long = r.fast_ds_is }

pub offset_bounds-somes-count : goal.offset_bounds-somes-count
offset_bounds-somes-count c = fits_8 (turn c)

pub bounds-somes-count : goal.bounds-somes-count
bounds-somes-count c = (roomy (turn c)).somes

pub offset_bounds-alls-count : goal.offset_bounds-alls-count
offset_bounds-alls-count c = fits_8 (turn c)

pub bounds-alls-count : goal.bounds-alls-count
bounds-alls-count c = (roomy (turn c)).alls

pub overflow_add-start : goal.overflow_add-start
unfolding segment_of
overflow_add-start c = let t = turn c in omega (arith, t.segment_from-segment.ensures.within, (entry t).well_formed.1.0.0)

pub overflow_add-count : goal.overflow_add-count
overflow_add-count c = let t = turn c in omega (arith, (roomy t).first_times_is, (first-lengths (stored t) (room t)).first_times_is, (entry t).well_formed.1.1.1.1.0.0)

pub loop-start-smaller : goal.loop-start-smaller
unfolding segment_of
loop-start-smaller c = let t = turn c in omega (arith, t.segment_from-segment.ensures.some, t.segment_from-segment.ensures.within)

pub loop-start-preserved : goal.loop-start-preserved
unfolding segment_of
loop-start-preserved c =
    let t = turn c in
    let lengths = t.loop-start.invariant in
    let kept = t.segment_from-segment.auto in
    let row = c.from-row.ensures in
    let slow = c.store_line.ensures in
    let fast = c.store_line-in-loop-start.ensures in (
      record {
        within = t.segment_from-segment.ensures.within;
        left = rest_left (stored t) (room t) (next t);
        stored =
            first_next (stored t) (room t) (next t)
            (rw (sym row) (
            record {
              first_times_is = refl;
              last_times_is = refl;
              counts = refl;
              slow_ps_is = slow.p_is;
              slow_qs_is = slow.q_is;
              slow_ds_is = slow.d_is;
              fast_ps_is = fast.p_is;
              fast_qs_is = fast.q_is;
              fast_ds_is = fast.d_is;
              somes = refl;
              alls = refl;
            }
            ));
      },
      kept.up ∙ lengths.1,
      kept.down ∙ lengths.2,
    )

-- ---- after the last turn

abbrev filled : After-loop-start → Columns
filled c = columns c.loop-start.first_times c.loop-start.last_times c.loop-start.counts c.loop-start.slow_ps c.loop-start.slow_qs c.loop-start.slow_ds c.loop-start.fast_ps c.loop-start.fast_qs c.loop-start.fast_ds c.loop-start.somes c.loop-start.alls

abbrev begun : After-loop-start → Start
begun c = (goal.at.After-loop-start c).Start

ended : (c : After-loop-start) → AllStored c.loop-start.count (all (begun c)) (old (begun c)) (filled c)
unfolding segments_of segments cut ranges_of
ended c =
    let s = begun c in
    let ls = lists s in
    let long = ranges-long ls.times ls.lows ls.highs in
    let passed = drop_of_length-le (ranges_of ls) {i = c.loop-start.start} (omega (arith, c.loop-start-test.false)) in
    first-all c.loop-start.invariant.0.stored (c.loop-start.invariant.0.left ∙ ap (segments_of (service s)) passed)

kept : (c : After-loop-start) → SameLengths (old (begun c)) (filled c)
kept c = first-lengths c.loop-start.invariant.0.stored (ready (begun c)).room

pub returns : goal.returns
returns c = ended c
