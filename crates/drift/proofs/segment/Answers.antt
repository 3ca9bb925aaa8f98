-- `drift::segment` meets its contract: the trial answers with the first row that holds, and where none does the slices are filled. Assumes nothing.
use Rattle.std.proofs.Common.{◌≡◌, sym, ap, ap₂, ◌∙◌, subst, ℕ, ◌≤◌, List, length, Bool, arith}
use Rattle.std.proofs.lemmas.Result.{err_from_is_err_and}
use Rattle.std.proofs.lemmas.List.{length-map}
use mir.Facts.{to_z-of_z}
use Rattle.definitions.specs.Services.{Service}
use Rattle.definitions.specs.Spans.{most_ranges, segment_room}
use Rattle.definitions.specs.Ranges.{Lists, ranges_of}
use Rattle.definitions.specs.Results.{segment_of, segments_of}
use Rattle.definitions.specs.Answers.{accepted, firstRow}
use Rattle.definitions.specs.Refusals.{answered}
use Rattle.definitions.specs.Trial.{too_short, segment_rows}
use Rattle.definitions.specs.Segments.{segments}
use Rattle.trial_laws.specs.ListTrial.{trial_rows, bad_service, segment_trial}
use Rattle.trial_laws.specs.RangeLists.{ranges_length}
use Rattle.trial_laws.specs.Accepted.{AcceptedLists, segment-accepted}
use Rattle.lines.specs.Theorems.{segments_room}
use Rattle.values.specs.Meanings.{service_of}
use Rattle.drift.specs.Columns.{Columns, columns, lengths, AllStored, room-tested}
use Rattle.drift.specs.ColumnLaws.{room-less}
use Rattle.drift.specs.SegmentPromiseLaws.{promise_refused, promise_accepted}
use Rattle.drift.specs.Filling.{FillReady}
use Rattle.drift.proofs.segment.Goals.{After-try_lists, After-new-v, Start}
use Rattle.drift.proofs.segment.Goals as goal

abbrev service : Start → Service
service c = record { level = c.args.level; direction = c.args.direction; step = c.args.step }

abbrev lists : Start → Lists
lists c = record { times = c.args.times.now; lows = c.args.lows.now; highs = c.args.highs.now }

abbrev old : Start → Columns
old c = columns c.args.first_times.now c.args.last_times.now c.args.counts.now c.args.slow_ps.now c.args.slow_qs.now c.args.slow_ds.now c.args.fast_ps.now c.args.fast_qs.now c.args.fast_ds.now c.args.somes.now c.args.alls.now

-- at most 2,048 segments
few : (v : Service) (ls : Lists) → AcceptedLists ls → length ls.times ≤ most_ranges → length (segments_of v (ranges_of ls)) ≤ segment_room
unfolding segments_of
few v ls a most =
    let long = ranges_length ls a.same in
    omega (arith, length-map (segments (ranges_of ls)) (segment_of v), segments_room (ranges_of ls) a.ranges.ordered (omega arith))

-- the trial's rows are the call's
tried : (ns : List ℕ) (v : Service) (ls : Lists) {short out : Bool} → short ≡ too_short segment_room ns → out ≡ bad_service v → firstRow (segment_rows ns v ls) ≡ firstRow (trial_rows short out ls)
tried ns v ls e f = segment_trial ns v ls ∙ ap₂ (λ short out. firstRow (trial_rows short out ls)) (sym e) (sym f)

-- what the trial told
told : (c : After-try_lists) → let s = (goal.at.After-try_lists c).Start in firstRow (segment_rows (lengths (old s)) (service s) (lists s)) ≡ answered c.try_lists.result
told c =
    let s = (goal.at.After-try_lists c).Start in
    let level = ap (λ z. bad_service (record { level = z; direction = (service s).direction; step = (service s).step })) (to_z-of_z s.ranges.level) in
    tried (lengths (old s)) (service s) (lists s) c.some_short-short.ensures (c.service_outside-outside.ensures ∙ level) ∙ sym c.try_lists.ensures

ready : (s : Start) → firstRow (segment_rows (lengths (old s)) (service s) (lists s)) ≡ accepted tt → FillReady (service s) (lists s) (old s)
ready s e =
    let (roomy, good, lists_accepted, most) = (segment-accepted (lengths (old s)) (service s) (lists s)).0 e in
    record {
      tried = record { good = good; lists_accepted = lists_accepted; few = most };
      room = room-less (few (service s) (lists s) lists_accepted most) (room-tested (old s) roomy);
    }

pub returns-in_err-try_lists : goal.returns-in_err-try_lists
returns-in_err-try_lists c =
    let t = (goal.at.returns-in_err-try_lists c).After-try_lists in
    let s = (goal.at.After-try_lists t).Start in
    let p = err_from_is_err_and c.from_residual.result c.from_residual.ensures.1 in
    rw (p.1, p.2) (promise_refused (service s) (lists s) (old s) c.in_err-try_lists.field-0.0 (told t ∙ ap answered c.in_err-try_lists.was))

pub new-v-requires : goal.new-v-requires
new-v-requires c =
    let t = (goal.at.new-v-requires c).After-try_lists in
    (ready (goal.at.After-try_lists t).Start (told t ∙ ap answered c.in_ok-try_lists.was)).tried.good.direction_in_is

-- what is asked of the slices is asked with the service as it was given
made : (c : After-new-v) → service_of c.new-v.result ≡ service (goal.at.After-new-v c).Start
made c = let s = (goal.at.After-new-v c).Start in c.new-v.ensures ∙ ap (λ l. record { level = l; direction = (service s).direction; step = (service s).step }) (to_z-of_z s.ranges.level)

pub fill-count-requires : goal.fill-count-requires
fill-count-requires c =
    let t = (goal.at.fill-count-requires c).After-try_lists in
    let s = (goal.at.After-try_lists t).Start in
    subst (λ v. FillReady v (lists s) (old s)) (sym (made (goal.at.fill-count-requires c).After-new-v)) (ready s (told t ∙ ap answered c.in_ok-try_lists.was))

pub returns : goal.returns
returns c =
    let t = (goal.at.returns c).After-try_lists in
    let s = (goal.at.After-try_lists t).Start in
    let filling = c.fill-count in
    let new = columns filling.new.first_times filling.new.last_times filling.new.counts filling.new.slow_ps filling.new.slow_qs filling.new.slow_ds filling.new.fast_ps filling.new.fast_qs filling.new.fast_ds filling.new.somes filling.new.alls in
    promise_accepted (service s) (lists s) filling.result (told t ∙ ap answered c.in_ok-try_lists.was)
    (subst (λ v. AllStored filling.result (segments_of v (ranges_of (lists s))) (old s) new) (made (goal.at.returns c).After-new-v) filling.ensures)
