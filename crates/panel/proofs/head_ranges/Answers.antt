-- Proof of `panel::head_ranges`: the rows of Head ranges are tried in their order, and `copy_head` copies the head's ranges. Assumes nothing.
use Rattle.std.proofs.Common.{ℕ, ◌≡◌, ◌++◌, List, arith, refl, sym, subst, length-take-le}
use Rattle.std.proofs.lemmas.Result.{err_from_is_err_and}
use Rattle.definitions.specs.Spans.{panel_room}
use Rattle.definitions.specs.Answers.{accepted, firstRow}
use Rattle.definitions.specs.Panels.{Places}
use Rattle.definitions.specs.PanelCalls.{room_of}
use Rattle.definitions.specs.Ranges.{Lists}
use Rattle.definitions.specs.Refusals.{refusal_number}
use Rattle.trial_laws.specs.CallLaws.{bind-refused}
use Rattle.trial_laws.specs.ShortLists.{long-split}
use Rattle.panel_laws.specs.OneMore.{place_of}
use Rattle.panel_laws.specs.PanelRows.{roomy}
use Rattle.panel_trial.specs.Decisions.{room_rows, first_rows}
use Rattle.panel_trial.specs.DecisionLaws.{Found, found_where}
use Rattle.panel.specs.Promises.{lengths_of}
use Rattle.panel.specs.HeadRangesLaws.{rows_of, ListRoom, list-room, same-lengths, not_listed, was-listed}
use Rattle.panel.proofs.head_ranges.Goals.{Start, In_ok-try_panel, After-total_of-total}
use Rattle.panel.proofs.head_ranges.Goals as goal

abbrev lent : Start → Places
lent c = record { addresses = c.args.addresses.now; times = c.args.times.now; lows = c.args.lows.now; highs = c.args.highs.now }

abbrev into : Start → Lists
into c = record { times = c.args.into_times.now; lows = c.args.into_lows.now; highs = c.args.into_highs.now }

abbrev room : Start → List ℕ
room c = room_of (lent c) ++ lengths_of (into c)

pub try_panel-requires : goal.try_panel-requires
unfolding room_of lengths_of
try_panel-requires c = λ long.
    let start = (goal.at.try_panel-requires c).Start in
    (roomy (lent start) (long-split panel_room (room_of (lent start)) (lengths_of (into start)) long).0).room_addresses

pub returns-in_err-try_panel : goal.returns-in_err-try_panel
unfolding room_of lengths_of
returns-in_err-try_panel c =
    let start = (goal.at.returns-in_err-try_panel c).Start in
    let args = c.args in
    let p = err_from_is_err_and c.from_residual.result c.from_residual.ensures.1 in
    let n = refusal_number c.in_err-try_panel.field-0.0 in
    let rows = bind-refused (firstRow (room_rows (room start) ++ first_rows args.entries.now args.addresses.now args.address)) (λ ok. place_of args.address args.entries.now) n (sym c.in_err-try_panel.ensures) in
    not_listed args.entries.now (lent start) args.address (into start) c.from_residual.result n (rw (p.1, p.2) refl) rows

-- past 8, 14 and 12

found : (c : In_ok-try_panel) → Found (room (goal.at.In_ok-try_panel c).Start) c.args.entries.now c.args.addresses.now c.args.address c.in_ok-try_panel.field-0
unfolding room_of lengths_of
found c = found_where (room (goal.at.In_ok-try_panel c).Start) c.args.entries.now c.args.addresses.now c.args.address c.in_ok-try_panel.field-0 c.in_ok-try_panel.ensures

passed : (c : In_ok-try_panel) → let start = (goal.at.In_ok-try_panel c).Start in firstRow (rows_of c.args.entries.now (lent start) c.args.address (lengths_of (into start))) ≡ accepted tt
passed c = (found c).passed

pub total_of-total-requires : goal.total_of-total-requires
total_of-total-requires c = (found (goal.at.total_of-total-requires c).In_ok-try_panel).good.few

-- there is room for the places held

with_room : (c : After-total_of-total) → let start = (goal.at.After-total_of-total c).Start in ListRoom c.total_of-total.result (lent start) (into start)
with_room c =
    let start = (goal.at.After-total_of-total c).Start in
    let held = list-room c.args.entries.now (lent start) c.args.address (into start) (passed (goal.at.After-total_of-total c).In_ok-try_panel) in
    subst (λ n. ListRoom n (lent start) (into start)) (sym c.total_of-total.ensures) held

pub slice_bounds-copy_head-end : goal.slice_bounds-copy_head-end
slice_bounds-copy_head-end c = sym (length-take-le _ c.args.addresses.now (let r = with_room (goal.at.slice_bounds-copy_head-end c).After-total_of-total in let m = r.most in let k = r.places.room_addresses in omega (arith, m, k)))

pub slice_bounds-copy_head-end-2 : goal.slice_bounds-copy_head-end-2
slice_bounds-copy_head-end-2 c = sym (length-take-le _ c.args.times.now (let r = with_room (goal.at.slice_bounds-copy_head-end-2 c).After-total_of-total in let m = r.most in let k = r.places.room_times in omega (arith, m, k)))

pub slice_bounds-copy_head-end-3 : goal.slice_bounds-copy_head-end-3
slice_bounds-copy_head-end-3 c = sym (length-take-le _ c.args.lows.now (let r = with_room (goal.at.slice_bounds-copy_head-end-3 c).After-total_of-total in let m = r.most in let k = r.places.room_lows in omega (arith, m, k)))

pub slice_bounds-copy_head-end-4 : goal.slice_bounds-copy_head-end-4
slice_bounds-copy_head-end-4 c = sym (length-take-le _ c.args.highs.now (let r = with_room (goal.at.slice_bounds-copy_head-end-4 c).After-total_of-total in let m = r.most in let k = r.places.room_highs in omega (arith, m, k)))

pub copy_head-count-requires : goal.copy_head-count-requires
copy_head-count-requires c = let start = (goal.at.copy_head-count-requires c).Start in same-lengths c.total_of-total.result (lent start) (into start) (with_room (goal.at.copy_head-count-requires c).After-total_of-total)

pub returns : goal.returns
returns c =
    let start = (goal.at.returns c).Start in
    was-listed c.args.entries.now (lent start) c.args.address (into start) _ c.copy_head-count.result c.total_of-total.result (passed (goal.at.returns c).In_ok-try_panel) c.total_of-total.ensures (with_room (goal.at.returns c).After-total_of-total) c.copy_head-count.ensures
