-- Proof of `panel_trial::decisions::decide`: 8 and the panel's rows, then the range's own, then 13. Assumes nothing.
use Rattle.std.proofs.Common.{ℕ, ◌≡◌, ◌+◌, ◌<◌, ◌≤◌, List, length, take, get_or, arith, refl, sym, ap, ap₂, ◌∙◌, length-take-le, le-leb}
use Rattle.std.specs.Prelude.{false, ◌&&◌, ◌++◌, leb}
use Rattle.std.proofs.Math.Bool.{and-false}
use Rattle.std.proofs.lemmas.Bool.{lt-leb}
use Rattle.std.proofs.lemmas.Result.{err_from_is_err_and}
use mathlib.Core.Logic.{⊎_elim}
use Rattle.definitions.specs.Answers.{Answer, accepted, firstRow}
use Rattle.definitions.specs.Ranges.{Range}
use Rattle.definitions.specs.Refusals.{answered, refusal_number}
use Rattle.definitions.specs.Trial.{range_rows}
use Rattle.definitions.specs.Panels.{total_held, crowded}
use Rattle.definitions.specs.declared.entries.Entry.{Entry}
use Rattle.trial_laws.specs.CallLaws.{bind-refused}
use Rattle.trial_laws.specs.LeastTime.{time_before}
use Rattle.panel_laws.specs.Entries.{no_entry}
use Rattle.panel_laws.specs.OneMore.{place_of}
use Rattle.panel_laws.specs.Tallies.{least_from}
use Rattle.panel_laws.specs.PanelRows.{total-room}
use Rattle.panel_trial.specs.Decisions.{RoomFor, room_rows, first_rows, later_rows, decision_of}
use Rattle.panel_trial.specs.declared.decisions.Decision.{Decision}
use Rattle.panel_trial.specs.DecisionLaws.{Found, found_where, place_inside, held_there, above_part, crowd_is, panel_refuses, range_refuses, crowd_refuses, lets_in, refused_as, accepted_as}
use Rattle.panel_trial.specs.PassedRanges.{read_back}
use Rattle.panel_trial.proofs.decisions.decide.Goals.{Start, After-total_of-total, After-try_range, After-common_of-common, In_ok-at}
use Rattle.panel_trial.proofs.decisions.decide.Goals as goal

abbrev range : Start → Range
range c = record { time = c.args.time; low = c.args.low; high = c.args.high }

abbrev decided : Start → Answer Unit
decided c = firstRow ((room_rows c.args.lengths.now ++ first_rows c.args.entries.now c.args.addresses.now c.args.address) ++ later_rows c.args.entries.now c.args.addresses.now c.args.times.now c.args.address (range c))

pub returns-in_err-at : goal.returns-in_err-at
returns-in_err-at c =
    let args = c.args in
    let p = err_from_is_err_and c.from_residual.result c.from_residual.ensures.1 in
    let n = refusal_number c.in_err-at.field-0.0 in
    let first = bind-refused (firstRow (room_rows args.lengths.now ++ first_rows args.entries.now args.addresses.now args.address)) (λ ok. place_of args.address args.entries.now) n (sym c.in_err-at.ensures) in
    rw (p.1, p.2) (refused_as (decided (goal.at.returns-in_err-at c).Start) _ n (panel_refuses args.lengths.now args.entries.now args.addresses.now args.times.now args.address (range (goal.at.returns-in_err-at c).Start) n first))

pub try_panel-requires : goal.try_panel-requires
try_panel-requires c = λ long. (c.requires long).room_addresses

-- past 8, 14 and 12

found : (c : In_ok-at) → Found c.args.lengths.now c.args.entries.now c.args.addresses.now c.args.address c.in_ok-at.at
found c = found_where c.args.lengths.now c.args.entries.now c.args.addresses.now c.args.address c.in_ok-at.at c.in_ok-at.ensures

pub total_of-total-requires : goal.total_of-total-requires
total_of-total-requires c = (found (goal.at.total_of-total-requires c).In_ok-at).good.few

pub common_of-common-requires : goal.common_of-common-requires
common_of-common-requires c = (found (goal.at.common_of-common-requires c).In_ok-at).good.few

-- the places held are among those of a list that has room

room : (c : In_ok-at) → RoomFor c.args.addresses.now c.args.times.now
room c = (goal.at.In_ok-at c).Start.requires (found c).long

long : (c : After-total_of-total) (xs : List ℕ) → 4096 ≤ length xs → length (take c.total_of-total.result xs) ≡ c.total_of-total.result
long c xs room =
    let most = total-room c.args.entries.now _ (found (goal.at.After-total_of-total c).In_ok-at).good in
    let total = c.total_of-total.ensures in
    length-take-le _ xs (omega (arith, room, most, total))

pub slice_bounds-least_time-end : goal.slice_bounds-least_time-end
slice_bounds-least_time-end c = sym (long (goal.at.slice_bounds-least_time-end c).After-total_of-total c.args.addresses.now (room (goal.at.slice_bounds-least_time-end c).In_ok-at).room_addresses)

pub slice_bounds-least_time-end-2 : goal.slice_bounds-least_time-end-2
slice_bounds-least_time-end-2 c = sym (long (goal.at.slice_bounds-least_time-end-2 c).After-total_of-total c.args.times.now (room (goal.at.slice_bounds-least_time-end-2 c).In_ok-at).room_times)

pub least_time-least-requires : goal.least_time-least-requires
least_time-least-requires c = let at = (goal.at.least_time-least-requires c).After-total_of-total in long at c.args.times.now (room (goal.at.least_time-least-requires c).In_ok-at).room_times ∙ sym (long at c.args.addresses.now (room (goal.at.least_time-least-requires c).In_ok-at).room_addresses)

-- the range's own rows, as `try_range` told

told : (c : After-try_range) → let es = c.args.entries.now in answered c.try_range.result ≡ firstRow (range_rows (time_before (least_from c.args.address 0 (take (total_held es) c.args.addresses.now) (take (total_held es) c.args.times.now))) (range (goal.at.After-try_range c).Start))
told c =
    let args = c.args in
    let start = (goal.at.After-try_range c).Start in
    c.try_range.ensures ∙ ap₂ (λ l x. firstRow (range_rows (time_before l) x)) (c.least_time-least.ensures ∙ ap (λ n. least_from args.address 0 (take n args.addresses.now) (take n args.times.now)) c.total_of-total.ensures) (read_back (range start) c.ranges.low c.ranges.high)

pub returns-in_err-try_range : goal.returns-in_err-try_range
returns-in_err-try_range c =
    let args = c.args in
    let p = err_from_is_err_and c.from_residual-in_err-try_range.result c.from_residual-in_err-try_range.ensures.1 in
    let n = refusal_number c.in_err-try_range.field-0.0 in
    let start = (goal.at.returns-in_err-try_range c).Start in
    let own = sym (told (goal.at.returns-in_err-try_range c).After-try_range) ∙ ap answered c.in_err-try_range.was in
    rw (p.1, p.2) (refused_as (decided start) _ n (range_refuses args.lengths.now args.entries.now args.addresses.now args.times.now args.address (range start) (found (goal.at.returns-in_err-try_range c).In_ok-at).passed n own))

-- the entry's place is one of the entries

inside : (c : In_ok-at) → c.in_ok-at.at < length c.args.entries.now
inside c = let f = found c in let l = place_inside c.args.address c.args.entries.now f.is_known in let e = f.at_is in omega (arith, l, e)

pub offset_bounds-entries-at : goal.offset_bounds-entries-at
offset_bounds-entries-at c = let at = (goal.at.offset_bounds-entries-at c).In_ok-at in let l = inside at in let few = (found at).good.few in omega (arith, l, few)

pub bounds-entries-at : goal.bounds-entries-at
bounds-entries-at c = inside (goal.at.bounds-entries-at c).In_ok-at

pub overflow_add-result : goal.overflow_add-result
overflow_add-result c =
    let at = (goal.at.overflow_add-result c).In_ok-at in
    let part = above_part c.args.entries.now c.in_ok-at.at in
    let left = (found at).good.common_left in
    omega (arith, part, left)

-- 13

crowd : (c : After-common_of-common) → crowded c.args.address c.args.entries.now ≡ leb 32 (get_or c.args.entries.now c.in_ok-at.at no_entry).held && leb 2048 c.common_of-common.result
crowd c = crowd_is c.args.address c.args.entries.now c.in_ok-at.at c.common_of-common.result (found (goal.at.After-common_of-common c).In_ok-at).at_is c.common_of-common.ensures

own : (c : After-common_of-common) → let es = c.args.entries.now in firstRow (range_rows (time_before (least_from c.args.address 0 (take (total_held es) c.args.addresses.now) (take (total_held es) c.args.times.now))) (range (goal.at.After-common_of-common c).Start)) ≡ accepted tt
own c = sym (told (goal.at.After-common_of-common c).After-try_range) ∙ ap answered c.in_ok-try_range.was

pub returns-then-common-ge-COMMON_PLACES : goal.returns-then-common-ge-COMMON_PLACES
returns-then-common-ge-COMMON_PLACES c =
    let args = c.args in
    let start = (goal.at.returns-then-common-ge-COMMON_PLACES c).Start in
    let d = (goal.at.returns-then-common-ge-COMMON_PLACES c).After-common_of-common in
    let full = crowd d ∙ ap₂ (λ s t. s && t) (le-leb 32 _ c.if-held-ge-SURE_PLACES.true) (le-leb 2048 _ c.if-common-ge-COMMON_PLACES.true) in
    refused_as (decided start) _ 13 (crowd_refuses args.lengths.now args.entries.now args.addresses.now args.times.now args.address (range start) (found (goal.at.returns-then-common-ge-COMMON_PLACES c).In_ok-at).passed (own d) full)

decision-is : (a at place : ℕ) (es : List Entry) → at ≡ place_of a es → place ≡ total_held es → ◌≡◌ {A = Decision} (record { at = at; held = (get_or es at no_entry).held + 1; place = place }) (decision_of es a)
decision-is a at place es e f = rw (e, ← held_there a es, f) refl

pub returns : goal.returns
returns c =
    let args = c.args in
    let start = (goal.at.returns c).Start in
    let d = (goal.at.returns c).After-common_of-common in
    let f = found (goal.at.returns c).In_ok-at in
    let not-crowded : crowded args.address args.entries.now ≡ false = crowd d ∙ ⊎_elim
    (λ w. ap (λ t. leb 32 (get_or args.entries.now c.in_ok-at.at no_entry).held && t) (lt-leb 2048 _ w.1) ∙ and-false _)
    (λ w. ap (λ s. s && leb 2048 c.common_of-common.result) (lt-leb 32 _ w))
    c.else-held-ge-SURE_PLACES.either in
    accepted_as (decided start) (decision_of args.entries.now args.address) _ (lets_in args.lengths.now args.entries.now args.addresses.now args.times.now args.address (range start) f.passed (own d) not-crowded) (decision-is args.address c.in_ok-at.at c.total_of-total.result args.entries.now f.at_is c.total_of-total.ensures)
