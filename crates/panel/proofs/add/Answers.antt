-- Proof of `panel::add`: the rows of Add are tried in their order; what is accepted is put at the next place, and its head's entry holds one more. Assumes nothing.
use Rattle.std.proofs.Common.{ℕ, ◌≡◌, ◌++◌, refl, sym, ap, subst, ◌∙◌}
use Rattle.std.specs.Prelude.{Result}
use Rattle.std.proofs.lemmas.Result.{err_from_is_err_and}
use Rattle.definitions.specs.Answers.{Answer, accepted, refused, firstRow, ◌>>=◌}
use Rattle.definitions.specs.Panels.{Places, Panel}
use Rattle.definitions.specs.PanelCalls.{room_of}
use Rattle.definitions.specs.Ranges.{Range}
use Rattle.definitions.specs.Refusals.{refusal_number}
use Rattle.definitions.specs.declared.refusals.Refusal.{Refusal}
use Rattle.panel_laws.specs.Entries.{with_held}
use Rattle.panel_laws.specs.PanelRows.{try_add, roomy}
use Rattle.panel_trial.specs.Decisions.{room_rows, first_rows, later_rows, decision_of}
use Rattle.panel_trial.specs.PassedRanges.{passed_on, read_back}
use Rattle.panel_trial.specs.declared.decisions.Decision.{Decision}
use Rattle.panel.specs.Promises.{add_meaning, AddPromise}
use Rattle.panel.specs.Admissions.{Within, Put}
use Rattle.panel.specs.AdmissionLaws.{decided_refuses, decided_accepts, room-left, not-added, was-added}
use Rattle.panel.proofs.add.Goals.{Start, After-put_range}
use Rattle.panel.proofs.add.Goals as goal

abbrev range : Start → Range
range c = record { time = c.args.time; low = c.args.low; high = c.args.high }

abbrev lent : Start → Places
lent c = record { addresses = c.args.addresses.now; times = c.args.times.now; lows = c.args.lows.now; highs = c.args.highs.now }

abbrev before : Start → Panel
before c = record { entries = c.args.entries.now; places = lent c }

-- the rows that `decide` tries, of a range as it reads it, which is the range

read : (c : Start) → passed_on (range c) ≡ range c
read c = read_back (range c) c.ranges.low c.ranges.high

abbrev tried : Start → Answer Decision
tried c = firstRow ((room_rows (room_of (lent c)) ++ first_rows c.args.entries.now c.args.addresses.now c.args.address) ++ later_rows c.args.entries.now c.args.addresses.now c.args.times.now c.args.address (passed_on (range c))) >>= λ ok. accepted (decision_of c.args.entries.now c.args.address)

turned_down : (c : Start) (answer : Result Unit Refusal) (n : ℕ) → add_meaning answer ≡ refused n → ◌≡◌ {A = Answer Decision} (refused n) (tried c) → AddPromise (before c) c.args.address (range c) answer (before c)
turned_down c answer n means told = not-added (before c) c.args.address (range c) answer n means (subst (λ x. try_add (before c) c.args.address x ≡ refused n) (read c) (decided_refuses c.args.entries.now (lent c) c.args.address (passed_on (range c)) n told))

let_in : (c : Start) (d : Decision) → accepted d ≡ tried c → (try_add (before c) c.args.address (range c) ≡ accepted tt) × (d ≡ decision_of c.args.entries.now c.args.address)
let_in c d told =
    let h = decided_accepts c.args.entries.now (lent c) c.args.address (passed_on (range c)) d told in
    (subst (λ x. try_add (before c) c.args.address x ≡ accepted tt) (read c) h.0, h.1)

pub decide-requires : goal.decide-requires
unfolding room_of
decide-requires c = λ long. let room = roomy (lent (goal.at.decide-requires c).Start) long in record { room_addresses = room.room_addresses; room_times = room.room_times }

pub returns-in_err-decision : goal.returns-in_err-decision
unfolding room_of
returns-in_err-decision c =
    let p = err_from_is_err_and c.from_residual.result c.from_residual.ensures.1 in
    turned_down (goal.at.returns-in_err-decision c).Start c.from_residual.result (refusal_number c.in_err-decision.field-0.0) (rw (p.1, p.2) refl) c.in_err-decision.ensures

-- where nothing turns the range down it has a place in each list:
-- of a panel that takes one range more, 4,095 places are held at most,
-- and each list has 4,096

pub put_range-requires : goal.put_range-requires
unfolding room_of
put_range-requires c =
    let start = (goal.at.put_range-requires c).Start in
    let told = let_in (goal.at.put_range-requires c).Start c.in_ok-decision.decision c.in_ok-decision.ensures in
    let place = subst (λ (d : Decision). Within d.place (lent start)) (sym told.1) (room-left c.args.entries.now (lent start) c.args.address (range start) told.0) in
    record { in_addresses = place.in_addresses; in_times = place.in_times; in_lows = place.in_lows; in_highs = place.in_highs }

-- the lists as they are left

abbrev left : After-put_range → Places
left c = let new = c.put_range.new in record { addresses = new.addresses; times = new.times; lows = new.lows; highs = new.highs }

pub returns : goal.returns
unfolding room_of
returns c =
    let start = (goal.at.returns c).Start in
    let new = left (goal.at.returns c).After-put_range in
    let told = let_in (goal.at.returns c).Start c.in_ok-decision.decision c.in_ok-decision.ensures in
    let put = subst (λ x. Put c.in_ok-decision.decision.place c.args.address x (lent start) new) (read start) c.put_range.ensures in
    was-added c.args.entries.now _ (lent start) new c.args.address (range start) told.0 (subst (λ (d : Decision). Put d.place c.args.address (range start) (lent start) new) told.1 put) (c.set_held.ensures ∙ ap (λ (d : Decision). with_held d.at d.held c.args.entries.now) told.1)
