-- Proof of `panel_trial::decisions::try_panel`. Assumes nothing.
use Rattle.std.proofs.Common.{◌≡◌, refl, sym, subst}
use Rattle.std.specs.Prelude.{false, ◌++◌}
use Rattle.std.proofs.lemmas.Result.{err_from_is_err_and}
use Rattle.definitions.specs.Spans.{panel_room}
use Rattle.definitions.specs.Answers.{firstRow, ◌>>=◌}
use Rattle.definitions.specs.Refusals.{refusal_number}
use Rattle.definitions.specs.Trial.{too_short}
use Rattle.trial_laws.specs.Rows.{first_row-accepted}
use Rattle.panel_laws.specs.PanelRows.{good-panel}
use Rattle.panel_trial.specs.Decisions.{Tried, room_rows, first_rows}
use Rattle.panel_trial.specs.DecisionLaws.{stops, refused_as, tried_where}
use Rattle.panel_trial.proofs.decisions.try_panel.Goals.{In_ok-try_room}
use Rattle.panel_trial.proofs.decisions.try_panel.Goals as goal

pub returns-in_err-try_room : goal.returns-in_err-try_room
returns-in_err-try_room c =
    let args = c.args in
    let p = err_from_is_err_and c.from_residual.result c.from_residual.ensures.1 in
    let n = refusal_number c.in_err-try_room.field-0.0 in
    let rows = first_rows args.entries.now args.addresses.now args.address in
    rw (p.1, p.2) (refused_as (firstRow (room_rows args.lengths.now ++ rows)) _ n (stops (room_rows args.lengths.now) rows n (sym c.in_err-try_room.ensures)))

-- past 8

long : (c : In_ok-try_room) → too_short panel_room c.args.lengths.now ≡ false
long c = ((first_row-accepted (room_rows c.args.lengths.now)).0 (sym c.in_ok-try_room.ensures)).0

pub panel_bad-requires : goal.panel_bad-requires
panel_bad-requires c = c.requires (long (goal.at.panel_bad-requires c).In_ok-try_room)

pub returns-then-panel_bad : goal.returns-then-panel_bad
unfolding firstRow ◌>>=◌
returns-then-panel_bad c = rw (long (goal.at.returns-then-panel_bad c).In_ok-try_room, sym c.if-panel_bad.ensures) refl

pub head_place-requires : goal.head_place-requires
head_place-requires c = (good-panel c.args.entries.now _ (sym c.if-panel_bad.ensures)).few

pub returns : goal.returns
returns c =
    let tried = tried_where c.args.lengths.now c.args.entries.now c.args.addresses.now c.args.address c.head_place.result (long (goal.at.returns c).In_ok-try_room) c.head_place.ensures (sym c.if-panel_bad.ensures) in
    subst (Tried c.args.lengths.now c.args.entries.now c.args.addresses.now c.args.address) (sym c.ok_or.ensures.value) tried
