-- `fit::run::run_on` meets its contract: where it goes on from is known by which of the two it was. Assumes nothing.
use mathlib.Core.Path.{◌≡◌}
use Prim.Native.Nat.{◌-◌, ◌≤◌}
use Rattle.std.proofs.Common.{None}
use Rattle.drift_laws.specs.RangeEnds.{lent}
use Rattle.fit.specs.ChainsOfEnds.{chain_of, room_of}
use Rattle.fit.specs.RunsOn.{Opened, some_none, opened-begun, opened-running, go_ready, on_single, on_gone, same_room}
use Rattle.fit.proofs.run.run_on.Goals.{Joined-before, in-Some, in-None+else-n-from-lt2}
use Rattle.fit.proofs.run.run_on.Goals as goal

two-ranges : (c : Joined-before) → c.args.before ≡ None → 2 ≤ c.args.n - c.args.from
two-ranges c f =
    elim c.match-before.branch [
      | in-Some w ↦ some_none w.in-Some.is f
      | in-None+else-n-from-lt2 w ↦ w.if-n-from-lt2.false
    ]

opened : (c : Joined-before) → Opened (lent c.args.times.now c.args.highs.now c.args.lows.now) (chain_of c.args.up.now) (chain_of c.args.down.now) c.args.before c.args.from (chain_of c.match-before.up) (chain_of c.match-before.down) (record { end = c.match-before.next.1; polygon = c.match-before.next.0 })
opened c =
    elim c.match-before.branch [
      | in-Some w ↦ rw (w.up-is, w.down-is, w.next-is) (opened-begun w.in-Some.polygon w.in-Some.is)
      | in-None+else-n-from-lt2 w ↦ rw (w.up-is, w.down-is, w.next-is) (opened-running c.args.from w.in-None.is w.first_two.ensures)
    ]

pub returns-then-n-from-lt2 : goal.returns-then-n-from-lt2
returns-then-n-from-lt2 c = on_single c.requires c.in-None.is c.if-n-from-lt2.true

pub go_on-gone-requires : goal.go_on-gone-requires
go_on-gone-requires c =
    let P = c.requires in
    let m = (goal.at.go_on-gone-requires c).Joined-before in
    let g = go_ready P (two-ranges m) (opened m) (same_room _ _ c.match-before.auto.up) (same_room _ _ c.match-before.auto.down) in
    (P.accepted, g.within, P.upto, g.shape, room_of _ g.up_room, room_of _ g.down_room)

pub returns : goal.returns
returns c = let m = (goal.at.returns c).Joined-before in on_gone c.requires (two-ranges m) (opened m) c.go_on-gone.ensures
