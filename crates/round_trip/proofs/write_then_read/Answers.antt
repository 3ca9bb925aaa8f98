-- `round_trip::write_then_read` meets its contract: that each time has 32 bits is what owning the times tells.
-- Assumes nothing.
use Rattle.std.proofs.Common.{sym, subst, w32, ℕ}
use Rattle.std.specs.Prelude.{Result}
use Rattle.std.proofs.lemmas.Result.{err_from_is_err_and}
use lib.Seq.{length-take-le}
use mir.Facts.{to_z-of_z}
use Rattle.trace_laws.specs.Numbers.{below_each}
use Rattle.definitions.specs.declared.refusals.Refusal.{Refusal}
use Rattle.trace.specs.Promises.{WritePromise}
use Rattle.trace.specs.BothWays.{written_in}
use Rattle.round_trip.specs.PromiseLaws.{promise-not_written, promise_written}
use Rattle.round_trip.proofs.write_then_read.Goals.{After-write}
use Rattle.round_trip.proofs.write_then_read.Goals as goal

-- ---- what Write promised, of the level itself

abbrev Promise : After-write → Result ℕ Refusal → Type 0
Promise c w =
    let a = c.args in
    WritePromise (record { address = a.address; service = record { level = a.level; direction = a.direction; step = a.step } }) (record { times = a.times.now; lows = a.lows.now; highs = a.highs.now }) a.file.now c.write.new.file w

promised : (c : After-write) → Promise c c.write.result
promised c = rw (to_z-of_z {w = w32} c.ranges.level) at c.write.ensures

-- ---- the goals

pub returns-in_err-n : goal.returns-in_err-n
returns-in_err-n c =
    let w = (goal.at.returns-in_err-n c).After-write in
    let p = err_from_is_err_and c.from_residual.result c.from_residual.ensures.1 in
    rw (p.1, p.2) (promise-not_written c.args.times_back.now c.args.lows_back.now c.args.highs_back.now (subst (Promise w) c.in_err-n.was (promised w)))

pub slice_bounds-read-end : goal.slice_bounds-read-end
slice_bounds-read-end c =
    let w = (goal.at.slice_bounds-read-end c).After-write in
    written_in (subst (Promise w) c.in_ok-n.was (promised w))

pub slice_bounds-read-end-2 : goal.slice_bounds-read-end-2
slice_bounds-read-end-2 c =
    let w = (goal.at.slice_bounds-read-end-2 c).After-write in
    sym (length-take-le c.in_ok-n.n c.write.new.file (written_in (subst (Promise w) c.in_ok-n.was (promised w))))

pub returns : goal.returns
returns c =
    let w = (goal.at.returns c).After-write in
    promise_written (subst (Promise w) c.in_ok-n.was (promised w)) (below_each 4294967296 c.args.times.now λ i. (c.type_inv.times i).fits) c.read.ensures
