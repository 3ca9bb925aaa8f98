-- `round_trip::read_then_write` meets its contract: that the file is of bytes is what owning it tells.
-- Assumes nothing.
use Rattle.std.proofs.Common.{sym, rules, w32}
use Rattle.std.proofs.lemmas.Result.{err_from_is_err_and}
use lib.Seq.{length-take-le}
use mir.Facts.{to_z-of_z}
use mir.Val.{SFits}
use Rattle.trace_laws.specs.Numbers.{below_each}
use Rattle.trace.specs.BothWays.{read_in}
use Rattle.round_trip.specs.PromiseLaws.{promise-not_read}
use Rattle.round_trip.proofs.PromiseLaws.{promise_read}
use Rattle.round_trip.proofs.read_then_write.Goals as goal

-- ---- the goals

pub returns-in_err-known : goal.returns-in_err-known
returns-in_err-known c =
    let p = err_from_is_err_and c.from_residual.result c.from_residual.ensures.1 in
    rw (p.1, p.2) (promise-not_read c.args.copy.now c.in_err-known.ensures)

pub slice_bounds-write-end : goal.slice_bounds-write-end
slice_bounds-write-end c = (read_in c.in_ok-known.ensures).times_in

pub slice_bounds-write-end-2 : goal.slice_bounds-write-end-2
slice_bounds-write-end-2 c = sym (length-take-le c.in_ok-known.known.ranges c.read.new.times (read_in c.in_ok-known.ensures).times_in)

pub slice_bounds-write-end-3 : goal.slice_bounds-write-end-3
slice_bounds-write-end-3 c = (read_in c.in_ok-known.ensures).lows_in

pub slice_bounds-write-end-4 : goal.slice_bounds-write-end-4
slice_bounds-write-end-4 c = sym (length-take-le c.in_ok-known.known.ranges c.read.new.lows (read_in c.in_ok-known.ensures).lows_in)

pub slice_bounds-write-end-5 : goal.slice_bounds-write-end-5
slice_bounds-write-end-5 c = (read_in c.in_ok-known.ensures).highs_in

pub slice_bounds-write-end-6 : goal.slice_bounds-write-end-6
slice_bounds-write-end-6 c = sym (length-take-le c.in_ok-known.known.ranges c.read.new.highs (read_in c.in_ok-known.ensures).highs_in)

pub returns : goal.returns
returns c =
    let level-fits : SFits w32 c.in_ok-known.known.level = search rules in
    promise_read c.in_ok-known.ensures (below_each 256 c.args.file.now λ i. (c.type_inv.file i).fits) (rw (to_z-of_z level-fits) at c.write.ensures)
