-- Each turn has a byte or more, or is one of the interruptions; the measure is what is left of both. Assumes nothing.
use Rattle.std.proofs.Common.{◌≡◌, ◌+◌, ◌-◌, ◌≤◌, length}
use Rattle.report.proofs.input.read_input.Given as goal

abbrev pub invariant-loop-size : goal.invariant-loop-size
invariant-loop-size g l = (length l.buffer ≡ length l.initial.buffer) × (l.size ≤ length l.buffer) × (l.interruptions ≤ 4096)

abbrev pub decreases-loop-size : goal.decreases-loop-size
decreases-loop-size g l = (length l.buffer - l.size) + (4096 - l.interruptions)
