-- `text::digit_count` meets its contract. The loop's invariant: what is counted and the digits of the rest are one more than the digits of n. The measure is the rest, as a tenth of it is less.
-- Assumes nothing.
use native.Mathlib.Omega.{arith}
use Rattle.text.specs.DecimalLaws.{decimal-long, length-small, length_more}
use Rattle.text.proofs.digit_count.Goals.{At-loop-rest}
use Rattle.text.proofs.digit_count.Goals as goal

pub overflow_add-count : goal.overflow_add-count
overflow_add-count c =
    let few = decimal-long 19 c.args.n (omega (arith, c.ranges.n)) in
    omega (arith, few, c.loop-rest.invariant)

pub loop-rest-preserved : goal.loop-rest-preserved
loop-rest-preserved c = omega (arith, c.loop-rest.invariant, length_more c.loop-rest.rest (omega (arith, c.loop-rest-test.true)))

pub returns : goal.returns
returns c = omega (arith, c.loop-rest.invariant, length-small c.loop-rest.rest c.loop-rest-test.false)
