-- `values::lowest_terms::reduced` meets its contract: what it divides by is the common divisor of p, q and d, which is above 0 and at most d. Assumes nothing.
use Rattle.integers.specs.Bounds.{fits}
use Rattle.values.specs.Small.{Small}
use Rattle.values.specs.Reducing.{DivisorOf, divisor_of, divisor_in, divided_fits, reduced_by}
use Rattle.values.proofs.lowest_terms.reduced.Goals.{After-gcd-divisor}
use Rattle.values.proofs.lowest_terms.reduced.Goals as goal

-- the line that is passed is small, and what is divided by is its divisor

small : (c : After-gcd-divisor) → Small c.args.l
small c = c.requires

divisor : (c : After-gcd-divisor) → DivisorOf c.args.l c.gcd-divisor.result
divisor c = divisor_of (small c) c.unsigned_abs.ensures.value c.unsigned_abs-2.ensures.value c.gcd.ensures c.unsigned_abs-3.ensures.value c.gcd-divisor.ensures

pub overflow_cast-g : goal.overflow_cast-g
overflow_cast-g c = fits (divisor_in (small c) (divisor c)) tt

pub nonzero_div-result : goal.nonzero_div-result
nonzero_div-result c = let a = (goal.at.nonzero_div-result c).After-gcd-divisor in divided_fits (small a) (divisor a) (small a).bounds.p_in tt

pub nonzero_div-result-2 : goal.nonzero_div-result-2
nonzero_div-result-2 c = let a = (goal.at.nonzero_div-result-2 c).After-gcd-divisor in divided_fits (small a) (divisor a) (small a).bounds.q_in tt

pub nonzero_div-result-3 : goal.nonzero_div-result-3
nonzero_div-result-3 c = let a = (goal.at.nonzero_div-result-3 c).After-gcd-divisor in divided_fits (small a) (divisor a) (small a).bounds.d_in tt

pub returns : goal.returns
returns c = let a = (goal.at.returns c).After-gcd-divisor in reduced_by (small a) (divisor a)
