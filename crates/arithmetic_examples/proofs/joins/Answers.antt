-- `arithmetic_examples::joins` meets its contract: the line through two points is small, and the callees' contracts chain. Assumes nothing.
use mathlib.Core.Path.{◌∙◌, ap, subst⁻¹}
use native.Mathlib.Omega.{arith}
use mir.Syntax.{w64}
use borrow.Author.Rules.{rules}
use Rattle.integers.specs.Solve.{no_facts}
use Rattle.integers.specs.Machine.{read, machine_polynomial!, tests}
use Rattle.arithmetic_examples.specs.Points.{Small, fits_range}
use Rattle.arithmetic_examples.proofs.Bounded.{points_and_range, small-through}
use Rattle.arithmetic_examples.proofs.joins.Goals as goal

pub through-l-requires : goal.through-l-requires
through-l-requires c = search rules

pub fits_range-requires : goal.fits_range-requires
fits_range-requires c =
    let s : Small c.through-l.result = subst⁻¹ Small c.through-l.ensures (small-through (through-l-requires c.before)) in
    search rules

pub returns : goal.returns
returns c =
    c.fits_range.ensures ∙ ap (λ l. fits_range l (read w64 c.args.t) (read w64 c.args.low) (read w64 c.args.high)) c.through-l.ensures
    ∙ machine_polynomial! (points_and_range c.requires) no_facts (search tests depth 60) tt (omega arith)
