-- `arithmetic_examples::is_level` meets its contract: that the field fits is what owning the struct tells, which `search rules` finds. Assumes nothing.
use native.Mathlib.Omega.{arith}
use mir.Syntax.{w64}
use mir.Val.{SFits}
use borrow.Author.Rules.{rules}
use Rattle.integers.specs.Solve.{no_facts}
use Rattle.integers.specs.Machine.{◌▸◌, end, machine_linear!, tests}
use Rattle.arithmetic_examples.proofs.is_level.Goals as goal

pub returns : goal.returns
returns c =
    let f : SFits w64 c.args.l.p = search rules in
    machine_linear! (f ▸ end) no_facts (search tests depth 30) tt (omega arith)
