-- `arithmetic_examples::rises` meets its contract: the field p of the line that came back is v − u. Assumes nothing.
use mathlib.Core.Path.{ap}
use native.Mathlib.Omega.{arith}
use mir.Syntax.{w64}
use mir.Val.{SFits}
use borrow.Author.Rules.{rules}
use Rattle.integers.specs.Machine.{◌▸◌, ◌▹◌, end, machine_linear!, tests}
use Rattle.arithmetic_examples.proofs.rises.Goals as goal

pub returns : goal.returns
returns c =
    let s = c.requires in
    let f : SFits w64 c.through-l.result.p = search rules in
    machine_linear! (f ▸ s.first_value ▹ s.second_value ▹ end) (ap (λ l. l.p) c.through-l.ensures) (search tests depth 40) tt (omega arith)
