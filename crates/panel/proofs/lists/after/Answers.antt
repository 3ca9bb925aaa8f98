-- Proof of `panel::lists::after`. Assumes nothing.
use native.Mathlib.Numerals.{add-one}
use mathlib.Core.Path.{refl}
use Rattle.definitions.specs.Panels.{counted_in}
use Rattle.panel.proofs.lists.after.Goals as goal

pub returns-then-take : goal.returns-then-take
unfolding counted_in
returns-then-take c = rw c.if-take.true (add-one c.args.at)

pub returns-else-take : goal.returns-else-take
unfolding counted_in
returns-else-take c = rw c.if-take.false refl
