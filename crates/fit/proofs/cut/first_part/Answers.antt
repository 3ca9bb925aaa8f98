-- `fit::cut::first_part` meets its contract, by the two tests. Assumes nothing.
use mathlib.Core.Path.{refl, sym, ◌∙◌}
use Rattle.fit.specs.Joins.{first_part}
use Rattle.fit.proofs.cut.first_part.Goals as goal

pub has_width-requires : goal.has_width-requires
has_width-requires c = tt

pub has_width-requires-then-has_width : goal.has_width-requires-then-has_width
has_width-requires-then-has_width c = tt

pub returns-then-has_width-2 : goal.returns-then-has_width-2
unfolding first_part
returns-then-has_width-2 c = rw (sym c.has_width.ensures ∙ c.if-has_width.true, sym c.has_width-then-has_width.ensures ∙ c.if-has_width-2.true) refl

pub returns-then-has_width : goal.returns-then-has_width
unfolding first_part
returns-then-has_width c = rw (sym c.has_width.ensures ∙ c.if-has_width.true, sym c.has_width-then-has_width.ensures ∙ c.if-has_width-2.false) refl

pub returns : goal.returns
unfolding first_part
returns c = rw (sym c.has_width.ensures ∙ c.if-has_width.false) refl
