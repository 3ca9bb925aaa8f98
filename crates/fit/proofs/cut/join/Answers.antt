-- `fit::cut::join` meets its contract. Assumes nothing.
use Rattle.fit.specs.Joins.{join_cuts, join_point}
use Rattle.fit.proofs.cut.join.Goals as goal

pub returns-then-has_width : goal.returns-then-has_width
returns-then-has_width c = join_cuts c.has_width.ensures c.if-has_width.true c.high_end-high.ensures c.low_end-low.ensures c.cut_above-y.ensures c.cut_below.ensures

pub returns : goal.returns
returns c = join_point c.has_width.ensures c.if-has_width.false c.requires.3 c.high_end-high.ensures c.cut_to_point.ensures
