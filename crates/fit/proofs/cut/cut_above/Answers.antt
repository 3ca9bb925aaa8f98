-- `fit::cut::cut_above` meets its contract. Assumes nothing.
use Rattle.fit.specs.Cuts.{above-none, above_one, above_cut}
use Rattle.fit.proofs.cut.cut_above.Goals as goal

pub returns-then-reaches : goal.returns-then-reaches
returns-then-reaches c = above_one c.requires.0 c.seen-n.ensures c.above.ensures c.reaches.ensures c.if-above.true c.if-reaches.true c.alone.ensures

pub returns-then-above : goal.returns-then-above
returns-then-above c = above_cut c.requires.0 c.seen-n.ensures c.above.ensures c.reaches.ensures c.if-above.true c.if-reaches.false c.cut.ensures

pub returns : goal.returns
returns c = above-none c.requires.0 c.seen-n.ensures c.above.ensures c.if-above.false
