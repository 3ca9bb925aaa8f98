-- `fit::cut::cut_to_point` meets its contract. Assumes nothing.
use Rattle.fit.specs.ChainsOfEnds.{put_is}
use Rattle.fit.specs.Cuts.{trimmed-seen}
use Rattle.fit.specs.Joins.{point_slow, point_cut, point_fast, point_none}
use Rattle.fit.proofs.cut.cut_to_point.Goals as goal

pub returns-then-reaches : goal.returns-then-reaches
returns-then-reaches c = point_slow c.requires.0 c.seen-n.ensures c.reaches.ensures c.if-reaches.true c.alone.ensures

pub returns-then-above : goal.returns-then-above
returns-then-above c =
    let A = c.args in
    point_cut c.requires.0 c.seen-n.ensures c.reaches.ensures c.if-reaches.false c.above.ensures c.if-above.true c.requires.1 (trimmed-seen c.seen-n.ensures c.trim-t.ensures) c.first_entries.ensures (put_is A.up.now 0 A.e) (put_is A.down.now 0 A.e)

pub returns-then-reaches-2 : goal.returns-then-reaches-2
returns-then-reaches-2 c = point_fast c.requires.0 c.seen-n.ensures c.reaches.ensures c.if-reaches.false c.above.ensures c.reaches-2.ensures c.if-above.false c.if-reaches-2.true c.alone-then-reaches-2.ensures

pub returns : goal.returns
returns c = point_none c.requires.0 c.seen-n.ensures c.reaches.ensures c.if-reaches.false c.above.ensures c.reaches-2.ensures c.if-reaches-2.false
