-- `fit::cut::joining` meets its contract. Assumes nothing.
use Rattle.fit.specs.Joins.{line-joining}
use Rattle.fit.proofs.cut.joining.Goals as goal

pub seen-n-requires : goal.seen-n-requires
seen-n-requires c = c.requires.0

pub seen-m-requires : goal.seen-m-requires
seen-m-requires c = c.requires.1

pub through-requires : goal.through-requires
through-requires c = (c.seen-n.ensures.proper, c.seen-m.ensures.proper)

pub returns : goal.returns
returns c = line-joining c.seen-n.ensures c.seen-m.ensures c.through.ensures
