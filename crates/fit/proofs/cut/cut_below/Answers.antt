-- `fit::cut::cut_below` meets its contract. Assumes nothing.
use Rattle.fit.specs.Cuts.{below-cut}
use Rattle.fit.proofs.cut.cut_below.Goals as goal

pub returns : goal.returns
returns c = below-cut c.mirrored-m.ensures c.cut_above-r.ensures c.mirrored.ensures
