-- `fit::points::reaches` meets its contract. Assumes nothing.
use lib.IntN.{pos}
use lib.Signed.{le_z}
use Rattle.fit.specs.LinesOfEnds.{height-test}
use Rattle.fit.proofs.points.reaches.Goals as goal

pub returns : goal.returns
returns c = height-test (le_z (pos 0)) c.args.l c.args.a c.height-g.result c.height-g.ensures c.height-g.type_inv
