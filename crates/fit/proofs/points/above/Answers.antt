-- `fit::points::above` meets its contract. Assumes nothing.
use lib.IntN.{pos}
use lib.Signed.{lt_z}
use Rattle.fit.specs.LinesOfEnds.{height-test}
use Rattle.fit.proofs.points.above.Goals as goal

pub returns : goal.returns
returns c = height-test (lt_z (pos 0)) c.args.l c.args.a c.height-g.result c.height-g.ensures c.height-g.type_inv
