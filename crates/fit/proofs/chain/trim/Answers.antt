-- `fit::chain::trim` meets its contract. Assumes nothing.
use Rattle.fit.specs.Polygons.{trimmed_of}
use Rattle.fit.proofs.chain.trim.Goals as goal

pub returns : goal.returns
returns c = trimmed_of c.pop_end-end.ensures c.drop_head-start.ensures c.point_at-last.ensures c.point_at-first.ensures c.through-slow.ensures c.through-fast.ensures
