-- `fit::run::closes` meets its contract. Assumes nothing.
use mathlib.Core.Path.{sym, subst}
use Rattle.fit.specs.RangesByValue.{range_of}
use Rattle.fit.specs.RunsFrom.{Closing, closes_above, closes_else}
use Rattle.fit.proofs.run.closes.Goals as goal

pub returns-then-above : goal.returns-then-above
returns-then-above c =
    let A = c.args in
    subst (Closing A.slow A.fast (range_of A.r)) (sym c.if-above.true) (closes_above A.slow A.fast A.r c.high_end.ensures c.low_end.ensures c.seen-high.ensures c.seen-low.ensures c.above.ensures c.if-above.true)

pub returns-else-above : goal.returns-else-above
returns-else-above c = let A = c.args in closes_else A.slow A.fast A.r c.high_end.ensures c.low_end.ensures c.seen-high.ensures c.seen-low.ensures c.above.ensures c.if-above.false c.reaches.result c.reaches.ensures
