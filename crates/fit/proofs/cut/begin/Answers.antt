-- `fit::cut::begin` meets its contract: slow goes from the first high to the second low, fast from low to high, and both ranges are stored. Assumes nothing.
use mathlib.Core.Path.{ap, ◌∙◌}
use Rattle.fit.specs.ChainsOfEnds.{chain_of, long_of, put_is}
use Rattle.fit.specs.RangesByValue.{put_end}
use Rattle.fit.specs.Joins.{joining-ends, started_by}
use Rattle.fit.proofs.cut.begin.Goals as goal

pub returns : goal.returns
returns c =
    let P = c.requires in
    let up = c.args.up.now in
    let down = c.args.down.now in
    let slow = joining-ends c.joining-slow.ensures c.high_end.ensures c.low_end.ensures in
    let fast = joining-ends c.joining-fast.ensures c.low_end-2.ensures c.high_end-2.ensures in
    started_by P.2 P.3 (long_of up P.0) (long_of down P.1) slow fast
    (put_is up 0 c.high_end-3.result ∙ ap (put_end (chain_of up) 0) c.high_end-3.ensures)
    (put_is down 0 c.low_end-3.result ∙ ap (put_end (chain_of down) 0) c.low_end-3.ensures)
    (put_is _ 1 c.high_end-4.result ∙ ap (put_end _ 1) c.high_end-4.ensures)
    (put_is _ 1 c.low_end-4.result ∙ ap (put_end _ 1) c.low_end-4.ensures)
    c.first_part-part.ensures
