-- `fit::cut::cut` meets its contract. Assumes nothing.
use Rattle.fit.specs.ChainsOfEnds.{long_of, put_is}
use Rattle.fit.specs.Cuts.{trimmed-seen, cut-push, cut_keep}
use Rattle.fit.proofs.cut.cut.Goals as goal

pub returns-then-steeper : goal.returns-then-steeper
returns-then-steeper c =
    let up = c.args.up.now in
    cut-push c.args.e c.requires.0 (trimmed-seen c.seen-n.ensures c.trim-t.ensures) (long_of up c.requires.1) c.requires.2 c.steeper.ensures c.if-steeper.true (put_is up c.trim-t.result.end c.args.e) c.shortened.ensures

pub returns : goal.returns
returns c = cut_keep c.args.e c.requires.0 (trimmed-seen c.seen-n.ensures c.trim-t.ensures) c.steeper.ensures c.if-steeper.false c.shortened-2.ensures
