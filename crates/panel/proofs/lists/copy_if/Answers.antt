-- Proof of `panel::lists::copy_if`. Assumes nothing.
use mathlib.Core.Path.{refl, ap, ◌∙◌}
use lib.ListN.{set}
use borrow.Author.Rules.{rules}
use mir.Facts.{to_z-of_z}
use Rattle.panel.specs.Copies.{put_if}
use Rattle.panel.proofs.lists.copy_if.Goals as goal

pub returns-then-take : goal.returns-then-take
unfolding put_if
returns-then-take c =
    let taken = c.if-take.true in
    let args = c.args in
    record {
      times_are = rw taken c.store.ensures;
      lows_are = rw taken (c.store-then-take.ensures ∙ ap (set args.into_lows.now args.at) (search (rules, to_z-of_z)));
      highs_are = rw taken (c.store-then-take-2.ensures ∙ ap (set args.into_highs.now args.at) (search (rules, to_z-of_z)));
    }

pub returns-else-take : goal.returns-else-take
unfolding put_if
returns-else-take c = let e = c.if-take.false in record { times_are = rw e refl; lows_are = rw e refl; highs_are = rw e refl }
