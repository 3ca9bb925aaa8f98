-- `drift::filling::segment_from` meets its contract: what `run_from` found is the next segment, open if it has one range, and else with the outlook that `outlook_of` gives its two lines.
-- Assumes nothing.
use mathlib.Core.Path.{sym, ap, subst, ◌∙◌}
use native.Mathlib.Omega.{arith}
use Rattle.definitions.specs.Ranges.{Lists}
use Rattle.definitions.specs.Outlook.{Outlook}
use Rattle.values.specs.Meanings.{service_of, outlook_of, segment_of}
use Rattle.fit.specs.RunsFrom.{polygon_some, polygon_none}
use Rattle.drift.specs.Filling.{NextSegment}
use Rattle.drift.specs.NextSegments.{found_at, next_open, next_lines}
use Rattle.drift.proofs.filling.segment_from.Goals.{in-Some, in-None}
use Rattle.drift.proofs.filling.segment_from.Goals as goal

pub returns : goal.returns
unfolding segment_of outlook_of
returns c =
    let A = c.args in
    let v = service_of A.v in
    let ls : Lists = record { times = A.times.now; lows = A.lows.now; highs = A.highs.now } in
    let f = c.run_from-found.ensures in
    let tried = c.requires.tried in
    let next = λ (o : Outlook). NextSegment v ls A.start (found_at ls A.start c.run_from-found.result.end o) in
    elim c.match-found.branch [
      | in-Some w ↦ let (two, z) = polygon_some w.in-Some.is f.polygon_is in subst next (sym (ap outlook_of w.outlook-is ∙ w.outlook_of-outlook.ensures)) (next_lines tried.lists_accepted f v tried.good two z)
      | in-None w ↦ subst next (sym (ap outlook_of w.outlook-is)) (next_open tried.lists_accepted f v (omega (arith, polygon_none w.in-None.is f.polygon_is)))
    ]
