-- The outlook of a run that code found, by the two lines of its polygon.
--
--     run_last           the last time of a run of two or more ranges
--     run_outlook        its outlook: the polygon's two lines in lowest terms, and when each reaches the level, for a service that is not refused
--
-- Assumes nothing.
use Rattle.std.specs.Prelude.{◌≡◌, ℕ, ◌+◌, ◌-◌, ◌≤◌, length}
use Rattle.std.proofs.Common.{sym, ap₂, ◌∙◌, subst}
use Rattle.std.proofs.Math.Path.{ap}
use mathlib.Core.List.{[], ◌∷◌}
use native.Mathlib.Omega.{arith}
use Rattle.definitions.specs.Services.{Service}
use Rattle.definitions.specs.Ranges.{Lists}
use Rattle.definitions.specs.Fit.{HasLine, Ordered}
use Rattle.definitions.specs.Outlook.{outlook, end_time}
use Rattle.trial_laws.specs.RangeLists.{range_at}
use Rattle.trial_laws.specs.Accepted.{GoodService, AcceptedLists}
use Rattle.splits.specs.OrderedRanges.{last_time_of, last-append}
use Rattle.chains.specs.Results.{slow, fast}
use Rattle.lines.proofs.RunOutlook.{outlook_by_lines}
use Rattle.drift_laws.specs.ChainParts.{Chain}
use Rattle.drift_laws.specs.RunsByPlace.{run, run_two, run_more, run_ordered}
use Rattle.values.specs.Meanings.{line_of}
use Rattle.values.specs.Reach.{look_ahead}
use Rattle.fit.specs.declared.run.Reach.{Reach}
use Rattle.fit.specs.declared.polygon.Polygon.{Polygon}
use Rattle.fit.specs.RunsFrom.{RunFrom, PolygonAt}

module _ {ls : Lists} (a : AcceptedLists ls) {i n : ℕ} (upto : n ≤ length ls.times) {up down : Chain} {r : Reach} (f : RunFrom ls i n up down r) (two : i + 2 ≤ r.end) where
  run_is : run ls i r.end ≡ range_at ls i ∷ range_at ls (i + 1) ∷ run ls (i + 2) r.end
  run_is = run_two ls a i r.end two (omega (arith, f.within))

  pub run_last : end_time (range_at ls (i + 1)) (run ls (i + 2) r.end) ≡ (range_at ls (r.end - 1)).time
  unfolding last_time_of end_time
  run_last =
      let w = f.within in
      let k = r.end - 1 in
      let m : k + 1 ≡ r.end = omega arith in
      ap last_time_of (sym run_is ∙ ap (run ls i) (sym m) ∙ run_more ls a i k (omega arith) (omega arith)) ∙ last-append (run ls i k) (range_at ls k) []

  pub run_outlook : (v : Service) → GoodService v → {x : Polygon} → PolygonAt ls up down i r.end x
      → outlook v (run ls i r.end) ≡ look_ahead (line_of x.slow) (line_of x.fast) v (range_at ls (r.end - 1)).time
  run_outlook v good z =
      let s = range_at ls i in
      let t = range_at ls (i + 1) in
      let ws = run ls (i + 2) r.end in
      let last = (range_at ls (r.end - 1)).time in
      let k = slow s t ws in
      let l = fast s t ws in
      ap (outlook v) run_is
      ∙ outlook_by_lines s t ws (subst Ordered run_is (run_ordered ls a i r.end)) (subst HasLine run_is f.line) v good.direction_in_is good.step_good.over
      ∙ ap (look_ahead k l v) run_last
      ∙ ap₂ (λ x y. look_ahead x y v last) (sym z.slow_is) (sym z.fast_is)
