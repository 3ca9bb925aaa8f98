-- The segment then running after the first k ranges, found from run to run.
--
--     run_joined                 a run is its front and the run behind it
--     Reached ls k i             the segment running after k ranges is the last of those of the ranges from i up to k
--     reached_first, reached_next   so it is at the first range, and at the end of each run that ends before k
--     LastRun ls k up down r     the segment running after k ranges goes from `start` to k; it has a line, and `polygon` is its polygon if it has two ranges or more, and none if it has one
--     reached_last               so it is where the run goes up to k
--
-- Assumes nothing.
use Rattle.std.specs.Prelude.{◌≡◌, List, [], ◌∷◌, ◌++◌, length, drop}
use Rattle.std.proofs.Common.{sym, ◌∙◌}
use Rattle.std.proofs.Math.Path.{ap, ap₂, subst}
use Prim.Native.Nat.{ℕ, suc, ◌+◌, ◌-◌, ◌<◌, ◌≤◌}
use native.Mathlib.Omega.{arith}
use Rattle.std.proofs.Math.ListN.{take}
use Rattle.std.proofs.Math.Seq.{take-append-add}
use Rattle.definitions.specs.Ranges.{Range, Lists, ranges_of}
use Rattle.definitions.specs.Lines.{has_line}
use Rattle.definitions.specs.Fit.{HasLine, Ordered}
use Rattle.definitions.specs.Splits.{last_run, GoodRun}
use Rattle.definitions.specs.Segments.{segments, running_after}
use Rattle.trial_laws.specs.RangeLists.{range_at, ranges_drop}
use Rattle.trial_laws.specs.Accepted.{AcceptedLists}
use Rattle.splits.specs.Cutting.{cut_cons, first_run}
use Rattle.splits.specs.Greedy.{cut_one_run, cut_first_run}
use Rattle.lines.specs.Polygon.{decides}
use Rattle.drift_laws.specs.ChainParts.{Chain}
use Rattle.drift_laws.specs.RunsByPlace.{run, run_more, run_length, run_rest, run_ordered}
use Rattle.fit.specs.declared.run.Reach.{Reach}
use Rattle.fit.specs.declared.last_run.Found.{Found}
use Rattle.fit.specs.RunsFrom.{RunFrom, PolygonOf}

pub record LastRun (ls : Lists) (k : ℕ) (up down : Chain) (r : Found) : Type 0 where
  pub begins : r.start < k
  pub running_is : running_after k (ranges_of ls) ≡ run ls r.start k
  pub line : HasLine (run ls r.start k)
  pub polygon_is : PolygonOf ls up down r.start k r.polygon

pub record Reached (ls : Lists) (k i : ℕ) : Type 0 where
  pub before : i < k
  pub running_from : running_after k (ranges_of ls) ≡ last_run (segments (run ls i k))

-- the first run is not the last where ranges follow it
later : (first : List Range) (x : Range) (xs : List Range) → last_run (first ∷ segments (x ∷ xs)) ≡ last_run (segments (x ∷ xs))
unfolding segments last_run
later first x xs =
    let f = first_run has_line (x ∷ []) xs in
    let e = cut_cons has_line x xs ∙ f.is in
    ap (λ runs. last_run (first ∷ runs)) e ∙ sym (ap last_run e)

good-run : (rs : List Range) → 0 < length rs → HasLine rs → GoodRun HasLine rs
good-run [] h l = absurd (omega arith)
good-run (r ∷ rs) h l = l

module _ {ls : Lists} (a : AcceptedLists ls) (k : ℕ) (within : k ≤ length ls.times) where
  pub run_joined : (i e : ℕ) → i ≤ e → e ≤ k → run ls i k ≡ run ls i e ++ run ls e k
  run_joined i e h l =
      let n : k - i ≡ length (run ls i e) + (k - e) = omega (arith, run_length ls a i e (omega arith)) in
      ap₂ take n (run_rest ls a i e h) ∙ take-append-add (run ls i e) (drop e (ranges_of ls)) (k - e)

  module _ {i : ℕ} {up down : Chain} {f : Reach} (r : RunFrom ls i k up down f) where
    good : GoodRun HasLine (run ls i f.end)
    good = good-run (run ls i f.end) (omega (arith, run_length ls a i f.end (omega (arith, r.within)), r.begins)) r.line

    -- it goes up to k
    only : k ≤ f.end → last_run (segments (run ls i k)) ≡ run ls i k
    unfolding segments last_run
    only h =
        let e : f.end ≡ k = omega (arith, r.within) in
        ap last_run (cut_one_run decides (run ls i k) (run_ordered ls a i k) (subst (λ e. GoodRun HasLine (run ls i e)) e good))

    -- it ends before k
    more : f.end < k → last_run (segments (run ls i k)) ≡ last_run (segments (run ls f.end k))
    unfolding segments
    more h =
        let e = f.end in
        let xs = take (k - (e + 1)) (drop (suc e) (ranges_of ls)) in
        let n : k - e ≡ suc (k - (e + 1)) = omega arith in
        let rest : run ls e k ≡ range_at ls e ∷ xs = ap₂ take n (ranges_drop ls a.same e (omega arith)) in
        let order : Ordered (run ls i e ++ (range_at ls e ∷ [])) = subst Ordered (run_more ls a i e (omega (arith, r.begins)) (omega arith)) (run_ordered ls a i (e + 1)) in
        ap (λ rs. last_run (segments rs)) (run_joined i e (omega (arith, r.begins)) (omega arith) ∙ ap (λ rs. run ls i e ++ rs) rest)
        ∙ ap last_run (cut_first_run decides (run ls i e) (range_at ls e) xs order good (r.closed h))
        ∙ later (run ls i e) (range_at ls e) xs
        ∙ ap (λ rs. last_run (segments rs)) (sym rest)

  pub reached_first : 0 < k → Reached ls k 0
  unfolding running_after
  reached_first h = let n : k ≡ k - 0 = omega arith in record { before = h; running_from = ap (λ n. last_run (segments (take n (ranges_of ls)))) n }

  pub reached_next : {i : ℕ} {up down : Chain} {f : Reach} → Reached ls k i → RunFrom ls i k up down f → f.end < k → Reached ls k f.end
  reached_next z r h = record { before = h; running_from = z.running_from ∙ more r h }

  pub reached_last : {i : ℕ} {up down : Chain} {f : Reach} → Reached ls k i → RunFrom ls i k up down f → k ≤ f.end → LastRun ls k up down (record { start = i; polygon = f.polygon })
  reached_last {i} {up} {down} {f} z r h =
      let e : f.end ≡ k = omega (arith, r.within) in
      record {
        begins = z.before;
        running_is = z.running_from ∙ only r h;
        line = subst (λ e. HasLine (run ls i e)) e r.line;
        polygon_is = subst (λ e. PolygonOf ls up down i e f.polygon) e r.polygon_is;
      }
