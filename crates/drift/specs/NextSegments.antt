-- The segment that begins at a range, from the run that code found there.
--
--     segments_from              the segments from i on are the run from i and the segments from its end on
--     found_at ls i e o           the segment of the run from i to e, with the outlook o
--     next_open, next_lines      a segment of one range is open; one of more has the outlook of the polygon's two lines
--
-- Assumes nothing.
use Rattle.std.specs.Prelude.{◌≡◌, ◌⊎◌, ℕ, suc, ◌+◌, ◌-◌, ◌<◌, ◌≤◌}
use Rattle.std.proofs.Math.Path.{refl, sym, ap, ap₂}
use Rattle.std.proofs.Common.{◌∙◌, subst, inl, inr, le_refl, eq-or-lt_of_le, length-take, length-drop}
use mathlib.Core.List.{List, [], ◌∷◌, ◌++◌, append-nil}
use native.Mathlib.Omega.{arith}
use Rattle.std.proofs.Math.ListN.{length, drop, drop_of_length-le}
use Rattle.definitions.specs.Services.{Service}
use Rattle.definitions.specs.Ranges.{Range, Lists, ranges_of}
use Rattle.definitions.specs.Fit.{HasLine, Ordered}
use Rattle.definitions.specs.Splits.{cut, GoodRun}
use Rattle.definitions.specs.Segments.{segments}
use Rattle.definitions.specs.Outlook.{Outlook, open_strip, outlook, end_time}
use Rattle.definitions.specs.Results.{Segment, segment_of, segments_of}
use Rattle.trial_laws.specs.RangeLists.{range_at, ranges_length, ranges_drop}
use Rattle.trial_laws.specs.Accepted.{GoodService, AcceptedLists}
use Rattle.splits.specs.Greedy.{cut_one_run, cut_first_run}
use Rattle.lines.specs.Polygon.{decides}
use Rattle.drift_laws.specs.ChainParts.{Chain}
use Rattle.drift_laws.specs.RunsByPlace.{run, run_one, run_two, run_more, run_rest, run_ordered}
use Rattle.fit.specs.declared.run.Reach.{Reach}
use Rattle.values.specs.Meanings.{line_of}
use Rattle.values.specs.Reach.{look_ahead}
use Rattle.fit.specs.declared.polygon.Polygon.{Polygon}
use Rattle.fit.specs.RunsFrom.{RunFrom, PolygonAt}
use Rattle.fit.specs.RunOutlooks.{run_last, run_outlook}
use Rattle.drift.specs.Filling.{NextSegment}

-- a run of at least one range is not empty
not-empty : (run : List Range) → 0 < length run → HasLine run → GoodRun HasLine run
not-empty [] h l = absurd (omega arith)
not-empty (r ∷ rs) h l = l

module _ (ls : Lists) (a : AcceptedLists ls) (i e : ℕ) (begins : i < e) (within : e ≤ length ls.times) where
  run_long : length (run ls i e) ≡ e - i
  run_long = length-take (e - i) (drop i (ranges_of ls)) ∙ omega (arith, length-drop i (ranges_of ls), ranges_length ls a.same)

  module _ (line : HasLine (run ls i e)) (closed : e < length ls.times → HasLine (run ls i e ++ (range_at ls e ∷ [])) → ⊥) where
    good : GoodRun HasLine (run ls i e)
    good = not-empty (run ls i e) (omega (arith, run_long)) line

    pub segments_from : segments (drop i (ranges_of ls)) ≡ run ls i e ∷ segments (drop e (ranges_of ls))
    unfolding segments cut
    segments_from = ap segments (run_rest ls a i e (omega arith)) ∙ by (eq-or-lt_of_le within)
      where
        by : (e ≡ length ls.times) ⊎ (e < length ls.times) → segments (run ls i e ++ drop e (ranges_of ls)) ≡ run ls i e ∷ segments (drop e (ranges_of ls))
        by (inl h) =
            let passed = drop_of_length-le (ranges_of ls) {i = e} (omega (arith, ranges_length ls a.same)) in
            ap (λ rest. segments (run ls i e ++ rest)) passed
            ∙ ap segments (append-nil (run ls i e))
            ∙ cut_one_run decides (run ls i e) (run_ordered ls a i e) good
            ∙ ap (λ rest. run ls i e ∷ segments rest) (sym passed)
        by (inr h) =
            let next = ranges_drop ls a.same e h in
            ap (λ rest. segments (run ls i e ++ rest)) next
            ∙ cut_first_run decides (run ls i e) (range_at ls e) (drop (suc e) (ranges_of ls)) (subst Ordered (run_more ls a i e (omega arith) h) (run_ordered ls a i (e + 1))) good (closed h)
            ∙ ap (λ rest. run ls i e ∷ segments rest) (sym next)

    -- a segment with the numbers of the run is the next one
    next_is : (v : Service) (s : Segment) → segment_of v (run ls i e) ≡ s → s.count ≡ e - i → NextSegment v ls i s
    unfolding segments_of
    next_is v s is count =
        record {
          next =
              let m : e ≡ i + s.count = omega (arith, count) in
              ap (λ runs. mathlib.Core.List.map (segment_of v) runs) segments_from ∙ ap₂ (λ first k. first ∷ segments_of v (drop k (ranges_of ls))) is m;
          within = omega (arith, count);
          some = omega (arith, count);
        }

-- the numbers of a segment, with a given outlook
abbrev pub found_at : Lists → ℕ → ℕ → Outlook → Segment
found_at ls i e o = record { first_time = (range_at ls i).time; last_time = (range_at ls (e - 1)).time; count = e - i; outlook = o }

module _ {ls : Lists} (a : AcceptedLists ls) {i : ℕ} {up down : Chain} {r : Reach} (f : RunFrom ls i (length ls.times) up down r) (v : Service) where
  pub next_open : r.end - i < 2 → NextSegment v ls i (found_at ls i r.end open_strip)
  unfolding segment_of outlook end_time
  next_open h =
      let b = f.begins in
      let w = f.within in
      let e : r.end ≡ i + 1 = omega arith in
      let last : r.end - 1 ≡ i = omega arith in
      let one : r.end - i ≡ 1 = omega arith in
      next_is ls a i r.end b w f.line f.closed v (found_at ls i r.end open_strip)
      (ap (λ k. segment_of v (run ls i k)) e ∙ ap (segment_of v) (run_one ls a i (omega arith)) ∙ λ j. record { first_time = (range_at ls i).time; last_time = (range_at ls (sym last j)).time; count = sym one j; outlook = open_strip })
      refl

  pub next_lines : GoodService v → {x : Polygon} → i + 2 ≤ r.end → PolygonAt ls up down i r.end x
      → NextSegment v ls i (found_at ls i r.end (look_ahead (line_of x.slow) (line_of x.fast) v (range_at ls (r.end - 1)).time))
  unfolding segment_of end_time
  next_lines good h z =
      let run_is = run_two ls a i r.end h f.within in
      let n : length (run ls i r.end) ≡ r.end - i = run_long ls a i r.end f.begins f.within in
      next_is ls a i r.end f.begins f.within f.line f.closed v _
      (ap (segment_of v) run_is
      ∙ λ j. record {
        first_time = (range_at ls i).time;
        last_time = run_last a (le_refl _) f h j;
        count = (ap length (sym run_is) ∙ n) j;
        outlook = (ap (outlook v) (sym run_is) ∙ run_outlook a (le_refl _) f h v good z) j;
      })
      refl
