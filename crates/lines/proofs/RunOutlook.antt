-- Laws that rest on those of specs/RunOutlook.antt.
--
--     outlook-means  the slow line has the least slope of the whole fit and the fast line the greatest; *some* and *all* are the least multiples of the step that the scope asks for, over all lines of the fit, and each is the time of one line
--     run-lines  the same of a run of two ranges or more, however it is given
--     outlook_by_lines           the outlook is the polygon's two lines in lowest terms, with the time at which the leading one reaches the level and the time at which the trailing one does
--
-- Assumes nothing.
use Rattle.std.specs.Prelude.{◌≡◌, ◌↔◌, ℕ, zero, suc, ◌≤◌, ◌<◌, ℤ, neg_ℤ, length}
use Rattle.std.proofs.Math.Path.{subst, ap₂}
use Rattle.std.proofs.Common.{sym, ◌∙◌, ap, arith}
use mathlib.Core.List.{List, [], ◌∷◌}
use Rattle.integers.specs.Multiples.{multiple-iff}
use Rattle.definitions.specs.Services.{Direction, rising, falling, direction_of, Service}
use Rattle.definitions.specs.Spans.{most_direction}
use Rattle.definitions.specs.Times.{Time}
use Rattle.definitions.specs.Ranges.{Range}
use Rattle.definitions.specs.Lines.{Line}
use Rattle.definitions.specs.Corners.{reduced, fitting}
use Rattle.definitions.specs.Fit.{HasLine, Ordered, Reached, SomeReached, AllReached}
use Rattle.definitions.specs.Outlook.{some_time, all_time, Outlook, open_strip, lines, end_time, outlook}
use Rattle.definitions.specs.Mirrors.{mirrored_line, mirrored_range, opposite, mirrored_service, mirrored_outlook}
use Rattle.splits.specs.OrderedRanges.{last_time_of}
use Rattle.chains.specs.Points.{SlopeAtMost}
use Rattle.chains.specs.Mirror.{neg_l_neg_l, neg_slope≤}
use Rattle.chains.specs.Results.{slow, fast}
use Rattle.chains.proofs.Results.{slow_fits, fast_fits, slow_least, fast_greatest}
use Rattle.lines.specs.LineOrder.{reduced_proper, Restates, restates_refl, InFit_same, slope-same, order-≤}
use Rattle.lines.specs.OutlookTimes.{rises, reach_time}
use Rattle.lines.proofs.OutlookTimes.{reach_time-same, some_least, all_least, some_by_fast, all_by_slow}
use Rattle.lines.specs.Mirrored.{mirrored}
use Rattle.lines.proofs.Mirrored.{reached_mirrored, reach_time_mirrored}
use Rattle.lines.specs.MirroredFit.{InFit_mirrored, InFit_back, HasLine_mirrored, ordered-mirrored, proper-mirrored}
use Rattle.lines.specs.MirroredOutlook.{end-mirrored, mirrored-twice}
use Rattle.lines.proofs.MirroredOutlook.{outlook_mirrored}
use Rattle.lines.specs.Polygon.{extremes_of}
use Rattle.lines.specs.RunOutlook.{fast_restates, leading, leading-mirrored, LinesOf, listed, MeansOf, OutlookMeans, shown, slow_restates, trailing}

module _ (r s : Range) (ws : List Range) (o : Ordered (r ∷ s ∷ ws)) (h : HasLine (r ∷ s ∷ ws)) where
  rising_means : (level : ℤ) (step : ℕ) → 0 < step → MeansOf (rises level step) (r ∷ s ∷ ws) (end_time s ws) (outlook (rises level step) (r ∷ s ∷ ws))
  unfolding direction_of
  rising_means level step over = subst (MeansOf (rises level step) (r ∷ s ∷ ws) (end_time s ws)) (sym (shown r s ws o h (rises level step))) means
    where
      means : OutlookMeans (rises level step) (r ∷ s ∷ ws) (end_time s ws) (reduced (slow r s ws)) (reduced (fast r s ws))
          (some_time (rises level step) (end_time s ws) (fitting (r ∷ s ∷ ws))) (all_time (rises level step) (end_time s ws) (fitting (r ∷ s ∷ ws)))
      means =
          let x = extremes_of r s ws o h in
          record {
            slow_proper = reduced_proper (slow r s ws) (slow_fits r s ws o h).positive;
            slow_fit = InFit_same (slow_restates r s ws o h) (slow_fits r s ws o h);
            slow_least = λ m k. order-≤ (slope-same {l = m} {l' = m} (slow_restates r s ws o h) (restates_refl k.positive)) (slow_least r s ws o h m k);
            fast_proper = reduced_proper (fast r s ws) (fast_fits r s ws o h).positive;
            fast_fit = InFit_same (fast_restates r s ws o h) (fast_fits r s ws o h);
            fast_greatest = λ m k. order-≤ (slope-same {k = m} {k' = m} (restates_refl k.positive) (fast_restates r s ws o h)) (fast_greatest r s ws o h m k);
            some_is = some_least x (listed r s ws o h) level step over;
            all_is = all_least x (listed r s ws o h) level step over;
            some_by = some_by_fast x (listed r s ws o h) level step over ∙ reach_time-same (rises level step) (end_time s ws) (fast_restates r s ws o h);
            all_by = all_by_slow x (listed r s ws o h) level step over ∙ reach_time-same (rises level step) (end_time s ws) (slow_restates r s ws o h);
          }

module _ (v : Service) (good : v.direction ≤ most_direction) (rs : List Range) where
  time-back : (from : ℕ) (k l : Line) → reach_time (mirrored_service v) from (leading (direction_of (opposite v.direction)) k l) ≡ reach_time v from (leading (direction_of v.direction) (mirrored_line l) (mirrored_line k))
  time-back from k l =
      ap (reach_time (mirrored_service v) from) (leading-mirrored v.direction good k l) ∙ reach_time_mirrored v good from (leading (direction_of v.direction) (mirrored_line l) (mirrored_line k))

  some_back : (t : ℕ) → SomeReached (mirrored rs) (mirrored_service v) t ↔ SomeReached rs v t
  some_back t = (
    λ x. record {
      line = mirrored_line x.line;
      fit = InFit_back rs x.line x.fit;
      reached = (reached_mirrored v good t (mirrored_line x.line)).1 (subst (Reached (mirrored_service v) t) (sym (neg_l_neg_l x.line)) x.reached);
    },
    λ x. record { line = mirrored_line x.line; fit = InFit_mirrored x.fit; reached = (reached_mirrored v good t x.line).0 x.reached },
  )

  all_back : (t : ℕ) → AllReached (mirrored rs) (mirrored_service v) t ↔ AllReached rs v t
  all_back t = (
    λ every l f. (reached_mirrored v good t l).1 (every (mirrored_line l) (InFit_mirrored f)),
    λ every l f. subst (Reached (mirrored_service v) t) (neg_l_neg_l l) ((reached_mirrored v good t (mirrored_line l)).0 (every (mirrored_line l) (InFit_back rs l f))),
  )

  means_mirrored : (from : ℕ) {k l : Line} {some all : Time} → OutlookMeans (mirrored_service v) (mirrored rs) from k l some all → OutlookMeans v rs from (mirrored_line l) (mirrored_line k) some all
  means_mirrored from {k} {l} x =
      record {
        slow_proper = proper-mirrored x.fast_proper;
        slow_fit = InFit_back rs l x.fast_fit;
        slow_least = λ m f. subst (λ j. SlopeAtMost (mirrored_line l) j) (neg_l_neg_l m) (neg_slope≤ (mirrored_line m) l (x.fast_greatest (mirrored_line m) (InFit_mirrored f)));
        fast_proper = proper-mirrored x.slow_proper;
        fast_fit = InFit_back rs k x.slow_fit;
        fast_greatest = λ m f. subst (λ j. SlopeAtMost j (mirrored_line k)) (neg_l_neg_l m) (neg_slope≤ k (mirrored_line m) (x.slow_least (mirrored_line m) (InFit_mirrored f)));
        some_is = multiple-iff (λ t a. some_back t) x.some_is;
        all_is = multiple-iff (λ t a. all_back t) x.all_is;
        some_by = x.some_by ∙ time-back from k l;
        all_by = x.all_by ∙ time-back from l k;
      }

  means_back : (from : ℕ) (x : Outlook) → MeansOf (mirrored_service v) (mirrored rs) from x → MeansOf v rs from (mirrored_outlook x)
  unfolding mirrored_outlook
  means_back from open_strip m = m
  means_back from (lines k l early late) m = means_mirrored from m

module _ (r s : Range) (ws : List Range) (o : Ordered (r ∷ s ∷ ws)) (h : HasLine (r ∷ s ∷ ws)) where
  by_direction : (level : ℤ) (n step : ℕ) → n ≤ most_direction → 0 < step
      → MeansOf (record { level = level; direction = n; step = step }) (r ∷ s ∷ ws) (end_time s ws) (outlook (record { level = level; direction = n; step = step }) (r ∷ s ∷ ws))
  by_direction level zero step good over = rising_means r s ws o h level step over
  by_direction level (suc zero) step good over =
      let v : Service = record { level = level; direction = 1; step = step } in
      let run = r ∷ s ∷ ws in
      let image = rising_means (mirrored_range r) (mirrored_range s) (mirrored ws) (ordered-mirrored run o) (HasLine_mirrored h) (neg_ℤ level) step over in
      let from_end = subst (λ n. MeansOf (mirrored_service v) (mirrored run) n (outlook (mirrored_service v) (mirrored run))) (end-mirrored s ws) image in
      subst (MeansOf v run (end_time s ws)) (ap mirrored_outlook (outlook_mirrored v good run o) ∙ mirrored-twice (outlook v run))
      (means_back v good run (end_time s ws) (outlook (mirrored_service v) (mirrored run)) from_end)
  by_direction level (suc (suc n)) step good over = absurd (omega arith)

  module _ (v : Service) (good : v.direction ≤ most_direction) (over : 0 < v.step) where
    run_means : OutlookMeans v (r ∷ s ∷ ws) (end_time s ws) (reduced (slow r s ws)) (reduced (fast r s ws)) (some_time v (end_time s ws) (fitting (r ∷ s ∷ ws))) (all_time v (end_time s ws) (fitting (r ∷ s ∷ ws)))
    run_means = subst (MeansOf v (r ∷ s ∷ ws) (end_time s ws)) (shown r s ws o h v) (by_direction v.level v.direction v.step good over)

    -- the outlook of a run, and what it means of all lines of the fit
    pub outlook-means : (k : Line) × (l : Line) × (some : Time) × (all : Time) × (outlook v (r ∷ s ∷ ws) ≡ lines k l some all) × OutlookMeans v (r ∷ s ∷ ws) (end_time s ws) k l some all
    outlook-means = (
      reduced (slow r s ws),
      reduced (fast r s ws),
      some_time v (end_time s ws) (fitting (r ∷ s ∷ ws)),
      all_time v (end_time s ws) (fitting (r ∷ s ∷ ws)),
      shown r s ws o h v,
      run_means,
    )

    -- the times are of the lines as they are, before they are reduced
    pub outlook_by_lines : outlook v (r ∷ s ∷ ws)
        ≡ lines (reduced (slow r s ws)) (reduced (fast r s ws))
        (reach_time v (end_time s ws) (leading (direction_of v.direction) (slow r s ws) (fast r s ws)))
        (reach_time v (end_time s ws) (trailing (direction_of v.direction) (slow r s ws) (fast r s ws)))
    outlook_by_lines =
        shown r s ws o h v
        ∙ ap₂ (lines (reduced (slow r s ws)) (reduced (fast r s ws)))
        (run_means.some_by ∙ as_is (direction_of v.direction) (slow r s ws) (fast r s ws) (slow_restates r s ws o h) (fast_restates r s ws o h))
        (run_means.all_by ∙ as_is (direction_of v.direction) (fast r s ws) (slow r s ws) (fast_restates r s ws o h) (slow_restates r s ws o h))
      where
        from : ℕ
        from = end_time s ws

        as_is : (e : Direction) (k l : Line) → Restates k (reduced k) → Restates l (reduced l) → reach_time v from (leading e (reduced k) (reduced l)) ≡ reach_time v from (leading e k l)
        as_is rising k l a b = sym (reach_time-same v from b)
        as_is falling k l a b = sym (reach_time-same v from a)

pub run-lines : (v : Service) → v.direction ≤ most_direction → 0 < v.step → (run : List Range) → 2 ≤ length run → Ordered run → HasLine run → LinesOf v run (last_time_of run) (outlook v run)
unfolding last_time_of end_time
run-lines v known over [] two o h = absurd (omega arith)
run-lines v known over (r ∷ []) two o h = absurd (omega arith)
run-lines v known over (r ∷ s ∷ ws) two o h = let (k, l, x, y, e, means) = outlook-means r s ws o h v known over in record { slow = k; fast = l; some = x; all = y; is = e; means = means }
