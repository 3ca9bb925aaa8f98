-- Runs of the ranges of accepted lists, by the places of their first range and of the range after their last.
--
--     run ls i e                 the ranges from i up to, not including, e
--     run_one, run_two           a run begins with its first range, with its first two
--     run_more                   one more range at the end
--     run_length                 how many ranges it has
--     run_rest                   the ranges from i on are a run and what follows it
--     run_ordered                a run is in order
--     run_polygon ls i e          the polygon of a run of two or more ranges
--     one_line, two_line         a run of one range, of two, has a line
--     started                    the polygon of two ranges
--     polygon_goes_on, line_goes_on   a range joins, by the tests that code makes: the polygon of the longer run, and that it has a line
--     stops_above, stops_below   it does not join: the longer run has no line
--
-- Assumes nothing.
use Rattle.std.specs.Prelude.{◌≡◌, true, false, List, [], ◌∷◌, ◌++◌, ℕ, suc, ◌+◌, ◌-◌, ◌<◌, ◌≤◌, pos, length, take, drop}
use Rattle.std.proofs.Common.{sym, ◌∙◌, ap, ap₂, subst, arith, add-one, length-drop, take-append-drop, take-suc, drop-drop, get_or-drop, length-take-le}
use Rattle.std.specs.Int.Signed.{le_z, lt_z}
use Rattle.definitions.specs.Ranges.{Range, Lists, ranges_of}
use Rattle.definitions.specs.Fit.{HasLine, Ordered}
use Rattle.splits.specs.OrderedRanges.{ordered-left, ordered-right}
use Rattle.trial_laws.specs.RangeLists.{range_at, zero_range, ranges_length, ranges-at, ranges_drop}
use Rattle.trial_laws.specs.Accepted.{AcceptedLists}
use Rattle.chains.specs.Points.{gap}
use Rattle.chains.specs.Ends.{H, L}
use Rattle.chains.specs.Chain.{Polygon}
use Rattle.chains.specs.Start.{start}
use Rattle.chains.specs.PopEnd.{pop_join}
use Rattle.chains.specs.Results.{polygon, polygon-start, one-has_line}
use Rattle.chains.proofs.Results.{two_have_line}
use Rattle.drift_laws.specs.TestedSigns.{less_yes, less_no, most_yes, most_no}
use Rattle.drift_laws.specs.RunSteps.{pop_joins, joins_line, closes_above, closes_below}

abbrev pub run : Lists → ℕ → ℕ → List Range
run ls i e = take (e - i) (drop i (ranges_of ls))

abbrev pub run_polygon : Lists → ℕ → ℕ → Polygon
run_polygon ls i e = polygon (range_at ls i) (range_at ls (i + 1)) (run ls (i + 2) e)

run_none : (ls : Lists) (i : ℕ) → run ls i i ≡ []
run_none ls i = let n : i - i ≡ 0 = omega arith in ap (λ n. take n (drop i (ranges_of ls))) n

module _ (ls : Lists) (a : AcceptedLists ls) where
  run-cons : (i e : ℕ) → i < e → i < length ls.times → run ls i e ≡ range_at ls i ∷ run ls (i + 1) e
  run-cons i e h within =
      let n : e - i ≡ suc (e - (i + 1)) = omega arith in
      ap₂ (λ n rs. take n rs) n (ranges_drop ls a.same i within) ∙ ap (λ k. range_at ls i ∷ take (e - (i + 1)) (drop k (ranges_of ls))) (sym (add-one i))

  pub run_one : (i : ℕ) → i < length ls.times → run ls i (i + 1) ≡ range_at ls i ∷ []
  run_one i h = run-cons i (i + 1) (omega arith) h ∙ ap (λ rs. range_at ls i ∷ rs) (run_none ls (i + 1))

  pub run_two : (i e : ℕ) → i + 2 ≤ e → e ≤ length ls.times → run ls i e ≡ range_at ls i ∷ range_at ls (i + 1) ∷ run ls (i + 2) e
  run_two i e h within =
      let two : i + 1 + 1 ≡ i + 2 = omega arith in
      run-cons i e (omega arith) (omega arith) ∙ ap (λ rs. range_at ls i ∷ rs) (run-cons (i + 1) e (omega arith) (omega arith) ∙ ap (λ k. range_at ls (i + 1) ∷ run ls k e) two)

  pub run_more : (i k : ℕ) → i ≤ k → k < length ls.times → run ls i (k + 1) ≡ run ls i k ++ (range_at ls k ∷ [])
  run_more i k h within =
      let n : k + 1 - i ≡ suc (k - i) = omega arith in
      let m : i + (k - i) ≡ k = omega arith in
      ap (λ n. take n (drop i (ranges_of ls))) n
      ∙ take-suc (drop i (ranges_of ls)) (k - i) zero_range (omega (arith, length-drop i (ranges_of ls), ranges_length ls a.same))
      ∙ ap (λ r. run ls i k ++ (r ∷ [])) (get_or-drop i (ranges_of ls) (k - i) zero_range ∙ ranges-at ls a.same (i + (k - i)) ∙ ap (range_at ls) m)

  pub run_length : (i e : ℕ) → e ≤ length ls.times → length (run ls i e) ≡ e - i
  run_length i e within = length-take-le (e - i) (drop i (ranges_of ls)) (omega (arith, length-drop i (ranges_of ls), ranges_length ls a.same))

  pub run_rest : (i e : ℕ) → i ≤ e → drop i (ranges_of ls) ≡ run ls i e ++ drop e (ranges_of ls)
  run_rest i e h =
      let m : i + (e - i) ≡ e = omega arith in
      sym (take-append-drop (e - i) (drop i (ranges_of ls))) ∙ ap (λ rs. run ls i e ++ rs) (drop-drop (e - i) i (ranges_of ls) ∙ ap (λ k. drop k (ranges_of ls)) m)

  pub run_ordered : (i e : ℕ) → Ordered (run ls i e)
  run_ordered i e =
      ordered-left (run ls i e) (drop (e - i) (drop i (ranges_of ls)))
      (subst Ordered (sym (take-append-drop (e - i) (drop i (ranges_of ls)))) (ordered-right (take i (ranges_of ls)) (drop i (ranges_of ls)) (subst Ordered (sym (take-append-drop i (ranges_of ls))) a.ranges.ordered)))

  pub one_line : (i : ℕ) → i < length ls.times → HasLine (run ls i (i + 1))
  one_line i h = subst HasLine (sym (run_one i h)) (one-has_line (range_at ls i) (subst Ordered (run_one i h) (run_ordered i (i + 1))))

  -- ---- two ranges
  module _ (i : ℕ) (h : i + 1 < length ls.times) where
    two_run : run ls i (i + 2) ≡ range_at ls i ∷ range_at ls (i + 1) ∷ []
    two_run = run_two i (i + 2) (omega arith) (omega arith) ∙ ap (λ rs. range_at ls i ∷ range_at ls (i + 1) ∷ rs) (run_none ls (i + 2))

    pub two_line : HasLine (run ls i (i + 2))
    two_line = subst HasLine (sym two_run) (two_have_line (range_at ls i) (range_at ls (i + 1)) (subst Ordered two_run (run_ordered i (i + 2))))

    pub started : start (range_at ls i) (range_at ls (i + 1)) ≡ run_polygon ls i (i + 2)
    started = sym (ap (polygon (range_at ls i) (range_at ls (i + 1))) (run_none ls (i + 2)) ∙ polygon-start (range_at ls i) (range_at ls (i + 1)))

  -- ---- one more range
  module _ (i k : ℕ) (two : i + 2 ≤ k) (within : k < length ls.times) (line : HasLine (run ls i k)) where
    longer : (range_at ls i ∷ range_at ls (i + 1) ∷ run ls (i + 2) k) ++ (range_at ls k ∷ []) ≡ run ls i (k + 1)
    longer = ap (λ rs. rs ++ (range_at ls k ∷ [])) (sym (run_two i k two (omega arith))) ∙ sym (run_more i k (omega arith) within)

    in_order : Ordered ((range_at ls i ∷ range_at ls (i + 1) ∷ run ls (i + 2) k) ++ (range_at ls k ∷ []))
    in_order = subst Ordered (sym longer) (run_ordered i (k + 1))

    has-line : HasLine (range_at ls i ∷ range_at ls (i + 1) ∷ run ls (i + 2) k)
    has-line = subst HasLine (run_two i k two (omega arith)) line

    -- what code knows of the range k: slow against its high end, fast against its low end
    pub polygon_goes_on : lt_z (pos 0) (gap (run_polygon ls i k).slow (H (range_at ls k))) ≡ false → pop_join (range_at ls k) (run_polygon ls i k) ≡ run_polygon ls i (k + 1)
    polygon_goes_on e =
        pop_joins (range_at ls i) (range_at ls (i + 1)) (run ls (i + 2) k) (range_at ls k) in_order has-line (less_no e)
        ∙ ap (polygon (range_at ls i) (range_at ls (i + 1))) (sym (run_more (i + 2) k two within))

    pub line_goes_on : lt_z (pos 0) (gap (run_polygon ls i k).slow (H (range_at ls k))) ≡ false → le_z (pos 0) (gap (run_polygon ls i k).fast (L (range_at ls k))) ≡ true → HasLine (run ls i (k + 1))
    line_goes_on e f = subst HasLine longer (joins_line (range_at ls i) (range_at ls (i + 1)) (run ls (i + 2) k) (range_at ls k) in_order has-line (less_no e) (most_yes f))

    -- the longer run, as the one with the range behind it
    behind : HasLine (run ls i k ++ (range_at ls k ∷ [])) → HasLine ((range_at ls i ∷ range_at ls (i + 1) ∷ run ls (i + 2) k) ++ (range_at ls k ∷ []))
    behind h = subst (λ rs. HasLine (rs ++ (range_at ls k ∷ []))) (run_two i k two (omega arith)) h

    pub stops_above : lt_z (pos 0) (gap (run_polygon ls i k).slow (H (range_at ls k))) ≡ true → HasLine (run ls i k ++ (range_at ls k ∷ [])) → ⊥
    stops_above e h = closes_above (range_at ls i) (range_at ls (i + 1)) (run ls (i + 2) k) (range_at ls k) in_order has-line (less_yes e) (behind h)

    pub stops_below : le_z (pos 0) (gap (run_polygon ls i k).fast (L (range_at ls k))) ≡ false → HasLine (run ls i k ++ (range_at ls k ∷ [])) → ⊥
    stops_below e h = closes_below (range_at ls i) (range_at ls (i + 1)) (run ls (i + 2) k) (range_at ls k) in_order has-line (most_no e) (behind h)
