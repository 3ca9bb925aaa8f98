-- The latest trend through the call: theorems about what Latest gave and left in the slices. `last_ranges n ls` are the last n ranges of the lists, `given_lines n ps qs ds` the lines whose p, q and d
-- are the first n entries of three slices.
-- Where it gave a trend t
--     given_ranges               t's ranges are the last of the lists, so many of them
--     given_line                 some line fits them, and there are some where the lists are not empty
--     given_longest              no longer end of the lists has a line
--     given_two                  they are two or more where the lists have so many
--     given_open                 the outlook is open exactly if the lists have fewer than two ranges: none at all, or one
--     given_few, given_none      then all ranges are given, there are no corners, as their fit has none, and the slices hold their old contents
-- and where the lists have two ranges or more
--     given_lines_is                the outlook is the slow line, the fast line and the times of these ranges, over all lines of their fit
--     given_corners              the lines in the slices are the corners of these ranges, in the scope's list
--     given_about                what holds of the corners of any two or more ranges that have a line holds of these lines
--     given_count, given_some    they are as many as these ranges have corners, at least one and at most two for each range
--     given_fit, given_mean      each fits these ranges, and every line that fits them is a weighted mean of them
--     given_exact                a line is among them exactly if it is a corner of the fit, in lowest terms
--     given_ordered, given_once  they are in corner order, none twice
--     given_by_diagonal          above the diagonal is a greater intercept than the diagonal has at the same slope, below it a smaller one
--     given_past                 entries past the number hold their old contents
-- Where it gave the number of a refusal; `Refusals` says when
--     refused_kept               the slices hold their old contents
--
-- `CutFromEnd` is about cutting a whole trace from its end, `AgainstSegment` about the last segment.
-- Assumes nothing.
use Rattle.definitions.specs.declared.refusals.Refusal.{Refusal}
use Rattle.definitions.specs.Refusals.{refusal_number}
use Rattle.std.specs.Prelude.{◌≡◌, refl, ◌↔◌, Bool, true, false, ℕ, ◌+◌, ◌-◌, ◌*◌, ◌<◌, ◌≤◌, ltb, ℤ, get_or, take, drop, Err, Ok}
use Rattle.std.proofs.Math.Path.{sym, ap}
use Rattle.std.proofs.Common.{◌∙◌, subst, ltb-true, ltb-false, length-drop, take-append-drop}
use mathlib.Core.List.{List, [], ◌∷◌, ◌++◌, Nodup}
use native.Mathlib.Omega.{arith}
use Rattle.std.proofs.Math.ListN.{length}
use Rattle.integers.specs.Lists.{All, In}
use Rattle.integers.specs.LowestTerms.{InLowestTerms}
use Rattle.definitions.specs.Services.{Service}
use Rattle.definitions.specs.Ranges.{Range, Lists, ranges_of}
use Rattle.definitions.specs.Lines.{Line}
use Rattle.definitions.specs.Corners.{corners}
use Rattle.definitions.specs.Fit.{InFit, HasLine, Ordered, WeightedMean, Corner, InCornerOrder}
use Rattle.definitions.specs.Splits.{GoodRun}
use Rattle.definitions.specs.Outlook.{open_strip, outlook, end_time, Outlook as OutlookTerm}
use Rattle.definitions.specs.Answers.{refused}
use Rattle.definitions.specs.Calls.{fit_of, corners_in}
use Rattle.definitions.specs.Latest.{trend_of, latest_call}
use Rattle.trial_laws.specs.CallLaws.{bind-refused}
use Rattle.trial_laws.specs.RangeLists.{range_at, ranges_length}
use Rattle.splits.specs.Runs.{good-run}
use Rattle.splits.specs.OrderedRanges.{last_time_of, last-append}
use Rattle.lines.specs.RunOutlook.{LinesOf}
use Rattle.lines.proofs.RunOutlook.{run-lines}
use Rattle.lines.proofs.OneRange.{few_no_corner}
use Rattle.lines.specs.Diagonal.{ByDiagonal}
use Rattle.lines.specs.Theorems.{corners_exact, corners_ordered, corners_once, corners_some, corners_count, corners_fit, corners_mean}
use Rattle.lines.proofs.Theorems.{corners_by_diagonal}
use Rattle.lines.specs.LatestTrend.{latest_longest, latest_two, latest-short}
use Rattle.drift_laws.specs.RunsByPlace.{run, run_more}
use Rattle.values.specs.Meanings.{outlook_of}
use Rattle.drift.specs.GivenLines.{given_lines, lines_given, lines_past, lines_kept, lines_none, corners_about}
use Rattle.drift.specs.CornersPromise.{three_lengths}
use Rattle.latest.specs.declared.Trend.{Trend}
use Rattle.latest.specs.LatestPromise.{told_of, latest_meaning, LatestPromise}
use Rattle.latest.specs.LatestStarts.{rest-run}
use Rattle.latest.specs.FoundTrends.{fit-corners, short_open}
use Rattle.latest.specs.GivenTrends.{last_ranges, slices, taken_good, taken, ordered, called, trend_is, run_is, run_length, run_ordered, run_good, told_outlook}

not_open : {A : Type 0} {v : Service} {rs : List Range} {from : ℕ} {o : OutlookTerm} → LinesOf v rs from o → o ≡ open_strip → A
not_open l e = let f = sym e ∙ l.is in let z : ◌≡◌ {A = ℕ} 0 1 = cc in absurd (omega arith)

module _ {v : Service} {ls : Lists} {ps qs ds ps' qs' ds' : List ℤ} {t : Trend} (promise : LatestPromise v ls ps qs ds ps' qs' ds' (Ok t)) where
  abbrev rs : List Range
  rs = ranges_of ls

  abbrev last : List Range
  last = last_ranges t.ranges ls

  long : length rs ≡ length ls.times
  long = ranges_length ls (taken promise).same

  pub given_ranges : (rs ≡ take (length ls.times - t.ranges) rs ++ last) × (length last ≡ t.ranges)
  given_ranges = (sym (take-append-drop (length ls.times - t.ranges) rs), (run_length promise).0)

  pub given_line : 0 < length ls.times → GoodRun HasLine last
  given_line = run_good promise

  pub given_longest : (k : ℕ) → k ≤ length ls.times → HasLine (last_ranges k ls) → k ≤ t.ranges
  given_longest k h line =
      let m = length ls.times - k in
      let most = latest_longest rs (ordered promise) (take m rs) (drop m rs) (sym (take-append-drop m rs)) line in
      omega (arith, most, ap length (run_is promise), (run_length promise).0, length-drop m rs, long)

  pub given_two : 2 ≤ length ls.times → 2 ≤ t.ranges
  given_two h = omega (arith, latest_two rs (ordered promise) (omega (arith, long)), ap length (run_is promise), (run_length promise).0)

  last-time : 0 < length ls.times → 0 < t.ranges → last_time_of last ≡ get_or ls.times (length ls.times - 1) 0
  unfolding last_time_of end_time
  last-time h some =
      let n = length ls.times in
      let k = n - 1 in
      let m : k + 1 ≡ n = omega arith in
      let a = taken promise in
      ap last_time_of (rest-run a (n - t.ranges) ∙ ap (run ls (n - t.ranges)) (sym m) ∙ run_more ls a (n - t.ranges) k (omega arith) (omega arith)) ∙ last-append (run ls (n - t.ranges) k) (range_at ls k) []

  pub given_lines_is : 2 ≤ length ls.times → LinesOf v last (get_or ls.times (length ls.times - 1) 0) (outlook_of t.outlook)
  given_lines_is h =
      let two = given_two h in
      let means = run-lines v (taken_good promise).direction_in_is (taken_good promise).step_good.over last (omega (arith, (run_length promise).0)) (run_ordered promise) (good-run HasLine last (given_line (omega arith))) in
      subst (LinesOf v last (get_or ls.times (length ls.times - 1) 0)) (sym (told_outlook promise)) (subst (λ x. LinesOf v last x (outlook v last)) (last-time (omega arith) (omega arith)) means)

  few_run : length ls.times < 2 → last ≡ rs
  few_run h = run_is promise ∙ latest-short rs (ordered promise) (omega (arith, long))

  pub given_open : (outlook_of t.outlook ≡ open_strip) ↔ (length ls.times < 2)
  given_open = (λ e. by e (ltb (length ls.times) 2) refl, λ h. told_outlook promise ∙ ap (outlook v) (few_run h) ∙ (short_open v rs (omega (arith, long))).0)
    where
      by : outlook_of t.outlook ≡ open_strip → (b : Bool) → ltb (length ls.times) 2 ≡ b → length ls.times < 2
      by e true f = ltb-true (length ls.times) 2 f
      by e false f = not_open (given_lines_is (ltb-false (length ls.times) 2 f)) e

  told_corners : t.corners ≡ length (corners_in (fit_of last))
  unfolding trend_of
  told_corners = ap (λ x. x.corners) (trend_is promise) ∙ ap (λ l. length (corners_in (fit_of l))) (sym (run_is promise))

  pub given_few : length ls.times < 2 → (t.ranges ≡ length ls.times) × (t.corners ≡ 0) × (ps' ≡ ps) × (qs' ≡ qs) × (ds' ≡ ds)
  unfolding trend_of
  given_few h =
      let none = (short_open v rs (omega (arith, long))).1 in
      let run-all = sym (run_is promise) ∙ few_run h in
      let kept = lines_none (slices promise) (called promise) (ap (λ l. corners_in (fit_of l)) run-all ∙ none) in
      (sym (run_length promise).0 ∙ ap length (few_run h) ∙ long, told_corners ∙ ap (λ l. length (corners_in (fit_of l))) (few_run h) ∙ ap length none, kept.0, kept.1, kept.2)

  pub given_none : length ls.times < 2 → (l : Line) → Corner last l → ⊥
  given_none h = few_no_corner last (omega (arith, ap length (few_run h), long))

  -- ---- the corners

  module _ (more : 2 ≤ length ls.times) where
    abbrev given : List Line
    given = given_lines t.corners ps' qs' ds'

    two : 2 ≤ length last
    two = omega (arith, given_two more, (run_length promise).0)

    pub given_corners : given ≡ corners last
    unfolding trend_of
    given_corners =
        lines_given (slices promise) (called promise) (told_corners ∙ ap (λ l. length (corners_in (fit_of l))) (run_is promise))
        ∙ ap (λ l. corners_in (fit_of l)) (sym (run_is promise))
        ∙ fit-corners last two

    pub given_about : (P : List Range → List Line → Type 0) → ((r s : Range) (ws : List Range) → Ordered (r ∷ s ∷ ws) → HasLine (r ∷ s ∷ ws) → P (r ∷ s ∷ ws) (corners (r ∷ s ∷ ws))) → P last given
    given_about P h = subst (P last) (sym given_corners) (corners_about P h last two (run_ordered promise) (given_line (omega arith)))

    pub given_count : (t.corners ≡ length (corners last)) × (t.corners ≤ 2 * t.ranges)
    given_count =
        let m : t.corners ≡ length (corners last) = told_corners ∙ ap length (fit-corners last two) in
        (m, omega (arith, m, ap length given_corners, given_about (λ rs ks. length ks ≤ 2 * length rs) (λ r s ws o h. corners_count r s ws o h), (run_length promise).0))

    pub given_some : 0 < t.corners
    given_some = omega (arith, given_count.0, ap length given_corners, given_about (λ rs ks. 0 < length ks) (λ r s ws o h. corners_some r s ws o h))

    pub given_fit : All (InFit last) given
    given_fit = given_about (λ rs ks. All (InFit rs) ks) (λ r s ws o h. corners_fit r s ws o h)

    pub given_mean : (l : Line) → InFit last l → WeightedMean given l
    given_mean = given_about (λ rs ks. (l : Line) → InFit rs l → WeightedMean ks l) (λ r s ws o h. corners_mean r s ws o h)

    pub given_exact : (l : Line) → In l given ↔ (Corner last l × InLowestTerms l.p l.q l.d)
    given_exact = given_about (λ rs ks. (l : Line) → In l ks ↔ (Corner rs l × InLowestTerms l.p l.q l.d)) (λ r s ws o h. corners_exact r s ws o h)

    pub given_ordered : InCornerOrder given
    given_ordered = given_about (λ rs ks. InCornerOrder ks) (λ r s ws o h. corners_ordered r s ws o h)

    pub given_by_diagonal : ByDiagonal given
    given_by_diagonal = given_about (λ rs ks. ByDiagonal ks) (λ r s ws o h. corners_by_diagonal r s ws o h)

    pub given_once : Nodup given
    given_once = given_about (λ rs ks. Nodup ks) (λ r s ws o h. corners_once r s ws o h)

    pub given_past : (drop t.corners ps' ≡ drop t.corners ps) × (drop t.corners qs' ≡ drop t.corners qs) × (drop t.corners ds' ≡ drop t.corners ds)
    unfolding trend_of
    given_past = lines_past (slices promise) (called promise) (told_corners ∙ ap (λ l. length (corners_in (fit_of l))) (run_is promise))

-- ---- refused

module _ {v : Service} {ls : Lists} {ps qs ds ps' qs' ds' : List ℤ} {e : Refusal} (promise : LatestPromise v ls ps qs ds ps' qs' ds' (Err e)) where
  found_refused : latest_call (three_lengths ps qs ds) v ls ≡ refused (refusal_number e)
  unfolding latest_meaning
  found_refused = bind-refused (latest_call (three_lengths ps qs ds) v ls) told_of (refusal_number e) (sym promise.answer_is)

  pub refused_kept : (ps' ≡ ps) × (qs' ≡ qs) × (ds' ≡ ds)
  refused_kept = lines_kept (slices promise) found_refused
