-- Latest on a trace and on its mirror image: level, lows and highs negated, lows and highs exchanged, the direction turned, the step kept. Theorems about the answers and the slices of two calls, one on the
-- trace (`promise`) and one on its image (`image`), whatever was lent; only the slices of both must be long enough, or some of each too short.
--
--     mirrored_told             as many ranges and corners, and the image of the outlook
--     latest_told_mirrored     of the scope's calls: refused with the same number, or the image is told
--     latest_answer_mirrored   the same of two answers
--     ring_mirrored            where there are two ranges or more, the corners of the image are those of the trace negated, in the same order, begun at the one of greatest slope (`TurnedRing`)
--
-- Assumes nothing.
use Rattle.definitions.specs.declared.refusals.Refusal.{Refusal}
use Rattle.std.specs.Prelude.{◌≡◌, refl, List, [], ◌∷◌, ℕ, ◌<◌, ◌≤◌, ℤ, take, Ok, Result}
use Rattle.std.proofs.Math.Path.{sym, ap}
use Rattle.std.proofs.Common.{◌∙◌, subst, arith}
use Rattle.std.proofs.Math.ListN.{length, length-map}
use Rattle.definitions.specs.Spans.{corner_room}
use Rattle.definitions.specs.Services.{Service}
use Rattle.definitions.specs.Ranges.{Range, Lists, ranges_of}
use Rattle.definitions.specs.Corners.{corners}
use Rattle.definitions.specs.Fit.{HasLine, Ordered}
use Rattle.definitions.specs.Splits.{GoodRun}
use Rattle.definitions.specs.Outlook.{outlook}
use Rattle.definitions.specs.Answers.{accepted, ◌>>=◌, firstRow}
use Rattle.definitions.specs.Trial.{too_short, latest_rows}
use Rattle.definitions.specs.Calls.{fit_of, corners_in}
use Rattle.definitions.specs.Latest.{latest_run, trend_of, latest_call}
use Rattle.definitions.specs.Mirrors.{mirrored_range, mirrored_lists, mirrored_service, mirrored_outlook}
use Rattle.trial_laws.specs.CallLaws.{then-then, then-known}
use Rattle.trial_laws.specs.Accepted.{latest-accepted}
use Rattle.trial_laws.proofs.MirroredTrial.{ranges-mirrored, latest_trial_mirrored}
use Rattle.splits.specs.OrderedRanges.{ordered-right}
use Rattle.lines.specs.Mirrored.{mirrored}
use Rattle.lines.proofs.MirroredOutlook.{outlook_mirrored}
use Rattle.lines.specs.MirroredCorners.{TurnedRing, ring-length}
use Rattle.lines.proofs.MirroredCorners.{corners_mirrored}
use Rattle.lines.specs.LatestTrend.{rest_of, latest-suffix, latest_has_line, latest-mirrored}
use Rattle.drift.specs.GivenLines.{given_lines}
use Rattle.drift.specs.CornersPromise.{three_lengths}
use Rattle.latest.specs.declared.Trend.{Trend}
use Rattle.latest.specs.LatestPromise.{Told, told_of, latest_meaning, LatestPromise}
use Rattle.latest.specs.GivenTrends.{run_is}
use Rattle.latest.specs.LatestTheorems.{given_corners, given_about}

abbrev pub mirrored_told : Told → Told
mirrored_told t = record { ranges = t.ranges; outlook = mirrored_outlook t.outlook; corners = t.corners }

-- ---- the scope's calls

count-mirrored : (rs : List Range) → Ordered rs → (0 < length rs → GoodRun HasLine rs) → length (corners_in (fit_of (mirrored rs))) ≡ length (corners_in (fit_of rs))
unfolding fit_of corners_in
count-mirrored [] o g = refl
count-mirrored (r ∷ []) o g = refl
count-mirrored (r ∷ s ∷ ws) o g = ring-length (corners_mirrored r s ws o (g (omega arith)))

module _ (v : Service) (ls : Lists) (ns ns' : List ℕ) (alike : too_short corner_room ns' ≡ too_short corner_room ns) where
  abbrev rs : List Range
  rs = ranges_of ls

  abbrev image_run : List Range
  image_run = latest_run (ranges_of (mirrored_lists ls))

  run_mirrored : image_run ≡ mirrored (latest_run rs)
  run_mirrored = ap latest_run (ranges-mirrored ls) ∙ latest-mirrored rs

  told_given : firstRow (latest_rows ns v ls) ≡ accepted tt → told_of (trend_of (mirrored_service v) image_run) ≡ mirrored_told (told_of (trend_of v (latest_run rs)))
  unfolding trend_of
  told_given e =
      let h = (latest-accepted ns v ls).0 e in
      let order = h.2.ranges.ordered in
      let (whole, few) = latest-suffix rs in
      let run_ordered = ordered-right (take (rest_of rs) rs) (latest_run rs) (subst Ordered whole order) in
      let ranges_are = ap length run_mirrored ∙ length-map (latest_run rs) mirrored_range in
      let outlook_is = ap (outlook (mirrored_service v)) run_mirrored ∙ outlook_mirrored v h.1.direction_in_is (latest_run rs) run_ordered in
      let count-is = ap (λ run. length (corners_in (fit_of run))) run_mirrored ∙ count-mirrored (latest_run rs) run_ordered (λ some. latest_has_line rs order (omega arith)) in
      λ i. record { ranges = ranges_are i; outlook = outlook_is i; corners = count-is i }

  pub latest_told_mirrored : (latest_call ns' (mirrored_service v) (mirrored_lists ls) >>= λ t. accepted (told_of t)) ≡ (latest_call ns v ls >>= λ t. accepted (mirrored_told (told_of t)))
  unfolding latest_call ◌>>=◌
  latest_told_mirrored =
      let image = trend_of (mirrored_service v) image_run in
      let trend = trend_of v (latest_run rs) in
      then-then (firstRow (latest_rows ns' (mirrored_service v) (mirrored_lists ls))) (λ ok. accepted image) (λ t. accepted (told_of t))
      ∙ ap (λ x. x >>= λ ok. accepted (told_of image)) (latest_trial_mirrored ls ns ns' v alike)
      ∙ then-known (firstRow (latest_rows ns v ls)) (λ ok. accepted (told_of image)) (λ ok. accepted (mirrored_told (told_of trend))) (λ ok e. ap accepted (told_given e))
      ∙ sym (then-then (firstRow (latest_rows ns v ls)) (λ ok. accepted trend) (λ t. accepted (mirrored_told (told_of t))))

-- ---- the answers

module _ {v : Service} {ls : Lists} {ps qs ds ps₁ qs₁ ds₁ ps' qs' ds' ps₁' qs₁' ds₁' : List ℤ} where
  module _ {answer answer' : Result Trend Refusal} (promise : LatestPromise v ls ps qs ds ps₁ qs₁ ds₁ answer) (image : LatestPromise (mirrored_service v) (mirrored_lists ls) ps' qs' ds' ps₁' qs₁' ds₁' answer')
      (alike : too_short corner_room (three_lengths ps' qs' ds') ≡ too_short corner_room (three_lengths ps qs ds)) where
    pub latest_answer_mirrored : latest_meaning answer' ≡ (latest_meaning answer >>= λ t. accepted (mirrored_told t))
    unfolding ◌>>=◌
    latest_answer_mirrored =
        image.answer_is
        ∙ latest_told_mirrored v ls (three_lengths ps qs ds) (three_lengths ps' qs' ds') alike
        ∙ sym (ap (λ x. x >>= λ t. accepted (mirrored_told t)) promise.answer_is ∙ then-then (latest_call (three_lengths ps qs ds) v ls) (λ t. accepted (told_of t)) (λ t. accepted (mirrored_told t)))

  pub ring_mirrored : {t t' : Trend} (promise : LatestPromise v ls ps qs ds ps₁ qs₁ ds₁ (Ok t)) (image : LatestPromise (mirrored_service v) (mirrored_lists ls) ps' qs' ds' ps₁' qs₁' ds₁' (Ok t'))
      → 2 ≤ length ls.times → TurnedRing (given_lines t.corners ps₁ qs₁ ds₁) (given_lines t'.corners ps₁' qs₁' ds₁')
  ring_mirrored {t} promise image two =
      let image-is = run_is image ∙ ap latest_run (ranges-mirrored ls) ∙ latest-mirrored (ranges_of ls) ∙ ap mirrored (sym (run_is promise)) in
      subst (TurnedRing (given_lines t.corners ps₁ qs₁ ds₁)) (sym (given_corners image two ∙ ap corners image-is))
      (given_about promise two (λ rs ks. TurnedRing ks (corners (mirrored rs))) (λ r s ws o h. corners_mirrored r s ws o h))
