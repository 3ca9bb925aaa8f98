-- The calls on the mirror image of a trace, and what they give: on the way to the front page `Mirror`. Nothing is asked of the lists or of the service; what the trial lets through is in order.
--
--     segment_call_mirrored   Segment gives the images of the segments, or the same number
--     numbers-mirrored        the row of the image of a segment is the image of its row
--     running-mirrored        the segment running after k ranges of the image is the image of that of the trace
--     corner_count_mirrored   Corners tells the same of its fit, or gives the same number
--
-- The two calls may be lent slices of other lengths, as long as both have room or neither has.
-- Assumes nothing.
use Rattle.std.specs.Prelude.{◌≡◌, refl, ℕ, take}
use Rattle.std.proofs.Math.Path.{sym, ap}
use Rattle.std.proofs.Common.{◌∙◌}
use mathlib.Core.List.{List, [], ◌∷◌, map}
use Rattle.integers.specs.Images.{take-map}
use Rattle.definitions.specs.Spans.{segment_room, corner_room}
use Rattle.definitions.specs.Services.{Service}
use Rattle.definitions.specs.Ranges.{Range, Lists, ranges_of}
use Rattle.definitions.specs.Fit.{HasLine, Ordered}
use Rattle.definitions.specs.Splits.{GoodRun, last_run}
use Rattle.definitions.specs.Segments.{segments, running_after}
use Rattle.definitions.specs.Outlook.{Outlook, open_strip, lines}
use Rattle.definitions.specs.Results.{Segment, segments_of, slow_line, fast_line, some_number, all_number, numbers_of}
use Rattle.definitions.specs.Answers.{accepted, ◌>>=◌, firstRow}
use Rattle.definitions.specs.Trial.{too_short, segment_rows, corner_rows}
use Rattle.definitions.specs.Calls.{fit_of, segment_call, corners_call}
use Rattle.definitions.specs.Mirrors.{mirrored_range, mirrored_lists, mirrored_service, mirrored_outlook, mirrored_segment, mirrored_numbers}
use Rattle.splits.specs.Cutting.{last_run-map}
use Rattle.trial_laws.specs.CallLaws.{then-then, then-known}
use Rattle.trial_laws.specs.Accepted.{segment-accepted}
use Rattle.trial_laws.proofs.MirroredTrial.{ranges-mirrored, segment_trial_mirrored, corner_trial_mirrored}
use Rattle.lines.specs.Mirrored.{mirrored}
use Rattle.lines.specs.MirroredFit.{segments-mirrored}
use Rattle.lines.proofs.MirroredOutlook.{segments_of-mirrored}
use Rattle.lines.specs.MirroredCorners.{ring-length}
use Rattle.lines.proofs.MirroredCorners.{corners_mirrored}
use Rattle.drift.specs.CornersPromise.{count_of, corner_count}
use Rattle.drift.specs.RunningSegment.{running_ordered, running_good}

-- ---- Segment

module _ (v : Service) (ls : Lists) (ns ns' : List ℕ) (alike : too_short segment_room ns' ≡ too_short segment_room ns) where
  segments-given : firstRow (segment_rows ns v ls) ≡ accepted tt → segments_of (mirrored_service v) (ranges_of (mirrored_lists ls)) ≡ map mirrored_segment (segments_of v (ranges_of ls))
  segments-given e =
      let h = (segment-accepted ns v ls).0 e in
      ap (segments_of (mirrored_service v)) (ranges-mirrored ls) ∙ segments_of-mirrored v h.1.direction_in_is (ranges_of ls) h.2.ranges.ordered

  pub segment_call_mirrored : segment_call ns' (mirrored_service v) (mirrored_lists ls) ≡ (segment_call ns v ls >>= λ ss. accepted (map mirrored_segment ss))
  unfolding segment_call ◌>>=◌
  segment_call_mirrored =
      let found = segments_of (mirrored_service v) (ranges_of (mirrored_lists ls)) in
      let given = map mirrored_segment (segments_of v (ranges_of ls)) in
      ap (λ x. x >>= λ ok. accepted found) (segment_trial_mirrored ls ns ns' v alike)
      ∙ then-known (firstRow (segment_rows ns v ls)) (λ ok. accepted found) (λ ok. accepted given) (λ ok e. ap accepted (segments-given e))
      ∙ sym (then-then (firstRow (segment_rows ns v ls)) (λ ok. accepted (segments_of v (ranges_of ls))) (λ ss. accepted (map mirrored_segment ss)))

-- the zeros of an open segment are their own images
pub numbers-mirrored : (s : Segment) → numbers_of (mirrored_segment s) ≡ mirrored_numbers (numbers_of s)
unfolding numbers_of mirrored_segment mirrored_numbers mirrored_outlook slow_line fast_line some_number all_number
numbers-mirrored s = by s.outlook
  where
    by : (o : Outlook) → numbers_of (mirrored_segment (record { first_time = s.first_time; last_time = s.last_time; count = s.count; outlook = o })) ≡ mirrored_numbers (numbers_of (record { first_time = s.first_time; last_time = s.last_time; count = s.count; outlook = o }))
    by open_strip = refl
    by (lines slow fast t u) = refl

-- ---- Corners

pub running-mirrored : (k : ℕ) (ls : Lists) → running_after k (ranges_of (mirrored_lists ls)) ≡ mirrored (running_after k (ranges_of ls))
unfolding running_after
running-mirrored k ls =
    ap (λ rs. last_run (segments (take k rs))) (ranges-mirrored ls)
    ∙ ap (λ rs. last_run (segments rs)) (take-map mirrored_range k (ranges_of ls))
    ∙ ap last_run (segments-mirrored (take k (ranges_of ls)))
    ∙ last_run-map mirrored_range (segments (take k (ranges_of ls)))

count-mirrored : (rs : List Range) → Ordered rs → GoodRun HasLine rs → count_of (fit_of (mirrored rs)) ≡ count_of (fit_of rs)
unfolding fit_of count_of
count-mirrored [] o g = absurd g
count-mirrored (r ∷ []) o g = refl
count-mirrored (r ∷ s ∷ ws) o g = ap corner_count (ring-length (corners_mirrored r s ws o g))

module _ (k : ℕ) (ls : Lists) (ns ns' : List ℕ) (alike : too_short corner_room ns' ≡ too_short corner_room ns) where
  count_given : firstRow (corner_rows ns k ls) ≡ accepted tt → count_of (fit_of (running_after k (ranges_of (mirrored_lists ls)))) ≡ count_of (fit_of (running_after k (ranges_of ls)))
  count_given e = ap (λ rs. count_of (fit_of rs)) (running-mirrored k ls) ∙ count-mirrored (running_after k (ranges_of ls)) (running_ordered ns k ls e) (running_good ns k ls e)

  pub corner_count_mirrored : (corners_call ns' k (mirrored_lists ls) >>= λ fit. accepted (count_of fit)) ≡ (corners_call ns k ls >>= λ fit. accepted (count_of fit))
  unfolding corners_call ◌>>=◌
  corner_count_mirrored =
      let image = fit_of (running_after k (ranges_of (mirrored_lists ls))) in
      let fit = fit_of (running_after k (ranges_of ls)) in
      then-then (firstRow (corner_rows ns' k (mirrored_lists ls))) (λ ok. accepted image) (λ f. accepted (count_of f))
      ∙ ap (λ x. x >>= λ ok. accepted (count_of image)) (corner_trial_mirrored ls ns ns' k alike)
      ∙ then-known (firstRow (corner_rows ns k ls)) (λ ok. accepted (count_of image)) (λ ok. accepted (count_of fit)) (λ ok e. ap accepted (count_given e))
      ∙ sym (then-then (firstRow (corner_rows ns k ls)) (λ ok. accepted fit) (λ f. accepted (count_of f)))
