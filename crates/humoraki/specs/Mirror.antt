-- A trace and its mirror image, through the library: level, lows and highs negated, lows and highs exchanged, the direction turned, the step kept. Theorems about what two calls give and leave, one on the
-- trace (`after`) and one on its image (`image`). What is lent may differ; only the slices of both calls must be long enough, or some of each too short.
--
--     segment_number_mirrored        both calls of Segment give one number
--     segment_count_mirrored         where it is 0, they set the same count
--     segment_rows_mirrored          and the j-th row in the slices of the image is the image of the j-th row in those of the trace
--     preview_number_mirrored        both calls of Preview, the range mirrored as well, give one number
--     preview_kind_mirrored, preview_eight_mirrored   where it is 0, they set the same kind, and the eight numbers of the image
--     latest_number_mirrored         both calls of Latest give one number
--     latest_ranges_mirrored, latest_eight_mirrored, latest_count_mirrored   where it is 0, they set the same number of ranges, the eight numbers of the image, and the same count of corners
--     latest_ring_mirrored           and where there are two ranges or more, the lines in the slices of the image are those of the trace negated, in the same order, begun at the one of greatest slope
--     corners_number_mirrored        both calls of Corners give one number
--     corners_count_mirrored         where it is 0, they set the same count
--     corners_ring_mirrored          and where that is not 0, the lines in the slices of the image are those of the trace negated, in the same order, begun at the one of greatest slope
--
-- Assumes nothing.
use Rattle.std.specs.Prelude.{ℕ, ◌<◌, ◌≤◌, ◌≡◌, refl, map, length}
use Rattle.std.proofs.Common.{sym, ◌∙◌, arith}
use Rattle.std.proofs.Math.Path.{ap}
use Rattle.definitions.specs.Spans.{segment_room, corner_room}
use Rattle.definitions.specs.Services.{Service}
use Rattle.definitions.specs.Ranges.{Range, Lists}
use Rattle.definitions.specs.Outlook.{Outlook}
use Rattle.definitions.specs.Results.{numbers_of, outlook_numbers, last_eight}
use Rattle.definitions.specs.Answers.{accepted, ◌>>=◌, refusal}
use Rattle.definitions.specs.Trial.{too_short}
use Rattle.definitions.specs.Calls.{Fit, open_strip, bounded, corners_in}
use Rattle.definitions.specs.Previews.{Effect, joins, begins, kind_number, effect_outlook}
use Rattle.definitions.specs.Mirrors.{mirrored_range, mirrored_lists, mirrored_service, mirrored_outlook, mirrored_segment, mirrored_numbers, mirrored_eight, mirrored_effect}
use Rattle.trial_laws.specs.CallLaws.{accepted-is, refusal-tells}
use Rattle.lines.specs.MirroredCorners.{TurnedRing}
use Rattle.values.specs.Meanings.{outlook_of}
use Rattle.drift.specs.Columns.{lengths, row_at}
use Rattle.drift.specs.SegmentPromise.{segment_meaning}
use Rattle.drift.specs.CornersPromise.{corner_count, count_of, corners_meaning, three_lengths}
use Rattle.drift.specs.GivenLines.{given_lines}
use Rattle.drift.specs.MirroredCalls.{segment_call_mirrored, numbers-mirrored, corner_count_mirrored}
use Rattle.drift.specs.Mirror.{segment_mirrored, ring_mirrored}
use Rattle.drift.proofs.Mirror.{rows_mirrored}
use Rattle.preview.specs.Mirror.{preview_call_mirrored}
use Rattle.answer_numbers.specs.Told.{corner_number}
use Rattle.humoraki.specs.Promises.{SegmentLent, segment_answer, AfterSegment, CornersLent, corners_answer, AfterCorners, PreviewLent, preview_answer, AfterPreview, LatestLent, latest_answer, AfterLatest}
use Rattle.latest.specs.LatestPromise.{told_of, trend_meaning, latest_meaning}
use Rattle.latest.specs.Mirror.{mirrored_told, latest_told_mirrored, latest_answer_mirrored, ring_mirrored as latest-ring}
use Rattle.humoraki.specs.LatestNumbers as LatestNumbers
use Rattle.humoraki.specs.LatestNumbers.{trend_at}
use Rattle.humoraki.specs.OpenFit.{answer_of, promise_below, fit_found, count_found}
use Rattle.humoraki.specs.PreviewNumbers.{effect_found, kind_found, numbers_found}
use Rattle.humoraki.specs.PreviewAgreement.{segment-below}
use Rattle.trial_laws.specs.RefusalNumbers.{answer_with}

-- ---- Segment

accepted-zero : {number : ℕ} (count : ℕ) → number ≡ 0 → segment_meaning (answer_with count number) ≡ accepted count
unfolding segment_meaning answer_with
accepted-zero count zero = ap (λ n. segment_meaning (answer_with count n)) zero

module _ {v : Service} {ls : Lists} {old new old' new' : SegmentLent} {number number' : ℕ} (after : AfterSegment v ls old new number) (image : AfterSegment (mirrored_service v) (mirrored_lists ls) old' new' number')
    (alike : too_short segment_room (lengths old'.columns) ≡ too_short segment_room (lengths old.columns)) where
  pub segment_number_mirrored : number' ≡ number
  segment_number_mirrored =
      image.counted.number_is
      ∙ ap refusal (segment_call_mirrored v ls (lengths old.columns) (lengths old'.columns) alike)
      ∙ refusal-tells (map mirrored_segment) (segment_answer v ls old)
      ∙ sym after.counted.number_is

  module _ (zero : number ≡ 0) where
    pub segment_count_mirrored : new'.count ≡ new.count
    segment_count_mirrored =
        accepted-is
        (sym (accepted-zero new'.count (segment_number_mirrored ∙ zero)) ∙ segment_mirrored (segment-below after) (segment-below image) alike ∙ accepted-zero new.count zero)

    pub segment_rows_mirrored : (j : ℕ) → j < new.count → row_at new'.columns j ≡ mirrored_numbers (row_at new.columns j)
    segment_rows_mirrored = rows_mirrored (segment-below after) (segment-below image) alike (accepted-zero new.count zero)

-- ---- Preview

kind-kept : (e : Effect) → kind_number (mirrored_effect e) ≡ kind_number e
unfolding kind_number mirrored_effect
kind-kept (joins o) = refl
kind-kept (begins o) = refl

-- the last eight numbers of a row
eight-mirrored : (o : Outlook) → outlook_numbers (mirrored_outlook o) ≡ mirrored_eight (outlook_numbers o)
unfolding numbers_of mirrored_segment mirrored_numbers
eight-mirrored o = ap last_eight (numbers-mirrored (record { first_time = 0; last_time = 0; count = 0; outlook = o }))

effect_eight : (e : Effect) → outlook_numbers (effect_outlook (mirrored_effect e)) ≡ mirrored_eight (outlook_numbers (effect_outlook e))
unfolding effect_outlook mirrored_effect
effect_eight (joins o) = eight-mirrored o
effect_eight (begins o) = eight-mirrored o

module _ {v : Service} {ls : Lists} {r : Range} {old new old' new' : PreviewLent} {number number' : ℕ} (after : AfterPreview v ls r old new number)
    (image : AfterPreview (mirrored_service v) (mirrored_lists ls) (mirrored_range r) old' new' number') where
  pub preview_number_mirrored : number' ≡ number
  preview_number_mirrored = image.number_is ∙ ap refusal (preview_call_mirrored v ls r) ∙ refusal-tells mirrored_effect (preview_answer v ls r) ∙ sym after.number_is

  module _ (zero : number ≡ 0) where
    preview_image_zero : number' ≡ 0
    preview_image_zero = preview_number_mirrored ∙ zero

    -- what Preview tells of the image
    image_effect : (effect_found image preview_image_zero).0 ≡ mirrored_effect (effect_found after zero).0
    unfolding ◌>>=◌
    image_effect =
        accepted-is
        (sym (effect_found image preview_image_zero).1 ∙ preview_call_mirrored v ls r ∙ ap (λ x. x >>= λ e. accepted (mirrored_effect e)) (effect_found after zero).1)

    pub preview_kind_mirrored : new'.kind ≡ new.kind
    preview_kind_mirrored =
        kind_found image preview_image_zero ∙ ap kind_number image_effect ∙ kind-kept (effect_found after zero).0 ∙ sym (kind_found after zero)

    pub preview_eight_mirrored : new'.numbers ≡ mirrored_eight new.numbers
    preview_eight_mirrored =
        numbers_found image preview_image_zero
        ∙ ap (λ e. outlook_numbers (effect_outlook e)) image_effect
        ∙ effect_eight (effect_found after zero).0
        ∙ ap mirrored_eight (sym (numbers_found after zero))

-- ---- Latest

module _ {v : Service} {ls : Lists} {old new old' new' : LatestLent} {number number' : ℕ} (after : AfterLatest v ls old new number) (image : AfterLatest (mirrored_service v) (mirrored_lists ls) old' new' number')
    (alike : too_short corner_room (three_lengths old'.ps old'.qs old'.ds) ≡ too_short corner_room (three_lengths old.ps old.qs old.ds)) where
  latest_told : (latest_answer (mirrored_service v) (mirrored_lists ls) old' >>= λ t. accepted (told_of t)) ≡ (latest_answer v ls old >>= λ t. accepted (mirrored_told (told_of t)))
  latest_told = latest_told_mirrored v ls (three_lengths old.ps old.qs old.ds) (three_lengths old'.ps old'.qs old'.ds) alike

  pub latest_number_mirrored : number' ≡ number
  latest_number_mirrored =
      image.number_is
      ∙ sym (refusal-tells told_of (latest_answer (mirrored_service v) (mirrored_lists ls) old'))
      ∙ ap refusal latest_told
      ∙ refusal-tells (λ t. mirrored_told (told_of t)) (latest_answer v ls old)
      ∙ sym after.number_is

  module _ (zero : number ≡ 0) where
    latest_image_zero : number' ≡ 0
    latest_image_zero = latest_number_mirrored ∙ zero

    -- what both tell
    image_told : trend_meaning (trend_at image latest_image_zero) ≡ mirrored_told (trend_meaning (trend_at after zero))
    unfolding latest_meaning ◌>>=◌
    image_told = accepted-is (latest_answer_mirrored (LatestNumbers.promise_below after zero) (LatestNumbers.promise_below image latest_image_zero) alike)

    pub latest_ranges_mirrored : new'.ranges ≡ new.ranges
    latest_ranges_mirrored = ap (λ t. t.ranges) image_told

    pub latest_eight_mirrored : new'.numbers ≡ mirrored_eight new.numbers
    latest_eight_mirrored =
        LatestNumbers.numbers-below image latest_image_zero
        ∙ ap (λ t. outlook_numbers t.outlook) image_told
        ∙ eight-mirrored (outlook_of (trend_at after zero).outlook)
        ∙ ap mirrored_eight (sym (LatestNumbers.numbers-below after zero))

    pub latest_count_mirrored : new'.corners ≡ new.corners
    latest_count_mirrored = ap (λ t. t.corners) image_told

    pub latest_ring_mirrored : 2 ≤ length ls.times → TurnedRing (given_lines new.corners new.ps new.qs new.ds) (given_lines new'.corners new'.ps new'.qs new'.ds)
    latest_ring_mirrored two = latest-ring (LatestNumbers.promise_below after zero) (LatestNumbers.promise_below image latest_image_zero) two

-- ---- Corners

count-of : (fit : Fit) → corner_number (count_of fit) ≡ length (corners_in fit)
unfolding corner_number count_of corners_in
count-of open_strip = refl
count-of (bounded ks) = refl

bounded-means : (fit : Fit) (n : ℕ) → length (corners_in fit) ≡ n → 0 < n → corners_meaning (answer_of fit) ≡ accepted (corner_count n)
unfolding answer_of corners_meaning corners_in
bounded-means open_strip n e some = absurd (omega arith)
bounded-means (bounded ks) n e some = ap (λ m. accepted (corner_count m)) e

module _ {k : ℕ} {ls : Lists} {old new old' new' : CornersLent} {number number' : ℕ} (after : AfterCorners k ls old new number) (image : AfterCorners k (mirrored_lists ls) old' new' number')
    (alike : too_short corner_room (three_lengths old'.ps old'.qs old'.ds) ≡ too_short corner_room (three_lengths old.ps old.qs old.ds)) where
  told_mirrored : (corners_answer k (mirrored_lists ls) old' >>= λ fit. accepted (count_of fit)) ≡ (corners_answer k ls old >>= λ fit. accepted (count_of fit))
  told_mirrored = corner_count_mirrored k ls (three_lengths old.ps old.qs old.ds) (three_lengths old'.ps old'.qs old'.ds) alike

  pub corners_number_mirrored : number' ≡ number
  corners_number_mirrored =
      image.counted.number_is
      ∙ sym (refusal-tells count_of (corners_answer k (mirrored_lists ls) old'))
      ∙ ap refusal told_mirrored
      ∙ refusal-tells count_of (corners_answer k ls old)
      ∙ sym after.counted.number_is

  module _ (zero : number ≡ 0) where
    corners_image_zero : number' ≡ 0
    corners_image_zero = corners_number_mirrored ∙ zero

    told_same : count_of (fit_found image corners_image_zero).0 ≡ count_of (fit_found after zero).0
    unfolding ◌>>=◌
    told_same =
        accepted-is
        (sym (ap (λ x. x >>= λ fit. accepted (count_of fit)) (fit_found image corners_image_zero).1) ∙ told_mirrored ∙ ap (λ x. x >>= λ fit. accepted (count_of fit)) (fit_found after zero).1)

    pub corners_count_mirrored : new'.count ≡ new.count
    corners_count_mirrored =
        count_found image corners_image_zero
        ∙ sym (count-of (fit_found image corners_image_zero).0)
        ∙ ap corner_number told_same
        ∙ count-of (fit_found after zero).0
        ∙ sym (count_found after zero)

    pub corners_ring_mirrored : 0 < new.count → TurnedRing (given_lines new.count new.ps new.qs new.ds) (given_lines new.count new'.ps new'.qs new'.ds)
    corners_ring_mirrored some =
        let below = promise_below after (fit_found after zero).1 in
        let image-below = promise_below image (fit_found image corners_image_zero).1 in
        ring_mirrored below image-below alike (bounded-means (fit_found after zero).0 new.count (sym (count_found after zero)) some)
