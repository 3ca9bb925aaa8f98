-- A trace and its mirror image, through the calls: level, lows and highs negated, lows and highs exchanged, the direction turned, the step kept. Theorems about the answers and the slices of two calls, one on
-- the trace (`promise`) and one on its image (`image`), whatever was lent; only the slices of both must be long enough, or some of each too short.
--
--     segment_mirrored           Segment gives the same number of segments, or is refused with the same number
--     corners_answer_mirrored    Corners gives the same number of corners, or open again, or is refused with the same number
--     ring_mirrored              where it gave corners, those of the image are the corners of the trace negated, in the same order, begun at the one of greatest slope and, past the last,
--                                gone on with from the first (`TurnedRing`)
--
-- Rows are counted from 0. Example: where `promise` is about a falling trace, its image rises, and `rows_mirrored promise image alike e j h` tells the j-th row of the one by that of the other.
-- Further laws stand in proofs/Mirror.antt.
-- Assumes nothing.
use Rattle.definitions.specs.declared.refusals.Refusal.{Refusal}
use Rattle.std.specs.Prelude.{◌≡◌, ℕ, ℤ, length, Err, None, Ok, Option, Result, Some}
use Rattle.std.proofs.Math.Path.{sym, ap}
use Rattle.std.proofs.Common.{◌∙◌, subst, arith}
use mathlib.Core.List.{List, map}
use Rattle.std.proofs.lemmas.List.{length-map}
use Rattle.definitions.specs.Spans.{segment_room, corner_room}
use Rattle.definitions.specs.Services.{Service}
use Rattle.definitions.specs.Ranges.{Lists}
use Rattle.definitions.specs.Corners.{corners}
use Rattle.definitions.specs.Answers.{accepted, ◌>>=◌}
use Rattle.definitions.specs.Trial.{too_short}
use Rattle.definitions.specs.Calls.{segment_call}
use Rattle.definitions.specs.Mirrors.{mirrored_lists, mirrored_service, mirrored_segment}
use Rattle.trial_laws.specs.Rows.{refused_not_accepted}
use Rattle.trial_laws.specs.CallLaws.{accepted-is, then-then, then_same}
use Rattle.lines.specs.Mirrored.{mirrored}
use Rattle.lines.specs.MirroredCorners.{TurnedRing}
use Rattle.lines.proofs.MirroredCorners.{corners_mirrored}
use Rattle.drift.specs.Columns.{Columns, lengths}
use Rattle.drift.specs.SegmentPromise.{segment_meaning, SegmentPromise}
use Rattle.drift.specs.CornersPromise.{corner_count, corners_meaning, three_lengths, CornersPromise}
use Rattle.drift.specs.GivenLines.{given_lines}
use Rattle.drift.specs.CornerTheorems.{given_corners, given_about}
use Rattle.drift.specs.MirroredCalls.{segment_call_mirrored, running-mirrored, corner_count_mirrored}

-- ---- the answers

pub accepted-only : (a : Result ℕ Refusal) (n : ℕ) → segment_meaning a ≡ accepted n → a ≡ Ok n
unfolding segment_meaning
accepted-only (Ok m) n e = ap Ok (accepted-is e)
accepted-only (Err m) n e = refused_not_accepted e

corners-only : (a : Result (Option ℕ) Refusal) (n : ℕ) → corners_meaning a ≡ accepted (corner_count n) → a ≡ Ok (Some n)
unfolding corners_meaning
corners-only (Ok (Some m)) n e = let is : m ≡ n = cc in ap (λ m. Ok (Some m)) is
corners-only (Ok None) n e = let z : ◌≡◌ {A = ℕ} 0 1 = cc in absurd (omega arith)
corners-only (Err m) n e = refused_not_accepted e

-- ---- Segment

module _ {v : Service} {ls : Lists} {old new old' new' : Columns} where
  module _ {answer answer' : Result ℕ Refusal} (promise : SegmentPromise v ls old new answer) (image : SegmentPromise (mirrored_service v) (mirrored_lists ls) old' new' answer')
      (alike : too_short segment_room (lengths old') ≡ too_short segment_room (lengths old)) where
    pub segment_mirrored : segment_meaning answer' ≡ segment_meaning answer
    unfolding ◌>>=◌
    segment_mirrored =
        let call = segment_call (lengths old) v ls in
        image.answer_is
        ∙ ap (λ x. x >>= λ ss. accepted (length ss)) (segment_call_mirrored v ls (lengths old) (lengths old') alike)
        ∙ then-then call (λ ss. accepted (map mirrored_segment ss)) (λ ss. accepted (length ss))
        ∙ then_same call (λ ss. accepted (length (map mirrored_segment ss))) (λ ss. accepted (length ss)) (λ ss. ap accepted (length-map ss mirrored_segment))
        ∙ sym promise.answer_is

-- ---- Corners

module _ {k : ℕ} {ls : Lists} {ps qs ds ps₁ qs₁ ds₁ ps' qs' ds' ps₁' qs₁' ds₁' : List ℤ} {answer answer' : Result (Option ℕ) Refusal} (promise : CornersPromise k ls ps qs ds ps₁ qs₁ ds₁ answer)
    (image : CornersPromise k (mirrored_lists ls) ps' qs' ds' ps₁' qs₁' ds₁' answer') (alike : too_short corner_room (three_lengths ps' qs' ds') ≡ too_short corner_room (three_lengths ps qs ds)) where
  pub corners_answer_mirrored : corners_meaning answer' ≡ corners_meaning answer
  corners_answer_mirrored = image.answer_is ∙ corner_count_mirrored k ls (three_lengths ps qs ds) (three_lengths ps' qs' ds') alike ∙ sym promise.answer_is

  pub ring_mirrored : {n : ℕ} → corners_meaning answer ≡ accepted (corner_count n) → TurnedRing (given_lines n ps₁ qs₁ ds₁) (given_lines n ps₁' qs₁' ds₁')
  ring_mirrored {n} e =
      let given = subst (CornersPromise k ls ps qs ds ps₁ qs₁ ds₁) (corners-only answer n e) promise in
      let turned = subst (CornersPromise k (mirrored_lists ls) ps' qs' ds' ps₁' qs₁' ds₁') (corners-only answer' n (corners_answer_mirrored ∙ e)) image in
      subst (TurnedRing (given_lines n ps₁ qs₁ ds₁)) (sym (given_corners turned ∙ ap corners (running-mirrored k ls)))
      (given_about given (λ rs ks. TurnedRing ks (corners (mirrored rs))) (λ r s ws o h. corners_mirrored r s ws o h))
