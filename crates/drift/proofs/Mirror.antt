-- Laws that rest on those of specs/Mirror.antt.
--
--     rows_mirrored              where it accepted, the j-th row of the image has the same first and last time, number of ranges, *some* and *all*; its slow line is the fast line of the
--                                trace negated, −p, −q and the same d, and its fast line the slow one; the zeros of an open segment stay (`mirrored_numbers`)
--
-- Assumes nothing.
use Rattle.definitions.specs.declared.refusals.Refusal.{Refusal}
use Rattle.std.specs.Prelude.{◌≡◌, ℕ, ◌<◌, get_or}
use Rattle.std.proofs.Math.Path.{sym, ap}
use Rattle.std.proofs.Common.{◌∙◌, subst, Ok, Result}
use mathlib.Core.List.{[], map}
use Rattle.std.proofs.Math.ListN.{get_or-map}
use Rattle.definitions.specs.Spans.{segment_room}
use Rattle.definitions.specs.Services.{Service}
use Rattle.definitions.specs.Ranges.{Lists, ranges_of}
use Rattle.definitions.specs.Results.{segment_of, segments_of, numbers_of}
use Rattle.definitions.specs.Answers.{accepted, ◌>>=◌}
use Rattle.definitions.specs.Trial.{too_short}
use Rattle.definitions.specs.Mirrors.{mirrored_lists, mirrored_service, mirrored_outlook, mirrored_segment, mirrored_numbers}
use Rattle.trial_laws.specs.CallLaws.{accepted-is}
use Rattle.drift.specs.Columns.{Columns, lengths, row_at}
use Rattle.drift.specs.SegmentPromise.{segment_meaning, SegmentPromise}
use Rattle.drift.specs.GivenColumns.{called, row-at}
use Rattle.drift.specs.MirroredCalls.{segment_call_mirrored, numbers-mirrored}
use Rattle.drift.specs.Mirror.{accepted-only, segment_mirrored}

module _ {v : Service} {ls : Lists} {old new old' new' : Columns} where
  -- both accepted
  row_mirrored : {n : ℕ} → SegmentPromise v ls old new (Ok n) → SegmentPromise (mirrored_service v) (mirrored_lists ls) old' new' (Ok n)
      → too_short segment_room (lengths old') ≡ too_short segment_room (lengths old) → (j : ℕ) → j < n → row_at new' j ≡ mirrored_numbers (row_at new j)
  unfolding ◌>>=◌ segment_of mirrored_segment mirrored_outlook
  row_mirrored promise image alike j h =
      let ss = segments_of v (ranges_of ls) in
      let past = segment_of v [] in
      let segments-are = accepted-is (sym (called image) ∙ segment_call_mirrored v ls (lengths old) (lengths old') alike ∙ ap (λ x. x >>= λ ss. accepted (map mirrored_segment ss)) (called promise)) in
      row-at image j h
      ∙ ap (λ xs. numbers_of (get_or xs j (mirrored_segment past))) segments-are
      ∙ ap numbers_of (get_or-map mirrored_segment ss j past)
      ∙ numbers-mirrored (get_or ss j past)
      ∙ ap mirrored_numbers (sym (row-at promise j h))

  module _ {answer answer' : Result ℕ Refusal} (promise : SegmentPromise v ls old new answer) (image : SegmentPromise (mirrored_service v) (mirrored_lists ls) old' new' answer')
      (alike : too_short segment_room (lengths old') ≡ too_short segment_room (lengths old)) where
    pub rows_mirrored : {n : ℕ} → segment_meaning answer ≡ accepted n → (j : ℕ) → j < n → row_at new' j ≡ mirrored_numbers (row_at new j)
    rows_mirrored {n} e =
        row_mirrored (subst (SegmentPromise v ls old new) (accepted-only answer n e) promise)
        (subst (SegmentPromise (mirrored_service v) (mirrored_lists ls) old' new') (accepted-only answer' n (segment_mirrored promise image alike ∙ e)) image) alike
