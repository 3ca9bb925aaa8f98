-- When Segment and Corners refuse and when they accept, as theorems about the answers that a caller holds.
--
--     segment_refused, corners_refused       refused with n exactly if a row with the number n holds and no row that is tried earlier does
--     service-refused                        Segment gives 4 for a level, a direction or a step outside its span, unless 8, 10 or 7 comes before
--     segment-accepted, corners_accepted     accepted, with the number of segments, with what is told of the fit, exactly if no row holds
--
-- Assumes nothing.
use Rattle.definitions.specs.declared.refusals.Refusal.{Refusal}
use Rattle.std.specs.Prelude.{◌≡◌, ◌↔◌, List, ℕ, ℤ, Option, Result}
use Rattle.std.proofs.Math.Path.{ap}
use Rattle.std.proofs.Common.{◌∙◌}
use Rattle.std.proofs.Math.ListN.{length}
use Rattle.definitions.specs.Spans.{segment_room}
use Rattle.definitions.specs.Services.{Service}
use Rattle.definitions.specs.Ranges.{Lists, ranges_of}
use Rattle.definitions.specs.Segments.{running_after}
use Rattle.definitions.specs.Results.{segments_of}
use Rattle.definitions.specs.Answers.{Row, refused, accepted, ◌>>=◌}
use Rattle.definitions.specs.Trial.{list_rows, segment_rows, corner_rows}
use Rattle.definitions.specs.Calls.{fit_of, segment_call, corners_call}
use Rattle.trial_laws.specs.Rows.{NoneHolds, FirstAt}
use Rattle.trial_laws.specs.CallLaws.{told_refused, told_accepted}
use Rattle.trial_laws.specs.ListTrial.{segment_trial, bad-refused}
use Rattle.trial_laws.specs.Accepted.{GoodService, service-bad}
use Rattle.drift.specs.Columns.{Columns, lengths}
use Rattle.drift.specs.SegmentPromise.{segment_meaning, SegmentPromise}
use Rattle.drift.specs.CornersPromise.{count_of, corners_meaning, three_lengths, CornersPromise}

module _ {v : Service} {ls : Lists} {old new : Columns} {answer : Result ℕ Refusal} (promise : SegmentPromise v ls old new answer) where
  pub segment_refused : (n : ℕ) → (segment_meaning answer ≡ refused n) ↔ FirstAt n (segment_rows (lengths old) v ls)
  unfolding segment_call
  segment_refused = told_refused (segment_rows (lengths old) v ls) (segments_of v (ranges_of ls)) length promise.answer_is

  pub service-refused : NoneHolds (list_rows segment_room (lengths old) ls) → ¬ GoodService v → segment_meaning answer ≡ refused 4
  unfolding segment_call list_rows ◌>>=◌
  service-refused none bad =
      promise.answer_is
      ∙ ap (λ a. a >>= (λ ok. accepted (segments_of v (ranges_of ls))) >>= λ ss. accepted (length ss)) (segment_trial (lengths old) v ls ∙ bad-refused ls none.0 none.1.0 none.1.1.0 (service-bad v bad))

  pub segment-accepted : (segment_meaning answer ≡ accepted (length (segments_of v (ranges_of ls)))) ↔ NoneHolds (segment_rows (lengths old) v ls)
  unfolding segment_call
  segment-accepted = told_accepted (segment_rows (lengths old) v ls) (segments_of v (ranges_of ls)) length promise.answer_is

module _ {k : ℕ} {ls : Lists} {ps qs ds ps' qs' ds' : List ℤ} {answer : Result (Option ℕ) Refusal} (promise : CornersPromise k ls ps qs ds ps' qs' ds' answer) where
  abbrev rows : List Row
  rows = corner_rows (three_lengths ps qs ds) k ls

  pub corners_refused : (n : ℕ) → (corners_meaning answer ≡ refused n) ↔ FirstAt n rows
  unfolding corners_call
  corners_refused = told_refused rows (fit_of (running_after k (ranges_of ls))) count_of promise.answer_is

  pub corners_accepted : (corners_meaning answer ≡ accepted (count_of (fit_of (running_after k (ranges_of ls))))) ↔ NoneHolds rows
  unfolding corners_call
  corners_accepted = told_accepted rows (fit_of (running_after k (ranges_of ls))) count_of promise.answer_is
