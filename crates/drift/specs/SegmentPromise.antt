-- What Segment promises: its answer and the eleven slices, by equations with the scope's call.
--
--     segment_meaning     what each case of the answer stands for
--     SegmentPromise     the answer is the number of segments, or of the refusal; each slice has its column of the segments and past these its old contents,
--                        and its old contents whole where the call is refused
--
-- Example: with h : SegmentPromise v ls old new answer, `h.columns_are.slow_ps_is` is the equation of the slice that holds p of the slow lines,
-- new.slow_ps ≡ filled (segment_call (lengths old) v ls) (λ ss. map (λ s. (numbers_of s).slow_p) ss) (old.slow_ps).
-- Assumes nothing.
use Rattle.definitions.specs.declared.refusals.Refusal.{Refusal}
use Rattle.std.specs.Prelude.{ℕ, ◌≡◌, map, length, Result}
use Rattle.definitions.specs.Services.{Service}
use Rattle.definitions.specs.Ranges.{Lists}
use Rattle.definitions.specs.Results.{numbers_of}
use Rattle.definitions.specs.Answers.{Answer, accepted, ◌>>=◌, filled}
use Rattle.definitions.specs.Refusals.{answered}
use Rattle.definitions.specs.Calls.{segment_call}
use Rattle.drift.specs.Columns.{Columns, EachColumn, lengths}

unfoldable pub segment_meaning : Result ℕ Refusal → Answer ℕ
segment_meaning = answered

pub record SegmentPromise (v : Service) (ls : Lists) (old new : Columns) (answer : Result ℕ Refusal) : Type 0 where
  pub answer_is : segment_meaning answer ≡ (segment_call (lengths old) v ls >>= λ ss. accepted (length ss))
  pub columns_are : EachColumn (λ A number column. column new ≡ filled (segment_call (lengths old) v ls) (λ ss. map (λ s. number (numbers_of s)) ss) (column old))
