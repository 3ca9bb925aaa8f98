-- What an answer of a call is told as: a number, and the numbers that were lent for what it gives, by equations with the answer's meaning.
--
--     Counts                              the number and the lent count, of an answer with a count
--     corner_number                        what the answer of Corners tells of a fit, as a count
--     eight                               an outlook's numbers, from the eight that are lent to Preview and Latest
--     ReadTold, PreviewTold, LatestTold   the number and the lent numbers, of an answer of Read, Preview and Latest; the new ones are primed
--
-- The number is 0 where the answer accepts. Where it refuses, a lent number holds its old value: so says `given`.
-- Assumes nothing.
use Rattle.definitions.specs.declared.refusals.Refusal.{Refusal}
use Rattle.std.specs.Prelude.{ℕ, ◌≡◌, ℤ, Result}
use Rattle.definitions.specs.Answers.{Answer, refusal, given}
use Rattle.definitions.specs.Previews.{kind_number, effect_outlook}
use Rattle.definitions.specs.Results.{OutlookNumbers, outlook_numbers}
use Rattle.trace.specs.declared.TraceRecord.{TraceRecord}
use Rattle.trace.specs.Promises.{read_meaning}
use Rattle.drift.specs.CornersPromise.{CornerCount, unbounded, corner_count}
use Rattle.preview.specs.declared.Effect.{Effect as EffectOfCode}
use Rattle.latest.specs.declared.Trend.{Trend}
use Rattle.preview.specs.PreviewPromise.{preview_meaning}
use Rattle.latest.specs.LatestPromise.{latest_meaning}

pub record Counts {B : Type 0} (answer : Answer B) (size : B → ℕ) (old new number : ℕ) : Type 0 where
  pub number_is : number ≡ refusal answer
  pub count-is : new ≡ given answer size old

pub record ReadTold (answer : Result TraceRecord Refusal) (address : ℕ) (level : ℤ) (direction step ranges address' : ℕ) (level' : ℤ) (direction' step' ranges' number : ℕ) : Type 0 where
  pub number_is : number ≡ refusal (read_meaning answer)
  pub address_is : address' ≡ given (read_meaning answer) (λ known. known.address) address
  pub level_is : level' ≡ given (read_meaning answer) (λ known. known.level) level
  pub direction_is : direction' ≡ given (read_meaning answer) (λ known. known.direction) direction
  pub step_is : step' ≡ given (read_meaning answer) (λ known. known.step) step
  pub ranges_is : ranges' ≡ given (read_meaning answer) (λ known. known.ranges) ranges

-- an open fit has no corners
unfoldable pub corner_number : CornerCount → ℕ
corner_number unbounded = 0
corner_number (corner_count n) = n

abbrev pub eight : ℤ → ℤ → ℤ → ℤ → ℤ → ℤ → ℕ → ℕ → OutlookNumbers
eight a b c x y z some all = record { slow = record { p = a; q = b; d = c }; fast = record { p = x; q = y; d = z }; some = some; all = all }

pub record PreviewTold (answer : Result EffectOfCode Refusal) (kind : ℕ) (numbers : OutlookNumbers) (kind' : ℕ) (numbers' : OutlookNumbers) (number : ℕ) : Type 0 where
  pub number_is : number ≡ refusal (preview_meaning answer)
  pub kind_is : kind' ≡ given (preview_meaning answer) kind_number kind
  pub numbers_are : numbers' ≡ given (preview_meaning answer) (λ e. outlook_numbers (effect_outlook e)) numbers

pub record LatestTold (answer : Result Trend Refusal) (ranges : ℕ) (numbers : OutlookNumbers) (corners ranges' : ℕ) (numbers' : OutlookNumbers) (corners' number : ℕ) : Type 0 where
  pub number_is : number ≡ refusal (latest_meaning answer)
  pub ranges_is : ranges' ≡ given (latest_meaning answer) (λ t. t.ranges) ranges
  pub numbers_are : numbers' ≡ given (latest_meaning answer) (λ t. outlook_numbers t.outlook) numbers
  pub corners_is : corners' ≡ given (latest_meaning answer) (λ t. t.corners) corners
