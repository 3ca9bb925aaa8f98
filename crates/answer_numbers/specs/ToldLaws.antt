-- What is told of an answer, by its case.
--
--     number-accepted, given-accepted, counts-accepted        what an accepted answer gives
--     number-refused, given-refused, counts-refused           what a refused one gives
--     read-accepted, read-refused                             Read's numbers, all at once
--     preview-accepted, preview-refused                       Preview's
--     latest-accepted, latest-refused                         Latest's
--
-- Assumes nothing.
use Rattle.definitions.specs.declared.refusals.Refusal.{Refusal}
use Rattle.std.specs.Prelude.{ℕ, ◌≡◌, ℤ, Result}
use Rattle.std.proofs.Common.{sym, ap, ◌∙◌}
use Rattle.definitions.specs.Answers.{Answer, refused, accepted, refusal, given}
use Rattle.definitions.specs.Previews.{Effect, kind_number, effect_outlook}
use Rattle.definitions.specs.Results.{OutlookNumbers, outlook_numbers}
use Rattle.trace.specs.declared.TraceRecord.{TraceRecord}
use Rattle.trace.specs.Promises.{read_meaning}
use Rattle.preview.specs.declared.Effect.{Effect as EffectOfCode}
use Rattle.latest.specs.declared.Trend.{Trend}
use Rattle.preview.specs.PreviewPromise.{preview_meaning}
use Rattle.latest.specs.LatestPromise.{Told, latest_meaning}
use Rattle.answer_numbers.specs.Told.{Counts, ReadTold, PreviewTold, LatestTold}

pub number-accepted : {A : Type 0} {answer : Answer A} {a : A} → answer ≡ accepted a → 0 ≡ refusal answer
unfolding refusal
number-accepted e = sym (ap refusal e)

pub number-refused : {A : Type 0} {answer : Answer A} {n : ℕ} → answer ≡ refused n → n ≡ refusal answer
unfolding refusal
number-refused e = sym (ap refusal e)

pub given-accepted : {A C : Type 0} {answer : Answer A} {a : A} → answer ≡ accepted a → (value : A → C) (old : C) → value a ≡ given answer value old
unfolding given
given-accepted e value old = sym (ap (λ x. given x value old) e)

pub given-refused : {A C : Type 0} {answer : Answer A} {n : ℕ} → answer ≡ refused n → (value : A → C) (old : C) → old ≡ given answer value old
unfolding given
given-refused e value old = sym (ap (λ x. given x value old) e)

pub counts-accepted : {A : Type 0} {answer : Answer A} {a : A} → answer ≡ accepted a → (size : A → ℕ) (old : ℕ) → Counts answer size old (size a) 0
counts-accepted e size old = record { number_is = number-accepted e; count-is = given-accepted e size old }

pub counts-refused : {A : Type 0} {answer : Answer A} {n : ℕ} → answer ≡ refused n → (size : A → ℕ) (old : ℕ) → Counts answer size old old n
counts-refused e size old = record { number_is = number-refused e; count-is = given-refused e size old }

-- the level is stored as bits, so its equation comes with it
pub read-accepted : {answer : Result TraceRecord Refusal} {known : TraceRecord} → read_meaning answer ≡ accepted known → {level' : ℤ} → level' ≡ known.level → (address : ℕ) (level : ℤ) (direction step ranges : ℕ)
    → ReadTold answer address level direction step ranges known.address level' known.direction known.step known.ranges 0
read-accepted e is-level address level direction step ranges =
    record {
      number_is = number-accepted e;
      address_is = given-accepted e (λ known. known.address) address;
      level_is = is-level ∙ given-accepted e (λ known. known.level) level;
      direction_is = given-accepted e (λ known. known.direction) direction;
      step_is = given-accepted e (λ known. known.step) step;
      ranges_is = given-accepted e (λ known. known.ranges) ranges;
    }

pub read-refused : {answer : Result TraceRecord Refusal} {n : ℕ} → read_meaning answer ≡ refused n → (address : ℕ) (level : ℤ) (direction step ranges : ℕ) → ReadTold answer address level direction step ranges address level direction step ranges n
read-refused e address level direction step ranges =
    record {
      number_is = number-refused e;
      address_is = given-refused e (λ known. known.address) address;
      level_is = given-refused e (λ known. known.level) level;
      direction_is = given-refused e (λ known. known.direction) direction;
      step_is = given-refused e (λ known. known.step) step;
      ranges_is = given-refused e (λ known. known.ranges) ranges;
    }

pub preview-accepted : {answer : Result EffectOfCode Refusal} {e : Effect} → preview_meaning answer ≡ accepted e → (kind : ℕ) (numbers : OutlookNumbers) {numbers' : OutlookNumbers} → numbers' ≡ outlook_numbers (effect_outlook e)
    → PreviewTold answer kind numbers (kind_number e) numbers' 0
preview-accepted is kind numbers told =
    record { number_is = number-accepted is; kind_is = given-accepted is kind_number kind; numbers_are = told ∙ given-accepted is (λ e. outlook_numbers (effect_outlook e)) numbers }

pub preview-refused : {answer : Result EffectOfCode Refusal} {n : ℕ} → preview_meaning answer ≡ refused n → (kind : ℕ) (numbers : OutlookNumbers) → PreviewTold answer kind numbers kind numbers n
preview-refused is kind numbers =
    record { number_is = number-refused is; kind_is = given-refused is kind_number kind; numbers_are = given-refused is (λ e. outlook_numbers (effect_outlook e)) numbers }

pub latest-accepted : {answer : Result Trend Refusal} {t : Told} → latest_meaning answer ≡ accepted t → (ranges : ℕ) (numbers : OutlookNumbers) (corners : ℕ) {numbers' : OutlookNumbers} → numbers' ≡ outlook_numbers t.outlook
    → LatestTold answer ranges numbers corners t.ranges numbers' t.corners 0
latest-accepted is ranges numbers corners told =
    record {
      number_is = number-accepted is;
      ranges_is = given-accepted is (λ t. t.ranges) ranges;
      numbers_are = told ∙ given-accepted is (λ t. outlook_numbers t.outlook) numbers;
      corners_is = given-accepted is (λ t. t.corners) corners;
    }

pub latest-refused : {answer : Result Trend Refusal} {n : ℕ} → latest_meaning answer ≡ refused n → (ranges : ℕ) (numbers : OutlookNumbers) (corners : ℕ) → LatestTold answer ranges numbers corners ranges numbers corners n
latest-refused is ranges numbers corners =
    record {
      number_is = number-refused is;
      ranges_is = given-refused is (λ t. t.ranges) ranges;
      numbers_are = given-refused is (λ t. outlook_numbers t.outlook) numbers;
      corners_is = given-refused is (λ t. t.corners) corners;
    }
