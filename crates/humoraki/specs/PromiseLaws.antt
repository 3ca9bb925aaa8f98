-- How the library's promises follow from those of the calls below it. A call below gives an answer that tells of a result; the library gives that answer as numbers.
--
--     number_told, value_told, counts_told                    what tells of a result gives the same number, lent number and lent count as the result
--     after_read, after_write, after-segment, after-corners, after-preview, after-latest, after-report, after-add, after-head-ranges   the promise of each call, from that of the call below and the numbers that its answer is given as
--
-- Assumes nothing.
use Rattle.latest.specs.declared.Trend.{Trend}
use Rattle.preview.specs.declared.Effect.{Effect as EffectOfCode}
use Rattle.trace.specs.declared.TraceRecord.{TraceRecord}
use Rattle.definitions.specs.declared.refusals.Refusal.{Refusal}
use Rattle.std.specs.Prelude.{ℕ, ◌≡◌, refl, List, length, Option, Result}
use Rattle.std.proofs.Common.{ap, ◌∙◌}
use Rattle.definitions.specs.Services.{Service}
use Rattle.definitions.specs.Ranges.{Range, Lists}
use Rattle.definitions.specs.Headers.{Header}
use Rattle.definitions.specs.Answers.{Answer, refused, accepted, ◌>>=◌, refusal, given}
use Rattle.definitions.specs.Calls.{Fit, open_strip, bounded, corners_in}
use Rattle.definitions.specs.Previews.{kind_number, effect_outlook}
use Rattle.definitions.specs.Panels.{Panel}
use Rattle.definitions.specs.PanelCalls.{add_call}
use Rattle.definitions.specs.Results.{outlook_numbers}
use Rattle.trial_laws.specs.CallLaws.{refusal-tells}
use Rattle.trace.specs.Promises.{write_meaning, record_of, write_into, ReadPromise, WritePromise}
use Rattle.drift.specs.SegmentPromise.{segment_meaning, SegmentPromise}
use Rattle.drift.specs.CornersPromise.{count_of, corners_meaning, CornersPromise}
use Rattle.preview.specs.PreviewPromise.{PreviewPromise}
use Rattle.latest.specs.LatestPromise.{told_of, LatestPromise}
use Rattle.report_text.specs.ReportPromise.{report_meaning, ReportPromise}
use Rattle.panel.specs.Promises.{add_meaning, AddPromise, head_ranges_meaning, HeadRangesPromise}
use Rattle.answer_numbers.specs.Told.{Counts, ReadTold, corner_number, PreviewTold, LatestTold}
use Rattle.humoraki.specs.Promises.{ReadLent, read_answer, AfterRead, WriteLent, AfterWrite, SegmentLent, segment_answer, AfterSegment, CornersLent, corners_answer, AfterCorners, PreviewLent, AfterPreview, LatestLent, latest_answer, AfterLatest, ReportLent, report_answer, AfterReport, AfterAdd, HeadRangesLent, head_ranges_answer, AfterHeadRanges}

given-tells : {A B C : Type 0} (tells : B → A) (below : Answer B) (of-told : A → C) (of-result : B → C) → ((b : B) → of-told (tells b) ≡ of-result b) → (old : C)
    → given (below >>= λ b. accepted (tells b)) of-told old ≡ given below of-result old
unfolding ◌>>=◌ given
given-tells tells (refused n) of-told of-result e old = refl
given-tells tells (accepted b) of-told of-result e old = e b

-- the answer tells of the result of the call below
module _ {A B : Type 0} (tells : B → A) (below : Answer B) {answer : Answer A} (is : answer ≡ (below >>= λ b. accepted (tells b))) where
  pub number_told : {number : ℕ} → number ≡ refusal answer → number ≡ refusal below
  number_told h = h ∙ ap refusal is ∙ refusal-tells tells below

  pub value_told : {C : Type 0} (of-told : A → C) (of-result : B → C) → ((b : B) → of-told (tells b) ≡ of-result b) → (old : C) {new : C} → new ≡ given answer of-told old → new ≡ given below of-result old
  value_told of-told of-result e old h = h ∙ ap (λ x. given x of-told old) is ∙ given-tells tells below of-told of-result e old

  pub counts_told : (of-told : A → ℕ) (of-result : B → ℕ) → ((b : B) → of-told (tells b) ≡ of-result b) → (old : ℕ) {new number : ℕ} → Counts answer of-told old new number → Counts below of-result old new number
  counts_told of-told of-result e old h = record { number_is = number_told h.number_is; count-is = value_told of-told of-result e old h.count-is }

pub after_read : (file : List ℕ) (old new : ReadLent) {answer : Result TraceRecord Refusal} {r : ℕ} → ReadPromise file old.times old.lows old.highs new.times new.lows new.highs answer
    → ReadTold answer old.address old.level old.direction old.step old.ranges new.address new.level new.direction new.step new.ranges r → AfterRead file old new r
unfolding record_of
after_read file old new h told =
    let below = read_answer file old in
    record {
      number_is = number_told record_of below h.answer_is told.number_is;
      times_are = h.times_are;
      lows_are = h.lows_are;
      highs_are = h.highs_are;
      address_is = value_told record_of below h.answer_is (λ known. known.address) (λ t. t.head.address) (λ t. refl) old.address told.address_is;
      level_is = value_told record_of below h.answer_is (λ known. known.level) (λ t. t.head.service.level) (λ t. refl) old.level told.level_is;
      direction_is = value_told record_of below h.answer_is (λ known. known.direction) (λ t. t.head.service.direction) (λ t. refl) old.direction told.direction_is;
      step_is = value_told record_of below h.answer_is (λ known. known.step) (λ t. t.head.service.step) (λ t. refl) old.step told.step_is;
      ranges_is = value_told record_of below h.answer_is (λ known. known.ranges) (λ t. length t.ranges) (λ t. refl) old.ranges told.ranges_is;
    }

pub after_write : (h : Header) (ls : Lists) (old new : WriteLent) {answer : Result ℕ Refusal} {r : ℕ} → WritePromise h ls old.file new.file answer
    → Counts (write_meaning answer) (λ n. n) old.count new.count r → AfterWrite h ls old new r
after_write h ls old new promise counts =
    record { counted = counts_told length (write_into old.file h ls) promise.answer_is (λ n. n) length (λ bytes. refl) old.count counts; file_is = promise.file_is }

pub after-segment : (v : Service) (ls : Lists) (old new : SegmentLent) {answer : Result ℕ Refusal} {r : ℕ} → SegmentPromise v ls old.columns new.columns answer
    → Counts (segment_meaning answer) (λ n. n) old.count new.count r → AfterSegment v ls old new r
after-segment v ls old new h counts =
    record { counted = counts_told length (segment_answer v ls old) h.answer_is (λ n. n) length (λ ss. refl) old.count counts; columns_are = h.columns_are }

corner_number_lem : (fit : Fit) → corner_number (count_of fit) ≡ length (corners_in fit)
unfolding corner_number count_of corners_in
corner_number_lem open_strip = refl
corner_number_lem (bounded ls) = refl

pub after-corners : (k : ℕ) (ls : Lists) (old new : CornersLent) {answer : Result (Option ℕ) Refusal} {r : ℕ} → CornersPromise k ls old.ps old.qs old.ds new.ps new.qs new.ds answer
    → Counts (corners_meaning answer) corner_number old.count new.count r → AfterCorners k ls old new r
after-corners k ls old new h counts =
    record {
      counted = counts_told count_of (corners_answer k ls old) h.answer_is corner_number (λ fit. length (corners_in fit)) corner_number_lem old.count counts;
      ps_are = h.ps_are;
      qs_are = h.qs_are;
      ds_are = h.ds_are;
    }

pub after-preview : (v : Service) (ls : Lists) (r : Range) (old new : PreviewLent) {answer : Result EffectOfCode Refusal} {number : ℕ} → PreviewPromise v ls r answer
    → PreviewTold answer old.kind old.numbers new.kind new.numbers number → AfterPreview v ls r old new number
after-preview v ls r old new h told =
    record {
      number_is = told.number_is ∙ ap refusal h.answer_is;
      kind_is = told.kind_is ∙ ap (λ x. given x kind_number old.kind) h.answer_is;
      numbers_are = told.numbers_are ∙ ap (λ x. given x (λ e. outlook_numbers (effect_outlook e)) old.numbers) h.answer_is;
    }

pub after-latest : (v : Service) (ls : Lists) (old new : LatestLent) {answer : Result Trend Refusal} {number : ℕ} → LatestPromise v ls old.ps old.qs old.ds new.ps new.qs new.ds answer
    → LatestTold answer old.ranges old.numbers old.corners new.ranges new.numbers new.corners number → AfterLatest v ls old new number
after-latest v ls old new h told =
    let below = latest_answer v ls old in
    record {
      number_is = number_told told_of below h.answer_is told.number_is;
      ranges_is = value_told told_of below h.answer_is (λ t. t.ranges) (λ t. t.ranges) (λ t. refl) old.ranges told.ranges_is;
      numbers_are = value_told told_of below h.answer_is (λ t. outlook_numbers t.outlook) (λ t. outlook_numbers t.outlook) (λ t. refl) old.numbers told.numbers_are;
      corners_is = value_told told_of below h.answer_is (λ t. t.corners) (λ t. length t.corners) (λ t. refl) old.corners told.corners_is;
      ps_are = h.ps_are;
      qs_are = h.qs_are;
      ds_are = h.ds_are;
    }

pub after-report : (file : List ℕ) (old new : ReportLent) {answer : Result ℕ Refusal} {r : ℕ} → ReportPromise file old.text new.text answer
    → Counts (report_meaning answer) (λ n. n) old.count new.count r → AfterReport file old new r
after-report file old new h counts =
    record { counted = counts_told length (report_answer file old) h.answer_is (λ n. n) length (λ bytes. refl) old.count counts; text_is = h.text_is }

pub after-add : (old : Panel) (a : ℕ) (r : Range) (new : Panel) {answer : Result Unit Refusal} {number : ℕ} → AddPromise old a r answer new → number ≡ refusal (add_meaning answer) → AfterAdd old a r new number
after-add old a r new h number = record { number_is = number_told (λ s. tt) (add_call old a r) h.answer_is number; panel_is = h.panel_is }

pub after-head-ranges : (s : Panel) (a : ℕ) (old new : HeadRangesLent) {answer : Result ℕ Refusal} {r : ℕ} → HeadRangesPromise s a old.lists new.lists answer
    → Counts (head_ranges_meaning answer) (λ n. n) old.count new.count r → AfterHeadRanges s a old new r
after-head-ranges s a old new h counts =
    record {
      counted = counts_told length (head_ranges_answer s a old) h.answer_is (λ n. n) length (λ rs. refl) old.count counts;
      times_are = h.times_are;
      lows_are = h.lows_are;
      highs_are = h.highs_are;
    }
