-- The number that the library gives is 0 exactly where the call is accepted: no refusal has the number 0.
--
--     Accepted answer                                    the answer is accepted, with some result
--     number_answer, counted-mean                         what a number and a count tell, 0 being acceptance; after a call with a count that is the call's answer
--     preview-above, latest-above                         no number of Preview or Latest is 0
--     read-zero, write-zero, segment-zero, corners-zero, preview-zero, latest-zero, report-zero, add-zero, head_ranges-zero   of each call
--
-- Assumes nothing.
use Rattle.std.specs.Prelude.{ℕ, zero, suc, ◌<◌, ◌≡◌, refl, ◌↔◌, true, false, List, [], ◌∷◌, ◌++◌}
use Rattle.std.proofs.Common.{sym, ap, ◌∙◌, arith}
use Rattle.definitions.specs.Spans.{segment_room, corner_room}
use Rattle.definitions.specs.Times.{none}
use Rattle.definitions.specs.Ranges.{Range, Lists, ranges_of}
use Rattle.definitions.specs.Services.{Service}
use Rattle.definitions.specs.Headers.{Header}
use Rattle.definitions.specs.Answers.{Answer, refused, accepted, ◌>>=◌, Row, ◌if◌, firstRow, refusal, given}
use Rattle.definitions.specs.Trial.{ranges_rows, service_rows, list_rows, write_rows, segment_rows, latest_rows, corner_rows}
use Rattle.definitions.specs.Calls.{write_call, segment_call, corners_call}
use Rattle.definitions.specs.Previews.{longer, preview_rows}
use Rattle.definitions.specs.Latest.{latest_call}
use Rattle.definitions.specs.Report.{report_call}
use Rattle.definitions.specs.Panels.{Panel}
use Rattle.definitions.specs.PanelCalls.{panel_rows, add_rows, add_call, head_ranges_call}
use Rattle.trial_laws.specs.Rows.{Numbered, Numbered-append, refused_not_accepted, refusal-above}
use Rattle.trial_laws.specs.CallLaws.{refused-is, bind-refused}
use Rattle.trial_laws.specs.ListTrial.{count_rows, ranges-numbered}
use Rattle.trial_laws.specs.LongerLists.{effect_on, preview_by_rows}
use Rattle.trace_laws.proofs.TraceLaws.{read_number}
use Rattle.trace.specs.Promises.{write_into}
use Rattle.drift.specs.Columns.{lengths}
use Rattle.drift.specs.CornersPromise.{three_lengths}
use Rattle.panel.specs.AdmissionLaws.{all-numbered}
use Rattle.answer_numbers.specs.Told.{Counts}
use Rattle.humoraki.specs.Promises.{ReadLent, read_answer, AfterRead, WriteLent, AfterWrite, SegmentLent, segment_answer, AfterSegment, CornersLent, corners_answer, AfterCorners, PreviewLent, preview_answer, AfterPreview, LatestLent, latest_answer, AfterLatest, ReportLent, report_answer, AfterReport, AfterAdd, HeadRangesLent, head_ranges_answer, AfterHeadRanges}

abbrev pub Accepted : {A : Type 0} → Answer A → Type 0
Accepted {A} answer = (a : A) × (answer ≡ accepted a)

-- no refusal has the number 0
abbrev Above : {A : Type 0} → Answer A → Type 0
Above answer = (n : ℕ) → answer ≡ refused n → 0 < n

zero-exactly : {A : Type 0} (answer : Answer A) → Above answer → {r : ℕ} → r ≡ refusal answer → (r ≡ 0) ↔ Accepted answer
unfolding refusal
zero-exactly (refused n) above e = (λ z. let h = above n refl in absurd (omega arith), λ a. refused_not_accepted a.1)
zero-exactly (accepted a) above e = (λ z. (a, refl), λ b. e)

rows_above : (rows : List Row) → Numbered rows → Above (firstRow rows)
unfolding firstRow
rows_above [] h n e = refused_not_accepted (sym e)
rows_above ((m if true) ∷ rows) h n e = let z = refused-is e in let above = h.0 in omega arith
rows_above ((m if false) ∷ rows) h n e = rows_above rows h.1 n e

-- a call that tries its rows and then gives a result
call-above : {A : Type 0} (rows : List Row) (a : A) → Numbered rows → Above (firstRow rows >>= λ ok. accepted a)
call-above rows a h n e = rows_above rows h n (bind-refused (firstRow rows) (λ ok. a) n e)

unfoldable pub number_answer : ℕ → ℕ → Answer ℕ
number_answer zero count = accepted count
number_answer (suc n) count = refused (suc n)

pub counted-mean : {A : Type 0} (call : Answer A) (size : A → ℕ) (old count number : ℕ) → Counts call size old count number → (number ≡ 0 → Accepted call) → number_answer number count ≡ (call >>= λ a. accepted (size a))
unfolding number_answer ◌>>=◌ given
counted-mean call size old count zero counts some =
    let found = some refl in
    ap accepted (counts.count-is ∙ ap (λ x. given x size old) found.1) ∙ sym (ap (λ x. x >>= λ a. accepted (size a)) found.1)
counted-mean call size old count (suc n) counts some = sym (ap (λ x. x >>= λ a. accepted (size a)) (refusal-above call (suc n) (sym counts.number_is) (omega arith)))

pub read-zero : {file : List ℕ} {old new : ReadLent} {r : ℕ} → AfterRead file old new r → (r ≡ 0) ↔ Accepted (read_answer file old)
read-zero {file} {old} h = zero-exactly (read_answer file old) (λ n e. let m = (read_number _ file n e).0 in omega arith) h.number_is

pub write-zero : {h : Header} {ls : Lists} {old new : WriteLent} {r : ℕ} → AfterWrite h ls old new r → (r ≡ 0) ↔ Accepted (write_into old.file h ls)
unfolding write_call write_rows list_rows
write-zero {h} {ls} {old} after =
    zero-exactly (write_into old.file h ls) (call-above _ _ (omega arith, (omega arith, (omega arith, (omega arith, (omega arith, (omega arith, (omega arith, ranges-numbered none (ranges_of ls))))))))) after.counted.number_is

service-numbered : (least : ℕ) (lengths : List ℕ) (v : Service) (ls : Lists) → Numbered (list_rows least lengths ls ++ service_rows v ++ ranges_rows none (ranges_of ls))
unfolding list_rows
service-numbered least lengths v ls = (omega arith, (omega arith, (omega arith, (omega arith, (omega arith, (omega arith, ranges-numbered none (ranges_of ls)))))))

segment-numbered : (lengths : List ℕ) (v : Service) (ls : Lists) → Numbered (segment_rows lengths v ls)
unfolding segment_rows
segment-numbered = service-numbered segment_room

pub segment-zero : {v : Service} {ls : Lists} {old new : SegmentLent} {r : ℕ} → AfterSegment v ls old new r → (r ≡ 0) ↔ Accepted (segment_answer v ls old)
unfolding segment_call
segment-zero {v} {ls} {old} h = zero-exactly (segment_answer v ls old) (call-above _ _ (segment-numbered (lengths old.columns) v ls)) h.counted.number_is

pub corners-zero : {k : ℕ} {ls : Lists} {old new : CornersLent} {r : ℕ} → AfterCorners k ls old new r → (r ≡ 0) ↔ Accepted (corners_answer k ls old)
unfolding corners_call corner_rows list_rows
corners-zero {k} {ls} {old} h =
    zero-exactly (corners_answer k ls old) (call-above _ _ (omega arith, (omega arith, (omega arith, Numbered-append (ranges_rows none (ranges_of ls)) (count_rows k ls) (ranges-numbered none (ranges_of ls)) (omega arith, tt))))) h.counted.number_is

pub preview-above : (v : Service) (ls : Lists) (r : Range) (n : ℕ) → preview_answer v ls r ≡ refused n → 0 < n
preview-above v ls r n e = call-above (preview_rows v ls r) (effect_on v ls r) (segment-numbered [] v (longer ls r)) n (sym (preview_by_rows v ls r) ∙ e)

pub preview-zero : {v : Service} {ls : Lists} {r : Range} {old new : PreviewLent} {number : ℕ} → AfterPreview v ls r old new number → (number ≡ 0) ↔ Accepted (preview_answer v ls r)
preview-zero {v} {ls} {r} h = zero-exactly (preview_answer v ls r) (preview-above v ls r) h.number_is

pub latest-above : (v : Service) (ls : Lists) (old : LatestLent) (n : ℕ) → latest_answer v ls old ≡ refused n → 0 < n
unfolding latest_call latest_rows
latest-above v ls old = call-above _ _ (service-numbered corner_room (three_lengths old.ps old.qs old.ds) v ls)

pub latest-zero : {v : Service} {ls : Lists} {old new : LatestLent} {r : ℕ} → AfterLatest v ls old new r → (r ≡ 0) ↔ Accepted (latest_answer v ls old)
latest-zero {v} {ls} {old} h = zero-exactly (latest_answer v ls old) (latest-above v ls old) h.number_is

pub report-zero : {file : List ℕ} {old new : ReportLent} {r : ℕ} → AfterReport file old new r → (r ≡ 0) ↔ Accepted (report_answer file old)
unfolding report_call
report-zero {file} {old} h = zero-exactly (report_answer file old) (call-above _ _ (omega arith, tt)) h.counted.number_is

pub add-zero : {old : Panel} {a : ℕ} {r : Range} {new : Panel} {number : ℕ} → AfterAdd old a r new number → (number ≡ 0) ↔ Accepted (add_call old a r)
unfolding add_call
add-zero {old} {a} {r} h = zero-exactly (add_call old a r) (call-above (add_rows old a r) _ (all-numbered old a r)) h.number_is

pub head_ranges-zero : {s : Panel} {a : ℕ} {old new : HeadRangesLent} {r : ℕ} → AfterHeadRanges s a old new r → (r ≡ 0) ↔ Accepted (head_ranges_answer s a old)
unfolding head_ranges_call panel_rows
head_ranges-zero {s} {a} {old} h = zero-exactly (head_ranges_answer s a old) (call-above _ _ (omega arith, (omega arith, (omega arith, tt)))) h.counted.number_is
