-- When the library gives which number, as theorems about the number that a caller holds.
--
--     read_number, write_number, segment_number, corners_number, preview_number, latest_number, report_number, add_number, head_ranges_number   a number above 0 exactly if a row with it holds and no row that is tried earlier does
--     read_none, write_none, segment_none, corners_none, preview_none, latest_none, report_none, add_none, head_ranges_none                 0 exactly if no row holds
--
-- Assumes nothing.
use Rattle.std.specs.Prelude.{ℕ, ◌<◌, ◌≡◌, ◌↔◌, List, [], ◌∷◌, ◌++◌, length}
use Rattle.std.proofs.Math.Path.{refl, ap}
use Rattle.std.proofs.Common.{sym, ◌∙◌}
use Rattle.definitions.specs.Services.{Service}
use Rattle.definitions.specs.Ranges.{Range, Lists, ranges_of}
use Rattle.definitions.specs.Headers.{Header}
use Rattle.definitions.specs.Segments.{running_after}
use Rattle.definitions.specs.Results.{segments_of}
use Rattle.definitions.specs.Answers.{Answer, accepted, ◌>>=◌, Row, ◌if◌, firstRow, refusal}
use Rattle.definitions.specs.Trial.{too_short, write_rows, segment_rows, latest_rows, corner_rows}
use Rattle.definitions.specs.TraceFile.{write_file}
use Rattle.definitions.specs.Calls.{fit_of, write_call, segment_call, corners_call}
use Rattle.definitions.specs.Previews.{preview_rows}
use Rattle.definitions.specs.Latest.{latest_run, trend_of, latest_call}
use Rattle.definitions.specs.Report.{report, report_room, report_call}
use Rattle.definitions.specs.Panels.{Panel, on_panel, head_ranges}
use Rattle.definitions.specs.PanelCalls.{room_of, panel_rows, add_rows, added, add_call, head_ranges_call}
use Rattle.trial_laws.specs.Rows.{NoneHolds, FirstAt, refusal-above}
use Rattle.trial_laws.specs.CallLaws.{call-refused, call-accepted}
use Rattle.trial_laws.specs.LongerLists.{effect_on, preview_by_rows}
use Rattle.trace_laws.specs.FileRows.{read_rows, file_trace}
use Rattle.trace_laws.specs.RoundTrip.{trace_of}
use Rattle.trace_laws.proofs.TraceLaws.{read-by-rows}
use Rattle.drift.specs.Columns.{lengths}
use Rattle.drift.specs.CornersPromise.{three_lengths}
use Rattle.panel.specs.Promises.{lengths_of}
use Rattle.humoraki.specs.Promises.{ReadLent, AfterRead, WriteLent, AfterWrite, SegmentLent, AfterSegment, CornersLent, AfterCorners, PreviewLent, AfterPreview, LatestLent, AfterLatest, ReportLent, AfterReport, AfterAdd, HeadRangesLent, AfterHeadRanges}
use Rattle.humoraki.specs.Zero.{Accepted, read-zero, write-zero, segment-zero, corners-zero, preview-zero, latest-zero, report-zero, add-zero, head_ranges-zero}

-- the number of a call that tries its rows and then gives a result
module _ {A : Type 0} (rows : List Row) (a : A) {answer : Answer A} (is : answer ≡ (firstRow rows >>= λ ok. accepted a)) {r : ℕ} where
  exactly : r ≡ refusal answer → (n : ℕ) → 0 < n → (r ≡ n) ↔ FirstAt n rows
  unfolding refusal
  exactly number n above = (λ e. (call-refused rows a n).0 (sym is ∙ refusal-above answer n (sym number ∙ e) above), λ f. number ∙ ap refusal (is ∙ (call-refused rows a n).1 f))

  none_exactly : (r ≡ 0) ↔ Accepted answer → (r ≡ 0) ↔ NoneHolds rows
  none_exactly zero = (λ e. let b = zero.0 e in ((call-accepted rows a b.0).0 (sym is ∙ b.1)).0, λ h. zero.1 (a, is ∙ (call-accepted rows a a).1 (h, refl)))

module _ {file : List ℕ} {old new : ReadLent} {r : ℕ} (after : AfterRead file old new r) where
  abbrev slices : List ℕ
  slices = length old.times ∷ length old.lows ∷ length old.highs ∷ []

  pub read_number : (n : ℕ) → 0 < n → (r ≡ n) ↔ FirstAt n (read_rows slices file)
  read_number = exactly (read_rows slices file) (file_trace file) (read-by-rows slices file) after.number_is

  pub read_none : (r ≡ 0) ↔ NoneHolds (read_rows slices file)
  read_none = none_exactly (read_rows slices file) (file_trace file) (read-by-rows slices file) (read-zero after)

module _ {h : Header} {ls : Lists} {old new : WriteLent} {r : ℕ} (after : AfterWrite h ls old new r) where
  abbrev rows_of_write : List Row
  rows_of_write = write_rows (length old.file ∷ []) h ls

  pub write_number : (n : ℕ) → 0 < n → (r ≡ n) ↔ FirstAt n rows_of_write
  unfolding write_call
  write_number = exactly rows_of_write (write_file (trace_of h ls)) refl after.counted.number_is

  pub write_none : (r ≡ 0) ↔ NoneHolds rows_of_write
  unfolding write_call
  write_none = none_exactly rows_of_write (write_file (trace_of h ls)) refl (write-zero after)

module _ {v : Service} {ls : Lists} {old new : SegmentLent} {r : ℕ} (after : AfterSegment v ls old new r) where
  abbrev rows_of_segment : List Row
  rows_of_segment = segment_rows (lengths old.columns) v ls

  pub segment_number : (n : ℕ) → 0 < n → (r ≡ n) ↔ FirstAt n rows_of_segment
  unfolding segment_call
  segment_number = exactly rows_of_segment (segments_of v (ranges_of ls)) refl after.counted.number_is

  pub segment_none : (r ≡ 0) ↔ NoneHolds rows_of_segment
  unfolding segment_call
  segment_none = none_exactly rows_of_segment (segments_of v (ranges_of ls)) refl (segment-zero after)

module _ {k : ℕ} {ls : Lists} {old new : CornersLent} {r : ℕ} (after : AfterCorners k ls old new r) where
  abbrev rows_of_corners : List Row
  rows_of_corners = corner_rows (three_lengths old.ps old.qs old.ds) k ls

  pub corners_number : (n : ℕ) → 0 < n → (r ≡ n) ↔ FirstAt n rows_of_corners
  unfolding corners_call
  corners_number = exactly rows_of_corners (fit_of (running_after k (ranges_of ls))) refl after.counted.number_is

  pub corners_none : (r ≡ 0) ↔ NoneHolds rows_of_corners
  unfolding corners_call
  corners_none = none_exactly rows_of_corners (fit_of (running_after k (ranges_of ls))) refl (corners-zero after)

module _ {v : Service} {ls : Lists} {range : Range} {old new : PreviewLent} {r : ℕ} (after : AfterPreview v ls range old new r) where
  abbrev rows_of_preview : List Row
  rows_of_preview = preview_rows v ls range

  pub preview_number : (n : ℕ) → 0 < n → (r ≡ n) ↔ FirstAt n rows_of_preview
  preview_number = exactly rows_of_preview (effect_on v ls range) (preview_by_rows v ls range) after.number_is

  pub preview_none : (r ≡ 0) ↔ NoneHolds rows_of_preview
  preview_none = none_exactly rows_of_preview (effect_on v ls range) (preview_by_rows v ls range) (preview-zero after)

module _ {v : Service} {ls : Lists} {old new : LatestLent} {r : ℕ} (after : AfterLatest v ls old new r) where
  abbrev rows_of_latest : List Row
  rows_of_latest = latest_rows (three_lengths old.ps old.qs old.ds) v ls

  pub latest_number : (n : ℕ) → 0 < n → (r ≡ n) ↔ FirstAt n rows_of_latest
  unfolding latest_call
  latest_number = exactly rows_of_latest (trend_of v (latest_run (ranges_of ls))) refl after.number_is

  pub latest_none : (r ≡ 0) ↔ NoneHolds rows_of_latest
  unfolding latest_call
  latest_none = none_exactly rows_of_latest (trend_of v (latest_run (ranges_of ls))) refl (latest-zero after)

module _ {file : List ℕ} {old new : ReportLent} {r : ℕ} (after : AfterReport file old new r) where
  abbrev rows_of_report : List Row
  rows_of_report = 8 if too_short report_room (length old.text ∷ []) ∷ []

  pub report_number : (n : ℕ) → 0 < n → (r ≡ n) ↔ FirstAt n rows_of_report
  unfolding report_call
  report_number = exactly rows_of_report (report file) refl after.counted.number_is

  pub report_none : (r ≡ 0) ↔ NoneHolds rows_of_report
  unfolding report_call
  report_none = none_exactly rows_of_report (report file) refl (report-zero after)

module _ {old : Panel} {a : ℕ} {range : Range} {new : Panel} {r : ℕ} (after : AfterAdd old a range new r) where
  pub add_number : (n : ℕ) → 0 < n → (r ≡ n) ↔ FirstAt n (add_rows old a range)
  unfolding add_call
  add_number = exactly (add_rows old a range) (added old a range) refl after.number_is

  pub add_none : (r ≡ 0) ↔ NoneHolds (add_rows old a range)
  unfolding add_call
  add_none = none_exactly (add_rows old a range) (added old a range) refl (add-zero after)

module _ {s : Panel} {a : ℕ} {old new : HeadRangesLent} {r : ℕ} (after : AfterHeadRanges s a old new r) where
  abbrev rows_of_head_ranges : List Row
  rows_of_head_ranges = panel_rows (room_of s.places ++ lengths_of old.lists) s a

  pub head_ranges_number : (n : ℕ) → 0 < n → (r ≡ n) ↔ FirstAt n rows_of_head_ranges
  unfolding head_ranges_call
  head_ranges_number = exactly rows_of_head_ranges (head_ranges a (on_panel s)) refl after.counted.number_is

  pub head_ranges_none : (r ≡ 0) ↔ NoneHolds rows_of_head_ranges
  unfolding head_ranges_call
  head_ranges_none = none_exactly rows_of_head_ranges (head_ranges a (on_panel s)) refl (head_ranges-zero after)
