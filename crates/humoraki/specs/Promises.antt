-- What the library promises: the number that each call gives and the contents of everything that it was lent, by equations with the scope's calls.
--
--     read_answer, segment_answer, corners_answer, preview_answer, latest_answer, report_answer, head_ranges_answer   the scope's call on what was lent
--     ReadLent, WriteLent, SegmentLent, CornersLent, PreviewLent, LatestLent, ReportLent, HeadRangesLent   what a caller lends to be filled or set; Add is lent a panel
--     AfterRead, AfterWrite, AfterSegment, AfterCorners, AfterPreview, AfterLatest, AfterReport, AfterAdd, AfterHeadRanges   the number, and what holds of all that after the call
--
-- The number is 0 where the call is accepted. Where it is refused, everything that was lent holds its old contents: so say `given` and `filled`.
--
-- Example: with after : AfterWrite h ls old new r, `after.counted.count-is` is the equation of the lent count,
-- new.count ≡ given (write_into old.file h ls) length (old.count).
-- Assumes nothing.
use Rattle.std.specs.Prelude.{ℕ, ◌≡◌, List, [], ◌∷◌, map, ℤ, length}
use Rattle.definitions.specs.Ranges.{Range, Lists}
use Rattle.definitions.specs.Services.{Service}
use Rattle.definitions.specs.Headers.{Header}
use Rattle.definitions.specs.Results.{Segment, numbers_of, OutlookNumbers, outlook_numbers}
use Rattle.definitions.specs.Answers.{Answer, refusal, filled, given}
use Rattle.definitions.specs.TraceFile.{Trace}
use Rattle.definitions.specs.Calls.{Fit, corners_in, segment_call, corners_call}
use Rattle.definitions.specs.Previews.{Effect, preview_call, kind_number, effect_outlook}
use Rattle.definitions.specs.Latest.{Trend, latest_call}
use Rattle.definitions.specs.Report.{report_call}
use Rattle.definitions.specs.Panels.{Panel}
use Rattle.definitions.specs.PanelCalls.{add_call, head_ranges_call}
use Rattle.trace.specs.Promises.{read_into, write_into}
use Rattle.drift.specs.Columns.{Columns, EachColumn, lengths}
use Rattle.drift.specs.CornersPromise.{three_lengths}
use Rattle.panel.specs.Promises.{lengths_of}
use Rattle.answer_numbers.specs.Told.{Counts}

-- ---- Read

pub record ReadLent : Type 0 where
  pub times : List ℕ
  pub lows : List ℤ
  pub highs : List ℤ
  pub address : ℕ
  pub level : ℤ
  pub direction : ℕ
  pub step : ℕ
  pub ranges : ℕ

abbrev pub read_answer : List ℕ → ReadLent → Answer Trace
read_answer file old = read_into old.times old.lows old.highs file

pub record AfterRead (file : List ℕ) (old new : ReadLent) (r : ℕ) : Type 0 where
  pub number_is : r ≡ refusal (read_answer file old)
  pub times_are : new.times ≡ filled (read_answer file old) (λ t. map (λ r. r.time) t.ranges) old.times
  pub lows_are : new.lows ≡ filled (read_answer file old) (λ t. map (λ r. r.low) t.ranges) old.lows
  pub highs_are : new.highs ≡ filled (read_answer file old) (λ t. map (λ r. r.high) t.ranges) old.highs
  pub address_is : new.address ≡ given (read_answer file old) (λ t. t.head.address) old.address
  pub level_is : new.level ≡ given (read_answer file old) (λ t. t.head.service.level) old.level
  pub direction_is : new.direction ≡ given (read_answer file old) (λ t. t.head.service.direction) old.direction
  pub step_is : new.step ≡ given (read_answer file old) (λ t. t.head.service.step) old.step
  pub ranges_is : new.ranges ≡ given (read_answer file old) (λ t. length t.ranges) old.ranges

-- ---- Write

pub record WriteLent : Type 0 where
  pub file : List ℕ
  pub count : ℕ

pub record AfterWrite (h : Header) (ls : Lists) (old new : WriteLent) (r : ℕ) : Type 0 where
  pub counted : Counts (write_into old.file h ls) length old.count new.count r
  pub file_is : new.file ≡ filled (write_into old.file h ls) (λ bytes. bytes) old.file

-- ---- Segment

pub record SegmentLent : Type 0 where
  pub columns : Columns
  pub count : ℕ

abbrev pub segment_answer : Service → Lists → SegmentLent → Answer (List Segment)
segment_answer v ls old = segment_call (lengths old.columns) v ls

pub record AfterSegment (v : Service) (ls : Lists) (old new : SegmentLent) (r : ℕ) : Type 0 where
  pub counted : Counts (segment_answer v ls old) length old.count new.count r
  pub columns_are : EachColumn (λ A number column. column new.columns ≡ filled (segment_answer v ls old) (λ ss. map (λ s. number (numbers_of s)) ss) (column old.columns))

-- ---- Corners: an open fit has none

pub record CornersLent : Type 0 where
  pub ps : List ℤ
  pub qs : List ℤ
  pub ds : List ℤ
  pub count : ℕ

abbrev pub corners_answer : ℕ → Lists → CornersLent → Answer Fit
corners_answer k ls old = corners_call (three_lengths old.ps old.qs old.ds) k ls

pub record AfterCorners (k : ℕ) (ls : Lists) (old new : CornersLent) (r : ℕ) : Type 0 where
  pub counted : Counts (corners_answer k ls old) (λ fit. length (corners_in fit)) old.count new.count r
  pub ps_are : new.ps ≡ filled (corners_answer k ls old) (λ fit. map (λ l. l.p) (corners_in fit)) old.ps
  pub qs_are : new.qs ≡ filled (corners_answer k ls old) (λ fit. map (λ l. l.q) (corners_in fit)) old.qs
  pub ds_are : new.ds ≡ filled (corners_answer k ls old) (λ fit. map (λ l. l.d) (corners_in fit)) old.ds

-- ---- Preview

pub record PreviewLent : Type 0 where
  pub kind : ℕ
  pub numbers : OutlookNumbers

abbrev pub preview_answer : Service → Lists → Range → Answer Effect
preview_answer v ls r = preview_call v ls r

pub record AfterPreview (v : Service) (ls : Lists) (r : Range) (old new : PreviewLent) (number : ℕ) : Type 0 where
  pub number_is : number ≡ refusal (preview_answer v ls r)
  pub kind_is : new.kind ≡ given (preview_answer v ls r) kind_number old.kind
  pub numbers_are : new.numbers ≡ given (preview_answer v ls r) (λ e. outlook_numbers (effect_outlook e)) old.numbers

-- ---- Latest

pub record LatestLent : Type 0 where
  pub ps : List ℤ
  pub qs : List ℤ
  pub ds : List ℤ
  pub ranges : ℕ
  pub numbers : OutlookNumbers
  pub corners : ℕ

abbrev pub latest_answer : Service → Lists → LatestLent → Answer Trend
latest_answer v ls old = latest_call (three_lengths old.ps old.qs old.ds) v ls

pub record AfterLatest (v : Service) (ls : Lists) (old new : LatestLent) (r : ℕ) : Type 0 where
  pub number_is : r ≡ refusal (latest_answer v ls old)
  pub ranges_is : new.ranges ≡ given (latest_answer v ls old) (λ t. t.ranges) old.ranges
  pub numbers_are : new.numbers ≡ given (latest_answer v ls old) (λ t. outlook_numbers t.outlook) old.numbers
  pub corners_is : new.corners ≡ given (latest_answer v ls old) (λ t. length t.corners) old.corners
  pub ps_are : new.ps ≡ filled (latest_answer v ls old) (λ t. map (λ l. l.p) t.corners) old.ps
  pub qs_are : new.qs ≡ filled (latest_answer v ls old) (λ t. map (λ l. l.q) t.corners) old.qs
  pub ds_are : new.ds ≡ filled (latest_answer v ls old) (λ t. map (λ l. l.d) t.corners) old.ds

-- ---- the report

pub record ReportLent : Type 0 where
  pub text : List ℕ
  pub count : ℕ

abbrev pub report_answer : List ℕ → ReportLent → Answer (List ℕ)
report_answer file old = report_call (length old.text ∷ []) file

pub record AfterReport (file : List ℕ) (old new : ReportLent) (r : ℕ) : Type 0 where
  pub counted : Counts (report_answer file old) length old.count new.count r
  pub text_is : new.text ≡ filled (report_answer file old) (λ bytes. bytes) old.text

-- ---- Add: the promise of the call below, by the number alone

pub record AfterAdd (old : Panel) (a : ℕ) (r : Range) (new : Panel) (number : ℕ) : Type 0 where
  pub number_is : number ≡ refusal (add_call old a r)
  pub panel_is : new ≡ given (add_call old a r) (λ s. s) old

-- ---- Head ranges

pub record HeadRangesLent : Type 0 where
  pub lists : Lists
  pub count : ℕ

abbrev pub head_ranges_answer : Panel → ℕ → HeadRangesLent → Answer (List Range)
head_ranges_answer s a old = head_ranges_call (lengths_of old.lists) s a

pub record AfterHeadRanges (s : Panel) (a : ℕ) (old new : HeadRangesLent) (r : ℕ) : Type 0 where
  pub counted : Counts (head_ranges_answer s a old) length old.count new.count r
  pub times_are : new.lists.times ≡ filled (head_ranges_answer s a old) (map (λ (r : Range). r.time)) old.lists.times
  pub lows_are : new.lists.lows ≡ filled (head_ranges_answer s a old) (map (λ (r : Range). r.low)) old.lists.lows
  pub highs_are : new.lists.highs ≡ filled (head_ranges_answer s a old) (map (λ (r : Range). r.high)) old.lists.highs
