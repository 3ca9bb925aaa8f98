-- How the report keeps its promise.
--
--     promise_short          by 8, with the text left alone, where it is too short
--     promise_put            by the number of bytes, with the report put at the start of the text
--     trace_read             what Read promises of a file that it accepted: the trace, its record and its lists
--     file_refused           and of a file that it turned down
--     told_is                the report of those lists is the report of the file
--     report-inside          the report lies in the text
--     zero_room              the slices that the report lends to Read are long enough
--
-- Assumes nothing.
use Rattle.std.specs.Prelude.{ℕ, ◌+◌, ◌≤◌, ◌<◌, ◌≡◌, false, List, [], ◌∷◌, ◌++◌, ℤ, pos, replicate, Err, Ok, Result}
use Rattle.std.proofs.Math.Path.{refl, sym, ap}
use Rattle.std.proofs.Common.{◌∙◌, subst, lt-ltb, le-ltb, to_z-of_z}
use native.Mathlib.Omega.{arith}
use Rattle.std.proofs.Math.ListN.{length, drop}
use Rattle.std.proofs.lemmas.List.{length-replicate}
use mir.Syntax.{w32}
use mir.Val.{to_z, of_z}
use Rattle.integers.specs.Lists.{any}
use Rattle.definitions.specs.Spans.{most_ranges, read_room}
use Rattle.definitions.specs.Refusals.{refusal_number}
use Rattle.definitions.specs.declared.refusals.Refusal.{Refusal}
use Rattle.definitions.specs.declared.refusals.Refusal.TheVariants.{SliceTooShort}
use Rattle.definitions.specs.Answers.{Answer, refused, accepted, ◌>>=◌, firstRow, filled}
use Rattle.definitions.specs.Trial.{too_short}
use Rattle.definitions.specs.TraceFile.{Trace, read_file}
use Rattle.definitions.specs.Calls.{read_call}
use Rattle.definitions.specs.Report.{report, report_room, report_call}
use Rattle.fields.specs.SpliceLaws.{splice-fits}
use Rattle.trial_laws.specs.CallLaws.{bind-accepted, bind-refused, accepted-is}
use Rattle.trial_laws.specs.RangeLists.{lists_of}
use Rattle.trace.specs.declared.TraceRecord.{TraceRecord}
use Rattle.trace.specs.Promises.{read_meaning, record_of, read_into, ReadPromise}
use Rattle.trace.specs.BothWays.{fill-long, first_of, lists_read, FirstIn, read_in}
use Rattle.text.specs.Put.{Put}
use Rattle.report_text.specs.Lines.{lists_text}
use Rattle.report_text.specs.ReadTraces.{report_of_lists, level-fits}
use Rattle.report_text.specs.ReportPromise.{report_meaning, ReportPromise}

-- ---- the text

module _ (file text₀ : List ℕ) where
  too_short_lem : length text₀ < report_room → report_call (length text₀ ∷ []) file ≡ refused 8
  unfolding report_call too_short any firstRow ◌>>=◌
  too_short_lem h = rw (lt-ltb (length text₀) report_room h) refl

  long-enough : report_room ≤ length text₀ → report_call (length text₀ ∷ []) file ≡ accepted (report file)
  unfolding report_call too_short any firstRow ◌>>=◌
  long-enough h = rw (le-ltb (length text₀) report_room h) refl

  pub promise_short : length text₀ < report_room → ReportPromise file text₀ text₀ (Err SliceTooShort)
  unfolding report_meaning ◌>>=◌ filled
  promise_short h =
      let refuses = sym (too_short_lem h) in
      record { answer_is = ap (λ a. a >>= λ bytes. accepted (length bytes)) refuses; text_is = ap (λ a. filled a (λ bytes. bytes) text₀) refuses }

  pub promise_put : (text : List ℕ) (r : ℕ) → report_room ≤ length text₀ → Put 0 (report file) text₀ r text → ReportPromise file text₀ text (Ok r)
  unfolding report_meaning ◌>>=◌ filled
  promise_put text r h put =
      let accepts = sym (long-enough h) in
      let none : 0 + length (report file) ≡ length (report file) = omega arith in
      record {
        answer_is = ap accepted (put.next_is ∙ none) ∙ ap (λ a. a >>= λ bytes. accepted (length bytes)) accepts;
        text_is =
            put.text_is
            ∙ splice-fits 0 (report file) text₀ put.fits
            ∙ ap (λ n. report file ++ drop n text₀) none
            ∙ ap (λ a. filled a (λ bytes. bytes) text₀) accepts;
      }

-- ---- what Read gave, into slices that are long enough

module _ {file times₀ times : List ℕ} {lows₀ lows highs₀ highs : List ℤ} {r : Result TraceRecord Refusal} (promise : ReadPromise file times₀ lows₀ highs₀ times lows highs r)
    (room : too_short read_room (length times₀ ∷ length lows₀ ∷ length highs₀ ∷ []) ≡ false) where
  abbrev answer : Answer Trace
  answer = read_into times₀ lows₀ highs₀ file

  answer_is : answer ≡ read_file file
  unfolding read_call firstRow ◌>>=◌
  answer_is = rw room refl

  pub file_refused : {e : Refusal} → r ≡ Err e → read_file file ≡ refused (refusal_number e)
  unfolding read_meaning
  file_refused {e} is = sym answer_is ∙ bind-refused answer record_of (refusal_number e) (sym promise.answer_is ∙ ap read_meaning is)

  pub record TraceRead (known : TraceRecord) : Type 0 where
    pub trace : Trace
    pub read : read_file file ≡ accepted trace
    pub known_is : record_of trace ≡ known
    pub lists_are : first_of known.ranges times lows highs ≡ lists_of trace.ranges
    pub inside : FirstIn known.ranges times lows highs

  pub trace_read : {known : TraceRecord} → r ≡ Ok known → TraceRead known
  unfolding read_meaning record_of
  trace_read {known} e =
      let (t, a, f) = bind-accepted answer (λ t. accepted (record_of t)) known (sym promise.answer_is ∙ ap read_meaning e) in
      let is : record_of t ≡ known = accepted-is f in
      let count : length t.ranges ≡ known.ranges = ap (λ k. k.ranges) is in
      record {
        trace = t;
        read = sym answer_is ∙ a;
        known_is = is;
        lists_are = ap (λ n. first_of n times lows highs) (sym count) ∙ lists_read promise t a;
        inside = read_in (subst (ReadPromise file times₀ lows₀ highs₀ times lows highs) e promise);
      }

  -- so what is put for its lists is the report of the file
  pub told_is : {known : TraceRecord} → TraceRead known → lists_text known.address (record { level = to_z w32 (of_z w32 known.level); direction = known.direction; step = known.step }) (first_of known.ranges times lows highs) ≡ report file
  unfolding record_of
  told_is {known} h =
      let t = h.trace in
      let lists = first_of known.ranges times lows highs in
      ap (λ k. lists_text k.address (record { level = to_z w32 (of_z w32 k.level); direction = k.direction; step = k.step }) lists) (sym h.known_is)
      ∙ ap (λ z. lists_text t.head.address (record { level = z; direction = t.head.service.direction; step = t.head.service.step }) lists) (to_z-of_z (level-fits file t h.read))
      ∙ ap (lists_text t.head.address t.head.service) h.lists_are
      ∙ report_of_lists file t h.read

-- ---- slices of zeros, as the report lends them

pub zero_room : too_short read_room (length (replicate {A = ℕ} most_ranges 0) ∷ length (replicate {A = ℤ} most_ranges (pos 0)) ∷ length (replicate {A = ℤ} most_ranges (pos 0)) ∷ []) ≡ false
unfolding too_short any
zero_room =
    let time = length-replicate {A = ℕ} most_ranges 0 in
    let value = length-replicate {A = ℤ} most_ranges (pos 0) in
    λ i. too_short read_room (time i ∷ value i ∷ value i ∷ [])

-- ---- what a caller may rely on

-- the report lies in the text
pub report-inside : {file text₀ text : List ℕ} {n : ℕ} → ReportPromise file text₀ text (Ok n) → n ≤ length text
unfolding report_meaning
report-inside {file} {text₀} {text} {n} promise =
    let call = report_call (length text₀ ∷ []) file in
    let (bytes, e, f) = bind-accepted call (λ bytes. accepted (length bytes)) n (sym promise.answer_is) in
    omega (arith, accepted-is f, fill-long call (λ bytes. bytes) text₀ text bytes e promise.text_is)
