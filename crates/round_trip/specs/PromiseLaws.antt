-- How Write and Read, one after the other, keep their promise.
--
--     promise-not_written    by Write's refusal, with nothing read
--     promise_written        by what is read of the bytes written, if each time has 32 bits
--     promise-not_read       by Read's refusal, with nothing written
--
-- Further laws stand in proofs/PromiseLaws.antt.
-- Assumes nothing.
use Rattle.std.specs.Prelude.{Result, Ok, Err}
use Rattle.definitions.specs.Refusals.{refusal_number}
use Rattle.definitions.specs.declared.refusals.Refusal.{Refusal}
use Rattle.std.specs.Prelude.{◌≡◌, Bool, ℕ, ℤ, length, take, drop}
use Rattle.std.proofs.Math.Path.{refl, sym, ap}
use Rattle.std.proofs.Common.{◌∙◌}
use Rattle.std.proofs.Math.Bool.{true, false, cond}
use mathlib.Core.List.{List, [], ◌∷◌, ◌++◌, map}
use Rattle.integers.specs.Lists.{any}
use Rattle.definitions.specs.Spans.{read_room, write_room}
use Rattle.definitions.specs.Ranges.{Lists}
use Rattle.definitions.specs.Headers.{Header}
use Rattle.definitions.specs.Answers.{Answer, refused, accepted, ◌>>=◌, firstRow, filled}
use Rattle.definitions.specs.Trial.{too_short, list_rows, write_rows}
use Rattle.definitions.specs.TraceFile.{Trace, write_file}
use Rattle.definitions.specs.Calls.{read_call, write_call}
use Rattle.trial_laws.specs.RangeLists.{lists_of}
use Rattle.trial_laws.specs.Rows.{refused_not_accepted}
use Rattle.trial_laws.specs.CallLaws.{then-then, bind-refused, accepted-is}
use Rattle.trace_laws.specs.Numbers.{Bytes, Words}
use Rattle.trace_laws.specs.RoundTrip.{trace_of}
use Rattle.trace_laws.specs.FileRows.{reading_file}
use Rattle.trace_laws.proofs.TraceLaws as Laws
use Rattle.trace_laws.specs.TraceLaws.{lists_back as given_lists_back}
use Rattle.trace.specs.declared.TraceRecord.{TraceRecord}
use Rattle.trace.specs.Promises.{read_meaning, write_meaning, record_of, head_of, read_into, write_into, ReadPromise, WritePromise}
use Rattle.trace.specs.BothWays.{first_of, bytes_written, read_back}
use Rattle.round_trip.specs.Promises.{long_enough, lists_back, rewritten, WriteReadPromise, ReadWritePromise}

-- a call that tries its slices before all else
pub by-room : {A : Type 0} (least : ℕ) (lengths : List ℕ) (call : Answer A) (a : A) → (too_short least lengths ≡ true → call ≡ refused 8) → (too_short least lengths ≡ false → call ≡ accepted a)
    → call ≡ (long_enough least lengths >>= λ ok. accepted a)
unfolding firstRow ◌>>=◌
by-room least lengths call a short long = by (too_short least lengths) refl
  where
    by : (test : Bool) → too_short least lengths ≡ test → call ≡ (long_enough least lengths >>= λ ok. accepted a)
    by true e = rw e (short e)
    by false e = rw e (long e)

read_short : (lengths bs : List ℕ) → too_short read_room lengths ≡ true → read_call lengths bs ≡ refused 8
unfolding read_call firstRow ◌>>=◌
read_short lengths bs e = rw e refl

pub write-short : (lengths : List ℕ) (h : Header) (lists : Lists) → too_short write_room lengths ≡ true → write_call lengths h lists ≡ refused 8
unfolding write_call write_rows list_rows firstRow ◌>>=◌
write-short lengths h lists e = rw e refl

-- ---- Write, then Read

pub promise-not_written : {h : Header} {lists : Lists} {file₀ file : List ℕ} {refusal : Refusal} (times₀ : List ℕ) (lows₀ highs₀ : List ℤ) → WritePromise h lists file₀ file (Err refusal)
    → WriteReadPromise h lists file₀ times₀ lows₀ highs₀ file times₀ lows₀ highs₀ (Err refusal)
unfolding write_meaning read_meaning ◌>>=◌ filled
promise-not_written {h} {lists} {file₀} {file} {refusal} times₀ lows₀ highs₀ written =
    let is = bind-refused (write_into file₀ h lists) length (refusal_number refusal) (sym written.answer_is) in
    record { answer_is = rw is refl; file_is = written.file_is; times_are = rw is refl; lows_are = rw is refl; highs_are = rw is refl }

-- two answers to one trial fill a slice alike, if their entries are the same
filled-same : {A B C : Type 0} (trial : Answer Unit) (a : A) (b : B) (f : A → List C) (g : B → List C) (old : List C) → f a ≡ g b → filled (trial >>= λ ok. accepted a) f old ≡ filled (trial >>= λ ok. accepted b) g old
unfolding ◌>>=◌ filled
filled-same (refused n) a b f g old e = refl
filled-same (accepted ok) a b f g old e = ap (λ new. new ++ drop (length new) old) e

module _ {h : Header} {lists : Lists} {file₀ file : List ℕ} {n : ℕ} (written : WritePromise h lists file₀ file (Ok n)) (words : Words lists.times)
    {times₀ times : List ℕ} {lows₀ lows highs₀ highs : List ℤ} {r : Result TraceRecord Refusal} (read : ReadPromise (take n file) times₀ lows₀ highs₀ times lows highs r) where
  abbrev room : Answer Unit
  room = long_enough read_room (length times₀ ∷ length lows₀ ∷ length highs₀ ∷ [])

  abbrev back : Answer Lists
  back = lists_back h lists file₀ times₀ lows₀ highs₀

  read_is : read_into times₀ lows₀ highs₀ (take n file) ≡ (room >>= λ ok. accepted (trace_of h lists))
  read_is =
      let slices = length times₀ ∷ length lows₀ ∷ length highs₀ ∷ [] in
      by-room read_room slices (read_call slices (take n file)) (trace_of h lists) (read_short slices (take n file)) (read_back written words read)

  back_is : back ≡ (room >>= λ ok. accepted lists)
  unfolding ◌>>=◌
  back_is = let (bytes, e, f) = bytes_written written in ap (λ a. a >>= λ bytes. room >>= λ ok. accepted lists) e

  fills : {A : Type 0} (f : Trace → List A) (g : Lists → List A) (old new : List A) → f (trace_of h lists) ≡ g lists → new ≡ filled (read_into times₀ lows₀ highs₀ (take n file)) f old → new ≡ filled back g old
  fills f g old new same e =
      e ∙ ap (λ a. filled a f old) read_is ∙ filled-same room (trace_of h lists) lists f g old same ∙ sym (ap (λ a. filled a g old) back_is)

  pub promise_written : WriteReadPromise h lists file₀ times₀ lows₀ highs₀ file times lows highs r
  unfolding ◌>>=◌ lists_of
  promise_written =
      let (bytes, e, f) = bytes_written written in
      let is = given_lists_back (length file₀ ∷ []) h lists bytes e in
      let told : Trace → Answer TraceRecord = λ t. accepted (record_of t) in
      record {
        answer_is =
            read.answer_is
            ∙ ap (λ a. a >>= told) read_is
            ∙ then-then room (λ ok. accepted (trace_of h lists)) told
            ∙ sym (then-then room (λ ok. accepted lists) (λ back. told (trace_of h back)))
            ∙ sym (ap (λ a. a >>= λ back. told (trace_of h back)) back_is);
        file_is = written.file_is;
        times_are = fills (λ t. map (λ q. q.time) t.ranges) (λ back. back.times) times₀ times (ap (λ l. l.times) is) read.times_are;
        lows_are = fills (λ t. map (λ q. q.low) t.ranges) (λ back. back.lows) lows₀ lows (ap (λ l. l.lows) is) read.lows_are;
        highs_are = fills (λ t. map (λ q. q.high) t.ranges) (λ back. back.highs) highs₀ highs (ap (λ l. l.highs) is) read.highs_are;
      }

-- ---- Read, then Write

pub promise-not_read : {bs times₀ times : List ℕ} {lows₀ lows highs₀ highs : List ℤ} {refusal : Refusal} (copy₀ : List ℕ) → ReadPromise bs times₀ lows₀ highs₀ times lows highs (Err refusal)
    → ReadWritePromise bs times₀ lows₀ highs₀ copy₀ times lows highs copy₀ (Err refusal)
unfolding write_meaning read_meaning ◌>>=◌ filled
promise-not_read {bs} {times₀} {lows₀ = lows₀} {highs₀ = highs₀} {refusal = refusal} copy₀ read =
    let is = bind-refused (read_into times₀ lows₀ highs₀ bs) record_of (refusal_number refusal) (sym read.answer_is) in
    record { answer_is = rw is refl; times_are = read.times_are; lows_are = read.lows_are; highs_are = read.highs_are; copy_is = rw is refl; same_trace = λ t e. refused_not_accepted (sym is ∙ e) }

module _ {bs times₀ times : List ℕ} {lows₀ lows highs₀ highs : List ℤ} {known : TraceRecord} (read : ReadPromise bs times₀ lows₀ highs₀ times lows highs (Ok known)) (bytes : Bytes bs)
    {copy₀ copy : List ℕ} {w : Result ℕ Refusal} (written : WritePromise (head_of known) (first_of known.ranges times lows highs) copy₀ copy w) where
  abbrev pub slices : List ℕ
  slices = length times₀ ∷ length lows₀ ∷ length highs₀ ∷ []

  -- the file of the trace that was read, whether it has readings or not
  pub rewritten_is : (t : Trace) → read_into times₀ lows₀ highs₀ bs ≡ accepted t → write_file t ≡ rewritten bs t
  unfolding too_short any
  rewritten_is t e = by (reading_file bs) refl
    where
      by : (readings : Bool) → reading_file bs ≡ readings → write_file t ≡ cond readings (write_file t) bs
      by true is = refl
      by false is = accepted-is (sym (Laws.read-write [] slices bs t bytes refl e) ∙ (Laws.bytes_back [] slices bs t bytes refl e).0 is)
