-- What is promised of Write and Read, one after the other: that what was given comes back, for every list, file and slice of any length.
--
--     long_enough                           8 where a lent slice is too short
--     lists_back                            what comes back of lists: those given to Write
--     rewritten, bytes_back                 what comes back of a file: its own bytes, unless it has readings; then those of its trace
--     WriteReadPromise, ReadWritePromise   the answer, and the contents of every lent slice
--
-- Neither promise has a hypothesis: that each time has 32 bits and each byte has 8 is known of the slices that are lent.
-- Assumes nothing.
use Rattle.std.specs.Prelude.{Result}
use Rattle.definitions.specs.declared.refusals.Refusal.{Refusal}
use Rattle.trace.specs.declared.TraceRecord.{TraceRecord}
use Rattle.std.specs.Prelude.{◌≡◌, cond, List, [], ◌∷◌, map, ℕ, ℤ, length}
use Rattle.definitions.specs.Spans.{read_room, write_room}
use Rattle.definitions.specs.Ranges.{Lists}
use Rattle.definitions.specs.Headers.{Header}
use Rattle.definitions.specs.Answers.{Answer, accepted, ◌>>=◌, ◌if◌, firstRow, filled}
use Rattle.definitions.specs.Trial.{too_short}
use Rattle.definitions.specs.TraceFile.{Trace, write_file}
use Rattle.trace_laws.specs.FileRows.{reading_file}
use Rattle.trace_laws.specs.RoundTrip.{trace_of}
use Rattle.trace.specs.Promises.{read_meaning, write_meaning, record_of, read_into, write_into}

abbrev pub long_enough : ℕ → List ℕ → Answer Unit
long_enough least lengths = firstRow (8 if too_short least lengths ∷ [])

-- ---- Write, then Read

-- Write's refusal; 8 where the slices for what is read are too short; else the lists that Write was given
abbrev pub lists_back : Header → Lists → List ℕ → List ℕ → List ℤ → List ℤ → Answer Lists
lists_back h lists file times lows highs =
    write_into file h lists >>= λ bytes.
    long_enough read_room (length times ∷ length lows ∷ length highs ∷ []) >>= λ ok.
    accepted lists

pub record WriteReadPromise (h : Header) (lists : Lists) (file₀ times₀ : List ℕ) (lows₀ highs₀ : List ℤ) (file times : List ℕ) (lows highs : List ℤ) (r : Result TraceRecord Refusal) : Type 0 where
  pub answer_is : read_meaning r ≡ (lists_back h lists file₀ times₀ lows₀ highs₀ >>= λ back. accepted (record_of (trace_of h back)))
  pub file_is : file ≡ filled (write_into file₀ h lists) (λ bytes. bytes) file₀
  pub times_are : times ≡ filled (lists_back h lists file₀ times₀ lows₀ highs₀) (λ back. back.times) times₀
  pub lows_are : lows ≡ filled (lists_back h lists file₀ times₀ lows₀ highs₀) (λ back. back.lows) lows₀
  pub highs_are : highs ≡ filled (lists_back h lists file₀ times₀ lows₀ highs₀) (λ back. back.highs) highs₀

-- ---- Read, then Write

-- readings are written with tag 3, so they do not come back
abbrev pub rewritten : List ℕ → Trace → List ℕ
rewritten file t = cond (reading_file file) (write_file t) file

-- Read's refusal; 8 where the slice for what is written is too short; else the bytes that come back
abbrev pub bytes_back : List ℕ → List ℕ → List ℤ → List ℤ → List ℕ → Answer (List ℕ)
bytes_back file times lows highs copy =
    read_into times lows highs file >>= λ t.
    long_enough write_room (length copy ∷ []) >>= λ ok.
    accepted (rewritten file t)

pub record ReadWritePromise (file times₀ : List ℕ) (lows₀ highs₀ : List ℤ) (copy₀ times : List ℕ) (lows highs : List ℤ) (copy : List ℕ) (w : Result ℕ Refusal) : Type 0 where
  pub answer_is : write_meaning w ≡ (bytes_back file times₀ lows₀ highs₀ copy₀ >>= λ bytes. accepted (length bytes))
  pub times_are : times ≡ filled (read_into times₀ lows₀ highs₀ file) (λ t. map (λ r. r.time) t.ranges) times₀
  pub lows_are : lows ≡ filled (read_into times₀ lows₀ highs₀ file) (λ t. map (λ r. r.low) t.ranges) lows₀
  pub highs_are : highs ≡ filled (read_into times₀ lows₀ highs₀ file) (λ t. map (λ r. r.high) t.ranges) highs₀
  pub copy_is : copy ≡ filled (bytes_back file times₀ lows₀ highs₀ copy₀) (λ bytes. bytes) copy₀
  -- the bytes that come back are read as the trace that was read
  pub same_trace : (t : Trace) → read_into times₀ lows₀ highs₀ file ≡ accepted t → read_into times₀ lows₀ highs₀ (rewritten file t) ≡ accepted t
