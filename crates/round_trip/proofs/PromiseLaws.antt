-- Laws that rest on those of specs/PromiseLaws.antt.
--
--     promise_read           by what is written of the lists read, if the file is of bytes
--
-- Assumes nothing.
use Rattle.std.specs.Prelude.{Result, Ok}
use Rattle.definitions.specs.declared.refusals.Refusal.{Refusal}
use Rattle.std.specs.Prelude.{◌≡◌, ℕ, ℤ, length}
use Rattle.std.proofs.Math.Path.{sym, ap}
use Rattle.std.proofs.Common.{◌∙◌}
use mathlib.Core.List.{List, [], ◌∷◌}
use Rattle.definitions.specs.Spans.{write_room}
use Rattle.definitions.specs.Answers.{accepted, ◌>>=◌, filled}
use Rattle.trace_laws.specs.Numbers.{Bytes}
use Rattle.trace_laws.proofs.TraceLaws as Laws
use Rattle.trace.specs.declared.TraceRecord.{TraceRecord}
use Rattle.trace.specs.Promises.{head_of, read_into, write_into, ReadPromise, WritePromise}
use Rattle.trace.specs.BothWays.{first_of, trace_read, write_back}
use Rattle.round_trip.specs.Promises.{long_enough, rewritten, bytes_back, ReadWritePromise}
use Rattle.round_trip.specs.PromiseLaws.{by-room, rewritten_is, slices, write-short}

module _ {bs times₀ times : List ℕ} {lows₀ lows highs₀ highs : List ℤ} {known : TraceRecord} (read : ReadPromise bs times₀ lows₀ highs₀ times lows highs (Ok known)) (bytes : Bytes bs)
    {copy₀ copy : List ℕ} {w : Result ℕ Refusal} (written : WritePromise (head_of known) (first_of known.ranges times lows highs) copy₀ copy w) where
  write_is : write_into copy₀ (head_of known) (first_of known.ranges times lows highs) ≡ bytes_back bs times₀ lows₀ highs₀ copy₀
  unfolding ◌>>=◌
  write_is =
      let (t, e, f) = trace_read read in
      let lists = first_of known.ranges times lows highs in
      by-room write_room (length copy₀ ∷ []) (write_into copy₀ (head_of known) lists) (rewritten bs t) (write-short (length copy₀ ∷ []) (head_of known) lists) (λ long. write_back read bytes written long t e ∙ ap accepted (rewritten_is read bytes written t e))
      ∙ sym (ap (λ a. a >>= λ t. long_enough write_room (length copy₀ ∷ []) >>= λ ok. accepted (rewritten bs t)) e)

  pub promise_read : ReadWritePromise bs times₀ lows₀ highs₀ copy₀ times lows highs copy w
  promise_read = record {
    answer_is = written.answer_is ∙ ap (λ a. a >>= λ bytes. accepted (length bytes)) write_is;
    times_are = read.times_are;
    lows_are = read.lows_are;
    highs_are = read.highs_are;
    copy_is = written.file_is ∙ ap (λ a. filled a (λ bytes. bytes) copy₀) write_is;
    same_trace = λ t e. ap (read_into times₀ lows₀ highs₀) (sym (rewritten_is read bytes written t e)) ∙ Laws.read_again (slices read bytes written) bs t bytes e;
  }
