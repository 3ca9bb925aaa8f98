-- What was given comes back: what the promises of `write_then_read` and `read_then_write` say where the first call accepts, and where it refuses.
--
--     given_lists_back_is       the lists that Write accepted come back, entry by entry, with the record of their trace
--     given_lists_refused    of what Write refuses nothing is read: its number, and every slice as it was
--     given_file_back        of the file that Read accepted what comes back stands first, with the count of its bytes
--     given_bytes_back       without readings that is the file, byte by byte
--     given_bytes_exactly    and only without them
--     given_trace_back       with readings or without, it is read as the same trace
--     given_bytes_refused    of what Read refuses nothing is written: its number, and every slice as it was
--
-- Assumes nothing.
use Rattle.std.specs.Prelude.{Result}
use Rattle.definitions.specs.declared.refusals.Refusal.{Refusal}
use Rattle.trace.specs.declared.TraceRecord.{TraceRecord}
use Rattle.std.specs.Prelude.{◌≡◌, refl, ◌↔◌, Bool, true, false, cond, List, [], ◌∷◌, ℕ, ℤ}
use Rattle.std.proofs.Common.{sym, ◌∙◌, subst}
use Rattle.std.proofs.Math.Path.{ap}
use Rattle.std.proofs.Math.ListN.{length, take}
use Rattle.definitions.specs.Spans.{read_room, write_room}
use Rattle.definitions.specs.Ranges.{Lists}
use Rattle.definitions.specs.Headers.{Header}
use Rattle.definitions.specs.Answers.{Answer, refused, accepted, ◌>>=◌, firstRow, filled}
use Rattle.definitions.specs.Trial.{too_short}
use Rattle.definitions.specs.TraceFile.{Trace, write_file}
use Rattle.trial_laws.specs.RangeLists.{same_length}
use Rattle.trace_laws.specs.FileRows.{reading_file}
use Rattle.trace_laws.proofs.ReadWrite.{written_no_readings}
use Rattle.trace_laws.specs.RoundTrip.{trace_of, written}
use Rattle.trace_laws.specs.TraceLaws.{read-tried}
use Rattle.trace.specs.Promises.{read_meaning, write_meaning, record_of, read_into, write_into}
use Rattle.trace.specs.BothWays.{fill-front, first_of}
use Rattle.round_trip.specs.Promises.{long_enough, lists_back, rewritten, bytes_back, WriteReadPromise, ReadWritePromise}

long-enough : (least : ℕ) (lengths : List ℕ) → too_short least lengths ≡ false → long_enough least lengths ≡ accepted tt
unfolding firstRow
long-enough least lengths room = rw room refl

module _ {h : Header} {lists : Lists} {file₀ times₀ : List ℕ} {lows₀ highs₀ : List ℤ} {file times : List ℕ} {lows highs : List ℤ} {r : Result TraceRecord Refusal}
    (promise : WriteReadPromise h lists file₀ times₀ lows₀ highs₀ file times lows highs r) where
  abbrev given_lists_back : Answer Lists
  given_lists_back = lists_back h lists file₀ times₀ lows₀ highs₀

  lists_accepted : (bytes : List ℕ) → write_into file₀ h lists ≡ accepted bytes → too_short read_room (length times₀ ∷ length lows₀ ∷ length highs₀ ∷ []) ≡ false → given_lists_back ≡ accepted lists
  unfolding ◌>>=◌
  lists_accepted bytes e room =
      ap (λ a. a >>= λ bytes. long_enough read_room (length times₀ ∷ length lows₀ ∷ length highs₀ ∷ []) >>= λ ok. accepted lists) e
      ∙ ap (λ (a : Answer Unit). a >>= λ ok. accepted lists) (long-enough read_room (length times₀ ∷ length lows₀ ∷ length highs₀ ∷ []) room)

  pub given_lists_back_is : (bytes : List ℕ) → write_into file₀ h lists ≡ accepted bytes → too_short read_room (length times₀ ∷ length lows₀ ∷ length highs₀ ∷ []) ≡ false
      → (read_meaning r ≡ accepted (record_of (trace_of h lists))) × (first_of (length lists.times) times lows highs ≡ lists)
  unfolding ◌>>=◌
  given_lists_back_is bytes e room =
      let is = lists_accepted bytes e room in
      let alike = (same_length lists).0 (written (length file₀ ∷ []) h lists bytes e).alike in (
        promise.answer_is ∙ ap (λ a. a >>= λ back. accepted (record_of (trace_of h back))) is,
        λ i. record {
          times = fill-front given_lists_back (λ back. back.times) times₀ times lists is promise.times_are i;
          lows = (ap (λ n. take n lows) (sym alike.lows_long) ∙ fill-front given_lists_back (λ back. back.lows) lows₀ lows lists is promise.lows_are) i;
          highs = (ap (λ n. take n highs) (sym alike.highs_long) ∙ fill-front given_lists_back (λ back. back.highs) highs₀ highs lists is promise.highs_are) i;
        },
      )

  pub given_lists_refused : (n : ℕ) → write_into file₀ h lists ≡ refused n → (read_meaning r ≡ refused n) × (file ≡ file₀) × (times ≡ times₀) × (lows ≡ lows₀) × (highs ≡ highs₀)
  unfolding ◌>>=◌ filled
  given_lists_refused n e = (
    rw e at promise.answer_is,
    rw e at promise.file_is,
    rw e at promise.times_are,
    rw e at promise.lows_are,
    rw e at promise.highs_are,
  )

module _ {file times₀ : List ℕ} {lows₀ highs₀ : List ℤ} {copy₀ times : List ℕ} {lows highs : List ℤ} {copy : List ℕ} {w : Result ℕ Refusal}
    (promise : ReadWritePromise file times₀ lows₀ highs₀ copy₀ times lows highs copy w) where
  module _ (t : Trace) (e : read_into times₀ lows₀ highs₀ file ≡ accepted t) (room : too_short write_room (length copy₀ ∷ []) ≡ false) where
    bytes_accepted : bytes_back file times₀ lows₀ highs₀ copy₀ ≡ accepted (rewritten file t)
    unfolding ◌>>=◌
    bytes_accepted =
        ap (λ a. a >>= λ t. long_enough write_room (length copy₀ ∷ []) >>= λ ok. accepted (rewritten file t)) e
        ∙ ap (λ (a : Answer Unit). a >>= λ ok. accepted (rewritten file t)) (long-enough write_room (length copy₀ ∷ []) room)

    pub given_file_back : (write_meaning w ≡ accepted (length (rewritten file t))) × (take (length (rewritten file t)) copy ≡ rewritten file t)
    unfolding ◌>>=◌
    given_file_back = (
      promise.answer_is ∙ ap (λ a. a >>= λ bytes. accepted (length bytes)) bytes_accepted,
      fill-front (bytes_back file times₀ lows₀ highs₀ copy₀) (λ bytes. bytes) copy₀ copy (rewritten file t) bytes_accepted promise.copy_is,
    )

    pub given_bytes_back : reading_file file ≡ false → (write_meaning w ≡ accepted (length file)) × (take (length file) copy ≡ file)
    given_bytes_back plain = subst (λ bytes. (write_meaning w ≡ accepted (length bytes)) × (take (length bytes) copy ≡ bytes)) (ap (λ (b : Bool). cond b (write_file t) file) plain) given_file_back

    -- readings are written as ranges, and then there are none
    pub given_bytes_exactly : (reading_file file ≡ false) ↔ (take (length (rewritten file t)) copy ≡ file)
    given_bytes_exactly = (λ plain. given_file_back.1 ∙ ap (λ (b : Bool). cond b (write_file t) file) plain, λ same. by (reading_file file) refl (sym given_file_back.1 ∙ same))
      where
        by : (readings : Bool) → reading_file file ≡ readings → cond readings (write_file t) file ≡ file → reading_file file ≡ false
        by true is same = ap reading_file (sym same) ∙ written_no_readings t (read-tried (length times₀ ∷ length lows₀ ∷ length highs₀ ∷ []) file t e).head_in
        by false is same = is

    pub given_trace_back : read_into times₀ lows₀ highs₀ (take (length (rewritten file t)) copy) ≡ accepted t
    given_trace_back = ap (read_into times₀ lows₀ highs₀) given_file_back.1 ∙ promise.same_trace t e

  pub given_bytes_refused : (n : ℕ) → read_into times₀ lows₀ highs₀ file ≡ refused n → (write_meaning w ≡ refused n) × (times ≡ times₀) × (lows ≡ lows₀) × (highs ≡ highs₀) × (copy ≡ copy₀)
  unfolding ◌>>=◌ filled
  given_bytes_refused n e = (
    rw e at promise.answer_is,
    rw e at promise.times_are,
    rw e at promise.lows_are,
    rw e at promise.highs_are,
    rw e at promise.copy_is,
  )
