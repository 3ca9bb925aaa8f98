-- How Segment keeps its promise.
--
--     promise_refused        by the number of the first row that holds, with the slices left alone
--     promise_accepted       by the number of segments, with all of them filled in, where no row holds
--
-- Assumes nothing.
use Rattle.std.specs.Prelude.{ℕ, ◌≡◌, length, Err, Ok}
use Rattle.std.proofs.Math.Path.{sym, ap}
use Rattle.std.proofs.Common.{◌∙◌}
use mathlib.Core.List.{List, ◌++◌, map, map-map}
use Rattle.std.proofs.Math.ListN.{drop}
use Rattle.std.proofs.lemmas.List.{length-map}
use Rattle.definitions.specs.Services.{Service}
use Rattle.definitions.specs.Ranges.{Lists, ranges_of}
use Rattle.definitions.specs.Results.{Numbers, Segment, numbers_of, segments_of}
use Rattle.definitions.specs.Answers.{Answer, refused, accepted, ◌>>=◌, firstRow, filled}
use Rattle.definitions.specs.Refusals.{refusal_number}
use Rattle.definitions.specs.declared.refusals.Refusal.{Refusal}
use Rattle.definitions.specs.Trial.{segment_rows}
use Rattle.definitions.specs.Calls.{segment_call}
use Rattle.drift.specs.Columns.{Columns, each, each-apply, lengths, AllStored}
use Rattle.drift.specs.SegmentPromise.{segment_meaning, SegmentPromise}

module _ (v : Service) (ls : Lists) where
  called : (ns : List ℕ) {a : Answer Unit} → firstRow (segment_rows ns v ls) ≡ a → (a >>= λ ok. accepted (segments_of v (ranges_of ls))) ≡ segment_call ns v ls
  unfolding segment_call
  called ns e = ap (λ a. a >>= λ ok. accepted (segments_of v (ranges_of ls))) (sym e)

  pub promise_refused : (cs : Columns) (e : Refusal) → firstRow (segment_rows (lengths cs) v ls) ≡ refused (refusal_number e) → SegmentPromise v ls cs cs (Err e)
  unfolding segment_meaning ◌>>=◌ filled
  promise_refused cs e f =
      record {
        answer_is = ap (λ a. a >>= λ ss. accepted (length ss)) (called (lengths cs) f);
        columns_are = each (λ A number column. ap (λ a. filled a (λ ss. map (λ s. number (numbers_of s)) ss) (column cs)) (called (lengths cs) f));
      }

  column_filled : {A : Type 0} (number : Numbers → A) (ss : List Segment) (old new : List A)
      → new ≡ map number (map numbers_of ss) ++ drop (length (map numbers_of ss)) old
      → new ≡ filled (accepted ss) (λ ss. map (λ s. number (numbers_of s)) ss) old
  unfolding filled
  column_filled number ss old new e =
      e
      ∙ ap (λ l. l ++ drop (length (map numbers_of ss)) old) (map-map number numbers_of ss)
      ∙ ap (λ n. map (λ s. number (numbers_of s)) ss ++ drop n old) (length-map ss numbers_of ∙ sym (length-map ss (λ s. number (numbers_of s))))

  pub promise_accepted : {old new : Columns} (n : ℕ) → firstRow (segment_rows (lengths old) v ls) ≡ accepted tt → AllStored n (segments_of v (ranges_of ls)) old new → SegmentPromise v ls old new (Ok n)
  unfolding segment_meaning ◌>>=◌
  promise_accepted {old} {new} n f stored =
      record {
        answer_is = ap accepted stored.count-is ∙ ap (λ a. a >>= λ ss. accepted (length ss)) (called (lengths old) f);
        columns_are =
            each-apply
            (each (λ A number column h. column_filled number (segments_of v (ranges_of ls)) (column old) (column new) h ∙ ap (λ a. filled a (λ ss. map (λ s. number (numbers_of s)) ss) (column old)) (called (lengths old) f)))
            stored.columns_are;
      }
