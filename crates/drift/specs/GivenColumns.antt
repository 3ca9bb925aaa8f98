-- What the slices hold where Segment accepted.
--
--     called, taken_good, taken, taken_few, ordered   the call's result, that the service is good, that the lists are acceptable and have at most 4,096 ranges, and that their times rise
--     count-is               the number that Segment gave is the number of segments
--     column_room, column_at a column has an entry for each segment: its number of that segment
--     rows_room, row-at      there is a row for each segment: its numbers
--
-- Assumes nothing.
use Rattle.std.specs.Prelude.{◌≡◌, refl, ℕ, zero, suc, ◌<◌, ◌≤◌, length, get_or, drop, Ok}
use Rattle.std.proofs.Common.{sym, ◌∙◌, arith, length-append}
use Rattle.std.proofs.Math.Path.{ap}
use mathlib.Core.List.{List, [], ◌∷◌, ◌++◌, map}
use Rattle.std.proofs.lemmas.List.{length-map}
use Rattle.std.proofs.Math.ListN.{get_or-map, get_or-append}
use Rattle.definitions.specs.Spans.{most_ranges}
use Rattle.definitions.specs.Services.{Service}
use Rattle.definitions.specs.Ranges.{Range, Lists, ranges_of}
use Rattle.definitions.specs.Fit.{Ordered}
use Rattle.definitions.specs.Results.{Segment, Numbers, segment_of, segments_of, numbers_of}
use Rattle.definitions.specs.Answers.{accepted, ◌>>=◌, firstRow, filled}
use Rattle.definitions.specs.Trial.{segment_rows}
use Rattle.definitions.specs.Calls.{segment_call}
use Rattle.trial_laws.specs.Rows.{first_row-accepted}
use Rattle.trial_laws.specs.CallLaws.{both-accepted, call-accepted, accepted-is}
use Rattle.trial_laws.specs.Accepted.{GoodService, AcceptedLists, segment-accepted}
use Rattle.drift.specs.Columns.{Columns, each, each-apply, lengths, row_at, row_is, Room}
use Rattle.drift.specs.SegmentPromise.{segment_meaning, SegmentPromise}

-- below the length the entry past the end does not matter
get_d_other : {A : Type 0} (l : List A) (j : ℕ) (a b : A) → j < length l → get_or l j a ≡ get_or l j b
get_d_other [] j a b h = absurd (omega arith)
get_d_other (x ∷ l) zero a b h = refl
get_d_other (x ∷ l) (suc j) a b h = get_d_other l j a b (omega arith)

-- ---- the slices

module _ {v : Service} {ls : Lists} {old new : Columns} {n : ℕ} (promise : SegmentPromise v ls old new (Ok n)) where
  abbrev rs : List Range
  rs = ranges_of ls

  -- Segment accepted, so no row held
  no_row : firstRow (segment_rows (lengths old) v ls) ≡ accepted tt
  unfolding segment_meaning segment_call
  no_row = both-accepted (segment_call (lengths old) v ls) (λ ss. accepted (length ss)) n (sym promise.answer_is) (λ ss e f. passed ss e)
    where
      passed : (ss : List Segment) → segment_call (lengths old) v ls ≡ accepted ss → firstRow (segment_rows (lengths old) v ls) ≡ accepted tt
      passed ss e = (first_row-accepted (segment_rows (lengths old) v ls)).1 ((call-accepted (segment_rows (lengths old) v ls) (segments_of v rs) ss).0 e).0

  pub called : segment_call (lengths old) v ls ≡ accepted (segments_of v rs)
  unfolding segment_call ◌>>=◌
  called = ap (λ a. a >>= λ ok. accepted (segments_of v rs)) no_row

  pub taken_good : GoodService v
  taken_good = ((segment-accepted (lengths old) v ls).0 no_row).1

  pub taken : AcceptedLists ls
  taken = ((segment-accepted (lengths old) v ls).0 no_row).2

  pub taken_few : length ls.times ≤ most_ranges
  taken_few = ((segment-accepted (lengths old) v ls).0 no_row).3

  pub ordered : Ordered rs
  ordered = taken.ranges.ordered

  pub count-is : n ≡ length (segments_of v rs)
  unfolding segment_meaning ◌>>=◌
  count-is = accepted-is (promise.answer_is ∙ ap (λ a. a >>= λ ss. accepted (length ss)) called)

  module _ {A : Type 0} (number : Numbers → A) (column column₀ : List A) (e : column ≡ filled (segment_call (lengths old) v ls) (λ ss. map (λ s. number (numbers_of s)) ss) column₀) where
    abbrev told : List A
    told = map (λ s. number (numbers_of s)) (segments_of v rs)

    told_long : length told ≡ n
    told_long = length-map (segments_of v rs) (λ s. number (numbers_of s)) ∙ sym count-is

    column_is : column ≡ told ++ drop (length told) column₀
    unfolding filled
    column_is = e ∙ ap (λ a. filled a (λ ss. map (λ s. number (numbers_of s)) ss) column₀) called

    pub column_room : n ≤ length column
    column_room = omega (arith, told_long, ap length column_is, length-append told (drop (length told) column₀))

    pub column_at : (j : ℕ) → j < n → (past : A) → get_or column j past ≡ number (numbers_of (get_or (segments_of v rs) j (segment_of v [])))
    column_at j h past =
        ap (λ l. get_or l j past) column_is
        ∙ get_or-append told (drop (length told) column₀) past j (omega (arith, told_long))
        ∙ get_d_other told j past (number (numbers_of (segment_of v []))) (omega (arith, told_long))
        ∙ get_or-map (λ s. number (numbers_of s)) (segments_of v rs) j (segment_of v [])

  pub rows_room : Room n new
  rows_room = each-apply (each (λ A number column e. column_room number (column new) (column old) e)) promise.columns_are

  pub row-at : (j : ℕ) → j < n → row_at new j ≡ numbers_of (get_or (segments_of v rs) j (segment_of v []))
  row-at j h = row_is new j (each-apply (each (λ A number column e. column_at number (column new) (column old) e j h)) promise.columns_are)
