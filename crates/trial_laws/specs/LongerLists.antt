-- Lists with one range more at their end.
--
--     longer_length, longer_differ, longer_same   one time more; of one length exactly where the lists are
--     longer_ranges           the ranges, and then the new one
--     longer_at, longer_last  the k-th range is what it was, and the new one stands last
--     rows_next               the rows of ranges with one more at the end: theirs, and then its own after the last time
--     longer_rows             so of the whole trial, where there is a place for one more
--     shorter_accepted, longer_proper   where the longer lists are accepted, so are the lists, and the new range is proper
--     effect_on v ls r         the effect of r on the lists, where nothing turns it down
--     preview_by_rows         Preview tries its rows and then gives that effect
--     preview_trial, preview-accepted   Preview gives the answer of the trial of the longer lists; when it is accepted
--     least_past least ts      the least time after some times; `least` where there are none
--     least-none, least-end   that is `least` where there are no times, and one more than the k-th where there are k + 1
--     least-last              the last time of ranges, from their times alone
--
-- Assumes nothing.
use Rattle.std.specs.Prelude.{◌≡◌, ◌↔◌, Bool, false, ◌&&◌, ℕ, zero, suc, ◌+◌, ◌<◌, eqb, ℤ, pos, get_or}
use Rattle.std.proofs.Math.Path.{refl, sym, ap, ap₂}
use Rattle.std.proofs.Common.{◌∙◌, add-one, arith, length-append}
use Rattle.std.proofs.Math.Bool.{not}
use mathlib.Core.List.{List, [], ◌∷◌, ◌++◌, append-nil, append_assoc}
use borrow.Author.Tests.{le-ltb}
use Rattle.std.proofs.Math.Dec.{ltb, eqb-suc-suc}
use Rattle.std.proofs.Math.ListN.{length, get_or-append}
use Rattle.std.proofs.Math.Seq.{get_or_at}
use Rattle.integers.specs.Lists.{any}
use Rattle.definitions.specs.Services.{Service}
use Rattle.definitions.specs.Spans.{most_ranges, segment_room}
use Rattle.definitions.specs.Times.{Time, none, at}
use Rattle.definitions.specs.Ranges.{Range, Lists, zip_ranges, ranges_of}
use Rattle.definitions.specs.Segments.{segments}
use Rattle.definitions.specs.Results.{segments_of}
use Rattle.definitions.specs.Answers.{Row, ◌if◌, accepted, ◌>>=◌, firstRow}
use Rattle.definitions.specs.Trial.{range_rows, ranges_rows, too_short, differ}
use Rattle.definitions.specs.Panels.{last_time}
use Rattle.definitions.specs.Calls.{segment_call}
use Rattle.definitions.specs.Previews.{longer, Effect, effect_of, preview_rows, preview_call}
use Rattle.trial_laws.specs.Rows.{accepted-append}
use Rattle.trial_laws.specs.CallLaws.{then-then}
use Rattle.trial_laws.specs.LeastTime.{time_before, time_before-suc}
use Rattle.trial_laws.specs.RangeLists.{SameLength, range_at, same_length}
use Rattle.trial_laws.specs.ListTrial.{trial_rows, bad_service, segment_trial}
use Rattle.trial_laws.specs.Accepted.{GoodService, ProperRange, AcceptedLists, range-accepted, proper-accepted, accepted-lists, segment-accepted}

-- ---- lengths

one_more : {A : Type 0} (xs : List A) (x : A) → length (xs ++ (x ∷ [])) ≡ length xs + 1
one_more xs x = length-append xs (x ∷ [])

alike_next : {A B : Type 0} (xs : List A) (x : A) (ys : List B) (y : B) → eqb (length (xs ++ (x ∷ []))) (length (ys ++ (y ∷ []))) ≡ eqb (length xs) (length ys)
alike_next xs x ys y = ap₂ eqb (one_more xs x ∙ add-one (length xs)) (one_more ys y ∙ add-one (length ys)) ∙ eqb-suc-suc (length xs) (length ys)

module _ (ls : Lists) (r : Range) where
  pub longer_length : length (longer ls r).times ≡ length ls.times + 1
  unfolding longer
  longer_length = one_more ls.times r.time

  pub longer_differ : differ (longer ls r) ≡ differ ls
  unfolding longer differ
  longer_differ = ap₂ (λ l h. not (l && h)) (alike_next ls.times r.time ls.lows r.low) (alike_next ls.times r.time ls.highs r.high)

  pub longer_same : SameLength ls ↔ SameLength (longer ls r)
  longer_same = (λ s. (same_length (longer ls r)).0 (longer_differ ∙ (same_length ls).1 s), λ s. (same_length ls).0 (sym longer_differ ∙ (same_length (longer ls r)).1 s))

-- ---- ranges

zip-next : (ts : List ℕ) (us vs : List ℤ) (r : Range) → length us ≡ length ts → length vs ≡ length ts → zip_ranges (ts ++ (r.time ∷ [])) (us ++ (r.low ∷ [])) (vs ++ (r.high ∷ [])) ≡ zip_ranges ts us vs ++ (r ∷ [])
unfolding zip_ranges
zip-next [] [] [] r p q = refl
zip-next [] [] (v ∷ vs) r p q = absurd (omega arith)
zip-next [] (u ∷ us) vs r p q = absurd (omega arith)
zip-next (t ∷ ts) [] vs r p q = absurd (omega arith)
zip-next (t ∷ ts) (u ∷ us) [] r p q = absurd (omega arith)
zip-next (t ∷ ts) (u ∷ us) (v ∷ vs) r p q = ap (λ rs. record { time = t; low = u; high = v } ∷ rs) (zip-next ts us vs r (omega arith) (omega arith))

module _ (ls : Lists) (r : Range) (same : SameLength ls) where
  pub longer_ranges : ranges_of (longer ls r) ≡ ranges_of ls ++ (r ∷ [])
  unfolding longer ranges_of
  longer_ranges = zip-next ls.times ls.lows ls.highs r same.lows_long same.highs_long

  pub longer_at : (k : ℕ) → k < length ls.times → range_at (longer ls r) k ≡ range_at ls k
  unfolding longer
  longer_at k h =
      let time_is = get_or-append ls.times (r.time ∷ []) 0 k h in
      let low-is = get_or-append ls.lows (r.low ∷ []) (pos 0) k (omega (arith, same.lows_long)) in
      let high_is = get_or-append ls.highs (r.high ∷ []) (pos 0) k (omega (arith, same.highs_long)) in
      λ i. record { time = time_is i; low = low-is i; high = high_is i }

  pub longer_last : range_at (longer ls r) (length ls.times) ≡ r
  unfolding longer
  longer_last =
      let n = length ls.times in
      let time_is = get_or_at ls.times r.time [] 0 n refl in
      let low-is = get_or_at ls.lows r.low [] (pos 0) n same.lows_long in
      let high_is = get_or_at ls.highs r.high [] (pos 0) n same.highs_long in
      λ i. record { time = time_is i; low = low-is i; high = high_is i }

-- ---- rows

pub rows_next : (before : Time) (rs : List Range) (r : Range) → ranges_rows before (rs ++ (r ∷ [])) ≡ ranges_rows before rs ++ range_rows (last_time before rs) r
unfolding ranges_rows last_time
rows_next before [] r = append-nil (range_rows before r)
rows_next before (x ∷ rs) r = ap (λ (rows : List Row). range_rows before x ++ rows) (rows_next (at x.time) rs r) ∙ sym (append_assoc (range_rows before x) (ranges_rows (at x.time) rs) (range_rows (last_time (at x.time) rs) r))

module _ (ls : Lists) (r : Range) where
  next_rows : SameLength ls → ranges_rows none (ranges_of (longer ls r)) ≡ ranges_rows none (ranges_of ls) ++ range_rows (last_time none (ranges_of ls)) r
  next_rows same = ap (ranges_rows none) (longer_ranges ls r same) ∙ rows_next none (ranges_of ls) r

  pub longer_rows : (short outside : Bool) → SameLength ls → length ls.times < most_ranges → trial_rows short outside (longer ls r) ≡ trial_rows short outside ls ++ range_rows (last_time none (ranges_of ls)) r
  unfolding trial_rows
  longer_rows short outside same place =
      let few = le-ltb most_ranges (length (longer ls r).times) (omega (arith, longer_length ls r)) ∙ sym (le-ltb most_ranges (length ls.times) (omega arith)) in
      ap₂ (λ d m. 8 if short ∷ 10 if d ∷ 7 if m ∷ 4 if outside ∷ ranges_rows none (ranges_of (longer ls r))) (longer_differ ls r) few
      ∙ ap (λ rows. 8 if short ∷ 10 if differ ls ∷ 7 if ltb most_ranges (length ls.times) ∷ 4 if outside ∷ rows) (next_rows same)

  -- both parts of the ranges' rows
  parts : AcceptedLists (longer ls r) → SameLength ls × (firstRow (ranges_rows none (ranges_of ls)) ≡ accepted tt) × (firstRow (range_rows (last_time none (ranges_of ls)) r) ≡ accepted tt)
  parts a =
      let same = (longer_same ls r).1 a.same in
      let both = (accepted-append (ranges_rows none (ranges_of ls)) (range_rows (last_time none (ranges_of ls)) r)).0 (ap firstRow (sym (next_rows same)) ∙ (proper-accepted (ranges_of (longer ls r))).1 a.ranges) in
      (same, both.0, both.1)

  pub shorter_accepted : AcceptedLists (longer ls r) → AcceptedLists ls
  shorter_accepted a = let p = parts a in accepted-lists ls p.0 ((proper-accepted (ranges_of ls)).0 p.1)

  pub longer_proper : AcceptedLists (longer ls r) → ProperRange r
  longer_proper a = ((range-accepted (last_time none (ranges_of ls)) r).0 (parts a).2).1

-- ---- Preview

no-slice : too_short segment_room [] ≡ false
unfolding too_short any
no-slice = refl

module _ (v : Service) (ls : Lists) (r : Range) where
  abbrev pub effect_on : Effect
  effect_on = effect_of (length (segments (ranges_of ls))) (segments_of v (ranges_of (longer ls r)))

  pub preview_by_rows : preview_call v ls r ≡ (firstRow (preview_rows v ls r) >>= λ ok. accepted effect_on)
  unfolding preview_call segment_call ◌>>=◌
  preview_by_rows = then-then (firstRow (preview_rows v ls r)) (λ ok. accepted (segments_of v (ranges_of (longer ls r)))) (λ ss. accepted (effect_of (length (segments (ranges_of ls))) ss))

  pub preview_trial : firstRow (preview_rows v ls r) ≡ firstRow (trial_rows false (bad_service v) (longer ls r))
  unfolding too_short any
  preview_trial = segment_trial [] v (longer ls r)

  pub preview-accepted : (firstRow (preview_rows v ls r) ≡ accepted tt) ↔ (GoodService v × AcceptedLists (longer ls r) × (length ls.times < most_ranges))
  preview-accepted =
      let tried = segment-accepted [] v (longer ls r) in
      (λ e. let h = tried.0 e in (h.1, h.2, omega (arith, h.3, longer_length ls r)), λ h. tried.1 (no-slice, h.0, h.1, omega (arith, h.2, longer_length ls r)))

-- ---- the last time

unfoldable pub least_past : ℕ → List ℕ → ℕ
least_past least [] = least
least_past least (t ∷ ts) = least_past (t + 1) ts

pub least-none : (least : ℕ) (ts : List ℕ) → length ts ≡ 0 → least_past least ts ≡ least
unfolding least_past
least-none least [] e = refl
least-none least (t ∷ ts) e = absurd (omega arith)

pub least-end : (least : ℕ) (ts : List ℕ) (k : ℕ) → length ts ≡ k + 1 → least_past least ts ≡ get_or ts k 0 + 1
unfolding least_past
least-end least [] k e = absurd (omega arith)
least-end least (t ∷ ts) zero e = least-none (t + 1) ts (omega arith)
least-end least (t ∷ ts) (suc k) e = least-end (t + 1) ts k (omega arith)

least-zip : (least : ℕ) (ts : List ℕ) (us vs : List ℤ) → length us ≡ length ts → length vs ≡ length ts → time_before (least_past least ts) ≡ last_time (time_before least) (zip_ranges ts us vs)
unfolding least_past last_time zip_ranges
least-zip least [] us vs p q = refl
least-zip least (t ∷ ts) [] vs p q = absurd (omega arith)
least-zip least (t ∷ ts) (u ∷ us) [] p q = absurd (omega arith)
least-zip least (t ∷ ts) (u ∷ us) (v ∷ vs) p q = least-zip (t + 1) ts us vs (omega arith) (omega arith) ∙ ap (λ before. last_time before (zip_ranges ts us vs)) (time_before-suc t)

pub least-last : (ls : Lists) → SameLength ls → time_before (least_past 0 ls.times) ≡ last_time none (ranges_of ls)
unfolding ranges_of time_before
least-last ls same = least-zip 0 ls.times ls.lows ls.highs same.lows_long same.highs_long
