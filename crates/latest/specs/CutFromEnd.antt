-- Cutting a whole trace from its end by calls of Latest: the latest run is taken off, Latest is called on the lists without it, and so on until nothing is left. Theorems about what these calls give.
--
--     without n ls           the lists without their last n ranges
--     CallsFromEnd v ls trends   the trends that such calls give, one after the other, beginning with the lists
--     runs_in ls trends       the runs that they take off, from the last on
--     rest_accepted          where a call accepted the lists, the next one accepts what is left, if its slices are long enough
--     rest_shorter           less is left after each call, so the calls come to an end
--     Answers, calls_exist   whatever keeps the promise of Latest on all lists: where it accepts some lists, such calls can be made from there on to the end
--     calls_split            the runs, turned round, are a split of the trace
--     calls_count            there are as many calls as Segment gives segments
--     calls_fewest           every split has at least as many runs
--
-- Assumes nothing.
use Rattle.definitions.specs.Refusals.{refusal_number}
use Rattle.definitions.specs.declared.refusals.Refusal.{Refusal}
use Rattle.std.specs.Prelude.{◌≡◌, refl, Bool, true, false, List, [], ◌∷◌, reverse, ℕ, zero, suc, ◌-◌, ◌<◌, ◌≤◌, ltb, ℤ, length, take, Err, Ok, Result}
use Rattle.std.proofs.Common.{sym, ap, ◌∙◌, subst, le_refl, arith, ltb-true, ltb-false}
use Rattle.std.proofs.Math.Seq.{length-take-le}
use Rattle.definitions.specs.Spans.{most_ranges, corner_room}
use Rattle.definitions.specs.Services.{Service}
use Rattle.definitions.specs.Ranges.{Range, Lists, zip_ranges, ranges_of}
use Rattle.definitions.specs.Fit.{HasLine, Ordered}
use Rattle.definitions.specs.Splits.{GoodRun, Split}
use Rattle.definitions.specs.Segments.{segments}
use Rattle.definitions.specs.Answers.{refused}
use Rattle.definitions.specs.Trial.{too_short}
use Rattle.trial_laws.specs.Rows.{first_row-accepted, refused_not_accepted}
use Rattle.trial_laws.specs.RangeLists.{ranges_length, first_entries, first-ranges}
use Rattle.trial_laws.specs.Accepted.{GoodService, AcceptedLists, latest-accepted}
use Rattle.splits.specs.Effects.{segments_of-length}
use Rattle.lines.specs.Theorems.{segments_fewest}
use Rattle.lines.specs.LatestTrend.{rest_of, FromEnd, none_left, latest_off, from_end-split, from_end-count}
use Rattle.drift_laws.specs.FirstRanges.{first-accepted}
use Rattle.drift.specs.Columns.{Columns}
use Rattle.drift.specs.SegmentPromise.{SegmentPromise}
use Rattle.drift.specs.GivenColumns.{count-is}
use Rattle.drift.specs.CornersPromise.{three_lengths}
use Rattle.latest.specs.declared.Trend.{Trend}
use Rattle.latest.specs.LatestPromise.{latest_meaning, LatestPromise}
use Rattle.latest.specs.Refusals as Refusals
use Rattle.latest.specs.GivenTrends.{last_ranges, taken_good, taken, taken_few, ordered, run_is, run_length, run_good}

abbrev pub without : ℕ → Lists → Lists
without n ls = first_entries (length ls.times - n) ls

pub data CallsFromEnd (v : Service) : Lists → List Trend → Type 0 where
  nothing_left : {ls : Lists} → length ls.times ≡ 0 → CallsFromEnd v ls []
  one_call : {ls : Lists} {ps qs ds ps' qs' ds' : List ℤ} {t : Trend} {trends : List Trend} → 0 < length ls.times → LatestPromise v ls ps qs ds ps' qs' ds' (Ok t) → CallsFromEnd v (without t.ranges ls) trends → CallsFromEnd v ls (t ∷ trends)

abbrev pub runs_in : Lists → List Trend → List (List Range)
runs_in ls [] = []
runs_in ls (t ∷ trends) = last_ranges t.ranges ls ∷ runs_in (without t.ranges ls) trends

-- ---- the next call

module _ {v : Service} {ls : Lists} {ps qs ds ps' qs' ds' : List ℤ} {t : Trend} (promise : LatestPromise v ls ps qs ds ps' qs' ds' (Ok t)) where
  left_length : length (without t.ranges ls).times ≡ length ls.times - t.ranges
  unfolding first_entries
  left_length = length-take-le (length ls.times - t.ranges) ls.times (omega arith)

  pub rest_accepted : {ps₁ qs₁ ds₁ ps₁' qs₁' ds₁' : List ℤ} {answer : Result Trend Refusal} → too_short corner_room (three_lengths ps₁ qs₁ ds₁) ≡ false
      → LatestPromise v (without t.ranges ls) ps₁ qs₁ ds₁ ps₁' qs₁' ds₁' answer → (n : ℕ) → ¬ (latest_meaning answer ≡ refused n)
  rest_accepted {ps₁} {qs₁} {ds₁} room next n e =
      let rest = first-accepted (taken promise) (length ls.times - t.ranges) (omega arith) in
      let none = (first_row-accepted _).0 ((latest-accepted (three_lengths ps₁ qs₁ ds₁) v (without t.ranges ls)).1 (room, taken_good promise, rest, omega (arith, left_length, taken_few promise))) in
      refused_not_accepted (sym e ∙ (Refusals.latest-accepted next).1 none)

  pub rest_shorter : 0 < length ls.times → length (without t.ranges ls).times < length ls.times
  rest_shorter some = omega (arith, left_length, some_told (last_ranges t.ranges ls) (run_length promise).0 (run_good promise some))
    where
      some_told : (rs : List Range) → length rs ≡ t.ranges → GoodRun HasLine rs → 0 < t.ranges
      some_told [] e g = absurd g
      some_told (r ∷ rs) e g = omega arith

refused-meaning : (e : Refusal) → refused (refusal_number e) ≡ latest_meaning (Err e)
unfolding latest_meaning
refused-meaning e = refl

-- ---- all calls

no-ranges : (ls : Lists) → length ls.times ≡ 0 → ranges_of ls ≡ []
unfolding ranges_of zip_ranges
no-ranges ls e = by ls.times e
  where
    by : (ts : List ℕ) → length ts ≡ 0 → zip_ranges ts ls.lows ls.highs ≡ []
    by [] e = refl
    by (t ∷ ts) e = absurd (omega arith)

from_end : {v : Service} {ls : Lists} {trends : List Trend} → CallsFromEnd v ls trends → FromEnd (ranges_of ls) (runs_in ls trends)
from_end {ls = ls} (nothing_left e) = subst (λ rs. FromEnd rs []) (sym (no-ranges ls e)) none_left
from_end {ls = ls} (one_call {t = t} {trends = trends} some promise rest) =
    let rs = ranges_of ls in
    let long = ranges_length ls (taken promise).same in
    let n : length ls.times - t.ranges ≡ rest_of rs = omega (arith, long, (run_length promise).0, ap length (run_is promise)) in
    let left = first-ranges (length ls.times - t.ranges) ls ∙ ap (λ i. take i rs) n in
    subst (λ run. FromEnd rs (run ∷ runs_in (without t.ranges ls) trends)) (sym (run_is promise))
    (latest_off (omega (arith, some, long)) (subst (λ l. FromEnd l (runs_in (without t.ranges ls) trends)) left (from_end rest)))

runs-count : (ls : Lists) (trends : List Trend) → length (runs_in ls trends) ≡ length trends
runs-count ls [] = refl
runs-count ls (t ∷ trends) = ap suc (runs-count (without t.ranges ls) trends)

module _ {v : Service} {ls : Lists} {trends : List Trend} (calls : CallsFromEnd v ls trends) where
  calls_ordered : Ordered (ranges_of ls)
  calls_ordered = by calls
    where
      by : {trends : List Trend} → CallsFromEnd v ls trends → Ordered (ranges_of ls)
      by (nothing_left e) = subst Ordered (sym (no-ranges ls e)) tt
      by (one_call some promise rest) = ordered promise

  pub calls_split : Split HasLine (ranges_of ls) (reverse (runs_in ls trends))
  calls_split = from_end-split calls_ordered (from_end calls)

  as_many : length trends ≡ length (segments (ranges_of ls))
  as_many = sym (runs-count ls trends) ∙ from_end-count calls_ordered (from_end calls)

  pub calls_fewest : (runs : List (List Range)) → Split HasLine (ranges_of ls) runs → length trends ≤ length runs
  calls_fewest runs split = omega (arith, as_many, segments_fewest (ranges_of ls) calls_ordered runs split)

  pub calls_count : {old new : Columns} {m : ℕ} → SegmentPromise v ls old new (Ok m) → length trends ≡ m
  calls_count segmented = as_many ∙ sym (count-is segmented ∙ segments_of-length v (ranges_of ls))

-- ---- there are such calls

-- what a callee gives on any lists, with these slices lent each time
abbrev pub Answers : Service → List ℤ → List ℤ → List ℤ → Type 0
Answers v ps qs ds = (ls : Lists) → (ps' : List ℤ) × (qs' : List ℤ) × (ds' : List ℤ) × (answer : Result Trend Refusal) × LatestPromise v ls ps qs ds ps' qs' ds' answer

module _ {v : Service} {ps qs ds : List ℤ} (room : too_short corner_room (three_lengths ps qs ds) ≡ false) (answers : Answers v ps qs ds) where
  -- of lists on which some call was accepted
  abbrev Taken : Lists → Type 0
  Taken ls = GoodService v × AcceptedLists ls × (length ls.times ≤ most_ranges)

  one_more : (most : ℕ) → ((ls : Lists) → Taken ls → length ls.times ≤ most → (trends : List Trend) × CallsFromEnd v ls trends)
      → (ls : Lists) → Taken ls → length ls.times ≤ suc most → (trends : List Trend) × CallsFromEnd v ls trends
  one_more most fewer ls taken-lists h = by (ltb 0 (length ls.times)) refl
    where
      accepted_here : (answer : Result Trend Refusal) {ps' qs' ds' : List ℤ} → 0 < length ls.times → LatestPromise v ls ps qs ds ps' qs' ds' answer → (trends : List Trend) × CallsFromEnd v ls trends
      accepted_here (Ok t) some promise =
          let left = left_length promise in
          let shorter = rest_shorter promise some in
          let few = taken-lists.2 in
          let (trends, rest) = fewer (without t.ranges ls) (taken-lists.0, first-accepted taken-lists.1 (length ls.times - t.ranges) (omega arith), omega (arith, left, few)) (omega (arith, shorter, h)) in
          (t ∷ trends, one_call some promise rest)
      accepted_here (Err n) some promise =
          let none = (first_row-accepted _).0 ((latest-accepted (three_lengths ps qs ds) v ls).1 (room, taken-lists.0, taken-lists.1, taken-lists.2)) in
          refused_not_accepted (refused-meaning n ∙ (Refusals.latest-accepted promise).1 none)

      by : (b : Bool) → ltb 0 (length ls.times) ≡ b → (trends : List Trend) × CallsFromEnd v ls trends
      by false e = let none = ltb-false 0 (length ls.times) e in ([], nothing_left {ls = ls} (omega (arith, none)))
      by true e = let (ps', qs', ds', answer, promise) = answers ls in accepted_here answer (ltb-true 0 (length ls.times) e) promise

  within : (most : ℕ) (ls : Lists) → Taken ls → length ls.times ≤ most → (trends : List Trend) × CallsFromEnd v ls trends
  within zero ls taken-lists h = ([], nothing_left {ls = ls} (omega (arith, h)))
  within (suc most) ls taken-lists h = one_more most (within most) ls taken-lists h

  pub calls_exist : {ls : Lists} {ps' qs' ds' : List ℤ} {t : Trend} → LatestPromise v ls ps qs ds ps' qs' ds' (Ok t) → (trends : List Trend) × CallsFromEnd v ls trends
  calls_exist {ls} promise = within (length ls.times) ls (taken_good promise, taken promise, taken_few promise) (le_refl (length ls.times))
