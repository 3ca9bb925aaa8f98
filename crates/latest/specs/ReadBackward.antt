-- The lists of a trace read backward, as the loop of `read_backward` fills them.
--
--     RoomFor ls bs            the lists ls are of one length, and each of bs is at least as long
--     ReadBackward ls bs       the first entries of bs are the times, lows and highs of the trace read backward; no time of ls is above 4,294,967,295
--     Turning, turning, turns_on, all-turned   what holds in the loop: before it, after one turn more, after it
--     backward-ranges, backward-accepted     the ranges of these first entries are those of the trace read backward, and so they are lists that are accepted
--
-- Assumes nothing.
use Rattle.std.specs.Prelude.{◌≡◌, refl, ℕ, suc, ◌+◌, ◌-◌, ◌≤◌, ◌<◌, ℤ, pos, length, get_or, set, take, drop}
use Rattle.std.proofs.Common.{sym, ap, ap₂, ◌∙◌, subst, add-one, arith, length-set, drop_of_length-le, take-suc-set, drop-cons}
use mathlib.Core.List.{List, [], ◌∷◌, ◌++◌, map, reverse, reverse-cons}
use mathlib.Mathlib.Data.List.Basic.{map-reverse_aux}
use Rattle.integers.specs.Lists.{nil, cons, All-map, All-reverse, All_imp}
use Rattle.definitions.specs.Spans.{most_time}
use Rattle.definitions.specs.Ranges.{Range, Lists, zip_ranges, ranges_of}
use Rattle.trial_laws.specs.RangeLists.{SameLength, same_length, lists_of, lists-alike, ranges_of-lists, lists-of-ranges, first_entries}
use Rattle.trial_laws.specs.Accepted.{ProperRanges, AcceptedLists, accepted-lists}
use Rattle.lines.specs.BackwardTimes.{back_time, backward, Until, backward_ordered}

pub record RoomFor (ls bs : Lists) : Type 0 where
  pub same : SameLength ls
  pub times_room : length ls.times ≤ length bs.times
  pub lows_room : length ls.times ≤ length bs.lows
  pub highs_room : length ls.times ≤ length bs.highs

pub record ReadBackward (ls bs : Lists) : Type 0 where
  pub first_are : first_entries (length ls.times) bs ≡ lists_of (backward most_time (ranges_of ls))
  pub until : Until most_time (ranges_of ls)

-- the first k entries of a list are the last k of another, read backward
abbrev TurnedList : {A B : Type 0} → (A → B) → List A → List B → ℕ → Type 0
TurnedList f xs ys k = take k ys ≡ reverse (map f (drop (length xs - k) xs))

pub record Turning (ls old bs : Lists) (k : ℕ) : Type 0 where
  pub in_list : k ≤ length ls.times
  pub times_turned : TurnedList (λ t. most_time - t) ls.times bs.times k
  pub lows_turned : TurnedList (λ u. u) ls.lows bs.lows k
  pub highs_turned : TurnedList (λ u. u) ls.highs bs.highs k
  pub times_long : length bs.times ≡ length old.times
  pub lows_long : length bs.lows ≡ length old.lows
  pub highs_long : length bs.highs ≡ length old.highs
  pub bounded : 0 < k → (i : ℕ) → get_or ls.times i 0 ≤ most_time

-- ---- the loop

module _ {A B : Type 0} (f : A → B) (xs : List A) (ys : List B) where
  none_turned : TurnedList f xs ys 0
  none_turned = sym (ap (λ l. reverse (map f l)) (drop_of_length-le xs {i = length xs - 0} (omega arith)))

  one_turned : (k j : ℕ) (d : A) → k < length xs → length xs ≤ length ys → j ≡ length xs - 1 - k → TurnedList f xs ys k → TurnedList f xs (set ys k (f (get_or xs j d))) (k + 1)
  one_turned k j d inside room is turned =
      let x = get_or xs j d in
      let n : suc j ≡ length xs - k = omega arith in
      let m : j ≡ length xs - (k + 1) = omega arith in
      ap (λ i. take i (set ys k (f x))) (add-one k)
      ∙ take-suc-set ys k (f x) (omega arith)
      ∙ ap (λ l. l ++ (f x ∷ [])) (turned ∙ ap (λ i. reverse (map f (drop i xs))) (sym n))
      ∙ sym (reverse-cons (f x) (map f (drop (suc j) xs)))
      ∙ ap (λ l. reverse (map f l)) (sym (drop-cons xs j d (omega arith)))
      ∙ ap (λ i. reverse (map f (drop i xs))) m

  whole_turned : (k : ℕ) → k ≡ length xs → TurnedList f xs ys k → take k ys ≡ reverse (map f xs)
  whole_turned k is turned = let z : length xs - k ≡ 0 = omega arith in turned ∙ ap (λ i. reverse (map f (drop i xs))) z

module _ (ls old : Lists) where
  pub turning : Turning ls old old 0
  turning =
      record {
        in_list = omega arith;
        times_turned = none_turned (λ t. most_time - t) ls.times old.times;
        lows_turned = none_turned (λ u. u) ls.lows old.lows;
        highs_turned = none_turned (λ u. u) ls.highs old.highs;
        times_long = refl;
        lows_long = refl;
        highs_long = refl;
        bounded = λ h. absurd (omega arith);
      }

  pub turns_on : (bs : Lists) (k j : ℕ) {low high : ℤ} → RoomFor ls old → k < length ls.times → j ≡ length ls.times - 1 - k → ((i : ℕ) → get_or ls.times i 0 ≤ most_time)
      → low ≡ get_or ls.lows j (pos 0) → high ≡ get_or ls.highs j (pos 0) → Turning ls old bs k
      → Turning ls old (record { times = set bs.times k (most_time - get_or ls.times j 0); lows = set bs.lows k low; highs = set bs.highs k high }) (k + 1)
  turns_on bs k j room inside is within low-is high_is t =
      let us-long = room.same.lows_long in
      let vs-long = room.same.highs_long in
      let one-low = one_turned (λ u. u) ls.lows bs.lows k j (pos 0) (omega arith) (omega (arith, room.lows_room, t.lows_long)) (omega arith) t.lows_turned in
      let one-high = one_turned (λ u. u) ls.highs bs.highs k j (pos 0) (omega arith) (omega (arith, room.highs_room, t.highs_long)) (omega arith) t.highs_turned in
      record {
        in_list = omega arith;
        times_turned = one_turned (λ t. most_time - t) ls.times bs.times k j 0 inside (omega (arith, room.times_room, t.times_long)) is t.times_turned;
        lows_turned = ap (λ u. take (k + 1) (set bs.lows k u)) low-is ∙ one-low;
        highs_turned = ap (λ u. take (k + 1) (set bs.highs k u)) high_is ∙ one-high;
        times_long = length-set bs.times k _ ∙ t.times_long;
        lows_long = length-set bs.lows k _ ∙ t.lows_long;
        highs_long = length-set bs.highs k _ ∙ t.highs_long;
        bounded = λ _. within;
      }

-- ---- after it

-- one list of the trace read backward
list-backward : {A B : Type 0} (of : Range → A) (f : A → B) (back : Range → B) → ((r : Range) → f (of r) ≡ back (back_time most_time r)) → (rs : List Range) → reverse (map f (map of rs)) ≡ map back (backward most_time rs)
list-backward of f back same rs = ap reverse (each rs) ∙ sym (map-reverse_aux back (map (back_time most_time) rs) [])
  where
    each : (rs : List Range) → map f (map of rs) ≡ map back (map (back_time most_time) rs)
    each [] = refl
    each (r ∷ rs) = ap₂ (λ x xs. x ∷ xs) (same r) (each rs)

-- where the loop has gone through it
list_copied : {A B : Type 0} (of : Range → A) (f : A → B) (back : Range → B) → ((r : Range) → f (of r) ≡ back (back_time most_time r)) → (rs : List Range) (xs : List A) (ys : List B) (n k : ℕ)
    → map of rs ≡ xs → n ≡ length xs → k ≡ length xs → TurnedList f xs ys k → take n ys ≡ map back (backward most_time rs)
list_copied of f back same rs xs ys n k is long all turned =
    let m : n ≡ k = omega arith in
    ap (λ i. take i ys) m ∙ whole_turned f xs ys k all turned ∙ ap (λ l. reverse (map f l)) (sym is) ∙ list-backward of f back same rs

-- no time is above the last, by place and so by range
until-by_place : (ts : List ℕ) (us vs : List ℤ) → (0 < length ts → (i : ℕ) → get_or ts i 0 ≤ most_time) → Until most_time (zip_ranges ts us vs)
unfolding zip_ranges
until-by_place [] us vs h = nil
until-by_place (t ∷ ts) [] vs h = nil
until-by_place (t ∷ ts) (u ∷ us) [] h = nil
until-by_place (t ∷ ts) (u ∷ us) (v ∷ vs) h = cons (h (omega arith) 0) (until-by_place ts us vs (λ _ i. h (omega arith) (suc i)))

pub all-turned : (ls old bs : Lists) (k : ℕ) → SameLength ls → length ls.times ≤ k → Turning ls old bs k → ReadBackward ls bs
unfolding first_entries lists_of ranges_of
all-turned ls old bs k same past t = record { first_are = λ i. record { times = times_are i; lows = lows_are i; highs = highs_are i }; until = until-by_place ls.times ls.lows ls.highs (λ some. t.bounded (omega (arith, some, past))) }
  where
    rs : List Range
    rs = ranges_of ls

    n : ℕ
    n = length ls.times

    whole : k ≡ n
    whole = omega (arith, past, t.in_list)

    lists_are : lists_of rs ≡ ls
    lists_are = lists-of-ranges ls same

    times_are : take n bs.times ≡ map (λ r. r.time) (backward most_time rs)
    times_are = list_copied (λ r. r.time) (λ t. most_time - t) (λ r. r.time) (λ r. refl) rs ls.times bs.times n k (ap (λ l. l.times) lists_are) refl whole t.times_turned

    lows_are : take n bs.lows ≡ map (λ r. r.low) (backward most_time rs)
    lows_are =
        let long = same.lows_long in
        list_copied (λ r. r.low) (λ u. u) (λ r. r.low) (λ r. refl) rs ls.lows bs.lows n k (ap (λ l. l.lows) lists_are) (sym long) (whole ∙ sym long) t.lows_turned

    highs_are : take n bs.highs ≡ map (λ r. r.high) (backward most_time rs)
    highs_are =
        let long = same.highs_long in
        list_copied (λ r. r.high) (λ u. u) (λ r. r.high) (λ r. refl) rs ls.highs bs.highs n k (ap (λ l. l.highs) lists_are) (sym long) (whole ∙ sym long) t.highs_turned

-- ---- the ranges of the copy

pub backward-ranges : {ls bs : Lists} → ReadBackward ls bs → ranges_of (first_entries (length ls.times) bs) ≡ backward most_time (ranges_of ls)
backward-ranges {ls} copied = ap ranges_of copied.first_are ∙ ranges_of-lists (backward most_time (ranges_of ls))

pub backward-accepted : {ls bs : Lists} → AcceptedLists ls → ReadBackward ls bs → AcceptedLists (first_entries (length ls.times) bs)
backward-accepted {ls} {bs} a copied =
    accepted-lists (first_entries (length ls.times) bs)
    (subst SameLength (sym copied.first_are) ((same_length (lists_of (backward most_time (ranges_of ls)))).0 (lists-alike (backward most_time (ranges_of ls)))))
    (subst ProperRanges (sym (backward-ranges copied)) (record {
      each = All-reverse (All-map (back_time most_time) (All_imp (λ r p. record { low_inside = p.low_inside; high_inside = p.high_inside; low_within = p.low_within; high_within = p.high_within; low_high = p.low_high }) a.ranges.each));
      ordered = backward_ordered most_time (ranges_of ls) copied.until a.ranges.ordered;
    }))
