-- One head's numbers, copied to the start of a list in their order.
--
--     put_if, put_from              an entry stored at a place, if it is taken; those of an address, from a place on
--     InEach, CopiedIf            what `copy_if` asks, and what it promises
--     SameLengths, Copied         what `copy_head` asks, and what it promises
--     values_of                    the entries of an address
--     put_all, values_few         they stand first, and past them all is as it was; there are no more of them than addresses
--     HeadColumns, head-columns   the entries of an address in three lists are its ranges' times, lows and highs
--     Going, going, goes_on, gone what holds in the loop of `copy_head`: before it, after one turn more, after it
--
-- Assumes nothing.
use Prim.Native.Nat.{ℕ, zero, suc, ◌+◌, ◌<◌, ◌≤◌}
use Rattle.std.proofs.Common.{add-one, add-zero, zero-add, ◌∙◌, take-suc-set, drop-set-lt, take_all}
use native.Mathlib.Omega.{arith}
use Rattle.std.specs.Prelude.{◌≡◌, Bool, eqb, ℤ, pos, get_or, set}
use Rattle.std.proofs.Math.Path.{refl, sym, ap, ap₂}
use Rattle.std.proofs.Math.Bool.{true, false}
use mathlib.Core.List.{List, [], ◌∷◌, ◌++◌, map, append_assoc}
use Rattle.std.proofs.Math.ListN.{length, length-set, take, drop, take-append-drop, drop_of_length-le}
use Rattle.definitions.specs.Ranges.{Range, Lists}
use Rattle.definitions.specs.Panels.{zip_taken, kept, head_ranges, counted_in, occurrences}
use Rattle.trial_laws.specs.RangeLists.{range_at}
use Rattle.panel_laws.specs.Tallies.{counted-bound, count-take}

unfoldable pub put_if : {A : Type 0} → Bool → ℕ → A → List A → List A
put_if true at x o = set o at x
put_if false at x o = o

unfoldable pub put_from : {A : Type 0} → ℕ → ℕ → List ℕ → List A → List A → List A
put_from a at [] xs o = o
put_from a at (b ∷ bs) [] o = o
put_from a at (b ∷ bs) (x ∷ xs) o = put_from a (counted_in (eqb b a) at) bs xs (put_if (eqb b a) at x o)

pub record InEach (k : ℕ) (ts : List ℕ) (us vs : List ℤ) : Type 0 where
  pub in_times : k < length ts
  pub in_lows : k < length us
  pub in_highs : k < length vs

pub record CopiedIf (take : Bool) (at : ℕ) (r : Range) (old new : Lists) : Type 0 where
  pub times_are : new.times ≡ put_if take at r.time old.times
  pub lows_are : new.lows ≡ put_if take at r.low old.lows
  pub highs_are : new.highs ≡ put_if take at r.high old.highs

pub record SameLengths (bs ts : List ℕ) (us vs : List ℤ) : Type 0 where
  pub times : length ts ≡ length bs
  pub lows : length us ≡ length bs
  pub highs : length vs ≡ length bs

pub record Copied (a : ℕ) (bs ts : List ℕ) (us vs : List ℤ) (n : ℕ) (old new : Lists) : Type 0 where
  pub count-is : n ≡ occurrences a bs
  pub times_are : new.times ≡ put_from a 0 bs ts old.times
  pub lows_are : new.lows ≡ put_from a 0 bs us old.lows
  pub highs_are : new.highs ≡ put_from a 0 bs vs old.highs

module _ {A : Type 0} where
  put_step : (a at k : ℕ) (bs : List ℕ) (xs : List A) (d : A) (o : List A) → k < length bs → length xs ≡ length bs → put_from a at (drop k bs) (drop k xs) o ≡ put_from a (counted_in (eqb (get_or bs k 0) a) at) (drop (suc k) bs) (drop (suc k) xs) (put_if (eqb (get_or bs k 0) a) at (get_or xs k d) o)
  unfolding put_from
  put_step a at k [] xs d o l e = absurd (omega (arith, l))
  put_step a at k (b ∷ bs) [] d o l e = absurd (omega (arith, e))
  put_step a at zero (b ∷ bs) (x ∷ xs) d o l e = refl
  put_step a at (suc k) (b ∷ bs) (x ∷ xs) d o l e = put_step a at k bs xs d o (omega (arith, l)) (omega (arith, e))

  length_put_if : (t : Bool) (at : ℕ) (x : A) (o : List A) → length (put_if t at x o) ≡ length o
  unfolding put_if
  length_put_if true at x o = length-set o at x
  length_put_if false at x o = refl

  unfoldable pub values_of : ℕ → List ℕ → List A → List A
  values_of a [] xs = []
  values_of a (b ∷ bs) [] = []
  values_of a (b ∷ bs) (x ∷ xs) = kept (eqb b a) x (values_of a bs xs)

  put_more : (t : Bool) (a at : ℕ) (x : A) (bs : List ℕ) (xs o : List A)
      → ((i : ℕ) (q : List A) → i + length (values_of a bs xs) ≤ length q → put_from a i bs xs q ≡ take i q ++ (values_of a bs xs ++ drop (i + length (values_of a bs xs)) q))
      → at + length (kept t x (values_of a bs xs)) ≤ length o
      → put_from a (counted_in t at) bs xs (put_if t at x o) ≡ take at o ++ (kept t x (values_of a bs xs) ++ drop (at + length (kept t x (values_of a bs xs))) o)
  unfolding counted_in put_if kept
  put_more true a at x bs xs o rest l =
      let vs = values_of a bs xs in
      let long = length-set o at x in
      let inside : at < length o = omega (arith, l) in
      let sum : suc at + length vs ≡ at + suc (length vs) = omega arith in
      rest (suc at) (set o at x) (omega (arith, l, long))
      ∙ ap₂ (λ front back. front ++ (vs ++ back)) (take-suc-set o at x inside) (drop-set-lt (suc at + length vs) o at x (omega arith) ∙ ap (λ i. drop i o) sum)
      ∙ append_assoc (take at o) (x ∷ []) (vs ++ drop (at + suc (length vs)) o)
  put_more false a at x bs xs o rest l = rest at o l

  put_at : (a at : ℕ) (bs : List ℕ) (xs o : List A) → at + length (values_of a bs xs) ≤ length o → put_from a at bs xs o ≡ take at o ++ (values_of a bs xs ++ drop (at + length (values_of a bs xs)) o)
  unfolding put_from values_of
  put_at a at [] xs o l = sym (ap (λ i. take at o ++ drop i o) (add-zero at) ∙ take-append-drop at o)
  put_at a at (b ∷ bs) [] o l = sym (ap (λ i. take at o ++ drop i o) (add-zero at) ∙ take-append-drop at o)
  put_at a at (b ∷ bs) (x ∷ xs) o l = put_more (eqb b a) a at x bs xs o (λ i q. put_at a i bs xs q) l

  -- the entries of an address stand first, and past them all is as it was
  pub put_all : (a : ℕ) (bs : List ℕ) (xs o : List A) → length (values_of a bs xs) ≤ length o → put_from a 0 bs xs o ≡ values_of a bs xs ++ drop (length (values_of a bs xs)) o
  put_all a bs xs o l = put_at a 0 bs xs o (omega (arith, l)) ∙ ap (λ i. values_of a bs xs ++ drop i o) (zero-add (length (values_of a bs xs)))

  kept_map : (f : Range → A) (t : Bool) (r : Range) (x : A) (rs : List Range) (xs : List A) → f r ≡ x → map f rs ≡ xs → map f (kept t r rs) ≡ kept t x xs
  unfolding kept
  kept_map f true r x rs xs e h = ap₂ (λ y ys. y ∷ ys) e h
  kept_map f false r x rs xs e h = h

fewer : {b t : ℕ} {u v : ℤ} {bs ts : List ℕ} {us vs : List ℤ} → SameLengths (b ∷ bs) (t ∷ ts) (u ∷ us) (v ∷ vs) → SameLengths bs ts us vs
fewer s = let e = s.times in let f = s.lows in let g = s.highs in record { times = omega (arith, e); lows = omega (arith, f); highs = omega (arith, g) }

-- no more than there are addresses
module _ {A : Type 0} where
  few_step : (t : Bool) (x : A) (xs : List A) (n : ℕ) → length xs ≤ n → length (kept t x xs) ≤ suc n
  unfolding kept
  few_step true x xs n l = omega (arith, l)
  few_step false x xs n l = omega (arith, l)

  pub values_few : (a : ℕ) (bs : List ℕ) (xs : List A) → length (values_of a bs xs) ≤ length bs
  unfolding values_of
  values_few a [] xs = omega arith
  values_few a (b ∷ bs) [] = omega arith
  values_few a (b ∷ bs) (x ∷ xs) = few_step (eqb b a) x (values_of a bs xs) (length bs) (values_few a bs xs)

-- the entries of an address in three lists are its ranges' times, lows and highs
pub record HeadColumns (a : ℕ) (bs ts : List ℕ) (us vs : List ℤ) : Type 0 where
  pub times : map (λ (r : Range). r.time) (head_ranges a (zip_taken bs ts us vs)) ≡ values_of a bs ts
  pub lows : map (λ (r : Range). r.low) (head_ranges a (zip_taken bs ts us vs)) ≡ values_of a bs us
  pub highs : map (λ (r : Range). r.high) (head_ranges a (zip_taken bs ts us vs)) ≡ values_of a bs vs

pub head-columns : (a : ℕ) (bs ts : List ℕ) (us vs : List ℤ) → SameLengths bs ts us vs → HeadColumns a bs ts us vs
unfolding head_ranges zip_taken values_of
head-columns a [] ts us vs s = record { times = refl; lows = refl; highs = refl }
head-columns a (b ∷ bs) [] us vs s = absurd (let e = s.times in omega (arith, e))
head-columns a (b ∷ bs) (t ∷ ts) [] vs s = absurd (let e = s.lows in omega (arith, e))
head-columns a (b ∷ bs) (t ∷ ts) (u ∷ us) [] s = absurd (let e = s.highs in omega (arith, e))
head-columns a (b ∷ bs) (t ∷ ts) (u ∷ us) (v ∷ vs) s =
    let rest = head-columns a bs ts us vs (fewer s) in
    let r : Range = record { time = t; low = u; high = v } in
    let rs = head_ranges a (zip_taken bs ts us vs) in
    record {
      times = kept_map (λ (x : Range). x.time) (eqb b a) r t rs (values_of a bs ts) refl rest.times;
      lows = kept_map (λ (x : Range). x.low) (eqb b a) r u rs (values_of a bs us) refl rest.lows;
      highs = kept_map (λ (x : Range). x.high) (eqb b a) r v rs (values_of a bs vs) refl rest.highs;
    }

-- ---- the loop: at the k-th address `at` entries are copied

pub record Going (a : ℕ) (bs ts : List ℕ) (us vs : List ℤ) (old new : Lists) (at k : ℕ) : Type 0 where
  pub in_list : k ≤ length bs
  pub at_most : at ≤ k
  pub counted : at ≡ occurrences a (take k bs)
  pub long_times : length new.times ≡ length old.times
  pub long_lows : length new.lows ≡ length old.lows
  pub long_highs : length new.highs ≡ length old.highs
  pub times_go : put_from a 0 bs ts old.times ≡ put_from a at (drop k bs) (drop k ts) new.times
  pub lows_go : put_from a 0 bs us old.lows ≡ put_from a at (drop k bs) (drop k us) new.lows
  pub highs_go : put_from a 0 bs vs old.highs ≡ put_from a at (drop k bs) (drop k vs) new.highs

module _ (a : ℕ) (bs ts : List ℕ) (us vs : List ℤ) (old : Lists) where
  pub going : Going a bs ts us vs old old 0 0
  unfolding occurrences
  going = record { in_list = omega arith; at_most = omega arith; counted = refl; long_times = refl; long_lows = refl; long_highs = refl; times_go = refl; lows_go = refl; highs_go = refl }

  pub goes_on : (new next : Lists) (at at' k : ℕ) → SameLengths bs ts us vs → k < length bs → Going a bs ts us vs old new at k
      → CopiedIf (eqb (get_or bs k 0) a) at (range_at (record { times = ts; lows = us; highs = vs }) k) new next
      → at' ≡ counted_in (eqb (get_or bs k 0) a) at → Going a bs ts us vs old next at' (k + 1)
  goes_on new next at at' k s l g copied at-is =
      let t = eqb (get_or bs k 0) a in
      let most = counted-bound t at in
      let before = g.at_most in
      record {
        in_list = omega (arith, l);
        at_most = omega (arith, most, before, at-is);
        counted = at-is ∙ ap (counted_in t) g.counted ∙ sym (count-take a k bs l) ∙ ap (λ i. occurrences a (take i bs)) (sym (add-one k));
        long_times = ap length copied.times_are ∙ length_put_if t at (get_or ts k 0) new.times ∙ g.long_times;
        long_lows = ap length copied.lows_are ∙ length_put_if t at (get_or us k (pos 0)) new.lows ∙ g.long_lows;
        long_highs = ap length copied.highs_are ∙ length_put_if t at (get_or vs k (pos 0)) new.highs ∙ g.long_highs;
        times_go = g.times_go ∙ stepped ts 0 new.times next.times s.times copied.times_are;
        lows_go = g.lows_go ∙ stepped us (pos 0) new.lows next.lows s.lows copied.lows_are;
        highs_go = g.highs_go ∙ stepped vs (pos 0) new.highs next.highs s.highs copied.highs_are;
      }
    where
      stepped : {A : Type 0} (xs : List A) (d : A) (o q : List A) → length xs ≡ length bs → q ≡ put_if (eqb (get_or bs k 0) a) at (get_or xs k d) o → put_from a at (drop k bs) (drop k xs) o ≡ put_from a at' (drop (k + 1) bs) (drop (k + 1) xs) q
      stepped xs d o q e q_is = put_step a at k bs xs d o l e ∙ ap₂ (λ i p. put_from a i (drop (suc k) bs) (drop (suc k) xs) p) (sym at-is) (sym q_is) ∙ ap (λ i. put_from a at' (drop i bs) (drop i xs) q) (sym (add-one k))

  pub gone : (new : Lists) (at k : ℕ) → length bs ≤ k → Going a bs ts us vs old new at k → Copied a bs ts us vs at old new
  unfolding put_from
  gone new at k l g =
      let none_left = drop_of_length-le bs {i = k} l in
      record {
        count-is = g.counted ∙ ap (occurrences a) (take_all k bs l);
        times_are = sym (g.times_go ∙ ap (λ cs. put_from a at cs (drop k ts) new.times) none_left);
        lows_are = sym (g.lows_go ∙ ap (λ cs. put_from a at cs (drop k us) new.lows) none_left);
        highs_are = sym (g.highs_go ∙ ap (λ cs. put_from a at cs (drop k vs) new.highs) none_left);
      }
