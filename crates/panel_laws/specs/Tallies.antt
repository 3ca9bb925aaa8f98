-- Counts, sums and tests of lists of numbers, and how each goes on from the k-th number.
--
--     first_place, or_later, among          the place of the first that is a number, or the length; one step to it; whether one is
--     sum_by, sum_of, above_sure             the sum of what a function makes of each; the sum; the sum of what each is above 32
--     twice_in                             a number stands twice
--     miscounted_as, miscounted_by, miscounted_in   a head does not hold what is counted for its address; counted by a tally; or among the addresses
--     least_from                           the least time after the last range of an address
--     eqb-sym                             whether two numbers are equal, either way round
--     *-take, *-from                      each over the first k + 1 numbers, from the first k; from the k-th on
--     count-more, counted-bound, counted-sum   one number more to count
--     sum-above                           each is at most 32 and what it is above that
--     place_here, place-later             the first place, from the k-th on
--     incremented, tallied                one more at a place; every number counted in one pass
--     incremented-past, incremented-bound, none-counted   past the end nothing changes; no count rises by more than one; at first all are 0
--     tallied-alone                       a tally of numbers alone has, at each place, how many of them are that place
--     counted-plain                       a tally of the addresses tells what heads are to hold, where their addresses are inside their span
--
-- Assumes nothing.
use Rattle.std.specs.Prelude.{ℕ, zero, suc, ◌+◌, ◌-◌, ◌*◌, ◌<◌, ◌≤◌, ◌≡◌, refl, Bool, true, false, not, ◌||◌, List, [], ◌∷◌, ◌++◌, T, ltb, eqb, length, get_or, set, replicate, take, drop}
use Rattle.std.proofs.Common.{zero-add, add-one, arith, sym, ap, ap₂, ◌∙◌, length-set, take-suc, ltb-false, eqb-true, eq-eqb}
use Rattle.std.proofs.Math.Dec.{eqb-zero-suc, eqb-suc-zero, eqb-suc-suc}
use Rattle.std.proofs.lemmas.List.{length-replicate}
use Rattle.std.proofs.Math.Seq.{set_out}
use Rattle.integers.specs.Booleans.{T→true, true→T, T_ext, or-neither}
use Rattle.integers.specs.Lists.{any}
use Rattle.definitions.specs.Spans.{sure_places}
use Rattle.definitions.specs.Trial.{bad_address}
use Rattle.definitions.specs.Panels.{either, counted_in, occurrences}

unfoldable pub or_later : Bool → ℕ → ℕ
or_later true k = 0
or_later false k = suc k

unfoldable pub first_place : ℕ → List ℕ → ℕ
first_place a [] = 0
first_place a (x ∷ xs) = or_later (eqb x a) (first_place a xs)

unfoldable pub sum_by : (ℕ → ℕ) → List ℕ → ℕ
sum_by part [] = 0
sum_by part (x ∷ xs) = part x + sum_by part xs

abbrev pub sum_of : List ℕ → ℕ
sum_of = sum_by (λ x. x)

abbrev pub above_sure : List ℕ → ℕ
above_sure = sum_by (λ x. x - sure_places)

-- a number is among them
unfoldable pub among : ℕ → List ℕ → Bool
among a xs = ltb (first_place a xs) (length xs)

unfoldable pub twice_in : List ℕ → Bool
twice_in [] = false
twice_in (x ∷ xs) = among x xs || twice_in xs

-- some head, of the first list, does not hold, in the second, what is counted for its address
unfoldable pub miscounted_as : (ℕ → ℕ) → List ℕ → List ℕ → Bool
miscounted_as count [] hs = false
miscounted_as count (x ∷ xs) [] = false
miscounted_as count (x ∷ xs) (h ∷ hs) = not (eqb h (count x)) || miscounted_as count xs hs

-- in a tally, at the place of the address
abbrev pub miscounted_by : List ℕ → List ℕ → List ℕ → Bool
miscounted_by cs = miscounted_as (λ x. get_or cs x 0)

-- or among addresses
abbrev pub miscounted_in : List ℕ → List ℕ → List ℕ → Bool
miscounted_in bs = miscounted_as (λ x. occurrences x bs)

-- the least time after the last range of the address a, where `least` is what it was before these
unfoldable pub least_from : ℕ → ℕ → List ℕ → List ℕ → ℕ
least_from a least [] ts = least
least_from a least (b ∷ bs) [] = least
least_from a least (b ∷ bs) (t ∷ ts) = least_from a (either (eqb b a) (t + 1) least) bs ts

pub eqb-sym : (x y : ℕ) → eqb x y ≡ eqb y x
eqb-sym x y = T_ext (turned x y) (turned y x)
  where
    turned : (i j : ℕ) → T (eqb i j) → T (eqb j i)
    turned i j t = true→T (eq-eqb j i (sym (eqb-true i j (T→true t))))

-- ---- one number more

pub counted-bound : (t : Bool) (n : ℕ) → counted_in t n ≤ n + 1
unfolding counted_in
counted-bound true n = omega arith
counted-bound false n = omega arith

pub sum-take : (part : ℕ → ℕ) (k : ℕ) (xs : List ℕ) → k < length xs → sum_by part (take (suc k) xs) ≡ sum_by part (take k xs) + part (get_or xs k 0)
unfolding sum_by
sum-take part k [] l = absurd (omega (arith, l))
sum-take part zero (x ∷ xs) l = omega arith
sum-take part (suc k) (x ∷ xs) l = let r = sum-take part k xs (omega (arith, l)) in omega (arith, r)

-- each holds at most 32 and what it takes of the common places
pub sum-above : (xs : List ℕ) → sum_of xs ≤ 32 * length xs + above_sure xs
unfolding sum_by
sum-above [] = omega arith
sum-above (x ∷ xs) = let r = sum-above xs in omega (arith, r)

-- ---- from the k-th on

pub twice-from : (k : ℕ) (xs : List ℕ) → k < length xs → twice_in (drop k xs) ≡ among (get_or xs k 0) (drop (suc k) xs) || twice_in (drop (suc k) xs)
unfolding twice_in
twice-from k [] l = absurd (omega (arith, l))
twice-from zero (x ∷ xs) l = refl
twice-from (suc k) (x ∷ xs) l = twice-from k xs (omega (arith, l))

pub any-from : (test : ℕ → Bool) (k : ℕ) (xs : List ℕ) → k < length xs → any test (drop k xs) ≡ test (get_or xs k 0) || any test (drop (suc k) xs)
unfolding any
any-from test k [] l = absurd (omega (arith, l))
any-from test zero (x ∷ xs) l = refl
any-from test (suc k) (x ∷ xs) l = any-from test k xs (omega (arith, l))

pub miscounted-from : (count : ℕ → ℕ) (k : ℕ) (xs hs : List ℕ) → k < length xs → length hs ≡ length xs → miscounted_as count (drop k xs) (drop k hs) ≡ not (eqb (get_or hs k 0) (count (get_or xs k 0))) || miscounted_as count (drop (suc k) xs) (drop (suc k) hs)
unfolding miscounted_as
miscounted-from count k [] hs l e = absurd (omega (arith, l))
miscounted-from count k (x ∷ xs) [] l e = absurd (omega (arith, e))
miscounted-from count zero (x ∷ xs) (h ∷ hs) l e = refl
miscounted-from count (suc k) (x ∷ xs) (h ∷ hs) l e = miscounted-from count k xs hs (omega (arith, l)) (omega (arith, e))

pub least-take : (a least k : ℕ) (bs ts : List ℕ) → k < length bs → length ts ≡ length bs → least_from a least (take (suc k) bs) (take (suc k) ts) ≡ either (eqb (get_or bs k 0) a) (get_or ts k 0 + 1) (least_from a least (take k bs) (take k ts))
unfolding least_from
least-take a least k [] ts l e = absurd (omega (arith, l))
least-take a least k (b ∷ bs) [] l e = absurd (omega (arith, e))
least-take a least zero (b ∷ bs) (t ∷ ts) l e = refl
least-take a least (suc k) (b ∷ bs) (t ∷ ts) l e = least-take a (either (eqb b a) (t + 1) least) k bs ts (omega (arith, l)) (omega (arith, e))

counted-swap : (s t : Bool) (n : ℕ) → counted_in s (counted_in t n) ≡ counted_in t (counted_in s n)
unfolding counted_in
counted-swap true true n = refl
counted-swap true false n = refl
counted-swap false true n = refl
counted-swap false false n = refl

pub count-more : (a x : ℕ) (xs : List ℕ) → occurrences a (xs ++ (x ∷ [])) ≡ counted_in (eqb x a) (occurrences a xs)
unfolding occurrences
count-more a x [] = refl
count-more a x (y ∷ xs) = ap (counted_in (eqb y a)) (count-more a x xs) ∙ counted-swap (eqb y a) (eqb x a) (occurrences a xs)

pub count-take : (a k : ℕ) (xs : List ℕ) → k < length xs → occurrences a (take (suc k) xs) ≡ counted_in (eqb (get_or xs k 0) a) (occurrences a (take k xs))
count-take a k xs l = ap (occurrences a) (take-suc xs k 0 l) ∙ count-more a (get_or xs k 0) (take k xs)

-- the first place, where it is not among the first k: from the k-th on
pub place_here : (a k : ℕ) (xs : List ℕ) → k < length xs → eqb (get_or xs k 0) a ≡ true → first_place a (drop k xs) ≡ 0
unfolding first_place or_later
place_here a k [] l e = absurd (omega (arith, l))
place_here a zero (x ∷ xs) l e = ap (λ (t : Bool). or_later t (first_place a xs)) e
place_here a (suc k) (x ∷ xs) l e = place_here a k xs (omega (arith, l)) e

pub place-later : (a k : ℕ) (xs : List ℕ) → k < length xs → eqb (get_or xs k 0) a ≡ false → first_place a (drop k xs) ≡ suc (first_place a (drop (suc k) xs))
unfolding first_place or_later
place-later a k [] l e = absurd (omega (arith, l))
place-later a zero (x ∷ xs) l e = ap (λ (t : Bool). or_later t (first_place a xs)) e
place-later a (suc k) (x ∷ xs) l e = place-later a k xs (omega (arith, l)) e

-- ---- every number counted in one pass

unfoldable pub incremented : List ℕ → ℕ → List ℕ
incremented cs x = set cs x (get_or cs x 0 + 1)

unfoldable pub tallied : List ℕ → List ℕ → List ℕ
tallied cs [] = cs
tallied cs (x ∷ xs) = tallied (incremented cs x) xs

pub tallied-from : (cs : List ℕ) (k : ℕ) (xs : List ℕ) → k < length xs → tallied cs (drop k xs) ≡ tallied (incremented cs (get_or xs k 0)) (drop (suc k) xs)
unfolding tallied
tallied-from cs k [] l = absurd (omega (arith, l))
tallied-from cs zero (x ∷ xs) l = refl
tallied-from cs (suc k) (x ∷ xs) l = tallied-from cs k xs (omega (arith, l))

-- past the end nothing is set
pub incremented-past : (cs : List ℕ) (x : ℕ) → length cs ≤ x → incremented cs x ≡ cs
unfolding incremented
incremented-past cs x l = set_out cs x (get_or cs x 0 + 1) l

incremented-at : (cs : List ℕ) (x a : ℕ) → a < length cs → get_or (incremented cs x) a 0 ≡ counted_in (eqb x a) (get_or cs a 0)
unfolding incremented counted_in
incremented-at [] x a l = absurd (omega (arith, l))
incremented-at (c ∷ cs) zero zero l = add-one c
incremented-at (c ∷ cs) zero (suc a) l = sym (ap (λ t. counted_in t (get_or cs a 0)) (eqb-zero-suc a))
incremented-at (c ∷ cs) (suc x) zero l = sym (ap (λ t. counted_in t c) (eqb-suc-zero x))
incremented-at (c ∷ cs) (suc x) (suc a) l = incremented-at cs x a (omega (arith, l)) ∙ sym (ap (λ t. counted_in t (get_or cs a 0)) (eqb-suc-suc x a))

pub incremented-bound : (cs : List ℕ) (x i : ℕ) → get_or (incremented cs x) i 0 ≤ get_or cs i 0 + 1
unfolding incremented
incremented-bound [] x i = omega arith
incremented-bound (c ∷ cs) zero zero = omega arith
incremented-bound (c ∷ cs) zero (suc i) = omega arith
incremented-bound (c ∷ cs) (suc x) zero = omega arith
incremented-bound (c ∷ cs) (suc x) (suc i) = incremented-bound cs x i

pub counted-sum : (t : Bool) (n m : ℕ) → counted_in t n + m ≡ n + counted_in t m
unfolding counted_in
counted-sum true n m = omega arith
counted-sum false n m = refl

-- what a tally means: at each place, how many of the numbers are that place
tallied-at : (a : ℕ) (cs xs : List ℕ) → a < length cs → get_or (tallied cs xs) a 0 ≡ get_or cs a 0 + occurrences a xs
unfolding tallied occurrences incremented
tallied-at a cs [] l = omega arith
tallied-at a cs (x ∷ xs) l =
    let longer = length-set cs x (get_or cs x 0 + 1) in
    tallied-at a (incremented cs x) xs (omega (arith, longer, l)) ∙ ap (λ n. n + occurrences a xs) (incremented-at cs x a l) ∙ counted-sum (eqb x a) (get_or cs a 0) (occurrences a xs)

-- where nothing is counted yet
abbrev zeros : ℕ → List ℕ
zeros n = replicate n 0

pub none-counted : (n i : ℕ) → get_or (zeros n) i 0 ≡ 0
none-counted zero i = refl
none-counted (suc n) zero = refl
none-counted (suc n) (suc i) = none-counted n i

pub tallied-alone : (n a : ℕ) (xs : List ℕ) → a < n → get_or (tallied (zeros n) xs) a 0 ≡ occurrences a xs
tallied-alone n a xs l =
    let long = length-replicate {A = ℕ} n 0 in
    tallied-at a (zeros n) xs (omega (arith, long, l)) ∙ ap (λ m. m + occurrences a xs) (none-counted n a) ∙ zero-add (occurrences a xs)

-- a tally of the addresses tells what a head is to hold, where its address is inside its span
pub counted-plain : (n : ℕ) → 65535 < n → (bs xs hs : List ℕ) → any bad_address xs ≡ false → miscounted_by (tallied (zeros n) bs) xs hs ≡ miscounted_in bs xs hs
unfolding miscounted_as any bad_address
counted-plain n l bs [] hs inside = refl
counted-plain n l bs (x ∷ xs) [] inside = refl
counted-plain n l bs (x ∷ xs) (h ∷ hs) inside =
    let parts = or-neither (ltb x 1 || ltb 65535 x) (any bad_address xs) inside in
    let small = ltb-false 65535 x (or-neither (ltb x 1) (ltb 65535 x) parts.0).1 in
    ap₂ (λ m t. not (eqb h m) || t) (tallied-alone n x bs (omega (arith, small, l))) (counted-plain n l bs xs hs parts.1)
