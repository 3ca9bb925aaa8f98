-- What is computed on plain lists, of addresses and of what their heads hold, is what the definitions say of entries and ranges.
-- The code computes on the entries themselves: its proofs use `hit`, `pass`, `time-plain` and `kept-length`, and the other laws stand for plain lists alone.
--
--     entries_of, entries-again          entries from their numbers; entries are made of their own
--     addresses_of, held_of               the numbers of entries
--     Heads                             heads, as many numbers of what they hold, and a list with room
--     hit, pass                         an `||` whose first test holds, or does not
--     total-entries, common-entries, place-entries   the places held, the common places taken and the place of an address, from the entries' numbers
--     bad_plain, bad-plain               14 on plain lists of at most 64 heads, test by test
--     time-plain                        a head's last time, from addresses and times alone
--     found, missing, place_inside, holds_next   12, and what a head holds, from the place of its address
--     crowd_full, crowd_own, crowd_left 13 from what the head holds and what is taken
--     above-part                        what a head takes of the common places is part of what all take
--
-- Further laws stand in proofs/PlainLists.antt.
-- Assumes nothing.
use Rattle.std.specs.Prelude.{ℕ, zero, suc, ◌+◌, ◌-◌, ◌<◌, ◌≤◌, ◌≡◌, refl, Bool, true, false, ◌||◌, ◌&&◌, List, [], ◌∷◌, map, eqb, ltb, ℤ, length, get_or, take}
use Rattle.std.proofs.Common.{arith, ◌∙◌}
use Rattle.std.proofs.Math.Path.{sym, ap, ap₂}
use Rattle.std.proofs.Math.Bool.{not, and-false}
use Rattle.std.proofs.Math.Dec.{leb, leb-suc-suc}
use borrow.Author.Tests.{lt-ltb, le-ltb, ltb-true, le-leb, lt-leb, not-false}
use Rattle.integers.specs.Lists.{any}
use Rattle.definitions.specs.Spans.{most_heads, sure_places, panel_room}
use Rattle.definitions.specs.Times.{Time}
use Rattle.definitions.specs.Ranges.{Range}
use Rattle.definitions.specs.Trial.{bad_address}
use Rattle.definitions.specs.Panels.{zip_taken, kept, head_ranges, last_time, total_held, common_taken, is_at, either, held_by, counted_in, occurrences, twice, outside_address, miscounted, bad_panel, unknown, crowded}
use Rattle.definitions.specs.declared.entries.Entry.{Entry}
use Rattle.trial_laws.specs.LeastTime.{time_before, time_before-suc}
use Rattle.panel_laws.specs.Tallies.{sum_by, sum_of, above_sure, first_place, or_later, among, twice_in, miscounted_as, miscounted_in, least_from}
use Rattle.panel_laws.specs.OneMore.{first-or-later, place_of}

-- entries from their numbers
unfoldable pub entries_of : List ℕ → List ℕ → List Entry
entries_of [] hs = []
entries_of (a ∷ bs) [] = []
entries_of (a ∷ bs) (h ∷ hs) = record { address = a; held = h } ∷ entries_of bs hs

-- heads and what they hold, 64 at most, and a list with room
pub record Heads (heads held addresses : List ℕ) : Type 0 where
  pub same : length held ≡ length heads
  pub few : length heads ≤ most_heads
  pub room : panel_room ≤ length addresses

abbrev pub addresses_of : List Entry → List ℕ
addresses_of es = map (λ (e : Entry). e.address) es

abbrev pub held_of : List Entry → List ℕ
held_of es = map (λ (e : Entry). e.held) es

pub kept-length : (t : Bool) (r : Range) (rs : List Range) → length (kept t r rs) ≡ counted_in t (length rs)
unfolding kept counted_in
kept-length true r rs = refl
kept-length false r rs = refl

-- ---- the trial on plain lists

-- an `||` whose first test holds, or does not
pub hit : {a : Bool} → a ≡ true → (b : Bool) → (a || b) ≡ true
hit e b = rw e refl

pub pass : {a : Bool} → a ≡ false → (b : Bool) → (a || b) ≡ b
pass e b = rw e refl

length-entries : (bs hs : List ℕ) → length hs ≡ length bs → length (entries_of bs hs) ≡ length bs
unfolding entries_of
length-entries [] hs e = refl
length-entries (b ∷ bs) [] e = absurd (omega (arith, e))
length-entries (b ∷ bs) (h ∷ hs) e = ap suc (length-entries bs hs (omega (arith, e)))

-- a sum over entries is one over what they hold
sum-entries : (sum : List Entry → ℕ) (part : ℕ → ℕ) → sum [] ≡ 0 → ((e : Entry) (es : List Entry) → sum (e ∷ es) ≡ part e.held + sum es) → (bs hs : List ℕ) → length hs ≡ length bs → sum (entries_of bs hs) ≡ sum_by part hs
unfolding entries_of sum_by
sum-entries sum part none more [] [] e = none
sum-entries sum part none more [] (h ∷ hs) e = absurd (omega (arith, e))
sum-entries sum part none more (b ∷ bs) [] e = none
sum-entries sum part none more (b ∷ bs) (h ∷ hs) e = more (record { address = b; held = h }) (entries_of bs hs) ∙ ap (λ n. part h + n) (sum-entries sum part none more bs hs (omega (arith, e)))

pub total-entries : (bs hs : List ℕ) → length hs ≡ length bs → total_held (entries_of bs hs) ≡ sum_of hs
unfolding total_held
total-entries = sum-entries total_held (λ x. x) refl (λ e es. refl)

pub common-entries : (bs hs : List ℕ) → length hs ≡ length bs → common_taken (entries_of bs hs) ≡ above_sure hs
unfolding common_taken
common-entries = sum-entries common_taken (λ x. x - sure_places) refl (λ e es. refl)

found-step : (t : Bool) (k n : ℕ) (r : Bool) → r ≡ ltb k n → (t || r) ≡ ltb (or_later t k) (suc n)
unfolding or_later
found-step true k n r e = sym (lt-ltb 0 (suc n) (omega arith))
found-step false k n r e = e ∙ sym (leb-suc-suc (suc k) n)

known-plain : (x : ℕ) (bs hs : List ℕ) → length hs ≡ length bs → any (is_at x) (entries_of bs hs) ≡ among x bs
unfolding entries_of any is_at among first_place
known-plain x [] hs e = refl
known-plain x (b ∷ bs) [] e = absurd (omega (arith, e))
known-plain x (b ∷ bs) (h ∷ hs) e = found-step (eqb b x) (first_place x bs) (length bs) (any (is_at x) (entries_of bs hs)) (known-plain x bs hs (omega (arith, e)))

twice-plain : (bs hs : List ℕ) → length hs ≡ length bs → twice (entries_of bs hs) ≡ twice_in bs
unfolding entries_of twice twice_in
twice-plain [] hs e = refl
twice-plain (b ∷ bs) [] e = absurd (omega (arith, e))
twice-plain (b ∷ bs) (h ∷ hs) e = ap₂ (λ s t. s || t) (known-plain b bs hs (omega (arith, e))) (twice-plain bs hs (omega (arith, e)))

outside-plain : (bs hs : List ℕ) → length hs ≡ length bs → any outside_address (entries_of bs hs) ≡ any bad_address bs
unfolding entries_of any outside_address
outside-plain [] hs e = refl
outside-plain (b ∷ bs) [] e = absurd (omega (arith, e))
outside-plain (b ∷ bs) (h ∷ hs) e = ap (λ t. bad_address b || t) (outside-plain bs hs (omega (arith, e)))

miscounted-plain : (xs bs hs : List ℕ) → any (miscounted xs) (entries_of bs hs) ≡ miscounted_in xs bs hs
unfolding entries_of any miscounted miscounted_as
miscounted-plain xs [] hs = refl
miscounted-plain xs (b ∷ bs) [] = refl
miscounted-plain xs (b ∷ bs) (h ∷ hs) = ap (λ t. not (eqb h (occurrences b xs)) || t) (miscounted-plain xs bs hs)

-- the tests of a panel of at most 64 heads, one after the other
unfoldable pub bad_plain : List ℕ → List ℕ → List ℕ → Bool
bad_plain bs hs xs = eqb (length bs) 0 || (twice_in bs || (any bad_address bs || (ltb 2048 (above_sure hs) || miscounted_in (take (sum_of hs) xs) bs hs)))

pub bad-plain : (bs hs xs : List ℕ) → length hs ≡ length bs → length bs ≤ 64 → bad_panel (entries_of bs hs) (take (total_held (entries_of bs hs)) xs) ≡ bad_plain bs hs xs
unfolding bad_panel bad_plain
bad-plain bs hs xs e few =
    let es = entries_of bs hs in
    let long = length-entries bs hs e in
    let not-many : ltb 64 (length es) ≡ false = le-ltb 64 (length es) (omega (arith, long, few)) in
    ap (λ n. eqb n 0 || (ltb 64 (length es) || (twice es || (any outside_address es || (ltb 2048 (common_taken es) || any (miscounted (take (total_held es) xs)) es))))) long
    ∙ ap (λ t. eqb (length bs) 0 || t) (
    pass not-many (twice es || (any outside_address es || (ltb 2048 (common_taken es) || any (miscounted (take (total_held es) xs)) es)))
    ∙ ap₂ (λ s t. s || (t || (ltb 2048 (common_taken es) || any (miscounted (take (total_held es) xs)) es))) (twice-plain bs hs e) (outside-plain bs hs e)
    ∙ ap₂ (λ c t. twice_in bs || (any bad_address bs || (ltb 2048 c || t))) (common-entries bs hs e) (miscounted-plain (take (total_held es) xs) bs hs ∙ ap (λ n. miscounted_in (take n xs) bs hs) (total-entries bs hs e))
    )

-- what the head of an address holds, and the place of its entry
held_by-plain : (a : ℕ) (bs hs : List ℕ) → length hs ≡ length bs → held_by a (entries_of bs hs) ≡ get_or hs (first_place a bs) 0
unfolding entries_of held_by is_at first_place
held_by-plain a [] [] e = refl
held_by-plain a [] (h ∷ hs) e = absurd (omega (arith, e))
held_by-plain a (b ∷ bs) [] e = absurd (omega (arith, e))
held_by-plain a (b ∷ bs) (h ∷ hs) e = first-or-later (λ x. x) 0 (eqb b a) h hs (held_by a (entries_of bs hs)) (first_place a bs) (held_by-plain a bs hs (omega (arith, e)))

pub place-entries : (a : ℕ) (bs hs : List ℕ) → length hs ≡ length bs → place_of a (entries_of bs hs) ≡ first_place a bs
unfolding entries_of place_of is_at first_place
place-entries a [] hs e = refl
place-entries a (b ∷ bs) [] e = absurd (omega (arith, e))
place-entries a (b ∷ bs) (h ∷ hs) e = ap (or_later (eqb b a)) (place-entries a bs hs (omega (arith, e)))

-- entries are made of their own numbers
pub entries-again : (es : List Entry) → entries_of (addresses_of es) (held_of es) ≡ es
unfolding entries_of
entries-again [] = refl
entries-again (e ∷ es) = ap (λ fs. e ∷ fs) (entries-again es)

-- ---- a head's last time

time-step : (s : Bool) (t l : ℕ) (u v : ℤ) (rs : List Range) → last_time (time_before (either s (t + 1) l)) rs ≡ last_time (time_before l) (kept s (record { time = t; low = u; high = v }) rs)
unfolding either kept last_time
time-step true t l u v rs = ap (λ b. last_time b rs) (time_before-suc t)
time-step false t l u v rs = refl

nothing-last : (b : Time) → b ≡ last_time b []
unfolding last_time
nothing-last b = refl

-- four lists of one length
pub time-plain : (a l : ℕ) (bs ts : List ℕ) (us vs : List ℤ) → length ts ≡ length bs → length us ≡ length bs → length vs ≡ length bs → time_before (least_from a l bs ts) ≡ last_time (time_before l) (head_ranges a (zip_taken bs ts us vs))
unfolding head_ranges zip_taken least_from
time-plain a l [] ts us vs p q r = nothing-last (time_before l)
time-plain a l (b ∷ bs) [] us vs p q r = absurd (omega (arith, p))
time-plain a l (b ∷ bs) (t ∷ ts) [] vs p q r = absurd (omega (arith, q))
time-plain a l (b ∷ bs) (t ∷ ts) (u ∷ us) [] p q r = absurd (omega (arith, r))
time-plain a l (b ∷ bs) (t ∷ ts) (u ∷ us) (v ∷ vs) p q r =
    time-plain a (either (eqb b a) (t + 1) l) bs ts us vs (omega (arith, p)) (omega (arith, q)) (omega (arith, r)) ∙ time-step (eqb b a) t l u v (head_ranges a (zip_taken bs ts us vs))

-- ---- one head on plain lists

module _ (a : ℕ) (bs hs : List ℕ) (at : ℕ) (same : length hs ≡ length bs) (is : at ≡ first_place a bs) where
  pub found : at < length bs → unknown a (entries_of bs hs) ≡ false
  unfolding unknown among
  found l = ap not (known-plain a bs hs same ∙ lt-ltb (first_place a bs) (length bs) (omega (arith, is, l)))

  pub missing : length bs ≤ at → unknown a (entries_of bs hs) ≡ true
  unfolding unknown among
  missing l = ap not (known-plain a bs hs same ∙ le-ltb (first_place a bs) (length bs) (omega (arith, is, l)))

  pub place_inside : unknown a (entries_of bs hs) ≡ false → at < length hs
  unfolding unknown among
  place_inside u = let l = ltb-true (first_place a bs) (length bs) (sym (known-plain a bs hs same) ∙ not-false (any (is_at a) (entries_of bs hs)) u) in omega (arith, is, l, same)

  holds_is : held_by a (entries_of bs hs) ≡ get_or hs at 0
  holds_is = held_by-plain a bs hs same ∙ ap (λ i. get_or hs i 0) (sym is)

  pub holds_next : get_or hs at 0 + 1 ≡ held_by a (entries_of bs hs) + 1
  holds_next = ap (λ n. n + 1) (sym holds_is)

  module _ (taken_is : ℕ) (common-is : taken_is ≡ above_sure hs) where
    pub crowd_full : 32 ≤ get_or hs at 0 → 2048 ≤ taken_is → crowded a (entries_of bs hs) ≡ true
    unfolding crowded
    crowd_full own full = ap₂ (λ h c. leb 32 h && leb 2048 c) holds_is (common-entries bs hs same ∙ sym common-is) ∙ ap₂ (λ s t. s && t) (le-leb 32 (get_or hs at 0) own) (le-leb 2048 taken_is full)

    pub crowd_own : get_or hs at 0 < 32 → crowded a (entries_of bs hs) ≡ false
    unfolding crowded
    crowd_own own = ap₂ (λ h c. leb 32 h && leb 2048 c) holds_is (common-entries bs hs same ∙ sym common-is) ∙ ap (λ s. s && leb 2048 taken_is) (lt-leb 32 (get_or hs at 0) own)

    pub crowd_left : taken_is < 2048 → crowded a (entries_of bs hs) ≡ false
    unfolding crowded
    crowd_left left = ap₂ (λ h c. leb 32 h && leb 2048 c) holds_is (common-entries bs hs same ∙ sym common-is) ∙ ap (λ t. leb 32 (get_or hs at 0) && t) (lt-leb 2048 taken_is left) ∙ and-false (leb 32 (get_or hs at 0))

-- what a head takes of the common places is part of what all take
pub above-part : (hs : List ℕ) (i : ℕ) → get_or hs i 0 - 32 ≤ above_sure hs
unfolding sum_by
above-part [] i = omega arith
above-part (h ∷ hs) zero = omega arith
above-part (h ∷ hs) (suc i) = let r = above-part hs i in omega (arith, r)
