-- A place whose address no entry has gives 14, though no row names it: the heads' counts then fall short of the places held.
--
--     stranger_not     where the lists are long and a place held has an address that no entry has, there is no panel
--     stranger_none    so on a panel an address that no entry has stands in no place held
--
-- Assumes nothing.
use Rattle.std.specs.Prelude.{ℕ, zero, suc, ◌+◌, ◌<◌, ◌≤◌, ◌≡◌, refl, Bool, true, false, not, ◌&&◌, ◌||◌, List, [], ◌∷◌, T, eqb, length, get_or, take}
use Rattle.std.proofs.Common.{arith, zero-add, sym, ap, ap₂, ◌∙◌, subst, length-take-le, get_or-take, eqb-true}
use Rattle.std.proofs.Math.Bool.{and-eq-true_iff}
use Rattle.std.proofs.lemmas.Bool.{not-false}
use Rattle.integers.specs.Booleans.{or-neither}
use Rattle.integers.specs.Lists.{any, all}
use Rattle.definitions.specs.Spans.{panel_room}
use Rattle.definitions.specs.Trial.{too_short}
use Rattle.definitions.specs.Panels.{Panel, total_held, is_at, counted_in, occurrences, twice, miscounted, bad_panel, not_panel, unknown}
use Rattle.definitions.specs.PanelCalls.{room_of}
use Rattle.definitions.specs.declared.entries.Entry.{Entry}
use Rattle.panel_laws.specs.Tallies.{eqb-sym, counted-bound, counted-sum}
use Rattle.panel_laws.specs.PanelRows.{good-panel, total-room, roomy}

-- some entry has the address b
unfoldable known_here : List Entry → ℕ → Bool
known_here es b = any (is_at b) es

-- all heads' ranges among the addresses bs
unfoldable ranges_in : List Entry → List ℕ → ℕ
ranges_in [] bs = 0
ranges_in (e ∷ es) bs = occurrences e.address bs + ranges_in es bs

-- how many of the addresses some entry has
unfoldable known_in : List Entry → List ℕ → ℕ
known_in es [] = 0
known_in es (b ∷ bs) = counted_in (known_here es b) (known_in es bs)

-- how many entries have the address b
unfoldable entries_at : ℕ → List Entry → ℕ
entries_at b [] = 0
entries_at b (e ∷ es) = counted_in (is_at b e) (entries_at b es)

one_more : (t : Bool) (n i k : ℕ) → counted_in t n + (i + k) ≡ counted_in t i + (n + k)
unfolding counted_in
one_more true n i k = omega arith
one_more false n i k = omega arith

one_address : (es : List Entry) (b : ℕ) (bs : List ℕ) → ranges_in es (b ∷ bs) ≡ entries_at b es + ranges_in es bs
unfolding ranges_in occurrences entries_at is_at
one_address [] b bs = omega arith
one_address (e ∷ es) b bs =
    let n = occurrences e.address bs in
    ap₂ (λ t m. counted_in t n + m) (eqb-sym b e.address) (one_address es b bs) ∙ one_more (eqb e.address b) n (entries_at b es) (ranges_in es bs)

none-at : (es : List Entry) (b : ℕ) → any (is_at b) es ≡ false → entries_at b es ≡ 0
unfolding entries_at any counted_in
none-at [] b e = refl
none-at (x ∷ es) b e = let n = or-neither (is_at b x) (any (is_at b) es) e in ap₂ counted_in n.0 (none-at es b n.1)

once-step : (t : Bool) (x : Entry) (es : List Entry) (b : ℕ) → is_at b x ≡ t → any (is_at x.address) es ≡ false → entries_at b es ≡ counted_in (any (is_at b) es) 0 → counted_in t (entries_at b es) ≡ counted_in (t || any (is_at b) es) 0
unfolding counted_in is_at
once-step true x es b is alone later = ap suc (none-at es b (subst (λ y. any (is_at y) es ≡ false) (eqb-true x.address b is) alone))
once-step false x es b is alone later = later

once-at : (es : List Entry) (b : ℕ) → twice es ≡ false → entries_at b es ≡ counted_in (any (is_at b) es) 0
unfolding entries_at any twice counted_in
once-at [] b e = refl
once-at (x ∷ es) b e =
    let n = or-neither (any (is_at x.address) es) (twice es) e in
    once-step (is_at b x) x es b refl n.0 (once-at es b n.1)

nothing_in : (es : List Entry) → ranges_in es [] ≡ 0
unfolding ranges_in occurrences
nothing_in [] = refl
nothing_in (e ∷ es) = zero-add (ranges_in es []) ∙ nothing_in es

all_known : (es : List Entry) (bs : List ℕ) → twice es ≡ false → ranges_in es bs ≡ known_in es bs
unfolding known_in known_here
all_known es [] once = nothing_in es
all_known es (b ∷ bs) once = one_address es b bs ∙ ap₂ ◌+◌ (once-at es b once) (all_known es bs once) ∙ counted-sum (any (is_at b) es) 0 (known_in es bs) ∙ zero-add (counted_in (any (is_at b) es) (known_in es bs))

at_most-all : (es : List Entry) (bs : List ℕ) → known_in es bs ≤ length bs
unfolding known_in
at_most-all es [] = omega arith
at_most-all es (b ∷ bs) = let l = at_most-all es bs in let c = counted-bound (known_here es b) (known_in es bs) in omega (arith, l, c)

every : (t : Bool) (es : List Entry) (bs : List ℕ) → counted_in t (known_in es bs) ≡ suc (length bs) → (known_in es bs ≡ length bs → all (known_here es) bs ≡ true) → (t && all (known_here es) bs) ≡ true
unfolding counted_in
every true es bs e later = later (omega (arith, e))
every false es bs e later = let l = at_most-all es bs in absurd (omega (arith, e, l))

all_of_them : (es : List Entry) (bs : List ℕ) → known_in es bs ≡ length bs → all (known_here es) bs ≡ true
unfolding known_in all
all_of_them es [] e = refl
all_of_them es (b ∷ bs) e = every (known_here es b) es bs e (all_of_them es bs)

held-are : (es : List Entry) (bs : List ℕ) → any (miscounted bs) es ≡ false → total_held es ≡ ranges_in es bs
unfolding total_held ranges_in any miscounted
held-are [] bs e = refl
held-are (x ∷ es) bs e = let n = or-neither (not (eqb x.held (occurrences x.address bs))) (any (miscounted bs) es) e in ap₂ ◌+◌ (eqb-true x.held (occurrences x.address bs) (not-false (eqb x.held (occurrences x.address bs)) n.0)) (held-are es bs n.1)

no_stranger : (es : List Entry) (bs : List ℕ) → bad_panel es bs ≡ false → length bs ≡ total_held es → all (known_here es) bs ≡ true
no_stranger es bs good long =
    let g = good-panel es bs good in
    all_of_them es bs (sym (long ∙ held-are es bs g.counted ∙ all_known es bs g.once))

all-at : (test : ℕ → Bool) (i : ℕ) (xs : List ℕ) → i < length xs → all test xs ≡ true → test (get_or xs i 0) ≡ true
unfolding all
all-at test i [] l e = absurd (omega (arith, l))
all-at test zero (x ∷ xs) l e = ((and-eq-true_iff (test x) (all test xs)).0 e).0
all-at test (suc i) (x ∷ xs) l e = all-at test i xs (omega (arith, l)) ((and-eq-true_iff (test x) (all test xs)).0 e).1

-- on a panel every address in the places held is an entry's
record AllKnown (es : List Entry) (bs : List ℕ) : Type 0 where
  as_many : length bs ≡ total_held es
  known : all (known_here es) bs ≡ true

held-known : (s : Panel) → too_short panel_room (room_of s.places) ≡ false → not_panel s ≡ false → AllKnown s.entries (take (total_held s.entries) s.places.addresses)
unfolding not_panel
held-known s long good =
    let n = total_held s.entries in
    let bs = take n s.places.addresses in
    let most = total-room s.entries bs (good-panel s.entries bs good) in
    let room = (roomy s.places long).room_addresses in
    let as_many = length-take-le n s.places.addresses (omega (arith, most, room)) in
    record { as_many = as_many; known = no_stranger s.entries bs good as_many }

none-unknown : (s : Panel) (i : ℕ) → too_short panel_room (room_of s.places) ≡ false → not_panel s ≡ false → i < total_held s.entries → unknown (get_or s.places.addresses i 0) s.entries ≡ false
unfolding unknown known_here
none-unknown s i long good l =
    let n = total_held s.entries in
    let h = held-known s long good in
    let many = h.as_many in
    ap not (ap (known_here s.entries) (sym (get_or-take n s.places.addresses i 0 l)) ∙ all-at (known_here s.entries) i (take n s.places.addresses) (omega (arith, many, l)) h.known)

pub stranger_not : (s : Panel) (i : ℕ) → too_short panel_room (room_of s.places) ≡ false → i < total_held s.entries → unknown (get_or s.places.addresses i 0) s.entries ≡ true → not_panel s ≡ true
stranger_not s i long l stranger = by_test (not_panel s) refl
  where
    by_test : (t : Bool) → not_panel s ≡ t → t ≡ true
    by_test true e = refl
    by_test false e = absurd (subst T (sym stranger ∙ none-unknown s i long e l) tt)

-- ---- an address that no entry has

not-this : (t : Bool) (a b : ℕ) (es : List Entry) → eqb b a ≡ t → any (is_at a) es ≡ false → any (is_at b) es ≡ true → t ≡ false
not-this true a b es is none found = absurd (subst T (sym found ∙ ap (λ x. any (is_at x) es) (eqb-true b a is) ∙ none) tt)
not-this false a b es is none found = refl

none-there : (a : ℕ) (es : List Entry) (bs : List ℕ) → any (is_at a) es ≡ false → all (known_here es) bs ≡ true → occurrences a bs ≡ 0
unfolding all occurrences counted_in known_here
none-there a es [] none known = refl
none-there a es (b ∷ bs) none known =
    let k = (and-eq-true_iff (known_here es b) (all (known_here es) bs)).0 known in
    ap₂ counted_in (not-this (eqb b a) a b es refl none k.0) (none-there a es bs none k.1)

pub stranger_none : (s : Panel) (a : ℕ) → too_short panel_room (room_of s.places) ≡ false → not_panel s ≡ false → any (is_at a) s.entries ≡ false → occurrences a (take (total_held s.entries) s.places.addresses) ≡ 0
stranger_none s a long good none = none-there a s.entries (take (total_held s.entries) s.places.addresses) none (held-known s long good).known
