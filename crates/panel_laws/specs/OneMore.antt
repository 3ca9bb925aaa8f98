-- What an accepted range changes: the places held, a head's ranges, and the entry that the code stores.
--
--     held_after               a range that is accepted takes one place more
--     own_held, others-held    its head holds one more, and every other head what it held
--     head-append              a head's ranges among two lists, one after the other
--     first-or-later           what is read of the first, or of a later one, is read at its place
--     place_of                  the place of a head's entry
--     placed-bumped            one more at that place, as the code stores it, is `entries_after`
--
-- Assumes nothing.
use Rattle.std.specs.Prelude.{ℕ, ◌+◌, ◌≡◌, refl, Bool, true, false, ◌||◌, List, [], ◌∷◌, ◌++◌, T, eqb, get_or}
use Rattle.std.proofs.Common.{arith, sym, ap, ◌∙◌, subst, eqb-true}
use Rattle.integers.specs.Lists.{any}
use Rattle.definitions.specs.Ranges.{Range}
use Rattle.definitions.specs.Panels.{Taken, kept, head_ranges, total_held, is_at, either, held_by}
use Rattle.definitions.specs.PanelCalls.{bumped, entries_after}
use Rattle.definitions.specs.declared.entries.Entry.{Entry}
use Rattle.panel_laws.specs.Entries.{no_entry, with_held}
use Rattle.panel_laws.specs.Tallies.{or_later}

-- ---- a range is accepted

one_more : (t : Bool) (a : ℕ) (e : Entry) (es : List Entry) → is_at a e ≡ t → (any (is_at a) es ≡ true → total_held (entries_after a es) ≡ total_held es + 1) → any (is_at a) (e ∷ es) ≡ true → total_held (bumped t e es (entries_after a es)) ≡ total_held (e ∷ es) + 1
unfolding total_held bumped any
one_more true a e es is later found = omega arith
one_more false a e es is later found = let r = later (rw is at found) in omega (arith, r)

pub held_after : (a : ℕ) (es : List Entry) → any (is_at a) es ≡ true → total_held (entries_after a es) ≡ total_held es + 1
unfolding entries_after any
held_after a [] found = absurd (subst T (sym found) tt)
held_after a (e ∷ es) found = one_more (is_at a e) a e es refl (held_after a es) found

own-step : (t : Bool) (a : ℕ) (e : Entry) (es : List Entry) → is_at a e ≡ t → (any (is_at a) es ≡ true → held_by a (entries_after a es) ≡ held_by a es + 1) → (t || any (is_at a) es) ≡ true → held_by a (bumped t e es (entries_after a es)) ≡ either t e.held (held_by a es) + 1
unfolding held_by bumped either is_at
own-step true a e es is later found = ap (λ t. either t (e.held + 1) (held_by a es)) is
own-step false a e es is later found = ap (λ t. either t e.held (held_by a (entries_after a es))) is ∙ later found

pub own_held : (a : ℕ) (es : List Entry) → any (is_at a) es ≡ true → held_by a (entries_after a es) ≡ held_by a es + 1
unfolding entries_after any held_by
own_held a [] found = absurd (subst T (sym found) tt)
own_held a (e ∷ es) found = own-step (is_at a e) a e es refl (own_held a es) found

others-step : (t : Bool) (a b : ℕ) (e : Entry) (es fs : List Entry) → is_at a e ≡ t → eqb a b ≡ false → held_by b fs ≡ held_by b es → held_by b (bumped t e es fs) ≡ held_by b (e ∷ es)
unfolding held_by bumped either is_at
others-step true a b e es fs is other later = let not-b = ap (λ x. eqb x b) (eqb-true e.address a is) ∙ other in ap (λ t. either t (e.held + 1) (held_by b es)) not-b ∙ sym (ap (λ t. either t e.held (held_by b es)) not-b)
others-step false a b e es fs is other later = ap (either (is_at b e) e.held) later

pub others-held : (a b : ℕ) (es : List Entry) → eqb a b ≡ false → held_by b (entries_after a es) ≡ held_by b es
unfolding entries_after
others-held a b [] other = refl
others-held a b (e ∷ es) other = others-step (is_at a e) a b e es (entries_after a es) refl other (others-held a b es other)

-- ---- one head's ranges

kept_append : (t : Bool) (r : Range) (rs ss : List Range) → kept t r (rs ++ ss) ≡ kept t r rs ++ ss
unfolding kept
kept_append true r rs ss = refl
kept_append false r rs ss = refl

pub head-append : (a : ℕ) (xs ys : List Taken) → head_ranges a (xs ++ ys) ≡ head_ranges a xs ++ head_ranges a ys
unfolding head_ranges
head-append a [] ys = refl
head-append a (x ∷ xs) ys = ap (kept (eqb x.address a) x.range) (head-append a xs ys) ∙ kept_append (eqb x.address a) x.range (head_ranges a xs) (head_ranges a ys)

-- ---- the entries as the code stores them

pub first-or-later : {A : Type 0} (read : A → ℕ) (past : A) (t : Bool) (x : A) (xs : List A) (n k : ℕ) → n ≡ read (get_or xs k past) → either t (read x) n ≡ read (get_or (x ∷ xs) (or_later t k) past)
unfolding either or_later
first-or-later read past true x xs n k e = refl
first-or-later read past false x xs n k e = e

-- the place of the first entry with an address; past the last one where there is none
unfoldable pub place_of : ℕ → List Entry → ℕ
place_of a [] = 0
place_of a (e ∷ es) = or_later (is_at a e) (place_of a es)

stored_at : (t : Bool) (a : ℕ) (e : Entry) (es : List Entry) → with_held (place_of a es) ((get_or es (place_of a es) no_entry).held + 1) es ≡ entries_after a es
    → with_held (or_later t (place_of a es)) ((get_or (e ∷ es) (or_later t (place_of a es)) no_entry).held + 1) (e ∷ es) ≡ bumped t e es (entries_after a es)
unfolding or_later bumped
stored_at true a e es later = refl
stored_at false a e es later = ap (λ (fs : List Entry). e ∷ fs) later

-- one more at the place of the address is the entries after, whether there is such an entry or not
pub placed-bumped : (a : ℕ) (es : List Entry) → with_held (place_of a es) ((get_or es (place_of a es) no_entry).held + 1) es ≡ entries_after a es
unfolding place_of entries_after
placed-bumped a [] = refl
placed-bumped a (e ∷ es) = stored_at (is_at a e) a e es (placed-bumped a es)
