-- The place of a head's entry, where there is one.
--
--     found_at           the place of the first entry with an address, or none
--     position_found     it is the position of the first entry that passes the test of the address
--     placed_inside      the place of the address is among them exactly where some entry has it
--     is_found           there is one exactly where some entry has the address
--     twice_from         two of the entries from the k-th on have one address: the k-th and a later one, or two later ones
--
-- Assumes nothing.
use Rattle.std.specs.Prelude.{ℕ, zero, suc, ◌+◌, ◌<◌, ◌≡◌, refl, Bool, true, false, ◌||◌, not, cond, Option, Some, None, List, [], ◌∷◌, ltb, length, get_or, drop, position}
use Rattle.std.specs.Option.{is_some}
use Rattle.std.specs.List.{position_or_len}
use Rattle.std.proofs.Common.{arith, ap, ◌∙◌, lt-ltb}
use Rattle.std.proofs.Math.Dec.{leb-suc-suc}
use Rattle.integers.specs.Lists.{any}
use Rattle.definitions.specs.Panels.{is_at, twice}
use Rattle.definitions.specs.declared.entries.Entry.{Entry}
use Rattle.panel_laws.specs.Entries.{no_entry}
use Rattle.panel_laws.specs.Tallies.{or_later}
use Rattle.panel_laws.specs.OneMore.{place_of}

abbrev pub found_at : ℕ → List Entry → Option ℕ
found_at a es = cond (any (is_at a) es) (Some (place_of a es)) None

placed-step : (t : Bool) (m n : ℕ) → m ≡ n → cond (not t) (1 + m) 0 ≡ or_later t n
unfolding or_later
placed-step true m n e = refl
placed-step false m n e = omega (arith, e)

placed-is : (a : ℕ) (es : List Entry) → position_or_len (is_at a) es ≡ place_of a es
unfolding place_of
placed-is a [] = refl
placed-is a (e ∷ es) = placed-step (is_at a e) _ _ (placed-is a es)

inside-step : (t : Bool) (k n : ℕ) (r : Bool) → ltb k n ≡ r → ltb (or_later t k) (suc n) ≡ (t || r)
unfolding or_later
inside-step true k n r e = lt-ltb 0 (suc n) (omega arith)
inside-step false k n r e = leb-suc-suc (suc k) n ∙ e

pub placed_inside : (a : ℕ) (es : List Entry) → ltb (place_of a es) (length es) ≡ any (is_at a) es
unfolding place_of any
placed_inside a [] = refl
placed_inside a (e ∷ es) = inside-step (is_at a e) (place_of a es) (length es) (any (is_at a) es) (placed_inside a es)

pub position_found : (a : ℕ) (es : List Entry) → position (is_at a) es ≡ found_at a es
position_found a es = ap (λ n. cond (ltb n (length es)) (Some n) None) (placed-is a es) ∙ ap (λ t. cond t (Some (place_of a es)) None) (placed_inside a es)

some-is : (t : Bool) (n : ℕ) → is_some (cond t (Some n) None) ≡ t
some-is true n = refl
some-is false n = refl

pub is_found : (a : ℕ) (es : List Entry) → is_some (found_at a es) ≡ any (is_at a) es
is_found a es = some-is (any (is_at a) es) (place_of a es)

pub twice_from : (k : ℕ) (es : List Entry) → k < length es → twice (drop k es) ≡ any (is_at (get_or es k no_entry).address) (drop (suc k) es) || twice (drop (suc k) es)
unfolding twice
twice_from k [] l = absurd (omega (arith, l))
twice_from zero (e ∷ es) l = refl
twice_from (suc k) (e ∷ es) l = twice_from k es (omega (arith, l))
