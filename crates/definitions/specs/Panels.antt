-- A panel: entries of many heads, and places that they share.
--
--     Places, Panel            the four lent lists; the lent entries with them
--     Taken, taken, on_panel    a range with the address of its head; those in the first n places; those on a panel, in as many first places as are held in all
--     head_ranges, last_time     a head's ranges: those with its address, in order of acceptance; the time of the last one
--     total_held, common_taken   the places held in all; the common places taken, the sum of what each head holds above 32
--     is_at, held_by             an entry has an address; how many ranges the head of an address holds
--     occurrences              how often a number stands in a list
--     bad_panel, not_panel       14: no entry, more than 64, two of one address (twice), an address outside its span, more common places taken than there are,
--                              or a held count that is not the number of its head's ranges (miscounted); for this only addresses are counted
--     unknown, crowded         12: no entry has the address; 13: its head holds 32 or more while the common places are gone
--
-- Assumes nothing.
use Rattle.std.specs.Prelude.{ℕ, suc, ◌+◌, ◌-◌, Bool, true, false, not, ◌&&◌, ◌||◌, List, [], ◌∷◌, leb, ltb, eqb, ℤ, length, take}
use Rattle.integers.specs.Lists.{any}
use Rattle.definitions.specs.Spans.{most_heads, sure_places, common_places}
use Rattle.definitions.specs.Ranges.{Range}
use Rattle.definitions.specs.Times.{Time, at}
use Rattle.definitions.specs.Trial.{bad_address}
use Rattle.definitions.specs.declared.entries.Entry.{Entry}

pub record Places : Type 0 where
  pub addresses : List ℕ
  pub times : List ℕ
  pub lows : List ℤ
  pub highs : List ℤ

pub record Panel : Type 0 where
  pub entries : List Entry
  pub places : Places

-- ---- entries

unfoldable pub total_held : List Entry → ℕ
total_held [] = 0
total_held (e ∷ es) = e.held + total_held es

unfoldable pub common_taken : List Entry → ℕ
common_taken [] = 0
common_taken (e ∷ es) = (e.held - sure_places) + common_taken es

unfoldable pub is_at : ℕ → Entry → Bool
is_at a e = eqb e.address a

unfoldable pub either : {A : Type 0} → Bool → A → A → A
either true x y = x
either false x y = y

unfoldable pub held_by : ℕ → List Entry → ℕ
held_by a [] = 0
held_by a (e ∷ es) = either (is_at a e) e.held (held_by a es)

-- ---- ranges

pub record Taken : Type 0 where
  pub address : ℕ
  pub range : Range

unfoldable pub zip_taken : List ℕ → List ℕ → List ℤ → List ℤ → List Taken
zip_taken [] ts us vs = []
zip_taken (a ∷ bs) [] us vs = []
zip_taken (a ∷ bs) (t ∷ ts) [] vs = []
zip_taken (a ∷ bs) (t ∷ ts) (u ∷ us) [] = []
zip_taken (a ∷ bs) (t ∷ ts) (u ∷ us) (v ∷ vs) = record { address = a; range = record { time = t; low = u; high = v } } ∷ zip_taken bs ts us vs

unfoldable pub taken : ℕ → Places → List Taken
taken n p = zip_taken (take n p.addresses) (take n p.times) (take n p.lows) (take n p.highs)

unfoldable pub on_panel : Panel → List Taken
on_panel s = taken (total_held s.entries) s.places

unfoldable pub kept : {A : Type 0} → Bool → A → List A → List A
kept true x xs = x ∷ xs
kept false x xs = xs

unfoldable pub head_ranges : ℕ → List Taken → List Range
head_ranges a [] = []
head_ranges a (x ∷ xs) = kept (eqb x.address a) x.range (head_ranges a xs)

-- `before` where there are no ranges
unfoldable pub last_time : Time → List Range → Time
last_time before [] = before
last_time before (r ∷ rs) = last_time (at r.time) rs

-- ---- 14

unfoldable pub counted_in : Bool → ℕ → ℕ
counted_in true n = suc n
counted_in false n = n

unfoldable pub occurrences : ℕ → List ℕ → ℕ
occurrences a [] = 0
occurrences a (x ∷ xs) = counted_in (eqb x a) (occurrences a xs)

-- two entries have one address
unfoldable pub twice : List Entry → Bool
twice [] = false
twice (e ∷ es) = any (is_at e.address) es || twice es

unfoldable pub outside_address : Entry → Bool
outside_address e = bad_address e.address

-- bs are the addresses in the places held
unfoldable pub miscounted : List ℕ → Entry → Bool
miscounted bs e = not (eqb e.held (occurrences e.address bs))

unfoldable pub bad_panel : List Entry → List ℕ → Bool
bad_panel es bs =
    eqb (length es) 0 || (ltb most_heads (length es) || (twice es || (any outside_address es || (ltb common_places (common_taken es) || any (miscounted bs) es))))

unfoldable pub not_panel : Panel → Bool
not_panel s = bad_panel s.entries (take (total_held s.entries) s.places.addresses)

-- ---- 12 and 13

unfoldable pub unknown : ℕ → List Entry → Bool
unknown a es = not (any (is_at a) es)

unfoldable pub crowded : ℕ → List Entry → Bool
crowded a es = leb sure_places (held_by a es) && leb common_places (common_taken es)
