-- Laws of the eleven columns.
--
--     room-less, room-kept         room for fewer; room in columns of the same lengths
--     stored_next                  of one column: x stored past the entries xs
--     filled_none, filled_next     nothing stored; n stored next after ns
--     filled-lengths               filling keeps the lengths
--     first-none                   no segment stored
--     first-lengths, first_room    with the first c stored: the lengths are kept, and there is room for the next
--     first_next, rest_left        the next segment stored, and those that are left then
--     first-all                    none is left, so all are stored
--
-- A loop that stores one segment a turn has `FirstStored c ss old now` for its invariant, beside what says which segments are left, `drop c ss`.
-- Assumes nothing.
use Rattle.std.specs.Prelude.{ℕ, suc, ◌+◌, ◌≤◌, ◌<◌, ◌≡◌, refl, List, [], ◌∷◌, ◌++◌, map, length, set, take, drop}
use Rattle.std.proofs.Common.{sym, ap, ◌∙◌, subst, arith, add-one, length-append, length-drop, drop-cons, take_all, take-add, drop-drop, length-take-le}
use Rattle.std.proofs.lemmas.List.{map-append, length-map, set_at}
use Rattle.std.proofs.Math.Seq.{append_snoc}
use Rattle.definitions.specs.Results.{Numbers, Segment, numbers_of}
use Rattle.drift.specs.Columns.{Columns, each, each-apply, Room, SameLengths, Stored, Filled, FirstStored, AllStored}

-- ---- room

pub room-less : {j k : ℕ} {cs : Columns} → j ≤ k → Room k cs → Room j cs
room-less h room = each-apply (each (λ A number column r. omega arith)) room

pub room-kept : {k : ℕ} {old new : Columns} → SameLengths old new → Room k old → Room k new
room-kept same room = each-apply (each-apply (each (λ A number column e r. omega arith)) same) room

-- ---- storing one row after the other

pub filled_none : (cs : Columns) → Filled [] cs cs
filled_none cs = each (λ A number column. refl)

-- x stored past the entries xs
pub stored_next : {A : Type 0} (xs old : List A) (x : A) (k : ℕ) → length xs ≡ k → k < length old
    → set (xs ++ drop k old) k x ≡ (xs ++ (x ∷ [])) ++ drop (suc k) old
stored_next xs old x k e h =
    ap (λ l. set (xs ++ l) k x) (drop-cons old k x h)
    ∙ set_at xs _ (drop (suc k) old) x k e
    ∙ sym (append_snoc xs x (drop (suc k) old))

module _ (ns : List Numbers) (n : Numbers) (k : ℕ) (count : length ns ≡ k) where
  one_more : length (ns ++ (n ∷ [])) ≡ suc k
  one_more = length-append ns (n ∷ []) ∙ add-one (length ns) ∙ ap suc count

  column_next : {A : Type 0} (number : Numbers → A) (old mid new : List A) → suc k ≤ length old
      → mid ≡ map number ns ++ drop (length ns) old
      → new ≡ set mid k (number n)
      → new ≡ map number (ns ++ (n ∷ [])) ++ drop (length (ns ++ (n ∷ []))) old
  column_next number old mid new room e f =
      f
      ∙ ap (λ l. set l k (number n)) (e ∙ ap (λ m. map number ns ++ drop m old) count)
      ∙ stored_next (map number ns) old (number n) k (length-map ns number ∙ count) room
      ∙ ap (λ l. l ++ drop (suc k) old) (sym (map-append number ns (n ∷ [])))
      ∙ ap (λ m. map number (ns ++ (n ∷ [])) ++ drop m old) (sym one_more)

  pub filled_next : {old mid new : Columns} → Room (suc k) old → Filled ns old mid → Stored k n mid new → Filled (ns ++ (n ∷ [])) old new
  filled_next {old} {mid} {new} room filled stored =
      each-apply (each-apply (each-apply (each (λ A number column. column_next number (column old) (column mid) (column new))) room) filled) stored

column-length : {A : Type 0} (number : Numbers → A) (ns : List Numbers) (old new : List A) → length ns ≤ length old → new ≡ map number ns ++ drop (length ns) old → length new ≡ length old
column-length number ns old new room e = ap length e ∙ simp (length-append, length-map, length-drop) (omega arith)

pub filled-lengths : (ns : List Numbers) {old new : Columns} → Room (length ns) old → Filled ns old new → SameLengths old new
filled-lengths ns {old} {new} room filled = each-apply (each-apply (each (λ A number column. column-length number ns (column old) (column new))) room) filled

-- ---- the segments of a list, one after the other

pub first-none : (ss : List Segment) (cs : Columns) → FirstStored 0 ss cs cs
first-none ss cs = record { within = omega arith; columns_are = filled_none cs }

pub first-all : {c : ℕ} {ss : List Segment} {old new : Columns} → FirstStored c ss old new → drop c ss ≡ [] → AllStored c ss old new
first-all {c} {ss} {old} {new} stored e =
    record {
      count-is = let f = ap length e in let d = length-drop c ss in let w = stored.within in omega arith;
      columns_are = subst (λ l. Filled (map numbers_of l) old new) (take_all c ss (let f = ap length e in let d = length-drop c ss in omega arith)) stored.columns_are;
    }

module _ {c : ℕ} {ss : List Segment} {old mid : Columns} (stored : FirstStored c ss old mid) (room : Room (length ss) old) where
  numbers_stored : length (map numbers_of (take c ss)) ≡ c
  numbers_stored = length-map (take c ss) numbers_of ∙ length-take-le c ss stored.within

  pub first-lengths : SameLengths old mid
  first-lengths = filled-lengths (map numbers_of (take c ss)) (room-less (rw numbers_stored stored.within) room) stored.columns_are

  -- s comes next
  module _ {s : Segment} {rest : List Segment} (next : drop c ss ≡ s ∷ rest) where
    more : c < length ss
    more = let e = ap length next in let d = length-drop c ss in omega arith

    pub first_room : Room (suc c) mid
    first_room = room-kept first-lengths (room-less more room)

    one_taken : take (c + 1) ss ≡ take c ss ++ (s ∷ [])
    one_taken = rw (take-add c 1 ss) (ap (λ l. take c ss ++ take 1 l) next)

    pub first_next : {new : Columns} → Stored c (numbers_of s) mid new → FirstStored (c + 1) ss old new
    first_next {new} h =
        record {
          within = let m = more in omega arith;
          columns_are =
              rw (one_taken, map-append)
              (filled_next (map numbers_of (take c ss)) (numbers_of s) c numbers_stored (room-less more room) stored.columns_are h);
        }

    pub rest_left : drop (c + 1) ss ≡ rest
    rest_left = sym (drop-drop 1 c ss) ∙ ap (drop 1) next
