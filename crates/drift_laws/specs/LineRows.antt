-- Lines in three lent slices, one number of each line in each.
--
--     RowRoom n ps qs ds              each slice has n entries or more
--     room-kept                       fewer entries, in slices that are as long
--     RowsSet at ls old.. new..       the lines ls stand from the place `at` on, and all else is as before
--     rows_none, rows_then            no line; some lines, and then more behind them
--     RowsFirst, rows-first           lines from the first place on: they stand first, and past them all is as before
--
-- Assumes nothing.
use Rattle.std.specs.Prelude.{◌≡◌, refl, List, [], ◌∷◌, ◌++◌, map, ℕ, suc, ◌+◌, ◌≤◌, length, drop, set, ℤ}
use Rattle.std.proofs.Common.{sym, ◌∙◌, ap, ap₂, arith}
use Rattle.std.proofs.lemmas.List.{map-append, length-map}
use Rattle.std.proofs.lemmas.List.Edits.{sets, sets-eq}
use Rattle.definitions.specs.Lines.{Line}

pub record RowRoom (n : ℕ) (ps qs ds : List ℤ) : Type 0 where
  pub ps_long : n ≤ length ps
  pub qs_long : n ≤ length qs
  pub ds_long : n ≤ length ds

-- as many entries in slices that are as long, and fewer
pub room-kept : {m n : ℕ} {ps qs ds pt qt dt : List ℤ} → RowRoom n ps qs ds → m ≤ n → length pt ≡ length ps → length qt ≡ length qs → length dt ≡ length ds → RowRoom m pt qt dt
room-kept r h a b c = record { ps_long = omega (arith, r.ps_long); qs_long = omega (arith, r.qs_long); ds_long = omega (arith, r.ds_long) }

pub record RowsSet (at : ℕ) (ls : List Line) (ps qs ds ps' qs' ds' : List ℤ) : Type 0 where
  pub p_is : ps' ≡ sets ps at (map (λ l. l.p) ls)
  pub q_is : qs' ≡ sets qs at (map (λ l. l.q) ls)
  pub d_is : ds' ≡ sets ds at (map (λ l. l.d) ls)

pub record RowsFirst (ls : List Line) (ps qs ds ps' qs' ds' : List ℤ) : Type 0 where
  pub p_is : ps' ≡ map (λ l. l.p) ls ++ drop (length ls) ps
  pub q_is : qs' ≡ map (λ l. l.q) ls ++ drop (length ls) qs
  pub d_is : ds' ≡ map (λ l. l.d) ls ++ drop (length ls) ds

pub rows_none : (at : ℕ) (ps qs ds : List ℤ) → RowsSet at [] ps qs ds ps qs ds
rows_none at ps qs ds = record { p_is = refl; q_is = refl; d_is = refl }

-- ---- one slice
sets-append : (xs ys zs : List ℤ) (i : ℕ) → sets zs i (xs ++ ys) ≡ sets (sets zs i xs) (i + length xs) ys
sets-append [] ys zs i = ap (λ k. sets zs k ys) (omega arith)
sets-append (x ∷ xs) ys zs i = sets-append xs ys (set zs i x) (suc i) ∙ ap (λ k. sets (sets (set zs i x) (suc i) xs) k ys) (omega arith)

column-then : (number : Line → ℤ) (at : ℕ) (ks ls : List Line) (xs : List ℤ) {ys zs : List ℤ} → ys ≡ sets xs at (map number ks) → zs ≡ sets ys (at + length ks) (map number ls)
    → zs ≡ sets xs at (map number (ks ++ ls))
column-then number at ks ls xs e f =
    f
    ∙ ap₂ (λ ys n. sets ys (at + n) (map number ls)) e (sym (length-map ks number))
    ∙ sym (sets-append (map number ks) (map number ls) xs at)
    ∙ ap (sets xs at) (sym (map-append number ks ls))

column-first : (number : Line → ℤ) (ls : List Line) (xs : List ℤ) {ys : List ℤ} → length ls ≤ length xs → ys ≡ sets xs 0 (map number ls) → ys ≡ map number ls ++ drop (length ls) xs
column-first number ls xs h e =
    let n : 0 + length (map number ls) ≡ length ls = omega (arith, length-map ls number) in
    e ∙ sets-eq (map number ls) xs 0 (omega arith) ∙ ap (λ k. map number ls ++ drop k xs) n

-- ---- all three
module _ {at : ℕ} {ks ls : List Line} {ps qs ds pt qt dt pu qu du : List ℤ} where
  pub rows_then : RowsSet at ks ps qs ds pt qt dt → RowsSet (at + length ks) ls pt qt dt pu qu du → RowsSet at (ks ++ ls) ps qs ds pu qu du
  rows_then s t =
      record {
        p_is = column-then (λ l. l.p) at ks ls ps s.p_is t.p_is;
        q_is = column-then (λ l. l.q) at ks ls qs s.q_is t.q_is;
        d_is = column-then (λ l. l.d) at ks ls ds s.d_is t.d_is;
      }

pub rows-first : {ls : List Line} {ps qs ds pt qt dt : List ℤ} → RowRoom (length ls) ps qs ds → RowsSet 0 ls ps qs ds pt qt dt → RowsFirst ls ps qs ds pt qt dt
rows-first {ls} {ps} {qs} {ds} r s =
    record {
      p_is = column-first (λ l. l.p) ls ps r.ps_long s.p_is;
      q_is = column-first (λ l. l.q) ls qs r.qs_long s.q_is;
      d_is = column-first (λ l. l.d) ls ds r.ds_long s.d_is;
    }
