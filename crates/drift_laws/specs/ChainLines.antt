-- The lines through neighbouring points of a chain in a slice.
--
--     lines-one, lines_more      of one point none; one more point gives one more line
--     lines-count                one fewer than the points
--     Rises f a b                times rise along the points from a to b
--     rises-of                   so they do where every line has d above 0
--
-- Assumes nothing.
use Rattle.std.specs.Prelude.{◌≡◌, List, [], ◌∷◌, ◌++◌, ℕ, zero, suc, ◌+◌, ◌-◌, ◌<◌, length, pos, ◌-ℤ◌, ◌<ℤ◌}
use Rattle.std.proofs.Math.Path.{refl}
use Rattle.std.proofs.Common.{sym, ◌∙◌, ap, ap₂, subst, arith}
use Rattle.integers.specs.Lists.{All, All-head, All-tail}
use Rattle.chains.specs.Points.{Point, through}
use Rattle.chains.specs.Hull.{lines_from, lines_of}
use Rattle.drift_laws.specs.ChainParts.{part, part-snoc, between}

lines_from-snoc : (X : Point) (xs : List Point) (A B : Point) → lines_from X ((xs ++ (A ∷ [])) ++ (B ∷ [])) ≡ lines_from X (xs ++ (A ∷ [])) ++ (through A B ∷ [])
lines_from-snoc X [] A B = refl
lines_from-snoc X (Y ∷ xs) A B = ap (λ ls. through X Y ∷ ls) (lines_from-snoc Y xs A B)

lines_of-snoc : (xs : List Point) (A B : Point) → lines_of ((xs ++ (A ∷ [])) ++ (B ∷ [])) ≡ lines_of (xs ++ (A ∷ [])) ++ (through A B ∷ [])
lines_of-snoc [] A B = refl
lines_of-snoc (X ∷ xs) A B = lines_from-snoc X xs A B

module _ (f : ℕ → Point) (a : ℕ) where
  one_core : lines_of (part f a 1) ≡ []
  unfolding part
  one_core = refl

  pub lines-one : lines_of (between f a (a + 1)) ≡ []
  lines-one = let e : a + 1 - a ≡ 1 = omega arith in ap (λ n. lines_of (part f a n)) e ∙ one_core

  more_core : (m : ℕ) → lines_of (part f a (suc (suc m))) ≡ lines_of (part f a (suc m)) ++ (through (f (a + m)) (f (a + suc m)) ∷ [])
  more_core m =
      ap lines_of (part-snoc f a (suc m) ∙ ap (λ ys. ys ++ (f (a + suc m) ∷ [])) (part-snoc f a m))
      ∙ lines_of-snoc (part f a m) (f (a + m)) (f (a + suc m))
      ∙ ap (λ ys. lines_of ys ++ (through (f (a + m)) (f (a + suc m)) ∷ [])) (sym (part-snoc f a m))

  pub lines_more : (j : ℕ) → a < j → lines_of (between f a (j + 1)) ≡ lines_of (between f a j) ++ (through (f (j - 1)) (f j) ∷ [])
  lines_more j h =
      let e : j + 1 - a ≡ suc (suc (j - a - 1)) = omega arith in
      let g : suc (j - a - 1) ≡ j - a = omega arith in
      let x : a + (j - a - 1) ≡ j - 1 = omega arith in
      let y : a + suc (j - a - 1) ≡ j = omega arith in
      ap (λ n. lines_of (part f a n)) e ∙ more_core (j - a - 1) ∙ ap₂ (λ n l. lines_of (part f a n) ++ (l ∷ [])) g (ap₂ (λ u v. through (f u) (f v)) x y)

-- ---- how many
count-core : (f : ℕ → Point) (n a : ℕ) → length (lines_of (part f a (suc n))) ≡ n
unfolding part
count-core f zero a = refl
count-core f (suc n) a = ap suc (count-core f n (suc a))

pub lines-count : (f : ℕ → Point) (a b : ℕ) → a < b → length (lines_of (between f a b)) ≡ b - a - 1
lines-count f a b h = let e : b - a ≡ suc (b - a - 1) = omega arith in ap (λ n. length (lines_of (part f a n))) e ∙ count-core f (b - a - 1) a

-- ---- times
pub record Rises (f : ℕ → Point) (a b : ℕ) : Type 0 where
  pub each : (j : ℕ) → a < j → j < b → pos 0 <ℤ ((f j).t -ℤ (f (j - 1)).t)

rises-core : (f : ℕ → Point) (n a : ℕ) → All (λ l. pos 0 <ℤ l.d) (lines_of (part f a (suc n))) → (j : ℕ) → a < j → j < a + suc n → pos 0 <ℤ ((f j).t -ℤ (f (j - 1)).t)
unfolding part
rises-core f zero a h j lo hi = absurd (omega arith)
rises-core f (suc n) a h j lo hi = by (j - suc a) refl (λ l k. rises-core f n (suc a) (All-tail h) j l k)
  where
    by : (m : ℕ) → j - suc a ≡ m → (suc a < j → j < suc a + suc n → pos 0 <ℤ ((f j).t -ℤ (f (j - 1)).t)) → pos 0 <ℤ ((f j).t -ℤ (f (j - 1)).t)
    by zero e rest =
        let x : suc a ≡ j = omega arith in
        let y : a ≡ j - 1 = omega arith in
        subst (λ k. pos 0 <ℤ ((f j).t -ℤ (f k).t)) y (subst (λ k. pos 0 <ℤ ((f k).t -ℤ (f a).t)) x (All-head h))
    by (suc m) e rest = rest (omega arith) (omega arith)

pub rises-of : (f : ℕ → Point) (a b : ℕ) → a < b → All (λ l. pos 0 <ℤ l.d) (lines_of (between f a b)) → Rises f a b
rises-of f a b h all =
    let e : b - a ≡ suc (b - a - 1) = omega arith in
    record { each = λ j lo hi. rises-core f (b - a - 1) a (subst (λ n. All (λ l. pos 0 <ℤ l.d) (lines_of (part f a n))) e all) j lo (omega arith) }
