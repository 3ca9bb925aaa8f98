-- What a test that code made says: of two whole numbers, and of the sign of one for a definition that goes by it.
--
--     less_yes, less_no, most_yes, most_no   the test x < y, the test x ≤ y holds or fails
--     equal_of                               x ≤ y, and the test x < y fails
--     by_over           the test 0 < g holds: g is n + 1
--     by_not_over       it fails: g is 0 or −(n + 1)
--     by_not_under      the test 0 ≤ g holds: g is n
--     by_under          it fails: g is −(n + 1)
--     by_on             the first fails and the second holds: g is 0
--
-- Example: `by_under (λ g. trim_if g xs ys ≡ ys) g e (λ n. refl)` with e : le_z (pos 0) g ≡ false.
-- Assumes nothing.
use Rattle.std.specs.Prelude.{◌≡◌, Bool, true, false, ℕ, zero, suc, ℤ, pos, negsuc, T, ◌≤ℤ◌, ◌<ℤ◌}
use Rattle.std.proofs.Common.{sym, ◌∙◌, subst, inl, inr, arith, ltb-true, ltb-false, leb-false}
use Rattle.std.specs.Int.Signed.{le_z, lt_z, le_z_yes, lt_z_yes, lt_z_no}
use Rattle.integers.specs.Booleans.{true→T, false→not}
use Rattle.integers.specs.OrderLaws.{≤ℤ_or_<ℤ, ≤ℤ_antisym}

module _ {x y : ℤ} where
  pub less_yes : lt_z x y ≡ true → x <ℤ y
  less_yes e = lt_z_yes (true→T e)

  pub less_no : lt_z x y ≡ false → y ≤ℤ x
  less_no e = lt_z_no (false→not e)

  pub most_yes : le_z x y ≡ true → x ≤ℤ y
  most_yes e = le_z_yes (true→T e)

  pub most_no : le_z x y ≡ false → y <ℤ x
  most_no e = elim (≤ℤ_or_<ℤ x y) [ inl h ↦ absurd (subst T e h.le) | inr h ↦ h ]

pub equal_of : {x y : ℤ} {r : Bool} → x ≤ℤ y → r ≡ lt_z x y → r ≡ false → x ≡ y
equal_of h e o = ≤ℤ_antisym h (less_no (sym e ∙ o))

module _ (P : ℤ → Type 0) where
  pub by_over : (g : ℤ) → lt_z (pos 0) g ≡ true → ((n : ℕ) → P (pos (suc n))) → P g
  by_over (pos zero) e f = absurd (omega (arith, ltb-true 0 0 e))
  by_over (pos (suc n)) e f = f n
  by_over (negsuc n) e f = let z : ◌≡◌ {A = ℕ} 0 1 = cc in absurd (omega arith)

  pub by_not_over : (g : ℤ) → lt_z (pos 0) g ≡ false → P (pos 0) → ((n : ℕ) → P (negsuc n)) → P g
  by_not_over (pos zero) e p f = p
  by_not_over (pos (suc n)) e p f = absurd (omega (arith, ltb-false 0 (suc n) e))
  by_not_over (negsuc n) e p f = f n

  pub by_not_under : (g : ℤ) → le_z (pos 0) g ≡ true → ((n : ℕ) → P (pos n)) → P g
  by_not_under (pos n) e f = f n
  by_not_under (negsuc n) e f = let z : ◌≡◌ {A = ℕ} 0 1 = cc in absurd (omega arith)

  pub by_under : (g : ℤ) → le_z (pos 0) g ≡ false → ((n : ℕ) → P (negsuc n)) → P g
  by_under (pos n) e f = absurd (omega (arith, leb-false 0 n e))
  by_under (negsuc n) e f = f n

  pub by_on : (g : ℤ) → lt_z (pos 0) g ≡ false → le_z (pos 0) g ≡ true → P (pos 0) → P g
  by_on (pos zero) e h p = p
  by_on (pos (suc n)) e h p = absurd (omega (arith, ltb-false 0 (suc n) e))
  by_on (negsuc n) e h p = let z : ◌≡◌ {A = ℕ} 0 1 = cc in absurd (omega arith)
