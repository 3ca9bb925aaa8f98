-- Equality of integers as a test that computes.
--
--     eq_z x y                 whether two integers are equal; `lt_z` and `le_z` are the library's
--     eq_z-yes, eq_z-of         the equation from the test, and back
--     eqb_of                  the same of natural numbers
--
-- Example: a contract `λ r. ⌜ r ≡ eq_z l.p (pos 0) ⌝`; `eq_z-yes t : l.p ≡ pos 0` from t : T (eq_z l.p (pos 0)).
-- Assumes nothing.
use Rattle.std.specs.Prelude.{◌≡◌, Bool, false, ℕ, T, eqb, ℤ, pos, negsuc}
use Rattle.std.proofs.Common.{ap, subst, eqb→eq}
use Rattle.std.proofs.Math.Dec.{eqb_refl}

abbrev pub eq_z : ℤ → ℤ → Bool
eq_z (pos a) (pos b) = eqb a b
eq_z (pos a) (negsuc b) = false
eq_z (negsuc a) (pos b) = false
eq_z (negsuc a) (negsuc b) = eqb a b

pub eq_z-yes : {x y : ℤ} → T (eq_z x y) → x ≡ y
eq_z-yes {x = pos a} {y = pos b} t = ap pos (eqb→eq a b t)
eq_z-yes {x = pos a} {y = negsuc b} t = absurd t
eq_z-yes {x = negsuc a} {y = pos b} t = absurd t
eq_z-yes {x = negsuc a} {y = negsuc b} t = ap negsuc (eqb→eq a b t)

eq_z-refl : (x : ℤ) → T (eq_z x x)
eq_z-refl (pos a) = eqb_refl a
eq_z-refl (negsuc a) = eqb_refl a

pub eq_z-of : {x y : ℤ} → x ≡ y → T (eq_z x y)
eq_z-of {x} e = subst (λ z. T (eq_z x z)) e (eq_z-refl x)

-- natural numbers
pub eqb_of : {m n : ℕ} → m ≡ n → T (eqb m n)
eqb_of {m} e = subst (λ k. T (eqb m k)) e (eqb_refl m)
