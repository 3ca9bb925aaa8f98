-- What a Boolean test says: `T b` of lib.Dec and the equation b ≡ true, each made from the other, and the laws of &&, || and not for them.
--
--     T→true, true→T, ¬T→false, false→¬T   the test as an equation, and the equation as a test
--     not→false, false→not                 the same of a negation (T-not and not-T of lib.Dec have ¬ T b)
--     T_dec, T_ext                         T b is decided; two tests that pass together are equal
--     and_intro, and_left, and_right       T (a && b) is T a and T b
--     or_left, or_right, or_cases          T (a || b) is T a or T b
--     or-neither                           a || b fails exactly where both fail
--
-- Example: with t : T (leZ x y && leZ y z), `and_left (le_z x y) (le_z y z) t : T (le_z x y)`; the tests are written out, since && computes.
-- Assumes nothing.
use Rattle.std.specs.Prelude.{◌≡◌, refl, ◌⊎◌, Bool, true, false, not, ◌&&◌, ◌||◌, T}
use Rattle.std.proofs.Common.{sym, subst, inl, inr}

-- ---- tests and equations
pub T→true : {b : Bool} → T b → b ≡ true
T→true {b = true} t = refl
T→true {b = false} t = absurd t

pub true→T : {b : Bool} → b ≡ true → T b
true→T e = subst T (sym e) tt

pub ¬T→false : {b : Bool} → ¬ T b → b ≡ false
¬T→false {b = true} n = absurd (n tt)
¬T→false {b = false} n = refl

pub false→¬T : {b : Bool} → b ≡ false → ¬ T b
false→¬T e t = subst T e t

pub not→false : {b : Bool} → T (not b) → b ≡ false
not→false {b = true} t = absurd t
not→false {b = false} t = refl

pub false→not : {b : Bool} → b ≡ false → T (not b)
false→not e = subst (λ b. T (not b)) (sym e) tt

abbrev pub T_dec : (b : Bool) → Dec (T b)
T_dec true = yes tt
T_dec false = no (λ t. t)

pub T_ext : {a b : Bool} → (T a → T b) → (T b → T a) → a ≡ b
T_ext {a = true} f g = sym (T→true (f tt))
T_ext {a = false} f g = sym (¬T→false g)

-- ---- both, one, neither
pub and_intro : (a b : Bool) → T a → T b → T (a && b)
and_intro true b s t = t
and_intro false b s t = absurd s

pub and_left : (a b : Bool) → T (a && b) → T a
and_left true b t = tt
and_left false b t = absurd t

pub and_right : (a b : Bool) → T (a && b) → T b
and_right true b t = t
and_right false b t = absurd t

pub or_left : (a b : Bool) → T a → T (a || b)
or_left true b t = tt
or_left false b t = absurd t

pub or_right : (a b : Bool) → T b → T (a || b)
or_right true b t = tt
or_right false b t = t

pub or_cases : (a b : Bool) → T (a || b) → T a ⊎ T b
or_cases true b t = inl tt
or_cases false b t = inr t

pub or-neither : (a b : Bool) → (a || b) ≡ false → (a ≡ false) × (b ≡ false)
or-neither true b e = absurd (false→¬T e tt)
or-neither false b e = (refl, e)
