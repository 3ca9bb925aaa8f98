-- Facts: how a type is a statement on integers, so that `search claims` reads what is to be proved and from what, and a tool of `Solve` or `Machine` proves it.
--
--     Flag ρ b, truth             how a Boolean is made of tests on the integers ρ, as `le_z x y && not (lt_z y z)`, and the form that it tests
--     Fact ρ X, form              how the type X is a statement on the integers ρ (the list below), and its form
--     Claim ρ X, hyps, goal       the same of X = A → B → .. → C: facts A, B, .. that give the fact C
--     _&_, no_facts               facts in hand, as one, `h₁ & h₂ & h₃`, and none
--     Checks ρ, sure              the tests by which an integer is known to be its expression's value; that all in a claim are
--     Reading ρ C, claim          that the tests are right; then a claim follows from what its forms give
--     claims                      the rules for plain integers (`tests` of `Machine` has these and the machine's)
--
-- A fact is
--     x ≤ℤ y, x <ℤ y, x ≡ y, ⊥, Within A x                 of integers
--     m ≤ n, m < n, m ≡ n                                  of natural numbers, whose integers `pos m`, `pos n` are listed
--     b ≡ c, b ≡ true, b ≡ false, T b                      of Booleans made of lt_z, le_z, eq_z, non_neg with not, &&, ||
--     X × Y, .., a product of two to six facts; X ⊎ Y; as a hypothesis also X → Y, as x ≡ y → ⊥
--     SFits w x, Fits w n, Fits w (nat_abs x)               what an operation or a cast asks
--     of_z w x ≡ of_z w y, of_z w x ≡ 7                       what a test of equality on a machine's words tells
-- Example: `linear! (a ∷ b ∷ []) (search claims depth 40) (omega arith) : a ≤ℤ b → (a ≤ℤ (b +ℤ pos 1)) × (lt_z b a ≡ false)`.
-- Assumes nothing.
use Rattle.std.specs.Prelude.{◌≡◌, ◌⊎◌, Bool, true, false, not, ◌&&◌, ◌||◌, List, [], ◌∷◌, ℕ, ◌^◌, ◌≤◌, ◌<◌, T, ltb, eqb, ℤ, pos, nat_abs, ◌≤ℤ◌, ◌<ℤ◌}
use Rattle.std.proofs.Common.{sym, ◌∙◌, ap, subst, subst₂, inl, inr, eqb→eq, T_not, ltb→lt, to_z-of_z}
use Rattle.std.proofs.Math.Dec.{not_T}
use Rattle.std.specs.Int.Signed.{lt_z, le_z, non_neg, le_z_yes, lt_z_yes, yes_non_neg}
use Rattle.std.specs.Int.{Width}
use mir.Val.{SFits, Fits, bits, hbits, to_z, of_z}
use Rattle.std.proofs.Math.Facts.{of_z-to_z}
use Rattle.integers.specs.Parts.{ints}
use Rattle.integers.specs.RingSolver.{Expr, lit, :neg, eval, both, both_l, both_r}
use Rattle.integers.specs.Quotes.{Quoted, code, quotes, numeral}
use Rattle.integers.specs.Certificates.{◌:≤◌, ◌:<◌, ◌:≡◌, :⊥}
use Rattle.integers.specs.Bounds.{Within, in_of, in_le, in_ge, sfits-≤, ≤-sfits, abs-<, <-abs, non_neg-≤}
use Rattle.integers.specs.Booleans.{T→true, true→T, not→false, false→not, T_ext, and_intro, and_left, and_right, or_left, or_right, or_cases}
use Rattle.integers.specs.Tests.{eq_z, eq_z-yes, eq_z-of, eqb_of}
use Rattle.integers.specs.Forms.{Form, :yes, atom, ◌:∧◌, ◌:∨◌, means, Means, neg, decide, clash}

-- ---- which quotes are known to be their expressions' values, and to fit a signed width: the tests, and that they are right
pub record Checks (ρ : List ℤ) : Type 0 where
  pub known? : {z : ℤ} → Quoted ρ z → Bool
  pub fits? : {z : ℤ} → Width → Quoted ρ z → Bool

pub record Reading (ρ : List ℤ) (C : Checks ρ) : Type 0 where
  pub is : {z : ℤ} (q : Quoted ρ z) → T (C.known? q) → eval ρ (code q) ≡ z
  pub fits : {z : ℤ} (w : Width) (q : Quoted ρ z) → T (C.known? q) → T (C.fits? w q) → SFits w z

-- ---- Booleans
pub data Flag (ρ : List ℤ) : Bool → Type 0 where
  b_true : Flag ρ true
  b_false : Flag ρ false
  b_lt : (x y : ℤ) → Quoted ρ x → Quoted ρ y → Flag ρ (lt_z x y)
  b_le : (x y : ℤ) → Quoted ρ x → Quoted ρ y → Flag ρ (le_z x y)
  b_eq : (x y : ℤ) → Quoted ρ x → Quoted ρ y → Flag ρ (eq_z x y)
  b_nonneg : (x : ℤ) → Quoted ρ x → Flag ρ (non_neg x)
  b_words : (w : Width) (x y : ℤ) → Quoted ρ x → Quoted ρ y → Flag ρ (eqb (of_z w x) (of_z w y))
  b_word : (w : Width) (x : ℤ) (n : ℕ) → T (numeral n) → Quoted ρ x → Flag ρ (eqb (of_z w x) n)
  b_not : (b : Bool) → Flag ρ b → Flag ρ (not b)
  b_and : (b c : Bool) → Flag ρ b → Flag ρ c → Flag ρ (b && c)
  b_or : (b c : Bool) → Flag ρ b → Flag ρ c → Flag ρ (b || c)

abbrev pub truth : {ρ : List ℤ} {b : Bool} → Flag ρ b → Form
truth b_true = :yes
truth b_false = atom :⊥
truth (b_lt x y p q) = atom (code p :< code q)
truth (b_le x y p q) = atom (code p :≤ code q)
truth (b_eq x y p q) = atom (code p :≡ code q)
truth (b_nonneg x p) = atom (lit (pos 0) :≤ code p)
truth (b_words w x y p q) = atom (code p :≡ code q)
truth (b_word w x n l p) = atom (code p :≡ lit (to_z w n))
truth (b_not b f) = neg (truth f)
truth (b_and b c f g) = truth f :∧ truth g
truth (b_or b c f g) = truth f :∨ truth g

-- ---- types
pub data Fact (ρ : List ℤ) : Type 0 → Type 1 where
  f_le : {x y : ℤ} → Quoted ρ x → Quoted ρ y → Fact ρ (x ≤ℤ y)
  f_lt : {x y : ℤ} → Quoted ρ x → Quoted ρ y → Fact ρ (x <ℤ y)
  f_eq : {x y : ℤ} → Quoted ρ x → Quoted ρ y → Fact ρ (x ≡ y)
  f_no : Fact ρ ⊥
  f_two : {X Y : Type 0} → Fact ρ X → Fact ρ Y → Fact ρ (X × Y)
  f_three : {X Y Z : Type 0} → Fact ρ X → Fact ρ Y → Fact ρ Z → Fact ρ (X × Y × Z)
  f_four : {A B C D : Type 0} → Fact ρ A → Fact ρ B → Fact ρ C → Fact ρ D → Fact ρ (A × B × C × D)
  f_five : {A B C D E : Type 0} → Fact ρ A → Fact ρ B → Fact ρ C → Fact ρ D → Fact ρ E → Fact ρ (A × B × C × D × E)
  f_six : {A B C D E F : Type 0} → Fact ρ A → Fact ρ B → Fact ρ C → Fact ρ D → Fact ρ E → Fact ρ F → Fact ρ (A × B × C × D × E × F)
  f_or : {X Y : Type 0} → Fact ρ X → Fact ρ Y → Fact ρ (X ⊎ Y)
  f_true : {b : Bool} → Flag ρ b → Fact ρ (b ≡ true)
  f_false : {b : Bool} → Flag ρ b → Fact ρ (b ≡ false)
  f_is_true : {b : Bool} → Flag ρ b → Fact ρ (true ≡ b)
  f_is_false : {b : Bool} → Flag ρ b → Fact ρ (false ≡ b)
  f_flags : {b c : Bool} → Flag ρ b → Flag ρ c → Fact ρ (b ≡ c)
  f_T : (b : Bool) → Flag ρ b → Fact ρ (T b)
  f_within : {A : ℕ} {x : ℤ} → Quoted ρ x → Fact ρ (Within A x)
  f_leℕ : {m n : ℕ} → Quoted ρ (pos m) → Quoted ρ (pos n) → Fact ρ (m ≤ n)
  f_ltℕ : (m n : ℕ) → Quoted ρ (pos m) → Quoted ρ (pos n) → Fact ρ (m < n)
  f_eqℕ : {m n : ℕ} → Quoted ρ (pos m) → Quoted ρ (pos n) → Fact ρ (m ≡ n)
  f_words : (w : Width) (x y : ℤ) → Quoted ρ x → Quoted ρ y → Fact ρ (of_z w x ≡ of_z w y)
  f_word : (w : Width) (x : ℤ) (n : ℕ) → T (numeral n) → Quoted ρ x → Fact ρ (of_z w x ≡ n)
  f_signed : {w : Width} {x : ℤ} → Quoted ρ x → Fact ρ (SFits w x)
  f_unsigned : {w : Width} {n : ℕ} → Quoted ρ (pos n) → Fact ρ (Fits w n)
  f_cast : (w : Width) (x : ℤ) → Quoted ρ x → Fact ρ (Fits w (nat_abs x))

abbrev pub form : {ρ : List ℤ} {X : Type 0} → Fact ρ X → Form
form (f_le p q) = atom (code p :≤ code q)
form (f_lt p q) = atom (code p :< code q)
form (f_eq p q) = atom (code p :≡ code q)
form f_no = atom :⊥
form (f_two f g) = form f :∧ form g
form (f_three f g h) = form f :∧ form g :∧ form h
form (f_four f g h i) = form f :∧ form g :∧ form h :∧ form i
form (f_five f g h i j) = form f :∧ form g :∧ form h :∧ form i :∧ form j
form (f_six f g h i j k) = form f :∧ form g :∧ form h :∧ form i :∧ form j :∧ form k
form (f_or f g) = form f :∨ form g
form (f_true f) = truth f
form (f_false f) = neg (truth f)
form (f_is_true f) = truth f
form (f_is_false f) = neg (truth f)
form (f_flags f g) = (neg (truth f) :∨ truth g) :∧ (neg (truth g) :∨ truth f)
form (f_T b f) = truth f
form (f_within {A} p) = atom (:neg (lit (pos A)) :≤ code p) :∧ atom (code p :≤ lit (pos A))
form (f_leℕ p q) = atom (code p :≤ code q)
form (f_ltℕ m n p q) = atom (code p :< code q)
form (f_eqℕ p q) = atom (code p :≡ code q)
form (f_words w x y p q) = atom (code p :≡ code q)
form (f_word w x n l p) = atom (code p :≡ lit (to_z w n))
form (f_signed {w} p) = atom (:neg (lit (pos (2 ^ hbits w))) :≤ code p) :∧ atom (code p :< lit (pos (2 ^ hbits w)))
form (f_unsigned {w} p) = atom (code p :< lit (pos (2 ^ bits w)))
form (f_cast w x p) = atom (:neg (lit (pos (2 ^ bits w))) :< code p) :∧ atom (code p :< lit (pos (2 ^ bits w)))

-- facts in hand, as one
infixr 25 ◌&◌
pub record And (X Y : Type 0) : Type 0 where
  pub first : X
  pub second : Y

pub ◌&◌ : {X Y : Type 0} → X → Y → And X Y
x & y = record { first = x; second = y }

-- none in hand
pub data NoFacts : Type 0 where
  no_facts : NoFacts

pub data Claim (ρ : List ℤ) : Type 0 → Type 1 where
  c_and : {X Y Z : Type 0} → Claim ρ (X → Y → Z) → Claim ρ (And X Y → Z)
  c_none : {Z : Type 0} → Claim ρ Z → Claim ρ (NoFacts → Z)
  c_end : {X : Type 0} → Fact ρ X → Claim ρ X
  c_hyp : {X Y : Type 0} → Fact ρ X → Claim ρ Y → Claim ρ (X → Y)
  c_imp : {X Y Z : Type 0} → Fact ρ X → Fact ρ Y → Claim ρ Z → Claim ρ ((X → Y) → Z)

abbrev pub hyps : {ρ : List ℤ} {X : Type 0} → Claim ρ X → List Form
hyps (c_and k) = hyps k
hyps (c_none k) = hyps k
hyps (c_end f) = []
hyps (c_hyp f k) = form f ∷ hyps k
hyps (c_imp f g k) = (neg (form f) :∨ form g) ∷ hyps k

abbrev pub goal : {ρ : List ℤ} {X : Type 0} → Claim ρ X → Form
goal (c_and k) = goal k
goal (c_none k) = goal k
goal (c_end f) = form f
goal (c_hyp f k) = goal k
goal (c_imp f g k) = goal k

-- ---- every integer in them is known
module _ {ρ : List ℤ} (C : Checks ρ) where
  abbrev two : {x y : ℤ} → Quoted ρ x → Quoted ρ y → Bool
  two p q = both (C.known? p) (C.known? q)

  abbrev two_words : {x y : ℤ} → Width → Quoted ρ x → Quoted ρ y → Bool
  two_words w p q = both (two p q) (both (C.fits? w p) (C.fits? w q))

  abbrev one_word : {x : ℤ} → Width → Quoted ρ x → ℕ → Bool
  one_word w p n = both (both (C.known? p) (C.fits? w p)) (ltb n (2 ^ bits w))

  abbrev pub sure_flag : {b : Bool} → Flag ρ b → Bool
  sure_flag b_true = true
  sure_flag b_false = true
  sure_flag (b_lt x y p q) = two p q
  sure_flag (b_le x y p q) = two p q
  sure_flag (b_eq x y p q) = two p q
  sure_flag (b_nonneg x p) = C.known? p
  sure_flag (b_words w x y p q) = two_words w p q
  sure_flag (b_word w x n l p) = one_word w p n
  sure_flag (b_not b f) = sure_flag f
  sure_flag (b_and b c f g) = both (sure_flag f) (sure_flag g)
  sure_flag (b_or b c f g) = both (sure_flag f) (sure_flag g)

  abbrev pub sure_fact : {X : Type 0} → Fact ρ X → Bool
  sure_fact (f_le p q) = two p q
  sure_fact (f_lt p q) = two p q
  sure_fact (f_eq p q) = two p q
  sure_fact f_no = true
  sure_fact (f_two f g) = both (sure_fact f) (sure_fact g)
  sure_fact (f_three f g h) = both (sure_fact f) (both (sure_fact g) (sure_fact h))
  sure_fact (f_four f g h i) = both (sure_fact f) (both (sure_fact g) (both (sure_fact h) (sure_fact i)))
  sure_fact (f_five f g h i j) = both (sure_fact f) (both (sure_fact g) (both (sure_fact h) (both (sure_fact i) (sure_fact j))))
  sure_fact (f_six f g h i j k) = both (sure_fact f) (both (sure_fact g) (both (sure_fact h) (both (sure_fact i) (both (sure_fact j) (sure_fact k)))))
  sure_fact (f_or f g) = both (sure_fact f) (sure_fact g)
  sure_fact (f_true f) = sure_flag f
  sure_fact (f_false f) = sure_flag f
  sure_fact (f_is_true f) = sure_flag f
  sure_fact (f_is_false f) = sure_flag f
  sure_fact (f_flags f g) = both (sure_flag f) (sure_flag g)
  sure_fact (f_T b f) = sure_flag f
  sure_fact (f_within p) = C.known? p
  sure_fact (f_leℕ p q) = two p q
  sure_fact (f_ltℕ m n p q) = two p q
  sure_fact (f_eqℕ p q) = two p q
  sure_fact (f_words w x y p q) = two_words w p q
  sure_fact (f_word w x n l p) = one_word w p n
  sure_fact (f_signed p) = C.known? p
  sure_fact (f_unsigned p) = C.known? p
  sure_fact (f_cast w x p) = C.known? p

  abbrev pub sure : {X : Type 0} → Claim ρ X → Bool
  sure (c_and k) = sure k
  sure (c_none k) = sure k
  sure (c_end f) = sure_fact f
  sure (c_hyp f k) = both (sure_fact f) (sure k)
  sure (c_imp f g k) = both (sure_fact f) (both (sure_fact g) (sure k))

-- ---- a type and a form that say the same
record Same (ρ : List ℤ) (X : Type 0) (f : Form) : Type 0 where
  to_form : X → means ρ f
  from_form : means ρ f → X

-- the tests of the parts, one after the other
pub both₃ : (a b c : Bool) → T (both a (both b c)) → T a × T b × T c
both₃ a b c t = let u = both_r a (both b c) t in (both_l a (both b c) t, both_l b c u, both_r b c u)

both₄ : (a b c d : Bool) → T (both a (both b (both c d))) → T a × T b × T c × T d
both₄ a b c d t = let u = both₃ b c d (both_r a (both b (both c d)) t) in (both_l a (both b (both c d)) t, u.0, u.1, u.2)

both₅ : (a b c d e : Bool) → T (both a (both b (both c (both d e)))) → T a × T b × T c × T d × T e
both₅ a b c d e t = let u = both₄ b c d e (both_r a (both b (both c (both d e))) t) in (both_l a (both b (both c (both d e))) t, u.0, u.1, u.2, u.3)

both₆ : (a b c d e f : Bool) → T (both a (both b (both c (both d (both e f))))) → T a × T b × T c × T d × T e × T f
both₆ a b c d e f t =
    let u = both₅ b c d e f (both_r a (both b (both c (both d (both e f)))) t) in (both_l a (both b (both c (both d (both e f)))) t, u.0, u.1, u.2, u.3, u.4)

module _ {ρ : List ℤ} where
  via : {X Y : Type 0} {f : Form} → (X → Y) → (Y → X) → Same ρ Y f → Same ρ X f
  via i o s = record { to_form = λ x. s.to_form (i x); from_form = λ h. o (s.from_form h) }

  and_same : {A B : Type 0} {f g : Form} → Same ρ A f → Same ρ B g → Same ρ (A × B) (f :∧ g)
  and_same s t = record { to_form = λ x. (s.to_form x.0, t.to_form x.1); from_form = λ h. (s.from_form h.0, t.from_form h.1) }

  three_same : {A B C : Type 0} {f g h : Form} → Same ρ A f → Same ρ B g → Same ρ C h → Same ρ (A × B × C) (f :∧ g :∧ h)
  three_same s t u = via (λ x. (x.0, (x.1, x.2))) (λ y. (y.0, y.1.0, y.1.1)) (and_same s (and_same t u))

  four_same : {A B C D : Type 0} {f g h i : Form} → Same ρ A f → Same ρ B g → Same ρ C h → Same ρ D i → Same ρ (A × B × C × D) (f :∧ g :∧ h :∧ i)
  four_same s t u v = via (λ x. (x.0, (x.1, x.2, x.3))) (λ y. (y.0, y.1.0, y.1.1, y.1.2)) (and_same s (three_same t u v))

  five_same : {A B C D E : Type 0} {f g h i j : Form} → Same ρ A f → Same ρ B g → Same ρ C h → Same ρ D i → Same ρ E j → Same ρ (A × B × C × D × E) (f :∧ g :∧ h :∧ i :∧ j)
  five_same s t u v w = via (λ x. (x.0, (x.1, x.2, x.3, x.4))) (λ y. (y.0, y.1.0, y.1.1, y.1.2, y.1.3)) (and_same s (four_same t u v w))

  six_same : {A B C D E F : Type 0} {f g h i j k : Form} → Same ρ A f → Same ρ B g → Same ρ C h → Same ρ D i → Same ρ E j → Same ρ F k → Same ρ (A × B × C × D × E × F) (f :∧ g :∧ h :∧ i :∧ j :∧ k)
  six_same s t u v w r = via (λ x. (x.0, (x.1, x.2, x.3, x.4, x.5))) (λ y. (y.0, y.1.0, y.1.1, y.1.2, y.1.3, y.1.4)) (and_same s (five_same t u v w r))

  or_same : {A B : Type 0} {f g : Form} → Same ρ A f → Same ρ B g → Same ρ (A ⊎ B) (f :∨ g)
  or_same s t = record {
    to_form = λ x. elim x [ inl a ↦ inl (s.to_form a) | inr b ↦ inr (t.to_form b) ];
    from_form = λ h. elim h [ inl a ↦ inl (s.from_form a) | inr b ↦ inr (t.from_form b) ];
  }

  imp_same : {A B : Type 0} {f g : Form} → Same ρ A f → Same ρ B g → Same ρ (A → B) (neg f :∨ g)
  imp_same {f} s t = record {
    to_form = λ k. elim (decide ρ f) [ inl h ↦ inr (t.to_form (k (s.from_form h))) | inr h ↦ inl h ];
    from_form = λ h x. elim h [ inl n ↦ absurd (clash ρ f (s.to_form x) n) | inr g ↦ t.from_form g ];
  }

  not_same : (b : Bool) {f : Form} → Same ρ (T b) f → Same ρ (T (not b)) (neg f)
  not_same b {f} s = record {
    to_form = λ t. elim (decide ρ f) [ inl h ↦ absurd (T_not b t (s.from_form h)) | inr h ↦ h ];
    from_form = λ h. not_T b (λ t. clash ρ f (s.to_form t) h);
  }

-- a word of a width stands for one integer
words-eq : {w : Width} {x y : ℤ} → SFits w x → SFits w y → of_z w x ≡ of_z w y → x ≡ y
words-eq {w} f g e = sym (to_z-of_z f) ∙ ap (to_z w) e ∙ to_z-of_z g

word-eq : (w : Width) (x : ℤ) (n : ℕ) → SFits w x → of_z w x ≡ n → x ≡ to_z w n
word-eq w x n f e = sym (to_z-of_z f) ∙ ap (to_z w) e

eq-word : (w : Width) (x : ℤ) (n : ℕ) → T (ltb n (2 ^ bits w)) → x ≡ to_z w n → of_z w x ≡ n
eq-word w x n t e = ap (of_z w) e ∙ of_z-to_z {w = w} (record { fits = ltb→lt n (2 ^ bits w) t })

module _ {ρ : List ℤ} {C : Checks ρ} (R : Reading ρ C) where
  -- a relation between two known integers is one between their expressions' values
  known₂ : (S : ℤ → ℤ → Type 0) {x y : ℤ} (p : Quoted ρ x) (q : Quoted ρ y) → T (two C p q) → (S x y → S (eval ρ (code p)) (eval ρ (code q))) × (S (eval ρ (code p)) (eval ρ (code q)) → S x y)
  known₂ S p q t =
      let a = R.is p (both_l (C.known? p) (C.known? q) t) in let b = R.is q (both_r (C.known? p) (C.known? q) t) in
      (subst₂ S (sym a) (sym b), subst₂ S a b)

  known₁ : (S : ℤ → Type 0) {x : ℤ} (p : Quoted ρ x) → T (C.known? p) → (S x → S (eval ρ (code p))) × (S (eval ρ (code p)) → S x)
  known₁ S p t = let a = R.is p t in (subst S (sym a), subst S a)

  le_same : {x y : ℤ} (p : Quoted ρ x) (q : Quoted ρ y) → T (two C p q) → Same ρ (x ≤ℤ y) (atom (code p :≤ code q))
  le_same p q t = let k = known₂ (λ a b. a ≤ℤ b) p q t in record { to_form = k.0; from_form = k.1 }

  lt_same : {x y : ℤ} (p : Quoted ρ x) (q : Quoted ρ y) → T (two C p q) → Same ρ (x <ℤ y) (atom (code p :< code q))
  lt_same p q t = let k = known₂ (λ a b. a <ℤ b) p q t in record { to_form = k.0; from_form = k.1 }

  eq_same : {x y : ℤ} (p : Quoted ρ x) (q : Quoted ρ y) → T (two C p q) → Same ρ (x ≡ y) (atom (code p :≡ code q))
  eq_same p q t = let k = known₂ (λ a b. a ≡ b) p q t in record { to_form = k.0; from_form = k.1 }

  -- bounds by two integers that are no variables
  from_le : (a : Expr) {x : ℤ} (p : Quoted ρ x) → T (C.known? p) → Same ρ (eval ρ a ≤ℤ x) (atom (a :≤ code p))
  from_le a p t = let k = known₁ (λ z. eval ρ a ≤ℤ z) p t in record { to_form = k.0; from_form = k.1 }

  from_lt : (a : Expr) {x : ℤ} (p : Quoted ρ x) → T (C.known? p) → Same ρ (eval ρ a <ℤ x) (atom (a :< code p))
  from_lt a p t = let k = known₁ (λ z. eval ρ a <ℤ z) p t in record { to_form = k.0; from_form = k.1 }

  to_le : (a : Expr) {x : ℤ} (p : Quoted ρ x) → T (C.known? p) → Same ρ (x ≤ℤ eval ρ a) (atom (code p :≤ a))
  to_le a p t = let k = known₁ (λ z. z ≤ℤ eval ρ a) p t in record { to_form = k.0; from_form = k.1 }

  to_lt : (a : Expr) {x : ℤ} (p : Quoted ρ x) → T (C.known? p) → Same ρ (x <ℤ eval ρ a) (atom (code p :< a))
  to_lt a p t = let k = known₁ (λ z. z <ℤ eval ρ a) p t in record { to_form = k.0; from_form = k.1 }

  words_same : (w : Width) {x y : ℤ} (p : Quoted ρ x) (q : Quoted ρ y) → T (two_words C w p q) → Same ρ (of_z w x ≡ of_z w y) (atom (code p :≡ code q))
  words_same w p q t =
      let k = both_l (two C p q) _ t in let f = both_r (two C p q) _ t in
      let a = R.fits w p (both_l (C.known? p) _ k) (both_l (C.fits? w p) _ f) in let b = R.fits w q (both_r (C.known? p) _ k) (both_r (C.fits? w p) _ f) in
      via (words-eq a b) (λ e. ap (of_z w) e) (eq_same p q k)

  word_same : (w : Width) {x : ℤ} (n : ℕ) (p : Quoted ρ x) → T (one_word C w p n) → Same ρ (of_z w x ≡ n) (atom (code p :≡ lit (to_z w n)))
  word_same w {x} n p t =
      let u = both_l (both (C.known? p) (C.fits? w p)) _ t in let k = both_l (C.known? p) _ u in let e = known₁ (λ z. z ≡ to_z w n) p k in
      via (word-eq w x n (R.fits w p k (both_r (C.known? p) _ u))) (eq-word w x n (both_r (both (C.known? p) (C.fits? w p)) _ t)) (record { to_form = e.0; from_form = e.1 })

  flag_same : {b : Bool} (f : Flag ρ b) → T (sure_flag C f) → Same ρ (T b) (truth f)
  flag_same b_true s = record { to_form = λ t. t; from_form = λ h. h }
  flag_same b_false s = record { to_form = λ t. t; from_form = λ h. h }
  flag_same (b_lt x y p q) s = via lt_z_yes (λ h. h.lt) (lt_same p q s)
  flag_same (b_le x y p q) s = via le_z_yes (λ h. h.le) (le_same p q s)
  flag_same (b_eq x y p q) s = via eq_z-yes eq_z-of (eq_same p q s)
  flag_same (b_nonneg x p) s = via non_neg-≤ yes_non_neg (from_le (lit (pos 0)) p s)
  flag_same (b_words w x y p q) s = via (eqb→eq (of_z w x) (of_z w y)) eqb_of (words_same w p q s)
  flag_same (b_word w x n l p) s = via (eqb→eq (of_z w x) n) eqb_of (word_same w n p s)
  flag_same (b_not b f) s = not_same b (flag_same f s)
  flag_same (b_and b c f g) s = via (λ t. (and_left b c t, and_right b c t)) (λ t. and_intro b c t.0 t.1) (and_same (flag_same f (both_l (sure_flag C f) (sure_flag C g) s)) (flag_same g (both_r (sure_flag C f) (sure_flag C g) s)))
  flag_same (b_or b c f g) s = via (or_cases b c) (λ t. elim t [ inl u ↦ or_left b c u | inr u ↦ or_right b c u ]) (or_same (flag_same f (both_l (sure_flag C f) (sure_flag C g) s)) (flag_same g (both_r (sure_flag C f) (sure_flag C g) s)))

  fact_same : {X : Type 0} (f : Fact ρ X) → T (sure_fact C f) → Same ρ X (form f)
  fact_same (f_le p q) s = le_same p q s
  fact_same (f_lt p q) s = lt_same p q s
  fact_same (f_eq p q) s = eq_same p q s
  fact_same f_no s = record { to_form = λ x. x; from_form = λ h. h }
  fact_same (f_two f g) s = and_same (fact_same f (both_l (sure_fact C f) (sure_fact C g) s)) (fact_same g (both_r (sure_fact C f) (sure_fact C g) s))
  fact_same (f_three f g h) s = let t = both₃ (sure_fact C f) (sure_fact C g) (sure_fact C h) s in three_same (fact_same f t.0) (fact_same g t.1) (fact_same h t.2)
  fact_same (f_four f g h i) s =
      let t = both₄ (sure_fact C f) (sure_fact C g) (sure_fact C h) (sure_fact C i) s in
      four_same (fact_same f t.0) (fact_same g t.1) (fact_same h t.2) (fact_same i t.3)
  fact_same (f_five f g h i j) s =
      let t = both₅ (sure_fact C f) (sure_fact C g) (sure_fact C h) (sure_fact C i) (sure_fact C j) s in
      five_same (fact_same f t.0) (fact_same g t.1) (fact_same h t.2) (fact_same i t.3) (fact_same j t.4)
  fact_same (f_six f g h i j k) s =
      let t = both₆ (sure_fact C f) (sure_fact C g) (sure_fact C h) (sure_fact C i) (sure_fact C j) (sure_fact C k) s in
      six_same (fact_same f t.0) (fact_same g t.1) (fact_same h t.2) (fact_same i t.3) (fact_same j t.4) (fact_same k t.5)
  fact_same (f_or f g) s = or_same (fact_same f (both_l (sure_fact C f) (sure_fact C g) s)) (fact_same g (both_r (sure_fact C f) (sure_fact C g) s))
  fact_same (f_true f) s = via true→T T→true (flag_same f s)
  fact_same (f_false {b} f) s = via false→not not→false (not_same b (flag_same f s))
  fact_same (f_is_true f) s = via (λ e. true→T (sym e)) (λ t. sym (T→true t)) (flag_same f s)
  fact_same (f_is_false {b} f) s = via (λ e. false→not (sym e)) (λ t. sym (not→false t)) (not_same b (flag_same f s))
  fact_same (f_flags {b} {c} f g) s =
      let a = flag_same f (both_l (sure_flag C f) (sure_flag C g) s) in let d = flag_same g (both_r (sure_flag C f) (sure_flag C g) s) in
      via (λ e. (subst T e, subst T (sym e))) (λ k. T_ext k.0 k.1) (and_same (imp_same a d) (imp_same d a))
  fact_same (f_T b f) s = flag_same f s
  fact_same (f_within {A} p) s = via (λ h. (in_ge h, in_le h)) (λ h. in_of h.0 h.1) (and_same (from_le (:neg (lit (pos A))) p s) (to_le (lit (pos A)) p s))
  fact_same (f_leℕ p q) s = via (λ h. omega ints) (λ h. omega ints) (le_same p q s)
  fact_same (f_ltℕ m n p q) s = via (λ h. omega ints) (λ h. omega ints) (lt_same p q s)
  fact_same (f_eqℕ p q) s = via (λ h. ap pos h) (λ h. omega ints) (eq_same p q s)
  fact_same (f_words w x y p q) s = words_same w p q s
  fact_same (f_word w x n l p) s = word_same w n p s
  fact_same (f_signed {w} p) s = via sfits-≤ (λ h. ≤-sfits h.0 h.1) (and_same (from_le (:neg (lit (pos (2 ^ hbits w)))) p s) (to_lt (lit (pos (2 ^ hbits w))) p s))
  fact_same (f_unsigned {w} {n} p) s = via (λ h. omega ints) (λ h. record { fits = omega ints }) (to_lt (lit (pos (2 ^ bits w))) p s)
  fact_same (f_cast w x p) s = via (λ h. abs-< h.fits) (λ h. record { fits = <-abs h.0 h.1 }) (and_same (from_lt (:neg (lit (pos (2 ^ bits w)))) p s) (to_lt (lit (pos (2 ^ bits w))) p s))

  -- what a claim says, from what its hypotheses' forms give
  pub claim : {X : Type 0} (k : Claim ρ X) → T (sure C k) → (Means ρ (hyps k) → means ρ (goal k)) → X
  claim (c_and k) s h = λ b. claim k s h b.first b.second
  claim (c_none k) s h = λ _. claim k s h
  claim (c_end f) s h = (fact_same f s).from_form (h tt)
  claim (c_hyp f k) s h = λ x. claim k (both_r (sure_fact C f) (sure C k) s) (λ all. h ((fact_same f (both_l (sure_fact C f) (sure C k) s)).to_form x, all))
  claim (c_imp f g k) s h = λ x. let t = both₃ (sure_fact C f) (sure_fact C g) (sure C k) s in claim k t.2 (λ all. h ((imp_same (fact_same f t.0) (fact_same g t.1)).to_form x, all))

-- the machine's facts are not among them
pub ruleset claims = (c_hyp, c_imp, c_and, c_none, c_end, f_le, f_lt, f_eq, f_no, f_two, f_three, f_four, f_five, f_six, f_or, f_true, f_false, f_is_true, f_is_false, f_flags, f_T, f_within, f_ltℕ, f_leℕ, f_eqℕ, b_true, b_false, b_lt, b_le, b_eq, b_nonneg, b_not, b_and, b_or, quotes)
