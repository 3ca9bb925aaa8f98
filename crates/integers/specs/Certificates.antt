-- Certificates for polynomial inequalities over ℤ, checked by computation.
--
--     Stmt, _:≤_, _:<_, _:≡_, _:≢_, :⊥   a statement over polynomials, and `holds ρ s`, what it says where ρ lists the variables' values
--     All ρ H, Entails ρ H s             the statements H hold; they give s
--     Cert                               a sum of products that is not negative because of the hypotheses: `hyp i` (right − left of hypothesis i), `tight i` (one less, for a `:<`), `num n`, `sq e` (a square), `eqn i e` (hypothesis i, an equation, times e), `c ⊞ d`, `c ⊠ d`
--     Check H s m c                      the test of a certificate m, c for s: m · (right − left of s) is c, as polynomials, where m is positive and c not negative (positive for `:<`, made of equations alone for `:≡`) by how they are made; for `:⊥` it is that c is positive and, as a polynomial, 0
--     certified, certify                 what a certificate that passes proves
--
-- Example: a ≤ b and b < c give a < c by `certify (a ∷ b ∷ c ∷ []) (var 0 :≤ var 1 ∷ var 1 :< var 2 ∷ []) (var 0 :< var 2) (num 1) (hyp 0 ⊞ hyp 1) tt`. `certify!` of `Solve` reads the statements off the goal.
-- Assumes nothing.
use Rattle.std.specs.Prelude.{◌≡◌, refl, Bool, true, false, List, [], ◌∷◌, ℕ, zero, suc, T, ℤ, pos, ◌+ℤ◌, ◌-ℤ◌, ◌*ℤ◌, ◌≤ℤ◌, ◌<ℤ◌}
use Rattle.std.proofs.Common.{sym, ◌∙◌, ap, ap₂, subst}
use Rattle.std.proofs.Math.IntN.{*ℤ-zero, zero-*ℤ}
use Rattle.std.specs.Int.Signed.{≤ℤ_refl, <ℤ_irrefl}
use Rattle.integers.specs.Parts.{parts_add, parts-sub, ints}
use Rattle.integers.specs.OrderLaws.{<ℤ→≤ℤ, mul-nonneg, mul-pos, square-nonneg, sub-nonneg, sub-pos, nonneg-sub, pos-sub, pos_cancel_≤, pos_cancel_<, pos_cancel_≡, ≤ℤ_of_≡}
use Rattle.integers.specs.RingSolver.{Expr, lit, ◌:+◌, ◌:-◌, ◌:*◌, eval, normal, zero?, both, both_l, both_r, ring, poly_zero, diff-zero}

infix 70 ◌:≤◌ ◌:<◌ ◌:≡◌ ◌:≢◌
pub data Stmt : Type 0 where
  ◌:≤◌ : Expr → Expr → Stmt
  ◌:<◌ : Expr → Expr → Stmt
  ◌:≡◌ : Expr → Expr → Stmt
  ◌:≢◌ : Expr → Expr → Stmt
  :⊥ : Stmt

abbrev pub holds : List ℤ → Stmt → Type 0
holds ρ (a :≤ b) = eval ρ a ≤ℤ eval ρ b
holds ρ (a :< b) = eval ρ a <ℤ eval ρ b
holds ρ (a :≡ b) = eval ρ a ≡ eval ρ b
holds ρ (a :≢ b) = eval ρ a ≡ eval ρ b → ⊥
holds ρ :⊥ = ⊥

-- a hypothesis for each
abbrev pub All : List ℤ → List Stmt → Type 0
All ρ [] = Unit {0}
All ρ (s ∷ H) = holds ρ s × All ρ H

abbrev pub Entails : List ℤ → List Stmt → Stmt → Type 0
Entails ρ [] g = holds ρ g
Entails ρ (s ∷ H) g = holds ρ s → Entails ρ H g

-- what a statement makes not negative: right − left
abbrev pub diff : Stmt → Expr
diff (a :≤ b) = b :- a
diff (a :< b) = b :- a
diff (a :≡ b) = b :- a
diff (a :≢ b) = lit (pos 0)
diff :⊥ = lit (pos 0)

-- and one less where it is strict
abbrev pub tight_of : Stmt → Expr
tight_of (a :≤ b) = b :- a
tight_of (a :< b) = b :- a :- lit (pos 1)
tight_of (a :≡ b) = b :- a
tight_of (a :≢ b) = lit (pos 0)
tight_of :⊥ = lit (pos 0)

-- what an equation makes 0
abbrev pub eqn_of : Stmt → Expr
eqn_of (a :≤ b) = lit (pos 0)
eqn_of (a :< b) = lit (pos 0)
eqn_of (a :≡ b) = b :- a
eqn_of (a :≢ b) = lit (pos 0)
eqn_of :⊥ = lit (pos 0)

abbrev pub strict_of : Stmt → Bool
strict_of (a :≤ b) = false
strict_of (a :< b) = true
strict_of (a :≡ b) = false
strict_of (a :≢ b) = false
strict_of :⊥ = false

-- hypothesis i, or 0 ≤ 0 past the last
abbrev pub at : ℕ → List Stmt → Stmt
at i [] = lit (pos 0) :≤ lit (pos 0)
at zero (s ∷ H) = s
at (suc i) (s ∷ H) = at i H

-- what is not negative because of the hypotheses
infixl 75 ◌⊞◌
infixl 80 ◌⊠◌
pub data Cert : Type 0 where
  hyp : ℕ → Cert
  tight : ℕ → Cert
  num : ℕ → Cert
  sq : Expr → Cert
  eqn : ℕ → Expr → Cert
  ◌⊞◌ : Cert → Cert → Cert
  ◌⊠◌ : Cert → Cert → Cert

abbrev pub to_e : List Stmt → Cert → Expr
to_e H (hyp i) = diff (at i H)
to_e H (tight i) = tight_of (at i H)
to_e H (num n) = lit (pos n)
to_e H (sq e) = e :* e
to_e H (eqn i e) = eqn_of (at i H) :* e
to_e H (c ⊞ d) = to_e H c :+ to_e H d
to_e H (c ⊠ d) = to_e H c :* to_e H d

abbrev pub either : Bool → Bool → Bool
either true b = true
either false b = b

abbrev pub nonzero : ℕ → Bool
nonzero zero = false
nonzero (suc n) = true

abbrev pub strict : List Stmt → Cert → Bool
strict H (hyp i) = strict_of (at i H)
strict H (tight i) = false
strict H (num n) = nonzero n
strict H (sq e) = false
strict H (eqn i e) = false
strict H (c ⊞ d) = either (strict H c) (strict H d)
strict H (c ⊠ d) = both (strict H c) (strict H d)

-- made of equations alone
abbrev pub null : Cert → Bool
null (hyp i) = false
null (tight i) = false
null (num n) = false
null (sq e) = false
null (eqn i e) = true
null (c ⊞ d) = both (null c) (null d)
null (c ⊠ d) = either (null c) (null d)

abbrev pub Check : List Stmt → Stmt → Cert → Cert → Bool
Check H (a :≤ b) m c = both (strict H m) (zero? (normal (to_e H m :* (b :- a) :- to_e H c)))
Check H (a :< b) m c = both (strict H m) (both (strict H c) (zero? (normal (to_e H m :* (b :- a) :- to_e H c))))
Check H (a :≡ b) m c = both (strict H m) (both (null c) (zero? (normal (to_e H m :* (b :- a) :- to_e H c))))
Check H (a :≢ b) m c = false
Check H :⊥ m c = both (strict H c) (zero? (normal (to_e H c)))

-- ---- it is sound
at_ok : (ρ : List ℤ) (i : ℕ) (H : List Stmt) → All ρ H → holds ρ (at i H)
at_ok ρ i [] t = ≤ℤ_refl (pos 0)
at_ok ρ zero (s ∷ H) t = t.0
at_ok ρ (suc i) (s ∷ H) t = at_ok ρ i H t.1

self-zero : (x y : ℤ) → x ≡ y → y -ℤ x ≡ pos 0
self-zero x y e = omega (ints, parts-sub y x)

hyp-ok : (ρ : List ℤ) (s : Stmt) → holds ρ s → pos 0 ≤ℤ eval ρ (diff s)
hyp-ok ρ (a :≤ b) h = sub-nonneg h
hyp-ok ρ (a :< b) h = sub-nonneg (<ℤ→≤ℤ h)
hyp-ok ρ (a :≡ b) h = sub-nonneg (≤ℤ_of_≡ h)
hyp-ok ρ (a :≢ b) h = ≤ℤ_refl (pos 0)
hyp-ok ρ :⊥ h = absurd h

hyp-strict : (ρ : List ℤ) (s : Stmt) → holds ρ s → T (strict_of s) → pos 0 <ℤ eval ρ (diff s)
hyp-strict ρ (a :≤ b) h t = absurd t
hyp-strict ρ (a :< b) h t = sub-pos h
hyp-strict ρ (a :≡ b) h t = absurd t
hyp-strict ρ (a :≢ b) h t = absurd t
hyp-strict ρ :⊥ h t = absurd h

tight-sub : (x y : ℤ) → x <ℤ y → pos 0 ≤ℤ (y -ℤ x -ℤ pos 1)
tight-sub x y h = omega (ints, parts-sub y x, parts-sub (y -ℤ x) (pos 1))

tight-ok : (ρ : List ℤ) (s : Stmt) → holds ρ s → pos 0 ≤ℤ eval ρ (tight_of s)
tight-ok ρ (a :≤ b) h = sub-nonneg h
tight-ok ρ (a :< b) h = tight-sub (eval ρ a) (eval ρ b) h
tight-ok ρ (a :≡ b) h = sub-nonneg (≤ℤ_of_≡ h)
tight-ok ρ (a :≢ b) h = ≤ℤ_refl (pos 0)
tight-ok ρ :⊥ h = absurd h

eqn-ok : (ρ : List ℤ) (s : Stmt) → holds ρ s → eval ρ (eqn_of s) ≡ pos 0
eqn-ok ρ (a :≤ b) h = refl
eqn-ok ρ (a :< b) h = refl
eqn-ok ρ (a :≡ b) h = self-zero (eval ρ a) (eval ρ b) h
eqn-ok ρ (a :≢ b) h = refl
eqn-ok ρ :⊥ h = refl

zero-mul : (x y : ℤ) → x ≡ pos 0 → x *ℤ y ≡ pos 0
zero-mul x y e = ap (λ z. z *ℤ y) e ∙ zero-*ℤ y

mul-zero : (x y : ℤ) → y ≡ pos 0 → x *ℤ y ≡ pos 0
mul-zero x y e = ap (λ z. x *ℤ z) e ∙ *ℤ-zero x

≤-zero : {x : ℤ} → x ≡ pos 0 → pos 0 ≤ℤ x
≤-zero e = omega ints

add-nonneg : {x y : ℤ} → pos 0 ≤ℤ x → pos 0 ≤ℤ y → pos 0 ≤ℤ (x +ℤ y)
add-nonneg {x} {y} h k = omega (ints, parts_add x y)

add-pos_l : {x y : ℤ} → pos 0 <ℤ x → pos 0 ≤ℤ y → pos 0 <ℤ (x +ℤ y)
add-pos_l {x} {y} h k = omega (ints, parts_add x y)

add_pos_r : {x y : ℤ} → pos 0 ≤ℤ x → pos 0 <ℤ y → pos 0 <ℤ (x +ℤ y)
add_pos_r {x} {y} h k = omega (ints, parts_add x y)

num-nonneg : (n : ℕ) → pos 0 ≤ℤ pos n
num-nonneg n = omega ints

num_pos : (n : ℕ) → T (nonzero n) → pos 0 <ℤ pos n
num_pos zero t = absurd t
num_pos (suc n) t = omega ints

module _ (ρ : List ℤ) (H : List Stmt) (all : All ρ H) where
  nonneg : (c : Cert) → pos 0 ≤ℤ eval ρ (to_e H c)
  nonneg (hyp i) = hyp-ok ρ (at i H) (at_ok ρ i H all)
  nonneg (tight i) = tight-ok ρ (at i H) (at_ok ρ i H all)
  nonneg (num n) = num-nonneg n
  nonneg (sq e) = square-nonneg (eval ρ e)
  nonneg (eqn i e) = ≤-zero (zero-mul (eval ρ (eqn_of (at i H))) (eval ρ e) (eqn-ok ρ (at i H) (at_ok ρ i H all)))
  nonneg (c ⊞ d) = add-nonneg (nonneg c) (nonneg d)
  nonneg (c ⊠ d) = mul-nonneg (nonneg c) (nonneg d)

  sum_pos : (a b : Bool) (x y : ℤ) → pos 0 ≤ℤ x → pos 0 ≤ℤ y → (T a → pos 0 <ℤ x) → (T b → pos 0 <ℤ y) → T (either a b) → pos 0 <ℤ (x +ℤ y)
  sum_pos true b x y h k f g t = add-pos_l (f tt) k
  sum_pos false b x y h k f g t = add_pos_r h (g t)

  positive : (c : Cert) → T (strict H c) → pos 0 <ℤ eval ρ (to_e H c)
  positive (hyp i) t = hyp-strict ρ (at i H) (at_ok ρ i H all) t
  positive (tight i) t = absurd t
  positive (num n) t = num_pos n t
  positive (sq e) t = absurd t
  positive (eqn i e) t = absurd t
  positive (c ⊞ d) t = sum_pos (strict H c) (strict H d) _ _ (nonneg c) (nonneg d) (positive c) (positive d) t
  positive (c ⊠ d) t = mul-pos (positive c (both_l (strict H c) (strict H d) t)) (positive d (both_r (strict H c) (strict H d) t))

  prod-zero : (a b : Bool) (x y : ℤ) → (T a → x ≡ pos 0) → (T b → y ≡ pos 0) → T (either a b) → x *ℤ y ≡ pos 0
  prod-zero true b x y f g t = zero-mul x y (f tt)
  prod-zero false b x y f g t = mul-zero x y (g t)

  is_null : (c : Cert) → T (null c) → eval ρ (to_e H c) ≡ pos 0
  is_null (hyp i) t = absurd t
  is_null (tight i) t = absurd t
  is_null (num n) t = absurd t
  is_null (sq e) t = absurd t
  is_null (eqn i e) t = zero-mul (eval ρ (eqn_of (at i H))) (eval ρ e) (eqn-ok ρ (at i H) (at_ok ρ i H all))
  is_null (c ⊞ d) t = ap₂ (λ x y. x +ℤ y) (is_null c (both_l (null c) (null d) t)) (is_null d (both_r (null c) (null d) t))
  is_null (c ⊠ d) t = prod-zero (null c) (null d) _ _ (is_null c) (is_null d) t

  pub certified : (g : Stmt) (m c : Cert) → T (Check H g m c) → holds ρ g
  certified (a :≤ b) m c t =
      nonneg-sub (pos_cancel_≤ {x = eval ρ (b :- a)} (positive m (both_l (strict H m) _ t))
      (subst (λ z. pos 0 ≤ℤ z) (sym (ring ρ (to_e H m :* (b :- a)) (to_e H c) (both_r (strict H m) _ t))) (nonneg c)))
  certified (a :< b) m c t =
      let u = both_r (strict H m) _ t in
      pos-sub (pos_cancel_< {x = eval ρ (b :- a)} (positive m (both_l (strict H m) _ t))
      (subst (λ z. pos 0 <ℤ z) (sym (ring ρ (to_e H m :* (b :- a)) (to_e H c) (both_r (strict H c) _ u))) (positive c (both_l (strict H c) _ u))))
  certified (a :≡ b) m c t =
      let u = both_r (strict H m) _ t in
      let e = ring ρ (to_e H m :* (b :- a)) (to_e H c) (both_r (null c) _ u) ∙ is_null c (both_l (null c) _ u) in
      sym (diff-zero (eval ρ b) (eval ρ a) (pos_cancel_≡ {x = eval ρ (b :- a)} (positive m (both_l (strict H m) _ t)) e))
  certified (a :≢ b) m c t = absurd t
  certified :⊥ m c t =
      <ℤ_irrefl (subst (λ z. pos 0 <ℤ z) (poly_zero ρ (to_e H c) (both_r (strict H c) _ t)) (positive c (both_l (strict H c) _ t)))

curry : (ρ : List ℤ) (H : List Stmt) (g : Stmt) → (All ρ H → holds ρ g) → Entails ρ H g
curry ρ [] g f = f tt
curry ρ (s ∷ H) g f = λ h. curry ρ H g (λ all. f (h, all))

pub certify : (ρ : List ℤ) (H : List Stmt) (g : Stmt) (m c : Cert) → T (Check H g m c) → Entails ρ H g
certify ρ H g m c t = curry ρ H g (λ all. certified ρ H all g m c t)
