-- A decision procedure for identities of commutative rings over ℤ, by computation. A polynomial is brought to a normal form, and two polynomials are equal where their difference has the normal form 0.
--
--     Expr, var, lit, _:+_, _:-_, _:*_, :neg   a polynomial as it is written, over variables by index
--     eval ρ e                                 its value where ρ lists the variables' values
--     Poly, con, node, normal                  normal forms: `node p q` at x ∷ ρ is p(ρ) + x · q(x ∷ ρ)
--     eval_poly, normal-ok                      a normal form's value, which is the expression's
--     zero?, both, both_l, both_r              the test for 0, and the conjunction it is made with
--     poly_zero, ring                          an expression that is 0, and two that are equal, at every ρ
--     one-*ℤ, diff-zero                        1 · x = x, and x = y from x − y = 0
--
-- Example: `ring (a ∷ b ∷ []) ((var 0 :+ var 1) :* (var 0 :- var 1)) (var 0 :* var 0 :- var 1 :* var 1) tt : (a +ℤ b) *ℤ (a -ℤ b) ≡ a *ℤ a -ℤ b *ℤ b`. `ring!` of `Quotes` writes the expressions by itself.
-- Assumes nothing.
use Rattle.std.specs.Prelude.{◌≡◌, refl, Bool, true, false, List, [], ◌∷◌, ℕ, zero, suc, T, ℤ, pos, negsuc, neg_ℤ, ◌+ℤ◌, ◌-ℤ◌, ◌*ℤ◌}
use Rattle.std.proofs.Common.{sym, ◌∙◌, ap, ap₂, arith}
use Rattle.std.proofs.Math.IntN.{+ℤ_idl, +ℤ_idr, +ℤ_assoc, +ℤ_comm, *ℤ_comm, zero-*ℤ, *ℤ-zero}
use Rattle.integers.specs.Parts.{≡_fromℕ, parts-sub, parts-mul, ≡_toℕ}
use Rattle.integers.specs.RingLaws.{⊖-ind, ⊖-eq, ⊖-+, ⊖-*, ⊖-neg}

infixl 75 ◌:+◌ ◌:-◌
infixl 80 ◌:*◌
pub data Expr : Type 0 where
  var : ℕ → Expr
  lit : ℤ → Expr
  ◌:+◌ : Expr → Expr → Expr
  ◌:-◌ : Expr → Expr → Expr
  ◌:*◌ : Expr → Expr → Expr
  :neg : Expr → Expr

abbrev pub head_or0 : List ℤ → ℤ
head_or0 [] = pos zero
head_or0 (x ∷ ρ) = x

abbrev pub tail_of : List ℤ → List ℤ
tail_of [] = []
tail_of (x ∷ ρ) = ρ

abbrev pub lookup : ℕ → List ℤ → ℤ
lookup zero ρ = head_or0 ρ
lookup (suc i) ρ = lookup i (tail_of ρ)

abbrev pub eval : List ℤ → Expr → ℤ
eval ρ (var i) = lookup i ρ
eval ρ (lit c) = c
eval ρ (a :+ b) = eval ρ a +ℤ eval ρ b
eval ρ (a :- b) = eval ρ a -ℤ eval ρ b
eval ρ (a :* b) = eval ρ a *ℤ eval ρ b
eval ρ (:neg a) = neg_ℤ (eval ρ a)

-- ---- normal forms
pub data Poly : Type 0 where
  con : ℤ → Poly
  node : Poly → Poly → Poly

abbrev pub eval_poly : List ℤ → Poly → ℤ
eval_poly ρ (con c) = c
eval_poly ρ (node p q) = eval_poly (tail_of ρ) p +ℤ head_or0 ρ *ℤ eval_poly ρ q

-- c + x · q, without the second part where q is 0
abbrev pub add_const : ℤ → Poly → Poly
add_const c (con (pos zero)) = con c
add_const c (con (pos (suc n))) = node (con c) (con (pos (suc n)))
add_const c (con (negsuc n)) = node (con c) (con (negsuc n))
add_const c (node p q) = node (con c) (node p q)

abbrev pub poly_node : Poly → Poly → Poly
poly_node (con c) q = add_const c q
poly_node (node p p') q = node (node p p') q

abbrev pub plus_const : ℤ → Poly → Poly
plus_const c (con d) = con (c +ℤ d)
plus_const c (node p q) = node (plus_const c p) q

abbrev pub plus_poly : Poly → Poly → Poly
plus_poly (con c) r = plus_const c r
plus_poly (node p q) (con d) = node (plus_const d p) q
plus_poly (node p q) (node p' q') = poly_node (plus_poly p p') (plus_poly q q')

abbrev pub map_coeffs : (ℤ → ℤ) → Poly → Poly
map_coeffs f (con d) = con (f d)
map_coeffs f (node p q) = node (map_coeffs f p) (map_coeffs f q)

abbrev pub scale_poly : ℤ → Poly → Poly
scale_poly (pos zero) r = con (pos zero)
scale_poly (pos (suc n)) r = map_coeffs (λ d. pos (suc n) *ℤ d) r
scale_poly (negsuc n) r = map_coeffs (λ d. negsuc n *ℤ d) r

abbrev pub times_each : (Poly → Poly) → Poly → Poly
times_each f (con d) = poly_node (f (con d)) (con (pos zero))
times_each f (node r s) = poly_node (f r) (times_each f s)

abbrev pub times_poly : Poly → Poly → Poly
times_poly (con c) r = scale_poly c r
times_poly (node p q) r = plus_poly (times_each (times_poly p) r) (add_const (pos zero) (times_poly q r))

abbrev pub var_poly : ℕ → Poly
var_poly zero = node (con (pos 0)) (con (pos 1))
var_poly (suc i) = node (var_poly i) (con (pos 0))

abbrev pub normal : Expr → Poly
normal (var i) = var_poly i
normal (lit c) = con c
normal (a :+ b) = plus_poly (normal a) (normal b)
normal (a :- b) = plus_poly (normal a) (map_coeffs neg_ℤ (normal b))
normal (a :* b) = times_poly (normal a) (normal b)
normal (:neg a) = map_coeffs neg_ℤ (normal a)

abbrev pub both : Bool → Bool → Bool
both true b = b
both false b = false

abbrev pub zero? : Poly → Bool
zero? (con (pos zero)) = true
zero? (con (pos (suc n))) = false
zero? (con (negsuc n)) = false
zero? (node p q) = both (zero? p) (zero? q)

-- ---- it is sound
pub one-*ℤ : (x : ℤ) → pos 1 *ℤ x ≡ x
one-*ℤ x = ≡_fromℕ (pos 1 *ℤ x) x (omega (arith, parts-mul (pos 1) x))

-- what the solver's steps do to a node's value p + x · q
node-plus : (p x q p' q' : ℤ) → (p +ℤ p') +ℤ x *ℤ (q +ℤ q') ≡ p +ℤ x *ℤ q +ℤ (p' +ℤ x *ℤ q')
node-plus = ⊖-ind _ λ a b. ⊖-ind _ λ c d. ⊖-ind _ λ e f. ⊖-ind _ λ g h. ⊖-ind _ λ i j. simp (⊖-*, ⊖-+) (⊖-eq _ _ _ _ (omega arith))

node-scale : (k p x q : ℤ) → k *ℤ p +ℤ x *ℤ (k *ℤ q) ≡ k *ℤ (p +ℤ x *ℤ q)
node-scale = ⊖-ind _ λ a b. ⊖-ind _ λ c d. ⊖-ind _ λ e f. ⊖-ind _ λ g h. simp (⊖-*, ⊖-+) (⊖-eq _ _ _ _ (omega arith))

node-times : (p x q r : ℤ) → p *ℤ r +ℤ x *ℤ (q *ℤ r) ≡ (p +ℤ x *ℤ q) *ℤ r
node-times = ⊖-ind _ λ a b. ⊖-ind _ λ c d. ⊖-ind _ λ e f. ⊖-ind _ λ g h. simp (⊖-*, ⊖-+) (⊖-eq _ _ _ _ (omega arith))

node-neg : (p x q : ℤ) → neg_ℤ p +ℤ x *ℤ neg_ℤ q ≡ neg_ℤ (p +ℤ x *ℤ q)
node-neg = ⊖-ind _ λ a b. ⊖-ind _ λ c d. ⊖-ind _ λ e f. simp (⊖-*, ⊖-+, ⊖-neg) (⊖-eq _ _ _ _ (omega arith))

plus-times-zero : (p x : ℤ) → p ≡ p +ℤ x *ℤ pos 0
plus-times-zero p x = sym (ap (λ z. p +ℤ z) (*ℤ-zero x) ∙ +ℤ_idr p)

add_const-ok : (ρ : List ℤ) (c : ℤ) (q : Poly) → eval_poly ρ (add_const c q) ≡ c +ℤ head_or0 ρ *ℤ eval_poly ρ q
add_const-ok ρ c (con (pos zero)) = plus-times-zero c (head_or0 ρ)
add_const-ok ρ c (con (pos (suc n))) = refl
add_const-ok ρ c (con (negsuc n)) = refl
add_const-ok ρ c (node p q) = refl

poly_node-ok : (ρ : List ℤ) (p q : Poly) → eval_poly ρ (poly_node p q) ≡ eval_poly (tail_of ρ) p +ℤ head_or0 ρ *ℤ eval_poly ρ q
poly_node-ok ρ (con c) q = add_const-ok ρ c q
poly_node-ok ρ (node p p') q = refl

plus_const-ok : (ρ : List ℤ) (c : ℤ) (p : Poly) → eval_poly ρ (plus_const c p) ≡ c +ℤ eval_poly ρ p
plus_const-ok ρ c (con d) = refl
plus_const-ok ρ c (node p q) = ap (λ z. z +ℤ head_or0 ρ *ℤ eval_poly ρ q) (plus_const-ok (tail_of ρ) c p) ∙ +ℤ_assoc c (eval_poly (tail_of ρ) p) (head_or0 ρ *ℤ eval_poly ρ q)

plus_poly-ok : (ρ : List ℤ) (p q : Poly) → eval_poly ρ (plus_poly p q) ≡ eval_poly ρ p +ℤ eval_poly ρ q
plus_poly-ok ρ (con c) q = plus_const-ok ρ c q
plus_poly-ok ρ (node p q) (con d) = plus_const-ok ρ d (node p q) ∙ +ℤ_comm d (eval_poly ρ (node p q))
plus_poly-ok ρ (node p q) (node p' q') =
    poly_node-ok ρ (plus_poly p p') (plus_poly q q') ∙ ap₂ (λ a b. a +ℤ head_or0 ρ *ℤ b) (plus_poly-ok (tail_of ρ) p p') (plus_poly-ok ρ q q')
    ∙ node-plus (eval_poly (tail_of ρ) p) (head_or0 ρ) (eval_poly ρ q) (eval_poly (tail_of ρ) p') (eval_poly ρ q')

map_coeffs_scale_ok : (k : ℤ) (ρ : List ℤ) (p : Poly) → eval_poly ρ (map_coeffs (λ d. k *ℤ d) p) ≡ k *ℤ eval_poly ρ p
map_coeffs_scale_ok k ρ (con d) = refl
map_coeffs_scale_ok k ρ (node p q) = ap₂ (λ a b. a +ℤ head_or0 ρ *ℤ b) (map_coeffs_scale_ok k (tail_of ρ) p) (map_coeffs_scale_ok k ρ q) ∙ node-scale k (eval_poly (tail_of ρ) p) (head_or0 ρ) (eval_poly ρ q)

map_coeffs_neg_ok : (ρ : List ℤ) (p : Poly) → eval_poly ρ (map_coeffs neg_ℤ p) ≡ neg_ℤ (eval_poly ρ p)
map_coeffs_neg_ok ρ (con d) = refl
map_coeffs_neg_ok ρ (node p q) = ap₂ (λ a b. a +ℤ head_or0 ρ *ℤ b) (map_coeffs_neg_ok (tail_of ρ) p) (map_coeffs_neg_ok ρ q) ∙ node-neg (eval_poly (tail_of ρ) p) (head_or0 ρ) (eval_poly ρ q)

scale_poly-ok : (c : ℤ) (ρ : List ℤ) (p : Poly) → eval_poly ρ (scale_poly c p) ≡ c *ℤ eval_poly ρ p
scale_poly-ok (pos zero) ρ p = sym (zero-*ℤ (eval_poly ρ p))
scale_poly-ok (pos (suc n)) ρ p = map_coeffs_scale_ok (pos (suc n)) ρ p
scale_poly-ok (negsuc n) ρ p = map_coeffs_scale_ok (negsuc n) ρ p

times_each-ok : (ρ : List ℤ) (k : ℤ) (f : Poly → Poly) → ((r : Poly) → eval_poly (tail_of ρ) (f r) ≡ k *ℤ eval_poly (tail_of ρ) r) → (r : Poly) → eval_poly ρ (times_each f r) ≡ k *ℤ eval_poly ρ r
times_each-ok ρ k f h (con d) = poly_node-ok ρ (f (con d)) (con (pos zero)) ∙ sym (plus-times-zero (eval_poly (tail_of ρ) (f (con d))) (head_or0 ρ)) ∙ h (con d)
times_each-ok ρ k f h (node r s) = poly_node-ok ρ (f r) (times_each f s) ∙ ap₂ (λ a b. a +ℤ head_or0 ρ *ℤ b) (h r) (times_each-ok ρ k f h s) ∙ node-scale k (eval_poly (tail_of ρ) r) (head_or0 ρ) (eval_poly ρ s)

times_poly-ok : (ρ : List ℤ) (p q : Poly) → eval_poly ρ (times_poly p q) ≡ eval_poly ρ p *ℤ eval_poly ρ q
times_poly-ok ρ (con c) r = scale_poly-ok c ρ r
times_poly-ok ρ (node p q) r =
    plus_poly-ok ρ (times_each (times_poly p) r) (add_const (pos zero) (times_poly q r))
    ∙ ap₂ (λ a b. a +ℤ b) (times_each-ok ρ (eval_poly (tail_of ρ) p) (times_poly p) (times_poly-ok (tail_of ρ) p) r) (add_const-ok ρ (pos zero) (times_poly q r) ∙ +ℤ_idl (head_or0 ρ *ℤ eval_poly ρ (times_poly q r)) ∙ ap (λ z. head_or0 ρ *ℤ z) (times_poly-ok ρ q r))
    ∙ node-times (eval_poly (tail_of ρ) p) (head_or0 ρ) (eval_poly ρ q) (eval_poly ρ r)

var_poly-ok : (ρ : List ℤ) (i : ℕ) → eval_poly ρ (var_poly i) ≡ lookup i ρ
var_poly-ok ρ zero = +ℤ_idl (head_or0 ρ *ℤ pos 1) ∙ *ℤ_comm (head_or0 ρ) (pos 1) ∙ one-*ℤ (head_or0 ρ)
var_poly-ok ρ (suc i) = sym (plus-times-zero (eval_poly (tail_of ρ) (var_poly i)) (head_or0 ρ)) ∙ var_poly-ok (tail_of ρ) i

pub normal-ok : (ρ : List ℤ) (e : Expr) → eval_poly ρ (normal e) ≡ eval ρ e
normal-ok ρ (var i) = var_poly-ok ρ i
normal-ok ρ (lit c) = refl
normal-ok ρ (a :+ b) = plus_poly-ok ρ (normal a) (normal b) ∙ ap₂ (λ x y. x +ℤ y) (normal-ok ρ a) (normal-ok ρ b)
normal-ok ρ (a :- b) = plus_poly-ok ρ (normal a) (map_coeffs neg_ℤ (normal b)) ∙ ap₂ (λ x y. x +ℤ y) (normal-ok ρ a) (map_coeffs_neg_ok ρ (normal b) ∙ ap neg_ℤ (normal-ok ρ b))
normal-ok ρ (a :* b) = times_poly-ok ρ (normal a) (normal b) ∙ ap₂ (λ x y. x *ℤ y) (normal-ok ρ a) (normal-ok ρ b)
normal-ok ρ (:neg a) = map_coeffs_neg_ok ρ (normal a) ∙ ap neg_ℤ (normal-ok ρ a)

pub both_l : (a b : Bool) → T (both a b) → T a
both_l true b t = tt
both_l false b t = t

pub both_r : (a b : Bool) → T (both a b) → T b
both_r true b t = t
both_r false b t = absurd t

zero?-ok : (ρ : List ℤ) (p : Poly) → T (zero? p) → eval_poly ρ p ≡ pos 0
zero?-ok ρ (con (pos zero)) t = refl
zero?-ok ρ (con (pos (suc n))) t = absurd t
zero?-ok ρ (con (negsuc n)) t = absurd t
zero?-ok ρ (node p q) t =
    ap₂ (λ a b. a +ℤ head_or0 ρ *ℤ b) (zero?-ok (tail_of ρ) p (both_l (zero? p) (zero? q) t)) (zero?-ok ρ q (both_r (zero? p) (zero? q) t))
    ∙ +ℤ_idl (head_or0 ρ *ℤ pos 0) ∙ *ℤ-zero (head_or0 ρ)

pub diff-zero : (x y : ℤ) → x -ℤ y ≡ pos 0 → x ≡ y
diff-zero x y e = ≡_fromℕ x y (omega (arith, parts-sub x y, ≡_toℕ e))

pub poly_zero : (ρ : List ℤ) (e : Expr) → T (zero? (normal e)) → eval ρ e ≡ pos 0
poly_zero ρ e t = sym (normal-ok ρ e) ∙ zero?-ok ρ (normal e) t

pub ring : (ρ : List ℤ) (a b : Expr) → T (zero? (normal (a :- b))) → eval ρ a ≡ eval ρ b
ring ρ a b t = diff-zero (eval ρ a) (eval ρ b) (sym (normal-ok ρ (a :- b)) ∙ zero?-ok ρ (normal (a :- b)) t)
