-- The tools that prove a fact over ℤ. Each takes ρ, the integers that the fact speaks of, reads the statement k by `search claims` (`Facts` lists the statements that it reads), and is told how to prove it.
--
--     linear! ρ k n          a fact that is linear in its monomials, once multiplied out; n is `omega arith`, which finds the facts of ℕ in scope by itself
--     polynomial! ρ k n      the same, where a reader is to see that products are multiplied out
--     certify! ρ k m c tt    a polynomial fact by a certificate: m · (right − left) = c, in the words of `Certificates`
--     linear_from!, polynomial_from!, certify_from!   the same in the middle of a proof, from facts in hand, after ρ: `h₁ & h₂ & ..`, or `no_facts`
--
-- Examples:
--     linear! (a ∷ b ∷ c ∷ []) (search claims depth 30) (omega arith) : a ≤ℤ b → b <ℤ c → (a +ℤ a -ℤ c) <ℤ b
--     linear! (a ∷ pos i ∷ []) (search claims depth 30) (omega arith) : pos i ≤ℤ a → (pos 0 ≤ℤ a) × ((pos i -ℤ a) ≤ℤ pos 0)
--     linear_from! (a ∷ b ∷ c ∷ []) (h & k) (search claims depth 30) (omega arith) : (a ≤ℤ c) × (b ≤ℤ c)
--     polynomial! (a ∷ b ∷ z ∷ []) (search claims depth 40) (omega arith) : pos 0 ≤ℤ ((b -ℤ a) *ℤ z) → (a *ℤ z) ≤ℤ (b *ℤ z)
--     certify! (a ∷ b ∷ c ∷ d ∷ []) (search claims depth 40) (num 1) (hyp 0 ⊠ hyp 1) tt : a ≤ℤ b → c ≤ℤ d → (b *ℤ c +ℤ a *ℤ d) ≤ℤ (a *ℤ c +ℤ b *ℤ d)
-- A goal that is a product is proved whole by `linear!`; `certify!` proves one part at a time. A certificate counts the hypotheses from 0, the parts of a product one by one. Where it is wrong the checker says ⊥ against Unit at the `tt`.
-- Assumes nothing.
use Rattle.std.specs.Prelude.{◌≡◌, Bool, true, false, List, [], ◌∷◌, ℕ, zero, suc, ◌+◌, ◌*◌, ◌≤◌, ◌<◌, T, ℤ, pos, negsuc, ◌+ℤ◌, ◌-ℤ◌, ◌*ℤ◌}
use Rattle.std.proofs.Common.{sym, ◌∙◌, subst, arith}
use Rattle.std.proofs.Math.Dec.{when}
use Rattle.integers.specs.Parts.{pos_part, neg_part, parts_add, parts-sub, parts-mul, ≤_fromℕ, <_fromℕ, ≡_fromℕ, ≤_toℕ, <_toℕ, ≡_toℕ}
use Rattle.integers.specs.RingSolver.{Expr, ◌:-◌, eval, head_or0, tail_of, Poly, con, node, eval_poly, normal, normal-ok, one-*ℤ, both, both_l, both_r}
use Rattle.integers.specs.Quotes.{quotes, ring!, pure?, code_ok}
use Rattle.integers.specs.Certificates.{Stmt, ◌:≤◌, ◌:<◌, ◌:≡◌, ◌:≢◌, :⊥, Cert, holds}
pub use Rattle.integers.specs.Facts.{◌&◌, And, no_facts, NoFacts, Claim, claims}
use Rattle.integers.specs.Forms.{Form, Left, Means, means, entail, CheckForm, certified_form}
use Rattle.integers.specs.Facts.{Checks, Reading, hyps, goal, sure, claim}

-- ---- an atom as `omega` reads it: right − left in normal form, over the positive and the negative parts of its monomials, in ℕ. M is the monomial's value so far
abbrev mutual
  pub pos_m : List ℤ → ℤ → Poly → ℕ
  pos_m ρ M (con (pos zero)) = 0
  pos_m ρ M (con (pos (suc n))) = suc n * pos_part M
  pos_m ρ M (con (negsuc n)) = suc n * neg_part M
  pos_m ρ M (node p q) = pos_m (tail_of ρ) M p + pos_m ρ (M *ℤ head_or0 ρ) q

  pub neg_m : List ℤ → ℤ → Poly → ℕ
  neg_m ρ M (con (pos zero)) = 0
  neg_m ρ M (con (pos (suc n))) = suc n * neg_part M
  neg_m ρ M (con (negsuc n)) = suc n * pos_part M
  neg_m ρ M (node p q) = neg_m (tail_of ρ) M p + neg_m ρ (M *ℤ head_or0 ρ) q

abbrev pub InNormal : List ℤ → Stmt → Type 0
InNormal ρ (a :≤ b) = neg_m ρ (pos 1) (normal (b :- a)) ≤ pos_m ρ (pos 1) (normal (b :- a))
InNormal ρ (a :< b) = neg_m ρ (pos 1) (normal (b :- a)) < pos_m ρ (pos 1) (normal (b :- a))
InNormal ρ (a :≡ b) = neg_m ρ (pos 1) (normal (b :- a)) ≡ pos_m ρ (pos 1) (normal (b :- a))
InNormal ρ (a :≢ b) = neg_m ρ (pos 1) (normal (b :- a)) ≡ pos_m ρ (pos 1) (normal (b :- a)) → ⊥
InNormal ρ :⊥ = ⊥

spread : (M x p q : ℤ) → M *ℤ (p +ℤ x *ℤ q) ≡ M *ℤ p +ℤ (M *ℤ x) *ℤ q
spread M x p q = ring! (M ∷ x ∷ p ∷ q ∷ []) (search quotes depth 20) (search quotes depth 20) tt

poly_parts : (ρ : List ℤ) (M : ℤ) (p : Poly) → pos_part (M *ℤ eval_poly ρ p) + neg_m ρ M p ≡ neg_part (M *ℤ eval_poly ρ p) + pos_m ρ M p
poly_parts ρ M (con (pos zero)) = omega (arith, parts-mul M (pos 0))
poly_parts ρ M (con (pos (suc n))) = omega (arith, parts-mul M (pos (suc n)))
poly_parts ρ M (con (negsuc n)) = omega (arith, parts-mul M (negsuc n))
poly_parts ρ M (node p q) =
    subst (λ z. pos_part z + neg_m ρ M (node p q) ≡ neg_part z + pos_m ρ M (node p q)) (sym (spread M (head_or0 ρ) (eval_poly (tail_of ρ) p) (eval_poly ρ q)))
    (omega (arith, parts_add (M *ℤ eval_poly (tail_of ρ) p) ((M *ℤ head_or0 ρ) *ℤ eval_poly ρ q), poly_parts (tail_of ρ) M p, poly_parts ρ (M *ℤ head_or0 ρ) q))

-- of a difference
diff-parts : (ρ : List ℤ) (a b : Expr) → pos_part (eval ρ b) + neg_part (eval ρ a) + neg_m ρ (pos 1) (normal (b :- a)) ≡ pos_part (eval ρ a) + neg_part (eval ρ b) + pos_m ρ (pos 1) (normal (b :- a))
diff-parts ρ a b =
    let e : pos 1 *ℤ eval_poly ρ (normal (b :- a)) ≡ eval ρ b -ℤ eval ρ a = one-*ℤ (eval_poly ρ (normal (b :- a))) ∙ normal-ok ρ (b :- a) in
    omega (arith, poly_parts ρ (pos 1) (normal (b :- a)), ≡_toℕ e, parts-sub (eval ρ b) (eval ρ a))

from_normal : (ρ : List ℤ) (s : Stmt) → InNormal ρ s → holds ρ s
from_normal ρ (a :≤ b) h = ≤_fromℕ _ _ (omega (arith, diff-parts ρ a b))
from_normal ρ (a :< b) h = <_fromℕ _ _ (omega (arith, diff-parts ρ a b))
from_normal ρ (a :≡ b) h = ≡_fromℕ _ _ (omega (arith, diff-parts ρ a b))
from_normal ρ (a :≢ b) h = λ e. h (omega (arith, diff-parts ρ a b, ≡_toℕ e))
from_normal ρ :⊥ h = h

to_normal : (ρ : List ℤ) (s : Stmt) → holds ρ s → InNormal ρ s
to_normal ρ (a :≤ b) h = omega (arith, diff-parts ρ a b, ≤_toℕ h)
to_normal ρ (a :< b) h = omega (arith, diff-parts ρ a b, <_toℕ h)
to_normal ρ (a :≡ b) h = omega (arith, diff-parts ρ a b, ≡_toℕ h)
to_normal ρ (a :≢ b) h = λ e. h (≡_fromℕ _ _ (omega (arith, diff-parts ρ a b)))
to_normal ρ :⊥ h = h

-- what is left of a statement, for `omega`
abbrev pub Linear : List ℤ → List Form → Form → Type 0
Linear ρ H g = Left (InNormal ρ) H g

pub by_linear : (ρ : List ℤ) (H : List Form) (g : Form) → Linear ρ H g → Means ρ H → means ρ g
by_linear ρ H g n = entail ρ (InNormal ρ) (from_normal ρ) (to_normal ρ) H g n

-- ---- the tools
-- integers as they are written, with no read of a machine among them
abbrev pub pure : (ρ : List ℤ) → Checks ρ
pure ρ = record { known? = pure?; fits? = λ w q. false }

reading : (ρ : List ℤ) → Reading ρ (pure ρ)
reading ρ = record { is = code_ok; fits = λ w q k t. absurd t }

-- the test passed, and what stands under it
passed : (b : Bool) (X : Type 0) → when b X → T b × X
passed true X x = (tt, x)
passed false X x = absurd x

pub linear! : (ρ : List ℤ) {X : Type 0} (k : Claim ρ X) → when (sure (pure ρ) k) (Linear ρ (hyps k) (goal k)) → X
linear! ρ k n = let s = passed (sure (pure ρ) k) (Linear ρ (hyps k) (goal k)) n in claim (reading ρ) k s.0 (by_linear ρ (hyps k) (goal k) s.1)

pub linear_from! : (ρ : List ℤ) {H G : Type 0} (h : H) (k : Claim ρ (H → G)) → when (sure (pure ρ) k) (Linear ρ (hyps k) (goal k)) → G
linear_from! ρ h k n = linear! ρ k n h

-- the same, for a reader who is to see that products are multiplied out
pub polynomial! : (ρ : List ℤ) {X : Type 0} (k : Claim ρ X) → when (sure (pure ρ) k) (Linear ρ (hyps k) (goal k)) → X
polynomial! = linear!

pub polynomial_from! : (ρ : List ℤ) {H G : Type 0} (h : H) (k : Claim ρ (H → G)) → when (sure (pure ρ) k) (Linear ρ (hyps k) (goal k)) → G
polynomial_from! = linear_from!

pub certify! : (ρ : List ℤ) {X : Type 0} (k : Claim ρ X) (m c : Cert) → T (both (sure (pure ρ) k) (CheckForm (hyps k) (goal k) m c)) → X
certify! ρ k m c t =
    claim (reading ρ) k (both_l (sure (pure ρ) k) (CheckForm (hyps k) (goal k) m c) t)
    (certified_form ρ (hyps k) (goal k) m c (both_r (sure (pure ρ) k) (CheckForm (hyps k) (goal k) m c) t))

pub certify_from! : (ρ : List ℤ) {H G : Type 0} (h : H) (k : Claim ρ (H → G)) (m c : Cert) → T (both (sure (pure ρ) k) (CheckForm (hyps k) (goal k) m c)) → G
certify_from! ρ h k m c t = certify! ρ k m c t h
