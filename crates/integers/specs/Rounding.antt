-- The quotient rounded up, over ℤ, for a divisor above 0.
--
--     ceil_div x d                             x / d rounded up: the least t with x ≤ d · t
--     ceil_div_whole, ceil_div_up               it is the quotient where the remainder is not above 0, and else the quotient plus one
--     ceil_divℕ n d, ceil_divℕ-iff              the same of natural numbers
--
-- Example: ceil_div (pos 7) (pos 2) computes to 4, and ceil_div of −7 and 2 to −3. From h : pos 0 <ℤ p and k : x ≤ℤ (p *ℤ t), that ceil_div x p ≤ℤ t is `ceil_div_least x p h t k`. The first time at which a line reaches a value is in `Crossing`.
-- Further laws stand in proofs/Rounding.antt.
-- Assumes nothing.
use Rattle.std.specs.Prelude.{◌≡◌, refl, ◌↔◌, [], ◌∷◌, ℕ, suc, ◌+◌, ◌*◌, ◌-◌, ◌/◌, ◌<◌, ◌≤◌, ℤ, neg_ℤ, ◌+ℤ◌, ◌*ℤ◌, ◌≤ℤ◌, ◌<ℤ◌}
use Rattle.std.proofs.Common.{arith}
use Rattle.std.proofs.Math.Bool.{true, false}
use Rattle.std.proofs.Math.Nat as NatL
use Rattle.std.proofs.Math.IntN.{pos}
use Rattle.std.specs.Int.Signed.{lt_z, quot_z, rem_z}
use Rattle.integers.specs.OrderLaws.{≤ℤ-<ℤ-⊥, by_lt_z}
use Rattle.integers.specs.Certificates.{hyp, num, tight, ◌⊞◌, ◌⊠◌}
use Rattle.integers.specs.Solve.{claims, certify!, linear!, polynomial! }

unfoldable pub ceil_div : ℤ → ℤ → ℤ
ceil_div x d = elim (lt_z (pos 0) (rem_z x d)) [ true ↦ quot_z x d +ℤ pos 1 | false ↦ quot_z x d ]

-- x ≤ d · t < x + d, in terms of a quotient and a remainder
module _ (x d q r : ℤ) where
  pub up_reaches : q *ℤ d +ℤ r ≡ x → r <ℤ d → x ≤ℤ (d *ℤ (q +ℤ pos 1))
  up_reaches = polynomial! (x ∷ d ∷ q ∷ r ∷ []) (search claims depth 40) (omega arith)

  pub up_close : q *ℤ d +ℤ r ≡ x → pos 0 <ℤ r → (d *ℤ (q +ℤ pos 1)) <ℤ (x +ℤ d)
  up_close = polynomial! (x ∷ d ∷ q ∷ r ∷ []) (search claims depth 40) (omega arith)

  pub whole_reaches : q *ℤ d +ℤ r ≡ x → r ≤ℤ pos 0 → x ≤ℤ (d *ℤ q)
  whole_reaches = polynomial! (x ∷ d ∷ q ∷ r ∷ []) (search claims depth 40) (omega arith)

  pub whole_close : q *ℤ d +ℤ r ≡ x → neg_ℤ d <ℤ r → (d *ℤ q) <ℤ (x +ℤ d)
  whole_close = polynomial! (x ∷ d ∷ q ∷ r ∷ []) (search claims depth 40) (omega arith)

-- there is at most one t with x ≤ d · t < x + d
pub not-above : (x d s t : ℤ) → pos 0 <ℤ d → (d *ℤ s) <ℤ (x +ℤ d) → x ≤ℤ (d *ℤ t) → s <ℤ (t +ℤ pos 1)
not-above x d s t = certify! (x ∷ d ∷ s ∷ t ∷ []) (search claims depth 40) (hyp 0) (hyp 1 ⊞ hyp 2) tt

pub below_suc : (s t : ℤ) → s <ℤ (t +ℤ pos 1) → s ≤ℤ t
below_suc s t = linear! (s ∷ t ∷ []) (search claims depth 40) (omega arith)

module _ (x d : ℤ) where
  -- ---- how it is computed
  pub ceil_div_up : pos 0 <ℤ rem_z x d → ceil_div x d ≡ quot_z x d +ℤ pos 1
  unfolding ceil_div
  ceil_div_up h = by_lt_z (λ b. (elim b [ true ↦ quot_z x d +ℤ pos 1 | false ↦ quot_z x d ]) ≡ quot_z x d +ℤ pos 1) (pos 0) (rem_z x d) (λ g. refl) (λ l. absurd (≤ℤ-<ℤ-⊥ l h))

  pub ceil_div_whole : rem_z x d ≤ℤ pos 0 → ceil_div x d ≡ quot_z x d
  unfolding ceil_div
  ceil_div_whole h = by_lt_z (λ b. (elim b [ true ↦ quot_z x d +ℤ pos 1 | false ↦ quot_z x d ]) ≡ quot_z x d) (pos 0) (rem_z x d) (λ g. absurd (≤ℤ-<ℤ-⊥ h g)) (λ l. refl)

-- ---- its size
pub at_most-times : (A d x : ℤ) → pos 0 ≤ℤ A → pos 0 <ℤ d → x ≤ℤ A → x ≤ℤ (d *ℤ A)
at_most-times A d x = certify! (A ∷ d ∷ x ∷ []) (search claims depth 40) (num 1) (hyp 2 ⊞ hyp 0 ⊠ tight 1) tt

pub at_least-minus : (A d x c : ℤ) → pos 0 ≤ℤ A → pos 0 <ℤ d → neg_ℤ A ≤ℤ x → x ≤ℤ (d *ℤ c) → neg_ℤ A ≤ℤ c
at_least-minus A d x c = certify! (A ∷ d ∷ x ∷ c ∷ []) (search claims depth 40) (hyp 1) (hyp 3 ⊞ hyp 2 ⊞ hyp 0 ⊠ tight 1) tt

-- ---- natural numbers
unfoldable pub ceil_divℕ : ℕ → ℕ → ℕ
ceil_divℕ n d = (n + (d - 1)) / d

pub ceil_divℕ-iff : (n d : ℕ) → 0 < d → (t : ℕ) → (n ≤ d * t) ↔ (ceil_divℕ n d ≤ t)
unfolding ceil_divℕ
ceil_divℕ-iff n d h t = (there, back)
  where
    there : n ≤ d * t → (n + (d - 1)) / d ≤ t
    there k = let g : (n + (d - 1)) / d < suc t = (NatL.div-lt_iff_lt-mul h).1 (omega arith) in omega arith

    back : (n + (d - 1)) / d ≤ t → n ≤ d * t
    back k = let g : n + (d - 1) < suc t * d = (NatL.div-lt_iff_lt-mul {x = n + (d - 1)} h).0 (omega arith) in omega arith
