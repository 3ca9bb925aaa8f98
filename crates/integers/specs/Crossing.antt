-- Where p · t + q reaches a value: the least natural number t from one bound to another with v ≤ p · t + q, or none.
--
--     Reaches p q v t                         v ≤ p · t + q
--     crossing p q v                          for p above 0, the least natural t that reaches: a quotient rounded up, or 0
--     reach_never                             p not above 0, below v at `from`: none
--
-- The least is meant in the sense of `IsLeast`, so by `least-unique` a search finds the same.
-- Example: 3 · t + 10 reaches 200 at t = 64, for `crossing (pos 3) (pos 10) (pos 200)` is 64.
-- Further laws stand in proofs/Crossing.antt.
-- Assumes nothing.
use Rattle.std.specs.Prelude.{◌↔◌, [], ◌∷◌, ℕ, ◌≤◌, ℤ, negsuc, ◌+ℤ◌, ◌-ℤ◌, ◌*ℤ◌, ◌≤ℤ◌, ◌<ℤ◌}
use Rattle.std.proofs.Common.{arith}
use Rattle.std.proofs.Math.Option.{none}
use Rattle.std.proofs.Math.IntN.{pos}
use Rattle.integers.specs.Parts.{ints, pos_part}
use Rattle.integers.specs.OrderLaws.{≤ℤ-<ℤ-⊥}
use Rattle.integers.specs.Certificates.{hyp, num, ◌⊞◌, ◌⊠◌}
use Rattle.integers.specs.Solve.{claims, certify!, polynomial! }
use Rattle.integers.specs.Rounding.{ceil_div}
use Rattle.integers.specs.Least.{IsLeast, nowhere}

abbrev pub Reaches : ℤ → ℤ → ℤ → ℕ → Type 0
Reaches p q v t = v ≤ℤ (p *ℤ pos t +ℤ q)

unfoldable pub crossing : ℤ → ℤ → ℤ → ℕ
crossing p q v = pos_part (ceil_div (v -ℤ q) p)

module _ (p q v t : ℤ) where
  pub apart : v ≤ℤ (p *ℤ t +ℤ q) → (v -ℤ q) ≤ℤ (p *ℤ t)
  apart = polynomial! (p ∷ q ∷ v ∷ t ∷ []) (search claims depth 40) (omega arith)

  pub together : (v -ℤ q) ≤ℤ (p *ℤ t) → v ≤ℤ (p *ℤ t +ℤ q)
  together = polynomial! (p ∷ q ∷ v ∷ t ∷ []) (search claims depth 40) (omega arith)

  pub apart-< : (p *ℤ t +ℤ q) <ℤ v → (p *ℤ t) <ℤ (v -ℤ q)
  apart-< = polynomial! (p ∷ q ∷ v ∷ t ∷ []) (search claims depth 40) (omega arith)

falling : (p q v s t : ℤ) → p ≤ℤ pos 0 → s ≤ℤ t → v ≤ℤ (p *ℤ t +ℤ q) → v ≤ℤ (p *ℤ s +ℤ q)
falling p q v s t = certify! (p ∷ q ∷ v ∷ s ∷ t ∷ []) (search claims depth 40) (num 1) (hyp 2 ⊞ hyp 0 ⊠ hyp 1) tt

pub pos_part-le : (z : ℤ) (t : ℕ) → (z ≤ℤ pos t) ↔ (pos_part z ≤ t)
pos_part-le (pos n) t = (λ h. omega ints, λ h. omega ints)
pos_part-le (negsuc n) t = (λ h. omega ints, λ h. omega ints)

module _ (p q v : ℤ) where
  module _ (from to : ℕ) where
    pub reach_never : p ≤ℤ pos 0 → (p *ℤ pos from +ℤ q) <ℤ v → IsLeast (Reaches p q v) from to none
    reach_never h k = nowhere (λ t f l r. ≤ℤ-<ℤ-⊥ (falling p q v (pos from) (pos t) h (omega ints) r) k)
