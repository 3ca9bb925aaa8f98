-- One short lemma for each tool of `integers` that works on plain integers. `proofs/` shows the tools for machine numbers.
-- Assumes nothing.
use Rattle.std.specs.Prelude.{◌≡◌, ◌⊎◌, false, ◌&&◌, [], ◌∷◌, ℕ, ◌<◌, ℤ, pos, negsuc, ◌+ℤ◌, ◌-ℤ◌, ◌*ℤ◌, ◌≤ℤ◌, ◌<ℤ◌}
use Rattle.std.proofs.Common.{arith}
use Rattle.std.specs.Int.Signed.{le_z}
use Rattle.integers.specs.Parts.{ints}
use Rattle.integers.specs.OrderLaws.{mul-nonneg, sub-nonneg, <ℤ→≤ℤ}
use Rattle.integers.specs.RingSolver.{var, lit, ◌:-◌}
use Rattle.integers.specs.Certificates.{hyp, num, sq, eqn, ◌⊞◌, ◌⊠◌}
use Rattle.integers.specs.Quotes.{quotes, ring! }
use Rattle.integers.specs.Solve.{claims, linear!, linear_from!, polynomial!, polynomial_from!, certify!, ◌&◌}

-- an identity: `ring!`
square-difference : (a b : ℤ) → (a +ℤ b) *ℤ (a -ℤ b) ≡ a *ℤ a -ℤ b *ℤ b
square-difference a b = ring! (a ∷ b ∷ []) (search quotes depth 30) (search quotes depth 30) tt

-- a linear fact: `linear!`
doubled : (a b c : ℤ) → (a +ℤ pos 3) ≤ℤ b → (b +ℤ b) <ℤ c → (a +ℤ a +ℤ pos 6) <ℤ c
doubled a b c = linear! (a ∷ b ∷ c ∷ []) (search claims depth 30) (omega arith)

-- the same in the middle of a proof, from facts in hand: `linear_from!`
doubled-from : (a b c : ℤ) → (a +ℤ pos 3) ≤ℤ b → (b +ℤ b) <ℤ c → (a +ℤ a +ℤ pos 6) <ℤ c
doubled-from a b c h k = linear_from! (a ∷ b ∷ c ∷ []) (h & k) (search claims depth 30) (omega arith)

-- an order of integers with no sum in it: the rules alone
chained : (a b c : ℤ) → a ≤ℤ b → b <ℤ c → a <ℤ c
chained a b c h k = omega ints

-- natural numbers and integers together: the integer `pos n` is listed, and `omega` finds i < n by itself
below-count : (i n : ℕ) (a : ℤ) → i < n → pos n ≤ℤ a → (pos i +ℤ pos 1) ≤ℤ a
below-count i n a l = linear! (a ∷ pos i ∷ pos n ∷ []) (search claims depth 30) (omega arith)

-- a fact on natural numbers from facts on integers
counted : (m n : ℕ) (a : ℤ) → pos m ≤ℤ a → a <ℤ pos n → m < n
counted m n a = linear! (a ∷ pos m ∷ pos n ∷ []) (search claims depth 30) (omega arith)

-- a product of facts, from a product
both-sides : (a b c : ℤ) → (a ≤ℤ b) × (b ≤ℤ c) → (a ≤ℤ c) × (pos 0 ≤ℤ (c -ℤ a)) × ((a +ℤ b) ≤ℤ (c +ℤ c))
both-sides a b c = linear! (a ∷ b ∷ c ∷ []) (search claims depth 40) (omega arith)

-- one of two facts, and facts as tests
apart_or_not : (a b : ℤ) → (a ≡ b → ⊥) → (a <ℤ b) ⊎ (b <ℤ a)
apart_or_not a b = linear! (a ∷ b ∷ []) (search claims depth 40) (omega arith)

no_longer-between : (a b c : ℤ) → c <ℤ a → le_z a b && le_z b c ≡ false
no_longer-between a b c = linear! (a ∷ b ∷ c ∷ []) (search claims depth 40) (omega arith)

-- linear in the products: a line within two ranges has a slope that is at most theirs
slope-at_most : (p q s t low high : ℤ) → low ≤ℤ (p *ℤ s +ℤ q) → (p *ℤ t +ℤ q) ≤ℤ high → (p *ℤ (t -ℤ s)) ≤ℤ (high -ℤ low)
slope-at_most p q s t low high = polynomial! (p ∷ q ∷ s ∷ t ∷ low ∷ high ∷ []) (search claims depth 40) (omega arith)

-- a product of two facts handed over as one more fact
product-from : (a b c d : ℤ) → a ≤ℤ b → c <ℤ d → (b *ℤ c +ℤ a *ℤ d) ≤ℤ (a *ℤ c +ℤ b *ℤ d)
product-from a b c d h k = polynomial_from! (a ∷ b ∷ c ∷ d ∷ []) (mul-nonneg (sub-nonneg h) (sub-nonneg (<ℤ→≤ℤ k))) (search claims depth 40) (omega arith)

-- products of hypotheses by a certificate: hypothesis 0 times hypothesis 1
product : (a b c d : ℤ) → a ≤ℤ b → c ≤ℤ d → (b *ℤ c +ℤ a *ℤ d) ≤ℤ (a *ℤ c +ℤ b *ℤ d)
product a b c d = certify! (a ∷ b ∷ c ∷ d ∷ []) (search claims depth 40) (num 1) (hyp 0 ⊠ hyp 1) tt

-- a square: (a − b)² is not negative
mean : (a b : ℤ) → (pos 2 *ℤ (a *ℤ b)) ≤ℤ (a *ℤ a +ℤ b *ℤ b)
mean a b = certify! (a ∷ b ∷ []) (search claims depth 40) (num 1) (sq (var 0 :- var 1)) tt

-- a contradiction: slopes that are apart
no-slope : (p u v m n : ℤ) → pos 0 <ℤ m → pos 0 <ℤ n → u ≤ℤ (p *ℤ m) → (p *ℤ n) ≤ℤ v → (v *ℤ m) <ℤ (u *ℤ n) → ⊥
no-slope p u v m n = certify! (p ∷ u ∷ v ∷ m ∷ n ∷ []) (search claims depth 40) (num 1) (hyp 4 ⊞ hyp 0 ⊠ hyp 3 ⊞ hyp 1 ⊠ hyp 2) tt

-- a positive factor cancelled: the slope between is below the slope above
slopes : (p q r s t u : ℤ) → pos 0 <ℤ q → pos 0 <ℤ s → pos 0 <ℤ u → (p *ℤ s) ≤ℤ (r *ℤ q) → (r *ℤ u) <ℤ (t *ℤ s) → (p *ℤ u) <ℤ (t *ℤ q)
slopes p q r s t u = certify! (p ∷ q ∷ r ∷ s ∷ t ∷ u ∷ []) (search claims depth 60) (hyp 1) (hyp 0 ⊠ hyp 4 ⊞ hyp 2 ⊠ hyp 3) tt

-- an equation cancelled: equations among the hypotheses, each times a polynomial
cancelled : (m a b c : ℤ) → pos 0 <ℤ m → m *ℤ a ≡ c → m *ℤ b ≡ c → a ≡ b
cancelled m a b c = certify! (m ∷ a ∷ b ∷ c ∷ []) (search claims depth 40) (hyp 0) (eqn 2 (lit (negsuc 0)) ⊞ eqn 1 (lit (pos 1))) tt
