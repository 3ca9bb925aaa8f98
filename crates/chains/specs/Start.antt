-- The polygon of two ranges, r and then s.
--
--     start r s      slow from r's high end to s's low end, fast from r's low end to s's high end; the chains are the two high ends and the two low ends, and where one range has low = high, that one point
--     start_with, start_if   slow and fast with given chains; the chains by which range has low = high
--
-- Further laws stand in proofs/Start.antt.
-- Assumes nothing.
use Rattle.std.specs.Prelude.{◌≡◌, refl, List, [], ◌∷◌, zero, suc, ◌<◌, ℤ, pos, negsuc, ◌-ℤ◌, ◌*ℤ◌, ◌≤ℤ◌, ◌<ℤ◌}
use Rattle.integers.specs.OrderLaws.{≤ℤ_of_≡}
use Rattle.integers.specs.RingSolver.{var, lit, ◌:*◌}
use Rattle.integers.specs.Certificates.{hyp, num, eqn, ◌⊞◌, ◌⊠◌}
use Rattle.integers.specs.Solve.{claims, certify! }
use Rattle.definitions.specs.Ranges.{Range}
use Rattle.chains.specs.Points.{Point, through}
use Rattle.chains.specs.Ends.{H, L, time<}
use Rattle.chains.specs.Chain.{Polygon}

-- ---- the slopes of the lines through the ends of two ranges, (a, lr, hr) and (b, ls, hs): the two from the first high end, the two to the second high end, and slow and fast
module _ (a b hr lr ls hs : ℤ) where
  pub from_high : a <ℤ b → ls <ℤ hs → ((ls -ℤ hr) *ℤ (b -ℤ a)) <ℤ ((hs -ℤ hr) *ℤ (b -ℤ a))
  from_high = certify! (a ∷ b ∷ hr ∷ lr ∷ ls ∷ hs ∷ []) (search claims depth 40) (num 1) (hyp 0 ⊠ hyp 1) tt

  pub to_high : a <ℤ b → lr <ℤ hr → ((hs -ℤ hr) *ℤ (b -ℤ a)) <ℤ ((hs -ℤ lr) *ℤ (b -ℤ a))
  to_high = certify! (a ∷ b ∷ hr ∷ lr ∷ ls ∷ hs ∷ []) (search claims depth 40) (num 1) (hyp 0 ⊠ hyp 1) tt

  pub slow_fast_first : a <ℤ b → lr ≤ℤ hr → ls <ℤ hs → ((ls -ℤ hr) *ℤ (b -ℤ a)) <ℤ ((hs -ℤ lr) *ℤ (b -ℤ a))
  slow_fast_first = certify! (a ∷ b ∷ hr ∷ lr ∷ ls ∷ hs ∷ []) (search claims depth 40) (num 1) (hyp 0 ⊠ hyp 1 ⊞ hyp 0 ⊠ hyp 2) tt

  pub slow_fast_second : a <ℤ b → lr <ℤ hr → ls ≤ℤ hs → ((ls -ℤ hr) *ℤ (b -ℤ a)) <ℤ ((hs -ℤ lr) *ℤ (b -ℤ a))
  slow_fast_second = certify! (a ∷ b ∷ hr ∷ lr ∷ ls ∷ hs ∷ []) (search claims depth 40) (num 1) (hyp 0 ⊠ hyp 1 ⊞ hyp 0 ⊠ hyp 2) tt

-- ---- the upper chain of two ranges; the lower one is that of their mirror images

abbrev pub start_with : List Point → List Point → Range → Range → Polygon
start_with us ls r s = record { upper = us; lower = ls; slow = through (H r) (L s); fast = through (L r) (H s) }

abbrev pub start_if : ℤ → ℤ → Range → Range → Polygon
start_if (pos zero) e r s = start_with (H r ∷ []) (L r ∷ []) r s
start_if (pos (suc n)) (pos zero) r s = start_with (H s ∷ []) (L s ∷ []) r s
start_if (pos (suc n)) (pos (suc k)) r s = start_with (H r ∷ H s ∷ []) (L r ∷ L s ∷ []) r s
start_if (pos (suc n)) (negsuc k) r s = start_with (H r ∷ H s ∷ []) (L r ∷ L s ∷ []) r s
start_if (negsuc n) e r s = start_with (H r ∷ H s ∷ []) (L r ∷ L s ∷ []) r s

abbrev pub start : Range → Range → Polygon
start r s = start_if (r.high -ℤ r.low) (s.high -ℤ s.low) r s

pub same_slope_of : (a b c e x : ℤ) → a ≡ b → c ≡ e → (c -ℤ b) *ℤ x ≡ (e -ℤ a) *ℤ x
same_slope_of a b c e x = certify! (a ∷ b ∷ c ∷ e ∷ x ∷ []) (search claims depth 40) (num 1) (eqn 0 (var 4) ⊞ eqn 1 (var 4)) tt

pub same_intercept_of : (a b c e x y z : ℤ) → a ≡ b → c ≡ e → (b *ℤ y -ℤ c *ℤ x) *ℤ z ≡ (a *ℤ y -ℤ e *ℤ x) *ℤ z
same_intercept_of a b c e x y z = certify! (a ∷ b ∷ c ∷ e ∷ x ∷ y ∷ z ∷ []) (search claims depth 40) (num 1) (eqn 0 (lit (negsuc 0) :* var 5 :* var 6) ⊞ eqn 1 (lit (negsuc 0) :* var 4 :* var 6)) tt

module _ (r s : Range) (lt : r.time < s.time) (r-ok : r.low ≤ℤ r.high) (s-ok : s.low ≤ℤ s.high) where
  pub late : pos r.time <ℤ pos s.time
  late = time< r.time s.time lt

  pub self : {x : ℤ} → x ≤ℤ x
  self = ≤ℤ_of_≡ refl
