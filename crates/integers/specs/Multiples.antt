-- The least multiple of a step, counted from 0, from one number to another, that passes a test.
--
--     MultipleOf step t                            t is a multiple of the step
--     LeastMultiple step P from to r               r is the least multiple from `from` to `to` of which P holds, or none where there is no such multiple
--     from_turn, to_turn                             how many steps the first multiple from `from` on is from 0, and the last one up to `to`
--     first_multiple step test from to              the first multiple that passes, where nothing is searched if neither the first nor the last multiple of the range passes
--     from_turns, to_turns                         a multiple is in the range exactly if its number of steps is between the two
--     multiple-iff                                 the least multiple of which P holds, and Q, where both hold of the same
--     every-number                                 with step 1 the least multiple is the least number
--
-- Example: `first_multiple 10 (λ t. leb 77 t) 50 4294967295` computes to some 80.
-- Further laws stand in proofs/Multiples.antt.
-- Assumes nothing.
use Rattle.std.specs.Prelude.{◌≡◌, refl, ◌↔◌, Bool, false, ℕ, ◌*◌, ◌/◌, ◌≤◌, ◌<◌, leb}
use Rattle.std.proofs.Common.{arith}
use Rattle.std.proofs.Math.Option.{Option, none, some, map}
use Rattle.std.proofs.Math.Nat as NatL
use Rattle.integers.specs.Rounding.{ceil_divℕ, ceil_divℕ-iff}
use Rattle.integers.specs.Least.{IsLeast, least_iff, scan, first, first_by_ends}

pub record MultipleOf (step t : ℕ) : Type 0 where
  pub turns : ℕ
  pub is : t ≡ turns * step

abbrev pub LeastMultiple : ℕ → (ℕ → Type 0) → ℕ → ℕ → Option ℕ → Type 0
LeastMultiple step P from to r = IsLeast (λ t. MultipleOf step t × P t) from to r

unfoldable pub from_turn : ℕ → ℕ → ℕ
from_turn step from = ceil_divℕ from step

unfoldable pub to_turn : ℕ → ℕ → ℕ
to_turn step to = to / step

unfoldable pub first_multiple : ℕ → (ℕ → Bool) → ℕ → ℕ → Option ℕ
first_multiple step test from to = map (λ k. k * step) (first_by_ends (λ k. test (k * step)) (from_turn step from) (to_turn step to))

module _ (step : ℕ) (over : 0 < step) where
  pub from_turns : (from k : ℕ) → (from ≤ k * step) ↔ (from_turn step from ≤ k)
  unfolding from_turn
  from_turns from k = let c = ceil_divℕ-iff from step over k in (λ h. c.0 (omega (arith, NatL.mul_comm k step)), λ h. let g = c.1 h in omega (arith, NatL.mul_comm k step))

  pub to_turns : (to k : ℕ) → (k * step ≤ to) ↔ (k ≤ to_turn step to)
  unfolding to_turn
  to_turns to k = let c = NatL.le-div_iff_mul-le {x = k} {y = to} over in (λ h. c.1 h, λ h. c.0 h)

pub multiple-iff : {step : ℕ} {P Q : ℕ → Type 0} {from to : ℕ} {r : Option ℕ} → ((t : ℕ) → from ≤ t → P t ↔ Q t) → LeastMultiple step P from to r → LeastMultiple step Q from to r
multiple-iff same h = least_iff (λ t a b. (λ m. (m.0, (same t a).0 m.1), λ m. (m.0, (same t a).1 m.1))) h

pub every-number : {P : ℕ → Type 0} {from to : ℕ} {r : Option ℕ} → LeastMultiple 1 P from to r ↔ IsLeast P from to r
every-number = (least_iff (λ t a b. (λ m. m.1, λ p. (itself t, p))), least_iff (λ t a b. (λ p. (itself t, p), λ m. m.1)))
  where
    itself : (t : ℕ) → MultipleOf 1 t
    itself t = record { turns = t; is = omega arith }

-- the two ends are looked at first, so it computes also where the answer is none
example-found : first_multiple 10 (λ t. leb 77 t) 50 4294967295 ≡ some 80
unfolding first_multiple from_turn to_turn ceil_divℕ first_by_ends first scan
example-found = refl

example-none : first_multiple 7 (λ t. false) 50 4294967295 ≡ none
unfolding first_multiple from_turn to_turn ceil_divℕ first_by_ends
example-none = refl

-- no multiple is in the range
example-between : first_multiple 10 (λ t. leb 1 t) 11 19 ≡ none
unfolding first_multiple from_turn to_turn ceil_divℕ first_by_ends first scan
example-between = refl
