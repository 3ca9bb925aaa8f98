-- Laws that rest on those of specs/Multiples.antt.
--
--     multiple_turn                                from a multiple on, the first is itself
--     turns_least                                  the least number of steps gives the least multiple
--     first_multiple_least                          so first_multiple is the least that passes, for a test that passes at the first or the last multiple of the range if it passes at a multiple at all
--
-- Assumes nothing.
use Rattle.std.specs.Prelude.{◌≡◌, refl, Bool, ℕ, ◌*◌, ◌≤◌, ◌<◌, T}
use Rattle.std.proofs.Common.{subst}
use Rattle.std.proofs.Math.Option.{Option, map}
use Rattle.std.proofs.Math.Nat as NatL
use Rattle.integers.specs.Least.{IsLeast, nowhere, least_at, AtAnEnd, first_by_ends-least}
use Rattle.integers.specs.Multiples.{first_multiple, from_turn, from_turns, LeastMultiple, to_turn, to_turns}

module _ (step : ℕ) (over : 0 < step) where
  pub multiple_turn : (turn : ℕ) → from_turn step (turn * step) ≡ turn
  multiple_turn turn =
      let first = from_turn step (turn * step) in
      NatL.le_antisymm ((from_turns step over (turn * step) turn).0 (NatL.le_refl (turn * step)))
      (NatL.le_of_mul-le-mul_right ((from_turns step over (turn * step) first).1 (NatL.le_refl first)) over)

  module _ {P : ℕ → Type 0} {from to : ℕ} where
    pub turns_least : {r : Option ℕ} → IsLeast (λ k. P (k * step)) (from_turn step from) (to_turn step to) r → LeastMultiple step P from to (map (λ k. k * step) r)
    turns_least (nowhere h) =
        nowhere (λ t a b m. let k = m.0.turns in
        h k ((from_turns step over from k).0 (subst (λ n. from ≤ n) m.0.is a)) ((to_turns step over to k).0 (subst (λ n. n ≤ to) m.0.is b)) (subst P m.0.is m.1))
    turns_least (least_at k a b p g) =
        least_at (k * step) ((from_turns step over from k).1 a) ((to_turns step over to k).1 b) (record { turns = k; is = refl }, p)
        -- an earlier multiple has fewer steps
        (λ t c d m. let j = m.0.turns in
        g j ((from_turns step over from j).0 (subst (λ n. from ≤ n) m.0.is c)) (NatL.lt_of_mul-lt-mul_right step (subst (λ n. n < k * step) m.0.is d)) (subst P m.0.is m.1))

  pub first_multiple_least : (test : ℕ → Bool) (from to : ℕ) → AtAnEnd (λ k. test (k * step)) (from_turn step from) (to_turn step to)
      → LeastMultiple step (λ t. T (test t)) from to (first_multiple step test from to)
  unfolding first_multiple
  first_multiple_least test from to ends = turns_least (first_by_ends-least (λ k. test (k * step)) (from_turn step from) (to_turn step to) ends)
