-- `values::reaching::turns_from` meets its contract: the library's quotient rounded up is the definitions'. Assumes nothing.
use Rattle.std.proofs.Common.{◌≡◌, refl, ◌∙◌, ℕ, ◌+◌, ◌*◌, ◌<◌, ◌≤◌, arith}
use Rattle.std.specs.Int.{div_ceil}
use Rattle.std.proofs.Math.Nat as NatL
use Rattle.std.proofs.lemmas.Grind.{div_ceil_times}
use Rattle.integers.specs.Rounding.{ceil_divℕ, ceil_divℕ-iff}
use Rattle.integers.specs.Multiples.{from_turn, to_turn}
use Rattle.values.proofs.reaching.turns_from.Goals as goal

same : (n d : ℕ) → 0 < d → div_ceil n d ≡ ceil_divℕ n d
same n d over =
    let q = div_ceil n d in
    let c = ceil_divℕ n d in
    let bounds : (n ≤ q * d) × (q * d < n + d) = div_ceil_times n d over in
    let below : c ≤ q = (ceil_divℕ-iff n d over q).0 (omega arith) in
    let reaches : n ≤ d * c = (ceil_divℕ-iff n d over c).1 (NatL.le_refl c) in
    let above : q < c + 1 = NatL.lt_of_mul-lt-mul_right d (omega arith) in
    omega arith

pub returns : goal.returns
unfolding from_turn to_turn
returns c = record { first-is = c.div_ceil.ensures ∙ same c.args.from c.args.step c.requires; last_is = refl }
