-- `arithmetic_examples::highest` meets its contract. The invariant: every value before the place is at most the best. Assumes nothing.
use Rattle.std.proofs.Common.{List, ℕ, ◌<◌, get_or, ℤ, pos, ◌≤ℤ◌}
use Rattle.arithmetic_examples.proofs.highest.Given as goal

abbrev pub Below : List ℤ → ℕ → ℤ → Type 0
Below us i best = (k : ℕ) → k < i → get_or us k (pos 0) ≤ℤ best

abbrev pub invariant-loop-u : goal.invariant-loop-u
invariant-loop-u l = Below l.us l.u-index l.best
