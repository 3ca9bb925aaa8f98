-- `values::numbers::ceil_div` meets its contract: the quotient is within the bound of n, and it is one more where a remainder above 0 is left. Assumes nothing.
use mathlib.Core.Path.{◌≡◌, sym, ◌∙◌, ap₂}
use mathlib.Core.List.{[], ◌∷◌}
use native.Mathlib.Omega.{arith}
use lib.IntN.{ℤ, pos}
use lib.Signed.{◌<ℤ◌, ◌≤ℤ◌, quot_z, rem_z}
use mir.Syntax.{w64}
use mir.Facts.{to_z-of_z}
use Rattle.integers.specs.Quotes.{quotes}
use Rattle.integers.specs.Bounds.{Within, fits}
use Rattle.integers.specs.Division.{in_quot, in_rem, bits_pos}
use Rattle.integers.specs.Rounding.{ceil_div, ceil_div_up, ceil_div_whole}
use Rattle.integers.specs.Machine.{Env, upto, ◌▹◌, end, no_overflow!, machine_value!, machine_linear!, reads, tests}
use Rattle.values.specs.Signed.{as_i64, half64, read_back, read_in}
use Rattle.values.proofs.numbers.ceil_div.Goals.{Start}
use Rattle.values.proofs.numbers.ceil_div.Goals as goal

abbrev quotient : Start → ℤ
quotient c = quot_z (as_i64 c.args.n) (as_i64 c.args.d)

abbrev remainder : Start → ℤ
remainder c = rem_z (as_i64 c.args.n) (as_i64 c.args.d)

n-in : (c : Start) → Within half64 (as_i64 c.args.n)
n-in c = read_in w64 c.requires.0 tt

env : (c : Start) → Env (quotient c ∷ remainder c ∷ []) (upto half64 ∷ upto half64 ∷ [])
env c = in_quot (as_i64 c.args.d) (n-in c) ▹ in_rem (as_i64 c.args.d) (n-in c) ▹ end

-- what is rounded is read as it was passed

same : (c : Start) → ceil_div (as_i64 c.args.n) (as_i64 c.args.d) ≡ ceil_div c.args.n c.args.d
same c = ap₂ (λ x y. ceil_div x y) (read_back w64 c.requires.0 tt) (to_z-of_z c.ranges.d)

pub nonzero_div-q : goal.nonzero_div-q
nonzero_div-q c = (bits_pos w64 c.requires.1, fits (in_quot (as_i64 c.args.d) (n-in c)) tt)

pub nonzero_rem-r : goal.nonzero_rem-r
nonzero_rem-r c = nonzero_div-q c

pub overflow_add-result : goal.overflow_add-result
overflow_add-result c = no_overflow! (env (goal.at.overflow_add-result c).Start) (search reads depth 30) tt

pub returns-then-r-gt0 : goal.returns-then-r-gt0
returns-then-r-gt0 c =
    let s = (goal.at.returns-then-r-gt0 c).Start in
    let over : pos 0 <ℤ remainder s = machine_linear! (env s) c.if-r-gt0.true (search tests depth 30) tt (omega arith) in
    machine_value! (env s) (search reads depth 30) (search quotes depth 30) tt ∙ sym (ceil_div_up (as_i64 c.args.n) (as_i64 c.args.d) over) ∙ same s

pub returns-else-r-gt0 : goal.returns-else-r-gt0
returns-else-r-gt0 c =
    let s = (goal.at.returns-else-r-gt0 c).Start in
    let whole : remainder s ≤ℤ pos 0 = machine_linear! (env s) c.if-r-gt0.false (search tests depth 30) tt (omega arith) in
    machine_value! (env s) (search reads depth 30) (search quotes depth 30) tt ∙ sym (ceil_div_whole (as_i64 c.args.n) (as_i64 c.args.d) whole) ∙ same s
