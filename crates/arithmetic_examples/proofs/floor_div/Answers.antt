-- `arithmetic_examples::floor_div` meets its contract: n = q d + r with −d < r < d, and q is one less where r is negative. The quotient and the remainder are listed in the environment as integers of their own. Assumes nothing.
-- 2^62
use mathlib.Core.List.{[], ◌∷◌}
use native.Mathlib.Omega.{arith}
use Prim.Native.Nat.{ℕ}
use lib.IntN.{ℤ, pos}
use lib.Signed.{◌<ℤ◌, quot_z, rem_z}
use mir.Syntax.{w64}
use mir.Val.{SFits}
use Rattle.integers.specs.Bounds.{Within, fits}
use Rattle.integers.specs.Solve.{◌&◌}
use Rattle.integers.specs.Division.{quot-rem, rem_below, rem-above, in_quot, in_rem, bits_pos}
use Rattle.integers.specs.Machine.{read, Env, ◌▹◌, ◌▸◌, end, upto, signed, no_overflow!, machine_bound!, machine_linear!, reads, tests}
use Rattle.arithmetic_examples.proofs.floor_div.Goals as goal

abbrev most : ℕ
most = 4611686018427387904

module _ {n d : ℤ} (hn : Within most n) (hd : SFits w64 d) where
  read-within : Within most (read w64 n)
  read-within = machine_bound! (hn ▹ hd ▸ end) (search reads depth 30) tt

  env : Env (n ∷ d ∷ quot_z (read w64 n) (read w64 d) ∷ rem_z (read w64 n) (read w64 d) ∷ []) (upto most ∷ signed w64 ∷ upto most ∷ upto most ∷ [])
  env = hn ▹ hd ▸ in_quot (read w64 d) read-within ▹ in_rem (read w64 d) read-within ▹ end

  positive : pos 0 <ℤ d → pos 0 <ℤ read w64 d
  positive h = machine_linear! env h (search tests depth 30) tt (omega arith)

pub nonzero_div-q : goal.nonzero_div-q
nonzero_div-q c = (bits_pos w64 c.requires.1, fits (in_quot (read w64 c.args.d) (read-within c.requires.0 c.ranges.d)) tt)

pub nonzero_rem-r : goal.nonzero_rem-r
nonzero_rem-r c = nonzero_div-q c

pub overflow_sub-result : goal.overflow_sub-result
overflow_sub-result c = no_overflow! (env c.requires.0 c.ranges.d) (search reads depth 30) tt

pub returns-then-r-lt0 : goal.returns-then-r-lt0
returns-then-r-lt0 c =
    let n = read w64 c.args.n in let d = read w64 c.args.d in let p = positive c.requires.0 c.ranges.d c.requires.1 in
    machine_linear! (env c.requires.0 c.ranges.d) (quot-rem n d p & rem-above n d p & c.if-r-lt0.true) (search tests depth 30) tt (omega arith)

pub returns-else-r-lt0 : goal.returns-else-r-lt0
returns-else-r-lt0 c =
    let n = read w64 c.args.n in let d = read w64 c.args.d in let p = positive c.requires.0 c.ranges.d c.requires.1 in
    machine_linear! (env c.requires.0 c.ranges.d) (quot-rem n d p & rem_below n d p & c.if-r-lt0.false) (search tests depth 30) tt (omega arith)
