-- `values::reaching::rise_time` meets its contract: never where the first multiple is past the last time, at that multiple where the line is not below the level there, and else as `crossing_time` says. Assumes nothing.
use mathlib.Core.Path.{◌≡◌, sym, ap, ◌∙◌, subst}
use mathlib.Core.Logic.{◌⊎◌, inl, inr}
use Prim.Native.Nat.{◌*◌, ◌≤◌}
use native.Mathlib.Omega.{arith}
use lib.Dec.{T}
use mir.Syntax.{w32}
use Rattle.integers.specs.Multiples.{to_turn, to_turns}
use Rattle.definitions.specs.Spans.{most_time}
use Rattle.definitions.specs.Lines.{side_at, at_or_above}
use Rattle.values.specs.declared.Side.{Side}
use Rattle.values.specs.declared.Side.TheVariants.{On, Above}
use Rattle.values.specs.Meanings.{line_of, side_of, time_of}
use Rattle.values.specs.Signed.{read_back}
use Rattle.values.specs.Sides.{below_is, reached_is}
use Rattle.values.specs.ReachLaws.{reach_none, reach_now}
use Rattle.values.proofs.reaching.rise_time.Goals.{After-side-s, Else-turns, Start}
use Rattle.values.proofs.reaching.rise_time.Goals as goal

pub returns-then-turns : goal.returns-then-turns
unfolding time_of
returns-then-turns c =
    let A = c.args in
    sym (reach_none (line_of A.l) A.level A.step c.requires.2.over A.turns.first (omega (arith, c.requires.3)))

-- the first multiple is a time

in-time : (c : Else-turns) → c.args.turns.first ≤ to_turn c.args.step most_time
in-time c = omega (arith, c.requires.3)

pub overflow_mul-first : goal.overflow_mul-first
overflow_mul-first c =
    let within : c.args.turns.first * c.args.step ≤ most_time = (to_turns c.args.step c.requires.2.over most_time c.args.turns.first).1 (in-time (goal.at.overflow_mul-first c).Else-turns) in
    record { fits = omega arith }

tells : (c : After-side-s) → side_of c.side-s.result ≡ side_at (line_of c.args.l) c.args.level (c.args.turns.first * c.args.step)
tells c = let A = c.args in c.side-s.ensures ∙ ap (λ z. side_at (line_of A.l) z (A.turns.first * A.step)) (read_back w32 c.requires.1 tt)

pub crossing_time-requires : goal.crossing_time-requires
unfolding side_of
crossing_time-requires c =
    let A = c.args in
    rw (read_back w32 c.requires.1 tt)
    (c.requires.0, c.requires.1, c.requires.2, c.requires.3, below_is (line_of A.l) A.level (A.turns.first * A.step) (sym (tells (goal.at.crossing_time-requires c).After-side-s) ∙ ap side_of c.in-Below.is))

-- the second arm is that of two variants, and in each the line is at or above the level

second-arm : (s : Side) → (s ≡ On) ⊎ (s ≡ Above) → T (at_or_above (side_of s))
unfolding side_of at_or_above
second-arm s (inl e) = rw e tt
second-arm s (inr e) = rw e tt

pub returns-in-On : goal.returns-in-On
unfolding time_of
returns-in-On c =
    let A = c.args in
    sym (reach_now (line_of A.l) A.level A.step c.requires.2.over A.turns.first (in-time (goal.at.returns-in-On c).Else-turns)
    (reached_is (line_of A.l) A.level (A.turns.first * A.step) (subst (λ z. T (at_or_above z)) (tells (goal.at.returns-in-On c).After-side-s) (second-arm c.side-s.result c.in-On.is))))
