-- When a line rises to a level at a multiple of a step, by the tests that tell it; and the mirror image of a line, as i64 computes it. `turn` steps are the time `turn * step`.
--
--     computed_pace, pace_is, pace_sizes   p·step as it is computed; that this is what it is; the bounds of its parts
--     reach-first                what is looked for from the first multiple on is looked for from the time on
--     reach_none                 never, where the first multiple is past the last time
--     reach_now                  at the first multiple, where the line is not below the level then
--     crossing_never             never, where it is below then and does not rise
--     pace_over                  p·step is above 0 where p is
--     crossing_of                 after how many steps p·t + q is the level's or more for a line that rises: (d·level − q)/(p·step) rounded up
--     crossing_nonneg            it is not below 0, where the line is below at the first multiple
--     crossing_in, crossing_time_in   where the multiple is a time, its number of steps is in the span of times, and so is the multiple
--     crossing_at, crossing_late it does after so many steps, or never where that is past the last time
--     is-falling                 a number of a direction that is not 0 stands for falling
--     looked-ahead               the outlook of two lines, from the lines and times that a program has of them
--     mirrored-by                the line with −p and −q, each as 0 − x, is the mirror image
--
-- Assumes nothing.
use Rattle.std.specs.Prelude.{◌≡◌, refl, [], ◌∷◌, ℕ, zero, suc, ◌*◌, ◌≤◌, ◌<◌, ℤ, nat_abs, ◌-ℤ◌, ◌*ℤ◌, ◌≤ℤ◌, ◌<ℤ◌}
use Rattle.std.proofs.Common.{sym, ◌∙◌, subst, arith}
use Rattle.std.proofs.Math.Path.{ap}
use Rattle.std.proofs.Math.Option.{Option, map}
use Rattle.std.proofs.Math.Nat as NatL
use Rattle.std.proofs.Math.IntN.{pos}
use Rattle.std.specs.Int.{w64}
use Rattle.integers.specs.Parts.{ints}
use Rattle.integers.specs.OrderLaws.{mul-pos}
use Rattle.integers.specs.Quotes.{quotes}
use Rattle.integers.specs.Certificates.{hyp, num, ◌⊠◌}
use Rattle.integers.specs.Solve.{claims, certify! }
use Rattle.integers.specs.Bounds.{Within, in_lit, in_up, in_neg, in_nonneg}
use Rattle.integers.specs.Machine.{Env, upto, ◌▹◌, end, machine_value!, reads, negated-is}
use Rattle.integers.specs.Rounding.{ceil_div}
use Rattle.integers.specs.Least.{IsLeast, nowhere, least_at, least-unique, least_iff, first_by_ends}
use Rattle.integers.specs.Multiples.{from_turn, to_turn, first_multiple, to_turns}
use Rattle.integers.proofs.Multiples.{multiple_turn, turns_least}
use Rattle.integers.specs.Crossing.{crossing, reach_never}
use Rattle.integers.proofs.Crossing.{crossing_after, reach_after, reach_too_late}
use Rattle.definitions.specs.Spans.{most_time, most_step}
use Rattle.definitions.specs.Times.{Time, none, at}
use Rattle.definitions.specs.Services.{Direction, falling, direction_of, Service}
use Rattle.definitions.specs.Lines.{Line, reading}
use Rattle.definitions.specs.Corners.{reduced}
use Rattle.definitions.specs.Fit.{Reaches}
use Rattle.definitions.specs.Outlook.{has_reached, lines}
use Rattle.lines.specs.OutlookTimes.{reach_time, rises, paced, paced-reading, paced-reaches}
use Rattle.lines.proofs.OutlookTimes.{reach_time_least}
use Rattle.lines.specs.RunOutlook.{leading, trailing}
use Rattle.trial_laws.specs.Accepted.{GoodStep}
use Rattle.values.specs.declared.Line.{Line as LineValue}
use Rattle.values.specs.Signed.{as_i64, read_back}
use Rattle.values.specs.Small.{Small, most_slope}
use Rattle.values.specs.Reach.{BelowAt, Mirrored, look_ahead}

-- ---- p·step in 64 bits

abbrev pub computed_pace : LineValue → ℤ → ℤ
computed_pace l x = as_i64 (as_i64 l.p *ℤ as_i64 x)

module _ {l : LineValue} {step : ℕ} {x : ℤ} (s : Small l) (g : GoodStep step) (is : x ≡ pos step) where
  pub pace_sizes : Env (l.p ∷ x ∷ []) (upto most_slope ∷ upto most_step ∷ [])
  pace_sizes = s.bounds.p_in ▹ rw is (in_up (in_lit (pos step)) g.most) ▹ end

  pub pace_is : computed_pace l x ≡ l.p *ℤ pos step
  pace_is =
      let e : computed_pace l x ≡ l.p *ℤ x = machine_value! pace_sizes (search reads depth 30) (search quotes depth 30) tt in
      e ∙ ap (λ z. l.p *ℤ z) is

-- ---- the first multiple

pub reach-first : (v : Service) → 0 < v.step → (from : ℕ) (l : Line) {turn : ℕ} {r : Time} → turn ≡ from_turn v.step from → r ≡ reach_time v (turn * v.step) l → r ≡ reach_time v from l
unfolding reach_time first_multiple
reach-first v over from l {turn} first is =
    is
    ∙ ap (λ k. map (λ j. j * v.step) (first_by_ends (λ j. has_reached v (j * v.step) l) k (to_turn v.step most_time))) (multiple_turn v.step over turn ∙ first)

-- ---- a line that rises

abbrev pub crossing_of : Line → ℤ → ℕ → ℤ
crossing_of l level step = ceil_div (l.d *ℤ level -ℤ l.q) (l.p *ℤ pos step)

not-above : (p s : ℤ) → pos 0 <ℤ s → p ≤ℤ pos 0 → (p *ℤ s) ≤ℤ pos 0
not-above p s = certify! (p ∷ s ∷ []) (search claims depth 40) (num 1) (hyp 0 ⊠ hyp 1) tt

pub pace_over : {p : ℤ} {step : ℕ} → 0 < step → pos 0 <ℤ p → pos 0 <ℤ (p *ℤ pos step)
pace_over over ascends = mul-pos ascends (omega ints)

module _ (l : Line) (level : ℤ) (step : ℕ) (over : 0 < step) (turn : ℕ) where
  -- what is least among the numbers of steps
  by_turns : {r : Option ℕ} → IsLeast (λ k. Reaches level k (paced step l)) turn (to_turn step most_time) r → reach_time (rises level step) (turn * step) l ≡ map (λ k. k * step) r
  by_turns {r} h =
      let counted = subst (λ k. IsLeast (λ j. Reaches level j (paced step l)) k (to_turn step most_time) r) (sym (multiple_turn step over turn)) h in
      least-unique (reach_time_least step over level (turn * step) l)
      (turns_least step over {P = λ t. Reaches level t l} (least_iff (λ k a b. ((paced-reaches step level l k).1, (paced-reaches step level l k).0)) counted))

  pub reach_none : to_turn step most_time < turn → reach_time (rises level step) (turn * step) l ≡ none
  reach_none late = by_turns (nowhere (λ k a b. absurd (omega arith)))

  pub reach_now : turn ≤ to_turn step most_time → (l.d *ℤ level) ≤ℤ reading l (turn * step) → reach_time (rises level step) (turn * step) l ≡ at (turn * step)
  reach_now in-time reached = by_turns (least_at turn (NatL.le_refl turn) in-time ((paced-reaches step level l turn).0 reached) (λ s a b. absurd (omega arith)))

  module _ (under : BelowAt l level (turn * step)) where
    paced_under : reading (paced step l) turn <ℤ (l.d *ℤ level)
    paced_under = subst (λ x. x <ℤ (l.d *ℤ level)) (sym (paced-reading step l turn)) under

    pub crossing_never : l.p ≤ℤ pos 0 → reach_time (rises level step) (turn * step) l ≡ none
    unfolding reading
    crossing_never falls = by_turns (reach_never (l.p *ℤ pos step) l.q (l.d *ℤ level) turn (to_turn step most_time) (not-above l.p (pos step) (omega ints) falls) paced_under)

    module _ (ascends : pos 0 <ℤ l.p) where
      is_crossing : crossing_of l level step ≡ pos (crossing (l.p *ℤ pos step) l.q (l.d *ℤ level))
      unfolding reading
      is_crossing = (crossing_after (l.p *ℤ pos step) l.q (l.d *ℤ level) turn (to_turn step most_time) (pace_over over ascends) paced_under).0

      pub crossing_nonneg : pos 0 ≤ℤ crossing_of l level step
      crossing_nonneg = rw is_crossing (omega ints)

      module _ (early : crossing_of l level step ≤ℤ pos (to_turn step most_time)) where
        crossing_size : nat_abs (crossing_of l level step) ≤ to_turn step most_time
        crossing_size = (in_nonneg crossing_nonneg early).within

        pub crossing_in : Within most_time (crossing_of l level step)
        unfolding to_turn
        crossing_in = record { within = NatL.le_trans crossing_size (NatL.div-le_self most_time step) }

        pub crossing_time_in : nat_abs (crossing_of l level step) * step ≤ most_time
        crossing_time_in = (to_turns step over most_time (nat_abs (crossing_of l level step))).1 crossing_size

        pub crossing_at : reach_time (rises level step) (turn * step) l ≡ at (nat_abs (crossing_of l level step) * step)
        unfolding reading
        crossing_at =
            let early-c : crossing (l.p *ℤ pos step) l.q (l.d *ℤ level) ≤ to_turn step most_time = omega (ints, is_crossing) in
            by_turns (reach_after (l.p *ℤ pos step) l.q (l.d *ℤ level) turn (to_turn step most_time) (pace_over over ascends) paced_under early-c)
            ∙ ap (λ z. at (nat_abs z * step)) (sym is_crossing)

      pub crossing_late : pos (to_turn step most_time) <ℤ crossing_of l level step → reach_time (rises level step) (turn * step) l ≡ none
      unfolding reading
      crossing_late late =
          let late-c : to_turn step most_time < crossing (l.p *ℤ pos step) l.q (l.d *ℤ level) = omega (ints, is_crossing) in
          by_turns (reach_too_late (l.p *ℤ pos step) l.q (l.d *ℤ level) turn (to_turn step most_time) (pace_over over ascends) late-c)

-- ---- two lines

pub is-falling : (n : ℕ) → ¬ (n ≡ 0) → direction_of n ≡ falling
unfolding direction_of
is-falling zero other = absurd (other refl)
is-falling (suc n) other = refl

pub looked-ahead : (slow fast : Line) (v : Service) (last : ℕ) (e : Direction) → direction_of v.direction ≡ e → {k l : Line} {some all : Time} → k ≡ reduced slow → l ≡ reduced fast
    → some ≡ reach_time v last (leading e slow fast) → all ≡ reach_time v last (trailing e slow fast) → lines k l some all ≡ look_ahead slow fast v last
looked-ahead slow fast v last e is slow_is fast_is some_is all_is =
    (λ i. lines (slow_is i) (fast_is i) (some_is i) (all_is i))
    ∙ sym (ap (λ d. lines (reduced slow) (reduced fast) (reach_time v last (leading d slow fast)) (reach_time v last (trailing d slow fast))) is)

-- ---- the mirror image as i64 computes it

pub mirrored-by : {l : LineValue} → Small l → Mirrored l (record { p = as_i64 (pos 0 -ℤ as_i64 l.p); q = as_i64 (pos 0 -ℤ as_i64 l.q); d = as_i64 l.d })
mirrored-by {l} s =
    let b = s.bounds in
    let ep = negated-is w64 b.p_in tt in
    let eq = negated-is w64 b.q_in tt in
    let ed = read_back w64 b.d_in tt in
    record {
      is = λ i. record { p = ep i; q = eq i; d = ed i };
      small = record { bounds = record { p_in = rw ep (in_neg b.p_in); q_in = rw eq (in_neg b.q_in); d_in = rw ed b.d_in }; d_above_0 = rw ed s.d_above_0 };
    }
