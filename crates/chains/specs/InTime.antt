-- A run in the order of time against the same run with its last range first. The algorithm and its proofs have the last range first, since each range joins what came before; the scope and `Results` have the order of time. This is the one bridge.
--
--     run_turned              the run r, s, ws of the algorithm, for ws turned round, is the run r, s, ws turned round
--     all-turned, all_in_time   what holds of all ranges of the one holds of all ranges of the other
--     fits_turned, fits_in_time   so they have the same fit
--     in_turned, in_in_time    the same ranges
--     ordered-turned          a run in order is in order
--     run_end-until           no range is later than the last
--     ordered-last            a range after a run in order: its low is not above its high, and the run is earlier
--     end-earlier             so is the run's last time
--
-- Assumes nothing.
use Rattle.std.specs.Prelude.{◌≡◌, refl, ℕ, ◌<◌, ◌≤◌, ◌≤ℤ◌}
use Rattle.std.proofs.Common.{sym, ◌∙◌, ap, subst, arith}
use mathlib.Core.List.{List, [], ◌∷◌, ◌++◌, reverse, reverse_aux, reverse_aux-eq, reverse-reverse}
use Rattle.integers.specs.Lists.{In, in_reverse, in_reverse_inv, All, nil, cons, All-head, All-tail, All_imp₂, All_of, All-reverse, All_append_right}
use Rattle.definitions.specs.Ranges.{Range}
use Rattle.definitions.specs.Lines.{Line}
use Rattle.definitions.specs.Outlook.{end_time}
use Rattle.definitions.specs.Fit.{InFit, Ordered}
use Rattle.chains.specs.Run.{Until}
use Rattle.chains.specs.Closing.{run_of, Later, InOrder}

run-append : (r s : Range) (vs : List Range) → run_of r s vs ≡ vs ++ (s ∷ r ∷ [])
run-append r s [] = refl
run-append r s (v ∷ vs) = ap (λ rs. v ∷ rs) (run-append r s vs)

module _ (r s : Range) (ws : List Range) where
  run_turned : run_of r s (reverse ws) ≡ reverse (r ∷ s ∷ ws)
  run_turned = run-append r s (reverse ws) ∙ sym (reverse_aux-eq ws (s ∷ r ∷ []))

  pub all-turned : {P : Range → Type 0} → All P (r ∷ s ∷ ws) → All P (run_of r s (reverse ws))
  all-turned {P} h = subst (All P) (sym run_turned) (All-reverse h)

  pub all_in_time : {P : Range → Type 0} → All P (run_of r s (reverse ws)) → All P (r ∷ s ∷ ws)
  all_in_time {P} h = subst (All P) (reverse-reverse (r ∷ s ∷ ws)) (All-reverse (subst (All P) run_turned h))

  pub fits_turned : {l : Line} → InFit (r ∷ s ∷ ws) l → InFit (run_of r s (reverse ws)) l
  fits_turned f = record { positive = f.positive; each = all-turned f.each }

  pub fits_in_time : {l : Line} → InFit (run_of r s (reverse ws)) l → InFit (r ∷ s ∷ ws) l
  fits_in_time f = record { positive = f.positive; each = all_in_time f.each }

  pub in_turned : (q : Range) → In q (r ∷ s ∷ ws) → In q (run_of r s (reverse ws))
  in_turned q i = subst (In q) (sym run_turned) (in_reverse i)

  pub in_in_time : (q : Range) → In q (run_of r s (reverse ws)) → In q (r ∷ s ∷ ws)
  in_in_time q i = in_reverse_inv (r ∷ s ∷ ws) (subst (In q) run_turned i)

-- ---- the order of times
-- the ranges rs, in order and later than the ranges `onto`
order-onto : (rs onto : List Range) → Ordered rs → InOrder onto → All (λ q. Later q onto) rs → InOrder (reverse_aux rs onto)
order-onto [] onto o p e = p
order-onto (r ∷ rs) onto o p e = order-onto rs (r ∷ onto) o.2 (o.0, All-head e, p) (All_imp₂ (λ q h k. cons h k) o.1 (All-tail e))

pub ordered-turned : (r s : Range) (ws : List Range) → Ordered (r ∷ s ∷ ws) → InOrder (run_of r s (reverse ws))
ordered-turned r s ws o = subst InOrder (sym (run_turned r s ws)) (order-onto (r ∷ s ∷ ws) [] o tt (All_of (r ∷ s ∷ ws) (λ q i. nil)))

later-until : (i j k : ℕ) → i < j → j ≤ k → i ≤ k
later-until i j k h l = omega arith

end-until : (r : Range) (rs : List Range) → Ordered (r ∷ rs) → Until (r ∷ rs) (end_time r rs)
unfolding end_time
end-until r [] o = cons {x = r} (omega arith) nil
end-until r (s ∷ rs) o = let u = end-until s rs o.2 in cons (later-until r.time s.time (end_time s rs) (All-head o.1) (All-head u)) u

-- the last of two or more
pub run_end-until : (r s : Range) (ws : List Range) → Ordered (r ∷ s ∷ ws) → Until (r ∷ s ∷ ws) (end_time s ws)
unfolding end_time
run_end-until r s ws o = end-until r (s ∷ ws) o

pub ordered-last : (rs : List Range) (w : Range) → Ordered (rs ++ (w ∷ [])) → (w.low ≤ℤ w.high) × Later w rs
ordered-last [] w o = (o.0, nil)
ordered-last (r ∷ rs) w o = let k = ordered-last rs w o.2 in (k.0, cons (All-head (All_append_right rs (w ∷ []) o.1)) k.1)

earlier-end : (r : Range) (rs : List Range) (w : Range) → Later w (r ∷ rs) → end_time r rs < w.time
unfolding end_time
earlier-end r [] w h = All-head h
earlier-end r (s ∷ rs) w h = earlier-end s rs w (All-tail h)

pub end-earlier : (r s : Range) (ws : List Range) (w : Range) → Later w (r ∷ s ∷ ws) → end_time s ws < w.time
end-earlier r s ws w h = earlier-end s ws w (All-tail h)
