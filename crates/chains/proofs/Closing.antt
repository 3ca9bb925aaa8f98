-- Laws that rest on those of specs/Closing.antt.
--
--     closes_high, closes_low   slow is above r's high end, or fast is below r's low end: r closes rs
--     verdict  r joins, and the polygon is known again, or it closes
--     run-state              a run in order that has a line has its polygon
--
-- Assumes nothing.
use Rattle.std.proofs.Common.{subst, inl, inr, arith}
use Rattle.std.specs.Prelude.{refl, List, [], ◌∷◌, ◌⊎◌, ℕ, ◌<◌, ◌≤◌, pos, ◌≤ℤ◌, ◌<ℤ◌}
use Rattle.integers.specs.OrderLaws.{≤ℤ_or_<ℤ}
use Rattle.integers.specs.Lists.{All-head, All-tail}
use Rattle.definitions.specs.Ranges.{Range}
use Rattle.definitions.specs.Lines.{Line}
use Rattle.definitions.specs.Fit.{InFit}
use Rattle.chains.specs.Points.{gap, Touches}
use Rattle.chains.specs.Mirror.{neg_p, image_touches}
use Rattle.chains.specs.Ends.{H, L}
use Rattle.chains.specs.Chain.{Polygon}
use Rattle.chains.specs.State.{state-slow, state-fast, state_slow_ends, state_fast_ends}
use Rattle.chains.specs.Run.{Until, RunState, join}
use Rattle.chains.proofs.Run.{joined}
use Rattle.chains.proofs.Start.{started}
use Rattle.chains.specs.Closing.{Closed, closed_none, closed_of, closes, InOrder, joins, last-earlier, last_time, no_line-above, no_line-below, polygon_of, run-until, run_of, Verdict}

module _ (rs : List Range) (T : ℕ) (u : Until rs T) (r : Range) (le : T ≤ r.time) where
  module _ (x : Polygon) (z : RunState rs x) where
    pub closes_high : pos 0 <ℤ gap x.slow (H r) → Closed rs r
    closes_high h =
        let e = state_slow_ends x z in
        (closed_of rs T u r le) H L (λ i. refl) (λ i. refl) e.first e.second e.top e.bot e.rise
        (λ i j lt before p q.
        no_line-above x.slow i j r (state-slow x z).positive lt before (subst (Touches x.slow) p e.on_first) (subst (Touches x.slow) q e.on_second) h)

    pub closes_low : gap x.fast (L r) <ℤ pos 0 → Closed rs r
    closes_low h =
        let e = state_fast_ends x z in
        (closed_of rs T u r le) L H (λ i. refl) (λ i. refl) (neg_p e.first) (neg_p e.second) e.top e.bot e.rise
        (λ i j lt before p q.
        no_line-below x.fast i j r (state-fast x z).positive lt before (subst (Touches x.fast) p (image_touches x.fast e.first e.on_first)) (subst (Touches x.fast) q (image_touches x.fast e.second e.on_second)) h)

pub verdict : (rs : List Range) (T : ℕ) → Until rs T → (r : Range) → T < r.time → r.low ≤ℤ r.high → (x : Polygon) → RunState rs x → Verdict rs r x
verdict rs T u r lt ok x z = by (≤ℤ_or_<ℤ (gap x.slow (H r)) (pos 0)) (≤ℤ_or_<ℤ (pos 0) (gap x.fast (L r)))
  where
    le : T ≤ r.time
    le = omega arith

    by : (gap x.slow (H r) ≤ℤ pos 0) ⊎ (pos 0 <ℤ gap x.slow (H r)) → (pos 0 ≤ℤ gap x.fast (L r)) ⊎ (gap x.fast (L r) <ℤ pos 0) → Verdict rs r x
    by (inl h) (inl k) = joins (joined rs T u r lt ok x z h k)
    by (inl h) (inr k) = closes (closes_low rs T u r le x z k)
    by (inr h) k = closes (closes_high rs T u r le x z h)

pub run-state : (r s : Range) (ws : List Range) → InOrder (run_of r s ws) → (l : Line) → InFit (run_of r s ws) l → RunState (run_of r s ws) (polygon_of r s ws)
run-state r s [] o l f = started r s (All-head o.1) o.2.0 o.0
run-state r s (w ∷ ws) o l f =
    by (verdict (run_of r s ws) (last_time s ws) (run-until r s ws o.2) w (last-earlier r s ws w o.1) o.0 (polygon_of r s ws) (run-state r s ws o.2 l (record { positive = f.positive; each = All-tail f.each })))
  where
    by : Verdict (run_of r s ws) w (polygon_of r s ws) → RunState (w ∷ run_of r s ws) (join w (polygon_of r s ws))
    by (joins z) = z
    by (closes c) = absurd (closed_none (run_of r s ws) w c l f)
