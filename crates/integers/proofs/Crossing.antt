-- Laws that rest on those of specs/Crossing.antt.
--
--     reaches_iff                             p above 0: it is reached at t exactly when crossing p q v ≤ t
--     reach_rising, reach_too_late            p above 0: the least is the larger of `from` and the crossing, and none if the crossing is past `to`
--     reach_after, crossing_after             p above 0, below v at `from`: the least is the crossing, which is after `from` and equal to ceil_div (v − q) p
--
-- Assumes nothing.
use Rattle.std.specs.Prelude.{◌≡◌, refl, ◌↔◌, ℕ, ◌<◌, ◌≤◌, max, ℤ, negsuc, ◌+ℤ◌, ◌-ℤ◌, ◌*ℤ◌, ◌<ℤ◌}
use Rattle.std.proofs.Common.{sym, arith}
use Rattle.std.proofs.Math.Option.{none, some}
use Rattle.std.proofs.Math.Nat as NatL
use Rattle.std.proofs.Math.IntN.{pos}
use Rattle.integers.specs.Parts.{ints, pos_part}
use Rattle.integers.specs.Rounding.{ceil_div}
use Rattle.integers.proofs.Rounding.{ceil_div_iff, ceil_div_above}
use Rattle.integers.specs.Least.{IsLeast, nowhere, least_at}
use Rattle.integers.specs.Crossing.{apart, apart-<, crossing, pos_part-le, Reaches, together}

module _ (p q v : ℤ) where
  pub reaches_iff : pos 0 <ℤ p → (t : ℕ) → Reaches p q v t ↔ (crossing p q v ≤ t)
  unfolding crossing
  reaches_iff h t =
      let c = ceil_div_iff (v -ℤ q) p h (pos t) in
      let n = pos_part-le (ceil_div (v -ℤ q) p) t in
      (λ r. n.0 (c.0 (apart p q v (pos t) r)), λ l. together p q v (pos t) (c.1 (n.1 l)))

  module _ (from to : ℕ) where
    pub reach_rising : pos 0 <ℤ p → from ≤ to → crossing p q v ≤ to → IsLeast (Reaches p q v) from to (some (max from (crossing p q v)))
    reach_rising h k l =
        let c = crossing p q v in
        least_at (max from c) (NatL.le-max_left from c) (NatL.max-le k l) ((reaches_iff h (max from c)).1 (NatL.le-max_right from c))
        (λ s f g r. let m = NatL.max-le f ((reaches_iff h s).0 r) in omega arith)

    pub reach_too_late : pos 0 <ℤ p → to < crossing p q v → IsLeast (Reaches p q v) from to none
    reach_too_late h k = nowhere (λ t f l r. let c = (reaches_iff h t).0 r in omega arith)

    pub crossing_after : pos 0 <ℤ p → (p *ℤ pos from +ℤ q) <ℤ v → ceil_div (v -ℤ q) p ≡ pos (crossing p q v) × (from < crossing p q v)
    unfolding crossing
    crossing_after h k = by (ceil_div (v -ℤ q) p) (ceil_div_above (v -ℤ q) p h (pos from) (apart-< p q v (pos from) k))
      where
        by : (z : ℤ) → pos from <ℤ z → (z ≡ pos (pos_part z)) × (from < pos_part z)
        by (pos n) g = (refl, omega ints)
        by (negsuc n) g = absurd g.lt

    pub reach_after : pos 0 <ℤ p → (p *ℤ pos from +ℤ q) <ℤ v → crossing p q v ≤ to → IsLeast (Reaches p q v) from to (some (crossing p q v))
    reach_after h k l = let a = (crossing_after h k).1 in rw (sym (NatL.max-eq_right {n = from} {m = crossing p q v} (omega arith))) (reach_rising h (omega arith) l)
