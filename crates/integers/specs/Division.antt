-- The signed quotient and remainder of a machine, rounded toward zero, by products and bounds. `quot_z n d` and `rem_z n d` are the library's; d is positive.
--
--     quot-rem n d h         h : 0 < d gives quot_z n d · d + rem_z n d = n
--     rem_below, rem-above   rem_z n d < d and −d < rem_z n d: `rem_below n d h : rem_z n d <ℤ d`
--     rem-nonneg             0 ≤ rem_z n d where 0 ≤ n: `rem-nonneg n d k : pos 0 ≤ℤ rem_z n d`
--     in_quot, in_rem        neither is larger than n: `in_quot d h : Within A (quot_z n d)` from h : Within A n
--     bits_pos               the divisor is not 0, as the operation asks: `bits_pos w64 h : 0 < of_z w64 d`
--
-- Use: the quotient is no polynomial, so a proof lists `quot_z n d` and `rem_z n d` as integers of their own, with `quot-rem` and the bounds as facts.
-- Assumes nothing.
use Rattle.std.specs.Prelude.{◌≡◌, ℕ, suc, ◌*◌, ◌/◌, ◌%◌, ◌≤◌, ◌<◌, ℤ, pos, negsuc, neg_ℤ, nat_abs, ◌+ℤ◌, ◌*ℤ◌, ◌≤ℤ◌, ◌<ℤ◌}
use Rattle.std.proofs.Common.{◌∙◌, ap, arith, of_z}
use Rattle.std.proofs.Math.Nat as NatL
use Rattle.std.specs.Int.Signed.{quot_z, rem_z}
use Rattle.integers.specs.Parts.{parts_add, pos_part-neg, neg_part-neg, ints, ≡_fromℕ}
use Rattle.integers.specs.RingLaws.{neg-*ℤ}
use Rattle.integers.specs.Bounds.{Within, abs-neg-is}
use Rattle.std.specs.Int.{Width}

pub quot-rem : (n d : ℤ) → pos 0 <ℤ d → quot_z n d *ℤ d +ℤ rem_z n d ≡ n
quot-rem (pos a) (pos b) h = ap pos (NatL.div-add-mod' a b)
quot-rem (negsuc a) (pos b) h =
    ap (λ z. z +ℤ neg_ℤ (pos (suc a % b))) (neg-*ℤ (pos (suc a / b)) (pos b))
    ∙ ≡_fromℕ (neg_ℤ (pos (suc a / b * b)) +ℤ neg_ℤ (pos (suc a % b))) (negsuc a)
    (omega (arith, parts_add (neg_ℤ (pos (suc a / b * b))) (neg_ℤ (pos (suc a % b))), pos_part-neg (pos (suc a / b * b)), neg_part-neg (pos (suc a / b * b)), pos_part-neg (pos (suc a % b)), neg_part-neg (pos (suc a % b)), NatL.div-add-mod' (suc a) b))
quot-rem n (negsuc b) h = absurd h.lt

pub rem_below : (n d : ℤ) → pos 0 <ℤ d → rem_z n d <ℤ d
rem_below (pos a) (pos b) h = let k : 0 < b = omega ints in let l = NatL.mod-lt a k in omega ints
rem_below (negsuc a) (pos b) h = omega (ints, pos_part-neg (pos (suc a % b)), neg_part-neg (pos (suc a % b)))
rem_below n (negsuc b) h = absurd h.lt

pub rem-above : (n d : ℤ) → pos 0 <ℤ d → neg_ℤ d <ℤ rem_z n d
rem-above (pos a) (pos b) h = omega (ints, pos_part-neg (pos b), neg_part-neg (pos b))
rem-above (negsuc a) (pos b) h =
    let k : 0 < b = omega ints in
    omega (ints, pos_part-neg (pos b), neg_part-neg (pos b), pos_part-neg (pos (suc a % b)), neg_part-neg (pos (suc a % b)), NatL.mod-lt (suc a) k)
rem-above n (negsuc b) h = absurd h.lt

pub rem-nonneg : (n d : ℤ) → pos 0 ≤ℤ n → pos 0 ≤ℤ rem_z n d
rem-nonneg (pos a) d h = omega ints
rem-nonneg (negsuc a) d h = absurd h.le

quot_abs : (n d : ℤ) → nat_abs (quot_z n d) ≤ nat_abs n
quot_abs (pos a) (pos b) = NatL.div-le_self a b
quot_abs (pos a) (negsuc b) = omega (arith, abs-neg-is (pos (a / suc b)), NatL.div-le_self a (suc b))
quot_abs (negsuc a) (pos b) = omega (arith, abs-neg-is (pos (suc a / b)), NatL.div-le_self (suc a) b)
quot_abs (negsuc a) (negsuc b) = NatL.div-le_self (suc a) (suc b)

pub in_quot : {n : ℤ} {A : ℕ} (d : ℤ) → Within A n → Within A (quot_z n d)
in_quot {n} d h = record { within = omega (arith, quot_abs n d) }

rem-abs : (n d : ℤ) → nat_abs (rem_z n d) ≤ nat_abs n
rem-abs (pos a) d = NatL.mod-le a (nat_abs d)
rem-abs (negsuc a) d = omega (arith, abs-neg-is (pos (suc a % nat_abs d)), NatL.mod-le (suc a) (nat_abs d))

pub in_rem : {n : ℤ} {A : ℕ} (d : ℤ) → Within A n → Within A (rem_z n d)
in_rem {n} d h = record { within = omega (arith, rem-abs n d) }

pub bits_pos : {d : ℤ} (w : Width) → pos 0 <ℤ d → 0 < of_z w d
bits_pos {d = pos n} w h = omega ints
bits_pos {d = negsuc n} w h = absurd h.lt
