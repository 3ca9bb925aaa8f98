-- What the contracts of the examples say: points (time, value), lines and ranges, over ℤ.
--
--     largest, last_time                 the bounds of a value and of a time
--     Value u, Time t                   |u| ≤ largest, ends included; 0 ≤ t ≤ last_time
--     Points a u b v                    two points, (a, u) before (b, v)
--     line_through a u b v               the line through them
--     scaled l t                        d times the line's value at t, which is p · t + q
--     Small l                           |p| ≤ 2^29, |q| ≤ 2^61, 0 < d < 2^32, as of a line through two points
--     side_of l t u                      whether a line is below, at or above a point
--     less_steep l m                     whether the slope of l is below that of m
--     fits_range l t low high            whether a line's value at t is between two ends
--     sign_of z                          −1, 0 or 1
-- Assumes nothing.
use Rattle.std.specs.Prelude.{Bool, true, false, ◌&&◌, ℕ, zero, suc, ℤ, pos, negsuc, ◌+ℤ◌, ◌-ℤ◌, ◌*ℤ◌, ◌≤ℤ◌, ◌<ℤ◌}
use Rattle.std.specs.Int.Signed.{le_z, lt_z}
use Rattle.integers.specs.Bounds.{Within}
use Rattle.arithmetic_examples.specs.declared.Line.{Line}
use Rattle.arithmetic_examples.specs.declared.Side.{Side}
use Rattle.arithmetic_examples.specs.declared.Side.TheVariants.{Below, At, Above}

abbrev pub largest : ℕ
largest = 268435456

abbrev pub last_time : ℕ
last_time = 4294967295

abbrev pub Value : ℤ → Type 0
Value u = Within largest u

pub record Time (t : ℤ) : Type 0 where
  pub since : pos 0 ≤ℤ t
  pub until : t ≤ℤ pos last_time

pub record Points (a u b v : ℤ) : Type 0 where
  pub first_time_is : Time a
  pub first_value : Value u
  pub second_time : Time b
  pub second_value : Value v
  pub in_order : a <ℤ b

abbrev pub line_through : ℤ → ℤ → ℤ → ℤ → Line
line_through a u b v = record { p = v -ℤ u; q = u *ℤ b -ℤ v *ℤ a; d = b -ℤ a }

pub record Small (l : Line) : Type 0 where
  pub slope : Within 536870912 l.p
  pub offset : Within 2305843009213693952 l.q
  pub positive : pos 0 <ℤ l.d
  pub shorter : l.d ≤ℤ pos last_time

abbrev pub scaled : Line → ℤ → ℤ
scaled l t = l.p *ℤ t +ℤ l.q

-- the first test that holds
abbrev pick : Bool → Bool → Side
pick true b = Below
pick false true = Above
pick false false = At

abbrev pub side_of : Line → ℤ → ℤ → Side
side_of l t u = pick (lt_z (scaled l t) (l.d *ℤ u)) (lt_z (l.d *ℤ u) (scaled l t))

abbrev pub less_steep : Line → Line → Bool
less_steep l m = lt_z (l.p *ℤ m.d) (m.p *ℤ l.d)

abbrev pub fits_range : Line → ℤ → ℤ → ℤ → Bool
fits_range l t low high = le_z (l.d *ℤ low) (scaled l t) && le_z (scaled l t) (l.d *ℤ high)

abbrev pub sign_of : ℤ → ℤ
sign_of (pos zero) = pos 0
sign_of (pos (suc n)) = pos 1
sign_of (negsuc n) = negsuc 0
