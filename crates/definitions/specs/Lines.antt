-- Lines, and when they fit.
--
--     Line                   the scope's line: p, q, d, with the value (p·t + q)/d at t
--     reading                d times that value
--     fits_range, fits        the line fits a range, each of some ranges
--     Side, side_at           the line is below, at or above a level at a time
--     at_or_above, at_or_below   it is not below, it is not above
--     through                the line through two points
--     candidates             the lines through an end of one range and an end of a later one
--     has_line                some line fits each of the ranges
--
-- Whether any line fits is tried on the finite list of candidates; that this decides it for all whole p, q and d of any size is a theorem of `lines`.
-- Assumes nothing.
use Rattle.std.specs.Prelude.{ℕ, Bool, true, false, ◌&&◌, List, [], ◌∷◌, ◌++◌, ℤ, pos, ◌+ℤ◌, ◌-ℤ◌, ◌*ℤ◌}
use Rattle.std.specs.Int.Signed.{le_z, lt_z}
use Rattle.integers.specs.Lists.{all, any}
use Rattle.definitions.specs.Ranges.{Range}

pub record Line : Type 0 where
  pub p : ℤ
  pub q : ℤ
  pub d : ℤ

-- p·t + q
unfoldable pub reading : Line → ℕ → ℤ
reading l t = l.p *ℤ pos t +ℤ l.q

-- d·low ≤ p·t + q ≤ d·high
unfoldable pub fits_range : Line → Range → Bool
fits_range l r = le_z (l.d *ℤ r.low) (reading l r.time) && le_z (reading l r.time) (l.d *ℤ r.high)

unfoldable pub fits : List Range → Line → Bool
fits rs l = all (fits_range l) rs

-- ---- against a level

pub data Side : Type 0 where
  below : Side
  on : Side
  above : Side

-- p·t + q against d·level
unfoldable pub side_at : Line → ℤ → ℕ → Side
side_at l level t =
    elim (lt_z (reading l t) (l.d *ℤ level)) [
      | true ↦ below
      | false ↦ elim (lt_z (l.d *ℤ level) (reading l t)) [ true ↦ above | false ↦ on ]
    ]

unfoldable pub at_or_above : Side → Bool
at_or_above below = false
at_or_above on = true
at_or_above above = true

unfoldable pub at_or_below : Side → Bool
at_or_below below = true
at_or_below on = true
at_or_below above = false

-- ---- through two points

-- the line through u at time a and v at the later time b
unfoldable pub through : ℕ → ℤ → ℕ → ℤ → Line
through a u b v = record { p = v -ℤ u; q = u *ℤ pos b -ℤ v *ℤ pos a; d = pos b -ℤ pos a }

-- the four lines through an end of a range and an end of a later one
unfoldable pub through_ends : Range → Range → List Line
through_ends r s =
    through r.time r.high s.time s.low
    ∷ through r.time r.high s.time s.high
    ∷ through r.time r.low s.time s.low
    ∷ through r.time r.low s.time s.high
    ∷ []

unfoldable pub candidates_from : Range → List Range → List Line
candidates_from r [] = []
candidates_from r (s ∷ rs) = through_ends r s ++ candidates_from r rs

unfoldable pub candidates : List Range → List Line
candidates [] = []
candidates (r ∷ rs) = candidates_from r rs ++ candidates rs

-- ---- the fit is not empty

-- one range has lines of every slope, so there is nothing to try
unfoldable pub has_line : List Range → Bool
has_line [] = true
has_line (r ∷ []) = true
has_line (r ∷ s ∷ rs) = any (fits (r ∷ s ∷ rs)) (candidates (r ∷ s ∷ rs))
