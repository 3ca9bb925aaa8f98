-- The fit as the scope means it: all lines of any size that fit some ranges. Nothing here computes; the theorems of `lines` say that the definitions that compute mean this.
--
--     FitsRange, InFit       the line fits a range; it is a line of the fit of some ranges
--     HasLine                some whole p, q and d, d above 0 and all of any size, fit each of the ranges
--     Ordered                no low is above its high, and times rise strictly: what is true of the ranges of a trace
--     SameLine               the same slope and the same intercept
--     SlopeBelow             one line's slope is below another's
--     IsMean, WeightedMean   weights are whole numbers, one to each line, none below 0 and not all 0; the mean is taken slope by slope and intercept by intercept
--     StrictlyBetween        a mean of two other lines, both with a weight above 0
--     Corner                 a line of the fit that is not strictly between two other lines of it
--     InCornerOrder          least slope, above the diagonal by rising slope, greatest slope, below the diagonal by falling slope
--     Reaches                at or above a level at a time
--     ReachedBy, Reached     the level is reached at a time: on a rising trace at or above it, on a falling one at or below
--     SomeReached, AllReached   of at least one line of the fit, of every line
--
-- Assumes nothing.
use Rattle.std.specs.Prelude.{◌≡◌, List, [], ◌∷◌, ◌++◌, reverse, ℕ, ◌+◌, ◌<◌, ℤ, pos, ◌+ℤ◌, ◌*ℤ◌, length, ◌≤ℤ◌, ◌<ℤ◌}
use Rattle.integers.specs.Lists.{All}
use Rattle.definitions.specs.Ranges.{Range}
use Rattle.definitions.specs.Services.{Direction, rising, falling, direction_of, Service}
use Rattle.definitions.specs.Lines.{Line, reading}
use Rattle.definitions.specs.Corners.{side}

-- ---- the fit

-- d·low ≤ p·t + q ≤ d·high
pub record FitsRange (l : Line) (r : Range) : Type 0 where
  pub over_low : (l.d *ℤ r.low) ≤ℤ reading l r.time
  pub under_high : reading l r.time ≤ℤ (l.d *ℤ r.high)

pub record InFit (rs : List Range) (l : Line) : Type 0 where
  pub positive : pos 0 <ℤ l.d
  pub each : All (FitsRange l) rs

pub record HasLine (rs : List Range) : Type 0 where
  pub line : Line
  pub fit : InFit rs line

abbrev pub Ordered : List Range → Type 0
Ordered [] = Unit
Ordered (r ∷ rs) = (r.low ≤ℤ r.high) × All (λ s. r.time < s.time) rs × Ordered rs

-- ---- lines against lines

pub record SameLine (k l : Line) : Type 0 where
  pub slope : k.p *ℤ l.d ≡ l.p *ℤ k.d
  pub intercept : k.q *ℤ l.d ≡ l.q *ℤ k.d

abbrev pub SlopeBelow : Line → Line → Type 0
SlopeBelow k l = (k.p *ℤ l.d) <ℤ (l.p *ℤ k.d)

-- ---- weighted means

pub record Fraction : Type 0 where
  pub num : ℤ
  pub den : ℤ

unfoldable pub total : List ℕ → ℕ
total [] = 0
total (w ∷ ws) = w + total ws

-- the sum of wᵢ · (f of the i-th line)/(its d), as one fraction
unfoldable pub weighted_sum : (Line → ℤ) → List ℕ → List Line → Fraction
weighted_sum f [] ls = record { num = pos 0; den = pos 1 }
weighted_sum f (w ∷ ws) [] = record { num = pos 0; den = pos 1 }
weighted_sum f (w ∷ ws) (l ∷ ls) =
    let s = weighted_sum f ws ls in
    record { num = pos w *ℤ f l *ℤ s.den +ℤ s.num *ℤ l.d; den = l.d *ℤ s.den }

-- the sum is (the total of the weights) · (f of l)/(l's d)
abbrev pub MeanOf : (Line → ℤ) → List ℕ → List Line → Line → Type 0
MeanOf f ws ls l = (weighted_sum f ws ls).num *ℤ l.d ≡ pos (total ws) *ℤ f l *ℤ (weighted_sum f ws ls).den

pub record IsMean (ws : List ℕ) (ls : List Line) (l : Line) : Type 0 where
  pub one_each : length ws ≡ length ls
  pub not_all-0 : 0 < total ws
  pub slope : MeanOf (λ k. k.p) ws ls l
  pub intercept : MeanOf (λ k. k.q) ws ls l

pub record WeightedMean (ls : List Line) (l : Line) : Type 0 where
  pub weights : List ℕ
  pub mean : IsMean weights ls l

pub record StrictlyBetween (j k l : Line) : Type 0 where
  pub first : ℕ
  pub second : ℕ
  pub first_over : 0 < first
  pub second_over : 0 < second
  pub mean : IsMean (first ∷ second ∷ []) (j ∷ k ∷ []) l
  pub not_first : SameLine j l → ⊥
  pub not-second : SameLine k l → ⊥

-- ---- corners

pub record Corner (rs : List Range) (l : Line) : Type 0 where
  pub fit : InFit rs l
  pub extreme : (j k : Line) → InFit rs j → InFit rs k → StrictlyBetween j k l → ⊥

abbrev pub RisingSlopes : List Line → Type 0
RisingSlopes [] = Unit
RisingSlopes (k ∷ []) = Unit
RisingSlopes (k ∷ l ∷ ls) = SlopeBelow k l × RisingSlopes (l ∷ ls)

pub data InCornerOrder : List Line → Type 0 where
  single : (l : Line) → InCornerOrder (l ∷ [])
  around : (slow : Line) (above : List Line) (fast : Line) (below : List Line)
      → RisingSlopes (slow ∷ above ++ (fast ∷ []))
      → RisingSlopes (slow ∷ reverse below ++ (fast ∷ []))
      → All (λ l. pos 0 <ℤ side slow fast l) above
      → All (λ l. side slow fast l <ℤ pos 0) below
      → InCornerOrder (slow ∷ above ++ (fast ∷ below))

-- ---- times

-- d·level ≤ p·t + q
abbrev pub Reaches : ℤ → ℕ → Line → Type 0
Reaches level t l = (l.d *ℤ level) ≤ℤ reading l t

-- falling: p·t + q ≤ d·level
abbrev pub ReachedBy : Direction → ℤ → ℕ → Line → Type 0
ReachedBy rising level t l = Reaches level t l
ReachedBy falling level t l = reading l t ≤ℤ (l.d *ℤ level)

abbrev pub Reached : Service → ℕ → Line → Type 0
Reached v t l = ReachedBy (direction_of v.direction) v.level t l

pub record SomeReached (rs : List Range) (v : Service) (t : ℕ) : Type 0 where
  pub line : Line
  pub fit : InFit rs line
  pub reached : Reached v t line

abbrev pub AllReached : List Range → Service → ℕ → Type 0
AllReached rs v t = (l : Line) → InFit rs l → Reached v t l
