-- The mirror image: when the image of a line has reached the image of the level. For a direction that is the number 0 or 1, as every accepted one is.
--
--     mirrored rs                      the images of the ranges
--     mirrored-mirrored                the image of the image is the ranges again
--
-- Further laws stand in proofs/Mirrored.antt.
-- Assumes nothing.
use Rattle.std.specs.Prelude.{◌≡◌, refl, ◌↔◌, List, [], ◌∷◌, map, ℕ, zero, suc, ◌≤◌, ℤ, pos, neg_ℤ, ◌*ℤ◌}
use Rattle.std.proofs.Common.{ap₂, arith}
use Rattle.std.proofs.Math.IntN.{neg_ℤ-neg_ℤ}
use Rattle.integers.specs.RingLaws.{*ℤ-neg}
use Rattle.integers.specs.OrderLaws.{neg_≤_iff}
use Rattle.integers.specs.Quotes.{quotes, ring! }
use Rattle.definitions.specs.Spans.{most_direction}
use Rattle.definitions.specs.Ranges.{Range}
use Rattle.definitions.specs.Services.{direction_of}
use Rattle.definitions.specs.Lines.{Line, reading}
use Rattle.definitions.specs.Mirrors.{mirrored_line, mirrored_range, opposite}
use Rattle.definitions.specs.Fit.{ReachedBy}

abbrev pub mirrored : List Range → List Range
mirrored rs = map mirrored_range rs

range-twice : (r : Range) → mirrored_range (mirrored_range r) ≡ r
range-twice r = λ i. record { time = r.time; low = neg_ℤ-neg_ℤ r.low i; high = neg_ℤ-neg_ℤ r.high i }

pub mirrored-mirrored : (rs : List Range) → mirrored (mirrored rs) ≡ rs
mirrored-mirrored [] = refl
mirrored-mirrored (r ∷ rs) = ap₂ (λ x xs. x ∷ xs) (range-twice r) (mirrored-mirrored rs)

-- ---- one line
reading-mirrored : (l : Line) (t : ℕ) → reading (mirrored_line l) t ≡ neg_ℤ (reading l t)
unfolding reading
reading-mirrored l t = ring! (l.p ∷ l.q ∷ pos t ∷ []) (search quotes depth 40) (search quotes depth 40) tt

pub reached_by_mirrored : (n : ℕ) → n ≤ most_direction → (l : Line) (level : ℤ) (t : ℕ)
    → ReachedBy (direction_of n) level t l ↔ ReachedBy (direction_of (opposite n)) (neg_ℤ level) t (mirrored_line l)
unfolding direction_of
reached_by_mirrored zero h l level t = rw (reading-mirrored l t, *ℤ-neg l.d level) (neg_≤_iff (l.d *ℤ level) (reading l t))
reached_by_mirrored (suc zero) h l level t = rw (reading-mirrored l t, *ℤ-neg l.d level) (neg_≤_iff (reading l t) (l.d *ℤ level))
reached_by_mirrored (suc (suc n)) h l level t = absurd (omega arith)
