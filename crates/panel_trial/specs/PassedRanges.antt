-- A range that is passed on to a function: its low and high go as machine words, and are read back as they were.
--
--     passed_on      the range as the function reads it
--     read_back      it is the range
--
-- Assumes nothing.
use Rattle.std.specs.Prelude.{◌≡◌}
use Rattle.std.proofs.Common.{ap₂, to_z, of_z, SFits, to_z-of_z}
use Rattle.std.specs.Int.{w32}
use Rattle.definitions.specs.Ranges.{Range}

abbrev pub passed_on : Range → Range
passed_on r = record { time = r.time; low = to_z w32 (of_z w32 r.low); high = to_z w32 (of_z w32 r.high) }

pub read_back : (r : Range) → SFits w32 r.low → SFits w32 r.high → passed_on r ≡ r
read_back r low high = ap₂ (λ u v. record { time = r.time; low = u; high = v }) (to_z-of_z low) (to_z-of_z high)
