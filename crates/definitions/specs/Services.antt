-- What an outlook looks for.
--
--     Direction        which way the signal of a head drifts with dust
--     direction_of      the direction that a number stands for: 0 for rising, 1 for falling
--     Service          the service level, the number of the direction and the step; an outlook tells at which multiples of the step the level is reached
--
-- Assumes nothing.
use Rattle.std.specs.Prelude.{ℕ, zero, suc, ℤ}

pub data Direction : Type 0 where
  rising : Direction
  falling : Direction

-- a number above 1 is refused before this is asked
unfoldable pub direction_of : ℕ → Direction
direction_of zero = rising
direction_of (suc n) = falling

pub record Service : Type 0 where
  pub level : ℤ
  pub direction : ℕ
  pub step : ℕ
