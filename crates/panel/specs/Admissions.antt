-- What the functions below Add ask and promise.
--
--     answer_of        the answer with a number, where 0 stands for accepted
--     Within, Put      a place of all four lists; a range put there
--
-- Assumes nothing.
use Rattle.std.specs.Prelude.{ℕ, ◌<◌, ◌≡◌, Result, length, set}
use Rattle.definitions.specs.Ranges.{Range}
use Rattle.definitions.specs.Panels.{Places}
use Rattle.definitions.specs.declared.refusals.Refusal.{Refusal}
use Rattle.trial_laws.specs.RefusalNumbers.{answer_with}

abbrev pub answer_of : ℕ → Result Unit Refusal
answer_of n = answer_with tt n

-- a place of all four lists
pub record Within (at : ℕ) (p : Places) : Type 0 where
  pub in_addresses : at < length p.addresses
  pub in_times : at < length p.times
  pub in_lows : at < length p.lows
  pub in_highs : at < length p.highs

-- a range at a place, and all else as it was
pub record Put (at a : ℕ) (r : Range) (p p' : Places) : Type 0 where
  pub addresses : p'.addresses ≡ set p.addresses at a
  pub times : p'.times ≡ set p.times at r.time
  pub lows : p'.lows ≡ set p.lows at r.low
  pub highs : p'.highs ≡ set p.highs at r.high
