-- A time, or none: the library's Option of natural numbers. The scope's *some* and *all* are each one of the two; so is the time of the range before, which the first range lacks.
-- Assumes nothing.
use Rattle.std.specs.Prelude.{ℕ}
use Rattle.std.proofs.Math.Option.{Option}
pub use Rattle.std.proofs.Math.Option.{none, some as at}

abbrev pub Time : Type 0
Time = Option ℕ
