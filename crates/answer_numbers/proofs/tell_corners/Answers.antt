-- Proof of `answer_numbers::tell_corners`, case by case. Assumes nothing.
use Rattle.std.proofs.Common.{◌≡◌, ap, refl, ℕ, Option, Some, None}
use Rattle.std.specs.Option.{unwrap_or}
use Rattle.drift.specs.CornersPromise.{counted, corners_meaning}
use Rattle.answer_numbers.specs.Told.{corner_number}
use Rattle.answer_numbers.specs.ToldLaws.{counts-accepted, counts-refused}
use Rattle.answer_numbers.proofs.tell_corners.Goals as goal

-- an open fit is told as no corners
none-as-zero : (corners : Option ℕ) → unwrap_or corners 0 ≡ corner_number (counted corners)
unfolding corner_number
none-as-zero None = refl
none-as-zero (Some n) = refl

pub returns-in-Ok : goal.returns-in-Ok
unfolding corners_meaning corner_number
returns-in-Ok c = rw (c.unwrap_or.ensures, none-as-zero c.in-Ok.corners) (counts-accepted (ap corners_meaning c.in-Ok.is) corner_number c.args.count.now)

pub returns-in-Err : goal.returns-in-Err
unfolding corners_meaning
returns-in-Err c = rw c.from.ensures (counts-refused (ap corners_meaning c.in-Err.is) corner_number c.args.count.now)
