-- `fit::segment::Line::side` meets its contract: |p·t| ≤ 2^61, |q| ≤ 2^61 and |d·level| ≤ 2^60, and the two tests tell the three sides apart. Assumes nothing.
use mathlib.Core.Path.{◌≡◌, refl, sym}
use mathlib.Core.Bool.{Bool}
use lib.Signed.{lt_z}
use Rattle.definitions.specs.Lines.{side_at}
use Rattle.values.specs.Meanings.{line_of, side_of}
use Rattle.values.specs.Readings.{computed_reading, computed_scaled, reading_is, scaled_is}
use Rattle.values.specs.Sides.{told, side_by}
use Rattle.values.proofs.Line.side.Goals.{After-from-2}
use Rattle.values.proofs.Line.side.Goals as goal

-- the outcomes of the two tests tell the side

tells : (c : After-from-2) → {a b : Bool} → lt_z (computed_reading c.args.self c.from.result) (computed_scaled c.args.self c.from-2.result) ≡ a
    → lt_z (computed_scaled c.args.self c.from-2.result) (computed_reading c.args.self c.from.result) ≡ b → told a b ≡ side_at (line_of c.args.self) c.args.level c.args.time
tells c e f = sym (side_by (line_of c.args.self) c.args.level c.args.time (reading_is c.requires.0 c.ranges.time c.from.ensures) (scaled_is c.requires.0 c.requires.1 c.from-2.ensures) e f)

pub returns-then-reading-scaled : goal.returns-then-reading-scaled
unfolding side_of
returns-then-reading-scaled c = tells (goal.at.returns-then-reading-scaled c).After-from-2 c.if-reading-scaled.true refl

pub returns-then-scaled-reading : goal.returns-then-scaled-reading
unfolding side_of
returns-then-scaled-reading c = tells (goal.at.returns-then-scaled-reading c).After-from-2 c.if-reading-scaled.false c.if-scaled-reading.true

pub returns-else-scaled-reading : goal.returns-else-scaled-reading
unfolding side_of
returns-else-scaled-reading c = tells (goal.at.returns-else-scaled-reading c).After-from-2 c.if-reading-scaled.false c.if-scaled-reading.false
