-- When a line reaches a level at a multiple of a step, in the scope's terms.
--
--     BelowAt l level t              the line is below the level at t
--     Mirrored l r                   r is the mirror image of l, and within the bounds of lines as l is
--     TurnsFrom step from r          r has the first multiple of the step from `from` on, and the last one that is a time
--     look_ahead slow fast v last     the outlook of two lines, given in lowest terms: on a rising trace some when the fast one reaches the level and all when the slow one does, on a falling one the other way round
--
-- Assumes nothing.
use Rattle.std.specs.Prelude.{◌≡◌, ℕ, ℤ, ◌*ℤ◌, ◌<ℤ◌}
use Rattle.integers.specs.Multiples.{from_turn, to_turn}
use Rattle.definitions.specs.Spans.{most_time}
use Rattle.definitions.specs.Services.{Service, direction_of}
use Rattle.definitions.specs.Lines.{reading, Line as LineTerm}
use Rattle.definitions.specs.Mirrors.{mirrored_line}
use Rattle.definitions.specs.Corners.{reduced}
use Rattle.definitions.specs.Outlook.{Outlook, lines}
use Rattle.lines.specs.OutlookTimes.{reach_time}
use Rattle.lines.specs.RunOutlook.{leading, trailing}
use Rattle.values.specs.declared.Line.{Line}
use Rattle.values.specs.declared.reaching.Turns.{Turns}
use Rattle.values.specs.Meanings.{line_of}
use Rattle.values.specs.Small.{Small}

abbrev pub BelowAt : LineTerm → ℤ → ℕ → Type 0
BelowAt l level t = reading l t <ℤ (l.d *ℤ level)

pub record Mirrored (l r : Line) : Type 0 where
  pub is : line_of r ≡ mirrored_line (line_of l)
  pub small : Small r

pub record TurnsFrom (step from : ℕ) (r : Turns) : Type 0 where
  pub first-is : r.first ≡ from_turn step from
  pub last_is : r.last ≡ to_turn step most_time

abbrev pub look_ahead : LineTerm → LineTerm → Service → ℕ → Outlook
look_ahead slow fast v last =
    let e = direction_of v.direction in
    lines (reduced slow) (reduced fast) (reach_time v last (leading e slow fast)) (reach_time v last (trailing e slow fast))
