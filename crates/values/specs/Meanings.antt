-- What the code's values stand for among the scope's terms: the definition of each case of an enum.
--
--     direction_number                                                  the number of a direction: 0 for rising and 1 for falling
--     line_of, service_of, side_of, time_of, outlook_of, segment_of     of a line, a service, a side, a time, an outlook and a segment; a name of the scope that the code has too ends in Term here
--
-- Assumes nothing.
use Rattle.std.specs.Prelude.{ℕ, Option, None, Some}
use Rattle.definitions.specs.Times.{none, at, Time as TimeTerm}
use Rattle.definitions.specs.Services.{Service as ServiceTerm}
use Rattle.definitions.specs.Lines.{below, on, above, Line as LineTerm, Side as SideTerm}
use Rattle.definitions.specs.Outlook.{open_strip, lines, Outlook as OutlookTerm}
use Rattle.definitions.specs.Results.{Segment as SegmentTerm}
use Rattle.values.specs.declared.Line.{Line}
use Rattle.values.specs.declared.Direction.{Direction}
use Rattle.values.specs.declared.Direction.TheVariants.{Rising, Falling}
use Rattle.values.specs.declared.Service.{Service}
use Rattle.values.specs.declared.Side.{Side}
use Rattle.values.specs.declared.Side.TheVariants.{Below, On, Above}
use Rattle.values.specs.declared.Outlook.{Outlook}
use Rattle.values.specs.declared.Outlook.TheVariants.{Open, Lines}
use Rattle.values.specs.declared.Segment.{Segment}

abbrev pub line_of : Line → LineTerm
line_of l = record { p = l.p; q = l.q; d = l.d }

abbrev pub direction_number : Direction → ℕ
direction_number Rising = 0
direction_number Falling = 1

abbrev pub service_of : Service → ServiceTerm
service_of v = record { level = v.level; direction = direction_number v.direction; step = v.step }

unfoldable pub side_of : Side → SideTerm
side_of Below = below
side_of On = on
side_of Above = above

unfoldable pub time_of : Option ℕ → TimeTerm
time_of None = none
time_of (Some t) = at t

unfoldable pub outlook_of : Outlook → OutlookTerm
outlook_of Open = open_strip
outlook_of (Lines slow fast some all) = lines (line_of slow) (line_of fast) (time_of some) (time_of all)

unfoldable pub segment_of : Segment → SegmentTerm
segment_of s = record { first_time = s.first_time; last_time = s.last_time; count = s.count; outlook = outlook_of s.outlook }
