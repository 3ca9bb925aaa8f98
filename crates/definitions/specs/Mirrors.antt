-- The mirror image of a trace and of what is looked for: level, lows and highs negated, lows and highs exchanged, the direction turned; the step stays.
--
--     mirrored_line             −p, −q and the same d
--     mirrored_range, mirrored_lists   a range, and the lists of a trace
--     opposite                 the number of the other direction; a number that stands for no direction stays
--     mirrored_service          what the image looks for
--     mirrored_outlook, mirrored_segment   each line the image of the other, slow for fast; the times stay
--     mirrored_numbers          the same of a row of segment results, where the zeros of an open one stay
--     mirrored_eight            the same of the numbers of an outlook by themselves
--     mirrored_effect           the same of a preview's effect
--
-- Assumes nothing.
use Rattle.std.specs.Prelude.{ℕ, zero, suc, map, neg_ℤ}
use Rattle.definitions.specs.Ranges.{Range, Lists}
use Rattle.definitions.specs.Services.{Service}
use Rattle.definitions.specs.Lines.{Line}
use Rattle.definitions.specs.Outlook.{Outlook, open_strip, lines}
use Rattle.definitions.specs.Results.{Segment, Numbers, OutlookNumbers}
use Rattle.definitions.specs.Previews.{Effect, joins, begins}

abbrev pub mirrored_line : Line → Line
mirrored_line l = record { p = neg_ℤ l.p; q = neg_ℤ l.q; d = l.d }

abbrev pub mirrored_range : Range → Range
mirrored_range r = record { time = r.time; low = neg_ℤ r.high; high = neg_ℤ r.low }

abbrev pub mirrored_lists : Lists → Lists
mirrored_lists ls = record { times = ls.times; lows = map neg_ℤ ls.highs; highs = map neg_ℤ ls.lows }

abbrev pub opposite : ℕ → ℕ
opposite zero = 1
opposite (suc zero) = 0
opposite (suc (suc n)) = suc (suc n)

abbrev pub mirrored_service : Service → Service
mirrored_service v = record { level = neg_ℤ v.level; direction = opposite v.direction; step = v.step }

-- ---- what is found

unfoldable pub mirrored_outlook : Outlook → Outlook
mirrored_outlook open_strip = open_strip
mirrored_outlook (lines slow fast at_some at_all) = lines (mirrored_line fast) (mirrored_line slow) at_some at_all

unfoldable pub mirrored_segment : Segment → Segment
mirrored_segment s = record { first_time = s.first_time; last_time = s.last_time; count = s.count; outlook = mirrored_outlook s.outlook }

unfoldable pub mirrored_numbers : Numbers → Numbers
mirrored_numbers n =
    record {
      first_time = n.first_time;
      last_time = n.last_time;
      count = n.count;
      slow_p = neg_ℤ n.fast_p;
      slow_q = neg_ℤ n.fast_q;
      slow_d = n.fast_d;
      fast_p = neg_ℤ n.slow_p;
      fast_q = neg_ℤ n.slow_q;
      fast_d = n.slow_d;
      some = n.some;
      all = n.all;
    }

abbrev pub mirrored_eight : OutlookNumbers → OutlookNumbers
mirrored_eight n = record { slow = mirrored_line n.fast; fast = mirrored_line n.slow; some = n.some; all = n.all }

unfoldable pub mirrored_effect : Effect → Effect
mirrored_effect (joins o) = joins (mirrored_outlook o)
mirrored_effect (begins o) = begins (mirrored_outlook o)
