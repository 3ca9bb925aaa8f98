-- Rows: the eleven numbers of a segment in code, the eight of an outlook, and the segment that eleven numbers tell.
--
--     outlook_row_of, row_of              the numbers of an outlook and of a segment in the code
--     time_from                         the time of a number: a number above every time stands for none
--     outlook_from                      the outlook of a row: one range is open, and more have two lines with two times
--     segment_from                      the segment of a row
--
-- `numbers_of` of the definitions goes the other way; that nothing is lost is in `RowLaws`.
-- Assumes nothing.
use Rattle.std.specs.Prelude.{ℕ, cond, ltb}
use Rattle.definitions.specs.Spans.{no_time}
use Rattle.definitions.specs.Times.{Time, none, at}
use Rattle.definitions.specs.Outlook.{Outlook, open_strip, lines}
use Rattle.definitions.specs.Results.{Segment, Numbers, OutlookNumbers}
use Rattle.values.specs.declared.rows.Row.{Row}
use Rattle.values.specs.declared.rows.OutlookRow.{OutlookRow}
use Rattle.values.specs.Meanings.{line_of}

abbrev pub outlook_row_of : OutlookRow → OutlookNumbers
outlook_row_of r = record { slow = line_of r.slow; fast = line_of r.fast; some = r.some; all = r.all }

abbrev pub row_of : Row → Numbers
row_of r =
    record {
      first_time = r.first_time;
      last_time = r.last_time;
      count = r.count;
      slow_p = r.outlook.slow.p;
      slow_q = r.outlook.slow.q;
      slow_d = r.outlook.slow.d;
      fast_p = r.outlook.fast.p;
      fast_q = r.outlook.fast.q;
      fast_d = r.outlook.fast.d;
      some = r.outlook.some;
      all = r.outlook.all;
    }

unfoldable pub time_from : ℕ → Time
time_from n = cond (ltb n no_time) (at n) none

unfoldable pub outlook_from : Numbers → Outlook
outlook_from n =
    cond (ltb n.count 2) open_strip
    (lines (record { p = n.slow_p; q = n.slow_q; d = n.slow_d }) (record { p = n.fast_p; q = n.fast_q; d = n.fast_d }) (time_from n.some) (time_from n.all))

unfoldable pub segment_from : Numbers → Segment
segment_from n = record { first_time = n.first_time; last_time = n.last_time; count = n.count; outlook = outlook_from n }
