-- The segment results: for each segment eleven numbers, one in each of the lent slices.
--
--     Segment, segment_of     first and last time, number of ranges and outlook of a run
--     time_number             the number of a time: 4,294,967,296 stands for none
--     Numbers, numbers_of     the row of a segment, its eleven numbers; an open segment has 0 in the last eight
--     OutlookNumbers, outlook_numbers, last_eight   the numbers of an outlook, by its two lines and two times, 0 in each where it is open; the last eight of a row as such
--     row_length              how many numbers a row has, and so how many slices Segment fills
--
-- Assumes nothing.
use Rattle.std.specs.Prelude.{ℕ, List, [], ◌∷◌, map, length, ℤ, pos}
use Rattle.definitions.specs.Spans.{no_time}
use Rattle.definitions.specs.Ranges.{Range}
use Rattle.definitions.specs.Times.{Time, none, at}
use Rattle.definitions.specs.Services.{Service}
use Rattle.definitions.specs.Lines.{Line}
use Rattle.definitions.specs.Segments.{segments}
use Rattle.definitions.specs.Outlook.{Outlook, open_strip, lines, outlook, end_time}

pub record Segment : Type 0 where
  pub first_time : ℕ
  pub last_time : ℕ
  pub count : ℕ
  pub outlook : Outlook

-- a run has at least one range
unfoldable pub segment_of : Service → List Range → Segment
segment_of v [] = record { first_time = 0; last_time = 0; count = 0; outlook = open_strip }
segment_of v (r ∷ rs) = record { first_time = r.time; last_time = end_time r rs; count = length (r ∷ rs); outlook = outlook v (r ∷ rs) }

unfoldable pub segments_of : Service → List Range → List Segment
segments_of v rs = map (segment_of v) (segments rs)

-- the number that stands for a time
unfoldable pub time_number : Time → ℕ
time_number none = no_time
time_number (at t) = t

-- ---- what a segment's numbers tell of its outlook: an open one has 0 for each

abbrev zeros : Line
zeros = record { p = pos 0; q = pos 0; d = pos 0 }

unfoldable pub slow_line : Outlook → Line
slow_line open_strip = zeros
slow_line (lines slow fast at_some at_all) = slow

unfoldable pub fast_line : Outlook → Line
fast_line open_strip = zeros
fast_line (lines slow fast at_some at_all) = fast

unfoldable pub some_number : Outlook → ℕ
some_number open_strip = 0
some_number (lines slow fast at_some at_all) = time_number at_some

unfoldable pub all_number : Outlook → ℕ
all_number open_strip = 0
all_number (lines slow fast at_some at_all) = time_number at_all

-- ---- the row of a segment, in the order of the slices

pub record Numbers : Type 0 where
  pub first_time : ℕ
  pub last_time : ℕ
  pub count : ℕ
  pub slow_p : ℤ
  pub slow_q : ℤ
  pub slow_d : ℤ
  pub fast_p : ℤ
  pub fast_q : ℤ
  pub fast_d : ℤ
  pub some : ℕ
  pub all : ℕ

-- how many numbers a row has
abbrev pub row_length : ℕ
row_length = 11

unfoldable pub numbers_of : Segment → Numbers
numbers_of s =
    record {
      first_time = s.first_time;
      last_time = s.last_time;
      count = s.count;
      slow_p = (slow_line s.outlook).p;
      slow_q = (slow_line s.outlook).q;
      slow_d = (slow_line s.outlook).d;
      fast_p = (fast_line s.outlook).p;
      fast_q = (fast_line s.outlook).q;
      fast_d = (fast_line s.outlook).d;
      some = some_number s.outlook;
      all = all_number s.outlook;
    }

-- ---- the numbers of an outlook by themselves

pub record OutlookNumbers : Type 0 where
  pub slow : Line
  pub fast : Line
  pub some : ℕ
  pub all : ℕ

abbrev pub outlook_numbers : Outlook → OutlookNumbers
outlook_numbers o = record { slow = slow_line o; fast = fast_line o; some = some_number o; all = all_number o }

abbrev pub last_eight : Numbers → OutlookNumbers
last_eight n = record { slow = record { p = n.slow_p; q = n.slow_q; d = n.slow_d }; fast = record { p = n.fast_p; q = n.fast_q; d = n.fast_d }; some = n.some; all = n.all }
