-- The numbers that the scope fixes, each once.
--
--     most_value                        lows, highs and the service level run from −268,435,456 to 268,435,456
--     most_time, no_time                 times run from 0 to 4,294,967,295; the number after that stands for a time that there is not
--     most_ranges                       a trace has 0 to 4,096 ranges
--     least_address, most_address        a detector's address
--     most_direction                    a direction is the number 0 or 1
--     least_step, most_step              a step is 1 to 86,400 seconds
--     most_heads                        a panel has 1 to 64 entries
--     sure_places, common_places         each head is sure of 32 places; all heads share 2,048 more
--     read_room, write_room, segment_room, corner_room   the least length of each slice that a call fills
--     panel_room                        the least length of each list of a panel, and of each list into which a head's ranges go
--
-- Assumes nothing.
use Rattle.std.specs.Prelude.{ℕ}

abbrev pub most_value : ℕ
most_value = 268435456

abbrev pub most_time : ℕ
most_time = 4294967295

abbrev pub no_time : ℕ
no_time = 4294967296

abbrev pub most_ranges : ℕ
most_ranges = 4096

abbrev pub least_address : ℕ
least_address = 1

abbrev pub most_address : ℕ
most_address = 65535

abbrev pub most_direction : ℕ
most_direction = 1

abbrev pub least_step : ℕ
least_step = 1

abbrev pub most_step : ℕ
most_step = 86400

-- Read: times, lows and highs
abbrev pub read_room : ℕ
read_room = most_ranges

-- Write: the file's bytes, as many as the largest file has
abbrev pub write_room : ℕ
write_room = 61463

-- Segment: each of the eleven slices
abbrev pub segment_room : ℕ
segment_room = 2048

-- Corners and Latest: p, q and d
abbrev pub corner_room : ℕ
corner_room = 8192

-- ---- a panel

abbrev pub most_heads : ℕ
most_heads = 64

abbrev pub sure_places : ℕ
sure_places = 32

abbrev pub common_places : ℕ
common_places = 2048

-- as many places as there are: 64 · 32 + 2,048
abbrev pub panel_room : ℕ
panel_room = 4096
