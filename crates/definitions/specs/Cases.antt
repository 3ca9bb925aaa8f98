-- The trial traces of the scope that are marked to be proved, its report and the cases of the requests: one table, and one theorem that each case gives what is expected.
--
--     table                  a call and its result, for each case
--     table-holds            each call gives its result, by computation
--
-- Assumes nothing.
use Rattle.std.specs.Prelude.{◌≡◌, refl, ℕ, zero, suc, ◌+◌, length, drop, replicate, ℤ, pos, neg_ℤ}
use mathlib.Core.List.{List, [], ◌∷◌, ◌++◌, map, get_last_d}
use Rattle.integers.specs.Lists.{all, any, filter}
use Rattle.integers.specs.Sorting.{insert, sorted}
use Rattle.integers.specs.Rounding.{ceil_divℕ}
use Rattle.integers.specs.Least.{scan, first, first_by_ends}
use Rattle.integers.specs.Multiples.{from_turn, to_turn, first_multiple}
use Rattle.integers.specs.Gcd.{euclid, gcd}
use Rattle.integers.specs.LowestTerms.{common_divisor}
use Rattle.definitions.specs.Spans.{segment_room, corner_room, read_room, write_room, panel_room}
use Rattle.definitions.specs.Times.{none, at}
use Rattle.definitions.specs.Services.{Service, direction_of}
use Rattle.definitions.specs.Ranges.{Range, Lists, zip_ranges, ranges_of}
use Rattle.definitions.specs.Lines.{Line, reading, fits_range, fits, side_at, at_or_above, at_or_below, through, through_ends, candidates_from, candidates, has_line}
use Rattle.definitions.specs.Corners.{reduced, before, side, between, between_some, fitting, extreme, corner_order, corners}
use Rattle.definitions.specs.Splits.{cut_from, cut, last_run}
use Rattle.definitions.specs.Segments.{segments, running_after}
use Rattle.definitions.specs.Outlook.{passed, has_reached, some_time, all_time, Outlook, open_strip, lines, outlook_of, end_time, outlook}
use Rattle.definitions.specs.Results.{Segment, segment_of, segments_of, row_length}
use Rattle.definitions.specs.Answers.{Answer, refused, accepted, ◌>>=◌, firstRow}
use Rattle.definitions.specs.Trial.{outside, bad_address, bad_direction, bad_step, not_above, range_rows, ranges_rows, too_short, differ, list_rows, write_rows, segment_rows, latest_rows, corner_rows}
use Rattle.definitions.specs.FileNumbers.{word, bytes4, signed, unsigned}
use Rattle.definitions.specs.Binary32.{parts256, not_whole, in256ths}
use Rattle.definitions.specs.Readings.{low_bits, high_bits, reading_range, reading_rows, reading_in}
use Rattle.definitions.specs.FieldKinds.{field, field_tag, field_size, field_body, field_rest, field_rows, take_field, optional_by, optional, optional_field}
use Rattle.definitions.specs.HeaderFields.{address_of, address_body, level_of, direction_in, step_in, address_kind, level_kind, direction_kind, step_kind, read_header, write_header}
use Rattle.definitions.specs.TraceFile.{Trace, range_of, range_form, reading_tag, reading_form, form_of, range_kind, read_fields, read_file, write_ranges, write_file}
use Rattle.definitions.specs.Calls.{Fit, bounded, fit_of, corners_in, read_call, write_call, segment_call, corners_call}
use Rattle.definitions.specs.Previews.{longer, Effect, joins, begins, last_outlook, effect_of, preview_call}
use Rattle.definitions.specs.Latest.{latest_by, latest_run, Trend, trend_of, latest_call}
use Rattle.definitions.specs.Report.{ascii, digits_within, decimal, signed_decimal, time_text, line_text, outlook_text, span_text, segment_line, segment_lines, trace_line, refused_line, trace_text, report_text, report, report_room, report_call}
use Rattle.definitions.specs.Panels.{Panel, total_held, common_taken, is_at, either, held_by, zip_taken, taken, on_panel, kept, head_ranges, last_time, counted_in, occurrences, twice, outside_address, miscounted, bad_panel, not_panel, unknown, crowded}
use Rattle.definitions.specs.PanelCalls.{room_of, panel_rows, add_rows, bumped, entries_after, put_at, added, add_call, head_ranges_call}
use Rattle.definitions.specs.declared.entries.Entry.{Entry}

-- Segment with what is looked for and lists, Corners with k and lists, Read or the report with a file, Write with an address, what is looked for and no
-- ranges, Add with a panel, an address and a range, Head ranges with a panel and an address, Preview with what is looked for, lists and a range, or Latest with
-- what is looked for and lists; the slices to be filled are as long as they must be
pub data Call : Type 0 where
  segment : Service → Lists → Call
  corners_after : ℕ → Lists → Call
  read : List ℕ → Call
  write : ℕ → Service → Call
  print : List ℕ → Call
  add : Panel → ℕ → Range → Call
  ranges_at : Panel → ℕ → Call
  preview : Service → Lists → Range → Call
  latest : Service → Lists → Call

pub data Result : Type 0 where
  segmented : Answer (List Segment) → Result
  cornered : Answer Fit → Result
  opened : Answer Trace → Result
  written : Answer (List ℕ) → Result
  printed : Answer (List ℕ) → Result
  tried : Answer Panel → Result
  listed : Answer (List Range) → Result
  seen : Answer Effect → Result
  trended : Answer Trend → Result

pub run : Call → Result
run (segment v ls) = segmented (segment_call (replicate row_length segment_room) v ls)
run (corners_after k ls) = cornered (corners_call (replicate 3 corner_room) k ls)
run (read bs) = opened (read_call (replicate 3 read_room) bs)
run (write address v) = written (write_call (write_room ∷ []) (record { address = address; service = v }) (record { times = []; lows = []; highs = [] }))
run (print bs) = printed (report_call (report_room ∷ []) bs)
run (add s a r) = tried (add_call s a r)
run (ranges_at s a) = listed (head_ranges_call (replicate 3 panel_room) s a)
run (preview v ls r) = seen (preview_call v ls r)
run (latest v ls) = trended (latest_call (replicate 3 corner_room) v ls)

infix 85 ◌gives◌
pub data Case : Type 0 where
  ◌gives◌ : Call → Result → Case

pub call_of : Case → Call
call_of (c gives r) = c

pub result_of : Case → Result
result_of (c gives r) = r

-- ---- the traces and files of the table

abbrev minus : ℕ → ℤ
minus n = neg_ℤ (pos n)

abbrev line : ℤ → ℤ → ℤ → Line
line p q d = record { p = p; q = q; d = d }

-- what is looked for on a rising trace and on a falling one, at every second
abbrev rise : ℤ → Service
rise u = record { level = u; direction = 0; step = 1 }

abbrev fall : ℤ → Service
fall u = record { level = u; direction = 1; step = 1 }

-- the same at the multiples of a step
abbrev every : ℕ → Service → Service
every n v = record { level = v.level; direction = v.direction; step = n }

-- a number that stands for no direction
abbrev turned_to : ℕ → Service
turned_to n = record { level = pos 20; direction = n; step = 1 }

abbrev trace : List ℕ → List ℤ → List ℤ → Lists
trace ts us vs = record { times = ts; lows = us; highs = vs }

-- the trace of the report's example
abbrev sample : Lists
sample = trace (10 ∷ 20 ∷ 30 ∷ 40 ∷ 50 ∷ []) (pos 0 ∷ pos 4 ∷ pos 10 ∷ pos 9 ∷ pos 9 ∷ []) (pos 4 ∷ pos 8 ∷ pos 14 ∷ pos 11 ∷ pos 12 ∷ [])

-- the first three ranges of the sample, upside down: a fit with two corners below the diagonal
abbrev turned : Lists
turned = trace (10 ∷ 20 ∷ 30 ∷ []) (minus 4 ∷ minus 8 ∷ minus 14 ∷ []) (pos 0 ∷ minus 4 ∷ minus 10 ∷ [])

-- a beam head, whose signal falls: the sample with 40 − u for each value u, so that it is as far above the level 20 as the sample is below
abbrev beam : Lists
beam = trace (10 ∷ 20 ∷ 30 ∷ 40 ∷ 50 ∷ []) (pos 36 ∷ pos 32 ∷ pos 26 ∷ pos 29 ∷ pos 28 ∷ []) (pos 40 ∷ pos 36 ∷ pos 30 ∷ pos 31 ∷ pos 31 ∷ [])

-- three ranges that are points, the last at u
abbrev points : ℤ → Lists
points u = trace (0 ∷ 1 ∷ 2 ∷ []) (pos 0 ∷ pos 1 ∷ u ∷ []) (pos 0 ∷ pos 1 ∷ u ∷ [])

-- one range, from u to v
abbrev one : ℤ → ℤ → Lists
one u v = trace (0 ∷ []) (u ∷ []) (v ∷ [])

-- the field of level 20
abbrev level20 : List ℕ
level20 = 2 ∷ 0 ∷ 4 ∷ 0 ∷ 0 ∷ 0 ∷ 20 ∷ []

-- address 7 and level 20, with no range
abbrev header11 : List ℕ
header11 = 1 ∷ 0 ∷ 1 ∷ 7 ∷ level20

-- a field of tag 4 with one byte
abbrev direction_field : ℕ → List ℕ
direction_field d = 4 ∷ 0 ∷ 1 ∷ d ∷ []

-- a field of tag 5 with four bytes
abbrev step_field : ℕ → ℕ → ℕ → ℕ → List ℕ
step_field a b c d = 5 ∷ 0 ∷ 4 ∷ a ∷ b ∷ c ∷ d ∷ []

-- an address of two bytes and level 20, with no range
abbrev header12 : ℕ → ℕ → List ℕ
header12 a b = 1 ∷ 0 ∷ 2 ∷ a ∷ b ∷ level20

-- a range field with numbers below 256
abbrev range_field : ℕ → ℕ → ℕ → List ℕ
range_field t u v = 3 ∷ 0 ∷ 12 ∷ 0 ∷ 0 ∷ 0 ∷ t ∷ 0 ∷ 0 ∷ 0 ∷ u ∷ 0 ∷ 0 ∷ 0 ∷ v ∷ []

-- the report's file of 86 bytes
abbrev sample_file : List ℕ
sample_file = header11 ++ range_field 10 0 4 ++ range_field 20 4 8 ++ range_field 30 10 14 ++ range_field 40 9 11 ++ range_field 50 9 12

-- that of the beam head, of 90 bytes
abbrev beam_file : List ℕ
beam_file = header11 ++ direction_field 1 ++ range_field 10 36 40 ++ range_field 20 32 36 ++ range_field 30 26 30 ++ range_field 40 29 31 ++ range_field 50 28 31

-- the sample with a step of 25, of 93 bytes
abbrev stepped_file : List ℕ
stepped_file = header11 ++ step_field 0 0 0 25 ++ range_field 10 0 4 ++ range_field 20 4 8 ++ range_field 30 10 14 ++ range_field 40 9 11 ++ range_field 50 9 12

-- a field of tag 6 and one of tag 7, with a time below 256 and the bits of their values
abbrev spot_field : ℕ → ℕ → List ℕ
spot_field t b = 6 ∷ 0 ∷ 8 ∷ 0 ∷ 0 ∷ 0 ∷ t ∷ bytes4 b

abbrev span_field : ℕ → ℕ → ℕ → List ℕ
span_field t a b = 7 ∷ 0 ∷ 12 ∷ 0 ∷ 0 ∷ 0 ∷ t ∷ bytes4 a ++ bytes4 b

-- values in binary32: 1, 1.5 and 2; minus zero; a 256th and half of one
abbrev float1 : ℕ
float1 = 0x3f80_0000

abbrev float1½ : ℕ
float1½ = 0x3fc0_0000

abbrev float2 : ℕ
float2 = 0x4000_0000

abbrev minus_zero : ℕ
minus_zero = 0x8000_0000

abbrev float256th : ℕ
float256th = 0x3b80_0000

abbrev float512th : ℕ
float512th = 0x3b00_0000

-- 1,048,576, which is the end of the span, and the next above it; the largest of all
abbrev float_most : ℕ
float_most = 0x4980_0000

abbrev float_above : ℕ
float_above = 0x4980_0001

abbrev float_largest : ℕ
float_largest = 0x7f7f_ffff

abbrev infinite : ℕ
infinite = 0x7f80_0000

abbrev notANumber : ℕ
notANumber = 0x7fc0_0000

-- address 7 and level 640, which is 2.5 in 256ths; 0.5 at 10, 0.75 to 1.25 at 20, 1.5 at 30
abbrev logger_file : List ℕ
logger_file = 1 ∷ 0 ∷ 1 ∷ 7 ∷ 2 ∷ 0 ∷ 4 ∷ 0 ∷ 0 ∷ 2 ∷ 128 ∷ spot_field 10 0x3f00_0000 ++ span_field 20 0x3f40_0000 0x3fa0_0000 ++ spot_field 30 float1½

-- a signal that falls from 10 at time 0 to 9 at time 10
abbrev falls_back : Lists
falls_back = trace (0 ∷ 10 ∷ []) (pos 10 ∷ pos 9 ∷ []) (pos 10 ∷ pos 9 ∷ [])

-- at 9 from the first time to the last that there is
abbrev level9 : Lists
level9 = trace (0 ∷ 4294967295 ∷ []) (pos 9 ∷ pos 9 ∷ []) (pos 9 ∷ pos 9 ∷ [])

abbrev entry : ℕ → ℕ → Entry
entry a n = record { address = a; held = n }

abbrev range : ℕ → ℤ → ℤ → Range
range t u v = record { time = t; low = u; high = v }

-- a list of 4,096 entries that begins with these; the others are x
abbrev list_of : {A : Type 0} → List A → A → List A
list_of xs x = xs ++ drop (length xs) (replicate panel_room x)

-- a panel whose first places have these addresses, times, lows and highs
abbrev panel : List Entry → List ℕ → List ℕ → List ℤ → List ℤ → Panel
panel es bs ts us vs = record { entries = es; places = record { addresses = list_of bs 0; times = list_of ts 0; lows = list_of us (pos 0); highs = list_of vs (pos 4) } }

-- ranges of head 7 at 10 and 20, of head 9 at 15 and 30, in order of time, each from 0 to 4; with these entries
abbrev four : List Entry → Panel
four es = panel es (7 ∷ 9 ∷ 7 ∷ 9 ∷ []) (10 ∷ 15 ∷ 20 ∷ 30 ∷ []) [] []

abbrev seven_and_nine : List Entry
seven_and_nine = entry 7 2 ∷ entry 9 2 ∷ []

-- heads n to 1, which hold nothing
abbrev heads : ℕ → List Entry
heads zero = []
heads (suc n) = entry (suc n) 0 ∷ heads n

-- a panel on which nothing is held
abbrev started : List Entry → Panel
started es = panel es [] [] [] []

-- head 1 holds 32 ranges, head 2 so many
abbrev beside : ℕ → Panel
beside n = panel (entry 1 32 ∷ entry 2 n ∷ []) (replicate 32 1 ++ replicate n 2) [] [] []

-- the same where the list of highs is one entry too short
abbrev short : List Entry → Panel
short es = record { entries = es; places = record { addresses = list_of [] 0; times = list_of [] 0; lows = list_of [] (pos 0); highs = replicate 4095 (pos 4) } }

-- n ranges, all at time 0 and from 0 to 4
abbrev still : ℕ → Lists
still n = trace (replicate n 0) (replicate n (pos 0)) (replicate n (pos 4))

-- ---- what is expected

abbrev fit_is : List Line → Result
fit_is ls = cornered (accepted (bounded ls))

abbrev segments_are : List Segment → Result
segments_are ss = segmented (accepted ss)

abbrev part : ℕ → ℕ → ℕ → Outlook → Segment
part a b n o = record { first_time = a; last_time = b; count = n; outlook = o }

abbrev trace_is : ℕ → List Range → Result
trace_is address rs = opened (accepted (record { head = record { address = address; service = rise (pos 20) }; ranges = rs }))

abbrev falling_is : ℕ → List Range → Result
falling_is address rs = opened (accepted (record { head = record { address = address; service = fall (pos 20) }; ranges = rs }))

abbrev header_is : ℕ → Service → Result
header_is address v = opened (accepted (record { head = record { address = address; service = v }; ranges = [] }))

abbrev bytes_are : List ℕ → Result
bytes_are bytes = written (accepted bytes)

abbrev text_is : List ℕ → Result
text_is bytes = printed (accepted bytes)

abbrev panel_is : Panel → Result
panel_is s = tried (accepted s)

abbrev effect_is : Effect → Result
effect_is e = seen (accepted e)

abbrev trend_is : ℕ → Outlook → List Line → Result
trend_is n o ks = trended (accepted (record { ranges = n; outlook = o; corners = ks }))

-- ---- the table

pub table : List Case
table =
    corners_after 3 sample gives fit_is (line (pos 3) (pos 10) (pos 10) ∷ line (pos 2) (pos 0) (pos 5) ∷ line (pos 3) (minus 20) (pos 5) ∷ line (pos 7) (minus 70) (pos 10) ∷ line (pos 1) (minus 10) (pos 2) ∷ [])
    ∷ corners_after 5 sample gives fit_is (line (minus 1) (pos 95) (pos 5) ∷ line (pos 1) (pos 70) (pos 10) ∷ line (pos 3) (minus 30) (pos 10) ∷ line (pos 0) (pos 9) (pos 1) ∷ [])
    ∷ corners_after 3 turned gives fit_is (line (minus 7) (pos 70) (pos 10) ∷ line (minus 1) (pos 10) (pos 2) ∷ line (minus 3) (minus 10) (pos 10) ∷ line (minus 2) (pos 0) (pos 5) ∷ line (minus 3) (pos 20) (pos 5) ∷ [])
    ∷ segment (rise (pos 20)) sample gives segments_are
    (part 10 30 3 (lines (line (pos 3) (pos 10) (pos 10)) (line (pos 7) (minus 70) (pos 10)) (at 39) (at 64))
    ∷ part 40 50 2 (lines (line (minus 1) (pos 95) (pos 5)) (line (pos 3) (minus 30) (pos 10)) (at 77) none)
    ∷ [])
    ∷ corners_after 3 (points (pos 2)) gives fit_is (line (pos 1) (pos 0) (pos 1) ∷ [])
    ∷ segment (rise (pos 1)) (points (pos 3)) gives segments_are
    (part 0 1 2 (lines (line (pos 1) (pos 0) (pos 1)) (line (pos 1) (pos 0) (pos 1)) (at 1) (at 1))
    ∷ part 2 2 1 open_strip
    ∷ [])
    ∷ segment (rise (pos 20)) (trace [] [] []) gives segments_are []
    ∷ segment (rise (pos 20)) (trace (7 ∷ 7 ∷ []) (pos 0 ∷ pos 0 ∷ []) (pos 0 ∷ pos 0 ∷ [])) gives segmented (refused 6)
    ∷ segment (rise (pos 20)) (one (pos 1) (pos 0)) gives segmented (refused 5)
    ∷ segment (rise (pos 20)) (one (pos 0) (pos 268435456)) gives segments_are (part 0 0 1 open_strip ∷ [])
    ∷ segment (rise (pos 20)) (one (pos 0) (pos 268435457)) gives segmented (refused 4)
    ∷ read [] gives opened (refused 1)
    ∷ read header11 gives trace_is 7 []
    ∷ read sample_file gives trace_is 7 (ranges_of sample)
    ∷ read (header12 1 0) gives trace_is 256 []
    ∷ read (header12 255 255) gives trace_is 65535 []
    ∷ read (header12 0 255) gives opened (refused 4)
    ∷ read (1 ∷ 0 ∷ 3 ∷ 0 ∷ 1 ∷ 0 ∷ level20) gives opened (refused 3)
    ∷ write 255 (rise (pos 20)) gives bytes_are (1 ∷ 0 ∷ 1 ∷ 255 ∷ level20)
    ∷ write 256 (rise (pos 20)) gives bytes_are (header12 1 0)
    ∷ write 65543 (rise (pos 20)) gives written (refused 4)
    ∷ corners_after 0 sample gives cornered (refused 9)
    ∷ print sample_file gives text_is
    (ascii "detector 7 level 20 ranges 5 segments 2\n"
    ++ ascii "segment 1 from 10 to 30 ranges 3 slow 3 10 10 fast 7 -70 10 some 39 all 64\n"
    ++ ascii "segment 2 from 40 to 50 ranges 2 slow -1 95 5 fast 3 -30 10 some 77 all none\n")
    ∷ print (header11 ++ range_field 10 0 4) gives text_is (ascii "detector 7 level 20 ranges 1 segments 1\nsegment 1 from 10 to 10 ranges 1 open\n")
    ∷ print (header12 4 210) gives text_is (ascii "detector 1234 level 20 ranges 0 segments 0\n")
    ∷ print [] gives text_is (ascii "refused 1\n")
    ∷ add (four seven_and_nine) 7 (range 25 (pos 1) (pos 3)) gives panel_is
    (panel (entry 7 3 ∷ entry 9 2 ∷ []) (7 ∷ 9 ∷ 7 ∷ 9 ∷ 7 ∷ []) (10 ∷ 15 ∷ 20 ∷ 30 ∷ 25 ∷ []) (pos 0 ∷ pos 0 ∷ pos 0 ∷ pos 0 ∷ pos 1 ∷ []) (pos 4 ∷ pos 4 ∷ pos 4 ∷ pos 4 ∷ pos 3 ∷ []))
    ∷ add (four seven_and_nine) 7 (range 20 (pos 1) (pos 3)) gives tried (refused 6)
    ∷ add (four seven_and_nine) 65543 (range 25 (pos 4) (pos 3)) gives tried (refused 12)
    ∷ add (beside 2079) 1 (range 1 (pos 0) (pos 4)) gives panel_is (panel (entry 1 33 ∷ entry 2 2079 ∷ []) (replicate 32 1 ++ replicate 2079 2 ++ (1 ∷ [])) (replicate 2111 0 ++ (1 ∷ [])) [] [])
    ∷ add (beside 2080) 1 (range 1 (pos 0) (pos 4)) gives tried (refused 13)
    ∷ add (beside 2080) 1 (range 0 (pos 0) (pos 4)) gives tried (refused 6)
    ∷ add (beside 2081) 1 (range 1 (pos 0) (pos 4)) gives tried (refused 14)
    ∷ add (started []) 1 (range 1 (pos 0) (pos 4)) gives tried (refused 14)
    ∷ add (started (heads 64)) 65 (range 1 (pos 0) (pos 4)) gives tried (refused 12)
    ∷ add (started (heads 65)) 65 (range 1 (pos 0) (pos 4)) gives tried (refused 14)
    ∷ add (started (entry 7 0 ∷ entry 9 0 ∷ entry 7 0 ∷ [])) 9 (range 1 (pos 0) (pos 4)) gives tried (refused 14)
    ∷ add (started (entry 0 0 ∷ [])) 0 (range 1 (pos 0) (pos 4)) gives tried (refused 14)
    ∷ add (started (entry 65543 0 ∷ [])) 65543 (range 1 (pos 0) (pos 4)) gives tried (refused 14)
    ∷ add (short []) 1 (range 1 (pos 0) (pos 4)) gives tried (refused 8)
    ∷ add (four (entry 7 1 ∷ entry 9 3 ∷ [])) 8 (range 25 (pos 1) (pos 3)) gives tried (refused 14)
    ∷ add (four (entry 7 4294967295 ∷ entry 9 4294967295 ∷ [])) 8 (range 25 (pos 1) (pos 3)) gives tried (refused 14)
    ∷ ranges_at (four seven_and_nine) 7 gives listed (accepted (range 10 (pos 0) (pos 4) ∷ range 20 (pos 0) (pos 4) ∷ []))
    ∷ ranges_at (four seven_and_nine) 8 gives listed (refused 12)
    ∷ ranges_at (four (entry 7 1 ∷ entry 9 3 ∷ [])) 7 gives listed (refused 14)
    ∷ preview (rise (pos 20)) sample (range 60 (pos 13) (pos 16)) gives effect_is (joins (lines (line (pos 1) (pos 70) (pos 10)) (line (pos 3) (minus 30) (pos 10)) (at 77) (at 130)))
    ∷ preview (rise (pos 20)) sample (range 60 (pos 16) (pos 18)) gives effect_is (begins open_strip)
    ∷ preview (rise (pos 20)) (trace [] [] []) (range 0 (pos 0) (pos 4)) gives effect_is (begins open_strip)
    ∷ preview (rise (pos 9)) (one (pos 0) (pos 0)) (range 4 (pos 2) (pos 2)) gives effect_is (joins (lines (line (pos 1) (pos 0) (pos 2)) (line (pos 1) (pos 0) (pos 2)) (at 18) (at 18)))
    ∷ preview (rise (pos 20)) sample (range 50 (pos 13) (pos 16)) gives seen (refused 6)
    ∷ preview (rise (pos 20)) (one (pos 1) (pos 0)) (range 0 (pos 0) (pos 4)) gives seen (refused 5)
    ∷ preview (rise (pos 268435457)) (one (pos 1) (pos 0)) (range 0 (pos 0) (pos 4)) gives seen (refused 4)
    ∷ preview (rise (pos 20)) (still 4095) (range 0 (pos 1) (pos 0)) gives seen (refused 6)
    ∷ preview (rise (pos 268435457)) (still 4096) (range 0 (pos 1) (pos 0)) gives seen (refused 7)
    ∷ preview (rise (pos 20)) (still 5000) (range 0 (pos 1) (pos 0)) gives seen (refused 7)
    ∷ preview (rise (pos 20)) (trace (replicate 4096 0) (replicate 4095 (pos 0)) (replicate 4096 (pos 4))) (range 0 (pos 1) (pos 0)) gives seen (refused 10)
    ∷ segment (fall (pos 20)) beam gives segments_are
    (part 10 30 3 (lines (line (minus 7) (pos 470) (pos 10)) (line (minus 3) (pos 390) (pos 10)) (at 39) (at 64))
    ∷ part 40 50 2 (lines (line (minus 3) (pos 430) (pos 10)) (line (pos 1) (pos 105) (pos 5)) (at 77) none)
    ∷ [])
    ∷ segment (fall (pos 0)) sample gives segments_are
    (part 10 30 3 (lines (line (pos 3) (pos 10) (pos 10)) (line (pos 7) (minus 70) (pos 10)) none none)
    ∷ part 40 50 2 (lines (line (minus 1) (pos 95) (pos 5)) (line (pos 3) (minus 30) (pos 10)) (at 95) none)
    ∷ [])
    ∷ segment (fall (pos 10)) sample gives segments_are
    (part 10 30 3 (lines (line (pos 3) (pos 10) (pos 10)) (line (pos 7) (minus 70) (pos 10)) (at 30) none)
    ∷ part 40 50 2 (lines (line (minus 1) (pos 95) (pos 5)) (line (pos 3) (minus 30) (pos 10)) (at 50) none)
    ∷ [])
    ∷ segment (turned_to 2) (one (pos 1) (pos 0)) gives segmented (refused 4)
    ∷ segment (turned_to 256) (trace [] [] []) gives segmented (refused 4)
    ∷ segment (turned_to 2) (still 4097) gives segmented (refused 7)
    ∷ preview (fall (pos 20)) beam (range 60 (pos 24) (pos 27)) gives effect_is (joins (lines (line (minus 3) (pos 430) (pos 10)) (line (minus 1) (pos 330) (pos 10)) (at 77) (at 130)))
    ∷ preview (turned_to 2) (one (pos 1) (pos 0)) (range 0 (pos 0) (pos 4)) gives seen (refused 4)
    ∷ read (header11 ++ direction_field 1) gives falling_is 7 []
    ∷ read beam_file gives falling_is 7 (ranges_of beam)
    ∷ read (header11 ++ direction_field 0) gives opened (refused 4)
    ∷ read (header11 ++ direction_field 2) gives opened (refused 4)
    ∷ read (header11 ++ (4 ∷ 0 ∷ 1 ∷ [])) gives opened (refused 1)
    ∷ read (header11 ++ (4 ∷ 0 ∷ 2 ∷ 0 ∷ 1 ∷ [])) gives opened (refused 3)
    ∷ read (header11 ++ direction_field 1 ++ direction_field 1) gives opened (refused 2)
    ∷ read (header11 ++ range_field 10 36 40 ++ direction_field 1) gives opened (refused 2)
    ∷ read (1 ∷ 0 ∷ 1 ∷ 7 ∷ direction_field 1 ++ level20) gives opened (refused 2)
    ∷ write 7 (fall (pos 20)) gives bytes_are (header11 ++ direction_field 1)
    ∷ write 7 (turned_to 2) gives written (refused 4)
    ∷ print beam_file gives text_is
    (ascii "detector 7 level 20 ranges 5 segments 2\n"
    ++ ascii "segment 1 from 10 to 30 ranges 3 slow -7 470 10 fast -3 390 10 some 39 all 64\n"
    ++ ascii "segment 2 from 40 to 50 ranges 2 slow -3 430 10 fast 1 105 5 some 77 all none\n")
    ∷ latest (rise (pos 20)) sample gives trend_is 3 (lines (line (minus 1) (pos 95) (pos 5)) (line (pos 1) (pos 70) (pos 10)) (at 130) none) (line (minus 1) (pos 95) (pos 5) ∷ line (pos 1) (pos 70) (pos 10) ∷ line (minus 1) (pos 230) (pos 20) ∷ [])
    ∷ latest (fall (pos 20)) beam gives trend_is 3 (lines (line (minus 1) (pos 330) (pos 10)) (line (pos 1) (pos 105) (pos 5)) (at 130) none) (line (minus 1) (pos 330) (pos 10) ∷ line (pos 1) (pos 570) (pos 20) ∷ line (pos 1) (pos 105) (pos 5) ∷ [])
    ∷ latest (rise (pos 1)) (points (pos 2)) gives trend_is 3 (lines (line (pos 1) (pos 0) (pos 1)) (line (pos 1) (pos 0) (pos 1)) (at 2) (at 2)) (line (pos 1) (pos 0) (pos 1) ∷ [])
    ∷ latest (rise (pos 20)) (points (pos 3)) gives trend_is 2 (lines (line (pos 2) (minus 1) (pos 1)) (line (pos 2) (minus 1) (pos 1)) (at 11) (at 11)) (line (pos 2) (minus 1) (pos 1) ∷ [])
    ∷ latest (rise (pos 20)) (trace [] [] []) gives trend_is 0 open_strip []
    ∷ latest (rise (pos 20)) (one (pos 0) (pos 4)) gives trend_is 1 open_strip []
    ∷ latest (rise (pos 20)) (one (pos 1) (pos 0)) gives trended (refused 5)
    ∷ latest (turned_to 2) (one (pos 1) (pos 0)) gives trended (refused 4)
    ∷ latest (turned_to 2) (still 4097) gives trended (refused 7)
    ∷ segment (every 25 (rise (pos 20))) sample gives segments_are
    (part 10 30 3 (lines (line (pos 3) (pos 10) (pos 10)) (line (pos 7) (minus 70) (pos 10)) (at 50) (at 75))
    ∷ part 40 50 2 (lines (line (minus 1) (pos 95) (pos 5)) (line (pos 3) (minus 30) (pos 10)) (at 100) none)
    ∷ [])
    ∷ segment (every 86400 (fall (pos 20))) beam gives segments_are
    (part 10 30 3 (lines (line (minus 7) (pos 470) (pos 10)) (line (minus 3) (pos 390) (pos 10)) (at 86400) (at 86400))
    ∷ part 40 50 2 (lines (line (minus 3) (pos 430) (pos 10)) (line (pos 1) (pos 105) (pos 5)) (at 86400) none)
    ∷ [])
    ∷ segment (every 10 (rise (pos 9))) falls_back gives segments_are (part 0 10 2 (lines (line (minus 1) (pos 100) (pos 10)) (line (minus 1) (pos 100) (pos 10)) (at 10) (at 10)) ∷ [])
    ∷ segment (every 11 (rise (pos 9))) falls_back gives segments_are (part 0 10 2 (lines (line (minus 1) (pos 100) (pos 10)) (line (minus 1) (pos 100) (pos 10)) none none) ∷ [])
    ∷ segment (every 11 (fall (pos 9))) falls_back gives segments_are (part 0 10 2 (lines (line (minus 1) (pos 100) (pos 10)) (line (minus 1) (pos 100) (pos 10)) (at 11) (at 11)) ∷ [])
    ∷ segment (every 3 (rise (pos 9))) level9 gives segments_are (part 0 4294967295 2 (lines (line (pos 0) (pos 9) (pos 1)) (line (pos 0) (pos 9) (pos 1)) (at 4294967295) (at 4294967295)) ∷ [])
    ∷ segment (every 2 (rise (pos 9))) level9 gives segments_are (part 0 4294967295 2 (lines (line (pos 0) (pos 9) (pos 1)) (line (pos 0) (pos 9) (pos 1)) none none) ∷ [])
    ∷ segment (every 0 (rise (pos 20))) (one (pos 1) (pos 0)) gives segmented (refused 4)
    ∷ segment (every 86401 (rise (pos 20))) (trace [] [] []) gives segmented (refused 4)
    ∷ segment (every 0 (rise (pos 20))) (still 4097) gives segmented (refused 7)
    ∷ preview (every 60 (rise (pos 20))) sample (range 60 (pos 13) (pos 16)) gives effect_is (joins (lines (line (pos 1) (pos 70) (pos 10)) (line (pos 3) (minus 30) (pos 10)) (at 120) (at 180)))
    ∷ preview (every 0 (rise (pos 20))) (one (pos 1) (pos 0)) (range 0 (pos 0) (pos 4)) gives seen (refused 4)
    ∷ latest (every 60 (rise (pos 20))) sample gives trend_is 3 (lines (line (minus 1) (pos 95) (pos 5)) (line (pos 1) (pos 70) (pos 10)) (at 180) none) (line (minus 1) (pos 95) (pos 5) ∷ line (pos 1) (pos 70) (pos 10) ∷ line (minus 1) (pos 230) (pos 20) ∷ [])
    ∷ latest (every 86401 (rise (pos 20))) (one (pos 1) (pos 0)) gives trended (refused 4)
    ∷ read (header11 ++ step_field 0 0 0 2) gives header_is 7 (every 2 (rise (pos 20)))
    ∷ read (header11 ++ direction_field 1 ++ step_field 0 1 81 128) gives header_is 7 (every 86400 (fall (pos 20)))
    ∷ read (header11 ++ step_field 0 0 0 0) gives opened (refused 4)
    ∷ read (header11 ++ step_field 0 0 0 1) gives opened (refused 4)
    ∷ read (header11 ++ step_field 0 1 81 129) gives opened (refused 4)
    ∷ read (header11 ++ step_field 1 0 0 2) gives opened (refused 4)
    ∷ read (header11 ++ (5 ∷ 0 ∷ 4 ∷ 0 ∷ 0 ∷ 0 ∷ [])) gives opened (refused 1)
    ∷ read (header11 ++ (5 ∷ 0 ∷ 2 ∷ 0 ∷ 25 ∷ [])) gives opened (refused 3)
    ∷ read (header11 ++ step_field 0 0 0 25 ++ direction_field 1) gives opened (refused 2)
    ∷ read (header11 ++ step_field 0 0 0 25 ++ step_field 0 0 0 25) gives opened (refused 2)
    ∷ read (header11 ++ range_field 10 0 4 ++ step_field 0 0 0 25) gives opened (refused 2)
    ∷ read (1 ∷ 0 ∷ 1 ∷ 7 ∷ step_field 0 0 0 25 ++ level20) gives opened (refused 2)
    ∷ write 7 (every 28800 (rise (pos 20))) gives bytes_are (header11 ++ step_field 0 0 112 128)
    ∷ write 7 (every 86400 (fall (pos 20))) gives bytes_are (header11 ++ direction_field 1 ++ step_field 0 1 81 128)
    ∷ write 7 (every 0 (rise (pos 20))) gives written (refused 4)
    ∷ write 7 (every 86401 (rise (pos 20))) gives written (refused 4)
    ∷ print stepped_file gives text_is
    (ascii "detector 7 level 20 ranges 5 segments 2\n"
    ++ ascii "segment 1 from 10 to 30 ranges 3 slow 3 10 10 fast 7 -70 10 some 50 all 75\n"
    ++ ascii "segment 2 from 40 to 50 ranges 2 slow -1 95 5 fast 3 -30 10 some 100 all none\n")
    ∷ read logger_file gives opened (accepted (record { head = record { address = 7; service = rise (pos 640) }; ranges = range 10 (pos 128) (pos 128) ∷ range 20 (pos 192) (pos 320) ∷ range 30 (pos 384) (pos 384) ∷ [] }))
    ∷ read (header11 ++ direction_field 1 ++ step_field 0 0 0 25 ++ span_field 10 float1 float2) gives opened (accepted (record { head = record { address = 7; service = every 25 (fall (pos 20)) }; ranges = range 10 (pos 256) (pos 512) ∷ [] }))
    ∷ read (header11 ++ spot_field 10 minus_zero) gives trace_is 7 (range 10 (pos 0) (pos 0) ∷ [])
    ∷ read (header11 ++ span_field 10 0 minus_zero) gives trace_is 7 (range 10 (pos 0) (pos 0) ∷ [])
    ∷ read (header11 ++ span_field 10 (minus_zero + float256th) float256th) gives trace_is 7 (range 10 (minus 1) (pos 1) ∷ [])
    ∷ read (header11 ++ spot_field 10 float512th) gives opened (refused 11)
    ∷ read (header11 ++ spot_field 10 1) gives opened (refused 11)
    ∷ read (header11 ++ span_field 10 (minus_zero + float_most) float_most) gives trace_is 7 (range 10 (minus 268435456) (pos 268435456) ∷ [])
    ∷ read (header11 ++ spot_field 10 float_above) gives opened (refused 4)
    ∷ read (header11 ++ spot_field 10 float_largest) gives opened (refused 4)
    ∷ read (header11 ++ spot_field 10 (minus_zero + float_above)) gives opened (refused 4)
    ∷ read (header11 ++ spot_field 10 (minus_zero + float_largest)) gives opened (refused 4)
    ∷ read (header11 ++ spot_field 10 infinite) gives opened (refused 11)
    ∷ read (header11 ++ spot_field 10 (minus_zero + infinite)) gives opened (refused 11)
    ∷ read (header11 ++ spot_field 10 notANumber) gives opened (refused 11)
    ∷ read (header11 ++ spot_field 10 (infinite + 1)) gives opened (refused 11)
    ∷ read (header11 ++ span_field 10 float_above notANumber) gives opened (refused 4)
    ∷ read (header11 ++ span_field 10 notANumber float_above) gives opened (refused 11)
    ∷ read (header11 ++ span_field 10 float1 notANumber) gives opened (refused 11)
    ∷ read (header11 ++ span_field 10 float1 float_above) gives opened (refused 4)
    ∷ read (header11 ++ span_field 10 float2 float1) gives opened (refused 5)
    ∷ read (header11 ++ spot_field 10 float1 ++ spot_field 10 notANumber) gives opened (refused 11)
    ∷ read (header11 ++ spot_field 10 float1 ++ span_field 10 float2 notANumber) gives opened (refused 11)
    ∷ read (header11 ++ spot_field 10 float1 ++ span_field 10 float2 float1) gives opened (refused 5)
    ∷ read (header11 ++ span_field 10 float1 float2 ++ spot_field 10 float1) gives opened (refused 6)
    ∷ read (header11 ++ spot_field 10 float1 ++ range_field 20 0 4) gives opened (refused 2)
    ∷ read (header11 ++ span_field 10 float1 float2 ++ range_field 20 0 4) gives opened (refused 2)
    ∷ read (header11 ++ range_field 10 0 4 ++ spot_field 20 float1) gives opened (refused 2)
    ∷ read (header11 ++ range_field 10 0 4 ++ span_field 20 float1 float2) gives opened (refused 2)
    ∷ read (header11 ++ spot_field 10 float1 ++ direction_field 1) gives opened (refused 2)
    ∷ read (header11 ++ span_field 10 float1 float2 ++ step_field 0 0 0 25) gives opened (refused 2)
    ∷ read (header11 ++ (6 ∷ 0 ∷ 12 ∷ [])) gives opened (refused 3)
    ∷ read (header11 ++ (7 ∷ 0 ∷ 8 ∷ [])) gives opened (refused 3)
    ∷ read (header11 ++ (6 ∷ 0 ∷ 8 ∷ 0 ∷ 0 ∷ 0 ∷ 10 ∷ 127 ∷ 192 ∷ 0 ∷ [])) gives opened (refused 1)
    ∷ print logger_file gives text_is (ascii "detector 7 level 640 ranges 3 segments 1\nsegment 1 from 10 to 30 ranges 3 slow 64 0 5 fast 64 0 5 some 50 all 50\n")
    ∷ print (header11 ++ spot_field 10 notANumber) gives text_is (ascii "refused 11\n")
    ∷ []

pub table-holds : map (λ c. run (call_of c)) table ≡ map result_of table
unfolding table run call_of result_of all any filter reading fits_range fits side_at at_or_above at_or_below through through_ends candidates_from candidates has_line euclid gcd common_divisor reduced before side between between_some insert sorted fitting extreme get_last_d corner_order corners cut_from cut last_run segments running_after scan first_by_ends first ceil_divℕ from_turn to_turn first_multiple direction_of passed has_reached some_time all_time outlook_of end_time outlook segment_of segments_of ◌>>=◌ firstRow outside bad_address bad_direction bad_step not_above range_rows ranges_rows too_short zip_ranges ranges_of differ list_rows write_rows segment_rows latest_rows corner_rows word bytes4 signed unsigned field field_tag field_size field_body field_rest field_rows take_field optional_by optional optional_field address_of address_body level_of direction_in step_in address_kind level_kind direction_kind step_kind read_header write_header parts256 not_whole in256ths low_bits high_bits reading_range reading_rows reading_in range_of range_form reading_tag reading_form form_of range_kind read_fields read_file write_ranges write_file fit_of corners_in read_call write_call segment_call corners_call digits_within decimal signed_decimal time_text line_text outlook_text span_text segment_line segment_lines trace_line refused_line trace_text report_text report report_call total_held common_taken is_at either held_by zip_taken taken on_panel kept head_ranges last_time counted_in occurrences twice outside_address miscounted bad_panel not_panel unknown crowded room_of panel_rows add_rows bumped entries_after put_at added add_call head_ranges_call longer last_outlook effect_of preview_call latest_by latest_run trend_of latest_call
table-holds = refl
