-- A segment is told by its row: `segment_from` turns `numbers_of` round, for every segment of a trace and a service that is not refused.
--
--     Telling n o            of an outlook o of n ranges: open has fewer than two, lines have two or more, and a time is in its span
--     time-back              a time from its number
--     row_back               a segment from its row, where its outlook is told by its number of ranges
--     run-back, rows_back    the segment of a run that has a line, and each segment of a trace
--
-- Assumes nothing.
use Rattle.std.specs.Prelude.{ℕ, zero, suc, ◌≤◌, ◌<◌, ◌≡◌, refl, List, [], ◌∷◌, length, get_or}
use Rattle.std.proofs.Common.{sym, ap₂, subst, arith, lt-ltb, le-ltb}
use Rattle.std.proofs.Math.Option.{none, some}
use Rattle.integers.specs.Least.{IsLeast, least_at}
use Rattle.definitions.specs.Services.{Service}
use Rattle.definitions.specs.Spans.{most_time, no_time}
use Rattle.definitions.specs.Times.{Time}
use Rattle.definitions.specs.Ranges.{Range}
use Rattle.definitions.specs.Fit.{HasLine, Ordered}
use Rattle.definitions.specs.Splits.{GoodRun, GoodRuns}
use Rattle.definitions.specs.Segments.{segments}
use Rattle.definitions.specs.Outlook.{Outlook, open_strip, lines, outlook}
use Rattle.definitions.specs.Results.{Segment, segment_of, segments_of, time_number, slow_line, fast_line, some_number, all_number, numbers_of}
use Rattle.splits.specs.OrderedRanges.{ordered_at}
use Rattle.splits.specs.Segments.{segments_of-at}
use Rattle.lines.specs.HasLine.{no-ranges}
use Rattle.lines.proofs.RunOutlook.{outlook-means}
use Rattle.lines.specs.Theorems.{segments_split}
use Rattle.trial_laws.specs.Accepted.{GoodService}
use Rattle.values.specs.Rows.{time_from, outlook_from, segment_from}

-- ---- times

-- none, or a time of the span
abbrev InSpan : Time → Type 0
InSpan none = Unit
InSpan (some t) = t ≤ most_time

least_in : {P : ℕ → Type 0} {from : ℕ} (t : Time) → IsLeast P from most_time t → InSpan t
least_in none h = tt
least_in (some t) (least_at s a b p f) = b

pub time-back : (t : Time) → InSpan t → time_from (time_number t) ≡ t
unfolding time_from time_number
time-back none h = refl
time-back (some t) h = rw (lt-ltb t no_time (omega (arith, h))) refl

-- ---- outlooks

abbrev pub Telling : ℕ → Outlook → Type 0
Telling n open_strip = n < 2
Telling n (lines slow fast x y) = (2 ≤ n) × InSpan x × InSpan y

outlook-back : (a b n : ℕ) (o : Outlook) → Telling n o → outlook_from (numbers_of (record { first_time = a; last_time = b; count = n; outlook = o })) ≡ o
unfolding outlook_from numbers_of slow_line fast_line some_number all_number
outlook-back a b n open_strip h = rw (lt-ltb n 2 h) refl
outlook-back a b n (lines k l x y) h = rw (le-ltb n 2 h.0) (ap₂ (lines k l) (time-back x h.1) (time-back y h.2))

pub row_back : (s : Segment) → Telling s.count s.outlook → segment_from (numbers_of s) ≡ s
unfolding segment_from numbers_of
row_back s h = λ i. record { first_time = s.first_time; last_time = s.last_time; count = s.count; outlook = outlook-back s.first_time s.last_time s.count s.outlook h i }

-- ---- the segments of a trace

run_telling : (v : Service) → GoodService v → (run : List Range) → Ordered run → HasLine run → Telling (length run) (outlook v run)
unfolding outlook
run_telling v good [] o h = omega arith
run_telling v good (r ∷ []) o h = omega arith
run_telling v good (r ∷ s ∷ rs) o h =
    let (k, l, x, y, e, means) = outlook-means r s rs o h v good.direction_in_is good.step_good.over in
    subst (Telling (length (r ∷ s ∷ rs))) (sym e) (omega arith, least_in x means.some_is, least_in y means.all_is)

pub run-back : (v : Service) → GoodService v → (run : List Range) → Ordered run → HasLine run → segment_from (numbers_of (segment_of v run)) ≡ segment_of v run
unfolding segment_of
run-back v good run o h = row_back (segment_of v run) (by run o h)
  where
    by : (run : List Range) → Ordered run → HasLine run → Telling (segment_of v run).count (segment_of v run).outlook
    by [] o h = omega arith
    by (r ∷ rs) o h = run_telling v good (r ∷ rs) o h

good-line : (run : List Range) → GoodRun HasLine run → HasLine run
good-line [] g = no-ranges
good-line (r ∷ rs) g = g

line_at : (runs : List (List Range)) → GoodRuns HasLine runs → (j : ℕ) → HasLine (get_or runs j [])
line_at [] g j = no-ranges
line_at (run ∷ runs) g zero = good-line run g.0
line_at (run ∷ runs) g (suc j) = line_at runs g.1 j

pub rows_back : (v : Service) → GoodService v → (rs : List Range) → Ordered rs → (j : ℕ) → let s = get_or (segments_of v rs) j (segment_of v []) in segment_from (numbers_of s) ≡ s
rows_back v good rs o j =
    let split = segments_split rs o in
    subst (λ s. segment_from (numbers_of s) ≡ s) (sym (segments_of-at v rs j))
    (run-back v good (get_or (segments rs) j []) (ordered_at (segments rs) (subst Ordered (sym split.whole) o) j) (line_at (segments rs) split.each j))
