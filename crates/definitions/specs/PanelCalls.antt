-- What the two calls on a panel give: their refusals in their order, and else their result.
--
--     room_of                   the lengths of a panel's four lists
--     panel_rows                8, 14 and 12, with which both calls begin
--     add_rows, add_call         Add: these, then the range's own 4, 5 and 6, then 13; else the panel with one range more
--     added                    that panel: the range stands at the next place of the four lists (put_at), and the entry of its head holds one more (entries_after)
--     head_ranges_call           Head ranges: the ranges of one head; it takes the lengths of the three lists that it is to fill
--
-- Assumes nothing.
use Rattle.std.specs.Prelude.{ℕ, ◌+◌, Bool, true, false, List, [], ◌∷◌, ◌++◌, length, set}
use Rattle.definitions.specs.Spans.{panel_room}
use Rattle.definitions.specs.Ranges.{Range}
use Rattle.definitions.specs.Times.{none}
use Rattle.definitions.specs.Answers.{Answer, accepted, ◌>>=◌, Row, ◌if◌, firstRow}
use Rattle.definitions.specs.Trial.{too_short, range_rows}
use Rattle.definitions.specs.Panels.{Places, Panel, total_held, is_at, on_panel, head_ranges, last_time, not_panel, unknown, crowded}
use Rattle.definitions.specs.declared.entries.Entry.{Entry}

unfoldable pub room_of : Places → List ℕ
room_of p = length p.addresses ∷ length p.times ∷ length p.lows ∷ length p.highs ∷ []

-- of these lists, for the address a
unfoldable pub panel_rows : List ℕ → Panel → ℕ → List Row
panel_rows lengths s a = 8 if too_short panel_room lengths ∷ 14 if not_panel s ∷ 12 if unknown a s.entries ∷ []

-- ---- Add

unfoldable pub add_rows : Panel → ℕ → Range → List Row
add_rows s a r = panel_rows (room_of s.places) s a ++ range_rows (last_time none (head_ranges a (on_panel s))) r ++ (13 if crowded a s.entries ∷ [])

abbrev pub one_more : Entry → Entry
one_more e = record { address = e.address; held = e.held + 1 }

unfoldable pub bumped : Bool → Entry → List Entry → List Entry → List Entry
bumped true e es rest = one_more e ∷ es
bumped false e es rest = e ∷ rest

unfoldable pub entries_after : ℕ → List Entry → List Entry
entries_after a [] = []
entries_after a (e ∷ es) = bumped (is_at a e) e es (entries_after a es)

-- a range at the n-th place from 0
unfoldable pub put_at : ℕ → ℕ → Range → Places → Places
put_at n a r p = record { addresses = set p.addresses n a; times = set p.times n r.time; lows = set p.lows n r.low; highs = set p.highs n r.high }

unfoldable pub added : Panel → ℕ → Range → Panel
added s a r = record { entries = entries_after a s.entries; places = put_at (total_held s.entries) a r s.places }

unfoldable pub add_call : Panel → ℕ → Range → Answer Panel
add_call s a r = firstRow (add_rows s a r) >>= λ ok. accepted (added s a r)

-- ---- Head ranges

unfoldable pub head_ranges_call : List ℕ → Panel → ℕ → Answer (List Range)
head_ranges_call lengths s a = firstRow (panel_rows (room_of s.places ++ lengths) s a) >>= λ ok. accepted (head_ranges a (on_panel s))
