-- What the trial of a range for a panel asks and promises.
--
--     RoomFor                  addresses and times that have room
--     room_rows, first_rows    8, and 14 and 12, with which both calls on a panel begin
--     Tried                    the answer for lists of some lengths, a panel and an address: the first of these, or the place of the address's entry
--     later_rows               4, 5, 6 and 13, with the head's last time read off the addresses and times
--     decision_of              where an accepted range goes, and what its head then holds
--     Decided                  the answer for a range: the first of all these rows, from 8 on, or this
--
-- Assumes nothing.
use Rattle.std.specs.Prelude.{ℕ, ◌+◌, ◌≤◌, ◌≡◌, List, [], ◌∷◌, ◌++◌, Result, length, take}
use Rattle.definitions.specs.Spans.{panel_room}
use Rattle.definitions.specs.Answers.{Row, ◌if◌, firstRow, accepted, ◌>>=◌}
use Rattle.definitions.specs.Refusals.{answered}
use Rattle.definitions.specs.Ranges.{Range}
use Rattle.definitions.specs.Trial.{range_rows, too_short}
use Rattle.definitions.specs.Panels.{total_held, held_by, bad_panel, unknown, crowded}
use Rattle.definitions.specs.declared.entries.Entry.{Entry}
use Rattle.definitions.specs.declared.refusals.Refusal.{Refusal}
use Rattle.trial_laws.specs.LeastTime.{time_before}
use Rattle.panel_laws.specs.Tallies.{least_from}
use Rattle.panel_laws.specs.OneMore.{place_of}
use Rattle.panel_trial.specs.declared.decisions.Decision.{Decision}

pub record RoomFor (bs ts : List ℕ) : Type 0 where
  pub room_addresses : panel_room ≤ length bs
  pub room_times : panel_room ≤ length ts

abbrev pub room_rows : List ℕ → List Row
room_rows lengths = 8 if too_short panel_room lengths ∷ []

abbrev pub first_rows : List Entry → List ℕ → ℕ → List Row
first_rows es bs a = 14 if bad_panel es (take (total_held es) bs) ∷ 12 if unknown a es ∷ []

abbrev pub Tried : List ℕ → List Entry → List ℕ → ℕ → Result ℕ Refusal → Type 0
Tried ls es bs a at = answered at ≡ (firstRow (room_rows ls ++ first_rows es bs a) >>= λ ok. accepted (place_of a es))

unfoldable pub later_rows : List Entry → List ℕ → List ℕ → ℕ → Range → List Row
later_rows es bs ts a r = range_rows (time_before (least_from a 0 (take (total_held es) bs) (take (total_held es) ts))) r ++ (13 if crowded a es ∷ [])

abbrev pub decision_of : List Entry → ℕ → Decision
decision_of es a = record { at = place_of a es; held = held_by a es + 1; place = total_held es }

abbrev pub Decided : List ℕ → List Entry → List ℕ → List ℕ → ℕ → Range → Result Decision Refusal → Type 0
Decided ls es bs ts a r d = answered d ≡ (firstRow ((room_rows ls ++ first_rows es bs a) ++ later_rows es bs ts a r) >>= λ ok. accepted (decision_of es a))
