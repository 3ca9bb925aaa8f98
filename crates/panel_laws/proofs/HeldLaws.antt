-- Laws that rest on those of specs/HeldLaws.antt.
--
--     held-is                 the held count of an entry is the number of its head's ranges: to count addresses is to count ranges
--     sure_of_32, never-13    a head that holds less than 32 has its range accepted if the range's own rows pass; it is never refused with 13
--
-- Assumes nothing.
use Rattle.std.specs.Prelude.{ℕ, ◌<◌, ◌≡◌, false, length, take}
use Rattle.std.proofs.Common.{sym, ◌∙◌}
use Rattle.std.proofs.lemmas.Bool.{not-false}
use Rattle.integers.specs.Lists.{any}
use Rattle.definitions.specs.Answers.{refused, accepted, firstRow}
use Rattle.definitions.specs.Ranges.{Range}
use Rattle.definitions.specs.Trial.{range_rows}
use Rattle.definitions.specs.Panels.{Panel, taken, on_panel, kept, head_ranges, total_held, is_at, held_by, not_panel, unknown}
use Rattle.definitions.specs.PanelCalls.{panel_rows, add_rows}
use Rattle.panel_laws.proofs.PlainLists.{held_plain}
use Rattle.panel_laws.specs.PanelRows.{good-panel, roomy, first-lengths, try_add, own_rows, accepted_where}
use Rattle.panel_laws.specs.AddLaws.{IsPanel}
use Rattle.panel_laws.specs.HeldLaws.{all_held, held-counted, not-given, own-place}

pub held-is : (a : ℕ) {s : Panel} → IsPanel s → unknown a s.entries ≡ false → held_by a s.entries ≡ length (head_ranges a (on_panel s))
unfolding not_panel on_panel taken unknown
held-is a {s} h is_known =
    let n = total_held s.entries in
    let p = s.places in
    let bs = take n p.addresses in
    let same = first-lengths n p (all_held h) (roomy p h.long) in
    held-counted a bs s.entries (good-panel s.entries bs h.good).counted (not-false (any (is_at a) s.entries) is_known)
    ∙ sym (held_plain a bs (take n p.times) (take n p.lows) (take n p.highs) same.0 same.1 same.2)

pub sure_of_32 : (s : Panel) (a : ℕ) (r : Range) → IsPanel s → unknown a s.entries ≡ false → held_by a s.entries < 32 → firstRow (own_rows s a r) ≡ accepted tt → try_add s a r ≡ accepted tt
sure_of_32 s a r h is_known less passes = accepted_where s a r (record { long = h.long; good = h.good; is_known = is_known; passes = passes; uncrowded = own-place a s.entries less })

pub never-13 : (s : Panel) (a : ℕ) (r : Range) → held_by a s.entries < 32 → try_add s a r ≡ refused 13 → ⊥
unfolding add_rows panel_rows range_rows kept
never-13 s a r less e = not-given 13 (add_rows s a r) (own-place a s.entries less, tt) e
