-- A head's ranges stay ones that Segment accepts: each range was tried against the last of its own head.
--
--     own-added        an accepted range stands last among the ranges of its head; every other head's are what they were
--     proper-added     where a head's ranges are proper, they are so after a range is accepted, whichever head's it is
--
-- Assumes nothing.
use Rattle.std.specs.Prelude.{ℕ, ◌≡◌, refl, Bool, true, false, List, [], ◌∷◌, ◌++◌, eqb}
use Rattle.std.proofs.Common.{sym, ap, ◌∙◌, subst, append-nil, eqb-true}
use Rattle.definitions.specs.Answers.{accepted, firstRow}
use Rattle.definitions.specs.Ranges.{Range}
use Rattle.definitions.specs.Times.{none}
use Rattle.definitions.specs.Trial.{range_rows, ranges_rows}
use Rattle.definitions.specs.Panels.{Panel, on_panel, kept, head_ranges, last_time}
use Rattle.definitions.specs.PanelCalls.{added}
use Rattle.trial_laws.specs.Rows.{accepted-append}
use Rattle.trial_laws.specs.Accepted.{ProperRanges, proper-accepted}
use Rattle.trial_laws.specs.LongerLists.{rows_next}
use Rattle.panel_laws.specs.OneMore.{head-append}
use Rattle.panel_laws.specs.PanelRows.{try_add, accepts}
use Rattle.panel_laws.specs.AddLaws.{on-added}

-- proper ranges, and one more that passes its rows after the last of them
proper-next : (rs : List Range) (r : Range) → ProperRanges rs → firstRow (range_rows (last_time none rs) r) ≡ accepted tt → ProperRanges (rs ++ (r ∷ []))
proper-next rs r h passes = (proper-accepted (rs ++ (r ∷ []))).0 (ap firstRow (rows_next none rs r) ∙ (accepted-append (ranges_rows none rs) (range_rows (last_time none rs) r)).1 ((proper-accepted rs).1 h, passes))

by_address : (t : Bool) (b a : ℕ) (s : Panel) (r : Range) → eqb a b ≡ t → firstRow (range_rows (last_time none (head_ranges a (on_panel s))) r) ≡ accepted tt → ProperRanges (head_ranges b (on_panel s)) → ProperRanges (head_ranges b (on_panel s) ++ kept t r [])
unfolding kept
by_address true b a s r is passes h = proper-next (head_ranges b (on_panel s)) r h (subst (λ c. firstRow (range_rows (last_time none (head_ranges c (on_panel s))) r) ≡ accepted tt) (eqb-true a b is) passes)
by_address false b a s r is passes h = subst ProperRanges (sym (append-nil (head_ranges b (on_panel s)))) h

pub own-added : (b : ℕ) (s : Panel) (a : ℕ) (r : Range) → try_add s a r ≡ accepted tt → head_ranges b (on_panel (added s a r)) ≡ head_ranges b (on_panel s) ++ kept (eqb a b) r []
unfolding head_ranges
own-added b s a r e = ap (head_ranges b) (on-added s a r e) ∙ head-append b (on_panel s) (record { address = a; range = r } ∷ [])

pub proper-added : (b : ℕ) (s : Panel) (a : ℕ) (r : Range) → try_add s a r ≡ accepted tt → ProperRanges (head_ranges b (on_panel s)) → ProperRanges (head_ranges b (on_panel (added s a r)))
proper-added b s a r e h =
    subst ProperRanges (sym (own-added b s a r e))
    (by_address (eqb a b) b a s r refl (accepts s a r e).passes h)
