-- Laws that rest on those of specs/Accepted.antt.
--
--     corner_accepted  each call of the scope
--
-- Assumes nothing.
use Rattle.std.specs.Prelude.{◌≡◌, refl, ◌↔◌, false, List, ℕ, ◌≤◌, length}
use Rattle.std.proofs.Common.{sym, ◌∙◌}
use Rattle.definitions.specs.Spans.{most_ranges, corner_room}
use Rattle.definitions.specs.Ranges.{Lists}
use Rattle.definitions.specs.Answers.{accepted, firstRow}
use Rattle.definitions.specs.Trial.{too_short, corner_rows}
use Rattle.trial_laws.specs.Rows.{first_row-accepted, accepted-append}
use Rattle.trial_laws.specs.ListTrial.{trial_rows, count_rows, corner_rows_lem}
use Rattle.trial_laws.specs.Inside.{count-inside}
use Rattle.trial_laws.specs.Accepted.{AcceptedLists, trial_accepted}

pub corner_accepted : (lengths : List ℕ) (k : ℕ) (ls : Lists) → (firstRow (corner_rows lengths k ls) ≡ accepted tt) ↔ ((too_short corner_room lengths ≡ false) × (1 ≤ k) × (k ≤ length ls.times) × AcceptedLists ls × (length ls.times ≤ most_ranges))
corner_accepted lengths k ls = (to, from)
  where
    to : firstRow (corner_rows lengths k ls) ≡ accepted tt → (too_short corner_room lengths ≡ false) × (1 ≤ k) × (k ≤ length ls.times) × AcceptedLists ls × (length ls.times ≤ most_ranges)
    to e =
        let parts = (accepted-append (trial_rows (too_short corner_room lengths) false ls) (count_rows k ls)).0 (sym (corner_rows_lem lengths k ls) ∙ e) in
        let h = (trial_accepted (too_short corner_room lengths) false ls).0 parts.0 in
        let count = (count-inside k (length ls.times)).0 ((first_row-accepted (count_rows k ls)).0 parts.1).0 in
        (h.0, count.0, count.1, h.2, h.3)

    from : (too_short corner_room lengths ≡ false) × (1 ≤ k) × (k ≤ length ls.times) × AcceptedLists ls × (length ls.times ≤ most_ranges) → firstRow (corner_rows lengths k ls) ≡ accepted tt
    from h =
        corner_rows_lem lengths k ls
        ∙ (accepted-append (trial_rows (too_short corner_room lengths) false ls) (count_rows k ls)).1
        ((trial_accepted (too_short corner_room lengths) false ls).1 (h.0, refl, h.3, h.4), (first_row-accepted (count_rows k ls)).1 ((count-inside k (length ls.times)).1 (h.1, h.2), tt))
