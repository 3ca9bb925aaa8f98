-- From what the steps of Add find to what Add promises.
--
--     last-time                    a head's last time, off the addresses and times
--     short_add, add_as_decided    the answer of Add's rows: where a list is too short, and of them all as `decide` finds it
--     decided_refuses, decided_accepts   so from what `decide` told
--     all-numbered                 no row of Add has the number 0
--     room-left                    where a range is accepted, all four lists have a next place
--     not-added, was-added         the promise of Add, where the range is turned down and where it is accepted
--     meaning-of                   the answer with the number means the scope's answer
--
-- Assumes nothing.
use Rattle.std.specs.Prelude.{ℕ, zero, suc, ◌+◌, ◌<◌, ◌≤◌, ◌≡◌, refl, false, List, [], ◌∷◌, ◌++◌, Result, Ok, ℤ, take, set}
use Rattle.std.proofs.Common.{arith, sym, ap, ap₂, ◌∙◌}
use Rattle.definitions.specs.Spans.{panel_room}
use Rattle.definitions.specs.Answers.{Answer, refused, accepted, ◌>>=◌, ◌if◌, firstRow, refusal, given}
use Rattle.definitions.specs.Ranges.{Range}
use Rattle.definitions.specs.Times.{none}
use Rattle.definitions.specs.Trial.{too_short, range_rows}
use Rattle.definitions.specs.Panels.{Places, Panel, taken, on_panel, head_ranges, last_time, total_held, held_by, bad_panel, not_panel, crowded}
use Rattle.definitions.specs.PanelCalls.{room_of, panel_rows, add_rows, put_at, added, add_call}
use Rattle.definitions.specs.declared.entries.Entry.{Entry}
use Rattle.definitions.specs.declared.refusals.Refusal.{Refusal}
use Rattle.trial_laws.specs.Rows.{Numbered, Numbered-append, Only, only-first, refusal-above, refusal-zero, first_row-append, first_row-accepted, refused_not_accepted}
use Rattle.trial_laws.specs.CallLaws.{then-known, bind-refused, accepted-is, refusal-tells}
use Rattle.trial_laws.specs.RefusalNumbers.{InTable, answer_with, with_number}
use Rattle.trial_laws.specs.ListTrial.{range-numbered}
use Rattle.trial_laws.specs.LeastTime.{time_before}
use Rattle.panel_laws.specs.Entries.{with_held}
use Rattle.panel_laws.specs.Tallies.{least_from}
use Rattle.panel_laws.specs.OneMore.{place_of, placed-bumped}
use Rattle.panel_laws.specs.PlainLists.{time-plain}
use Rattle.panel_laws.specs.PanelRows.{try_add, own_rows, accepts, next_place, good-panel, total-room, roomy, first-lengths}
use Rattle.panel_trial.specs.Decisions.{room_rows, first_rows, later_rows, decision_of}
use Rattle.panel_trial.specs.declared.decisions.Decision.{Decision}
use Rattle.panel_trial.specs.DecisionLaws.{stops, held_there}
use Rattle.panel.specs.Promises.{add_meaning, AddPromise}
use Rattle.panel.specs.Admissions.{answer_of, Within, Put}

abbrev panel : List Entry → Places → Panel
panel es p = record { entries = es; places = p }

-- ---- the answer of the rows

-- a head's last time, off the plain lists
last-time : (es : List Entry) (p : Places) (a : ℕ) → too_short panel_room (room_of p) ≡ false → bad_panel es (take (total_held es) p.addresses) ≡ false → time_before (least_from a 0 (take (total_held es) p.addresses) (take (total_held es) p.times)) ≡ last_time none (head_ranges a (taken (total_held es) p))
unfolding time_before taken
last-time es p a long good =
    let n = total_held es in
    let room = roomy p long in
    let few = total-room es (take n p.addresses) (good-panel es (take n p.addresses) good) in
    let same = first-lengths n p few room in
    time-plain a 0 (take n p.addresses) (take n p.times) (take n p.lows) (take n p.highs) same.0 same.1 same.2

pub short_add : (es : List Entry) (p : Places) (a : ℕ) (r : Range) (n : ℕ) → firstRow (room_rows (room_of p)) ≡ refused n → try_add (panel es p) a r ≡ refused n
unfolding add_rows panel_rows not_panel
short_add es p a r n e = stops (room_rows (room_of p)) (first_rows es p.addresses a ++ (own_rows (panel es p) a r ++ (13 if crowded a es ∷ []))) n e

pub add_as_decided : (es : List Entry) (p : Places) (a : ℕ) (r : Range) → firstRow ((room_rows (room_of p) ++ first_rows es p.addresses a) ++ later_rows es p.addresses p.times a r) ≡ try_add (panel es p) a r
unfolding add_rows panel_rows not_panel on_panel later_rows
add_as_decided es p a r =
    let rows = room_rows (room_of p) ++ first_rows es p.addresses a in
    let plain = range_rows (time_before (least_from a 0 (take (total_held es) p.addresses) (take (total_held es) p.times))) r ++ (13 if crowded a es ∷ []) in
    let scoped = range_rows (last_time none (head_ranges a (taken (total_held es) p))) r ++ (13 if crowded a es ∷ []) in
    first_row-append rows plain
    ∙ then-known (firstRow rows) (λ ok. firstRow plain) (λ ok. firstRow scoped) (λ ok e. let h = (first_row-accepted rows).0 e in ap (λ before. firstRow (range_rows before r ++ (13 if crowded a es ∷ []))) (last-time es p a h.0 h.1.0))
    ∙ sym (first_row-append rows scoped)

-- the same of what `decide` told
pub decided_refuses : (es : List Entry) (p : Places) (a : ℕ) (r : Range) (n : ℕ) → ◌≡◌ {A = Answer Decision} (refused n) (firstRow ((room_rows (room_of p) ++ first_rows es p.addresses a) ++ later_rows es p.addresses p.times a r) >>= λ ok. accepted (decision_of es a)) → try_add (panel es p) a r ≡ refused n
decided_refuses es p a r n e = sym (add_as_decided es p a r) ∙ bind-refused (firstRow ((room_rows (room_of p) ++ first_rows es p.addresses a) ++ later_rows es p.addresses p.times a r)) (λ ok. decision_of es a) n (sym e)

accepts-both : {A : Type 0} (x : Answer Unit) (d d' : A) → accepted d' ≡ (x >>= λ ok. accepted d) → (x ≡ accepted tt) × (d' ≡ d)
unfolding ◌>>=◌
accepts-both (refused n) d d' e = refused_not_accepted (sym e)
accepts-both (accepted u) d d' e = (refl, accepted-is e)

pub decided_accepts : (es : List Entry) (p : Places) (a : ℕ) (r : Range) (d : Decision) → accepted d ≡ (firstRow ((room_rows (room_of p) ++ first_rows es p.addresses a) ++ later_rows es p.addresses p.times a r) >>= λ ok. accepted (decision_of es a)) → (try_add (panel es p) a r ≡ accepted tt) × (d ≡ decision_of es a)
decided_accepts es p a r d e =
    let h = accepts-both (firstRow ((room_rows (room_of p) ++ first_rows es p.addresses a) ++ later_rows es p.addresses p.times a r)) (decision_of es a) d e in
    (sym (add_as_decided es p a r) ∙ h.0, h.1)

pub all-numbered : (s : Panel) (a : ℕ) (r : Range) → Numbered (add_rows s a r)
unfolding add_rows panel_rows
all-numbered s a r =
    (omega arith, (omega arith, (omega arith, Numbered-append (own_rows s a r) (13 if crowded a s.entries ∷ []) (range-numbered (last_time none (head_ranges a (on_panel s))) r) (omega arith, tt))))

-- where a range is accepted there is a next place in all four lists
pub room-left : (es : List Entry) (p : Places) (a : ℕ) (r : Range) → try_add (panel es p) a r ≡ accepted tt → Within (total_held es) p
unfolding not_panel
room-left es p a r e =
    let h = accepts (panel es p) a r e in
    let less = next_place a es (take (total_held es) p.addresses) (good-panel es (take (total_held es) p.addresses) h.good) h.is_known h.uncrowded in
    let room = roomy p h.long in
    let r₁ = room.room_addresses in
    let r₂ = room.room_times in
    let r₃ = room.room_lows in
    let r₄ = room.room_highs in
    record { in_addresses = omega (arith, less, r₁); in_times = omega (arith, less, r₂); in_lows = omega (arith, less, r₃); in_highs = omega (arith, less, r₄) }

-- ---- the promise

pub not-added : (s : Panel) (a : ℕ) (r : Range) (answer : Result Unit Refusal) (n : ℕ) → add_meaning answer ≡ refused n → try_add s a r ≡ refused n → AddPromise s a r answer s
unfolding given add_call ◌>>=◌
not-added s a r answer n means e = record {
  answer_is = means ∙ sym (ap (λ x. x >>= (λ ok. accepted (added s a r)) >>= λ t. accepted tt) e);
  panel_is = sym (ap (λ x. given (x >>= λ ok. accepted (added s a r)) (λ u. u) s) e);
}

-- four lists in which the range is put are those of `put_at`
put_is : (bs ts : List ℕ) (us vs : List ℤ) (n a : ℕ) (r : Range) (p : Places) → bs ≡ set p.addresses n a → ts ≡ set p.times n r.time → us ≡ set p.lows n r.low → vs ≡ set p.highs n r.high
    → ◌≡◌ {A = Places} (record { addresses = bs; times = ts; lows = us; highs = vs }) (put_at n a r p)
unfolding put_at
put_is bs ts us vs n a r p f g h k = rw (f, g, h, k) refl

pub was-added : (es es' : List Entry) (p p' : Places) (a : ℕ) (r : Range) → try_add (panel es p) a r ≡ accepted tt → Put (total_held es) a r p p' → es' ≡ with_held (place_of a es) (held_by a es + 1) es → AddPromise (panel es p) a r (Ok tt) (panel es' p')
unfolding given add_call ◌>>=◌ added
was-added es es' p p' a r e put stored =
    let held_more = stored ∙ ap (λ n. with_held (place_of a es) (n + 1) es) (held_there a es) ∙ placed-bumped a es in
    record {
      answer_is = sym (ap (λ x. x >>= (λ ok. accepted (added (panel es p) a r)) >>= λ t. accepted tt) e);
      panel_is = ap₂ panel held_more (put_is p'.addresses p'.times p'.lows p'.highs (total_held es) a r p put.addresses put.times put.lows put.highs)
          ∙ sym (ap (λ x. given (x >>= λ ok. accepted (added (panel es p) a r)) (λ s. s) (panel es p)) e);
    }

-- ---- the answer with a number

-- each row of Add has a number of the table
add-numbers : (s : Panel) (a : ℕ) (r : Range) → Only InTable (add_rows s a r)
unfolding add_rows panel_rows range_rows
add-numbers s a r =
    let in_table : (n : ℕ) → 0 < n → n ≤ 14 → InTable n = λ n above most. record { above_none = above; at_most = most } in (
      in_table 8 (omega arith) (omega arith),
      (
        in_table 14 (omega arith) (omega arith),
        (
          in_table 12 (omega arith) (omega arith),
          (
            in_table 4 (omega arith) (omega arith),
            (in_table 4 (omega arith) (omega arith), (in_table 5 (omega arith) (omega arith), (in_table 6 (omega arith) (omega arith), (in_table 13 (omega arith) (omega arith), tt)))),
          ),
        ),
      ),
    )

pub meaning-of : (s : Panel) (a : ℕ) (r : Range) (number : ℕ) → number ≡ refusal (add_call s a r) → add_meaning (answer_of number) ≡ (add_call s a r >>= λ t. accepted tt)
unfolding answer_with add_call ◌>>=◌
meaning-of s a r zero e = sym (ap (λ x. x >>= (λ ok. accepted (added s a r)) >>= λ t. accepted tt) ((refusal-zero (add_rows s a r) (all-numbered s a r)).0 (sym (refusal-tells (λ ok. added s a r) (try_add s a r)) ∙ sym e)))
meaning-of s a r (suc n) e =
    let refuses = refusal-above (try_add s a r) (suc n) (sym (refusal-tells (λ ok. added s a r) (try_add s a r)) ∙ sym e) (omega arith) in
    with_number tt (suc n) (only-first InTable (add_rows s a r) (add-numbers s a r) refuses) ∙ sym (ap (λ x. x >>= (λ ok. accepted (added s a r)) >>= λ t. accepted tt) refuses)
