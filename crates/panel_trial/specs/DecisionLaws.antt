-- What the steps of the trial of a range find, and which answer that is.
--
--     stops, passes_on         rows and then more: the former's refusal, or the latter's answer
--     Found, found_where       what is known of lists' lengths, a panel and an address once 8, 14 and 12 are passed
--     place_inside             the place of the address's entry is one of the entries
--     held_there               what the head of an address holds is what the entry at its place holds
--     above_part               what a head takes of the common places is part of what all take
--     crowd_is                 13 from what the head holds and what is taken
--     panel_refuses, range_refuses, crowd_refuses, lets_in   the answer of the rows from 8 on, by the step that gives it
--     refused_as, accepted_as  an answer that is refused, or accepted with a result, as that of rows
--     tried_where              the answer for an address on a good panel, from the place that is found of it
--
-- Assumes nothing.
use Rattle.std.specs.Prelude.{ℕ, zero, suc, ◌-◌, ◌<◌, ◌≤◌, ◌≡◌, refl, Bool, true, false, ◌&&◌, cond, Option, Some, None, List, [], ◌∷◌, ◌++◌, leb, length, take, get_or, position}
use Rattle.std.proofs.Common.{arith, sym, ap, ap₂, ◌∙◌, subst, ltb-true}
use Rattle.std.specs.Option.{ok_or}
use Rattle.std.proofs.lemmas.Bool.{not-false}
use Rattle.integers.specs.Lists.{any}
use Rattle.definitions.specs.Spans.{sure_places, panel_room}
use Rattle.definitions.specs.Answers.{Answer, refused, accepted, ◌>>=◌, Row, ◌if◌, firstRow}
use Rattle.definitions.specs.Ranges.{Range}
use Rattle.definitions.specs.Trial.{range_rows, too_short}
use Rattle.definitions.specs.Panels.{is_at, held_by, total_held, common_taken, bad_panel, unknown, crowded}
use Rattle.definitions.specs.declared.entries.Entry.{Entry}
use Rattle.definitions.specs.declared.refusals.Refusal.TheVariants as Case
use Rattle.trial_laws.specs.Rows.{first_row-append}
use Rattle.trial_laws.specs.CallLaws.{call-accepted}
use Rattle.trial_laws.specs.LeastTime.{time_before}
use Rattle.panel_laws.specs.Entries.{no_entry}
use Rattle.panel_laws.specs.Tallies.{least_from}
use Rattle.panel_laws.specs.OneMore.{place_of, first-or-later}
use Rattle.panel_laws.specs.PanelRows.{GoodPanel, good-panel}
use Rattle.panel_trial.specs.Decisions.{room_rows, first_rows, later_rows, Tried}
use Rattle.panel_trial.specs.Found.{placed_inside, position_found}

-- ---- rows and then more

pub stops : (rows more : List Row) (n : ℕ) → firstRow rows ≡ refused n → firstRow (rows ++ more) ≡ refused n
unfolding ◌>>=◌
stops rows more n e = first_row-append rows more ∙ ap (λ (x : Answer Unit). x >>= λ ok. firstRow more) e

pub passes_on : (rows more : List Row) → firstRow rows ≡ accepted tt → firstRow (rows ++ more) ≡ firstRow more
unfolding ◌>>=◌
passes_on rows more e = first_row-append rows more ∙ ap (λ (x : Answer Unit). x >>= λ ok. firstRow more) e

-- ---- past 8, 14 and 12

pub record Found (ls : List ℕ) (es : List Entry) (bs : List ℕ) (a at : ℕ) : Type 0 where
  pub passed : firstRow (room_rows ls ++ first_rows es bs a) ≡ accepted tt
  pub long : too_short panel_room ls ≡ false
  pub good : GoodPanel es (take (total_held es) bs)
  pub is_known : unknown a es ≡ false
  pub at_is : at ≡ place_of a es

pub found_where : (ls : List ℕ) (es : List Entry) (bs : List ℕ) (a at : ℕ) → accepted at ≡ (firstRow (room_rows ls ++ first_rows es bs a) >>= λ ok. accepted (place_of a es)) → Found ls es bs a at
unfolding firstRow
found_where ls es bs a at e =
    let h = (call-accepted (room_rows ls ++ first_rows es bs a) (place_of a es) at).0 (sym e) in
    record { passed = rw (h.0.0, h.0.1.0, h.0.1.1.0) refl; long = h.0.0; good = good-panel es (take (total_held es) bs) h.0.1.0; is_known = h.0.1.1.0; at_is = sym h.1 }

pub place_inside : (a : ℕ) (es : List Entry) → unknown a es ≡ false → place_of a es < length es
unfolding unknown
place_inside a es u = ltb-true (place_of a es) (length es) (placed_inside a es ∙ not-false (any (is_at a) es) u)

pub held_there : (a : ℕ) (es : List Entry) → held_by a es ≡ (get_or es (place_of a es) no_entry).held
unfolding held_by place_of
held_there a [] = refl
held_there a (e ∷ es) = first-or-later (λ (x : Entry). x.held) no_entry (is_at a e) e es (held_by a es) (place_of a es) (held_there a es)

pub above_part : (es : List Entry) (i : ℕ) → (get_or es i no_entry).held - sure_places ≤ common_taken es
unfolding common_taken
above_part [] i = omega arith
above_part (e ∷ es) zero = omega arith
above_part (e ∷ es) (suc i) = let r = above_part es i in omega (arith, r)

pub crowd_is : (a : ℕ) (es : List Entry) (at common : ℕ) → at ≡ place_of a es → common ≡ common_taken es → crowded a es ≡ leb 32 (get_or es at no_entry).held && leb 2048 common
unfolding crowded
crowd_is a es at common at_is is = ap₂ (λ h c. leb 32 h && leb 2048 c) (held_there a es ∙ ap (λ i. (get_or es i no_entry).held) (sym at_is)) (sym is)

-- ---- the answer

module _ (ls : List ℕ) (es : List Entry) (bs ts : List ℕ) (a : ℕ) (r : Range) where
  abbrev panel_rows : List Row
  panel_rows = room_rows ls ++ first_rows es bs a

  abbrev own_rows : List Row
  own_rows = range_rows (time_before (least_from a 0 (take (total_held es) bs) (take (total_held es) ts))) r

  pub panel_refuses : (n : ℕ) → firstRow panel_rows ≡ refused n → firstRow (panel_rows ++ later_rows es bs ts a r) ≡ refused n
  panel_refuses n e = stops panel_rows (later_rows es bs ts a r) n e

  module _ (passed : firstRow panel_rows ≡ accepted tt) where
    pub range_refuses : (n : ℕ) → firstRow own_rows ≡ refused n → firstRow (panel_rows ++ later_rows es bs ts a r) ≡ refused n
    unfolding later_rows
    range_refuses n e = passes_on panel_rows (later_rows es bs ts a r) passed ∙ stops own_rows (13 if crowded a es ∷ []) n e

    module _ (own : firstRow own_rows ≡ accepted tt) where
      crowd_left : firstRow (panel_rows ++ later_rows es bs ts a r) ≡ firstRow (13 if crowded a es ∷ [])
      unfolding later_rows
      crowd_left = passes_on panel_rows (later_rows es bs ts a r) passed ∙ passes_on own_rows (13 if crowded a es ∷ []) own

      pub crowd_refuses : crowded a es ≡ true → firstRow (panel_rows ++ later_rows es bs ts a r) ≡ refused 13
      unfolding firstRow
      crowd_refuses e = crowd_left ∙ rw e refl

      pub lets_in : crowded a es ≡ false → firstRow (panel_rows ++ later_rows es bs ts a r) ≡ accepted tt
      unfolding firstRow
      lets_in e = crowd_left ∙ rw e refl

pub refused_as : {A : Type 0} (x : Answer Unit) (d : A) (n : ℕ) → x ≡ refused n → refused n ≡ (x >>= λ ok. accepted d)
unfolding ◌>>=◌
refused_as x d n e = sym (ap (λ (y : Answer Unit). y >>= λ ok. accepted d) e)

pub accepted_as : {A : Type 0} (x : Answer Unit) (d d' : A) → x ≡ accepted tt → d' ≡ d → accepted d' ≡ (x >>= λ ok. accepted d)
unfolding ◌>>=◌
accepted_as x d d' e same = ap accepted same ∙ sym (ap (λ (y : Answer Unit). y >>= λ ok. accepted d) e)

-- a good panel, by the place that is found of the address
tried_by : (ls : List ℕ) (es : List Entry) (bs : List ℕ) (a : ℕ) (t : Bool) → too_short panel_room ls ≡ false → any (is_at a) es ≡ t → bad_panel es (take (total_held es) bs) ≡ false → Tried ls es bs a (ok_or (cond t (Some (place_of a es)) None) Case.AddressUnknown)
unfolding unknown firstRow ◌>>=◌
tried_by ls es bs a true long is good = rw (long, good, is) refl
tried_by ls es bs a false long is good = rw (long, good, is) refl

pub tried_where : (ls : List ℕ) (es : List Entry) (bs : List ℕ) (a : ℕ) (found : Option ℕ) → too_short panel_room ls ≡ false → found ≡ position (is_at a) es → bad_panel es (take (total_held es) bs) ≡ false → Tried ls es bs a (ok_or found Case.AddressUnknown)
tried_where ls es bs a found long e good = subst (λ p. Tried ls es bs a (ok_or p Case.AddressUnknown)) (sym (e ∙ position_found a es)) (tried_by ls es bs a (any (is_at a) es) long refl good)
