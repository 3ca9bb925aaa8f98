-- From what Head ranges finds to what it promises.
--
--     list_rows_of                         the rows of Head ranges, by the steps that try them
--     ListRoom, list-room                  where none holds, at most 4,096 places are held, and all seven lists have room
--     same-lengths                         so the first places of the four lists are equally many
--     not_listed, was-listed               the promise of Head ranges, where it is refused and where it is accepted
--
-- Assumes nothing.
use Rattle.std.specs.Prelude.{ℕ, ◌≤◌, ◌≡◌, List, ◌++◌, Result, Ok, map, length, take, drop}
use Rattle.std.proofs.Common.{arith, sym, ap, ◌∙◌, length-take-le}
use Rattle.definitions.specs.Spans.{panel_room}
use Rattle.definitions.specs.Answers.{refused, accepted, ◌>>=◌, Row, firstRow, filled}
use Rattle.definitions.specs.Ranges.{Range, Lists}
use Rattle.definitions.specs.Panels.{Places, Panel, taken, on_panel, zip_taken, head_ranges, total_held, not_panel}
use Rattle.definitions.specs.PanelCalls.{room_of, panel_rows, head_ranges_call}
use Rattle.definitions.specs.declared.entries.Entry.{Entry}
use Rattle.definitions.specs.declared.refusals.Refusal.{Refusal}
use Rattle.trial_laws.specs.Rows.{first_row-accepted}
use Rattle.panel_laws.proofs.PlainLists.{held_plain}
use Rattle.trial_laws.specs.ShortLists.{long-split, all-long}
use Rattle.panel_laws.specs.PanelRows.{good-panel, total-room, Roomy, roomy, first-lengths}
use Rattle.panel_trial.specs.Decisions.{room_rows, first_rows}
use Rattle.panel.specs.Promises.{head_ranges_meaning, lengths_of, HeadRangesPromise}
use Rattle.panel.specs.Copies.{SameLengths, Copied, put_from, values_of, put_all, values_few, head-columns}

abbrev panel : List Entry → Places → Panel
panel es p = record { entries = es; places = p }

-- 8 of all seven lists, and then 14 and 12
abbrev pub rows_of : List Entry → Places → ℕ → List ℕ → List Row
rows_of es p a room = room_rows (room_of p ++ room) ++ first_rows es p.addresses a

-- ---- room

pub record ListRoom (n : ℕ) (p : Places) (into : Lists) : Type 0 where
  pub most : n ≤ panel_room
  pub places : Roomy p
  pub into_times : panel_room ≤ length into.times
  pub into_lows : panel_room ≤ length into.lows
  pub into_highs : panel_room ≤ length into.highs

pub list-room : (es : List Entry) (p : Places) (a : ℕ) (into : Lists) → firstRow (rows_of es p a (lengths_of into)) ≡ accepted tt → ListRoom (total_held es) p into
unfolding lengths_of
list-room es p a into e =
    let h = (first_row-accepted (rows_of es p a (lengths_of into))).0 e in
    let long = long-split panel_room (room_of p) (lengths_of into) h.0 in
    let three = all-long panel_room (lengths_of into) long.1 in
    record {
      most = total-room es _ (good-panel es _ h.1.0);
      places = roomy p long.0;
      into_times = three.0;
      into_lows = three.1.0;
      into_highs = three.1.1.0;
    }

pub same-lengths : (n : ℕ) (p : Places) (into : Lists) → ListRoom n p into → SameLengths (take n p.addresses) (take n p.times) (take n p.lows) (take n p.highs)
same-lengths n p into r = let same = first-lengths n p r.most r.places in record { times = same.0; lows = same.1; highs = same.2 }

-- ---- the promise

pub not_listed : (es : List Entry) (p : Places) (a : ℕ) (into : Lists) (answer : Result ℕ Refusal) (n : ℕ) → head_ranges_meaning answer ≡ refused n → firstRow (rows_of es p a (lengths_of into)) ≡ refused n → HeadRangesPromise (panel es p) a into into answer
unfolding head_ranges_call panel_rows not_panel on_panel filled ◌>>=◌
not_listed es p a into answer n means e =
    let call : head_ranges_call (lengths_of into) (panel es p) a ≡ refused n = ap (λ x. x >>= λ ok. accepted (head_ranges a (taken (total_held es) p))) e in
    record {
      answer_is = means ∙ sym (ap (λ x. x >>= λ rs. accepted (length rs)) call);
      times_are = sym (ap (λ x. filled x (map (λ (r : Range). r.time)) into.times) call);
      lows_are = sym (ap (λ x. filled x (map (λ (r : Range). r.low)) into.lows) call);
      highs_are = sym (ap (λ x. filled x (map (λ (r : Range). r.high)) into.highs) call);
    }

-- the entries of an address stand first
stand-first : {A : Type 0} (a n : ℕ) (bs : List ℕ) (xs o : List A) (ys : List A) → n ≤ 4096 → length (take n bs) ≡ n → 4096 ≤ length o → ys ≡ values_of a (take n bs) xs → put_from a 0 (take n bs) xs o ≡ ys ++ drop (length ys) o
stand-first a n bs xs o ys most long room is =
    let few = values_few a (take n bs) xs in
    put_all a (take n bs) xs o (omega (arith, few, most, long, room)) ∙ ap (λ zs. zs ++ drop (length zs) o) (sym is)

pub was-listed : (es : List Entry) (p : Places) (a : ℕ) (old new : Lists) (count n : ℕ) → firstRow (rows_of es p a (lengths_of old)) ≡ accepted tt → n ≡ total_held es → ListRoom n p old → Copied a (take n p.addresses) (take n p.times) (take n p.lows) (take n p.highs) count old new → HeadRangesPromise (panel es p) a old new (Ok count)
unfolding head_ranges_call panel_rows not_panel on_panel filled ◌>>=◌ taken
was-listed es p a old new count n e n_is room c =
    let bs = take n p.addresses in
    let ts = take n p.times in
    let us = take n p.lows in
    let vs = take n p.highs in
    let rs = head_ranges a (zip_taken bs ts us vs) in
    let answer : head_ranges_call (lengths_of old) (panel es p) a ≡ accepted rs = ap (λ x. x >>= λ ok. accepted (head_ranges a (taken (total_held es) p))) e ∙ ap (λ m. accepted (head_ranges a (taken m p))) (sym n_is) in
    let same = same-lengths n p old room in
    let columns = head-columns a bs ts us vs same in
    let m = room.most in
    let long = length-take-le n p.addresses (let k = room.places.room_addresses in omega (arith, k, m)) in
    record {
      answer_is = ap accepted (c.count-is ∙ sym (held_plain a bs ts us vs same.times same.lows same.highs)) ∙ sym (ap (λ x. x >>= λ ss. accepted (length ss)) answer);
      times_are = c.times_are ∙ stand-first a n p.addresses ts old.times (map (λ (r : Range). r.time) rs) m long room.into_times columns.times ∙ sym (ap (λ x. filled x (map (λ (r : Range). r.time)) old.times) answer);
      lows_are = c.lows_are ∙ stand-first a n p.addresses us old.lows (map (λ (r : Range). r.low) rs) m long room.into_lows columns.lows ∙ sym (ap (λ x. filled x (map (λ (r : Range). r.low)) old.lows) answer);
      highs_are = c.highs_are ∙ stand-first a n p.addresses vs old.highs (map (λ (r : Range). r.high) rs) m long room.into_highs columns.highs ∙ sym (ap (λ x. filled x (map (λ (r : Range). r.high)) old.highs) answer);
    }
