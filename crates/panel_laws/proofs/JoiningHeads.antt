-- Laws that rest on those of specs/JoiningHeads.antt.
--
--     joined-panel     it is a panel, where there were fewer than 64 entries, the address is in its span and no entry had it
--     joined-on        the same ranges stand on it
--     joined-held      every head holds what it held
--     joined_ranges    Head ranges gives for every other address what it gave
--     joined_try, joined-added   so does Add, and it does not matter whether the head joins before or after another head's range
--
-- Assumes nothing.
use Rattle.std.specs.Prelude.{ℕ, ◌<◌, ◌≡◌, Bool, true, false, ◌&&◌, eqb, length, take}
use Rattle.std.proofs.Common.{◌∙◌}
use Rattle.std.proofs.Math.Path.{ap, ap₂}
use mathlib.Core.List.{List, [], ◌∷◌, ◌++◌}
use Rattle.std.proofs.Math.Dec.{leb}
use Rattle.std.proofs.lemmas.Bool.{not-true}
use Rattle.integers.specs.Lists.{any}
use Rattle.definitions.specs.Answers.{accepted, ◌>>=◌, Row, ◌if◌, firstRow}
use Rattle.definitions.specs.Ranges.{Range}
use Rattle.definitions.specs.Times.{none}
use Rattle.definitions.specs.Trial.{bad_address, range_rows}
use Rattle.definitions.specs.Panels.{Panel, Taken, taken, on_panel, head_ranges, last_time, total_held, is_at, held_by, bad_panel, not_panel, unknown, crowded}
use Rattle.definitions.specs.PanelCalls.{room_of, panel_rows, add_rows, put_at, added, head_ranges_call}
use Rattle.definitions.specs.declared.entries.Entry.{Entry}
use Rattle.panel_laws.specs.PanelRows.{try_add}
use Rattle.panel_laws.specs.Strangers.{stranger_none}
use Rattle.panel_laws.specs.AddLaws.{IsPanel}
use Rattle.panel_laws.specs.JoiningHeads.{after_more, common-more, good_more, held_more, joined, new_entry, rows_joined, total-more}

pub joined-on : (a : ℕ) (s : Panel) → on_panel (joined a s) ≡ on_panel s
unfolding joined on_panel
joined-on a s = ap (λ n. taken n s.places) (total-more a s.entries)

pub joined-held : (b a : ℕ) (s : Panel) → held_by b (joined a s).entries ≡ held_by b s.entries
unfolding joined
joined-held b a s = held_more b a s.entries

pub joined-panel : {s : Panel} (a : ℕ) → IsPanel s → length s.entries < 64 → bad_address a ≡ false → unknown a s.entries ≡ true → IsPanel (joined a s)
unfolding joined not_panel unknown
joined-panel {s} a h few inside new_head =
    let es = s.entries in
    let bs = take (total_held es) s.places.addresses in
    let alone = not-true (any (is_at a) es) new_head in
    record {
      long = h.long;
      good = ap (λ n. bad_panel (es ++ (new_entry a ∷ [])) (take n s.places.addresses)) (total-more a es) ∙ good_more a es bs h.good few inside alone (stranger_none s a h.long h.good alone);
    }

module _ {s : Panel} (b a : ℕ) (h : IsPanel s) (after : IsPanel (joined a s)) (other : eqb a b ≡ false) where
  pub joined_ranges : (lengths : List ℕ) → head_ranges_call lengths (joined a s) b ≡ head_ranges_call lengths s b
  unfolding head_ranges_call joined
  joined_ranges lengths = ap₂ (λ (rows : List Row) (xs : List Taken). firstRow rows >>= λ ok. accepted (head_ranges b xs)) (rows_joined b a h after other (room_of s.places ++ lengths)) (joined-on a s)

  crowded_joined : crowded b (joined a s).entries ≡ crowded b s.entries
  unfolding crowded joined
  crowded_joined = ap₂ (λ m n. leb 32 m && leb 2048 n) (held_more b a s.entries) (common-more a s.entries)

  pub joined_try : (r : Range) → try_add (joined a s) b r ≡ try_add s b r
  unfolding add_rows joined
  joined_try r =
      ap₂ (λ (rows : List Row) (t : Bool). firstRow (rows ++ range_rows (last_time none (head_ranges b (on_panel (joined a s)))) r ++ (13 if t ∷ []))) (rows_joined b a h after other (room_of s.places)) crowded_joined
      ∙ ap (λ (xs : List Taken). firstRow (panel_rows (room_of s.places) s b ++ range_rows (last_time none (head_ranges b xs)) r ++ (13 if crowded b s.entries ∷ []))) (joined-on a s)

pub joined-added : (b a : ℕ) (s : Panel) (r : Range) → eqb a b ≡ false → added (joined a s) b r ≡ joined a (added s b r)
unfolding joined added
joined-added b a s r other = ap₂ (λ (es : List Entry) (n : ℕ). record { entries = es; places = put_at n b r s.places }) (after_more b a s.entries other) (total-more a s.entries)
