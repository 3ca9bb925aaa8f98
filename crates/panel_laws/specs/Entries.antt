-- Entries as code reads and stores them.
--
--     no_entry    what stands past the end: no address, nothing held
--     with_held   a list of entries in which the one at a place holds so many; past the end nothing changes
--
-- Assumes nothing.
use Rattle.std.specs.Prelude.{ℕ, List, get_or, set}
use Rattle.definitions.specs.declared.entries.Entry.{Entry}

abbrev pub no_entry : Entry
no_entry = record { address = 0; held = 0 }

abbrev pub with_held : ℕ → ℕ → List Entry → List Entry
with_held at h es = set es at (record { address = (get_or es at no_entry).address; held = h })
