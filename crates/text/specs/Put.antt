-- Text that is put into a slice piece by piece.
--
--     Room at new text             the piece `new` fits into the text from `at` on
--     Put at new old next text     `text` is `old` with the piece from `at` on, and `next` is the place after it
--
-- Assumes nothing.
use Rattle.std.specs.Prelude.{ℕ, ◌+◌, ◌≤◌, ◌≡◌, List, length}
use Rattle.fields.specs.Splices.{splice}

abbrev pub Room : ℕ → List ℕ → List ℕ → Type 0
Room at new text = at + length new ≤ length text

pub record Put (at : ℕ) (new old : List ℕ) (next : ℕ) (text : List ℕ) : Type 0 where
  pub fits : Room at new old
  pub next_is : next ≡ at + length new
  pub text_is : text ≡ splice at new old
