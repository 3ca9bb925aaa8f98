-- Rows told one after the other.
--
--     Told                   the lines of the first j rows are put, and each took at most 256 bytes
--     told_none, told_next, told_all   of no row, of one row more, and of all
--     told_room              there is room for the next line
--
-- Assumes nothing.
use Rattle.std.specs.Prelude.{ℕ, ◌+◌, ◌*◌, ◌≤◌, ◌<◌, ◌≡◌, length}
use Rattle.std.proofs.Math.Path.{sym, subst}
use mathlib.Core.List.{List, [], ◌++◌}
use native.Mathlib.Omega.{arith}
use Rattle.std.proofs.Common.{add-one}
use Rattle.definitions.specs.Report.{segment_line}
use Rattle.values.specs.Rows.{segment_from}
use Rattle.drift.specs.Columns.{Columns, row_at}
use Rattle.fields.specs.SpliceLaws.{splice_in}
use Rattle.text.specs.Put.{Put}
use Rattle.text.specs.PutLaws.{put_length, put_then}
use Rattle.report_text.specs.Lines.{lines_from, RowsReady}

pub record Told (from : ℕ) (cs : Columns) (rows : ℕ) (old : List ℕ) (j at : ℕ) (text : List ℕ) : Type 0 where
  pub some : j ≤ rows
  pub put : Put from (lines_from cs j) old at text
  pub short : at ≤ from + 256 * j

module _ (from rows : ℕ) (old : List ℕ) (cs : Columns) (ready : RowsReady from rows old cs) where
  pub told_none : Told from cs rows old 0 from old
  unfolding lines_from
  told_none =
      let room = ready.room in
      record { some = omega arith; put = record { fits = omega (arith, room); next_is = omega arith; text_is = sym (splice_in from [] old (omega (arith, room))) }; short = omega arith }

  -- the next line has room
  pub told_room : (j at : ℕ) (text : List ℕ) → j < rows → Told from cs rows old j at text → at + 256 ≤ length text
  told_room j at text h told = omega (arith, h, ready.room, told.short, put_length told.put)

  pub told_next : (j at next : ℕ) (text after : List ℕ) → j < rows → Told from cs rows old j at text
      → Put at (segment_line (j + 1) (segment_from (row_at cs j))) text next after → next ≤ at + 256 → Told from cs rows old (j + 1) next after
  unfolding lines_from
  told_next j at next text after h told line short =
      record {
        some = omega arith;
        put = subst (λ k. Put from (lines_from cs k) old next after) (sym (add-one j)) (subst (λ k. Put from (lines_from cs j ++ segment_line k (segment_from (row_at cs j))) old next after) (add-one j) (put_then told.put line));
        short = omega (arith, short, told.short);
      }

  pub told_all : (j at : ℕ) (text : List ℕ) → rows ≤ j → Told from cs rows old j at text → Put from (lines_from cs rows) old at text
  told_all j at text h told = let last : j ≡ rows = omega (arith, h, told.some) in subst (λ k. Put from (lines_from cs k) old at text) last told.put
