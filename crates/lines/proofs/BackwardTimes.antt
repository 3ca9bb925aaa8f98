-- Laws that rest on those of specs/BackwardTimes.antt.
--
--     backward_line            they have a line exactly if the ranges have
--     latest_by_backward       where their first e have a line, and not with one more, the latest run is the last e ranges
--
-- Assumes nothing.
use Rattle.std.specs.Prelude.{◌≡◌, ◌↔◌, ℕ, suc, ◌-◌, ◌<◌, ◌≤◌, length, take, drop}
use Rattle.std.proofs.Common.{sym, arith, take-append-drop}
use Rattle.std.proofs.Math.Path.{subst}
use mathlib.Core.List.{List, map, reverse-reverse}
use Rattle.integers.specs.Lists.{All, All-map, All_map_inv, All_imp₂, All-reverse, All_append_right}
use Rattle.definitions.specs.Ranges.{Range}
use Rattle.definitions.specs.Fit.{FitsRange, HasLine, Ordered}
use Rattle.definitions.specs.Latest.{latest_run}
use Rattle.splits.specs.LatestRuns.{latest_drop}
use Rattle.lines.specs.Polygon.{decides}
use Rattle.lines.specs.BackwardTimes.{back_line, back_time, backward, backward_take, fits_again, fits_backward, Until}

module _ (m : ℕ) where
  pub backward_line : (rs : List Range) → Until m rs → HasLine (backward m rs) ↔ HasLine rs
  backward_line rs u = (
    λ h. record {
      line = back_line m h.line;
      fit = record { positive = h.fit.positive; each = All_imp₂ (λ r a f. fits_again m h.line r a f) u (All_map_inv (back_time m) rs (subst (All (FitsRange h.line)) (reverse-reverse (map (back_time m) rs)) (All-reverse h.fit.each))) };
    },
    λ h. record {
      line = back_line m h.line;
      fit = record { positive = h.fit.positive; each = All-reverse (All-map (back_time m) (All_imp₂ (λ r a f. fits_backward m h.line r a f) u h.fit.each)) };
    },
  )

  pub latest_by_backward : (rs : List Range) (e : ℕ) → Until m rs → Ordered rs → e ≤ length rs → HasLine (take e (backward m rs)) → (e < length rs → HasLine (take (suc e) (backward m rs)) → ⊥)
      → latest_run rs ≡ drop (length rs - e) rs
  unfolding latest_run
  latest_by_backward rs e u o h line stops = latest_drop decides rs (length rs - e) o (omega arith) (line_of e h line) (λ j is g. stops (omega arith) (line_back j is (omega arith) g))
    where
      until : (k : ℕ) → Until m (drop k rs)
      until k = All_append_right (take k rs) (drop k rs) (subst (Until m) (sym (take-append-drop k rs)) u)

      line_of : (j : ℕ) → j ≤ length rs → HasLine (take j (backward m rs)) → HasLine (drop (length rs - j) rs)
      line_of j k g = (backward_line (drop (length rs - j) rs) (until (length rs - j))).0 (subst HasLine (backward_take m rs j k) g)

      line_back : (j : ℕ) → length rs - e ≡ suc j → suc e ≤ length rs → HasLine (drop j rs) → HasLine (take (suc e) (backward m rs))
      line_back j is k g =
          let n : j ≡ length rs - suc e = omega arith in
          subst HasLine (sym (backward_take m rs (suc e) k)) ((backward_line (drop (length rs - suc e) rs) (until (length rs - suc e))).1 (subst (λ i. HasLine (drop i rs)) n g))
