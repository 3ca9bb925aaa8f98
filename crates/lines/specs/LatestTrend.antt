-- The latest run of ordered ranges.
--
--     rest_of, latest-suffix  it is the end of the ranges; so many stand before it
--     latest_has_line        some line fits it, and it is not empty where there are ranges
--     latest_longest         no longer end has a line
--     latest_two             it has two ranges or more where there are so many
--     latest-short           fewer than two ranges are their own latest run
--     latest-mirrored        the latest run of the mirror image is the image of the latest run
--     FromEnd rs runs        the runs are those of cutting from the end: the latest run first, then that of the ranges before it, until none is left
--     from_end-exists, from_end-only   there are such runs, and no others
--     from_end-split         turned round, they are a split
--     from_end-count         they are as many as the segments
--
-- Assumes nothing.
use Rattle.std.specs.Prelude.{◌≡◌, refl, Bool, true, false, ℕ, zero, suc, ◌-◌, ◌≤◌, ◌<◌, take, drop}
use Rattle.std.proofs.Common.{sym, ap, ◌∙◌, le_refl, arith, length-append, length-drop, take-append-drop, take_at, length-take-le}
use Rattle.std.proofs.Math.Path.{subst}
use mathlib.Core.List.{List, [], ◌∷◌, ◌++◌, reverse, flatten, reverse-cons}
use Rattle.std.proofs.Math.ListN.{length}
use Rattle.definitions.specs.Ranges.{Range}
use Rattle.definitions.specs.Lines.{has_line}
use Rattle.definitions.specs.Fit.{HasLine, Ordered}
use Rattle.definitions.specs.Splits.{GoodRun, GoodRuns, Split}
use Rattle.definitions.specs.Segments.{segments}
use Rattle.definitions.specs.Latest.{latest_by, latest_run}
use Rattle.splits.specs.OrderedRanges.{ordered-left, ordered-right}
use Rattle.splits.specs.Cutting.{cut_nil}
use Rattle.splits.specs.Runs.{flatten_snoc, good_runs_append}
use Rattle.splits.specs.LatestRuns.{cut_back, latest-suffix as suffix, latest_good, latest_longest as longest, latest_all}
use Rattle.splits.proofs.LatestRuns.{latest_cut}
use Rattle.splits.proofs.Segments as Splits
use Rattle.chains.proofs.Results.{two_have_line}
use Rattle.lines.specs.Mirrored.{mirrored}
use Rattle.lines.specs.MirroredFit.{has_line-mirrored}
use Rattle.lines.specs.Polygon.{decides}

-- how many ranges stand before the latest run
abbrev pub rest_of : List Range → ℕ
rest_of rs = length rs - length (latest_run rs)

pub latest-suffix : (rs : List Range) → (rs ≡ take (rest_of rs) rs ++ latest_run rs) × (length (latest_run rs) ≤ length rs)
unfolding latest_run
latest-suffix rs =
    let (front, whole) = suffix has_line rs in
    let n : length rs ≡ length (front ++ latest_run rs) = ap length whole in
    let long = length-append front (latest_run rs) in
    (whole ∙ ap (λ l. l ++ latest_run rs) (sym (ap (take (rest_of rs)) whole ∙ take_at front (latest_run rs) (rest_of rs) (omega arith))), omega arith)

module _ (rs : List Range) (o : Ordered rs) where
  pub latest_has_line : 0 < length rs → GoodRun HasLine (latest_run rs)
  unfolding latest_run
  latest_has_line = latest_good decides rs o

  pub latest_longest : (front back : List Range) → rs ≡ front ++ back → HasLine back → length back ≤ length (latest_run rs)
  unfolding latest_run
  latest_longest front back e h = subst (λ l. length back ≤ length (latest_by has_line l)) (sym e) (longest decides front back (subst Ordered e o) h)

  pub latest_two : 2 ≤ length rs → 2 ≤ length (latest_run rs)
  latest_two h =
      let k = length rs - 2 in
      let whole = sym (take-append-drop k rs) in
      let long = length-drop k rs in
      let most = latest_longest (take k rs) (drop k rs) whole (two_line (drop k rs) (ordered-right (take k rs) (drop k rs) (subst Ordered whole o)) (omega arith)) in
      omega arith
    where
      two_line : (xs : List Range) → Ordered xs → length xs ≡ 2 → HasLine xs
      two_line [] p e = absurd (omega arith)
      two_line (x ∷ []) p e = absurd (omega arith)
      two_line (x ∷ y ∷ []) p e = two_have_line x y p
      two_line (x ∷ y ∷ z ∷ xs) p e = absurd (omega arith)

pub latest-short : (rs : List Range) → Ordered rs → length rs < 2 → latest_run rs ≡ rs
unfolding latest_run latest_by
latest-short [] o h = refl
latest-short (r ∷ []) o h = latest_all decides (r ∷ []) o (decides.one r o)
latest-short (r ∷ s ∷ rs) o h = absurd (omega arith)

pub latest-mirrored : (rs : List Range) → latest_run (mirrored rs) ≡ mirrored (latest_run rs)
unfolding latest_run latest_by
latest-mirrored [] = refl
latest-mirrored (r ∷ rs) = ap (λ (b : Bool). elim b [ true ↦ mirrored (r ∷ rs) | false ↦ latest_by has_line (mirrored rs) ]) (has_line-mirrored (r ∷ rs)) ∙ by (has_line (r ∷ rs)) (latest-mirrored rs)
  where
    by : (b : Bool) → latest_by has_line (mirrored rs) ≡ mirrored (latest_by has_line rs)
        → elim b [ true ↦ mirrored (r ∷ rs) | false ↦ latest_by has_line (mirrored rs) ] ≡ mirrored (elim b [ true ↦ r ∷ rs | false ↦ latest_by has_line rs ])
    by true e = refl
    by false e = e

-- ---- cutting from the end

pub data FromEnd : List Range → List (List Range) → Type 0 where
  none_left : FromEnd [] []
  latest_off : {rs : List Range} {runs : List (List Range)} → 0 < length rs → FromEnd (take (rest_of rs) rs) runs → FromEnd rs (latest_run rs ∷ runs)

good_length : (run : List Range) → GoodRun HasLine run → 0 < length run
good_length [] g = absurd g
good_length (r ∷ run) g = omega arith

rest-ordered : (rs : List Range) → Ordered rs → Ordered (take (rest_of rs) rs)
rest-ordered rs o = ordered-left (take (rest_of rs) rs) (latest_run rs) (subst Ordered (latest-suffix rs).0 o)

pub from_end-exists : (rs : List Range) → Ordered rs → (runs : List (List Range)) × FromEnd rs runs
from_end-exists rs o = within (length rs) rs o (le_refl (length rs))
  where
    -- one run more, where fewer ranges can be cut
    one_more : (most : ℕ) → ((rs : List Range) → Ordered rs → length rs ≤ most → (runs : List (List Range)) × FromEnd rs runs) → (rs : List Range) → Ordered rs → length rs ≤ suc most → (runs : List (List Range)) × FromEnd rs runs
    one_more most fewer [] o h = ([], none_left)
    one_more most fewer (r ∷ rs) o h =
        let whole = r ∷ rs in
        let some = good_length (latest_run whole) (latest_has_line whole o (omega arith)) in
        let front = take (rest_of whole) whole in
        let (runs, rest) = fewer front (rest-ordered whole o) (omega (arith, some, length-take-le (rest_of whole) whole (omega arith))) in
        (latest_run whole ∷ runs, latest_off {rs = whole} (omega arith) rest)

    within : (most : ℕ) (rs : List Range) → Ordered rs → length rs ≤ most → (runs : List (List Range)) × FromEnd rs runs
    within zero [] o h = ([], none_left)
    within zero (r ∷ rs) o h = absurd (omega arith)
    within (suc most) rs o h = one_more most (within most) rs o h

pub from_end-only : {rs : List Range} {runs runs' : List (List Range)} → FromEnd rs runs → FromEnd rs runs' → runs ≡ runs'
from_end-only none_left none_left = refl
from_end-only none_left (latest_off some rest) = absurd (omega arith)
from_end-only (latest_off some rest) none_left = absurd (omega arith)
from_end-only {rs} (latest_off some rest) (latest_off some' rest') = ap (λ runs. latest_run rs ∷ runs) (from_end-only rest rest')

pub from_end-split : {rs : List Range} {runs : List (List Range)} → Ordered rs → FromEnd rs runs → Split HasLine rs (reverse runs)
unfolding flatten
from_end-split o none_left = record { whole = refl; each = tt }
from_end-split {rs} o (latest_off {runs = runs} some rest) =
    let s = from_end-split (rest-ordered rs o) rest in
    let turned = reverse-cons (latest_run rs) runs in
    record {
      whole = ap flatten turned ∙ flatten_snoc (reverse runs) (latest_run rs) ∙ ap (λ l. l ++ latest_run rs) s.whole ∙ sym (latest-suffix rs).0;
      each = subst (GoodRuns HasLine) (sym turned) (good_runs_append HasLine (reverse runs) (latest_run rs ∷ []) s.each (latest_has_line rs o some, tt));
    }

-- the runs from the last on, each from its end, are those of cutting from the end
back_count : {rs : List Range} {runs : List (List Range)} → Ordered rs → FromEnd rs runs → length runs ≡ length (cut_back has_line rs)
unfolding cut_back latest_run
back_count o none_left = sym (ap length (cut_nil _))
back_count {rs} o (latest_off some rest) =
    let c = latest_cut decides rs o some in
    let (end, few) = latest-suffix rs in
    let n : length rs ≡ length (c.front ++ latest_run rs) = ap length c.whole in
    let long = length-append c.front (latest_run rs) in
    let front_is = ap (take (rest_of rs)) c.whole ∙ take_at c.front (latest_run rs) (rest_of rs) (omega arith) in
    ap suc (back_count (rest-ordered rs o) rest ∙ ap (λ l. length (cut_back has_line l)) front_is) ∙ sym (ap length c.cuts)

pub from_end-count : {rs : List Range} {runs : List (List Range)} → Ordered rs → FromEnd rs runs → length runs ≡ length (segments rs)
unfolding cut_back
from_end-count {rs} o f = back_count o f ∙ Splits.segments_back decides rs o
