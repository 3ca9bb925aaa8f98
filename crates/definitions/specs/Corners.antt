-- The corners of the fit of two or more ranges, in corner order.
--
--     reduced                the line with no common divisor above 1 of p, q and d
--     before                 the order of lines: by slope, then by intercept
--     side                   on which side of the diagonal between two lines a line lies
--     between                strictly between two lines: on their diagonal, and between their slopes
--     fitting                the lines through two ends that fit, reduced, each once, by rising slope
--     extreme                those that are not strictly between two others
--     corner_order, corners   the scope's corner order, and the corners in it
--
-- A corner is a line of the fit that is not strictly between two other lines of it. The fit is endless, and the finite list of lines through two ends stands for it; that no corner is missed and that no other line of the fit has a listed one strictly between is a theorem of `lines`.
-- Assumes nothing.
use Rattle.std.specs.Prelude.{Bool, not, ◌&&◌, ◌||◌, ℤ, pos, ◌+ℤ◌, ◌-ℤ◌, ◌*ℤ◌}
use mathlib.Core.List.{List, [], ◌∷◌, ◌++◌, map, reverse, get_last_d}
use Rattle.std.specs.Int.Signed.{lt_z, quot_z}
use Rattle.integers.specs.Tests.{eq_z}
use Rattle.integers.specs.Lists.{any, filter}
use Rattle.integers.specs.Sorting.{sorted}
use Rattle.integers.specs.LowestTerms.{common_divisor}
use Rattle.definitions.specs.Ranges.{Range}
use Rattle.definitions.specs.Lines.{Line, fits, candidates}

unfoldable pub reduced : Line → Line
reduced l =
    let g = pos (common_divisor l.p l.q l.d) in
    record { p = quot_z l.p g; q = quot_z l.q g; d = quot_z l.d g }

-- ---- the order of lines

-- p/d of k against p/d of l, each way cross-multiplied, and q/d where these are equal
unfoldable pub before : Line → Line → Bool
before k l = lt_z (k.p *ℤ l.d) (l.p *ℤ k.d) || (eq_z (k.p *ℤ l.d) (l.p *ℤ k.d) && lt_z (k.q *ℤ l.d) (l.q *ℤ k.d))

-- above 0 where l is above the diagonal from j to k, 0 on it, below 0 below it (j before k): a determinant in slope and intercept
unfoldable pub side : Line → Line → Line → ℤ
side j k l =
    l.p *ℤ (j.q *ℤ k.d -ℤ k.q *ℤ j.d)
    -ℤ l.q *ℤ (j.p *ℤ k.d -ℤ k.p *ℤ j.d)
    +ℤ l.d *ℤ (j.p *ℤ k.q -ℤ k.p *ℤ j.q)

unfoldable pub between : Line → Line → Line → Bool
between j k l = before j l && (before l k && eq_z (side j k l) (pos 0))

unfoldable pub between_some : List Line → Line → Bool
between_some ls l = any (λ j. any (λ k. between j k l) ls) ls

-- ---- corners

unfoldable pub fitting : List Range → List Line
fitting rs = sorted before (map reduced (filter (fits rs) (candidates rs)))

unfoldable pub extreme : List Line → List Line
extreme ls = filter (λ l. not (between_some ls l)) ls

-- of lines by rising slope: the least slope, those above the diagonal by rising slope, the greatest slope, those below it by falling slope
unfoldable pub corner_order : List Line → List Line
corner_order [] = []
corner_order (l ∷ []) = l ∷ []
corner_order (l ∷ m ∷ ls) =
    let k = get_last_d ls m in
    (l ∷ filter (λ x. lt_z (pos 0) (side l k x)) (m ∷ ls)) ++ (k ∷ reverse (filter (λ x. lt_z (side l k x) (pos 0)) (m ∷ ls)))

unfoldable pub corners : List Range → List Line
corners rs = corner_order (extreme (fitting rs))
