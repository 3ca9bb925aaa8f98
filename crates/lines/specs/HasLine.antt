-- When some line fits: the test `has_line` of the definitions, on a finite list of candidates, decides it among all whole p, q and d of any size.
--
--     fits_range-iff, fits_iff                      the tests of a line decide FitsRange and, where d is above 0, InFit
--     candidates-positive                          each candidate of ranges in order has d above 0
--     low_line, low_line-fits, every-slope           one range has a line of every slope p/d: the one through its low
--     InFit_append, InFit_left, InFit_right        the lines of the fit of xs ++ ys are those of both fits
--     HasLine_left, HasLine_right, HasLine_part    consecutive parts of ranges with a line have a line
--     no-ranges                                    the empty list has a line, as any line will do
--     has_line→Has_line                              what the test finds is a line of the fit
--     HasLine→hasLine, has_line_iff                 and it finds one if there is any
--
-- The last two take as their first argument that two or more ranges with a line have one among the candidates.
-- Example: with h : HasLine (xs ++ ys), `HasLine_left xs ys h : HasLine xs`, by the same line.
-- Assumes nothing.
use Rattle.std.specs.Prelude.{◌≡◌, ◌↔◌, ◌≤◌, T, length, ℤ, pos, ◌+ℤ◌, ◌-ℤ◌, ◌*ℤ◌, ◌≤ℤ◌, ◌<ℤ◌}
use Rattle.std.proofs.Common.{sym, arith}
use mathlib.Core.List.{List, [], ◌∷◌, ◌++◌}
use Rattle.std.specs.Int.Signed.{le_z}
use Rattle.integers.specs.OrderLaws.{≤ℤ-trans, ≤ℤ_of_≡, <ℤ→≤ℤ, *ℤ-mono_l}
use Rattle.integers.specs.Solve.{claims, polynomial! }
use Rattle.integers.specs.Booleans.{and_intro, and_left, and_right}
use Rattle.integers.specs.Lists.{All, nil, cons, Any, any_means, any_passes, all_means, all_passes, All_in, All_of, All-append, All_append_left, All_append_right}
use Rattle.definitions.specs.Ranges.{Range}
use Rattle.definitions.specs.Lines.{Line, reading, fits_range, fits, candidates, has_line}
use Rattle.definitions.specs.Fit.{FitsRange, InFit, HasLine, Ordered}
use Rattle.chains.specs.Candidates.{candidate_positive}
use Rattle.lines.specs.LineOrder.{Positive}

-- ---- the tests of a line
pub fits_range-iff : (l : Line) (r : Range) → T (fits_range l r) ↔ FitsRange l r
unfolding fits_range
fits_range-iff l r =
    let over = le_z (l.d *ℤ r.low) (reading l r.time) in
    let under = le_z (reading l r.time) (l.d *ℤ r.high) in (
      λ t. record { over_low = record { le = and_left over under t }; under_high = record { le = and_right over under t } },
      λ f. and_intro over under f.over_low.le f.under_high.le,
    )

pub fits_iff : (rs : List Range) (l : Line) → Positive l → T (fits rs l) ↔ InFit rs l
unfolding fits
fits_iff rs l h = (
  λ t. record { positive = h; each = all_means (fits_range l) (λ r. (fits_range-iff l r).0) rs t },
  λ f. all_passes (fits_range l) (λ r. (fits_range-iff l r).1) f.each,
)

-- ---- the candidates
pub candidates-positive : (rs : List Range) → Ordered rs → All Positive (candidates rs)
candidates-positive rs o = All_of (candidates rs) (candidate_positive rs o)

-- ---- one range: lines through its low
fits-at-low : {l : Line} {r : Range} → pos 0 <ℤ l.d → r.low ≤ℤ r.high → reading l r.time ≡ l.d *ℤ r.low → FitsRange l r
fits-at-low {l} h o e = record { over_low = ≤ℤ_of_≡ (sym e); under_high = ≤ℤ-trans (≤ℤ_of_≡ e) (*ℤ-mono_l l.d (<ℤ→≤ℤ h) o) }

-- the line of slope p/d through the low of r
unfoldable pub low_line : Range → ℤ → ℤ → Line
low_line r p d = record { p = p; q = d *ℤ r.low -ℤ p *ℤ pos r.time; d = d }

low_line-value : (p d t u : ℤ) → p *ℤ t +ℤ (d *ℤ u -ℤ p *ℤ t) ≡ d *ℤ u
low_line-value p d t u = polynomial! (p ∷ d ∷ t ∷ u ∷ []) (search claims depth 40) (omega arith)

pub low_line-fits : (r : Range) → r.low ≤ℤ r.high → (p d : ℤ) → pos 0 <ℤ d → InFit (r ∷ []) (low_line r p d)
unfolding low_line reading
low_line-fits r o p d h = record { positive = h; each = cons (fits-at-low h o (low_line-value p d (pos r.time) r.low)) nil }

pub every-slope : (r : Range) → r.low ≤ℤ r.high → (p d : ℤ) → pos 0 <ℤ d → (q : ℤ) × InFit (r ∷ []) (record { p = p; q = q; d = d })
unfolding low_line
every-slope r o p d h = ((low_line r p d).q, low_line-fits r o p d h)

-- ---- consecutive parts
pub InFit_append : {xs ys : List Range} {l : Line} → InFit xs l → InFit ys l → InFit (xs ++ ys) l
InFit_append f g = record { positive = f.positive; each = All-append f.each g.each }

module _ (xs ys : List Range) where
  pub InFit_left : {l : Line} → InFit (xs ++ ys) l → InFit xs l
  InFit_left f = record { positive = f.positive; each = All_append_left xs ys f.each }

  pub InFit_right : {l : Line} → InFit (xs ++ ys) l → InFit ys l
  InFit_right f = record { positive = f.positive; each = All_append_right xs ys f.each }

  pub HasLine_left : HasLine (xs ++ ys) → HasLine xs
  HasLine_left h = record { line = h.line; fit = InFit_left h.fit }

  pub HasLine_right : HasLine (xs ++ ys) → HasLine ys
  HasLine_right h = record { line = h.line; fit = InFit_right h.fit }

pub HasLine_part : (xs ys zs : List Range) → HasLine (xs ++ (ys ++ zs)) → HasLine ys
HasLine_part xs ys zs h = HasLine_left ys zs (HasLine_right xs (ys ++ zs) h)

-- ---- the test of ranges
pub no-ranges : HasLine []
no-ranges = record { line = record { p = pos 0; q = pos 0; d = pos 1 }; fit = record { positive = record { lt = tt }; each = nil } }

pub has_line→Has_line : (rs : List Range) → Ordered rs → T (has_line rs) → HasLine rs
unfolding has_line
has_line→Has_line [] o t = no-ranges
has_line→Has_line (r ∷ []) o t = record { line = low_line r (pos 0) (pos 1); fit = low_line-fits r o.0 (pos 0) (pos 1) (record { lt = tt }) }
has_line→Has_line (r ∷ s ∷ rs) o t =
    let run = r ∷ s ∷ rs in
    let found = any_means (fits run) (λ l p. p) (candidates run) t in
    record { line = found.entry; fit = (fits_iff run found.entry (All_in (candidates-positive run o) found.among)).0 found.holds }

module _ (candidate-fits : (rs : List Range) → 2 ≤ length rs → Ordered rs → HasLine rs → Any (InFit rs) (candidates rs)) where
  pub HasLine→hasLine : (rs : List Range) → Ordered rs → HasLine rs → T (has_line rs)
  unfolding has_line
  HasLine→hasLine [] o h = tt
  HasLine→hasLine (r ∷ []) o h = tt
  HasLine→hasLine (r ∷ s ∷ rs) o h = let run = r ∷ s ∷ rs in any_passes (fits run) (λ l f. (fits_iff run l f.positive).1 f) (candidate-fits run (omega arith) o h)

  pub has_line_iff : (rs : List Range) → Ordered rs → T (has_line rs) ↔ HasLine rs
  has_line_iff rs o = (has_line→Has_line rs o, HasLine→hasLine rs o)
