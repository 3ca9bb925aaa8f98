-- Laws that rest on those of specs/OneRange.antt.
--
--     turned-fits            turned about a range's time, a line that fits the range still fits it
--     no_corner              so no line of the fit of one range is a corner
--     few_no_corner  every line is in the fit of no range; fewer than two ranges have no corner
--
-- Assumes nothing.
use Rattle.std.specs.Prelude.{List, [], ◌∷◌, ◌<◌, ℤ, pos, negsuc, ◌*ℤ◌, length, ◌≤ℤ◌}
use Rattle.std.proofs.Common.{sym, subst, arith}
use Rattle.integers.specs.Lists.{nil, cons, All-head}
use Rattle.definitions.specs.Ranges.{Range}
use Rattle.definitions.specs.Lines.{Line}
use Rattle.definitions.specs.Fit.{InFit, Corner}
use Rattle.lines.specs.OneRange.{no_range_open, turned, turned-between, turned-reading}

pub turned-fits : (r : Range) (e : ℤ) {l : Line} → InFit (r ∷ []) l → InFit (r ∷ []) (turned r.time e l)
unfolding turned
turned-fits r e {l} f =
    let fits = All-head f.each in
    let same = sym (turned-reading r.time e l) in
    record {
      positive = f.positive;
      each = cons (record { over_low = subst (λ x. (l.d *ℤ r.low) ≤ℤ x) same fits.over_low; under_high = subst (λ x. x ≤ℤ (l.d *ℤ r.high)) same fits.under_high }) nil;
    }

pub no_corner : (r : Range) (l : Line) → Corner (r ∷ []) l → ⊥
no_corner r l c =
    c.extreme (turned r.time (pos 1) l) (turned r.time (negsuc 0) l) (turned-fits r (pos 1) c.fit) (turned-fits r (negsuc 0) c.fit) (turned-between r.time l c.fit.positive)

pub few_no_corner : (rs : List Range) → length rs < 2 → (l : Line) → Corner rs l → ⊥
unfolding turned
few_no_corner [] h l c =
    let over = c.fit.positive in
    c.extreme (turned 0 (pos 1) l) (turned 0 (negsuc 0) l) (no_range_open (turned 0 (pos 1) l) over) (no_range_open (turned 0 (negsuc 0) l) over) (turned-between 0 l over)
few_no_corner (r ∷ []) h l c = no_corner r l c
few_no_corner (r ∷ s ∷ rs) h l c = absurd (omega arith)
