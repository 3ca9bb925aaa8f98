-- The fit of the mirror image: its lines are the images of the lines of the fit, so the same ranges join, and the segments are the images of the segments.
--
--     InFit_mirrored, InFit_back, HasLine_mirrored   from a fit to that of the image, and back
--     ordered-mirrored                 the image of ranges in order is in order
--     candidates-mirrored              the image of a candidate is a candidate of the image
--     has_line-mirrored                 a line fits the image exactly if one fits the ranges
--     segments-mirrored                the segments of the image are the images of the segments
--     proper-mirrored, reduced-mirrored   lowest terms
--
-- Further laws stand in proofs/MirroredFit.antt.
-- Assumes nothing.
use Rattle.std.specs.Prelude.{◌≡◌, List, [], ◌∷◌, map, reverse, ℕ, T, ℤ, pos, neg_ℤ}
use Rattle.std.proofs.Common.{subst, ◌∙◌, ap, inl, inr}
use Rattle.std.proofs.Math.IntN.{neg_ℤ-neg_ℤ}
use Rattle.integers.specs.OrderLaws.{neg-≤}
use Rattle.integers.specs.Booleans.{T_ext}
use Rattle.integers.specs.Lists.{In, all_means, all_passes, any_means, any_passes, All-map, All_imp, in_map, in_reverse_inv, in_append_left, in_append_right, in-append-inv, not-in-nil}
use Rattle.integers.specs.Divides.{∣ℤ-neg, ◌∣ℤ◌}
use Rattle.definitions.specs.Ranges.{Range}
use Rattle.definitions.specs.Lines.{Line, fits_range, fits, through, through_ends, candidates_from, candidates, has_line}
use Rattle.definitions.specs.Corners.{reduced, fitting}
use Rattle.definitions.specs.Fit.{InFit, HasLine, Ordered}
use Rattle.definitions.specs.Segments.{segments}
use Rattle.definitions.specs.Mirrors.{mirrored_line, mirrored_range}
use Rattle.splits.specs.Cutting.{cut_map}
use Rattle.chains.specs.Mirror.{through-neg, neg_same, neg_slope<, neg-product, neg_product<}
use Rattle.chains.specs.Closing.{neg-fits_range}
use Rattle.lines.specs.HasLine.{fits_range-iff}
use Rattle.lines.specs.LineOrder.{Positive, Proper, same-sym, reduced_same, reduced_proper, reduced-is, Precedes, by_slope_is, by_intercept}
use Rattle.lines.specs.FittingLines.{in_fitting, in_fitting_inv}
use Rattle.lines.specs.Mirrored.{mirrored, mirrored-mirrored}

-- ---- the fit
fits-mirrored : (rs : List Range) (l : Line) → T (fits rs l) → T (fits (mirrored rs) (mirrored_line l))
unfolding fits
fits-mirrored rs l t =
    all_passes (fits_range (mirrored_line l)) (λ r. (fits_range-iff (mirrored_line l) r).1)
    (All-map mirrored_range (All_imp (λ r f. neg-fits_range f) (all_means (fits_range l) (λ r. (fits_range-iff l r).0) rs t)))

pub InFit_mirrored : {rs : List Range} {l : Line} → InFit rs l → InFit (mirrored rs) (mirrored_line l)
InFit_mirrored f = record { positive = f.positive; each = All-map mirrored_range (All_imp (λ r g. neg-fits_range g) f.each) }

pub InFit_back : (rs : List Range) (l : Line) → InFit (mirrored rs) l → InFit rs (mirrored_line l)
InFit_back rs l f = subst (λ xs. InFit xs (mirrored_line l)) (mirrored-mirrored rs) (InFit_mirrored f)

pub HasLine_mirrored : {rs : List Range} → HasLine rs → HasLine (mirrored rs)
HasLine_mirrored h = record { line = mirrored_line h.line; fit = InFit_mirrored h.fit }

pub ordered-mirrored : (rs : List Range) → Ordered rs → Ordered (mirrored rs)
ordered-mirrored [] o = tt
ordered-mirrored (r ∷ rs) o = (neg-≤ o.0, All-map mirrored_range o.1, ordered-mirrored rs o.2)

-- ---- the candidates
through-mirrored : (a : ℕ) (u : ℤ) (b : ℕ) (v : ℤ) → mirrored_line (through a u b v) ≡ through a (neg_ℤ u) b (neg_ℤ v)
unfolding through
through-mirrored a u b v = through-neg (record { t = pos a; u = u }) (record { t = pos b; u = v })

ends-mirrored : (r s : Range) → map mirrored_line (through_ends r s) ≡ reverse (through_ends (mirrored_range r) (mirrored_range s))
unfolding through_ends
ends-mirrored r s = λ i.
    through-mirrored r.time r.high s.time s.low i
    ∷ through-mirrored r.time r.high s.time s.high i
    ∷ through-mirrored r.time r.low s.time s.low i
    ∷ through-mirrored r.time r.low s.time s.high i
    ∷ []

in_ends : (r s : Range) {c : Line} → In c (through_ends r s) → In (mirrored_line c) (through_ends (mirrored_range r) (mirrored_range s))
in_ends r s {c} i = in_reverse_inv (through_ends (mirrored_range r) (mirrored_range s)) (subst (In (mirrored_line c)) (ends-mirrored r s) (in_map mirrored_line i))

from-mirrored : (r : Range) (rs : List Range) {c : Line} → In c (candidates_from r rs) → In (mirrored_line c) (candidates_from (mirrored_range r) (mirrored rs))
unfolding candidates_from
from-mirrored r [] i = absurd (not-in-nil i)
from-mirrored r (s ∷ rs) {c} i =
    elim (in-append-inv (through_ends r s) i) [
      | inl k ↦ in_append_left (candidates_from (mirrored_range r) (mirrored rs)) (in_ends r s k)
      | inr k ↦ in_append_right (through_ends (mirrored_range r) (mirrored_range s)) (from-mirrored r rs k)
    ]

pub candidates-mirrored : (rs : List Range) {c : Line} → In c (candidates rs) → In (mirrored_line c) (candidates (mirrored rs))
unfolding candidates
candidates-mirrored [] i = absurd (not-in-nil i)
candidates-mirrored (r ∷ rs) {c} i =
    elim (in-append-inv (candidates_from r rs) i) [
      | inl k ↦ in_append_left (candidates (mirrored rs)) (from-mirrored r rs k)
      | inr k ↦ in_append_right (candidates_from (mirrored_range r) (mirrored rs)) (candidates-mirrored rs k)
    ]

-- ---- which ranges join
has-mirrored : (rs : List Range) → T (has_line rs) → T (has_line (mirrored rs))
unfolding has_line
has-mirrored [] t = tt
has-mirrored (r ∷ []) t = tt
has-mirrored (r ∷ s ∷ rs) t =
    let run = r ∷ s ∷ rs in
    let found = any_means (fits run) (λ l p. p) (candidates run) t in
    any_passes (fits (mirrored run)) (λ l p. p) (record { entry = mirrored_line found.entry; among = candidates-mirrored run found.among; holds = fits-mirrored run found.entry found.holds })

pub has_line-mirrored : (rs : List Range) → has_line (mirrored rs) ≡ has_line rs
has_line-mirrored rs = T_ext (λ t. subst (λ xs. T (has_line xs)) (mirrored-mirrored rs) (has-mirrored (mirrored rs) t)) (has-mirrored rs)

pub segments-mirrored : (rs : List Range) → segments (mirrored rs) ≡ map mirrored (segments rs)
unfolding segments
segments-mirrored rs = cut_map mirrored_range has_line has_line has_line-mirrored rs

-- ---- lowest terms
divides-back : (k : ℕ) (z : ℤ) → k ∣ℤ neg_ℤ z → k ∣ℤ z
divides-back k z h = subst (λ x. k ∣ℤ x) (neg_ℤ-neg_ℤ z) (∣ℤ-neg k (neg_ℤ z) h)

pub proper-mirrored : {l : Line} → Proper l → Proper (mirrored_line l)
proper-mirrored {l} h =
    record {
      positive = h.positive;
      lowest = record { only_one = λ k m. h.lowest.only_one k (record { of_p = divides-back k l.p m.of_p; of_q = divides-back k l.q m.of_q; of_d = m.of_d }) };
    }

pub reduced-mirrored : (l : Line) → Positive l → reduced (mirrored_line l) ≡ mirrored_line (reduced l)
reduced-mirrored l h = reduced-is {k = mirrored_line l} h (proper-mirrored (reduced_proper l h)) (same-sym (neg_same l (reduced l) (reduced_same l h)))

-- ---- the fitting lines
pub precedes-mirrored : (k l : Line) → Precedes k l → Precedes (mirrored_line l) (mirrored_line k)
precedes-mirrored k l (by_slope_is h) = by_slope_is (neg_slope< k l h)
precedes-mirrored k l (by_intercept e h) = by_intercept (neg-product k.p l.d l.p k.d e) (neg_product< k.q l.d l.q k.d h)

pub in_mirrored : (rs : List Range) → Ordered rs → {x : Line} → In x (fitting rs) → In (mirrored_line x) (fitting (mirrored rs))
in_mirrored rs o {x} i =
    let c = in_fitting_inv rs o i in
    let e : reduced (mirrored_line c.entry) ≡ mirrored_line x = reduced-mirrored c.entry c.holds.fit.positive ∙ ap mirrored_line c.holds.is in
    subst (λ l. In l (fitting (mirrored rs))) e (in_fitting (mirrored rs) (ordered-mirrored rs o) (candidates-mirrored rs c.among) (InFit_mirrored c.holds.fit))
