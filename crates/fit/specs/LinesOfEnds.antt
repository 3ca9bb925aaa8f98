-- Points and the lines through them, as code makes them and tests them.
--
--     point_of a                      the point that a stands for
--     Proper a                       its time is a time, and its value within the span
--     PointIs N r                    r stands for N, and is proper
--     Seen flip e r, seen_of         r stands for an end, in the mirror where flip holds; as the function reads it
--     point-of                       so it stands for the point with that time and value
--     LineThrough a b r, line-through   r is the line through two points, and bounded; how the function keeps it
--     points-env, line_at, lines-env, line_env, three-env   bounds for the laws of `Machine`: two points, a line and a point, two lines, one line, three points
--     turn-read                      what i64 computes of the slopes of two lines
--     height-test                    a test of a line's height over a point
--     joined-told                    a test of the line through two points against a third one
--     neg_d, negated-is, bounded-mirrored   the mirror image of a line of the code, how it is known by its three numbers, and that it is bounded too
--
-- Assumes nothing.
use Rattle.std.specs.Prelude.{◌≡◌, Bool, [], ◌∷◌, ℕ, ◌<◌, ◌^◌, ℤ, pos, neg_ℤ, ◌-ℤ◌, ◌*ℤ◌}
use Rattle.std.proofs.Common.{sym, ◌∙◌, ap, ap₂, subst, to_z-of_z}
use Rattle.std.specs.Int.Signed.{mag, le_z}
use Rattle.std.specs.Int.{w64}
use Rattle.integers.specs.Bounds.{Within, in_sub, in_mul, in_wide, in_neg}
use Rattle.integers.specs.Quotes.{quotes}
use Rattle.integers.specs.Machine.{Env, ◌▹◌, end, upto, machine_value!, reads}
use Rattle.definitions.specs.Spans.{most_value, most_time}
use Rattle.chains.specs.Points.{gap, through, turn, Point as PointTerm}
use Rattle.drift_laws.specs.RangeEnds.{in_mirror, end_of}
use Rattle.drift_laws.specs.EndReads.{Clock, rd, clock_in, apart, ends-env, time-clock, mirror_in}
use Rattle.values.specs.declared.Line.{Line}
use Rattle.values.specs.Meanings.{line_of}
use Rattle.values.specs.Small.{Bounded, most_slope, most_intercept}
use Rattle.fit.specs.declared.points.Point.{Point}
use Rattle.fit.specs.declared.ends.End.{End}
use Rattle.fit.specs.RangesByValue.{at}

abbrev pub point_of : Point → PointTerm
point_of a = record { t = a.t; u = a.u }

pub record Proper (a : Point) : Type 0 where
  pub clock : Clock a.t
  pub in_span : Within most_value a.u

pub record PointIs (N : PointTerm) (r : Point) : Type 0 where
  pub is : point_of r ≡ N
  pub proper : Proper r

pub record Seen (flip : Bool) (e : End) (r : Point) : Type 0 where
  pub is : point_of r ≡ at flip e
  pub proper : Proper r

pub record LineThrough (a b : Point) (r : Line) : Type 0 where
  pub is : line_of r ≡ through (point_of a) (point_of b)
  pub bounded : Bounded r

-- ---- an end as it is read
pub seen_of : (flip : Bool) (e : End) → e.time < 4294967296 → Within most_value e.value → {t u : ℤ} → t ≡ pos e.time → u ≡ in_mirror flip e.value → Seen flip e (record { t = t; u = u })
unfolding end_of
seen_of flip e h w p q =
    record {
      is = λ i. record { t = p i; u = q i };
      proper = record { clock = subst Clock (sym p) (time-clock e.time h); in_span = subst (Within most_value) (sym q) (mirror_in flip w) };
    }

pub point-of : {flip : Bool} {e : End} {r : Point} → Seen flip e r → {t : ℕ} {u : ℤ} → e.time ≡ t → e.value ≡ u → PointIs (end_of flip t u) r
point-of {flip} s p q = record { is = s.is ∙ ap₂ (end_of flip) p q; proper = s.proper }

-- ---- bounds
pub points-env : {a b : Point} → (Proper a) × (Proper b) → Env (a.t ∷ a.u ∷ b.t ∷ b.u ∷ []) (upto most_time ∷ upto most_value ∷ upto most_time ∷ upto most_value ∷ [])
points-env h = ends-env h.0.clock h.0.in_span h.1.clock h.1.in_span

-- the differences of times are within the greatest time
pub three-env : {a b n : Point} → (Proper a) × (Proper b) × (Proper n)
    → Env (a.t ∷ a.u ∷ b.t ∷ b.u ∷ n.t ∷ n.u ∷ []) (upto most_time ∷ upto most_value ∷ upto most_time ∷ upto most_value ∷ upto most_time ∷ upto most_value ∷ [])
three-env h = clock_in h.0.clock ▹ h.0.in_span ▹ clock_in h.1.clock ▹ h.1.in_span ▹ clock_in h.2.clock ▹ h.2.in_span ▹ end

module _ {l : Line} (s : Bounded l) where
  pub line_env : Env (l.p ∷ l.q ∷ l.d ∷ []) (upto most_slope ∷ upto most_intercept ∷ upto most_time ∷ [])
  line_env = s.p_in ▹ s.q_in ▹ s.d_in ▹ end

pub line_at : {l : Line} {a : Point} → (Bounded l) × (Proper a)
    → Env (l.p ∷ l.q ∷ l.d ∷ a.t ∷ a.u ∷ []) (upto most_slope ∷ upto most_intercept ∷ upto most_time ∷ upto most_time ∷ upto most_value ∷ [])
line_at h = h.0.p_in ▹ h.0.q_in ▹ h.0.d_in ▹ clock_in h.1.clock ▹ h.1.in_span ▹ end

pub lines-env : {v w : Line} → (Bounded v) × (Bounded w) → Env (v.p ∷ v.d ∷ w.p ∷ w.d ∷ []) (upto most_slope ∷ upto most_time ∷ upto most_slope ∷ upto most_time ∷ [])
lines-env h = h.0.p_in ▹ h.0.d_in ▹ h.1.p_in ▹ h.1.d_in ▹ end

pub turn-read : {v w : Line} → (Bounded v) × (Bounded w) → rd (rd (rd w.p *ℤ rd v.d) -ℤ rd (rd v.p *ℤ rd w.d)) ≡ turn (line_of v) (line_of w)
turn-read h = machine_value! (lines-env h) (search reads depth 40) (search quotes depth 40) tt

-- ---- a line as it is made
pub line-through : (a b : Point) → (Proper a) × (Proper b) → (p q d : ℤ) → p ≡ b.u -ℤ a.u → q ≡ a.u *ℤ b.t -ℤ b.u *ℤ a.t → d ≡ b.t -ℤ a.t
    → LineThrough a b (record { p = p; q = q; d = d })
line-through a b h p q d x y z =
    record {
      is = λ i. record { p = x i; q = y i; d = z i };
      bounded =
          record {
            p_in = subst (Within most_slope) (sym x) (in_wide (in_sub h.1.in_span h.0.in_span) tt);
            q_in = subst (Within most_intercept) (sym y) (in_wide (in_sub (in_mul h.0.in_span (clock_in h.1.clock)) (in_mul h.1.in_span (clock_in h.0.clock))) tt);
            d_in = subst (Within most_time) (sym z) (apart h.0.clock h.1.clock);
          };
    }

-- ---- a line as it is tested
pub height-test : (test : ℤ → Bool) (l : Line) (a : Point) (g : ℤ) → g ≡ gap (line_of l) (point_of a) → mag g < 2 ^ 63 → test (rd g) ≡ test (gap (line_of l) (point_of a))
height-test test l a g e k = ap test (to_z-of_z {w = w64} {z = g} (record { sfits = k }) ∙ e)

pub joined-told : {A B : PointTerm} {a b : Point} (n : Point) {r : Bool} → PointIs A a → PointIs B b → r ≡ le_z (pos 0) (gap (through (point_of a) (point_of b)) (point_of n)) → r ≡ le_z (pos 0) (gap (through A B) (point_of n))
joined-told n p q e = e ∙ ap₂ (λ X Y. le_z (pos 0) (gap (through X Y) (point_of n))) p.is q.is

-- ---- the mirror image
abbrev pub neg_d : Line → Line
neg_d l = record { p = neg_ℤ l.p; q = neg_ℤ l.q; d = l.d }

pub negated-is : (l : Line) {p q d : ℤ} → p ≡ neg_ℤ l.p → q ≡ neg_ℤ l.q → d ≡ l.d → ◌≡◌ {A = Line} (record { p = p; q = q; d = d }) (neg_d l)
negated-is l a b c = λ i. record { p = a i; q = b i; d = c i }

pub bounded-mirrored : {l : Line} → Bounded l → Bounded (neg_d l)
bounded-mirrored s = record { p_in = in_neg s.p_in; q_in = in_neg s.q_in; d_in = s.d_in }
