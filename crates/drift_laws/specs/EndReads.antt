-- Times and values as i64 code reads them out of u32 and i32: what is read is the number that stands there, and within its span.
--
--     Clock t                 t is a time: from 0 to 4,294,967,295
--     InSpan vs a b           every entry from a up to b is within the scope's span of values
--     span-part, span-push, span-alone, span-two   of fewer entries; after a store at the end; after the first one, two are stored
--     rd z                    an i64 as the machine reads it back
--     narrow_is               an i32 within the span is read back as it is
--     value_mirrored, value_plain, time-plain, time-clock   a value, negated or not, and a time as an i64
--     mirror_in               in the mirror a value is within the span as well
--     clock_in, narrow_in, apart, ends-env   bounds for the laws of `Machine`: of a time, of a value, of the difference of two times, and of two points
--
-- Assumes nothing.
use Rattle.std.specs.Prelude.{◌≡◌, ◌⊎◌, Bool, true, false, List, [], ◌∷◌, ℕ, ◌+◌, ◌<◌, ◌≤◌, get_or, length, set, ℤ, pos, neg_ℤ, ◌-ℤ◌, ◌≤ℤ◌}
use Rattle.std.proofs.Common.{sym, ◌∙◌, ap, subst, inl, inr, eq-or-lt_of_le, arith, length-set, get_or-set_same, get_or-set_other, to_z, of_z, to_z-of_z}
use Rattle.std.specs.Int.{w32, w64}
use Rattle.std.proofs.Math.Facts.{to_z_pos}
use Rattle.integers.specs.Parts.{ints}
use Rattle.integers.specs.Solve.{◌&◌, linear_from!, claims}
use Rattle.integers.specs.Bounds.{Within, in_nonneg, in_of, in_neg, fits}
use Rattle.integers.specs.Machine.{Env, ◌▹◌, end, upto, negated-is}
use Rattle.definitions.specs.Spans.{most_value, most_time}
use Rattle.drift_laws.specs.RangeEnds.{in_mirror}

pub record Clock (t : ℤ) : Type 0 where
  pub since : pos 0 ≤ℤ t
  pub until : t ≤ℤ pos most_time

-- ---- the entries of a slice
pub record InSpan (vs : List ℤ) (a b : ℕ) : Type 0 where
  pub each : (j : ℕ) → a ≤ j → j < b → Within most_value (get_or vs j (pos 0))

pub span-part : {vs : List ℤ} {a b a' b' : ℕ} → InSpan vs a b → a ≤ a' → b' ≤ b → InSpan vs a' b'
span-part s h k = record { each = λ j lo hi. s.each j (omega arith) (omega arith) }

pub span-push : {vs : List ℤ} {a b m : ℕ} {u : ℤ} → InSpan vs a b → m ≤ b → m < length vs → Within most_value u → InSpan (set vs m u) a (m + 1)
span-push {vs} {a} {b} {m} {u} s h l w = record { each = λ j lo hi. by j lo (eq-or-lt_of_le (omega arith)) }
  where
    by : (j : ℕ) → a ≤ j → (j ≡ m) ⊎ (j < m) → Within most_value (get_or (set vs m u) j (pos 0))
    by j lo (inl e) = subst (λ i. Within most_value (get_or (set vs m u) i (pos 0))) (sym e) (subst (Within most_value) (sym (get_or-set_same vs m u (pos 0) l)) w)
    by j lo (inr k) = subst (Within most_value) (sym (get_or-set_other vs m j u (pos 0) (λ e. omega arith))) (s.each j lo (omega arith))

span_none : (vs : List ℤ) → InSpan vs 0 0
span_none vs = record { each = λ j lo hi. absurd (omega arith) }

pub span-alone : (vs : List ℤ) (u : ℤ) → 0 < length vs → Within most_value u → InSpan (set vs 0 u) 0 1
span-alone vs u l w = span-push (span_none vs) (omega arith) l w

pub span-two : (vs : List ℤ) (u v : ℤ) → 1 < length vs → Within most_value u → Within most_value v → InSpan (set (set vs 0 u) 1 v) 0 2
span-two vs u v l w z = span-push (span-alone vs u (omega arith) w) (omega arith) (omega (arith, length-set vs 0 u)) z

-- ---- bounds
pub clock_in : {t : ℤ} → Clock t → Within most_time t
clock_in c = in_nonneg c.since c.until

pub apart : {t s : ℤ} → Clock t → Clock s → Within most_time (s -ℤ t)
apart {t} {s} a b =
    in_of (linear_from! (t ∷ s ∷ []) (a.since & a.until & b.since & b.until) (search claims depth 40) (omega arith)) (linear_from! (t ∷ s ∷ []) (a.since & a.until & b.since & b.until) (search claims depth 40) (omega arith))

pub ends-env : {t u s v : ℤ} → Clock t → Within most_value u → Clock s → Within most_value v → Env (t ∷ u ∷ s ∷ v ∷ []) (upto most_time ∷ upto most_value ∷ upto most_time ∷ upto most_value ∷ [])
ends-env a b c d = clock_in a ▹ b ▹ clock_in c ▹ d ▹ end

-- ---- a value as it is read
abbrev pub rd : ℤ → ℤ
rd z = to_z w64 (of_z w64 z)

module _ {x : ℤ} (h : Within most_value x) where
  pub narrow_is : to_z w32 (of_z w32 x) ≡ x
  narrow_is = to_z-of_z {w = w32} (fits h tt)

  pub narrow_in : Within most_value (to_z w32 (of_z w32 x))
  narrow_in = subst (Within most_value) (sym narrow_is) h

  pub value_mirrored : {flip : Bool} → flip ≡ true → rd (pos 0 -ℤ rd (to_z w32 (of_z w32 x))) ≡ in_mirror flip x
  value_mirrored e = negated-is w64 narrow_in tt ∙ ap neg_ℤ narrow_is ∙ ap (λ f. in_mirror f x) (sym e)

  pub value_plain : {flip : Bool} → flip ≡ false → rd (to_z w32 (of_z w32 x)) ≡ in_mirror flip x
  value_plain e = to_z-of_z {w = w64} (fits narrow_in tt) ∙ narrow_is ∙ ap (λ f. in_mirror f x) (sym e)

pub mirror_in : (flip : Bool) {u : ℤ} → Within most_value u → Within most_value (in_mirror flip u)
mirror_in true h = in_neg h
mirror_in false h = h

-- ---- a time as it is read
pub time-plain : (t : ℕ) → t < 4294967296 → to_z w64 t ≡ pos t
time-plain t h = to_z_pos w64 (omega arith)

pub time-clock : (t : ℕ) → t < 4294967296 → Clock (pos t)
time-clock t h = record { since = omega ints; until = omega ints }
