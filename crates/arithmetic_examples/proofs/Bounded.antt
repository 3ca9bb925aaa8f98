-- The bounds that the proofs compute with.
--
--     time-between            a time is between 0 and the last one
--     points                  the environment of two points
--     line_at                 that of a line, a time and a value
--     line_in                 that of a line and a range
--     two-lines               that of the slopes of two lines
--     points_and_range        that of two points and a range
--     small-through           the line through two points is small
-- Assumes nothing.
use mathlib.Core.Path.{◌≡◌}
use mathlib.Core.List.{[], ◌∷◌}
use native.Mathlib.Omega.{arith}
use lib.IntN.{ℤ}
use Rattle.integers.specs.OrderLaws.{<ℤ→≤ℤ, sub-pos}
use Rattle.integers.specs.Bounds.{Within, Between, nonneg-between, between-within, in_sub, in_mul, in_wide}
use Rattle.integers.specs.Solve.{◌&◌, linear_from!, claims}
use Rattle.integers.specs.Machine.{Bound, Env, ◌◂◌, ◌▹◌, end, ◌to◌, upto}
use Rattle.arithmetic_examples.specs.declared.Line.{Line}
use Rattle.arithmetic_examples.specs.Points.{largest, last_time, Value, Time, Points, Small, line_through}

abbrev times : Bound
times = 0 to last_time

abbrev values : Bound
values = upto largest

pub time-between : {t : ℤ} → Time t → Between 0 last_time t
time-between h = nonneg-between h.since h.until

pub points : {a u b v : ℤ} → Points a u b v → Env (a ∷ u ∷ b ∷ v ∷ []) (times ∷ values ∷ times ∷ values ∷ [])
points h = time-between h.first_time_is ◂ h.first_value ▹ time-between h.second_time ◂ h.second_value ▹ end

d-between : {l : Line} → Small l → Between 0 last_time l.d
d-between h = nonneg-between (<ℤ→≤ℤ h.positive) h.shorter

pub line_at : {l : Line} {t u : ℤ} → (Small l) × (Time t) × (Value u) → Env (l.p ∷ l.q ∷ l.d ∷ t ∷ u ∷ []) (upto 536870912 ∷ upto 2305843009213693952 ∷ times ∷ times ∷ values ∷ [])
line_at h = h.0.slope ▹ h.0.offset ▹ d-between h.0 ◂ time-between h.1 ◂ h.2 ▹ end

pub line_in : {l : Line} {t low high : ℤ} → (Small l) × (Time t) × (Value low) × (Value high) → Env (l.p ∷ l.q ∷ l.d ∷ t ∷ low ∷ high ∷ []) (upto 536870912 ∷ upto 2305843009213693952 ∷ times ∷ times ∷ values ∷ values ∷ [])
line_in h = h.0.slope ▹ h.0.offset ▹ d-between h.0 ◂ time-between h.1 ◂ h.2 ▹ h.3 ▹ end

pub two-lines : {l m : Line} → (Small l) × (Small m) → Env (l.p ∷ l.d ∷ m.p ∷ m.d ∷ []) (upto 536870912 ∷ times ∷ upto 536870912 ∷ times ∷ [])
two-lines h = h.0.slope ▹ d-between h.0 ◂ h.1.slope ▹ d-between h.1 ◂ end

pub points_and_range : {a u b v t low high : ℤ} → (Points a u b v) × (Time t) × (Value low) × (Value high) → Env (a ∷ u ∷ b ∷ v ∷ t ∷ low ∷ high ∷ []) (times ∷ values ∷ times ∷ values ∷ times ∷ values ∷ values ∷ [])
points_and_range h =
    time-between h.0.first_time_is ◂ h.0.first_value ▹ time-between h.0.second_time ◂ h.0.second_value ▹ time-between h.1 ◂ h.2 ▹ h.3 ▹ end

-- |u b − v a| ≤ 2 · 2^28 · (2^32 − 1) < 2^61
pub small-through : {a u b v : ℤ} → Points a u b v → Small (line_through a u b v)
small-through {a} {u} {b} {v} h =
    let before : Within last_time a = between-within (time-between h.first_time_is) in let after : Within last_time b = between-within (time-between h.second_time) in record {
      slope = in_wide (in_sub h.second_value h.first_value) tt;
      offset = in_wide (in_sub (in_mul h.first_value after) (in_mul h.second_value before)) tt;
      positive = sub-pos h.in_order;
      shorter = linear_from! (a ∷ b ∷ []) (h.first_time_is.since & h.second_time.until) (search claims depth 40) (omega arith);
    }

-- a line is its three numbers
pub line-is : {p p' q q' d d' : ℤ} → p ≡ p' → q ≡ q' → d ≡ d' → ◌≡◌ {A = Line} (record { p = p; q = q; d = d }) (record { p = p'; q = q'; d = d' })
line-is e f g = cc
