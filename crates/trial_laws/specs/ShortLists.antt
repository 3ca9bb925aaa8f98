-- Row 8 for slices that are tried in parts.
--
--     short-append            some slice of two lists is too short exactly if one of the first is, or one of the second
--     long-split, long-join   so none is exactly if none of either is
--     AllLong, all-long       where none is, every length is at least the least one
--
-- Assumes nothing.
use Rattle.std.specs.Prelude.{ℕ, ◌≤◌, ◌≡◌, refl, Bool, true, false, ◌||◌, List, [], ◌∷◌, ◌++◌, ltb}
use Rattle.std.proofs.Common.{sym, ap₂, ◌∙◌, ltb-false}
use Rattle.integers.specs.Booleans.{or-neither}
use Rattle.integers.specs.Lists.{any}
use Rattle.definitions.specs.Trial.{too_short}

or_step : (s t u v : Bool) → v ≡ (t || u) → (s || v) ≡ ((s || t) || u)
or_step true t u v e = refl
or_step false t u v e = e

pub short-append : (least : ℕ) (ms ns : List ℕ) → too_short least (ms ++ ns) ≡ (too_short least ms || too_short least ns)
unfolding too_short any
short-append least [] ns = refl
short-append least (m ∷ ms) ns = or_step (ltb m least) (too_short least ms) (too_short least ns) (too_short least (ms ++ ns)) (short-append least ms ns)

pub long-split : (least : ℕ) (ms ns : List ℕ) → too_short least (ms ++ ns) ≡ false → (too_short least ms ≡ false) × (too_short least ns ≡ false)
long-split least ms ns e = or-neither (too_short least ms) (too_short least ns) (sym (short-append least ms ns) ∙ e)

pub long-join : (least : ℕ) (ms ns : List ℕ) → too_short least ms ≡ false → too_short least ns ≡ false → too_short least (ms ++ ns) ≡ false
long-join least ms ns e f = short-append least ms ns ∙ ap₂ (λ s t. s || t) e f

abbrev pub AllLong : ℕ → List ℕ → Type 0
AllLong least [] = Unit
AllLong least (n ∷ ns) = (least ≤ n) × AllLong least ns

pub all-long : (least : ℕ) (ns : List ℕ) → too_short least ns ≡ false → AllLong least ns
unfolding too_short any
all-long least [] e = tt
all-long least (n ∷ ns) e = let h = or-neither (ltb n least) (too_short least ns) e in (ltb-false n least h.0, all-long least ns h.1)
