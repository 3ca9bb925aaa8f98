-- k ranges give at most 2k corners: each range adds at most one point to each chain, and the corners are as many as the points of the two chains.
--
--
-- Further laws stand in proofs/Size.antt.
-- Assumes nothing.
use Rattle.std.specs.Prelude.{◌≡◌, List, [], ◌∷◌, ℕ, zero, suc, ◌+◌, ◌≤◌, length, ℤ, pos, negsuc, ◌-ℤ◌}
use Rattle.std.proofs.Common.{arith, length-append}
use Rattle.std.proofs.lemmas.List.{length-map}
use Rattle.definitions.specs.Ranges.{Range}
use Rattle.definitions.specs.Lines.{Line}
use Rattle.chains.specs.Points.{Point, gap, through, turn}
use Rattle.chains.specs.Mirror.{neg_p}
use Rattle.chains.specs.Ends.{H, L}
use Rattle.chains.specs.Chain.{Chain, last, next, head_of, last_of, Polygon, mirror_polygon}
use Rattle.chains.specs.Cut.{keep_under, keep_under_after, keep_under_if, drop_over, drop_over_from, drop_over_if}
use Rattle.chains.specs.Step.{cut, push_if}
use Rattle.chains.specs.State.{cut_above, cut_fast, cut_slow, cut_below}
use Rattle.chains.specs.Spot.{spot, spot_slow, spot_fast}
use Rattle.chains.specs.Run.{join, join_if}
use Rattle.chains.specs.Start.{start, start_if}
use Rattle.chains.specs.Hull.{lines_of}

keep_if_length : (g : ℤ) (ys : List Point) → length (keep_under_if g ys) ≤ length ys
keep_if_length (pos n) ys = omega arith
keep_if_length (negsuc n) ys = omega arith

keep_after_length : (N A : Point) (xs : List Point) → length (keep_under_after N A xs) ≤ length xs
keep_after_length N A [] = omega arith
keep_after_length N A (B ∷ xs) = omega (arith, keep_if_length (gap (through A B) N) (B ∷ keep_under_after N B xs), keep_after_length N B xs)

keep-length : (N : Point) (xs : List Point) → length (keep_under N xs) ≤ length xs
keep-length N [] = omega arith
keep-length N (A ∷ xs) = omega (arith, keep_after_length N A xs)

drop_from_length : (N A : Point) (xs : List Point) → length (drop_over_from N A xs) ≤ suc (length xs)
drop_from_length N A [] = omega arith
drop_from_length N A (B ∷ xs) = by (gap (through A B) N) (drop_from_length N B xs)
  where
    by : (g : ℤ) → length (drop_over_from N B xs) ≤ suc (length xs) → length (drop_over_if g (A ∷ B ∷ xs) (drop_over_from N B xs)) ≤ suc (suc (length xs))
    by (pos n) h = omega arith
    by (negsuc n) h = omega arith

drop-length : (N : Point) (xs : List Point) → length (drop_over N xs) ≤ length xs
drop-length N [] = omega arith
drop-length N (A ∷ xs) = drop_from_length N A xs

push_if-length : (g : ℤ) (ks : List Point) (N : Point) → length (push_if g ks N) ≤ length ks + 1
push_if-length (pos zero) ks N = omega arith
push_if-length (pos (suc n)) ks N = omega (arith, length-append ks (N ∷ []))
push_if-length (negsuc n) ks N = omega arith

-- the sizes of the two chains are at most u and l
pub record Sized (u l : ℕ) (x : Polygon) : Type 0 where
  pub upper≤ : length x.upper ≤ u
  pub lower≤ : length x.lower ≤ l

sized-mirror : {u l : ℕ} (x : Polygon) → Sized u l x → Sized l u (mirror_polygon x)
sized-mirror x s = record { upper≤ = omega (arith, length-map x.lower neg_p, s.lower≤); lower≤ = omega (arith, length-map x.upper neg_p, s.upper≤) }

cut-sized : {u l : ℕ} (N : Point) (x : Polygon) → Sized u l x → Sized (u + 1) l (cut N x)
cut-sized N x s =
    record {
      upper≤ = omega (arith, push_if-length (turn (through (last_of (keep_under N x.upper)) N) (through (head_of (drop_over N x.lower)) N)) (keep_under N x.upper) N, keep-length N x.upper, s.upper≤);
      lower≤ = omega (arith, drop-length N x.lower, s.lower≤);
    }

above-sized : {u l : ℕ} (N : Point) (x : Polygon) → Sized u l x → Sized (u + 1) l (cut_above N x)
above-sized {u} {l} N x s = by (gap x.fast N)
  where
    same : Sized (u + 1) l x
    same = record { upper≤ = omega (arith, s.upper≤); lower≤ = s.lower≤ }

    inner : (g : ℤ) → Sized (u + 1) l (cut_slow keep_under g N x)
    inner (pos n) = record { upper≤ = omega (arith, s.upper≤); lower≤ = s.lower≤ }
    inner (negsuc n) = cut-sized N x s

    by : (g : ℤ) → Sized (u + 1) l (cut_fast keep_under g N x)
    by (pos zero) = same
    by (pos (suc n)) = inner (gap x.slow N)
    by (negsuc n) = same

below-sized : {u l : ℕ} (N : Point) (x : Polygon) → Sized u l x → Sized u (l + 1) (cut_below N x)
below-sized N x s = sized-mirror (cut_above (neg_p N) (mirror_polygon x)) (above-sized (neg_p N) (mirror_polygon x) (sized-mirror x s))

spot-sized : {u l : ℕ} (N : Point) (x : Polygon) → Sized u l x → Sized (u + 1) (l + 1) (spot N x)
spot-sized {u} {l} N x s = by (gap x.slow N)
  where
    inner : (g : ℤ) → Sized (u + 1) (l + 1) (spot_fast keep_under g N x)
    inner (pos zero) = record { upper≤ = omega (arith, s.upper≤); lower≤ = omega (arith, s.lower≤) }
    inner (pos (suc n)) = record { upper≤ = omega arith; lower≤ = omega arith }
    inner (negsuc n) = record { upper≤ = omega (arith, s.upper≤); lower≤ = omega (arith, s.lower≤) }

    by : (g : ℤ) → Sized (u + 1) (l + 1) (spot_slow keep_under g N x)
    by (pos n) = record { upper≤ = omega (arith, s.upper≤); lower≤ = omega (arith, s.lower≤) }
    by (negsuc n) = inner (gap x.fast N)

pub join-sized : {u l : ℕ} (r : Range) (x : Polygon) → Sized u l x → Sized (u + 1) (l + 1) (join r x)
join-sized {u} {l} r x s = by (r.high -ℤ r.low)
  where
    by : (g : ℤ) → Sized (u + 1) (l + 1) (join_if keep_under g r x)
    by (pos zero) = spot-sized (H r) x s
    by (pos (suc n)) = below-sized (L r) (cut_above (H r) x) (above-sized (H r) x s)
    by (negsuc n) = record { upper≤ = omega (arith, s.upper≤); lower≤ = omega (arith, s.lower≤) }

pub start-sized : (r s : Range) → Sized 2 2 (start r s)
start-sized r s = by (r.high -ℤ r.low) (s.high -ℤ s.low)
  where
    by : (g h : ℤ) → Sized 2 2 (start_if g h r s)
    by (pos zero) h = record { upper≤ = omega arith; lower≤ = omega arith }
    by (pos (suc n)) (pos zero) = record { upper≤ = omega arith; lower≤ = omega arith }
    by (pos (suc n)) (pos (suc k)) = record { upper≤ = omega arith; lower≤ = omega arith }
    by (pos (suc n)) (negsuc k) = record { upper≤ = omega arith; lower≤ = omega arith }
    by (negsuc n) h = record { upper≤ = omega arith; lower≤ = omega arith }

pub chain_length : {F : Line → Type 0} {Top : Point → Type 0} {v : Line} {xs : List Point} {w : Line} → Chain F Top v xs w → length (lines_of xs) + 1 ≡ length xs
chain_length (last b f) = omega arith
chain_length (next b lt c) = omega (arith, chain_length c)
