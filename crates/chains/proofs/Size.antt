-- Laws that rest on those of specs/Size.antt.
--
--     corners_count      the corners of a polygon with chains are as many as the points of its chains
--     at_most            the listed corners of a run are at most twice its ranges
--
-- Assumes nothing.
use Rattle.std.specs.Prelude.{◌≡◌, List, [], ◌∷◌, ℕ, ◌+◌, ◌≤◌, ◌*◌, length, ℤ}
use Rattle.std.proofs.Common.{ap, arith, length-append}
use Rattle.std.proofs.lemmas.List.{length-map}
use Rattle.definitions.specs.Ranges.{Range}
use Rattle.definitions.specs.Lines.{Line}
use Rattle.chains.specs.Points.{Point}
use Rattle.chains.specs.Mirror.{neg_p, negs, negL}
use Rattle.chains.specs.Extremes.{Laws}
use Rattle.chains.specs.Chain.{Polygon, Chains}
use Rattle.chains.specs.State.{State, one_line, with_chains}
use Rattle.chains.specs.Run.{Until, RunState, run-laws}
use Rattle.chains.specs.Hull.{lines_of, corners_of}
use Rattle.chains.proofs.Hull.{lines-negs}
use Rattle.chains.specs.Closing.{polygon_of, run_of}
use Rattle.chains.specs.Listing.{list_of, list-many, list-single, chain_slope}
use Rattle.chains.specs.Size.{chain_length, join-sized, Sized, start-sized}

run-sized : (r s : Range) (ws : List Range) → Sized (length ws + 2) (length ws + 2) (polygon_of r s ws)
run-sized r s [] = let z = start-sized r s in record { upper≤ = omega (arith, z.upper≤); lower≤ = omega (arith, z.lower≤) }
run-sized r s (w ∷ ws) =
    let z = join-sized w (polygon_of r s ws) (run-sized r s ws) in
    record { upper≤ = omega (arith, z.upper≤); lower≤ = omega (arith, z.lower≤) }

module _ {F : Line → Type 0} {Top Bot : Point → Type 0} {T : ℤ} (laws : Laws F Top Bot T) (x : Polygon) where
  pub corners_count : Chains F Top Bot x → length (corners_of x) ≡ length x.upper + length x.lower
  corners_count c =
      let e : length (lines_of (negs x.lower)) + 1 ≡ length (negs x.lower) = chain_length c.down in
      omega (arith, length-append (lines_of x.upper) (x.fast ∷ lines_of x.lower), chain_length c.up, e, length-map x.lower neg_p, ap length (lines-negs x.lower), length-map (lines_of x.lower) negL)

  list_count : (k : ℕ) → 1 ≤ k → length x.upper ≤ k → length x.lower ≤ k → State F Top Bot x → length (list_of x) ≤ k + k
  list_count k o a b (with_chains c) = list-many (λ ls. length ls ≤ k + k) x (chain_slope laws c.up) (omega (arith, corners_count c))
  list_count k o a b (one_line z) = list-single (λ ls. length ls ≤ k + k) x z.same (omega arith)

pub at_most : (r s : Range) (ws : List Range) (T : ℕ) → Until (run_of r s ws) T → RunState (run_of r s ws) (polygon_of r s ws)
    → length (list_of (polygon_of r s ws)) ≤ 2 * (length ws + 2)
at_most r s ws T u z =
    let q = run-sized r s ws in
    let c = list_count (run-laws (run_of r s ws) T u) (polygon_of r s ws) (length ws + 2) (omega arith) q.upper≤ q.lower≤ z in
    omega arith
