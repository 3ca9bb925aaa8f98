-- Laws that rest on those of specs/CornersOfChains.antt.
--
--     corners_pinned  slow is pinned; every listed line is
--     corner_listed              every corner is listed
--
-- Assumes nothing.
use Rattle.std.specs.Prelude.{List, ℤ}
use Rattle.std.proofs.Common.{subst, inl}
use Rattle.integers.specs.Lists.{All, nil, cons, All_imp, All-append, All_map_inv}
use Rattle.definitions.specs.Lines.{Line}
use Rattle.chains.specs.Points.{Point, through-first, through-second}
use Rattle.chains.specs.Mirror.{neg_p, negL}
use Rattle.chains.specs.Extremes.{Laws}
use Rattle.chains.specs.Chain.{Polygon, Chain, last, next, Chains, first_fits, head_top}
use Rattle.chains.specs.Weights.{WholeMean}
use Rattle.chains.specs.Hull.{lines_of, corners_of}
use Rattle.chains.proofs.Hull.{lines-negs, hull}
use Rattle.chains.specs.CornersOfChains.{CornerOf, ends_pinned, find, Listed, Pinned, pinned_mirror}

module _ {F : Line → Type 0} {Top Bot : Point → Type 0} where
  lines_pinned : {v : Line} {xs : List Point} {w : Line} → Chain F Top v xs w → All (Pinned F Top Bot) (lines_of xs)
  lines_pinned (last b f) = nil
  lines_pinned (next {A} {B} b lt c) =
      cons
      (record {
        fits = first_fits c;
        first = A;
        second = B;
        rise = lt;
        first_end = inl b.top;
        second_end = inl (head_top c);
        on_first = through-first A B;
        on_second = through-second A B;
      })
      (lines_pinned c)

-- the mirror image of a pinned line, and so the lower side
module _ {F : Line → Type 0} {Top Bot : Point → Type 0} where
  pub corners_pinned : (x : Polygon) → Chains F Top Bot x → All (Pinned F Top Bot) (corners_of x)
  corners_pinned x ch =
      cons (ends_pinned x.slow (first_fits ch.up) ch.slow_ends)
      (All-append (lines_pinned ch.up)
      (cons (pinned_mirror x.fast (ends_pinned (negL x.fast) (first_fits ch.down) ch.fast_ends))
      (All_imp pinned_mirror (All_map_inv negL (lines_of x.lower) (subst (All (Pinned (λ l. F (negL l)) (λ A. Bot (neg_p A)) (λ A. Top (neg_p A)))) (lines-negs x.lower) (lines_pinned ch.down))))))

pub corner_listed : {F : Line → Type 0} {Top Bot : Point → Type 0} {T : ℤ} (laws : Laws F Top Bot T) (x : Polygon) → Chains F Top Bot x → (l : Line) → CornerOf F l
    → Listed (corners_of x) l
corner_listed laws x ch l k =
    let m : WholeMean (corners_of x) l = hull laws x ch l k.fits in
    find laws l k m.c m.c_over m.weights (All_imp (λ l p. p.fits) (corners_pinned x ch)) m.on_p m.on_q m.on_d
