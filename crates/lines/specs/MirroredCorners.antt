-- The corners of the mirror image: the same ring of lines, negated and gone round the same way, begun at the corner of greatest slope, whose image has the least.
--
--     TurnedRing first second    second is first negated, begun at its line of greatest slope
--     ring_image, ring_back      so the lines of second are the images of the lines of first
--     ring-length                and as many
--
-- What is below the diagonal by falling slope has its image above the diagonal by rising slope, and the other way round: so the ring is gone round the same way.
-- Further laws stand in proofs/MirroredCorners.antt.
-- Assumes nothing.
use Rattle.std.specs.Prelude.{◌≡◌, neg_ℤ, length}
use Rattle.std.proofs.Common.{sym, ap, ◌∙◌, subst, inl, inr, arith, length-append}
use mathlib.Core.List.{List, [], ◌∷◌, ◌++◌, map}
use Rattle.std.proofs.lemmas.List.{length-map}
use Rattle.integers.specs.Quotes.{quotes, ring! }
use Rattle.integers.specs.Lists.{All, nil, cons, In, All-head, All-tail, in_map, in-map-inv, in_append_left, in_append_right, in-append-inv}
use Rattle.definitions.specs.Lines.{Line}
use Rattle.definitions.specs.Corners.{side}
use Rattle.definitions.specs.Fit.{SlopeBelow, RisingSlopes}
use Rattle.definitions.specs.Mirrors.{mirrored_line}
use Rattle.lines.specs.LineOrder.{Positive, slope-trans}

pub record TurnedRing (first second : List Line) : Type 0 where
  pub front : List Line
  pub fast : Line
  pub more : List Line
  pub first-is : first ≡ front ++ (fast ∷ more)
  pub second_is : second ≡ map mirrored_line ((fast ∷ more) ++ front)
  pub greatest : All (λ l. SlopeBelow l fast) (front ++ more)

-- ---- slopes

pub slopes-snoc : (xs : List Line) (k l : Line) → RisingSlopes (xs ++ (k ∷ [])) → SlopeBelow k l → RisingSlopes (xs ++ (k ∷ l ∷ []))
slopes-snoc [] k l r h = (h, tt)
slopes-snoc (x ∷ []) k l r h = (r.0, (h, tt))
slopes-snoc (x ∷ y ∷ xs) k l r h = (r.0, slopes-snoc (y ∷ xs) k l r.1 h)

pub slopes-last : (xs : List Line) (fast : Line) → All Positive xs → Positive fast → RisingSlopes (xs ++ (fast ∷ [])) → All (λ l. SlopeBelow l fast) xs
slopes-last [] fast ps p r = nil
slopes-last (x ∷ []) fast ps p r = cons r.0 nil
slopes-last (x ∷ y ∷ ys) fast ps p r =
    let rest = slopes-last (y ∷ ys) fast (All-tail ps) p r.1 in
    cons (slope-trans x y fast (All-head ps) (All-head (All-tail ps)) p r.0 (All-head rest)) rest

-- ---- sides of the diagonal

pub side-mirrored : (j k l : Line) → side (mirrored_line k) (mirrored_line j) (mirrored_line l) ≡ neg_ℤ (side j k l)
unfolding side
side-mirrored j k l = ring! (j.p ∷ j.q ∷ j.d ∷ k.p ∷ k.q ∷ k.d ∷ l.p ∷ l.q ∷ l.d ∷ []) (search quotes depth 60) (search quotes depth 60) tt

-- ---- the lines of a ring

swap : {x : Line} (xs ys : List Line) → In x (xs ++ ys) → In x (ys ++ xs)
swap xs ys i = elim (in-append-inv xs i) [ inl k ↦ in_append_right ys k | inr k ↦ in_append_left xs k ]

module _ {first second : List Line} (ring : TurnedRing first second) where
  pub ring_image : {x : Line} → In x first → In (mirrored_line x) second
  ring_image {x} i = subst (In (mirrored_line x)) (sym ring.second_is) (in_map mirrored_line (swap ring.front (ring.fast ∷ ring.more) (subst (In x) ring.first-is i)))

  pub ring_back : {x : Line} → In x second → (y : Line) × In y first × (mirrored_line y ≡ x)
  ring_back {x} i =
      let (y, k, e) = in-map-inv mirrored_line ((ring.fast ∷ ring.more) ++ ring.front) (subst (In x) ring.second_is i) in
      (y, subst (In y) (sym ring.first-is) (swap (ring.fast ∷ ring.more) ring.front k), e)

pub ring-length : {first second : List Line} → TurnedRing first second → length second ≡ length first
ring-length r =
    ap length r.second_is
    ∙ length-map ((r.fast ∷ r.more) ++ r.front) mirrored_line
    ∙ omega (arith, length-append (r.fast ∷ r.more) r.front, length-append r.front (r.fast ∷ r.more), ap length r.first-is)
