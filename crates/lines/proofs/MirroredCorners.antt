-- Laws that rest on those of specs/MirroredCorners.antt.
--
--     corners_mirrored           the corners of the image of two or more ranges that have a line are such a ring
--
-- Assumes nothing.
use Rattle.std.specs.Prelude.{◌≡◌, refl, pos, ◌<ℤ◌}
use Rattle.std.proofs.Common.{sym, ap, ◌∙◌, subst}
use mathlib.Core.List.{List, [], ◌∷◌, ◌++◌, map, reverse, map-append, append_assoc, reverse-cons, reverse-append, reverse-reverse}
use mathlib.Mathlib.Data.List.Basic.{map-reverse_aux}
use Rattle.integers.specs.OrderLaws.{neg-<}
use Rattle.integers.specs.Lists.{All, nil, cons, In, SameMembers, All_in, All_of, All_imp, All-map, All-head, All-tail, All-append, All_append_left, All_append_right, All-reverse, in_map, in-map-inv, in_reverse, in_reverse_inv}
use Rattle.definitions.specs.Ranges.{Range}
use Rattle.definitions.specs.Lines.{Line}
use Rattle.definitions.specs.Corners.{fitting, corners}
use Rattle.definitions.specs.Fit.{HasLine, Ordered, SlopeBelow, RisingSlopes, InCornerOrder, single, around}
use Rattle.definitions.specs.Mirrors.{mirrored_line, mirrored_range}
use Rattle.chains.specs.Mirror.{neg_slope<}
use Rattle.lines.specs.LineOrder.{Positive, Proper}
use Rattle.lines.specs.CornerList.{corners_ordered, corners_proper, corners_members, corners_known}
use Rattle.lines.specs.Mirrored.{mirrored}
use Rattle.lines.specs.MirroredFit.{HasLine_mirrored, ordered-mirrored, proper-mirrored}
use Rattle.lines.proofs.MirroredFit.{fitting-mirrored}
use Rattle.lines.specs.Polygon.{corners_of}
use Rattle.lines.specs.MirroredCorners.{ring_back, ring_image, side-mirrored, slopes-last, slopes-snoc, TurnedRing}

slopes-mirrored : (ls : List Line) → RisingSlopes ls → RisingSlopes (reverse (map mirrored_line ls))
slopes-mirrored [] r = tt
slopes-mirrored (k ∷ []) r = tt
slopes-mirrored (k ∷ l ∷ ls) r =
    let back = reverse (map mirrored_line ls) in
    let turned = reverse-cons (mirrored_line l) (map mirrored_line ls) in
    subst RisingSlopes (sym (reverse-cons (mirrored_line k) (mirrored_line l ∷ map mirrored_line ls) ∙ ap (λ xs. xs ++ (mirrored_line k ∷ [])) turned ∙ append_assoc back (mirrored_line l ∷ []) (mirrored_line k ∷ [])))
    (slopes-snoc back (mirrored_line l) (mirrored_line k) (subst RisingSlopes turned (slopes-mirrored (l ∷ ls) r.1)) (neg_slope< k l r.0))

-- from slow by xs to fast, so from the image of fast back to that of slow
between-mirrored : (slow fast : Line) (xs : List Line) → RisingSlopes (slow ∷ xs ++ (fast ∷ [])) → RisingSlopes (mirrored_line fast ∷ reverse (map mirrored_line xs) ++ (mirrored_line slow ∷ []))
between-mirrored slow fast xs r = subst RisingSlopes is (slopes-mirrored (slow ∷ xs ++ (fast ∷ [])) r)
  where
    ys : List Line
    ys = map mirrored_line xs

    is : reverse (map mirrored_line (slow ∷ xs ++ (fast ∷ []))) ≡ mirrored_line fast ∷ reverse ys ++ (mirrored_line slow ∷ [])
    is =
        reverse-cons (mirrored_line slow) (map mirrored_line (xs ++ (fast ∷ [])))
        ∙ ap (λ zs. reverse zs ++ (mirrored_line slow ∷ [])) (map-append mirrored_line xs (fast ∷ []))
        ∙ ap (λ zs. zs ++ (mirrored_line slow ∷ [])) (reverse-append ys (mirrored_line fast ∷ []))

-- its image, begun at fast, is in corner order
turned : {ls : List Line} → InCornerOrder ls → All Positive ls → (ks : List Line) × TurnedRing ls ks × InCornerOrder ks
turned (single l) p = (mirrored_line l ∷ [], record { front = []; fast = l; more = []; first-is = refl; second_is = refl; greatest = nil }, single (mirrored_line l))
turned (around slow above fast below rises falls over under) p = (
  mirrored_line fast ∷ map mirrored_line below ++ (mirrored_line slow ∷ map mirrored_line above),
  record {
    front = slow ∷ above;
    fast = fast;
    more = below;
    first-is = refl;
    second_is = sym (map-append mirrored_line (fast ∷ below) (slow ∷ above));
    greatest = All-append (slopes-last (slow ∷ above) fast (All_append_left (slow ∷ above) (fast ∷ below) p) fast-over rises) (All_of below (λ l i. All_in down (in_reverse i)));
  },
  around (mirrored_line fast) (map mirrored_line below) (mirrored_line slow) (map mirrored_line above)
      (subst (λ xs. RisingSlopes (mirrored_line fast ∷ xs ++ (mirrored_line slow ∷ []))) back_again (between-mirrored slow fast (reverse below) falls))
      (between-mirrored slow fast above rises)
      (All-map mirrored_line (All_imp (λ l h. subst (λ x. pos 0 <ℤ x) (sym (side-mirrored slow fast l)) (neg-< h)) under))
      (All-map mirrored_line (All_imp (λ l h. subst (λ x. x <ℤ pos 0) (sym (side-mirrored slow fast l)) (neg-< h)) over)),
)
  where
    back_again : reverse (map mirrored_line (reverse below)) ≡ map mirrored_line below
    back_again = ap reverse (map-reverse_aux mirrored_line below []) ∙ reverse-reverse (map mirrored_line below)

    back_over : All Positive (fast ∷ below)
    back_over = All_append_right (slow ∷ above) (fast ∷ below) p

    fast-over : Positive fast
    fast-over = All-head back_over

    down : All (λ l. SlopeBelow l fast) (reverse below)
    down = All-tail (slopes-last (slow ∷ reverse below) fast (cons (All-head p) (All-reverse (All-tail back_over))) fast-over falls)

module _ (r s : Range) (ws : List Range) (o : Ordered (r ∷ s ∷ ws)) (h : HasLine (r ∷ s ∷ ws)) where
  -- such a ring from the corners is the corners of the image, as it has their lines
  ring_corners : (ks : List Line) → TurnedRing (corners (r ∷ s ∷ ws)) ks → InCornerOrder ks → ks ≡ corners (mirrored (r ∷ s ∷ ws))
  ring_corners ks ring order =
      corners_known o' (corners_of (mirrored_range r) (mirrored_range s) (mirrored ws) o' (HasLine_mirrored h)) ks order
      (All_of ks (λ x i. let (y, k, e) = ring_back ring i in subst Proper e (proper-mirrored (All_in (corners_proper o (corners_of r s ws o h)) k))))
      (record { into = into; back = back })
    where
      run : List Range
      run = r ∷ s ∷ ws

      o' : Ordered (mirrored run)
      o' = ordered-mirrored run o

      same : SameMembers (fitting run) (corners run)
      same = corners_members o (corners_of r s ws o h)

      into : (x : Line) → In x (fitting (mirrored run)) → In x ks
      into x i =
          let (y, k, e) = in-map-inv mirrored_line (fitting run) (in_reverse_inv (map mirrored_line (fitting run)) (subst (In x) (fitting-mirrored run o) i)) in
          subst (λ z. In z ks) e (ring_image ring (same.into y k))

      back : (x : Line) → In x ks → In x (fitting (mirrored run))
      back x i =
          let (y, k, e) = ring_back ring i in
          subst (In x) (sym (fitting-mirrored run o)) (in_reverse (subst (λ z. In z (map mirrored_line (fitting run))) e (in_map mirrored_line (same.back y k))))

  pub corners_mirrored : TurnedRing (corners (r ∷ s ∷ ws)) (corners (mirrored (r ∷ s ∷ ws)))
  corners_mirrored =
      let c = corners_of r s ws o h in
      let (ks, ring, order) = turned (corners_ordered o c) (All_imp (λ l p. p.positive) (corners_proper o c)) in
      subst (TurnedRing (corners (r ∷ s ∷ ws))) (ring_corners ks ring order) ring
