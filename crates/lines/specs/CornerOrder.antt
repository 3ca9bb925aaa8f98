-- Lists in corner order. Such a list is known by its lines: sorted by slope and put in order by `corner_order`, they are the list again.
--
--     slow_of, fast_of             the lines of least and of greatest slope of a list in corner order
--     Ends ls slow fast          ls begins with slow and ends with fast
--     Resorted ks ls             ls has the lines of ks, all in lowest terms, by rising slope
--     corner_order-of             corner_order ls = ks, where ks is in corner order and ls is ks resorted
--     ends_of                    such an ls begins with the slow line of ks and ends with the fast one
--     order-nodup                in corner order no line stands twice
--     OrderedFrom slow fast ls   ls is in corner order, with these two for slow and fast
--     order-reduced              corner order does not depend on the terms of the lines: it is that of their lowest terms
--     side-slow, side-fast       slow and fast are on the diagonal that joins them
--
-- Assumes nothing.
use Rattle.std.specs.Prelude.{◌≡◌, refl, Bool, T, pos, ◌<ℤ◌}
use Rattle.std.proofs.Common.{sym, ap₂, ◌∙◌, subst}
use Rattle.std.proofs.Math.Path.{ap}
use Rattle.std.proofs.Math.Logic.{∥∥₁_elim}
use mathlib.Core.List as Core
use mathlib.Core.List.Pairwise
use mathlib.Core.List.{List, [], ◌∷◌, ◌++◌, map, reverse, get_last_d, map-append, reverse-cons, reverse-reverse, Nodup}
use mathlib.Mathlib.Data.List.Basic.{map-reverse_aux}
use Rattle.std.specs.Int.Signed.{<ℤ_irrefl, lt_z}
use Rattle.integers.specs.OrderLaws.{<ℤ-trans}
use Rattle.integers.specs.Quotes.{quotes, ring! }
use Rattle.integers.specs.Lists.{filter, All, nil, cons, In, here, there, SameMembers, same_members_trans, All_in, All_of, All-head, All-tail, All_imp₂, All-append, All_append_left, All_append_right, All-reverse, All-filter, All-map, in_append_left, in_append_right, in_reverse, in_reverse_inv, in_filter, in_filter_inv, filter-append, filter_none, last_snoc}
use Rattle.integers.specs.Sorting.{Rising, sorted, flip_order, rising_unique, rising_cons, rising_cons_cons, rising_head, rising_tail, rising_append, rising_append_left, rising_append_across, rising_filter, rising_nodup, rising_reverse_inv, sorted_rising, in_sorted, All_sorted}
use Rattle.definitions.specs.Lines.{Line}
use Rattle.definitions.specs.Corners.{reduced, before, side, corner_order}
use Rattle.definitions.specs.Fit.{RisingSlopes, InCornerOrder, single, around}
use Rattle.lines.specs.LineOrder.{Positive, Proper, by_slope_is, before_passes, line-order, reduced_restates, SlopeBelow-same, SameOrder, order-<, order_flip, side_same}

-- ---- the lines of least and of greatest slope
abbrev pub slow_of : {ls : List Line} → InCornerOrder ls → Line
slow_of (single l) = l
slow_of (around slow above fast below rises falls over under) = slow

abbrev pub fast_of : {ls : List Line} → InCornerOrder ls → Line
fast_of (single l) = l
fast_of (around slow above fast below rises falls over under) = fast

-- a list that begins with one line and ends with the other
pub record Ends (ls : List Line) (slow fast : Line) : Type 0 where
  pub rest : List Line
  pub begins : ls ≡ slow ∷ rest
  pub ends : get_last_d rest slow ≡ fast

-- ---- the ends of the diagonal are on it
pub side-slow : (slow fast : Line) → side slow fast slow ≡ pos 0
unfolding side
side-slow k l = ring! (k.p ∷ k.q ∷ k.d ∷ l.p ∷ l.q ∷ l.d ∷ []) (search quotes depth 60) (search quotes depth 60) tt

pub side-fast : (slow fast : Line) → side slow fast fast ≡ pos 0
unfolding side
side-fast k l = ring! (k.p ∷ k.q ∷ k.d ∷ l.p ∷ l.q ∷ l.d ∷ []) (search quotes depth 60) (search quotes depth 60) tt

-- ---- `corner_order`, of a list whose last entry is written last

abbrev is_above : Line → Line → Line → Bool
is_above slow fast x = lt_z (pos 0) (side slow fast x)

abbrev is_below : Line → Line → Line → Bool
is_below slow fast x = lt_z (side slow fast x) (pos 0)

-- slow, the lines of xs above the diagonal, fast, those below it
abbrev arranged : Line → Line → List Line → List Line
arranged slow fast xs = (slow ∷ filter (is_above slow fast) xs) ++ (fast ∷ reverse (filter (is_below slow fast) xs))

module _ (slow fast : Line) where
  fast_not_above : ¬ T (is_above slow fast fast)
  fast_not_above t = <ℤ_irrefl (subst (λ x. pos 0 <ℤ x) (side-fast slow fast) (record { lt = t }))

  fast_not_below : ¬ T (is_below slow fast fast)
  fast_not_below t = <ℤ_irrefl (subst (λ x. x <ℤ pos 0) (side-fast slow fast) (record { lt = t }))

  filter_but_last : (test : Line → Bool) (xs : List Line) → ¬ T (test fast) → filter test (xs ++ (fast ∷ [])) ≡ filter test xs
  filter_but_last test xs n = filter-append test xs (fast ∷ []) ∙ ap (λ l. filter test xs ++ l) (filter_none test (cons n nil)) ∙ Core.append-nil (filter test xs)

  arranged_but_last : (xs : List Line) → arranged slow fast (xs ++ (fast ∷ [])) ≡ arranged slow fast xs
  arranged_but_last xs =
      ap₂ (λ ys zs. (slow ∷ ys) ++ (fast ∷ reverse zs)) (filter_but_last (is_above slow fast) xs fast_not_above) (filter_but_last (is_below slow fast) xs fast_not_below)

  corner_order_arranged : (xs : List Line) → corner_order (slow ∷ xs ++ (fast ∷ [])) ≡ arranged slow fast xs
  unfolding corner_order get_last_d
  corner_order_arranged [] = arranged_but_last []
  corner_order_arranged (m ∷ xs) = ap (λ k. arranged slow k (m ∷ xs ++ (fast ∷ []))) (last_snoc m fast xs) ∙ arranged_but_last (m ∷ xs)

-- ---- a list in corner order

rising-slopes : {ls : List Line} → All Proper ls → RisingSlopes ls → Rising before ls
rising-slopes nil r = Pairwise.nil
rising-slopes (cons p nil) r = rising_cons before nil Pairwise.nil
rising-slopes (cons {x = k} p (cons {x = l} q qs)) r = rising_cons_cons line-order (cons p (cons q qs)) (before_passes k l (by_slope_is r.0)) (rising-slopes (cons q qs) r.1)

-- the entries of a rising list that pass a test, which are known
known-part : (test : Line → Bool) {xs ys : List Line} → All Proper xs → Rising before xs → Rising before ys → All (λ y. T (test y) × In y xs) ys → All (λ x. T (test x) → In x ys) xs
    → filter test xs ≡ ys
known-part test {xs} {ys} p r s here-too only =
    rising_unique line-order (All-filter test p) (rising_filter before test r) s
    (record {
      into = λ x i. let (k, t) = in_filter_inv test xs i in All_in only k t;
      back = λ x i. let (t, k) = All_in here-too i in in_filter test k t;
    })

-- all lines but slow and fast, by rising slope
middle_of : List Line → List Line → List Line
middle_of above below = sorted before (above ++ reverse below)

-- all lines by rising slope
abbrev by_slope : {ls : List Line} → InCornerOrder ls → List Line
by_slope (single l) = l ∷ []
by_slope (around slow above fast below rises falls over under) = slow ∷ middle_of above below ++ (fast ∷ [])

module _
    (slow : Line) (above : List Line) (fast : Line) (below : List Line)
    (proper : All Proper (slow ∷ above ++ (fast ∷ below)))
    (rises : RisingSlopes (slow ∷ above ++ (fast ∷ [])))
    (falls : RisingSlopes (slow ∷ reverse below ++ (fast ∷ [])))
    (over : All (λ l. pos 0 <ℤ side slow fast l) above)
    (under : All (λ l. side slow fast l <ℤ pos 0) below) where
  above_proper : All Proper above
  above_proper = All_append_left above (fast ∷ below) (All-tail proper)

  fast_proper : Proper fast
  fast_proper = All-head (All_append_right above (fast ∷ below) (All-tail proper))

  back_proper : All Proper (reverse below)
  back_proper = All-reverse (All-tail (All_append_right above (fast ∷ below) (All-tail proper)))

  inner_proper : All Proper (above ++ reverse below)
  inner_proper = All-append above_proper back_proper

  up : Rising before (slow ∷ above ++ (fast ∷ []))
  up = rising-slopes (cons (All-head proper) (All-append above_proper (cons fast_proper nil))) rises

  down : Rising before (slow ∷ reverse below ++ (fast ∷ []))
  down = rising-slopes (cons (All-head proper) (All-append back_proper (cons fast_proper nil))) falls

  abbrev middle : List Line
  middle = middle_of above below

  middle_proper : All Proper middle
  unfolding middle_of
  middle_proper = All_sorted before inner_proper

  middle_rising : Rising before middle
  unfolding middle_of
  middle_rising = sorted_rising line-order inner_proper

  -- a property of both sides is one of the middle
  All_middle : {P : Line → Type 0} → All P above → All P (reverse below) → All P middle
  unfolding middle_of
  All_middle h k = All_sorted before (All-append h k)

  above_in_middle : {x : Line} → In x above → In x middle
  unfolding middle_of
  above_in_middle i = in_sorted line-order inner_proper (in_append_left (reverse below) i)

  back_in_middle : {x : Line} → In x (reverse below) → In x middle
  unfolding middle_of
  back_in_middle i = in_sorted line-order inner_proper (in_append_right above i)

  whole_rising : Rising before (slow ∷ middle ++ (fast ∷ []))
  whole_rising =
      rising_cons before (All-append (All_middle (All_append_left above (fast ∷ []) (rising_head before up)) (All_append_left (reverse below) (fast ∷ []) (rising_head before down))) (All_append_right above (fast ∷ []) (rising_head before up)))
      (rising_append before middle_rising (rising_cons before nil Pairwise.nil)
      (All_middle (rising_append_across before above (fast ∷ []) (rising_tail before up)) (rising_append_across before (reverse below) (fast ∷ []) (rising_tail before down))))

  whole_members : SameMembers (slow ∷ above ++ (fast ∷ below)) (slow ∷ middle ++ (fast ∷ []))
  whole_members =
      record {
        into = λ x i. All_in to i;
        back = λ x i. All_in from i;
      }
    where
      to : All (λ x. In x (slow ∷ middle ++ (fast ∷ []))) (slow ∷ above ++ (fast ∷ below))
      to =
          cons (here refl)
          (All-append (All_of above (λ x i. there (in_append_left (fast ∷ []) (above_in_middle i))))
          (cons (there (in_append_right middle (here refl))) (All_of below (λ x i. there (in_append_left (fast ∷ []) (back_in_middle (in_reverse i)))))))

      from : All (λ x. In x (slow ∷ above ++ (fast ∷ below))) (slow ∷ middle ++ (fast ∷ []))
      from =
          cons (here refl)
          (All-append (All_middle (All_of above (λ x i. there (in_append_left (fast ∷ below) i))) (All_of (reverse below) (λ x i. there (in_append_right above (there (in_reverse_inv below i))))))
          (cons (there (in_append_right above (here refl))) nil))

  middle_above : filter (is_above slow fast) middle ≡ above
  middle_above =
      known-part (is_above slow fast) middle_proper middle_rising (rising_append_left before above (fast ∷ []) (rising_tail before up))
      (All_of above (λ x i. ((All_in over i).lt, above_in_middle i)))
      (All_middle (All_of above (λ x i t. i)) (All_of (reverse below) (λ x i t. absurd (<ℤ_irrefl (<ℤ-trans {y = side slow fast x} (record { lt = t }) (All_in under (in_reverse_inv below i)))))))

  middle_below : filter (is_below slow fast) middle ≡ reverse below
  middle_below =
      known-part (is_below slow fast) middle_proper middle_rising (rising_append_left before (reverse below) (fast ∷ []) (rising_tail before down))
      (All_of (reverse below) (λ x i. ((All_in under (in_reverse_inv below i)).lt, back_in_middle i)))
      (All_middle (All_of above (λ x i t. absurd (<ℤ_irrefl (<ℤ-trans {y = side slow fast x} (All_in over i) (record { lt = t }))))) (All_of (reverse below) (λ x i t. i)))

  whole_order : corner_order (slow ∷ middle ++ (fast ∷ [])) ≡ slow ∷ above ++ (fast ∷ below)
  whole_order = corner_order_arranged slow fast middle ∙ ap₂ (λ ys zs. (slow ∷ ys) ++ (fast ∷ reverse zs)) middle_above middle_below ∙ ap (λ zs. (slow ∷ above) ++ (fast ∷ zs)) (reverse-reverse below)

  back_nodup : Nodup (fast ∷ below)
  back_nodup =
      rising_nodup (flip_order line-order) (All_append_right above (fast ∷ below) (All-tail proper))
      (rising_reverse_inv before (fast ∷ below) (subst (Rising before) (sym (reverse-cons fast below)) (rising_tail before down)))

  apart : (x : Line) → In x (slow ∷ above) → In x (fast ∷ below) → ⊥
  apart x i (here e) = line-order.irreflexive x (subst Proper (sym e) fast_proper) (subst (λ y. T (before x y)) (sym e) (All-head (All_in (rising_append_across before (slow ∷ above) (fast ∷ []) up) i)))
  apart x (here e) (there k) = <ℤ_irrefl (subst (λ y. y <ℤ pos 0) (side-slow slow fast) (subst (λ y. side slow fast y <ℤ pos 0) e (All_in under k)))
  apart x (there i) (there k) = <ℤ_irrefl (<ℤ-trans {y = side slow fast x} (All_in over i) (All_in under k))

  around_nodup : Nodup (slow ∷ above ++ (fast ∷ below))
  around_nodup =
      (Core.Nodup-append {l₁ = slow ∷ above} {l₂ = fast ∷ below}).1 (
        rising_nodup line-order (cons (All-head proper) above_proper) (rising_append_left before (slow ∷ above) (fast ∷ []) up),
        back_nodup,
        λ x m n. ∥∥₁_elim m (λ a b. absurd a) (λ i. ∥∥₁_elim n (λ a b. absurd a) (λ k. apart x i k)),
      )

-- ---- a list in corner order is known by its lines

-- ls has the lines of ks, by rising slope
pub record Resorted (ks ls : List Line) : Type 0 where
  pub proper : All Proper ks
  pub rising : Rising before ls
  pub members : SameMembers ls ks

resorted_is : {ks ls ms : List Line} → Resorted ks ls → SameMembers ks ms → Rising before ms → ls ≡ ms
resorted_is {ls} s m r = rising_unique line-order (All_of ls (λ x i. All_in s.proper (s.members.into x i))) s.rising r (same_members_trans s.members m)

by_slope-is : {ks ls : List Line} (o : InCornerOrder ks) → Resorted ks ls → ls ≡ by_slope o
by_slope-is (single l) s = resorted_is s (record { into = λ x i. i; back = λ x i. i }) (rising_cons before nil Pairwise.nil)
by_slope-is (around slow above fast below rises falls over under) s =
    resorted_is s (whole_members slow above fast below s.proper rises falls over under) (whole_rising slow above fast below s.proper rises falls over under)

pub corner_order-of : {ks ls : List Line} → InCornerOrder ks → Resorted ks ls → corner_order ls ≡ ks
unfolding corner_order
corner_order-of o s = ap corner_order (by_slope-is o s) ∙ by o s.proper
  where
    by : {ks : List Line} (o : InCornerOrder ks) → All Proper ks → corner_order (by_slope o) ≡ ks
    by (single l) p = refl
    by (around slow above fast below rises falls over under) p = whole_order slow above fast below p rises falls over under

pub ends_of : {ks ls : List Line} (o : InCornerOrder ks) → Resorted ks ls → Ends ls (slow_of o) (fast_of o)
unfolding get_last_d
ends_of o s = subst (λ ls. Ends ls (slow_of o) (fast_of o)) (sym (by_slope-is o s)) (by o)
  where
    by : {ks : List Line} (o : InCornerOrder ks) → Ends (by_slope o) (slow_of o) (fast_of o)
    by (single l) = record { rest = []; begins = refl; ends = refl }
    by (around slow above fast below rises falls over under) = record { rest = middle_of above below ++ (fast ∷ []); begins = refl; ends = last_snoc slow fast (middle_of above below) }

pub order-nodup : {ks : List Line} → InCornerOrder ks → All Proper ks → Nodup ks
order-nodup (single l) p = rising_nodup line-order p (rising_cons before nil Pairwise.nil)
order-nodup (around slow above fast below rises falls over under) p = around_nodup slow above fast below p rises falls over under

-- ---- corner order in lowest terms

slopes-reduced : {ls : List Line} → All Positive ls → RisingSlopes ls → RisingSlopes (map reduced ls)
slopes-reduced nil r = tt
slopes-reduced (cons h nil) r = tt
slopes-reduced (cons h (cons g gs)) r = (SlopeBelow-same (reduced_restates h) (reduced_restates g) r.0, slopes-reduced (cons g gs) r.1)

-- ls in corner order, from slow to fast and back
pub record OrderedFrom (slow fast : Line) (ls : List Line) : Type 0 where
  pub order : InCornerOrder ls
  pub slow_is : slow_of order ≡ slow
  pub fast_is : fast_of order ≡ fast

pub order-reduced : {ls : List Line} (o : InCornerOrder ls) → All Positive ls → OrderedFrom (reduced (slow_of o)) (reduced (fast_of o)) (map reduced ls)
order-reduced (single l) h = record { order = single (reduced l); slow_is = refl; fast_is = refl }
order-reduced (around slow above fast below rises falls over under) h =
    subst (OrderedFrom (reduced slow) (reduced fast)) (sym (map-append reduced (slow ∷ above) (fast ∷ below)))
    (record {
      order =
          around (reduced slow) (map reduced above) (reduced fast) (map reduced below)
          (subst RisingSlopes (map-append reduced (slow ∷ above) (fast ∷ [])) (slopes-reduced (cons slow_in (All-append above_in (cons fast_in nil))) rises))
          (subst RisingSlopes (map-append reduced (slow ∷ reverse below) (fast ∷ []) ∙ ap (λ ys. (reduced slow ∷ ys) ++ (reduced fast ∷ [])) (map-reverse_aux reduced below []))
          (slopes-reduced (cons slow_in (All-append (All-reverse below_in) (cons fast_in nil))) falls))
          (All-map reduced (All_imp₂ (λ x g k. order-< (side_alike x g) k) above_in over))
          (All-map reduced (All_imp₂ (λ x g k. order-< (order_flip (side_alike x g)) k) below_in under));
      slow_is = refl;
      fast_is = refl;
    })
  where
    slow_in : Positive slow
    slow_in = All-head h

    above_in : All Positive above
    above_in = All_append_left above (fast ∷ below) (All-tail h)

    fast_in : Positive fast
    fast_in = All-head (All_append_right above (fast ∷ below) (All-tail h))

    below_in : All Positive below
    below_in = All-tail (All_append_right above (fast ∷ below) (All-tail h))

    side_alike : (x : Line) → Positive x → SameOrder (pos 0) (side slow fast x) (pos 0) (side (reduced slow) (reduced fast) (reduced x))
    side_alike x g = side_same (reduced_restates slow_in) (reduced_restates fast_in) (reduced_restates g)
