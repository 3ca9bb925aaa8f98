-- The corners of a polygon in three lent slices: what code writes, and that it is the scope's list.
--
--     ChainListed f a b old.. at new.. n     the lines through neighbours of the points from a to b stand from `at` up to n, in lowest terms
--     listed-none, listed_more               before the loop, and after one more point
--     joined_is, joined_small                the line through neighbours, and that it is small where times rise
--     ProperCorners up down x       every listed corner of the polygon that x stands for has d above 0
--     points x                               how many points the two chains have
--     Listed ls old.. new.. r                the r lines ls stand first, in lowest terms, and past them all is as before
--     CornersListed up down x ..    so do the listed corners of the polygon that x stands for
--     room_slow, room_upper, room_fast, room_lower       there is a place for each corner among as many places as points
--     slow_small, fast_small, upper_rises, lower_rises   what storing these corners asks
--     corner_one, corner_all                 slow and fast have one slope, or not
--
-- Assumes nothing.
use Rattle.std.specs.Prelude.{◌≡◌, refl, Bool, true, false, List, [], ◌∷◌, ◌++◌, map, ℕ, ◌+◌, ◌-◌, ◌<◌, ◌≤◌, length, ℤ, pos, ◌<ℤ◌}
use Rattle.std.proofs.Common.{sym, ◌∙◌, ap, ap₂, subst, append_assoc, arith, length-append}
use Rattle.std.proofs.lemmas.List.{map-append, length-map}
use Rattle.std.specs.Int.Signed.{lt_z}
use Rattle.integers.specs.Lists.{All, All_in, All-head, All-tail, All_append_left, All_append_right}
use Rattle.definitions.specs.Lines.{Line as LineTerm}
use Rattle.definitions.specs.Corners.{reduced}
use Rattle.chains.specs.Points.{Point, turn, through}
use Rattle.chains.specs.Hull.{lines_of, corners_of}
use Rattle.chains.specs.Listing.{list_of, list-slow}
use Rattle.drift_laws.specs.ChainParts.{Chain, between, of_chain}
use Rattle.drift_laws.specs.ChainLines.{lines-one, lines_more, lines-count, Rises, rises-of}
use Rattle.drift_laws.specs.PolygonSteps.{list_one, list-many}
use Rattle.drift_laws.specs.LineRows.{RowRoom, RowsSet, RowsFirst, rows_none, rows_then, rows-first}
use Rattle.values.specs.declared.Line.{Line}
use Rattle.fit.specs.declared.points.Point.{Point as PointOfCode}
use Rattle.fit.specs.declared.polygon.Polygon.{Polygon}
use Rattle.values.specs.Meanings.{line_of}
use Rattle.values.specs.Small.{Bounded, Small}
use Rattle.fit.specs.LinesOfEnds.{PointIs, LineThrough}
use Rattle.fit.specs.Polygons.{polygon_of, Shape}

-- ---- one chain
pub record ChainListed (f : ℕ → Point) (a b : ℕ) (ps qs ds : List ℤ) (at : ℕ) (ps' qs' ds' : List ℤ) (n : ℕ) : Type 0 where
  pub rows : RowsSet at (map reduced (lines_of (between f a b))) ps qs ds ps' qs' ds'
  pub count : n ≡ at + (b - a - 1)

pub listed-none : (f : ℕ → Point) (a : ℕ) (ps qs ds : List ℤ) (at : ℕ) → ChainListed f a (a + 1) ps qs ds at ps qs ds at
listed-none f a ps qs ds at = record { rows = subst (λ ls. RowsSet at (map reduced ls) ps qs ds ps qs ds) (sym (lines-one f a)) (rows_none at ps qs ds); count = omega arith }

-- the line through neighbours
pub joined_is : {A B : Point} {a b : PointOfCode} {l : Line} → PointIs A a → PointIs B b → LineThrough a b l → line_of l ≡ through A B
joined_is p q l = l.is ∙ ap₂ (λ X Y. through X Y) p.is q.is

-- it is small where times rise
pub joined_small : {f : ℕ → Point} {a b : ℕ} (j : ℕ) → Rises f a b → a < j → j < b → {l : Line} → Bounded l → line_of l ≡ through (f (j - 1)) (f j) → Small l
joined_small j r lo hi k e = record { bounds = k; d_above_0 = subst (λ m. pos 0 <ℤ m.d) (sym e) (r.each j lo hi) }

pub listed_more : {f : ℕ → Point} {a j : ℕ} → a < j → {ps qs ds : List ℤ} {at : ℕ} {pt qt dt : List ℤ} {n : ℕ} (l : Line) → ChainListed f a j ps qs ds at pt qt dt n
    → line_of l ≡ through (f (j - 1)) (f j)
    → {pu qu du : List ℤ} → RowsSet n (reduced (line_of l) ∷ []) pt qt dt pu qu du
    → ChainListed f a (j + 1) ps qs ds at pu qu du (n + 1)
listed_more {f} {a} {j} h {ps} {qs} {ds} {at} {pt} {qt} {dt} {n} l z k {pu} {qu} {du} p =
    let q = z.count in
    let m : at + length (map reduced (lines_of (between f a j))) ≡ n = omega (arith, length-map (lines_of (between f a j)) reduced, lines-count f a j h) in
    let e : map reduced (lines_of (between f a j)) ++ (reduced (line_of l) ∷ []) ≡ map reduced (lines_of (between f a (j + 1))) =
    ap (λ x. map reduced (lines_of (between f a j)) ++ (reduced x ∷ [])) k ∙ sym (map-append reduced (lines_of (between f a j)) (through (f (j - 1)) (f j) ∷ [])) ∙ ap (map reduced) (sym (lines_more f a j h)) in
    record {
      rows = subst (λ ls. RowsSet at ls ps qs ds pu qu du) e (rows_then z.rows (subst (λ i. RowsSet i (reduced (line_of l) ∷ []) pt qt dt pu qu du) (sym m) p));
      count = omega arith;
    }

-- ---- the corners
pub record ProperCorners (up down : Chain) (x : Polygon) : Type 0 where
  pub each : All (λ l. pos 0 <ℤ l.d) (list_of (polygon_of false up down x))

abbrev pub points : Polygon → ℕ
points x = (x.upper.end - x.upper.start) + (x.lower.end - x.lower.start)

-- lines, which stand first in lowest terms
pub record Listed (ls : List LineTerm) (ps qs ds ps' qs' ds' : List ℤ) (r : ℕ) : Type 0 where
  pub count : r ≡ length ls
  pub rows : RowsFirst (map reduced ls) ps qs ds ps' qs' ds'

abbrev pub CornersListed : Chain → Chain → Polygon → List ℤ → List ℤ → List ℤ → List ℤ → List ℤ → List ℤ → ℕ → Type 0
CornersListed up down x ps qs ds ps' qs' ds' r = Listed (list_of (polygon_of false up down x)) ps qs ds ps' qs' ds' r

module _ {x : Polygon} {up down : Chain} (s : Shape x up down) where
  pub room_slow : 1 ≤ points x
  room_slow = omega (arith, s.upper_held.some)

  pub room_upper : 1 + (x.upper.end - x.upper.start - 1) ≤ points x
  room_upper = omega (arith, s.upper_held.some, s.lower_held.some)

  module _ {k : ℕ} (q : k ≡ 1 + (x.upper.end - x.upper.start - 1)) where
    pub room_fast : k + 1 ≤ points x
    room_fast = omega (arith, q, s.upper_held.some, s.lower_held.some)

    pub room_lower : k + 1 + (x.lower.end - x.lower.start - 1) ≤ points x
    room_lower = omega (arith, q, s.upper_held.some, s.lower_held.some)

module _ {up down : Chain} {x : Polygon} (s : Shape x up down) (h : ProperCorners up down x) where
  pub slow_small : Small x.slow
  slow_small = record { bounds = s.slow_in; d_above_0 = All_in h.each (list-slow (polygon_of false up down x)) }

  module _ {steep : Bool} (e : steep ≡ lt_z (pos 0) (turn (line_of x.slow) (line_of x.fast))) where
    pub corner_one : steep ≡ false → {ps qs ds pt qt dt : List ℤ} → RowRoom (points x) ps qs ds → RowsSet 0 (reduced (line_of x.slow) ∷ []) ps qs ds pt qt dt
        → CornersListed up down x ps qs ds pt qt dt 1
    corner_one t {ps} {qs} {ds} {pt} {qt} {dt} r p =
        let a = s.upper_held.some in
        let q = list_one (polygon_of false up down x) (sym e ∙ t) in
        subst (λ ls. Listed ls ps qs ds pt qt dt 1) (sym q)
        (record {
          count = refl;
          rows = rows-first (record { ps_long = omega (arith, r.ps_long); qs_long = omega (arith, r.qs_long); ds_long = omega (arith, r.ds_long) }) p;
        })

    module _ (t : steep ≡ true) where
      many : list_of (polygon_of false up down x) ≡ corners_of (polygon_of false up down x)
      many = list-many (polygon_of false up down x) (sym e ∙ t)

      proper : All (λ l. pos 0 <ℤ l.d) (lines_of (between (of_chain false up) x.upper.start x.upper.end) ++ (line_of x.fast ∷ lines_of (between (of_chain false down) x.lower.start x.lower.end)))
      proper = All-tail (subst (All (λ l. pos 0 <ℤ l.d)) many h.each)

      pub upper_rises : Rises (of_chain false up) x.upper.start x.upper.end
      upper_rises = rises-of (of_chain false up) x.upper.start x.upper.end s.upper_held.some (All_append_left (lines_of (between (of_chain false up) x.upper.start x.upper.end)) _ proper)

      after_upper : All (λ l. pos 0 <ℤ l.d) (line_of x.fast ∷ lines_of (between (of_chain false down) x.lower.start x.lower.end))
      after_upper = All_append_right (lines_of (between (of_chain false up) x.upper.start x.upper.end)) _ proper

      pub fast_small : Small x.fast
      fast_small = record { bounds = s.fast_in; d_above_0 = All-head after_upper }

      pub lower_rises : Rises (of_chain false down) x.lower.start x.lower.end
      lower_rises = rises-of (of_chain false down) x.lower.start x.lower.end s.lower_held.some (All-tail after_upper)

      pub corner_all : {ps qs ds pt qt dt pu qu du pv qv dv pw qw dw : List ℤ} {k r : ℕ} → RowRoom (points x) ps qs ds
          → RowsSet 0 (reduced (line_of x.slow) ∷ []) ps qs ds pt qt dt
          → ChainListed (of_chain false up) x.upper.start x.upper.end pt qt dt 1 pu qu du k
          → RowsSet k (reduced (line_of x.fast) ∷ []) pu qu du pv qv dv
          → ChainListed (of_chain false down) x.lower.start x.lower.end pv qv dv (k + 1) pw qw dw r
          → CornersListed up down x ps qs ds pw qw dw r
      corner_all {ps} {qs} {ds} {pt} {qt} {dt} {pu} {qu} {du} {pv} {qv} {dv} {pw} {qw} {dw} {k} {r} room a b c d =
          let us = lines_of (between (of_chain false up) x.upper.start x.upper.end) in
          let ls = lines_of (between (of_chain false down) x.lower.start x.lower.end) in
          let S = reduced (line_of x.slow) in
          let F = reduced (line_of x.fast) in
          let p = s.upper_held.some in
          let q = s.lower_held.some in
          let nu : length us ≡ x.upper.end - x.upper.start - 1 = lines-count (of_chain false up) x.upper.start x.upper.end s.upper_held.some in
          let nl : length ls ≡ x.lower.end - x.lower.start - 1 = lines-count (of_chain false down) x.lower.start x.lower.end s.lower_held.some in
          let one : 0 + length (S ∷ []) ≡ 1 = omega arith in
          let two : 0 + length ((S ∷ []) ++ map reduced us) ≡ k = omega (arith, length-map us reduced, b.count) in
          let three : 0 + length (((S ∷ []) ++ map reduced us) ++ (F ∷ [])) ≡ k + 1 = omega (arith, length-append ((S ∷ []) ++ map reduced us) (F ∷ []), two) in
          let first : RowsSet 0 ((S ∷ []) ++ map reduced us) ps qs ds pu qu du = rows_then a (subst (λ i. RowsSet i (map reduced us) pt qt dt pu qu du) (sym one) b.rows) in
          let next : RowsSet 0 (((S ∷ []) ++ map reduced us) ++ (F ∷ [])) ps qs ds pv qv dv = rows_then first (subst (λ i. RowsSet i (F ∷ []) pu qu du pv qv dv) (sym two) c) in
          let last : RowsSet 0 ((((S ∷ []) ++ map reduced us) ++ (F ∷ [])) ++ map reduced ls) ps qs ds pw qw dw = rows_then next (subst (λ i. RowsSet i (map reduced ls) pv qv dv pw qw dw) (sym three) d.rows) in
          let same : (((S ∷ []) ++ map reduced us) ++ (F ∷ [])) ++ map reduced ls ≡ map reduced (corners_of (polygon_of false up down x)) =
          ap (λ zs. S ∷ zs) (append_assoc (map reduced us) (F ∷ []) (map reduced ls) ∙ sym (map-append reduced us (line_of x.fast ∷ ls))) in
          let count : r ≡ length (corners_of (polygon_of false up down x)) = omega (arith, length-append us (line_of x.fast ∷ ls), b.count, d.count) in
          let size : length (map reduced (corners_of (polygon_of false up down x))) ≤ points x = omega (arith, length-map (corners_of (polygon_of false up down x)) reduced, length-append us (line_of x.fast ∷ ls)) in
          subst (λ zs. Listed zs ps qs ds pw qw dw r) (sym many)
          (record {
            count = count;
            rows = rows-first (record { ps_long = omega (arith, room.ps_long); qs_long = omega (arith, room.qs_long); ds_long = omega (arith, room.ds_long) }) (subst (λ zs. RowsSet 0 zs ps qs ds pw qw dw) same last);
          })
