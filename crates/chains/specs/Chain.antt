-- The polygon of a fit as two chains of points and two lines, and the invariant: what makes them the polygon of a set of lines.
--
--     Polygon                    slow, the line of least slope; fast, the line of greatest slope; the upper chain, high ends in rising time; the lower chain, low ends in rising time
--     Bend F Top v A w           v, a line of F, and the steeper w touch A, a point of Top
--     Chain F Top v xs w         from v by the points xs to w: v, the lines through neighbours and w bend at each point, so that slopes rise strictly and each line is in F
--     Chains F Top Bot x         the invariant: slow to fast by the upper chain is a Chain; slow touches an upper and a later lower end, fast a lower and a later upper end; and the mirror image of fast to slow by the lower chain is a Chain
--     first_fits, last_fits, head_top   the first and the last line of a chain are in F, its first point is in Top
--     chain_map, ends-map, chains-map   the same for larger sets
--     mirror_polygon, ends-mirror, mirror          the mirror image of a polygon has the invariant of the mirror image of the set
--     last_from, last_of, head_of   the last and the first point of a list that has one, and origin for a list that has none
--
-- In slope and intercept a point is an edge of the polygon and a line a corner: the upper chain has the edges above the diagonal, the lower chain those below it.
-- Assumes nothing.
use Rattle.std.specs.Prelude.{◌≡◌, List, [], ◌∷◌, pos, ◌<ℤ◌}
use Rattle.std.proofs.Common.{sym}
use Rattle.std.proofs.Math.Path.{transport}
use Rattle.definitions.specs.Lines.{Line}
use Rattle.definitions.specs.Fit.{SlopeBelow}
use Rattle.chains.specs.Points.{Point, Touches, through}
use Rattle.chains.specs.Mirror.{neg_p, negL, negs, neg_l_neg_l, neg_p-neg_p, negs-negs}
use Rattle.chains.specs.Extremes.{TopThenBottom, BottomThenTop}

pub record Polygon : Type 0 where
  pub upper : List Point
  pub lower : List Point
  pub slow : Line
  pub fast : Line

pub record Bend (F : Line → Type 0) (Top : Point → Type 0) (v : Line) (A : Point) (w : Line) : Type 0 where
  pub fits : F v
  pub top : Top A
  pub before : Touches v A
  pub after : Touches w A
  pub turns : SlopeBelow v w

pub data Chain (F : Line → Type 0) (Top : Point → Type 0) : Line → List Point → Line → Type 0 where
  last : {v w : Line} {A : Point} → Bend F Top v A w → F w → Chain F Top v (A ∷ []) w
  next : {v w : Line} {A B : Point} {xs : List Point}
      → Bend F Top v A (through A B)
      → A.t <ℤ B.t
      → Chain F Top (through A B) (B ∷ xs) w
      → Chain F Top v (A ∷ B ∷ xs) w

pub record Chains (F : Line → Type 0) (Top Bot : Point → Type 0) (x : Polygon) : Type 0 where
  pub slow_ends : TopThenBottom Top Bot x.slow
  pub fast_ends : BottomThenTop Top Bot x.fast
  pub up : Chain F Top x.slow x.upper x.fast
  pub down : Chain (λ l. F (negL l)) (λ A. Bot (neg_p A)) (negL x.fast) (negs x.lower) (negL x.slow)

-- ---- the ends of a chain
module _ {F : Line → Type 0} {Top : Point → Type 0} where
  pub first_fits : {v : Line} {xs : List Point} {w : Line} → Chain F Top v xs w → F v
  first_fits (last b h) = b.fits
  first_fits (next b lt c) = b.fits

  pub last_fits : {v : Line} {xs : List Point} {w : Line} → Chain F Top v xs w → F w
  last_fits (last b h) = h
  last_fits (next b lt c) = last_fits c

  pub head_top : {v : Line} {A : Point} {xs : List Point} {w : Line} → Chain F Top v (A ∷ xs) w → Top A
  head_top (last b h) = b.top
  head_top (next b lt c) = b.top

-- stands for the end of an empty list; a chain has a point
abbrev pub origin : Point
origin = record { t = pos 0; u = pos 0 }

abbrev pub last_from : Point → List Point → Point
last_from A [] = A
last_from A (B ∷ xs) = last_from B xs

abbrev pub last_of : List Point → Point
last_of [] = origin
last_of (A ∷ xs) = last_from A xs

abbrev pub head_of : List Point → Point
head_of [] = origin
head_of (A ∷ xs) = A

-- ---- larger sets
module _ {F G : Line → Type 0} {Top Top' : Point → Type 0} (f : (l : Line) → F l → G l) (g : (A : Point) → Top A → Top' A) where
  bend_map : {v : Line} {A : Point} {w : Line} → Bend F Top v A w → Bend G Top' v A w
  bend_map b = record { fits = f _ b.fits; top = g _ b.top; before = b.before; after = b.after; turns = b.turns }

  pub chain_map : {v : Line} {xs : List Point} {w : Line} → Chain F Top v xs w → Chain G Top' v xs w
  chain_map (last b h) = last (bend_map b) (f _ h)
  chain_map (next b lt c) = next (bend_map b) lt (chain_map c)

pub ends-map : {Top Top' Bot Bot' : Point → Type 0} {l : Line}
    → ((A : Point) → Top A → Top' A)
    → ((A : Point) → Bot A → Bot' A)
    → TopThenBottom Top Bot l
    → TopThenBottom Top' Bot' l
ends-map g h e =
    record {
      first = e.first;
      second = e.second;
      top = g _ e.top;
      bot = h _ e.bot;
      rise = e.rise;
      on_first = e.on_first;
      on_second = e.on_second;
    }

pub chains-map : {F G : Line → Type 0} {Top Top' Bot Bot' : Point → Type 0} {x : Polygon}
    → ((l : Line) → F l → G l)
    → ((A : Point) → Top A → Top' A)
    → ((A : Point) → Bot A → Bot' A)
    → Chains F Top Bot x
    → Chains G Top' Bot' x
chains-map f g h c =
    record {
      slow_ends = ends-map g h c.slow_ends;
      fast_ends = ends-map (λ A. h (neg_p A)) (λ A. g (neg_p A)) c.fast_ends;
      up = chain_map f g c.up;
      down = chain_map (λ l. f (negL l)) (λ A. h (neg_p A)) c.down;
    }

-- ---- the mirror image
abbrev pub mirror_polygon : Polygon → Polygon
mirror_polygon x = record { upper = negs x.lower; lower = negs x.upper; slow = negL x.fast; fast = negL x.slow }

pub ends-mirror : {Top Bot : Point → Type 0} {l : Line} → TopThenBottom Top Bot l → BottomThenTop (λ A. Bot (neg_p A)) (λ A. Top (neg_p A)) (negL l)
ends-mirror {Top} {Bot} {l} e =
    let same : TopThenBottom (λ A. Top (neg_p (neg_p A))) (λ A. Bot (neg_p (neg_p A))) (negL (negL l)) ≡ TopThenBottom Top Bot l =
    λ i. TopThenBottom (λ A. Top (neg_p-neg_p A i)) (λ A. Bot (neg_p-neg_p A i)) (neg_l_neg_l l i) in
    transport (sym same) e

chain-mirror : {F : Line → Type 0} {Top : Point → Type 0} {v : Line} {xs : List Point} {w : Line}
    → Chain F Top v xs w
    → Chain (λ l. F (negL (negL l))) (λ A. Top (neg_p (neg_p A))) (negL (negL v)) (negs (negs xs)) (negL (negL w))
chain-mirror {F} {Top} {v} {xs} {w} c =
    let same : Chain (λ l. F (negL (negL l))) (λ A. Top (neg_p (neg_p A))) (negL (negL v)) (negs (negs xs)) (negL (negL w)) ≡ Chain F Top v xs w =
    λ i. Chain (λ l. F (neg_l_neg_l l i)) (λ A. Top (neg_p-neg_p A i)) (neg_l_neg_l v i) (negs-negs xs i) (neg_l_neg_l w i) in
    transport (sym same) c

pub mirror : {F : Line → Type 0} {Top Bot : Point → Type 0} {x : Polygon}
    → Chains F Top Bot x
    → Chains (λ l. F (negL l)) (λ A. Bot (neg_p A)) (λ A. Top (neg_p A)) (mirror_polygon x)
mirror c = record { slow_ends = c.fast_ends; fast_ends = ends-mirror c.slow_ends; up = c.down; down = chain-mirror c.up }
