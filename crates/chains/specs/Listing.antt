-- The list of corners of any state, and that it is in corner order.
--
--     list_of x, list_if      slow alone where slow and fast have one slope, and the corners of the chains else
--     list-many, list-single   which of the two it is
--     list-slow, list_fast  slow and fast are listed
--     chain_slope           slopes rise along a chain
--
-- Further laws stand in proofs/Listing.antt.
-- Assumes nothing.
use Rattle.std.specs.Prelude.{◌≡◌, refl, ◌⊎◌, zero, suc, ℤ, pos, negsuc, ◌+ℤ◌, ◌*ℤ◌, ◌≤ℤ◌, ◌<ℤ◌}
use Rattle.std.proofs.Common.{sym, subst, inl, inr}
use mathlib.Core.List.{List, [], ◌∷◌, ◌++◌, map, reverse_aux}
use Rattle.integers.specs.OrderLaws.{sub-pos, <ℤ→≤ℤ, ≤ℤ_of_≡, ≤ℤ_or_<ℤ, ≤ℤ_antisym, ≤ℤ-<ℤ-⊥}
use Rattle.integers.specs.RingSolver.{var, lit, ◌:-◌, ◌:*◌}
use Rattle.integers.specs.Certificates.{hyp, num, eqn, ◌⊞◌, ◌⊠◌}
use Rattle.integers.specs.Solve.{claims, certify! }
use Rattle.integers.specs.Lists.{In, here, there, in_append_right, Any_here}
use Rattle.definitions.specs.Lines.{Line}
use Rattle.definitions.specs.Corners.{side}
use Rattle.definitions.specs.Fit.{SameLine, SlopeBelow, RisingSlopes}
use Rattle.chains.specs.Points.{Point, gap, Touches, through, turn, slope-trans, same_line}
use Rattle.chains.specs.Mirror.{negL, un_slope<}
use Rattle.chains.specs.Extremes.{Laws}
use Rattle.chains.specs.Chain.{Polygon, Chain, last, next, Chains, first_fits, last_fits}
use Rattle.chains.specs.State.{State, with_chains, one_line}
use Rattle.chains.specs.Hull.{lines_of, corners_of}
use Rattle.chains.specs.CornersOfChains.{Listed}

abbrev pub list_if : ℤ → Polygon → List Line
list_if (pos zero) x = x.slow ∷ []
list_if (pos (suc n)) x = corners_of x
list_if (negsuc n) x = x.slow ∷ []

abbrev pub list_of : Polygon → List Line
list_of x = list_if (turn x.slow x.fast) x

-- ---- slopes rise along the upper chain, and fall along the lower one
pub chain-rises : {F : Line → Type 0} {Top : Point → Type 0} {v : Line} {xs : List Point} {w : Line} → Chain F Top v xs w → RisingSlopes (v ∷ (lines_of xs ++ (w ∷ [])))
chain-rises (last b f) = (b.turns, tt)
chain-rises (next b lt c) = (b.turns, chain-rises c)

pub rises-onto : (l : Line) (ls onto : List Line) → RisingSlopes (map negL (l ∷ ls)) → RisingSlopes (l ∷ onto) → RisingSlopes (reverse_aux ls (l ∷ onto))
rises-onto l [] onto r s = s
rises-onto l (m ∷ ls) onto r s = rises-onto m ls (l ∷ onto) r.1 (un_slope< l m r.0, s)

module _ {F : Line → Type 0} {Top Bot : Point → Type 0} (x : Polygon) (ch : Chains F Top Bot x) where
  pub upper_rises : RisingSlopes (x.slow ∷ (lines_of x.upper ++ (x.fast ∷ [])))
  upper_rises = chain-rises ch.up

-- ---- above the diagonal
-- m, between v and w in slope, touches A, which v and w are not above. Were m not above their diagonal, they would touch A
module _ (v w m : Line) (A : Point) where
  touch_v : Touches m A → SlopeBelow v m → SlopeBelow m w → gap v A ≤ℤ pos 0 → gap w A ≤ℤ pos 0 → side v w m ≤ℤ pos 0 → pos 0 ≤ℤ gap v A
  unfolding side
  touch_v =
      certify! (v.p ∷ v.q ∷ v.d ∷ w.p ∷ w.q ∷ w.d ∷ m.p ∷ m.q ∷ m.d ∷ A.t ∷ A.u ∷ []) (search claims depth 80)
      (hyp 2) (hyp 5 ⊞ hyp 1 ⊠ hyp 4 ⊞ eqn 0 (var 0 :* var 5 :- var 3 :* var 2)) tt

  touch_w : Touches m A → SlopeBelow v m → SlopeBelow m w → gap v A ≤ℤ pos 0 → gap w A ≤ℤ pos 0 → side v w m ≤ℤ pos 0 → pos 0 ≤ℤ gap w A
  unfolding side
  touch_w =
      certify! (v.p ∷ v.q ∷ v.d ∷ w.p ∷ w.q ∷ w.d ∷ m.p ∷ m.q ∷ m.d ∷ A.t ∷ A.u ∷ []) (search claims depth 80)
      (hyp 1) (hyp 5 ⊞ hyp 2 ⊠ hyp 3 ⊞ eqn 0 (var 0 :* var 5 :- var 3 :* var 2)) tt

not_same-slope : (v w : Line) → SlopeBelow v w → v.p *ℤ w.d ≡ w.p *ℤ v.d → ⊥
not_same-slope v w h e = ≤ℤ-<ℤ-⊥ (≤ℤ_of_≡ (sym e)) h

-- a line between two others in slope that touches two upper ends
pub record Between (Top : Point → Type 0) (v w m : Line) : Type 0 where
  pub positive : pos 0 <ℤ m.d
  pub left : SlopeBelow v m
  pub right : SlopeBelow m w
  pub first : Point
  pub second : Point
  pub first_top : Top first
  pub second_top : Top second
  pub rise : first.t <ℤ second.t
  pub on_first : Touches m first
  pub on_second : Touches m second

module _ {F : Line → Type 0} {Top Bot : Point → Type 0} {T : ℤ} (laws : Laws F Top Bot T) where
  -- it is above their diagonal: else v and w would touch both ends
  pub over_diagonal : (v w m : Line) → F v → F w → Between Top v w m → pos 0 <ℤ side v w m
  over_diagonal v w m fv fw z = by (≤ℤ_or_<ℤ (side v w m) (pos 0))
    where
      v_under : (A : Point) → Top A → gap v A ≤ℤ pos 0
      v_under A a = laws.under v A a fv

      w_under : (A : Point) → Top A → gap w A ≤ℤ pos 0
      w_under A a = laws.under w A a fw

      v_touches : side v w m ≤ℤ pos 0 → (A : Point) → Top A → Touches m A → Touches v A
      v_touches n A a t = ≤ℤ_antisym (v_under A a) (touch_v v w m A t z.left z.right (v_under A a) (w_under A a) n)

      w_touches : side v w m ≤ℤ pos 0 → (A : Point) → Top A → Touches m A → Touches w A
      w_touches n A a t = ≤ℤ_antisym (w_under A a) (touch_w v w m A t z.left z.right (v_under A a) (w_under A a) n)

      steeper : SlopeBelow v w
      steeper = slope-trans v m w (laws.positive v fv) z.positive (laws.positive w fw) z.left (<ℤ→≤ℤ z.right)

      by : (side v w m ≤ℤ pos 0) ⊎ (pos 0 <ℤ side v w m) → pos 0 <ℤ side v w m
      by (inl n) =
          absurd
          (not_same-slope v w steeper
          (same_line v w z.first z.second z.rise (v_touches n z.first z.first_top z.on_first) (v_touches n z.second z.second_top z.on_second) (w_touches n z.first z.first_top z.on_first) (w_touches n z.second z.second_top z.on_second)).slope)
      by (inr n) = n

  pub chain_slope : {v : Line} {xs : List Point} {w : Line} → Chain F Top v xs w → SlopeBelow v w
  chain_slope (last b f) = b.turns
  chain_slope (next {v} {w} {A} {B} b lt c) =
      slope-trans v (through A B) w (laws.positive _ b.fits) (laws.positive _ (first_fits c)) (laws.positive _ (last_fits c)) b.turns (<ℤ→≤ℤ (chain_slope c))

  pub widen : (v x w m : Line) → pos 0 <ℤ v.d → pos 0 <ℤ x.d → SlopeBelow v x → Between Top x w m → Between Top v w m
  widen v x w m v-over x-over s z =
      record {
        positive = z.positive;
        left = slope-trans v x m v-over x-over z.positive s (<ℤ→≤ℤ z.left);
        right = z.right;
        first = z.first;
        second = z.second;
        first_top = z.first_top;
        second_top = z.second_top;
        rise = z.rise;
        on_first = z.on_first;
        on_second = z.on_second;
      }

pub mirror-side : (v w m : Line) → pos 0 <ℤ side (negL w) (negL v) (negL m) → side v w m <ℤ pos 0
unfolding side
mirror-side v w m = certify! (v.p ∷ v.q ∷ v.d ∷ w.p ∷ w.q ∷ w.d ∷ m.p ∷ m.q ∷ m.d ∷ []) (search claims depth 80) (num 1) (hyp 0) tt

-- ---- the list of any state
same_slope_turn : (v w : Line) → v.p *ℤ w.d ≡ w.p *ℤ v.d → turn v w ≡ pos 0
same_slope_turn v w = certify! (v.p ∷ v.d ∷ w.p ∷ w.d ∷ []) (search claims depth 40) (num 1) (eqn 0 (lit (negsuc 0))) tt

pub list-many : (P : List Line → Type 0) (x : Polygon) → SlopeBelow x.slow x.fast → P (corners_of x) → P (list_of x)
list-many P x h c = by (turn x.slow x.fast) refl
  where
    by : (g : ℤ) → turn x.slow x.fast ≡ g → P (list_if g x)
    by (pos zero) e = absurd (≤ℤ-<ℤ-⊥ (≤ℤ_of_≡ e) (sub-pos h))
    by (pos (suc n)) e = c
    by (negsuc n) e = absurd (no (subst (λ z. pos 0 <ℤ z) e (sub-pos h)))
      where
        no : pos 0 <ℤ negsuc n → ⊥
        no k = k.lt

pub list-single : (P : List Line → Type 0) (x : Polygon) → SameLine x.slow x.fast → P (x.slow ∷ []) → P (list_of x)
list-single P x s c = subst (λ g. P (list_if g x)) (sym (same_slope_turn x.slow x.fast s.slope)) c

pub list-slow : (x : Polygon) → In x.slow (list_of x)
list-slow x = by (turn x.slow x.fast)
  where
    by : (g : ℤ) → In x.slow (list_if g x)
    by (pos zero) = here refl
    by (pos (suc n)) = here refl
    by (negsuc n) = here refl

pub single-term : (a b c e : ℤ) → a *ℤ b ≡ c *ℤ e → b *ℤ a ≡ e *ℤ c +ℤ pos 0
single-term a b c e = certify! (a ∷ b ∷ c ∷ e ∷ []) (search claims depth 40) (num 1) (eqn 0 (lit (pos 1))) tt

module _ {F : Line → Type 0} {Top Bot : Point → Type 0} {T : ℤ} (laws : Laws F Top Bot T) (x : Polygon) where
  pub list_fast : State F Top Bot x → Listed (list_of x) x.fast
  list_fast (with_chains c) =
      list-many (λ ls. Listed ls x.fast) x (chain_slope laws c.up) (record { entry = x.fast; among = there (in_append_right (lines_of x.upper) (here refl)); holds = record { slope = refl; intercept = refl } })
  list_fast (one_line z) = list-single (λ ls. Listed ls x.fast) x z.same (Any_here z.same)
