-- The state of a fit: a polygon with chains, or a single line; one more upper end, or one more lower end, of any state.
--
--     Single, State            the fit is one line, held by an upper and a later lower end and by a lower and a later upper end; a polygon has chains, or is a single line
--     only                     of a state with a single line every line of the fit is that line
--     state-map, state-mirror  larger sets; the mirror image
--     state-slow, state-fast, state_slow_ends, state_fast_ends   slow and fast are lines of the fit, with their ends
--     alone l x                the polygon of one line
--     cut_above N x             (cut_fast, cut_slow) the fit's lines at or below N, of which slow is one: x itself where fast is not above N, slow alone where slow touches N, and `cut` else
--     cut_below N x             the fit's lines at or above N: the mirror image of cut_above
--     cut_above_by, cut_below_by   the same, with any rule Shorten for what is left of the upper chain
--     un-with                  one more point, seen in the mirror and back
--     same-under               one line is not on both sides of a point
--
-- Fits that are a point or a segment of lines are states like any other: O'Rourke takes a polygon with an interior for granted.
-- Further laws stand in proofs/State.antt.
-- Assumes nothing.
use Rattle.std.specs.Prelude.{◌≡◌, refl, [], ◌∷◌, List, ◌⊎◌, zero, suc, ℤ, pos, negsuc, ◌*ℤ◌, ◌≤ℤ◌, ◌<ℤ◌}
use Rattle.std.proofs.Common.{sym, ◌∙◌, ap, subst, inl, inr}
use Rattle.integers.specs.OrderLaws.{≤ℤ-trans, ≤ℤ_of_≡, ≤ℤ_or_<ℤ, ≤ℤ_antisym}
use Rattle.integers.specs.RingSolver.{var, lit, ◌:*◌}
use Rattle.integers.specs.Certificates.{hyp, num, eqn, ◌⊞◌, ◌⊠◌}
use Rattle.integers.specs.Solve.{claims, certify! }
use Rattle.definitions.specs.Lines.{Line}
use Rattle.definitions.specs.Fit.{SameLine}
use Rattle.chains.specs.Points.{Point, gap, Touches, SlopeAtMost, below_under, same_refl}
use Rattle.chains.specs.Mirror.{neg_p, negL, neg_l_neg_l, neg_p-neg_p, neg_same}
use Rattle.chains.specs.Extremes.{Laws, TopThenBottom, BottomThenTop, slowest, fastest, highest, slowest_only, bottom-top}
use Rattle.chains.specs.Chain.{chains-map, ends-map, ends-mirror, mirror, first_fits, last_fits, Polygon, Chains, mirror_polygon}
use Rattle.chains.specs.Cut.{Under, With, keep_under}
use Rattle.chains.specs.Step.{cut_with}

-- ---- a single line
pub record Single (F : Line → Type 0) (Top Bot : Point → Type 0) (x : Polygon) : Type 0 where
  pub slow_fits : F x.slow
  pub fast_fits : F x.fast
  pub slow_ends : TopThenBottom Top Bot x.slow
  pub fast_ends : BottomThenTop Top Bot x.fast
  pub same : SameLine x.slow x.fast

pub data State (F : Line → Type 0) (Top Bot : Point → Type 0) (x : Polygon) : Type 0 where
  with_chains : Chains F Top Bot x → State F Top Bot x
  one_line : Single F Top Bot x → State F Top Bot x

slope-back : (s l f : Line) → pos 0 <ℤ s.d → pos 0 <ℤ l.d → pos 0 <ℤ f.d → SlopeAtMost s l → SlopeAtMost l f → s.p *ℤ f.d ≡ f.p *ℤ s.d → SlopeAtMost l s
slope-back s l f = certify! (s.p ∷ s.d ∷ l.p ∷ l.d ∷ f.p ∷ f.d ∷ []) (search claims depth 60) (hyp 2) (hyp 0 ⊠ hyp 4 ⊞ eqn 5 (lit (negsuc 0) :* var 3)) tt

-- every fitting line is it
pub only : {F : Line → Type 0} {Top Bot : Point → Type 0} {T : ℤ} → Laws F Top Bot T → (x : Polygon) → Single F Top Bot x → (l : Line) → F l → SameLine l x.slow
only laws x z l fl =
    slowest_only laws x.slow z.slow_fits z.slow_ends l fl
    (slope-back x.slow l x.fast (laws.positive _ z.slow_fits) (laws.positive l fl) (laws.positive _ z.fast_fits) (slowest laws x.slow z.slow_fits z.slow_ends l fl) (fastest laws x.fast z.fast_fits z.fast_ends l fl) z.same.slope)

-- ---- larger sets, the mirror image
pub state-map : {F G : Line → Type 0} {Top Top' Bot Bot' : Point → Type 0} {x : Polygon} → ((l : Line) → F l → G l) → ((A : Point) → Top A → Top' A)
    → ((A : Point) → Bot A → Bot' A) → State F Top Bot x → State G Top' Bot' x
state-map f g h (with_chains c) = with_chains (chains-map f g h c)
state-map f g h (one_line z) =
    one_line
    (record {
      slow_fits = f _ z.slow_fits;
      fast_fits = f _ z.fast_fits;
      slow_ends = ends-map g h z.slow_ends;
      fast_ends = ends-map (λ A. h (neg_p A)) (λ A. g (neg_p A)) z.fast_ends;
      same = z.same;
    })

pub state-mirror : {F : Line → Type 0} {Top Bot : Point → Type 0} (x : Polygon) → State F Top Bot x
    → State (λ l. F (negL l)) (λ A. Bot (neg_p A)) (λ A. Top (neg_p A)) (mirror_polygon x)
state-mirror x (with_chains c) = with_chains (mirror c)
state-mirror {F} x (one_line z) =
    one_line
    (record {
      slow_fits = subst F (sym (neg_l_neg_l x.fast)) z.fast_fits;
      fast_fits = subst F (sym (neg_l_neg_l x.slow)) z.slow_fits;
      slow_ends = z.fast_ends;
      fast_ends = ends-mirror z.slow_ends;
      same = neg_same x.slow x.fast z.same;
    })

pub state-slow : {F : Line → Type 0} {Top Bot : Point → Type 0} (x : Polygon) → State F Top Bot x → F x.slow
state-slow x (with_chains c) = first_fits c.up
state-slow x (one_line z) = z.slow_fits

pub state-fast : {F : Line → Type 0} {Top Bot : Point → Type 0} (x : Polygon) → State F Top Bot x → F x.fast
state-fast x (with_chains c) = last_fits c.up
state-fast x (one_line z) = z.fast_fits

pub state_slow_ends : {F : Line → Type 0} {Top Bot : Point → Type 0} (x : Polygon) → State F Top Bot x → TopThenBottom Top Bot x.slow
state_slow_ends x (with_chains c) = c.slow_ends
state_slow_ends x (one_line z) = z.slow_ends

pub state_fast_ends : {F : Line → Type 0} {Top Bot : Point → Type 0} (x : Polygon) → State F Top Bot x → BottomThenTop Top Bot x.fast
state_fast_ends x (with_chains c) = c.fast_ends
state_fast_ends x (one_line z) = z.fast_ends

-- ---- the cut above
-- what is left of a chain at N: keep_under in the proofs, pop_end in code
abbrev pub Shorten : Type 0
Shorten = Point → List Point → List Point

-- one line; the chains no longer matter
abbrev pub alone : Line → Polygon → Polygon
alone l x = record { upper = x.upper; lower = x.lower; slow = l; fast = l }

abbrev pub cut_slow : Shorten → ℤ → Point → Polygon → Polygon
cut_slow shorten (pos n) N x = alone x.slow x
cut_slow shorten (negsuc n) N x = cut_with (shorten N x.upper) N x

abbrev pub cut_fast : Shorten → ℤ → Point → Polygon → Polygon
cut_fast shorten (pos zero) N x = x
cut_fast shorten (pos (suc n)) N x = cut_slow shorten (gap x.slow N) N x
cut_fast shorten (negsuc n) N x = x

abbrev pub cut_above_by : Shorten → Point → Polygon → Polygon
cut_above_by shorten N x = cut_fast shorten (gap x.fast N) N x

abbrev pub cut_above : Point → Polygon → Polygon
cut_above N x = cut_above_by keep_under N x

pub same-under : (s f : Line) (N : Point) → pos 0 <ℤ s.d → pos 0 <ℤ f.d → s.p *ℤ f.d ≡ f.p *ℤ s.d → s.q *ℤ f.d ≡ f.q *ℤ s.d → gap s N ≤ℤ pos 0
    → pos 0 <ℤ gap f N → ⊥
same-under s f N =
    certify! (s.p ∷ s.q ∷ s.d ∷ f.p ∷ f.q ∷ f.d ∷ N.t ∷ N.u ∷ []) (search claims depth 60) (num 1)
    (hyp 0 ⊠ hyp 5 ⊞ hyp 1 ⊠ hyp 4 ⊞ eqn 2 (lit (negsuc 0) :* var 6) ⊞ eqn 3 (lit (negsuc 0))) tt

same-time : (s : Line) (B N : Point) → pos 0 <ℤ s.d → Touches s B → Touches s N → B.t ≡ N.t → B.u <ℤ N.u → ⊥
same-time s B N =
    certify! (s.p ∷ s.q ∷ s.d ∷ B.t ∷ B.u ∷ N.t ∷ N.u ∷ []) (search claims depth 60) (num 1)
    (hyp 0 ⊠ hyp 4 ⊞ eqn 1 (lit (pos 1)) ⊞ eqn 2 (lit (negsuc 0)) ⊞ eqn 3 (lit (negsuc 0) :* var 0)) tt

-- an end that is not after N, touched by a line that touches N, is before N, unless it is N
before_N : (s : Line) (B N : Point) → pos 0 <ℤ s.d → Touches s B → Touches s N → B.t ≤ℤ N.t → (B.t <ℤ N.t) ⊎ (B.u <ℤ N.u) → B.t <ℤ N.t
before_N s B N s-over b n le (inl h) = h
before_N s B N s-over b n le (inr h) = by (≤ℤ_or_<ℤ N.t B.t)
  where
    by : (N.t ≤ℤ B.t) ⊎ (B.t <ℤ N.t) → B.t <ℤ N.t
    by (inl k) = absurd (same-time s B N s-over b n (≤ℤ_antisym le k) h)
    by (inr k) = k

module _ {F : Line → Type 0} {Top Bot : Point → Type 0} {T : ℤ} (laws : Laws F Top Bot T) (N : Point) (late : T ≤ℤ N.t) where
  -- fast is not above N: nothing changes
  pub no_cut : (x : Polygon) → State F Top Bot x → gap x.fast N ≤ℤ pos 0 → State (Under F N) (With Top N) Bot x
  no_cut x z h =
      let ff = state-fast x z in
      state-map (λ l f. (f, below_under l x.fast N (laws.positive l f) (laws.positive _ ff) (highest laws x.fast ff (state_fast_ends x z) l f N.t late) h)) (λ A a. inl a) (λ A a. a) z

  -- slow touches N: slow alone
  pub only_slow : (apart : (B : Point) → Bot B → (B.t <ℤ N.t) ⊎ (B.u <ℤ N.u)) (x : Polygon) → State F Top Bot x → Touches x.slow N
      → State (Under F N) (With Top N) Bot (alone x.slow x)
  only_slow apart x z h =
      let s = x.slow in
      let fs = state-slow x z in
      let e = state_slow_ends x z in
      let g : Under F N x.slow = (fs, ≤ℤ_of_≡ h) in
      let before = before_N s e.second N (laws.positive s fs) e.on_second h (≤ℤ-trans (laws.bot_early _ e.bot) late) (apart _ e.bot) in
      one_line
      (record {
        slow_fits = g;
        fast_fits = g;
        slow_ends = ends-map (λ A a. inl a) (λ A a. a) e;
        fast_ends = bottom-top (With Top N) Bot s e.second N e.bot (inr refl) before e.on_second h;
        same = same_refl s;
      })

-- ---- the cut below: the mirror image
abbrev pub cut_below_by : Shorten → Point → Polygon → Polygon
cut_below_by shorten N x = mirror_polygon (cut_above_by shorten (neg_p N) (mirror_polygon x))

abbrev pub cut_below : Point → Polygon → Polygon
cut_below N x = cut_below_by keep_under N x

pub un-with : (Bot : Point → Type 0) (N A : Point) → With (λ B. Bot (neg_p B)) (neg_p N) (neg_p A) → With Bot N A
un-with Bot N A (inl b) = inl (subst Bot (neg_p-neg_p A) b)
un-with Bot N A (inr e) = inr (sym (neg_p-neg_p A) ∙ ap neg_p e ∙ neg_p-neg_p N)
