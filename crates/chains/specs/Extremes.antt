-- Slow and fast. A line that touches an upper end and a later lower end has the least slope of all lines of the fit, and from then on the least value; its mirror image has the greatest.
--
--     Laws F Top Bot T     all that the geometry uses of a set of lines F: no line of it is above a point of Top or below a point of Bot, none of these points is later than T, and F has the means of its lines. Chains, cuts and corners are proved for any such set; `Run` has the fit of a run of ranges
--     mirror-laws          the mirror image of such a set is one
--     TopThenBottom        the line touches a point of Top and a later point of Bot: what is true of slow
--     BottomThenTop        it touches a point of Bot and a later point of Top: what is true of fast. It is the mirror image's TopThenBottom
--     bottom-top           such a line, from its two points
--     slowest, lowest      the least slope; from T on the least value
--     fastest, highest     the greatest
--     slowest_only, fastest_only   no other line has that slope
--     closed               a line that slow's two points let through is at or above slow from then on; so none of them is below a point that slow is above
--
-- Assumes nothing.
use Rattle.std.proofs.Common.{sym, subst}
use Rattle.std.specs.Prelude.{◌≡◌, [], ◌∷◌, ℤ, pos, negsuc, ◌*ℤ◌, ◌≤ℤ◌, ◌<ℤ◌}
use Rattle.integers.specs.OrderLaws.{≤ℤ-trans, ≤ℤ_antisym}
use Rattle.integers.specs.RingSolver.{◌:+◌, ◌:*◌, var, lit}
use Rattle.integers.specs.Certificates.{hyp, num, eqn, ◌⊞◌, ◌⊠◌}
use Rattle.integers.specs.Solve.{claims, certify! }
use Rattle.definitions.specs.Lines.{Line}
use Rattle.definitions.specs.Fit.{SameLine}
use Rattle.chains.specs.Points.{Point, gap, Touches, SlopeAtMost, Below, Mean, under_below, over_below, rising, beyond, same_touching}
use Rattle.chains.specs.Mirror.{neg_p, negL, neg_l_neg_l, un_under, un_over, un_slope≤, un_below, neg-mean, neg_slope≤, un-same, neg_touches, neg_p-neg_p}

pub record Laws (F : Line → Type 0) (Top Bot : Point → Type 0) (T : ℤ) : Type 0 where
  pub positive : (l : Line) → F l → pos 0 <ℤ l.d
  pub under : (l : Line) (A : Point) → Top A → F l → gap l A ≤ℤ pos 0
  pub over : (l : Line) (A : Point) → Bot A → F l → pos 0 ≤ℤ gap l A
  pub top_early : (A : Point) → Top A → A.t ≤ℤ T
  pub bot_early : (A : Point) → Bot A → A.t ≤ℤ T
  pub mean : (l v w : Line) (c α β : ℤ) → Mean l c v α w β → pos 0 <ℤ l.d → F v → F w → F l

pub mirror-laws : {F : Line → Type 0} {Top Bot : Point → Type 0} {T : ℤ} → Laws F Top Bot T → Laws (λ l. F (negL l)) (λ A. Bot (neg_p A)) (λ A. Top (neg_p A)) T
mirror-laws laws =
    record {
      positive = λ l f. laws.positive (negL l) f;
      under = λ l A b f. un_over l A (laws.over (negL l) (neg_p A) b f);
      over = λ l A b f. un_under l A (laws.under (negL l) (neg_p A) b f);
      top_early = λ A b. laws.bot_early (neg_p A) b;
      bot_early = λ A b. laws.top_early (neg_p A) b;
      mean = λ l v w c α β m h f g. laws.mean (negL l) (negL v) (negL w) c α β (neg-mean m) h f g;
    }

pub record TopThenBottom (Top Bot : Point → Type 0) (l : Line) : Type 0 where
  pub first : Point
  pub second : Point
  pub top : Top first
  pub bot : Bot second
  pub rise : first.t <ℤ second.t
  pub on_first : Touches l first
  pub on_second : Touches l second

abbrev pub BottomThenTop : (Top Bot : Point → Type 0) → Line → Type 0
BottomThenTop Top Bot l = TopThenBottom (λ A. Bot (neg_p A)) (λ A. Top (neg_p A)) (negL l)

pub bottom-top : (Top Bot : Point → Type 0) (l : Line) (A B : Point) → Bot A → Top B → A.t <ℤ B.t → Touches l A → Touches l B → BottomThenTop Top Bot l
bottom-top Top Bot l A B a b rise on-a on-b =
    record {
      first = neg_p A;
      second = neg_p B;
      top = subst Bot (sym (neg_p-neg_p A)) a;
      bot = subst Top (sym (neg_p-neg_p B)) b;
      rise = rise;
      on_first = neg_touches l A on-a;
      on_second = neg_touches l B on-b;
    }

-- ---- s touches A and the later B; l is at or under A, at or over B
not-above : (s l : Line) (N : Point) → pos 0 <ℤ l.d → pos 0 <ℤ s.d → Below s l N.t → pos 0 <ℤ gap s N → gap l N ≤ℤ pos 0 → ⊥
not-above s l N =
    certify! (s.p ∷ s.q ∷ s.d ∷ l.p ∷ l.q ∷ l.d ∷ N.t ∷ N.u ∷ []) (search claims depth 60) (num 1) (hyp 2 ⊞ hyp 0 ⊠ hyp 3 ⊞ hyp 1 ⊠ hyp 4) tt

module _ (s l : Line) (A B : Point) (s-over : pos 0 <ℤ s.d) (l-over : pos 0 <ℤ l.d) (lt : A.t <ℤ B.t) (a : Touches s A) (b : Touches s B) (h : gap l A ≤ℤ pos 0) (k : pos 0 ≤ℤ gap l B) where
  slower : SlopeAtMost s l
  slower = rising l s A.t B.t lt (under_below l s A s-over h a) (over_below l s B s-over k b)

  lower : (c : ℤ) → B.t ≤ℤ c → Below s l c
  lower c le = beyond l s A.t B.t c lt le (under_below l s A s-over h a) (over_below l s B s-over k b)

  -- s is above N, so l is
  pub closed : (N : Point) → B.t ≤ℤ N.t → pos 0 <ℤ gap s N → gap l N ≤ℤ pos 0 → ⊥
  closed N le = not-above s l N l-over s-over (lower N.t le)

-- a parallel of s that is over B is over A
parallel : (l s : Line) (A B : Point) → pos 0 <ℤ s.d → pos 0 <ℤ l.d → A.t <ℤ B.t → l.p *ℤ s.d ≡ s.p *ℤ l.d → Touches s A → Touches s B → pos 0 ≤ℤ gap l B
    → pos 0 ≤ℤ gap l A
parallel l s A B =
    certify! (l.p ∷ l.q ∷ l.d ∷ s.p ∷ s.q ∷ s.d ∷ A.t ∷ A.u ∷ B.t ∷ B.u ∷ []) (search claims depth 60)
    (hyp 0) (hyp 0 ⊠ hyp 6 ⊞ eqn 3 (lit (negsuc 0) :* var 6 :+ var 8) ⊞ eqn 4 (lit (negsuc 0) :* var 2) ⊞ eqn 5 (var 2)) tt

-- ---- the extremes of a set
module _ {F : Line → Type 0} {Top Bot : Point → Type 0} {T : ℤ} (laws : Laws F Top Bot T) (s : Line) (fs : F s) (e : TopThenBottom Top Bot s) (l : Line) (fl : F l) where
  pub slowest : SlopeAtMost s l
  slowest =
      slower s l e.first e.second (laws.positive s fs) (laws.positive l fl) e.rise e.on_first e.on_second (laws.under l _ e.top fl) (laws.over l _ e.bot fl)

  pub lowest : (c : ℤ) → T ≤ℤ c → Below s l c
  lowest c le =
      lower s l e.first e.second (laws.positive s fs) (laws.positive l fl) e.rise e.on_first e.on_second (laws.under l _ e.top fl) (laws.over l _ e.bot fl) c
      (≤ℤ-trans (laws.bot_early _ e.bot) le)

  -- no other line has its slope
  pub slowest_only : SlopeAtMost l s → SameLine l s
  slowest_only h =
      let p : l.p *ℤ s.d ≡ s.p *ℤ l.d = ≤ℤ_antisym h slowest in
      let over = parallel l s e.first e.second (laws.positive s fs) (laws.positive l fl) e.rise p e.on_first e.on_second (laws.over l _ e.bot fl) in
      same_touching l s e.first e.first p (≤ℤ_antisym (laws.under l _ e.top fl) over) e.on_first

module _ {F : Line → Type 0} {Top Bot : Point → Type 0} {T : ℤ} (laws : Laws F Top Bot T) (s : Line) (fs : F s) (e : BottomThenTop Top Bot s) (l : Line) (fl : F l) where
  twice : (m : Line) → F m → F (negL (negL m))
  twice m f = subst F (sym (neg_l_neg_l m)) f

  pub fastest : SlopeAtMost l s
  fastest = un_slope≤ s l (slowest (mirror-laws laws) (negL s) (twice s fs) e (negL l) (twice l fl))

  pub highest : (c : ℤ) → T ≤ℤ c → Below l s c
  highest c le = un_below s l c (lowest (mirror-laws laws) (negL s) (twice s fs) e (negL l) (twice l fl) c le)

  pub fastest_only : SlopeAtMost s l → SameLine l s
  fastest_only h = un-same s l (slowest_only (mirror-laws laws) (negL s) (twice s fs) e (negL l) (twice l fl) (neg_slope≤ s l h))
