-- The mirror image: every value negated. Upper and lower ends, slow and fast, above and below change places, so that one definition and one proof serve both sides of the fit.
--
--     neg_p, negL, negR               the mirror image of a point, a line, a range; the last two are those of the definitions
--     negs                           of each point of a list
--     neg_p-neg_p, neg_l_neg_l, negs-negs   twice is the thing itself
--     through-neg   the image of the line through two points is the line through their images
--     gap_neg                        the image of the line is as far below the image of the point as the line is above the point
--     neg_touches, neg_under, neg_over, neg_below   from a line and a point to their images
--     un_under, un_over              back
--     image_touches, over_image                     the image of a line against a point is the line against the image of the point
--     neg_slope<, un_slope<, neg_slope≤, un_slope≤, un_below, neg_same, un-same   slopes and values of images
--     neg-mean                       a mean of images
--     neg-product, neg_product<      of two products that are equal, of one that is below the other
--     neg_<_flip                     of two numbers
--
-- Further laws stand in proofs/Mirror.antt.
-- Assumes nothing.
use Rattle.std.specs.Prelude.{◌≡◌, refl, List, [], ◌∷◌, map, ℤ, pos, negsuc, neg_ℤ, ◌+ℤ◌, ◌-ℤ◌, ◌*ℤ◌, ◌≤ℤ◌, ◌<ℤ◌}
use Rattle.std.proofs.Common.{◌∙◌, ap, ap₂}
use Rattle.std.proofs.Math.IntN.{neg_ℤ-neg_ℤ}
use Rattle.integers.specs.RingSolver.{lit}
use Rattle.integers.specs.Certificates.{hyp, num, eqn}
use Rattle.integers.specs.Quotes.{quotes, ring! }
use Rattle.integers.specs.Solve.{claims, certify! }
use Rattle.definitions.specs.Lines.{Line}
use Rattle.definitions.specs.Fit.{SameLine, SlopeBelow}
pub use Rattle.definitions.specs.Mirrors.{mirrored_line as negL, mirrored_range as negR}
use Rattle.chains.specs.Points.{Point, gap, Touches, through, SlopeAtMost, Below, Mean}

abbrev pub neg_p : Point → Point
neg_p A = record { t = A.t; u = neg_ℤ A.u }

abbrev pub negs : List Point → List Point
negs xs = map neg_p xs

-- ---- twice
pub neg_l_neg_l : (l : Line) → negL (negL l) ≡ l
neg_l_neg_l l = λ i. record { p = neg_ℤ-neg_ℤ l.p i; q = neg_ℤ-neg_ℤ l.q i; d = l.d }

pub neg_p-neg_p : (A : Point) → neg_p (neg_p A) ≡ A
neg_p-neg_p A = λ i. record { t = A.t; u = neg_ℤ-neg_ℤ A.u i }

pub negs-negs : (xs : List Point) → negs (negs xs) ≡ xs
negs-negs [] = refl
negs-negs (A ∷ xs) = ap₂ (λ y ys. y ∷ ys) (neg_p-neg_p A) (negs-negs xs)

-- ---- the line through two points
through-neg_p : (a b : ℤ) → neg_ℤ (b -ℤ a) ≡ neg_ℤ b -ℤ neg_ℤ a
through-neg_p a b = ring! (a ∷ b ∷ []) (search quotes depth 40) (search quotes depth 40) tt

through_neg_q : (a x b y : ℤ) → neg_ℤ (x *ℤ b -ℤ y *ℤ a) ≡ neg_ℤ x *ℤ b -ℤ neg_ℤ y *ℤ a
through_neg_q a x b y = ring! (a ∷ x ∷ b ∷ y ∷ []) (search quotes depth 40) (search quotes depth 40) tt

pub through-neg : (A B : Point) → negL (through A B) ≡ through (neg_p A) (neg_p B)
through-neg A B = λ i. record { p = through-neg_p A.u B.u i; q = through_neg_q A.t A.u B.t B.u i; d = B.t -ℤ A.t }

-- ---- a line and a point
module _ (l : Line) (A : Point) where
  pub gap_neg : gap (negL l) (neg_p A) ≡ neg_ℤ (gap l A)
  gap_neg = ring! (l.p ∷ l.q ∷ l.d ∷ A.t ∷ A.u ∷ []) (search quotes depth 40) (search quotes depth 40) tt

  pub neg_touches : Touches l A → Touches (negL l) (neg_p A)
  neg_touches h = gap_neg ∙ ap neg_ℤ h

  pub neg_under : gap l A ≤ℤ pos 0 → pos 0 ≤ℤ gap (negL l) (neg_p A)
  neg_under = certify! (l.p ∷ l.q ∷ l.d ∷ A.t ∷ A.u ∷ []) (search claims depth 40) (num 1) (hyp 0) tt

  pub neg_over : pos 0 ≤ℤ gap l A → gap (negL l) (neg_p A) ≤ℤ pos 0
  neg_over = certify! (l.p ∷ l.q ∷ l.d ∷ A.t ∷ A.u ∷ []) (search claims depth 40) (num 1) (hyp 0) tt

  -- strictly below, so strictly above
  pub neg_below : gap l A <ℤ pos 0 → pos 0 <ℤ gap (negL l) (neg_p A)
  neg_below = certify! (l.p ∷ l.q ∷ l.d ∷ A.t ∷ A.u ∷ []) (search claims depth 40) (num 1) (hyp 0) tt

  -- back
  pub un_under : gap (negL l) (neg_p A) ≤ℤ pos 0 → pos 0 ≤ℤ gap l A
  un_under = certify! (l.p ∷ l.q ∷ l.d ∷ A.t ∷ A.u ∷ []) (search claims depth 40) (num 1) (hyp 0) tt

  pub un_over : pos 0 ≤ℤ gap (negL l) (neg_p A) → gap l A ≤ℤ pos 0
  un_over = certify! (l.p ∷ l.q ∷ l.d ∷ A.t ∷ A.u ∷ []) (search claims depth 40) (num 1) (hyp 0) tt

  -- the image of the line, the image of the point
  pub image_touches : Touches (negL l) A → Touches l (neg_p A)
  image_touches = certify! (l.p ∷ l.q ∷ l.d ∷ A.t ∷ A.u ∷ []) (search claims depth 40) (num 1) (eqn 0 (lit (negsuc 0))) tt

  pub over_image : pos 0 ≤ℤ gap l (neg_p A) → gap (negL l) A ≤ℤ pos 0
  over_image = certify! (l.p ∷ l.q ∷ l.d ∷ A.t ∷ A.u ∷ []) (search claims depth 40) (num 1) (hyp 0) tt

-- ---- two products
pub neg-product : (a b c e : ℤ) → a *ℤ b ≡ c *ℤ e → neg_ℤ c *ℤ e ≡ neg_ℤ a *ℤ b
neg-product a b c e = certify! (a ∷ b ∷ c ∷ e ∷ []) (search claims depth 40) (num 1) (eqn 0 (lit (pos 1))) tt

pub neg_product< : (a b c e : ℤ) → (a *ℤ b) <ℤ (c *ℤ e) → (neg_ℤ c *ℤ e) <ℤ (neg_ℤ a *ℤ b)
neg_product< a b c e = certify! (a ∷ b ∷ c ∷ e ∷ []) (search claims depth 40) (num 1) (hyp 0) tt

un-product : (a b c e : ℤ) → neg_ℤ a *ℤ b ≡ neg_ℤ c *ℤ e → a *ℤ b ≡ c *ℤ e
un-product a b c e = certify! (a ∷ b ∷ c ∷ e ∷ []) (search claims depth 40) (num 1) (eqn 0 (lit (negsuc 0))) tt

-- ---- two lines
module _ (l m : Line) where
  pub neg_slope< : SlopeBelow l m → SlopeBelow (negL m) (negL l)
  neg_slope< = neg_product< l.p m.d m.p l.d

  pub un_slope< : SlopeBelow (negL l) (negL m) → SlopeBelow m l
  un_slope< = certify! (l.p ∷ l.d ∷ m.p ∷ m.d ∷ []) (search claims depth 40) (num 1) (hyp 0) tt

  pub neg_slope≤ : SlopeAtMost l m → SlopeAtMost (negL m) (negL l)
  neg_slope≤ = certify! (l.p ∷ l.d ∷ m.p ∷ m.d ∷ []) (search claims depth 40) (num 1) (hyp 0) tt

  pub un_slope≤ : SlopeAtMost (negL l) (negL m) → SlopeAtMost m l
  un_slope≤ = certify! (l.p ∷ l.d ∷ m.p ∷ m.d ∷ []) (search claims depth 40) (num 1) (hyp 0) tt

  pub un_below : (t : ℤ) → Below (negL l) (negL m) t → Below m l t
  un_below t = certify! (l.p ∷ l.q ∷ l.d ∷ m.p ∷ m.q ∷ m.d ∷ t ∷ []) (search claims depth 40) (num 1) (hyp 0) tt

pub neg_same : (l m : Line) → SameLine l m → SameLine (negL m) (negL l)
neg_same l m s = record { slope = neg-product l.p m.d m.p l.d s.slope; intercept = neg-product l.q m.d m.q l.d s.intercept }

pub un-same : (l m : Line) → SameLine (negL m) (negL l) → SameLine m l
un-same l m s = record { slope = un-product m.p l.d l.p m.d s.slope; intercept = un-product m.q l.d l.q m.d s.intercept }

-- ---- means
neg_sum : (c l α v β w : ℤ) → c *ℤ l ≡ α *ℤ v +ℤ β *ℤ w → c *ℤ neg_ℤ l ≡ α *ℤ neg_ℤ v +ℤ β *ℤ neg_ℤ w
neg_sum c l α v β w = certify! (c ∷ l ∷ α ∷ v ∷ β ∷ w ∷ []) (search claims depth 40) (num 1) (eqn 0 (lit (negsuc 0))) tt

pub neg-mean : {l v w : Line} {c α β : ℤ} → Mean l c v α w β → Mean (negL l) c (negL v) α (negL w) β
neg-mean {l} {v} {w} {c} {α} {β} m =
    record {
      c_over = m.c_over;
      α-over = m.α-over;
      β-over = m.β-over;
      on_p = neg_sum c l.p α v.p β w.p m.on_p;
      on_q = neg_sum c l.q α v.q β w.q m.on_q;
      on_d = m.on_d;
    }

-- ---- two numbers
pub neg_<_flip : (a b : ℤ) → a <ℤ neg_ℤ b → b <ℤ neg_ℤ a
neg_<_flip a b = certify! (a ∷ b ∷ []) (search claims depth 40) (num 1) (hyp 0) tt
