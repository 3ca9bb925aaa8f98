-- Points and lines: on which side of a point a line lies, and what follows for two or three lines.
--
--     Point                        a time t and a value u
--     gap l A                      d times the height of line l over point A: above 0 where l is above A, 0 where it touches it
--     Touches l A                  l goes through A
--     through A B                  the line through two points, A the earlier one; every line of the algorithm is made so, from two points of the trace
--     SlopeAtMost l m              l's slope is at most m's (the strict order is SlopeBelow of definitions)
--     turn v w                     above 0 where w is steeper than v
--     Below l m t                  l's value at t is at most m's
--     Mean l c v α w β             c·l = α·v + β·w, with c above 0 and α, β not below 0: l is a weighted mean of v and w
--
--     through-first, through-second, through_mean, through-steeper   of the line through two points
--     same_refl, same_line, same_touching, touches_too               when two lines are the same line
--     under_below, over_below        of two lines at the time of a point that one of them touches
--     rising, beyond                 a line that another one overtakes between two times: the slopes, and the values from then on
--     earlier_under, earlier_over, steeper_on, steeper_over, stays_over   of two lines through one point A and a point N: the order of A and N in time, of the slopes, and of the values at N
--     below_over, below_under        a point at which l is at most as high as m: where l is over it m is, where m is under it l is
--     gap_mean, mean_under, mean_over   the gap of a mean is the mean of the gaps, and so on one side where both are
--     slope-trans                    slopes in order
--
-- A line is compared with a point by whole numbers alone, never by dividing. All comparisons rest on one identity of a linear g, (b − a)·g(c) = (c − a)·g(b) − (c − b)·g(a), taken at the difference of two lines.
-- Assumes nothing.
use Rattle.std.specs.Prelude.{◌≡◌, refl, List, [], ◌∷◌, ℤ, pos, negsuc, neg_ℤ, ◌+ℤ◌, ◌-ℤ◌, ◌*ℤ◌, ◌≤ℤ◌, ◌<ℤ◌}
use Rattle.integers.specs.OrderLaws.{sub-pos}
use Rattle.integers.specs.RingSolver.{var, lit, ◌:+◌, ◌:*◌}
use Rattle.integers.specs.Certificates.{hyp, num, eqn, ◌⊞◌, ◌⊠◌}
use Rattle.integers.specs.Quotes.{quotes, ring! }
use Rattle.integers.specs.Solve.{claims, certify! }
use Rattle.definitions.specs.Lines.{Line}
use Rattle.definitions.specs.Fit.{SameLine, SlopeBelow}

pub record Point : Type 0 where
  pub t : ℤ
  pub u : ℤ

-- p·t + q − d·u
abbrev pub gap : Line → Point → ℤ
gap l A = l.p *ℤ A.t +ℤ l.q -ℤ l.d *ℤ A.u

abbrev pub Touches : Line → Point → Type 0
Touches l A = gap l A ≡ pos 0

abbrev pub through : Point → Point → Line
through A B = record { p = B.u -ℤ A.u; q = A.u *ℤ B.t -ℤ B.u *ℤ A.t; d = B.t -ℤ A.t }

abbrev pub SlopeAtMost : Line → Line → Type 0
SlopeAtMost l m = (l.p *ℤ m.d) ≤ℤ (m.p *ℤ l.d)

abbrev pub turn : Line → Line → ℤ
turn v w = w.p *ℤ v.d -ℤ v.p *ℤ w.d

abbrev pub Below : Line → Line → ℤ → Type 0
Below l m t = ((l.p *ℤ t +ℤ l.q) *ℤ m.d) ≤ℤ ((m.p *ℤ t +ℤ m.q) *ℤ l.d)

pub record Mean (l : Line) (c : ℤ) (v : Line) (α : ℤ) (w : Line) (β : ℤ) : Type 0 where
  pub c_over : pos 0 <ℤ c
  pub α-over : pos 0 ≤ℤ α
  pub β-over : pos 0 ≤ℤ β
  pub on_p : c *ℤ l.p ≡ α *ℤ v.p +ℤ β *ℤ w.p
  pub on_q : c *ℤ l.q ≡ α *ℤ v.q +ℤ β *ℤ w.q
  pub on_d : c *ℤ l.d ≡ α *ℤ v.d +ℤ β *ℤ w.d

-- ---- the line through two points
pub through-first : (A B : Point) → Touches (through A B) A
through-first A B = ring! (A.t ∷ A.u ∷ B.t ∷ B.u ∷ []) (search quotes depth 40) (search quotes depth 40) tt

pub through-second : (A B : Point) → Touches (through A B) B
through-second A B = ring! (A.t ∷ A.u ∷ B.t ∷ B.u ∷ []) (search quotes depth 40) (search quotes depth 40) tt

-- the numbers of two lines and two points
abbrev numbers : Line → Line → Point → Point → List ℤ
numbers v w A N = v.p ∷ v.q ∷ v.d ∷ w.p ∷ w.q ∷ w.d ∷ A.t ∷ A.u ∷ N.t ∷ N.u ∷ []

-- a line over B that touches the later N has at most the slope of the line through B and N
pub through-steeper : (x : Line) (B N : Point) → pos 0 ≤ℤ gap x B → Touches x N → SlopeAtMost x (through B N)
through-steeper x B N = certify! (numbers x x B N) (search claims depth 60) (num 1) (hyp 0 ⊞ eqn 1 (lit (pos 1))) tt

-- ---- l, and a line s that touches A
module _ (l s : Line) (A : Point) where
  pub under_below : pos 0 <ℤ s.d → gap l A ≤ℤ pos 0 → Touches s A → Below l s A.t
  under_below = certify! (numbers l s A A) (search claims depth 60) (num 1) (hyp 0 ⊠ hyp 1 ⊞ eqn 2 (lit (negsuc 0) :* var 2)) tt

  pub over_below : pos 0 <ℤ s.d → pos 0 ≤ℤ gap l A → Touches s A → Below s l A.t
  over_below = certify! (numbers l s A A) (search claims depth 60) (num 1) (hyp 0 ⊠ hyp 1 ⊞ eqn 2 (var 2)) tt

-- ---- l at most as high as m at N's time
module _ (l m : Line) (N : Point) where
  pub below_over : pos 0 <ℤ l.d → pos 0 <ℤ m.d → Below l m N.t → pos 0 ≤ℤ gap l N → pos 0 ≤ℤ gap m N
  below_over = certify! (numbers l m N N) (search claims depth 60) (hyp 0) (hyp 2 ⊞ hyp 1 ⊠ hyp 3) tt

  pub below_under : pos 0 <ℤ l.d → pos 0 <ℤ m.d → Below l m N.t → gap m N ≤ℤ pos 0 → gap l N ≤ℤ pos 0
  below_under = certify! (numbers l m N N) (search claims depth 60) (hyp 1) (hyp 2 ⊞ hyp 0 ⊠ hyp 3) tt

-- ---- l at or below m at a, and at or above it at the later b
module _ (l m : Line) (a b : ℤ) where
  pub rising : a <ℤ b → Below l m a → Below m l b → SlopeAtMost m l
  rising = certify! (l.p ∷ l.q ∷ l.d ∷ m.p ∷ m.q ∷ m.d ∷ a ∷ b ∷ []) (search claims depth 60) (hyp 0) (hyp 1 ⊞ hyp 2) tt

  pub beyond : (c : ℤ) → a <ℤ b → b ≤ℤ c → Below l m a → Below m l b → Below m l c
  beyond c =
      certify! (l.p ∷ l.q ∷ l.d ∷ m.p ∷ m.q ∷ m.d ∷ a ∷ b ∷ c ∷ []) (search claims depth 60) (hyp 0) (hyp 0 ⊠ hyp 3 ⊞ hyp 1 ⊠ hyp 2 ⊞ hyp 1 ⊠ hyp 3) tt

-- ---- when two lines are the same line
pub same_refl : (l : Line) → SameLine l l
same_refl l = record { slope = refl; intercept = refl }

module _ (l m : Line) (A B : Point) where
  same_slope : A.t <ℤ B.t → Touches l A → Touches l B → Touches m A → Touches m B → l.p *ℤ m.d ≡ m.p *ℤ l.d
  same_slope =
      certify! (numbers l m A B) (search claims depth 60) (hyp 0) (eqn 1 (lit (negsuc 0) :* var 5) ⊞ eqn 2 (var 5) ⊞ eqn 3 (var 2) ⊞ eqn 4 (lit (negsuc 0) :* var 2)) tt

  same_intercept : l.p *ℤ m.d ≡ m.p *ℤ l.d → Touches l A → Touches m A → l.q *ℤ m.d ≡ m.q *ℤ l.d
  same_intercept = certify! (numbers l m A B) (search claims depth 60) (num 1) (eqn 0 (lit (negsuc 0) :* var 6) ⊞ eqn 1 (var 5) ⊞ eqn 2 (lit (negsuc 0) :* var 2)) tt

  -- two points in common
  pub same_line : A.t <ℤ B.t → Touches l A → Touches l B → Touches m A → Touches m B → SameLine l m
  same_line lt la lb ma mb = let s = same_slope lt la lb ma mb in record { slope = s; intercept = same_intercept s la ma }

  -- the slope and one point in common
  pub same_touching : l.p *ℤ m.d ≡ m.p *ℤ l.d → Touches l A → Touches m A → SameLine l m
  same_touching s la ma = record { slope = s; intercept = same_intercept s la ma }

  -- and so every other point
  pub touches_too : pos 0 <ℤ l.d → l.p *ℤ m.d ≡ m.p *ℤ l.d → Touches l B → Touches m B → Touches l A → Touches m A
  touches_too =
      certify! (numbers l m A B) (search claims depth 60) (hyp 0) (eqn 1 (lit (negsuc 0) :* var 6 :+ var 8) ⊞ eqn 2 (lit (negsuc 0) :* var 5) ⊞ eqn 3 (var 2) ⊞ eqn 4 (var 5)) tt

-- ---- v and w touch A
neg-nonneg : (x : ℤ) → x ≤ℤ pos 0 → pos 0 ≤ℤ neg_ℤ x
neg-nonneg x = certify! (x ∷ []) (search claims depth 20) (num 1) (hyp 0) tt

module _ (v w : Line) (A N : Point) where
  mean_p : Touches v A → Touches w A → turn v w *ℤ (N.u -ℤ A.u) ≡ gap w N *ℤ v.p +ℤ neg_ℤ (gap v N) *ℤ w.p
  mean_p = certify! (numbers v w A N) (search claims depth 60) (num 1) (eqn 0 (var 3) ⊞ eqn 1 (lit (negsuc 0) :* var 0)) tt

  mean_q : Touches v A → Touches w A → turn v w *ℤ (A.u *ℤ N.t -ℤ N.u *ℤ A.t) ≡ gap w N *ℤ v.q +ℤ neg_ℤ (gap v N) *ℤ w.q
  mean_q =
      certify! (numbers v w A N) (search claims depth 60) (num 1)
      (eqn 0 (lit (negsuc 0) :* var 3 :* var 8 :+ var 5 :* var 9) ⊞ eqn 1 (var 0 :* var 8 :+ lit (negsuc 0) :* var 2 :* var 9)) tt

  mean_d : Touches v A → Touches w A → turn v w *ℤ (N.t -ℤ A.t) ≡ gap w N *ℤ v.d +ℤ neg_ℤ (gap v N) *ℤ w.d
  mean_d = certify! (numbers v w A N) (search claims depth 60) (num 1) (eqn 0 (var 5) ⊞ eqn 1 (lit (negsuc 0) :* var 2)) tt

  -- the line through A and N is a mean of a line at or below N and one at or above it
  pub through_mean : Touches v A → Touches w A → SlopeBelow v w → gap v N ≤ℤ pos 0 → pos 0 ≤ℤ gap w N → Mean (through A N) (turn v w) v (gap w N) w (neg_ℤ (gap v N))
  through_mean a b s h k =
      record { c_over = sub-pos s; α-over = k; β-over = neg-nonneg _ h; on_p = mean_p a b; on_q = mean_q a b; on_d = mean_d a b }

  -- A is earlier than N, where v is below N, or w above it
  pub earlier_under : Touches v A → Touches w A → SlopeBelow v w → pos 0 <ℤ v.d → pos 0 <ℤ w.d → gap v N <ℤ pos 0 → pos 0 ≤ℤ gap w N → A.t <ℤ N.t
  earlier_under = certify! (numbers v w A N) (search claims depth 60) (hyp 2) (hyp 3 ⊠ hyp 6 ⊞ hyp 4 ⊠ hyp 5 ⊞ eqn 0 (lit (negsuc 0) :* var 5) ⊞ eqn 1 (var 2)) tt

  pub earlier_over : Touches v A → Touches w A → SlopeBelow v w → pos 0 <ℤ v.d → pos 0 <ℤ w.d → gap v N ≤ℤ pos 0 → pos 0 <ℤ gap w N → A.t <ℤ N.t
  earlier_over = certify! (numbers v w A N) (search claims depth 60) (hyp 2) (hyp 3 ⊠ hyp 6 ⊞ hyp 4 ⊠ hyp 5 ⊞ eqn 0 (lit (negsuc 0) :* var 5) ⊞ eqn 1 (var 2)) tt

  -- the slopes by the values at the later point N
  pub steeper_on : Touches v A → Touches w A → A.t <ℤ N.t → pos 0 <ℤ w.d → gap v N <ℤ pos 0 → Touches w N → SlopeBelow v w
  steeper_on = certify! (numbers v w A N) (search claims depth 60) (hyp 2) (hyp 3 ⊠ hyp 4 ⊞ eqn 0 (lit (negsuc 0) :* var 5) ⊞ eqn 1 (var 2) ⊞ eqn 5 (lit (negsuc 0) :* var 2)) tt

  pub steeper_over : Touches v A → Touches w A → A.t <ℤ N.t → pos 0 <ℤ v.d → Touches v N → pos 0 <ℤ gap w N → SlopeBelow v w
  steeper_over = certify! (numbers v w A N) (search claims depth 60) (hyp 2) (hyp 3 ⊠ hyp 5 ⊞ eqn 0 (lit (negsuc 0) :* var 5) ⊞ eqn 1 (var 2) ⊞ eqn 4 (var 5)) tt

  -- the values at a point N that is not before A, by the slopes
  pub stays_over : Touches v A → Touches w A → A.t ≤ℤ N.t → pos 0 <ℤ v.d → pos 0 <ℤ w.d → SlopeBelow v w → pos 0 ≤ℤ gap v N → pos 0 ≤ℤ gap w N
  stays_over =
      certify! (numbers v w A N) (search claims depth 60) (hyp 3) (hyp 2 ⊠ hyp 5 ⊞ hyp 4 ⊠ hyp 6 ⊞ eqn 0 (var 5) ⊞ eqn 1 (lit (negsuc 0) :* var 2)) tt

-- ---- the gap of a mean is the mean of the gaps
module _ (l v w : Line) (c α β : ℤ) (A : Point) where
  gap_sum : c *ℤ l.p ≡ α *ℤ v.p +ℤ β *ℤ w.p → c *ℤ l.q ≡ α *ℤ v.q +ℤ β *ℤ w.q → c *ℤ l.d ≡ α *ℤ v.d +ℤ β *ℤ w.d → c *ℤ gap l A ≡ α *ℤ gap v A +ℤ β *ℤ gap w A
  gap_sum =
      certify! (l.p ∷ l.q ∷ l.d ∷ v.p ∷ v.q ∷ v.d ∷ w.p ∷ w.q ∷ w.d ∷ A.t ∷ A.u ∷ c ∷ α ∷ β ∷ []) (search claims depth 80)
      (num 1) (eqn 0 (var 9) ⊞ eqn 1 (lit (pos 1)) ⊞ eqn 2 (lit (negsuc 0) :* var 10)) tt

  pub gap_mean : Mean l c v α w β → c *ℤ gap l A ≡ α *ℤ gap v A +ℤ β *ℤ gap w A
  gap_mean m = gap_sum m.on_p m.on_q m.on_d

mean-≤0 : (c g α a β b : ℤ) → pos 0 <ℤ c → pos 0 ≤ℤ α → pos 0 ≤ℤ β → c *ℤ g ≡ α *ℤ a +ℤ β *ℤ b → a ≤ℤ pos 0 → b ≤ℤ pos 0 → g ≤ℤ pos 0
mean-≤0 c g α a β b = certify! (c ∷ g ∷ α ∷ a ∷ β ∷ b ∷ []) (search claims depth 60) (hyp 0) (hyp 1 ⊠ hyp 4 ⊞ hyp 2 ⊠ hyp 5 ⊞ eqn 3 (lit (pos 1))) tt

mean-≥0 : (c g α a β b : ℤ) → pos 0 <ℤ c → pos 0 ≤ℤ α → pos 0 ≤ℤ β → c *ℤ g ≡ α *ℤ a +ℤ β *ℤ b → pos 0 ≤ℤ a → pos 0 ≤ℤ b → pos 0 ≤ℤ g
mean-≥0 c g α a β b = certify! (c ∷ g ∷ α ∷ a ∷ β ∷ b ∷ []) (search claims depth 60) (hyp 0) (hyp 1 ⊠ hyp 4 ⊞ hyp 2 ⊠ hyp 5 ⊞ eqn 3 (lit (negsuc 0))) tt

module _ (l v w : Line) (c α β : ℤ) (A : Point) where
  pub mean_under : Mean l c v α w β → gap v A ≤ℤ pos 0 → gap w A ≤ℤ pos 0 → gap l A ≤ℤ pos 0
  mean_under m h k = mean-≤0 c (gap l A) α (gap v A) β (gap w A) m.c_over m.α-over m.β-over (gap_mean l v w c α β A m) h k

  pub mean_over : Mean l c v α w β → pos 0 ≤ℤ gap v A → pos 0 ≤ℤ gap w A → pos 0 ≤ℤ gap l A
  mean_over m h k = mean-≥0 c (gap l A) α (gap v A) β (gap w A) m.c_over m.α-over m.β-over (gap_mean l v w c α β A m) h k

-- ---- slopes in order
pub slope-trans : (v x y : Line) → pos 0 <ℤ v.d → pos 0 <ℤ x.d → pos 0 <ℤ y.d → SlopeBelow v x → SlopeAtMost x y → SlopeBelow v y
slope-trans v x y = certify! (v.p ∷ v.d ∷ x.p ∷ x.d ∷ y.p ∷ y.d ∷ []) (search claims depth 60) (hyp 1) (hyp 0 ⊠ hyp 4 ⊞ hyp 2 ⊠ hyp 3) tt
