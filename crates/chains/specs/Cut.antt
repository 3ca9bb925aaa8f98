-- The lines of a fit at or below a later point N: what is left of the two chains.
--
--     Under F N, Over F N          the lines of F at or below N, at or above N
--     With Top N                   the points of Top, and N
--     under-laws                   with N as one more upper end the lines at or below N are again a set that the geometry takes
--     keep_under N xs               (keep_under_after, keep_under_if) the upper chain's beginning: the points up to the first one from which the line to the next is at or above N
--     Kept   it is a beginning of a chain for the lines at or below N, to be ended at its last point or at N
--     drop_under N xs               a chain's end: the first point is dropped while the line through the first two is at or below N
--     DroppedUnder   for the lines at or above N it is a chain from the line through its first point and N
--     drop_over N xs                (drop_over_from, drop_over_if) the lower chain's end: the first point is dropped while the line through the first two is at or above N
--     Dropped   for the lines at or below N it is a lower chain that ends at the line through its first point and N, proved as the mirror image of drop_under
--
-- A new corner is the line through a point A of the old chain and N. It is a weighted mean of the two old lines that meet at A, one below N and one above, so it fits all old ranges without a look at them.
-- Further laws stand in proofs/Cut.antt.
-- Assumes nothing.
use Rattle.std.specs.Prelude.{◌≡◌, refl, List, [], ◌∷◌, ◌++◌, ◌⊎◌, zero, suc, ℤ, pos, negsuc, neg_ℤ, ◌≤ℤ◌, ◌<ℤ◌}
use Rattle.std.proofs.Common.{sym, ◌∙◌, ap, ap₂, subst, inl, inr}
use Rattle.integers.specs.OrderLaws.{≤ℤ-trans, <ℤ→≤ℤ, ≤ℤ_of_≡}
use Rattle.integers.specs.Quotes.{quotes, ring! }
use Rattle.definitions.specs.Lines.{Line}
use Rattle.definitions.specs.Fit.{SlopeBelow}
use Rattle.chains.specs.Points.{Point, gap, Touches, through, SlopeAtMost, earlier_over, stays_over, mean_under}
use Rattle.chains.specs.Mirror.{neg_p, negL, negs}
use Rattle.chains.specs.Extremes.{Laws}
use Rattle.chains.specs.Chain.{Bend, Chain, last, next, first_fits, head_of, last_of}

-- ---- the cut: one more upper end
abbrev pub Under : (Line → Type 0) → Point → Line → Type 0
Under F N l = F l × (gap l N ≤ℤ pos 0)

abbrev pub With : (Point → Type 0) → Point → Point → Type 0
With Top N A = Top A ⊎ (A ≡ N)

under-with : {F : Line → Type 0} {Top Bot : Point → Type 0} {T : ℤ} (N : Point) → Laws F Top Bot T → (l : Line) (A : Point) → With Top N A → Under F N l
    → gap l A ≤ℤ pos 0
under-with N laws l A (inl a) f = laws.under l A a f.0
under-with N laws l A (inr e) f = subst (λ B. gap l B ≤ℤ pos 0) (sym e) f.1

early-with : {F : Line → Type 0} {Top Bot : Point → Type 0} {T : ℤ} (N : Point) → Laws F Top Bot T → T ≤ℤ N.t → (A : Point) → With Top N A → A.t ≤ℤ N.t
early-with N laws le A (inl a) = ≤ℤ-trans (laws.top_early A a) le
early-with N laws le A (inr e) = ≤ℤ_of_≡ (ap (λ B. B.t) e)

pub under-laws : {F : Line → Type 0} {Top Bot : Point → Type 0} {T : ℤ} (N : Point) → Laws F Top Bot T → T ≤ℤ N.t → Laws (Under F N) (With Top N) Bot N.t
under-laws N laws le =
    record {
      positive = λ l f. laws.positive l f.0;
      under = under-with N laws;
      over = λ l A b f. laws.over l A b f.0;
      top_early = early-with N laws le;
      bot_early = λ A b. ≤ℤ-trans (laws.bot_early A b) le;
      mean = λ l v w c α β m h f g. (laws.mean l v w c α β m h f.0 g.0, mean_under l v w c α β N m f.1 g.1);
    }

-- ---- the upper chain: kept while the line through the next two points is below N
abbrev pub keep_under_if : ℤ → List Point → List Point
keep_under_if (pos n) ys = []
keep_under_if (negsuc n) ys = ys

abbrev pub keep_under_after : Point → Point → List Point → List Point
keep_under_after N A [] = []
keep_under_after N A (B ∷ xs) = keep_under_if (gap (through A B) N) (B ∷ keep_under_after N B xs)

abbrev pub keep_under : Point → List Point → List Point
keep_under N [] = []
keep_under N (A ∷ xs) = A ∷ keep_under_after N A xs

-- a chain's beginning, to be ended at its last point or at N
pub record Kept (F : Line → Type 0) (Top : Point → Type 0) (N : Point) (v : Line) (ks : List Point) : Type 0 where
  pub end : Point
  pub is_end : last_of ks ≡ end
  pub top : Top end
  pub before : end.t <ℤ N.t
  pub fits : F (through end N)
  pub stop : (y : Line) → Under F N y → Touches y end → SlopeAtMost (through end N) y → Chain (Under F N) (With Top N) v ks y
  pub push : (y : Line) → Under F N y → Touches y N → SlopeBelow (through end N) y → Chain (Under F N) (With Top N) v (ks ++ N ∷ []) y

module _ {F : Line → Type 0} {Top Bot : Point → Type 0} {T : ℤ} (laws : Laws F Top Bot T) (N : Point) where
  pub kept_more : {v : Line} {A B : Point} {ks : List Point} → Bend F Top v A (through A B) → gap v N <ℤ pos 0 → A.t <ℤ B.t → Kept F Top N (through A B) (B ∷ ks)
      → Kept F Top N v (A ∷ B ∷ ks)
  kept_more {v} {A} {B} b h lt r =
      let bend : Bend (Under F N) (With Top N) v A (through A B) = record { fits = (b.fits, <ℤ→≤ℤ h); top = inl b.top; before = b.before; after = b.after; turns = b.turns } in
      record {
        end = r.end;
        is_end = r.is_end;
        top = r.top;
        before = r.before;
        fits = r.fits;
        stop = λ y gy ya le. next bend lt (r.stop y gy ya le);
        push = λ y gy yn st. next bend lt (r.push y gy yn st);
      }

-- ---- the other chain, seen in the mirror: dropped while the line through its first two points is at or below N
abbrev pub Over : (Line → Type 0) → Point → Line → Type 0
Over F N l = F l × (pos 0 ≤ℤ gap l N)

abbrev pub drop_under_if : ℤ → List Point → List Point → List Point
drop_under_if (pos zero) a b = b
drop_under_if (pos (suc n)) a b = a
drop_under_if (negsuc n) a b = b

abbrev pub drop_under_from : Point → Point → List Point → List Point
drop_under_from N A [] = A ∷ []
drop_under_from N A (B ∷ xs) = drop_under_if (gap (through A B) N) (A ∷ B ∷ xs) (drop_under_from N B xs)

abbrev pub drop_under : Point → List Point → List Point
drop_under N [] = []
drop_under N (A ∷ xs) = drop_under_from N A xs

-- a chain's end, from the line through its first point and N
pub record DroppedUnder (F : Line → Type 0) (Top : Point → Type 0) (N : Point) (ys : List Point) (w : Line) : Type 0 where
  pub head : Point
  pub is_head : head_of ys ≡ head
  pub top : Top head
  pub before : head.t <ℤ N.t
  pub fits : F (through head N)
  pub chain : Chain (Over F N) Top (through head N) ys w

module _ {F : Line → Type 0} {Top Bot : Point → Type 0} {T : ℤ} (laws : Laws F Top Bot T) (N : Point) (late : T ≤ℤ N.t) where
  -- once at or above N, always so
  pub all_over : {v : Line} {xs : List Point} {w : Line} → Chain F Top v xs w → pos 0 ≤ℤ gap v N → Chain (Over F N) Top v xs w
  all_over (last {v} {w} {A} b fw) h =
      last (record { fits = (b.fits, h); top = b.top; before = b.before; after = b.after; turns = b.turns })
      (fw, stays_over v w A N b.before b.after (≤ℤ-trans (laws.top_early A b.top) late) (laws.positive v b.fits) (laws.positive w fw) b.turns h)
  all_over (next {v} {w} {A} {B} b lt c) h =
      next (record { fits = (b.fits, h); top = b.top; before = b.before; after = b.after; turns = b.turns }) lt
      (all_over c (stays_over v (through A B) A N b.before b.after (≤ℤ-trans (laws.top_early A b.top) late) (laws.positive v b.fits) (laws.positive _ (first_fits c)) b.turns h))

  -- the corner between v, at or below N, and w, above it
  module _ {v : Line} {A : Point} {w : Line} (b : Bend F Top v A w) (fw : F w) (h : gap v N ≤ℤ pos 0) (k : pos 0 <ℤ gap w N) where
    pub new_lt : A.t <ℤ N.t
    new_lt = earlier_over v w A N b.before b.after b.turns (laws.positive v b.fits) (laws.positive w fw) h k

-- ---- the lower chain as it stands
abbrev pub drop_over_if : ℤ → List Point → List Point → List Point
drop_over_if (pos n) a b = b
drop_over_if (negsuc n) a b = a

abbrev pub drop_over_from : Point → Point → List Point → List Point
drop_over_from N A [] = A ∷ []
drop_over_from N A (B ∷ xs) = drop_over_if (gap (through A B) N) (A ∷ B ∷ xs) (drop_over_from N B xs)

abbrev pub drop_over : Point → List Point → List Point
drop_over N [] = []
drop_over N (A ∷ xs) = drop_over_from N A xs

gap_through_neg : (A B N : Point) → gap (through (neg_p A) (neg_p B)) (neg_p N) ≡ neg_ℤ (gap (through A B) N)
gap_through_neg A B N = ring! (A.t ∷ A.u ∷ B.t ∷ B.u ∷ N.t ∷ N.u ∷ []) (search quotes depth 40) (search quotes depth 40) tt

drop_under_if-neg : (g : ℤ) (a b : List Point) → drop_under_if (neg_ℤ g) (negs a) (negs b) ≡ negs (drop_over_if g a b)
drop_under_if-neg (pos zero) a b = refl
drop_under_if-neg (pos (suc n)) a b = refl
drop_under_if-neg (negsuc n) a b = refl

drop_under_from-neg : (N A : Point) (xs : List Point) → drop_under_from (neg_p N) (neg_p A) (negs xs) ≡ negs (drop_over_from N A xs)
drop_under_from-neg N A [] = refl
drop_under_from-neg N A (B ∷ xs) =
    ap₂ (λ g r. drop_under_if g (negs (A ∷ B ∷ xs)) r) (gap_through_neg A B N) (drop_under_from-neg N B xs) ∙ drop_under_if-neg (gap (through A B) N) (A ∷ B ∷ xs) (drop_over_from N B xs)

pub drop_under-neg : (N : Point) (xs : List Point) → drop_under (neg_p N) (negs xs) ≡ negs (drop_over N xs)
drop_under-neg N [] = refl
drop_under-neg N (A ∷ xs) = drop_under_from-neg N A xs

pub head_of-neg : (xs : List Point) → head_of (negs xs) ≡ neg_p (head_of xs)
head_of-neg [] = refl
head_of-neg (A ∷ xs) = refl

-- ---- the lower chain after the cut: from the line through its new head and N
pub record Dropped (F : Line → Type 0) (Bot : Point → Type 0) (N : Point) (ls : List Point) (s : Line) : Type 0 where
  pub bot : Bot (head_of ls)
  pub before : (head_of ls).t <ℤ N.t
  pub fits : F (through (head_of ls) N)
  pub chain : Chain (λ l. Under F N (negL l)) (λ A. Bot (neg_p A)) (negL (through (head_of ls) N)) (negs ls) (negL s)
