-- A line is a corner of a polygon with chains exactly when it is one of the listed lines.
--
--     CornerOf F l               a line of F that is not strictly between two other lines of it: where it is a mean of two lines of F with weights above 0, the first is l (and so the second)
--     corner_map                 the same set by another name
--     Pinned F Top Bot l         a line of F that touches two ends, each a point of Top or of Bot, at two times
--     pinned_corner              a pinned line is a corner: where it is a mean of two others, both touch both ends
--     ends_pinned   slow is pinned; every listed line is
--     Listed ls l                l is one of ls, up to a common factor of p, q and d
--
-- Further laws stand in proofs/CornersOfChains.antt.
-- Assumes nothing.
use Rattle.std.specs.Prelude.{◌≡◌, refl, List, [], ◌∷◌, ◌⊎◌, ℤ, pos, negsuc, ◌+ℤ◌, ◌*ℤ◌, ◌≤ℤ◌, ◌<ℤ◌}
use Rattle.std.proofs.Common.{subst, inl, inr}
use Rattle.integers.specs.Parts.{ints}
use Rattle.integers.specs.OrderLaws.{<ℤ→≤ℤ, ≤ℤ_or_<ℤ, ≤ℤ_antisym}
use Rattle.integers.specs.RingSolver.{var, lit, ◌:*◌}
use Rattle.integers.specs.Certificates.{hyp, num, eqn, ◌⊞◌, ◌⊠◌}
use Rattle.integers.specs.Quotes.{quotes, ring! }
use Rattle.integers.specs.Solve.{claims, certify! }
use Rattle.integers.specs.Lists.{All, All-head, All-tail, Any, Any_here, Any_there}
use Rattle.definitions.specs.Lines.{Line}
use Rattle.definitions.specs.Fit.{SameLine}
use Rattle.chains.specs.Points.{Point, gap, Touches, Mean, same_line, gap_mean}
use Rattle.chains.specs.Mirror.{neg_p, negL, neg_l_neg_l, image_touches}
use Rattle.chains.specs.Extremes.{Laws, TopThenBottom}
use Rattle.chains.specs.Weights.{Weights, none, more, weighted}

pub record CornerOf (F : Line → Type 0) (l : Line) : Type 0 where
  pub fits : F l
  pub sharp : (a b : Line) (c α β : ℤ) → F a → F b → Mean l c a α b β → pos 0 <ℤ α → pos 0 <ℤ β → SameLine a l

-- of the same set
pub corner_map : {F G : Line → Type 0} {l : Line} → ((k : Line) → F k → G k) → ((k : Line) → G k → F k) → CornerOf F l → CornerOf G l
corner_map f g z = record { fits = f _ z.fits; sharp = λ a b c α β ga gb m h k. z.sharp a b c α β (g a ga) (g b gb) m h k }

-- ---- a line of F that touches two ends at two times is a corner
pub record Pinned (F : Line → Type 0) (Top Bot : Point → Type 0) (l : Line) : Type 0 where
  pub fits : F l
  pub first : Point
  pub second : Point
  pub rise : first.t <ℤ second.t
  pub first_end : Top first ⊎ Bot first
  pub second_end : Top second ⊎ Bot second
  pub on_first : Touches l first
  pub on_second : Touches l second

zero-up : (c α x β y g : ℤ) → pos 0 <ℤ α → pos 0 <ℤ β → c *ℤ g ≡ α *ℤ x +ℤ β *ℤ y → g ≡ pos 0 → x ≤ℤ pos 0 → y ≤ℤ pos 0 → pos 0 ≤ℤ x
zero-up c α x β y g = certify! (c ∷ α ∷ x ∷ β ∷ y ∷ g ∷ []) (search claims depth 60) (hyp 0) (hyp 1 ⊠ hyp 5 ⊞ eqn 2 (lit (pos 1)) ⊞ eqn 3 (lit (negsuc 0) :* var 0)) tt

zero-down : (c α x β y g : ℤ) → pos 0 <ℤ α → pos 0 <ℤ β → c *ℤ g ≡ α *ℤ x +ℤ β *ℤ y → g ≡ pos 0 → pos 0 ≤ℤ x → pos 0 ≤ℤ y → x ≤ℤ pos 0
zero-down c α x β y g = certify! (c ∷ α ∷ x ∷ β ∷ y ∷ g ∷ []) (search claims depth 60) (hyp 0) (hyp 1 ⊠ hyp 5 ⊞ eqn 2 (lit (negsuc 0)) ⊞ eqn 3 (var 0)) tt

module _ {F : Line → Type 0} {Top Bot : Point → Type 0} {T : ℤ} (laws : Laws F Top Bot T) where
  -- a mean touches an end, and its two lines are on one side of it: they touch it
  both_touch : (l a b : Line) (c α β : ℤ) (A : Point) → Top A ⊎ Bot A → F a → F b → Mean l c a α b β → pos 0 <ℤ α → pos 0 <ℤ β → Touches l A → Touches a A
  both_touch l a b c α β A (inl e) fa fb m h k t =
      let a-under = laws.under a A e fa in
      ≤ℤ_antisym a-under (zero-up c α (gap a A) β (gap b A) (gap l A) h k (gap_mean l a b c α β A m) t a-under (laws.under b A e fb))
  both_touch l a b c α β A (inr e) fa fb m h k t =
      let a_over = laws.over a A e fa in
      ≤ℤ_antisym (zero-down c α (gap a A) β (gap b A) (gap l A) h k (gap_mean l a b c α β A m) t a_over (laws.over b A e fb)) a_over

  pub pinned_corner : {l : Line} → Pinned F Top Bot l → CornerOf F l
  pinned_corner {l} z =
      record {
        fits = z.fits;
        sharp = λ a b c α β fa fb m h k.
            same_line a l z.first z.second z.rise (both_touch l a b c α β z.first z.first_end fa fb m h k z.on_first) (both_touch l a b c α β z.second z.second_end fa fb m h k z.on_second) z.on_first z.on_second;
      }

-- ---- each listed line is pinned
swap : {X Y : Type 0} → X ⊎ Y → Y ⊎ X
swap (inl x) = inr x
swap (inr y) = inl y

module _ {F : Line → Type 0} {Top Bot : Point → Type 0} where
  pub ends_pinned : (l : Line) → F l → TopThenBottom Top Bot l → Pinned F Top Bot l
  ends_pinned l f e =
      record {
        fits = f;
        first = e.first;
        second = e.second;
        rise = e.rise;
        first_end = inl e.top;
        second_end = inr e.bot;
        on_first = e.on_first;
        on_second = e.on_second;
      }

-- the mirror image of a pinned line, and so the lower side
module _ {F : Line → Type 0} {Top Bot : Point → Type 0} where
  pub pinned_mirror : (l : Line) → Pinned (λ l. F (negL l)) (λ A. Bot (neg_p A)) (λ A. Top (neg_p A)) (negL l) → Pinned F Top Bot l
  pinned_mirror l z =
      record {
        fits = subst F (neg_l_neg_l l) z.fits;
        first = neg_p z.first;
        second = neg_p z.second;
        rise = z.rise;
        first_end = swap z.first_end;
        second_end = swap z.second_end;
        on_first = image_touches l z.first z.on_first;
        on_second = image_touches l z.second z.on_second;
      }

-- ---- a corner that is a mean of lines of the fit is one of them
abbrev sum_line : {ls : List Line} → Weights ls → Line
sum_line ws = record { p = weighted (λ m. m.p) ws; q = weighted (λ m. m.q) ws; d = weighted (λ m. m.d) ws }

-- all weights are 0
record Nothing {ls : List Line} (ws : Weights ls) : Type 0 where
  no_p : weighted (λ m. m.p) ws ≡ pos 0
  no_q : weighted (λ m. m.q) ws ≡ pos 0
  no_d : weighted (λ m. m.d) ws ≡ pos 0

one-over : pos 0 <ℤ pos 1
one-over = omega ints

one-sum : (w x t : ℤ) → pos 1 *ℤ (w *ℤ x +ℤ t) ≡ w *ℤ x +ℤ pos 1 *ℤ t
one-sum w x t = ring! (w ∷ x ∷ t ∷ []) (search quotes depth 40) (search quotes depth 40) tt

one-term : (w x t : ℤ) → t ≡ pos 0 → pos 1 *ℤ (w *ℤ x +ℤ t) ≡ w *ℤ x +ℤ pos 0 *ℤ x
one-term w x t = certify! (w ∷ x ∷ t ∷ []) (search claims depth 40) (num 1) (eqn 0 (lit (pos 1))) tt

sum_over : (w x t : ℤ) → pos 0 ≤ℤ w → pos 0 <ℤ x → pos 0 <ℤ t → pos 0 <ℤ (w *ℤ x +ℤ t)
sum_over w x t = certify! (w ∷ x ∷ t ∷ []) (search claims depth 40) (num 1) (hyp 0 ⊠ hyp 1 ⊞ hyp 2) tt

term-over : (w x t : ℤ) → pos 0 <ℤ w → pos 0 <ℤ x → t ≡ pos 0 → pos 0 <ℤ (w *ℤ x +ℤ t)
term-over w x t = certify! (w ∷ x ∷ t ∷ []) (search claims depth 40) (num 1) (hyp 0 ⊠ hyp 1 ⊞ eqn 2 (lit (negsuc 0))) tt

no-term : (w x t : ℤ) → w ≡ pos 0 → t ≡ pos 0 → w *ℤ x +ℤ t ≡ pos 0
no-term w x t = certify! (w ∷ x ∷ t ∷ []) (search claims depth 40) (num 1) (eqn 0 (var 1) ⊞ eqn 1 (lit (pos 1))) tt

module _ {F : Line → Type 0} {Top Bot : Point → Type 0} {T : ℤ} (laws : Laws F Top Bot T) where
  -- a weighted sum of lines of F is nothing, or a line of F
  gather : {ls : List Line} (ws : Weights ls) → All F ls → Nothing ws ⊎ F (sum_line ws)
  gather none fs = inl (record { no_p = refl; no_q = refl; no_d = refl })
  gather (more {l} {ls} w h ws) fs = by (gather ws (All-tail fs)) (≤ℤ_or_<ℤ w (pos 0))
    where
      fl : F l
      fl = All-head fs

      by : Nothing ws ⊎ F (sum_line ws) → (w ≤ℤ pos 0) ⊎ (pos 0 <ℤ w) → Nothing (more {l = l} w h ws) ⊎ F (sum_line (more {l = l} w h ws))
      by (inl n) (inl k) =
          let e : w ≡ pos 0 = ≤ℤ_antisym k h in
          inl (record { no_p = no-term w l.p _ e n.no_p; no_q = no-term w l.q _ e n.no_q; no_d = no-term w l.d _ e n.no_d })
      by (inl n) (inr k) =
          inr
          (laws.mean (sum_line (more {l = l} w h ws)) l l (pos 1) w (pos 0)
          (record {
            c_over = one-over;
            α-over = h;
            β-over = omega ints;
            on_p = one-term w l.p _ n.no_p;
            on_q = one-term w l.q _ n.no_q;
            on_d = one-term w l.d _ n.no_d;
          })
          (term-over w l.d _ k (laws.positive l fl) n.no_d) fl fl)
      by (inr r) k =
          inr
          (laws.mean (sum_line (more {l = l} w h ws)) l (sum_line ws) (pos 1) w (pos 1)
          (record { c_over = one-over; α-over = h; β-over = <ℤ→≤ℤ one-over; on_p = one-sum w l.p _; on_q = one-sum w l.q _; on_d = one-sum w l.d _ })
          (sum_over w l.d _ h (laws.positive l fl) (laws.positive _ r)) fl r)

no-product : (c d : ℤ) → pos 0 <ℤ c → pos 0 <ℤ d → c *ℤ d ≡ pos 0 → ⊥
no-product c d = certify! (c ∷ d ∷ []) (search claims depth 40) (num 1) (hyp 0 ⊠ hyp 1 ⊞ eqn 2 (lit (pos 1))) tt

skip-term : (c l w x t : ℤ) → w ≡ pos 0 → c *ℤ l ≡ w *ℤ x +ℤ t → c *ℤ l ≡ t
skip-term c l w x t = certify! (c ∷ l ∷ w ∷ x ∷ t ∷ []) (search claims depth 40) (num 1) (eqn 0 (var 3) ⊞ eqn 1 (lit (pos 1))) tt

proportional : (c w l d x y s t : ℤ) → pos 0 <ℤ c → s ≡ pos 0 → t ≡ pos 0 → c *ℤ l ≡ w *ℤ x +ℤ s → c *ℤ d ≡ w *ℤ y +ℤ t → x *ℤ d ≡ l *ℤ y
proportional c w l d x y s t =
    certify! (c ∷ w ∷ l ∷ d ∷ x ∷ y ∷ s ∷ t ∷ []) (search claims depth 40) (hyp 0) (eqn 1 (lit (negsuc 0) :* var 5) ⊞ eqn 2 (var 4) ⊞ eqn 3 (lit (negsuc 0) :* var 5) ⊞ eqn 4 (var 4)) tt

with-one : (c l w x t : ℤ) → c *ℤ l ≡ w *ℤ x +ℤ t → c *ℤ l ≡ w *ℤ x +ℤ pos 1 *ℤ t
with-one c l w x t = certify! (c ∷ l ∷ w ∷ x ∷ t ∷ []) (search claims depth 40) (num 1) (eqn 0 (lit (pos 1))) tt

abbrev pub Listed : List Line → Line → Type 0
Listed ls l = Any (λ m. SameLine m l) ls

module _ {F : Line → Type 0} {Top Bot : Point → Type 0} {T : ℤ} (laws : Laws F Top Bot T) (l : Line) (k : CornerOf F l) (c : ℤ) (c_over : pos 0 <ℤ c) where
  pub find : {ls : List Line} (ws : Weights ls) → All F ls → c *ℤ l.p ≡ weighted (λ m. m.p) ws → c *ℤ l.q ≡ weighted (λ m. m.q) ws → c *ℤ l.d ≡ weighted (λ m. m.d) ws
      → Listed ls l
  find none fs p q d = absurd (no-product c l.d c_over (laws.positive l k.fits) d)
  find (more {l = x} {ls} w h ws) fs p q d = by (≤ℤ_or_<ℤ w (pos 0)) (gather laws ws (All-tail fs)) (find ws (All-tail fs))
    where
      by : (w ≤ℤ pos 0) ⊎ (pos 0 <ℤ w) → Nothing ws ⊎ F (sum_line ws)
          → (c *ℤ l.p ≡ weighted (λ m. m.p) ws → c *ℤ l.q ≡ weighted (λ m. m.q) ws → c *ℤ l.d ≡ weighted (λ m. m.d) ws → Listed ls l) → Listed (x ∷ ls) l
      by (inl n) r later =
          let e : w ≡ pos 0 = ≤ℤ_antisym n h in
          Any_there (later (skip-term c l.p w x.p _ e p) (skip-term c l.q w x.q _ e q) (skip-term c l.d w x.d _ e d))
      by (inr n) (inl z) later =
          Any_here
          (record {
            slope = proportional c w l.p l.d x.p x.d _ _ c_over z.no_p z.no_d p d;
            intercept = proportional c w l.q l.d x.q x.d _ _ c_over z.no_q z.no_d q d;
          })
      by (inr n) (inr r) later =
          Any_here
          (k.sharp x (sum_line ws) c w (pos 1) (All-head fs) r
          (record {
            c_over = c_over;
            α-over = h;
            β-over = <ℤ→≤ℤ one-over;
            on_p = with-one c l.p w x.p _ p;
            on_q = with-one c l.q w x.q _ q;
            on_d = with-one c l.d w x.d _ d;
          })
          n one-over)
