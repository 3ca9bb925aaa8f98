-- The corners of a polygon with chains, in corner order, and the hull theorem: every line of the fit is a weighted mean of the corners.
--
--     lines_of xs, lines_from A xs   the lines through neighbouring points of a chain
--     corners_of x                  slow, the lines of the upper chain, fast, the lines of the lower chain
--
-- Of a line l of the fit: two neighbours v and w on the side slow – upper chain – fast have l's slope between theirs and touch a point A that l is not above, so their mean with l's slope is at or above l. The mirror image gives one at or below l, and l is a mean of the two: of four corners at most.
-- Further laws stand in proofs/Hull.antt.
-- Assumes nothing.
use Rattle.std.specs.Prelude.{◌≡◌, List, [], ◌∷◌, ◌++◌, ◌⊎◌, ℤ, pos, negsuc, neg_ℤ, ◌+ℤ◌, ◌-ℤ◌, ◌*ℤ◌, ◌≤ℤ◌, ◌<ℤ◌}
use Rattle.std.proofs.Common.{sym, ◌∙◌, ap₂, subst, inl, inr}
use Rattle.integers.specs.OrderLaws.{sub-pos, sub-nonneg, <ℤ→≤ℤ, ≤ℤ_or_<ℤ, ≤ℤ_antisym}
use Rattle.integers.specs.RingSolver.{var, lit, ◌:+◌, ◌:*◌}
use Rattle.integers.specs.Certificates.{hyp, num, eqn, ◌⊞◌, ◌⊠◌}
use Rattle.integers.specs.Quotes.{quotes, ring! }
use Rattle.integers.specs.Solve.{claims, certify! }
use Rattle.integers.specs.Lists.{In, All, All-head, All-tail}
use Rattle.definitions.specs.Lines.{Line}
use Rattle.definitions.specs.Fit.{SlopeBelow}
use Rattle.chains.specs.Points.{Point, gap, Touches, through, turn, SlopeAtMost}
use Rattle.chains.specs.Mirror.{negL}
use Rattle.chains.specs.Extremes.{Laws}
use Rattle.chains.specs.Chain.{Polygon, Chain, last, next}
use Rattle.chains.specs.Weights.{Weights, weighted, one_weight, weighted-one, mix_weights, weighted-mix, WholeMean}

abbrev pub lines_from : Point → List Point → List Line
lines_from A [] = []
lines_from A (B ∷ xs) = through A B ∷ lines_from B xs

abbrev pub lines_of : List Point → List Line
lines_of [] = []
lines_of (A ∷ xs) = lines_from A xs

abbrev pub corners_of : Polygon → List Line
corners_of x = x.slow ∷ (lines_of x.upper ++ (x.fast ∷ lines_of x.lower))

-- ---- two lines of P whose mean has l's slope and is at or above l
pub record Two (P : Line → Type 0) (l : Line) : Type 0 where
  a : Line
  b : Line
  in-a : P a
  in_b : P b
  c : ℤ
  α : ℤ
  β : ℤ
  c_over : pos 0 <ℤ c
  α-over : pos 0 ≤ℤ α
  β-over : pos 0 ≤ℤ β
  on_p : c *ℤ l.p ≡ α *ℤ a.p +ℤ β *ℤ b.p
  on_d : c *ℤ l.d ≡ α *ℤ a.d +ℤ β *ℤ b.d
  on_q : (c *ℤ l.q) ≤ℤ (α *ℤ a.q +ℤ β *ℤ b.q)

-- the numbers of three lines and a point
abbrev numbers : Line → Line → Line → Point → List ℤ
numbers v w l A = v.p ∷ v.q ∷ v.d ∷ w.p ∷ w.q ∷ w.d ∷ l.p ∷ l.q ∷ l.d ∷ A.t ∷ A.u ∷ []

module _ (v w l : Line) (A : Point) where
  two_p : turn v w *ℤ l.p ≡ turn l w *ℤ v.p +ℤ turn v l *ℤ w.p
  two_p = ring! (numbers v w l A) (search quotes depth 40) (search quotes depth 40) tt

  two_d : turn v w *ℤ l.d ≡ turn l w *ℤ v.d +ℤ turn v l *ℤ w.d
  two_d = ring! (numbers v w l A) (search quotes depth 40) (search quotes depth 40) tt

  two_q : Touches v A → Touches w A → SlopeBelow v w → gap l A ≤ℤ pos 0 → (turn v w *ℤ l.q) ≤ℤ (turn l w *ℤ v.q +ℤ turn v l *ℤ w.q)
  two_q =
      certify! (numbers v w l A) (search claims depth 60) (num 1)
      (hyp 2 ⊠ hyp 3 ⊞ eqn 0 (lit (negsuc 0) :* var 3 :* var 8 :+ var 5 :* var 6) ⊞ eqn 1 (var 0 :* var 8 :+ lit (negsuc 0) :* var 2 :* var 6)) tt

two_here : {P : Line → Type 0} (v w l : Line) (A : Point) → P v → P w → Touches v A → Touches w A → SlopeBelow v w → gap l A ≤ℤ pos 0 → SlopeAtMost v l → SlopeAtMost l w
    → Two P l
two_here v w l A pv pw a b s h i j =
    record {
      a = v;
      b = w;
      in-a = pv;
      in_b = pw;
      c = turn v w;
      α = turn l w;
      β = turn v l;
      c_over = sub-pos s;
      α-over = sub-nonneg j;
      β-over = sub-nonneg i;
      on_p = two_p v w l A;
      on_d = two_d v w l A;
      on_q = two_q v w l A a b s h;
    }

module _ {F : Line → Type 0} {Top Bot : Point → Type 0} {T : ℤ} (laws : Laws F Top Bot T) (P : Line → Type 0) (l : Line) (fl : F l) where
  pub two : {v : Line} {xs : List Point} {w : Line} → Chain F Top v xs w → P v → All P (lines_of xs) → P w → SlopeAtMost v l → SlopeAtMost l w → Two P l
  two (last {v} {w} {A} b fw) pv ps pw i j = two_here v w l A pv pw b.before b.after b.turns (laws.under l A b.top fl) i j
  two (next {v} {w} {A} {B} b lt c) pv ps pw i j =
      by (≤ℤ_or_<ℤ (l.p *ℤ (through A B).d) ((through A B).p *ℤ l.d)) (λ k. two c (All-head ps) (All-tail ps) pw k j)
    where
      by : SlopeAtMost l (through A B) ⊎ SlopeBelow (through A B) l → (SlopeAtMost (through A B) l → Two P l) → Two P l
      by (inl k) r = two_here v (through A B) l A pv (All-head ps) b.before b.after b.turns (laws.under l A b.top fl) i k
      by (inr k) r = r (<ℤ→≤ℤ k)

-- ---- a mean of ls that has l's slope and is at or above l; at or below it
pub record Above (ls : List Line) (l : Line) : Type 0 where
  weights : Weights ls
  c : ℤ
  c_over : pos 0 <ℤ c
  on_p : c *ℤ l.p ≡ weighted (λ m. m.p) weights
  on_d : c *ℤ l.d ≡ weighted (λ m. m.d) weights
  on_q : (c *ℤ l.q) ≤ℤ weighted (λ m. m.q) weights

pub record Beneath (ls : List Line) (l : Line) : Type 0 where
  weights : Weights ls
  c : ℤ
  c_over : pos 0 <ℤ c
  on_p : c *ℤ l.p ≡ weighted (λ m. m.p) weights
  on_d : c *ℤ l.d ≡ weighted (λ m. m.d) weights
  on_q : weighted (λ m. m.q) weights ≤ℤ (c *ℤ l.q)

pair_weights : {ls : List Line} {a b : Line} (α β : ℤ) → pos 0 ≤ℤ α → pos 0 ≤ℤ β → In a ls → In b ls → Weights ls
pair_weights α β h k i j = mix_weights α β h k (one_weight i) (one_weight j)

weighted-pair : (f : Line → ℤ) {ls : List Line} {a b : Line} (α β : ℤ) (h : pos 0 ≤ℤ α) (k : pos 0 ≤ℤ β) (i : In a ls) (j : In b ls)
    → weighted f (pair_weights α β h k i j) ≡ α *ℤ f a +ℤ β *ℤ f b
unfolding pair_weights
weighted-pair f α β h k i j = weighted-mix f α β h k (one_weight i) (one_weight j) ∙ ap₂ (λ x y. α *ℤ x +ℤ β *ℤ y) (weighted-one f i) (weighted-one f j)

pub above_of : {ls : List Line} {l : Line} → Two (λ m. In m ls) l → Above ls l
above_of {ls} {l} t =
    record {
      weights = pair_weights t.α t.β t.α-over t.β-over t.in-a t.in_b;
      c = t.c;
      c_over = t.c_over;
      on_p = t.on_p ∙ sym (sum (λ m. m.p));
      on_d = t.on_d ∙ sym (sum (λ m. m.d));
      on_q = subst (λ z. (t.c *ℤ l.q) ≤ℤ z) (sym (sum (λ m. m.q))) t.on_q;
    }
  where
    sum : (f : Line → ℤ) → weighted f (pair_weights t.α t.β t.α-over t.β-over t.in-a t.in_b) ≡ t.α *ℤ f t.a +ℤ t.β *ℤ f t.b
    sum f = weighted-pair f t.α t.β t.α-over t.β-over t.in-a t.in_b

flip-eq : (c l α a β b z : ℤ) → z ≡ α *ℤ neg_ℤ a +ℤ β *ℤ neg_ℤ b → c *ℤ neg_ℤ l ≡ α *ℤ a +ℤ β *ℤ b → c *ℤ l ≡ z
flip-eq c l α a β b z = certify! (c ∷ l ∷ α ∷ a ∷ β ∷ b ∷ z ∷ []) (search claims depth 60) (num 1) (eqn 0 (lit (negsuc 0)) ⊞ eqn 1 (lit (negsuc 0))) tt

flip-le : (c l α a β b z : ℤ) → z ≡ α *ℤ neg_ℤ a +ℤ β *ℤ neg_ℤ b → (c *ℤ neg_ℤ l) ≤ℤ (α *ℤ a +ℤ β *ℤ b) → z ≤ℤ (c *ℤ l)
flip-le c l α a β b z = certify! (c ∷ l ∷ α ∷ a ∷ β ∷ b ∷ z ∷ []) (search claims depth 60) (num 1) (eqn 0 (lit (pos 1)) ⊞ hyp 1) tt

-- from the mirror image
pub beneath-of : {ls : List Line} {l : Line} → Two (λ m. In (negL m) ls) (negL l) → Beneath ls l
beneath-of {ls} {l} t =
    record {
      weights = pair_weights t.α t.β t.α-over t.β-over t.in-a t.in_b;
      c = t.c;
      c_over = t.c_over;
      on_p = flip-eq t.c l.p t.α t.a.p t.β t.b.p _ (sum (λ m. m.p)) t.on_p;
      on_d = t.on_d ∙ sym (sum (λ m. m.d));
      on_q = flip-le t.c l.q t.α t.a.q t.β t.b.q _ (sum (λ m. m.q)) t.on_q;
    }
  where
    sum : (f : Line → ℤ) → weighted f (pair_weights t.α t.β t.α-over t.β-over t.in-a t.in_b) ≡ t.α *ℤ f (negL t.a) +ℤ t.β *ℤ f (negL t.b)
    sum f = weighted-pair f t.α t.β t.α-over t.β-over t.in-a t.in_b

-- ---- one at or above l and one at or below it, on its slope: l is between
between-eq : (s c r e x X Y : ℤ) → c *ℤ x ≡ X → e *ℤ x ≡ Y → (s *ℤ c +ℤ r *ℤ e) *ℤ x ≡ s *ℤ X +ℤ r *ℤ Y
between-eq s c r e x X Y = certify! (s ∷ c ∷ r ∷ e ∷ x ∷ X ∷ Y ∷ []) (search claims depth 60) (num 1) (eqn 0 (var 0) ⊞ eqn 1 (var 2)) tt

between-q : (c q X e Y : ℤ) → ((e *ℤ q -ℤ Y) *ℤ c +ℤ (X -ℤ c *ℤ q) *ℤ e) *ℤ q ≡ (e *ℤ q -ℤ Y) *ℤ X +ℤ (X -ℤ c *ℤ q) *ℤ Y
between-q c q X e Y = ring! (c ∷ q ∷ X ∷ e ∷ Y ∷ []) (search quotes depth 40) (search quotes depth 40) tt

between-over : (s c r e : ℤ) → pos 0 ≤ℤ s → pos 0 <ℤ c → pos 0 <ℤ r → pos 0 <ℤ e → pos 0 <ℤ (s *ℤ c +ℤ r *ℤ e)
between-over s c r e = certify! (s ∷ c ∷ r ∷ e ∷ []) (search claims depth 60) (num 1) (hyp 0 ⊠ hyp 1 ⊞ hyp 2 ⊠ hyp 3) tt

pub combine : {ls : List Line} {l : Line} → Above ls l → Beneath ls l → WholeMean ls l
combine {ls} {l} u v = by (≤ℤ_or_<ℤ X (u.c *ℤ l.q))
  where
    X : ℤ
    X = weighted (λ m. m.q) u.weights

    Y : ℤ
    Y = weighted (λ m. m.q) v.weights

    -- how far l is above the lower one, and the upper one above l
    s : ℤ
    s = v.c *ℤ l.q -ℤ Y

    r : ℤ
    r = X -ℤ u.c *ℤ l.q

    by : (X ≤ℤ (u.c *ℤ l.q)) ⊎ ((u.c *ℤ l.q) <ℤ X) → WholeMean ls l
    by (inl h) = record { weights = u.weights; c = u.c; c_over = u.c_over; on_p = u.on_p; on_q = ≤ℤ_antisym u.on_q h; on_d = u.on_d }
    by (inr h) =
        let r-over : pos 0 <ℤ r = sub-pos h in
        let s-over : pos 0 ≤ℤ s = sub-nonneg v.on_q in
        record {
          weights = mix_weights s r s-over (<ℤ→≤ℤ r-over) u.weights v.weights;
          c = s *ℤ u.c +ℤ r *ℤ v.c;
          c_over = between-over s u.c r v.c s-over u.c_over r-over v.c_over;
          on_p = between-eq s u.c r v.c l.p _ _ u.on_p v.on_p ∙ sym (weighted-mix (λ m. m.p) s r s-over (<ℤ→≤ℤ r-over) u.weights v.weights);
          on_q = between-q u.c l.q X v.c Y ∙ sym (weighted-mix (λ m. m.q) s r s-over (<ℤ→≤ℤ r-over) u.weights v.weights);
          on_d = between-eq s u.c r v.c l.d _ _ u.on_d v.on_d ∙ sym (weighted-mix (λ m. m.d) s r s-over (<ℤ→≤ℤ r-over) u.weights v.weights);
        }
