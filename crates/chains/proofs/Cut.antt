-- Laws that rest on those of specs/Cut.antt.
--
--     kept  it is a beginning of a chain for the lines at or below N, to be ended at its last point or at N
--     dropped_under  for the lines at or above N it is a chain from the line through its first point and N
--     dropped  for the lines at or below N it is a lower chain that ends at the line through its first point and N, proved as the mirror image of drop_under
--
-- Assumes nothing.
use Rattle.std.specs.Prelude.{◌≡◌, refl, List, [], ◌∷◌, zero, suc, ℤ, pos, negsuc, neg_ℤ, ◌≤ℤ◌, ◌<ℤ◌}
use Rattle.std.proofs.Common.{sym, ◌∙◌, ap, subst, inl, inr}
use Rattle.integers.specs.OrderLaws.{sub-pos, <ℤ→≤ℤ, ≤ℤ_of_≡}
use Rattle.definitions.specs.Lines.{Line}
use Rattle.definitions.specs.Fit.{SlopeBelow}
use Rattle.chains.specs.Signs.{negsuc<0, pos≥0, suc>0}
use Rattle.chains.specs.Points.{Point, gap, through, turn, through-first, through-second, through_mean, earlier_under, steeper_on, steeper_over, slope-trans}
use Rattle.chains.specs.Mirror.{neg_p, negL, neg_over, neg_below, neg_l_neg_l, neg_p-neg_p, negs, over_image, through-neg}
use Rattle.chains.specs.Extremes.{Laws, mirror-laws}
use Rattle.chains.specs.Chain.{Bend, Chain, last, next, chain_map, first_fits, head_of}
use Rattle.chains.specs.Cut.{all_over, drop_over, drop_under, drop_under-neg, drop_under_from, drop_under_if, Dropped, DroppedUnder, head_of-neg, keep_under, keep_under_after, keep_under_if, Kept, kept_more, new_lt, Over, Under}

module _ {F : Line → Type 0} {Top Bot : Point → Type 0} {T : ℤ} (laws : Laws F Top Bot T) (N : Point) where
  kept_here : {v : Line} {A : Point} {w : Line} → Bend F Top v A w → F w → gap v N <ℤ pos 0 → pos 0 ≤ℤ gap w N → Kept F Top N v (A ∷ [])
  kept_here {v} {A} {w} b fw h k =
      let x = through A N in
      let v-over : pos 0 <ℤ v.d = laws.positive v b.fits in
      let lt : A.t <ℤ N.t = earlier_under v w A N b.before b.after b.turns v-over (laws.positive w fw) h k in
      let x-over : pos 0 <ℤ x.d = sub-pos lt in
      let fx : F x = laws.mean x v w (turn v w) (gap w N) (neg_ℤ (gap v N)) (through_mean v w A N b.before b.after b.turns (<ℤ→≤ℤ h) k) x-over b.fits fw in
      let sx : SlopeBelow v x = steeper_on v x A N b.before (through-first A N) lt x-over h (through-second A N) in
      record {
        end = A;
        is_end = refl;
        top = b.top;
        before = lt;
        fits = fx;
        stop = λ y gy ya le.
            last
            (record {
              fits = (b.fits, <ℤ→≤ℤ h);
              top = inl b.top;
              before = b.before;
              after = ya;
              turns = slope-trans v x y v-over x-over (laws.positive y gy.0) sx le;
            })
            gy;
        push = λ y gy yn st.
            next (record { fits = (b.fits, <ℤ→≤ℤ h); top = inl b.top; before = b.before; after = through-first A N; turns = sx }) lt
            (last
            (record {
              fits = (fx, ≤ℤ_of_≡ (through-second A N));
              top = inr refl;
              before = through-second A N;
              after = yn;
              turns = st;
            })
            gy);
      }

  pub kept : {v : Line} {xs : List Point} {w : Line} → Chain F Top v xs w → gap v N <ℤ pos 0 → pos 0 ≤ℤ gap w N → Kept F Top N v (keep_under N xs)
  kept (last b fw) h k = kept_here b fw h k
  kept (next {v} {A} {B} {xs} b lt c) h k = by (gap (through A B) N) refl (λ j. kept c j k)
    where
      by : (g : ℤ) → gap (through A B) N ≡ g → (gap (through A B) N <ℤ pos 0 → Kept F Top N (through A B) (keep_under N (B ∷ xs)))
          → Kept F Top N v (A ∷ keep_under_if g (B ∷ keep_under_after N B xs))
      by (pos n) e r = kept_here b (first_fits c) h (pos≥0 _ n e)
      by (negsuc n) e r = kept_more laws N b h lt (r (negsuc<0 _ n e))

module _ {F : Line → Type 0} {Top Bot : Point → Type 0} {T : ℤ} (laws : Laws F Top Bot T) (N : Point) (late : T ≤ℤ N.t) where
  -- the corner between v, at or below N, and w, above it
  module _ {v : Line} {A : Point} {w : Line} (b : Bend F Top v A w) (fw : F w) (h : gap v N ≤ℤ pos 0) (k : pos 0 <ℤ gap w N) where
    new_fits : F (through A N)
    new_fits = laws.mean (through A N) v w (turn v w) (gap w N) (neg_ℤ (gap v N)) (through_mean v w A N b.before b.after b.turns h (<ℤ→≤ℤ k)) (sub-pos (new_lt laws N late b fw h k)) b.fits fw

    new_bend : Bend (Over F N) Top (through A N) A w
    new_bend =
        record {
          fits = (new_fits, ≤ℤ_of_≡ (sym (through-second A N)));
          top = b.top;
          before = through-first A N;
          after = b.after;
          turns = steeper_over (through A N) w A N (through-first A N) b.after (new_lt laws N late b fw h k) (sub-pos (new_lt laws N late b fw h k)) (through-second A N) k;
        }

  dropped_under : {v : Line} {xs : List Point} {w : Line} → Chain F Top v xs w → gap v N ≤ℤ pos 0 → pos 0 <ℤ gap w N → DroppedUnder F Top N (drop_under N xs) w
  dropped_under (last {v} {w} {A} b fw) h k =
      record { head = A; is_head = refl; top = b.top; before = new_lt laws N late b fw h k; fits = new_fits b fw h k; chain = last (new_bend b fw h k) (fw, <ℤ→≤ℤ k) }
  dropped_under (next {v} {w} {A} {B} {xs} b lt c) h k = by (gap (through A B) N) refl (λ j. dropped_under c j k)
    where
      by : (g : ℤ) → gap (through A B) N ≡ g → (gap (through A B) N ≤ℤ pos 0 → DroppedUnder F Top N (drop_under N (B ∷ xs)) w)
          → DroppedUnder F Top N (drop_under_if g (A ∷ B ∷ xs) (drop_under_from N B xs)) w
      by (pos zero) e r = r (≤ℤ_of_≡ e)
      by (negsuc n) e r = r (<ℤ→≤ℤ (negsuc<0 _ n e))
      by (pos (suc n)) e r =
          let fm = first_fits c in
          let j = suc>0 _ n e in
          record { head = A; is_head = refl; top = b.top; before = new_lt laws N late b fm h j; fits = new_fits b fm h j; chain = next (new_bend b fm h j) lt (all_over laws N late c (<ℤ→≤ℤ j)) }

dropped-of : {F : Line → Type 0} {Bot : Point → Type 0} (N : Point) (ls : List Point) (s : Line)
    → DroppedUnder (λ l. F (negL l)) (λ A. Bot (neg_p A)) (neg_p N) (negs ls) (negL s)
    → Dropped F Bot N ls s
dropped-of {F} {Bot} N ls s r =
    let e : r.head ≡ neg_p (head_of ls) = sym r.is_head ∙ head_of-neg ls in
    let back : neg_p r.head ≡ head_of ls = ap neg_p e ∙ neg_p-neg_p (head_of ls) in
    let t : through r.head (neg_p N) ≡ negL (through (head_of ls) N) = ap (λ A. through A (neg_p N)) e ∙ sym (through-neg (head_of ls) N) in
    record {
      bot = subst Bot back r.top;
      before = subst (λ A. A.t <ℤ N.t) back r.before;
      fits = subst F (ap negL t ∙ neg_l_neg_l (through (head_of ls) N)) r.fits;
      chain = subst (λ v. Chain (λ l. Under F N (negL l)) (λ A. Bot (neg_p A)) v (negs ls) (negL s)) t (chain_map (λ l f. (f.0, over_image l N f.1)) (λ A b. b) r.chain);
    }

module _ {F : Line → Type 0} {Top Bot : Point → Type 0} {T : ℤ} (laws : Laws F Top Bot T) (N : Point) (late : T ≤ℤ N.t) where
  pub dropped : (xs : List Point) (f s : Line) → Chain (λ l. F (negL l)) (λ A. Bot (neg_p A)) (negL f) (negs xs) (negL s) → pos 0 ≤ℤ gap f N → gap s N <ℤ pos 0
      → Dropped F Bot N (drop_over N xs) s
  dropped xs f s c h k =
      dropped-of N (drop_over N xs) s (subst (λ ys. DroppedUnder (λ l. F (negL l)) (λ A. Bot (neg_p A)) (neg_p N) ys (negL s)) (drop_under-neg N xs) (dropped_under (mirror-laws laws) (neg_p N) late c (neg_over f N h) (neg_below s N k)))
