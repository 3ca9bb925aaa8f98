-- Laws that rest on those of specs/Start.antt.
--
--     started        it is the polygon of their fit, so two ranges always have a line
--
-- Assumes nothing.
use Rattle.std.specs.Prelude.{◌≡◌, refl, List, [], ◌∷◌, ℕ, zero, suc, ◌<◌, ℤ, pos, negsuc, neg_ℤ, ◌-ℤ◌, ◌≤ℤ◌, ◌<ℤ◌}
use Rattle.std.proofs.Common.{sym, ap, subst, inl, inr}
use Rattle.integers.specs.OrderLaws.{sub-pos, ≤ℤ_of_≡, ≤ℤ-<ℤ-⊥, neg-<}
use Rattle.integers.specs.Lists.{cons, nil}
use Rattle.definitions.specs.Ranges.{Range}
use Rattle.definitions.specs.Lines.{Line}
use Rattle.definitions.specs.Fit.{InFit}
use Rattle.chains.specs.Signs.{negsuc<0, suc>0, diff-zero, diff_pos, diff_neg}
use Rattle.chains.specs.Points.{Point, Touches, through, through-first, through-second}
use Rattle.chains.specs.Mirror.{neg_p, negL, neg_p-neg_p, negR, through-neg}
use Rattle.chains.proofs.Mirror.{un-through}
use Rattle.chains.specs.Ends.{H, L, on_value}
use Rattle.chains.specs.Extremes.{TopThenBottom, BottomThenTop, bottom-top}
use Rattle.chains.specs.Chain.{Chain, last, next}
use Rattle.chains.specs.State.{with_chains, one_line}
use Rattle.chains.specs.Run.{TopOf, BotOf, RunState}
use Rattle.chains.specs.Start.{from_high, late, same_intercept_of, same_slope_of, self, slow_fast_first, slow_fast_second, start, start_if, start_with, to_high}

module _ (F : Line → Type 0) (Top : Point → Type 0) (r s : Range) (lt : pos r.time <ℤ pos s.time) where
  chain_both : F (through (H r) (L s)) → F (through (H r) (H s)) → F (through (L r) (H s)) → Top (H r) → Top (H s) → r.low <ℤ r.high → s.low <ℤ s.high
      → Chain F Top (through (H r) (L s)) (H r ∷ H s ∷ []) (through (L r) (H s))
  chain_both f g h a b i j =
      next (record { fits = f; top = a; before = through-first (H r) (L s); after = through-first (H r) (H s); turns = from_high (pos r.time) (pos s.time) r.high r.low s.low s.high lt j }) lt
      (last (record { fits = g; top = b; before = through-second (H r) (H s); after = through-second (L r) (H s); turns = to_high (pos r.time) (pos s.time) r.high r.low s.low s.high lt i }) h)

  -- where r has one value
  chain_first : F (through (H r) (L s)) → F (through (L r) (H s)) → Top (H r) → r.low ≡ r.high → s.low <ℤ s.high
      → Chain F Top (through (H r) (L s)) (H r ∷ []) (through (L r) (H s))
  chain_first f h a e j =
      let m : L r ≡ H r = λ i. record { t = pos r.time; u = e i } in
      last
      (record {
        fits = f;
        top = a;
        before = through-first (H r) (L s);
        after = subst (λ A. Touches (through (L r) (H s)) A) m (through-first (L r) (H s));
        turns = slow_fast_first (pos r.time) (pos s.time) r.high r.low s.low s.high lt (≤ℤ_of_≡ e) j;
      })
      h

  -- where s has one value
  chain_second : F (through (H r) (L s)) → F (through (L r) (H s)) → Top (H s) → r.low <ℤ r.high → s.low ≡ s.high
      → Chain F Top (through (H r) (L s)) (H s ∷ []) (through (L r) (H s))
  chain_second f h a i e =
      let m : L s ≡ H s = λ j. record { t = pos s.time; u = e j } in
      last
      (record {
        fits = f;
        top = a;
        before = subst (λ A. Touches (through (H r) (L s)) A) m (through-second (H r) (L s));
        after = through-second (L r) (H s);
        turns = slow_fast_second (pos r.time) (pos s.time) r.high r.low s.low s.high lt i (≤ℤ_of_≡ e);
      })
      h

module _ (r s : Range) (lt : r.time < s.time) (r-ok : r.low ≤ℤ r.high) (s-ok : s.low ≤ℤ s.high) where
  -- the line through a value of r and a value of s fits both
  fits_two : (u v : ℤ) → r.low ≤ℤ u → u ≤ℤ r.high → s.low ≤ℤ v → v ≤ℤ s.high → InFit (s ∷ r ∷ []) (through (record { t = pos r.time; u = u }) (record { t = pos s.time; u = v }))
  fits_two u v a b c e =
      let A : Point = record { t = pos r.time; u = u } in
      let B : Point = record { t = pos s.time; u = v } in
      record {
        positive = sub-pos (late r s lt r-ok s-ok);
        each = cons (on_value (through A B) s v c e (sub-pos (late r s lt r-ok s-ok)) (through-second A B)) (cons (on_value (through A B) r u a b (sub-pos (late r s lt r-ok s-ok)) (through-first A B)) nil);
      }

  HL : InFit (s ∷ r ∷ []) (through (H r) (L s))
  HL = fits_two r.high s.low r-ok (self r s lt r-ok s-ok) (self r s lt r-ok s-ok) s-ok

  LH : InFit (s ∷ r ∷ []) (through (L r) (H s))
  LH = fits_two r.low s.high (self r s lt r-ok s-ok) r-ok s-ok (self r s lt r-ok s-ok)

  HH : InFit (s ∷ r ∷ []) (through (H r) (H s))
  HH = fits_two r.high s.high r-ok (self r s lt r-ok s-ok) s-ok (self r s lt r-ok s-ok)

  LL : InFit (s ∷ r ∷ []) (through (L r) (L s))
  LL = fits_two r.low s.low (self r s lt r-ok s-ok) r-ok (self r s lt r-ok s-ok) s-ok

  flip : (A B : Point) → InFit (s ∷ r ∷ []) (through A B) → InFit (s ∷ r ∷ []) (negL (through (neg_p A) (neg_p B)))
  flip A B f = subst (InFit (s ∷ r ∷ [])) (sym (un-through A B)) f

  slow_ends : TopThenBottom (TopOf (s ∷ r ∷ [])) (BotOf (s ∷ r ∷ [])) (through (H r) (L s))
  slow_ends = record { first = H r; second = L s; top = inl (inr refl); bot = inr refl; rise = late r s lt r-ok s-ok; on_first = through-first (H r) (L s); on_second = through-second (H r) (L s) }

  fast_ends : BottomThenTop (TopOf (s ∷ r ∷ [])) (BotOf (s ∷ r ∷ [])) (through (L r) (H s))
  fast_ends = bottom-top (TopOf (s ∷ r ∷ [])) (BotOf (s ∷ r ∷ [])) (through (L r) (H s)) (L r) (H s) (inl (inr refl)) (inr refl) (late r s lt r-ok s-ok) (through-first (L r) (H s)) (through-second (L r) (H s))

  -- the mirror image's chain, between the mirror images of fast and slow
  turned : (xs : List Point)
      → Chain (λ l. InFit (s ∷ r ∷ []) (negL l)) (λ A. BotOf (s ∷ r ∷ []) (neg_p A)) (through (neg_p (L r)) (neg_p (H s))) xs (through (neg_p (H r)) (neg_p (L s)))
      → Chain (λ l. InFit (s ∷ r ∷ []) (negL l)) (λ A. BotOf (s ∷ r ∷ []) (neg_p A)) (negL (through (L r) (H s))) xs (negL (through (H r) (L s)))
  turned xs c =
      subst (λ v. Chain (λ l. InFit (s ∷ r ∷ []) (negL l)) (λ A. BotOf (s ∷ r ∷ []) (neg_p A)) v xs (negL (through (H r) (L s)))) (sym (through-neg (L r) (H s)))
      (subst (λ w. Chain (λ l. InFit (s ∷ r ∷ []) (negL l)) (λ A. BotOf (s ∷ r ∷ []) (neg_p A)) (through (neg_p (L r)) (neg_p (H s))) xs w) (sym (through-neg (H r) (L s))) c)

  start_both : r.low <ℤ r.high → s.low <ℤ s.high → RunState (s ∷ r ∷ []) (start_with (H r ∷ H s ∷ []) (L r ∷ L s ∷ []) r s)
  start_both i j =
      with_chains
      (record {
        slow_ends = slow_ends;
        fast_ends = fast_ends;
        up = chain_both (InFit (s ∷ r ∷ [])) (TopOf (s ∷ r ∷ [])) r s (late r s lt r-ok s-ok) HL HH LH (inl (inr refl)) (inr refl) i j;
        down =
            turned (neg_p (L r) ∷ neg_p (L s) ∷ [])
            (chain_both (λ l. InFit (s ∷ r ∷ []) (negL l)) (λ A. BotOf (s ∷ r ∷ []) (neg_p A)) (negR r) (negR s) (late r s lt r-ok s-ok) (flip (L r) (H s) LH) (flip (L r) (L s) LL) (flip (H r) (L s) HL) (inl (inr (neg_p-neg_p (L r)))) (inr (neg_p-neg_p (L s))) (neg-< i) (neg-< j));
      })

  start_first : r.low ≡ r.high → s.low <ℤ s.high → RunState (s ∷ r ∷ []) (start_with (H r ∷ []) (L r ∷ []) r s)
  start_first e j =
      with_chains
      (record {
        slow_ends = slow_ends;
        fast_ends = fast_ends;
        up = chain_first (InFit (s ∷ r ∷ [])) (TopOf (s ∷ r ∷ [])) r s (late r s lt r-ok s-ok) HL LH (inl (inr refl)) e j;
        down =
            turned (neg_p (L r) ∷ [])
            (chain_first (λ l. InFit (s ∷ r ∷ []) (negL l)) (λ A. BotOf (s ∷ r ∷ []) (neg_p A)) (negR r) (negR s) (late r s lt r-ok s-ok) (flip (L r) (H s) LH) (flip (H r) (L s) HL) (inl (inr (neg_p-neg_p (L r)))) (ap neg_ℤ (sym e)) (neg-< j));
      })

  start_second : r.low <ℤ r.high → s.low ≡ s.high → RunState (s ∷ r ∷ []) (start_with (H s ∷ []) (L s ∷ []) r s)
  start_second i e =
      with_chains
      (record {
        slow_ends = slow_ends;
        fast_ends = fast_ends;
        up = chain_second (InFit (s ∷ r ∷ [])) (TopOf (s ∷ r ∷ [])) r s (late r s lt r-ok s-ok) HL LH (inr refl) i e;
        down =
            turned (neg_p (L s) ∷ [])
            (chain_second (λ l. InFit (s ∷ r ∷ []) (negL l)) (λ A. BotOf (s ∷ r ∷ []) (neg_p A)) (negR r) (negR s) (late r s lt r-ok s-ok) (flip (L r) (H s) LH) (flip (H r) (L s) HL) (inr (neg_p-neg_p (L s))) (neg-< i) (ap neg_ℤ (sym e)));
      })

  start_single : (us ls : List Point) → r.low ≡ r.high → s.low ≡ s.high → RunState (s ∷ r ∷ []) (start_with us ls r s)
  start_single us ls e k =
      one_line
      (record {
        slow_fits = HL;
        fast_fits = LH;
        slow_ends = slow_ends;
        fast_ends = fast_ends;
        same =
            record {
              slope = same_slope_of r.low r.high s.low s.high (pos s.time -ℤ pos r.time) e k;
              intercept = same_intercept_of r.low r.high s.low s.high (pos r.time) (pos s.time) (pos s.time -ℤ pos r.time) e k;
            };
      })

  pub started : RunState (s ∷ r ∷ []) (start r s)
  started = by (r.high -ℤ r.low) (s.high -ℤ s.low) refl refl
    where
      no : (w : Range) (n : ℕ) → w.low ≤ℤ w.high → w.high -ℤ w.low ≡ negsuc n → ⊥
      no w n ok e = ≤ℤ-<ℤ-⊥ ok (diff_neg w.high w.low (negsuc<0 _ n e))

      by : (g h : ℤ) → r.high -ℤ r.low ≡ g → s.high -ℤ s.low ≡ h → RunState (s ∷ r ∷ []) (start_if g h r s)
      by (negsuc n) h e f = absurd (no r n r-ok e)
      by (pos zero) (pos zero) e f = start_single _ _ (diff-zero _ _ e) (diff-zero _ _ f)
      by (pos zero) (pos (suc m)) e f = start_first (diff-zero _ _ e) (diff_pos _ _ (suc>0 _ m f))
      by (pos zero) (negsuc m) e f = absurd (no s m s-ok f)
      by (pos (suc n)) (pos zero) e f = start_second (diff_pos _ _ (suc>0 _ n e)) (diff-zero _ _ f)
      by (pos (suc n)) (pos (suc m)) e f = start_both (diff_pos _ _ (suc>0 _ n e)) (diff_pos _ _ (suc>0 _ m f))
      by (pos (suc n)) (negsuc m) e f = absurd (no s m s-ok f)
