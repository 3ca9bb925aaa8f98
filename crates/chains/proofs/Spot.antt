-- Laws that rest on those of specs/Spot.antt.
--
--     spot_state                it keeps the state
--
-- Assumes nothing.
use Rattle.std.specs.Prelude.{◌≡◌, refl, ◌⊎◌, zero, suc, ℤ, pos, negsuc, ◌*ℤ◌, ◌≤ℤ◌, ◌<ℤ◌}
use Rattle.std.proofs.Common.{sym, subst, inl, inr}
use Rattle.integers.specs.OrderLaws.{<ℤ→≤ℤ, ≤ℤ_or_<ℤ, ≤ℤ_antisym, ≤ℤ-<ℤ-⊥}
use Rattle.definitions.specs.Lines.{Line}
use Rattle.definitions.specs.Fit.{SlopeBelow}
use Rattle.chains.specs.Signs.{negsuc<0, pos≥0, suc>0}
use Rattle.chains.specs.Points.{Point, gap, Touches, through, SlopeAtMost, through-first, through-second, through-steeper, same_touching, same_refl}
use Rattle.chains.specs.Mirror.{neg_touches, neg_l_neg_l, neg_p-neg_p, neg_slope<}
use Rattle.chains.specs.Extremes.{Laws, TopThenBottom, BottomThenTop, bottom-top}
use Rattle.chains.specs.Chain.{last, ends-map, head_of, last_of, Polygon, Chains}
use Rattle.chains.specs.Cut.{With, keep_under, Kept, drop_over, Dropped}
use Rattle.chains.proofs.Cut.{kept, dropped}
use Rattle.chains.specs.State.{alone, State, with_chains, one_line, state-slow, state-fast, state_slow_ends, state_fast_ends, same-under}
use Rattle.chains.specs.Spot.{Anchor, ends_then-bottom, ends_then_top, On, spot, spot_cut, spot_fast, spot_slow}

module _ {F : Line → Type 0} {Top Bot : Point → Type 0} {T : ℤ} (laws : Laws F Top Bot T) (N : Point) (late : T ≤ℤ N.t) where
  spot_of : (x : Polygon) → Anchor F Top N (last_of (keep_under N x.upper)) → Anchor F Bot N (head_of (drop_over N x.lower))
      → State (On F N) (With Top N) (With Bot N) (spot_cut N x)
  spot_of x a b = by (≤ℤ_or_<ℤ (y.p *ℤ v.d) (v.p *ℤ y.d))
    where
      A : Point
      A = last_of (keep_under N x.upper)

      B : Point
      B = head_of (drop_over N x.lower)

      v : Line
      v = through A N

      y : Line
      y = through B N

      on_v : On F N v
      on_v = (a.fits, through-second A N)

      on_y : On F N y
      on_y = (b.fits, through-second B N)

      le : SlopeAtMost v y
      le = through-steeper v B N (laws.over v B b.is a.fits) (through-second A N)

      slow_ends : TopThenBottom (With Top N) (With Bot N) v
      slow_ends = record { first = A; second = N; top = inl a.is; bot = inr refl; rise = a.before; on_first = through-first A N; on_second = through-second A N }

      fast_ends : BottomThenTop (With Top N) (With Bot N) y
      fast_ends = bottom-top (With Top N) (With Bot N) y B N (inl b.is) (inr refl) b.before (through-first B N) (through-second B N)

      by : SlopeAtMost y v ⊎ SlopeBelow v y → State (On F N) (With Top N) (With Bot N) (spot_cut N x)
      by (inl h) =
          one_line (record { slow_fits = on_v; fast_fits = on_y; slow_ends = slow_ends; fast_ends = fast_ends; same = same_touching v y N N (≤ℤ_antisym le h) (through-second A N) (through-second B N) })
      by (inr h) =
          with_chains
          (record {
            slow_ends = slow_ends;
            fast_ends = fast_ends;
            up = last (record { fits = on_v; top = inr refl; before = through-second A N; after = through-second B N; turns = h }) on_y;
            down =
                last
                (record {
                  fits = subst (On F N) (sym (neg_l_neg_l y)) on_y;
                  top = inr (neg_p-neg_p N);
                  before = neg_touches y N (through-second B N);
                  after = neg_touches v N (through-second A N);
                  turns = neg_slope< v y h;
                })
                (subst (On F N) (sym (neg_l_neg_l v)) on_v);
          })

  spot_chains : (x : Polygon) → Chains F Top Bot x → gap x.slow N <ℤ pos 0 → pos 0 <ℤ gap x.fast N → State (On F N) (With Top N) (With Bot N) (spot_cut N x)
  spot_chains x c h k =
      let K : Kept F Top N x.slow (keep_under N x.upper) = kept laws N c.up h (<ℤ→≤ℤ k) in
      let D : Dropped F Bot N (drop_over N x.lower) x.slow = dropped laws N late x.lower x.fast x.slow c.down (<ℤ→≤ℤ k) h in
      spot_of x (subst (Anchor F Top N) (sym K.is_end) (record { is = K.top; before = K.before; fits = K.fits })) (record { is = D.bot; before = D.before; fits = D.fits })

module _ {F : Line → Type 0} {Top Bot : Point → Type 0} {T : ℤ} (laws : Laws F Top Bot T) (N : Point) (late : T <ℤ N.t) where
  pub spot_state : (x : Polygon) → State F Top Bot x → gap x.slow N ≤ℤ pos 0 → pos 0 ≤ℤ gap x.fast N → State (On F N) (With Top N) (With Bot N) (spot N x)
  spot_state x z h k = by (gap x.slow N) refl
    where
      fs : F x.slow
      fs = state-slow x z

      ff : F x.fast
      ff = state-fast x z

      se : TopThenBottom Top Bot x.slow
      se = state_slow_ends x z

      fe : BottomThenTop Top Bot x.fast
      fe = state_fast_ends x z

      slow_only : Touches x.slow N → State (On F N) (With Top N) (With Bot N) (alone x.slow x)
      slow_only e =
          one_line
          (record {
            slow_fits = (fs, e);
            fast_fits = (fs, e);
            slow_ends = ends-map (λ A a. inl a) (λ A a. inl a) se;
            fast_ends = ends-map (λ A a. inl a) (λ A a. a) (ends_then_top laws N late x.slow e se);
            same = same_refl x.slow;
          })

      fast_only : Touches x.fast N → State (On F N) (With Top N) (With Bot N) (alone x.fast x)
      fast_only e =
          one_line
          (record {
            slow_fits = (ff, e);
            fast_fits = (ff, e);
            slow_ends = ends-map (λ A a. inl a) (λ A a. a) (ends_then-bottom laws N late x.fast e fe);
            fast_ends = ends-map (λ A a. inl a) (λ A a. inl a) fe;
            same = same_refl x.fast;
          })

      mid : State F Top Bot x → gap x.slow N <ℤ pos 0 → pos 0 <ℤ gap x.fast N → State (On F N) (With Top N) (With Bot N) (spot_cut N x)
      mid (with_chains c) i j = spot_chains laws N (<ℤ→≤ℤ late) x c i j
      mid (one_line o) i j = absurd (same-under x.slow x.fast N (laws.positive _ fs) (laws.positive _ ff) o.same.slope o.same.intercept (<ℤ→≤ℤ i) j)

      inner : gap x.slow N <ℤ pos 0 → (g : ℤ) → gap x.fast N ≡ g → State (On F N) (With Top N) (With Bot N) (spot_fast keep_under g N x)
      inner i (pos zero) e = fast_only e
      inner i (pos (suc n)) e = mid z i (suc>0 _ n e)
      inner i (negsuc n) e = absurd (≤ℤ-<ℤ-⊥ k (negsuc<0 _ n e))

      by : (g : ℤ) → gap x.slow N ≡ g → State (On F N) (With Top N) (With Bot N) (spot_slow keep_under g N x)
      by (pos n) e = slow_only (≤ℤ_antisym h (pos≥0 _ n e))
      by (negsuc n) e = inner (negsuc<0 _ n e) (gap x.fast N) refl
