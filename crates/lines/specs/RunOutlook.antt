-- The outlook of a run of two or more ranges, by the polygon's two lines: what a program has to compute, and what it means. For a direction that is the number 0 or 1 and a step above 0; the falling case is the rising one of the mirror image.
--
--     leading, trailing          of the slow and the fast line, the one that decides *some* and the other, that decides *all*: rising, the fast one leads; falling, the slow one
--     FirstLast, first_last      the first and the last of the fitting lines are the polygon's slow and fast line
--     OutlookMeans   the slow line has the least slope of the whole fit and the fast line the greatest; *some* and *all* are the least multiples of the step that the scope asks for, over all lines of the fit, and each is the time of one line
--     every-second               with a step of 1 the times are the least of all times
--     LinesOf   the same of a run of two ranges or more, however it is given
--
-- Further laws stand in proofs/RunOutlook.antt.
-- Assumes nothing.
use Rattle.std.specs.Prelude.{◌≡◌, ℕ, zero, suc, ◌≤◌, T}
use Rattle.std.proofs.Math.Path.{refl, subst, ap₂}
use Rattle.std.proofs.Common.{sym, ◌∙◌, inl, inr, arith}
use mathlib.Core.List.{List, [], ◌∷◌, get_last_d}
use Rattle.integers.specs.OrderLaws.{<ℤ→≤ℤ, ≤ℤ_of_≡}
use Rattle.integers.specs.Lists.{All, cons, Any, In, here, in_last, not-in-nil, All_in, All_imp}
use Rattle.integers.specs.Least.{IsLeast}
use Rattle.integers.specs.Multiples.{LeastMultiple, every-number}
use Rattle.integers.specs.Sorting.{Rising, rising_head, rising-last}
use Rattle.definitions.specs.Services.{Direction, rising, falling, direction_of, Service}
use Rattle.definitions.specs.Spans.{most_time, most_direction}
use Rattle.definitions.specs.Times.{Time}
use Rattle.definitions.specs.Ranges.{Range}
use Rattle.definitions.specs.Lines.{Line}
use Rattle.definitions.specs.Corners.{reduced, before, fitting}
use Rattle.definitions.specs.Fit.{InFit, HasLine, Ordered, SameLine, SomeReached, AllReached}
use Rattle.definitions.specs.Outlook.{some_time, all_time, Outlook, open_strip, lines, end_time, outlook, outlook_of}
use Rattle.definitions.specs.Mirrors.{mirrored_line, opposite}
use Rattle.chains.specs.Points.{SlopeAtMost}
use Rattle.chains.specs.Mirror.{neg_l_neg_l}
use Rattle.chains.specs.Results.{slow, fast, corner_list, slow_listed}
use Rattle.chains.proofs.Results.{slow_fits, fast_fits, slow_only, fast_only, fast_listed, corners_fit, corners_candidates}
use Rattle.lines.specs.LineOrder.{Proper, same_refl, same-sym, same-trans, reduced_same, reduced-alike, reduced-is, Restates, reduced_restates, restates_refl, restates_sym, slope-same, order-≤, before_means, Precedes, by_slope_is, by_intercept}
use Rattle.lines.specs.FittingLines.{in_fitting, fitting_rising, fitting_proper, fitting_fit}
use Rattle.lines.specs.OutlookTimes.{Listed, reach_time}

abbrev pub leading : Direction → Line → Line → Line
leading rising slow fast = fast
leading falling slow fast = slow

abbrev pub trailing : Direction → Line → Line → Line
trailing e slow fast = leading e fast slow

pub record OutlookMeans (v : Service) (rs : List Range) (from : ℕ) (k l : Line) (some all : Time) : Type 0 where
  pub slow_proper : Proper k
  pub slow_fit : InFit rs k
  pub slow_least : (m : Line) → InFit rs m → SlopeAtMost k m
  pub fast_proper : Proper l
  pub fast_fit : InFit rs l
  pub fast_greatest : (m : Line) → InFit rs m → SlopeAtMost m l
  pub some_is : LeastMultiple v.step (SomeReached rs v) from most_time some
  pub all_is : LeastMultiple v.step (AllReached rs v) from most_time all
  pub some_by : some ≡ reach_time v from (leading (direction_of v.direction) k l)
  pub all_by : all ≡ reach_time v from (trailing (direction_of v.direction) k l)

pub every-second : {v : Service} {rs : List Range} {from : ℕ} {k l : Line} {some all : Time} → v.step ≡ 1 → OutlookMeans v rs from k l some all
    → IsLeast (SomeReached rs v) from most_time some × IsLeast (AllReached rs v) from most_time all
every-second {v} {rs} {from} {some = x} {all = y} one means = (
  every-number.0 (subst (λ n. LeastMultiple n (SomeReached rs v) from most_time x) one means.some_is),
  every-number.0 (subst (λ n. LeastMultiple n (AllReached rs v) from most_time y) one means.all_is),
)

-- an outlook that has two lines, and means this
abbrev pub MeansOf : Service → List Range → ℕ → Outlook → Type 0
MeansOf v rs from open_strip = ⊥
MeansOf v rs from (lines k l early late) = OutlookMeans v rs from k l early late

-- ---- the polygon's lines are the first and the last

precedes-slope : {k l : Line} → Precedes k l → SlopeAtMost k l
precedes-slope (by_slope_is h) = <ℤ→≤ℤ h
precedes-slope (by_intercept e h) = ≤ℤ_of_≡ e

before-slope : (k l : Line) → T (before k l) → SlopeAtMost k l
before-slope k l t = precedes-slope (before_means k l t)

slope-refl : (k : Line) → SlopeAtMost k k
slope-refl k = ≤ℤ_of_≡ refl

-- of lines by rising slope, the first has the least slope and the last the greatest
first-least : (k : Line) (ks : List Line) → Rising before (k ∷ ks) → All (SlopeAtMost k) (k ∷ ks)
first-least k ks r = cons (slope-refl k) (All_imp (before-slope k) (rising_head before r))

last-greatest : (k : Line) (ks : List Line) → Rising before (k ∷ ks) → All (λ m. SlopeAtMost m (get_last_d ks k)) (k ∷ ks)
last-greatest k ks r =
    All_imp (λ m a. elim a [ inl e ↦ subst (λ l. SlopeAtMost m l) e (slope-refl m) | inr t ↦ before-slope m (get_last_d ks k) t ]) (rising-last before k ks r)

module _ (r s : Range) (ws : List Range) (o : Ordered (r ∷ s ∷ ws)) (h : HasLine (r ∷ s ∷ ws)) where
  -- a line that the polygon lists is, in lowest terms, one of the fitting lines
  listed_fitting : (l : Line) → InFit (r ∷ s ∷ ws) l → Any (λ k. SameLine k l) (corner_list r s ws) → In (reduced l) (fitting (r ∷ s ∷ ws))
  listed_fitting l f a =
      let k = a.entry in
      let g = All_in (corners_fit r s ws o h) a.among in
      let c = All_in (corners_candidates r s ws o h) a.among in
      let e : reduced c.entry ≡ reduced l = reduced-alike c.holds.1.positive f.positive (same-trans g.positive c.holds.0 a.holds) in
      subst (λ m. In m (fitting (r ∷ s ∷ ws))) e (in_fitting (r ∷ s ∷ ws) o c.among c.holds.1)

  slow_in : In (reduced (slow r s ws)) (fitting (r ∷ s ∷ ws))
  slow_in = listed_fitting (slow r s ws) (slow_fits r s ws o h) (record { entry = slow r s ws; among = slow_listed r s ws o h; holds = same_refl (slow r s ws) })

  fast_in : In (reduced (fast r s ws)) (fitting (r ∷ s ∷ ws))
  fast_in = listed_fitting (fast r s ws) (fast_fits r s ws o h) (fast_listed r s ws o h)

  -- slope against slope, with one of the two in lowest terms
  slope_reduced_right : (k l : Line) → InFit (r ∷ s ∷ ws) k → InFit (r ∷ s ∷ ws) l → SlopeAtMost k (reduced l) → SlopeAtMost k l
  slope_reduced_right k l f g = order-≤ (slope-same {k = k} {k' = k} {l = reduced l} {l' = l} (restates_refl f.positive) (restates_sym (reduced_restates g.positive)))

  slope_reduced_left : (k l : Line) → InFit (r ∷ s ∷ ws) k → InFit (r ∷ s ∷ ws) l → SlopeAtMost (reduced k) l → SlopeAtMost k l
  slope_reduced_left k l f g = order-≤ (slope-same {k = reduced k} {k' = k} {l = l} {l' = l} (restates_sym (reduced_restates f.positive)) (restates_refl g.positive))

  pub record FirstLast : Type 0 where
    pub line : Line
    pub more : List Line
    pub is : fitting (r ∷ s ∷ ws) ≡ line ∷ more
    pub first : line ≡ reduced (slow r s ws)
    pub last : get_last_d more line ≡ reduced (fast r s ws)

  pub first_last : FirstLast
  first_last = by (fitting (r ∷ s ∷ ws)) refl
    where
      by : (ls : List Line) → fitting (r ∷ s ∷ ws) ≡ ls → FirstLast
      by [] e = absurd (not-in-nil (subst (In (reduced (slow r s ws))) e slow_in))
      by (k ∷ ks) e =
          let rising = subst (Rising before) e (fitting_rising (r ∷ s ∷ ws) o) in
          let fit = subst (All (InFit (r ∷ s ∷ ws))) e (fitting_fit (r ∷ s ∷ ws) o) in
          let proper = subst (All Proper) e (fitting_proper (r ∷ s ∷ ws) o) in
          let m = get_last_d ks k in
          let k-fit = All_in fit (here refl) in
          let m-fit = All_in fit (in_last k ks) in
          let k-slope = slope_reduced_right k (slow r s ws) k-fit (slow_fits r s ws o h) (All_in (first-least k ks rising) (subst (In (reduced (slow r s ws))) e slow_in)) in
          let m-slope = slope_reduced_left (fast r s ws) m (fast_fits r s ws o h) m-fit (All_in (last-greatest k ks rising) (subst (In (reduced (fast r s ws))) e fast_in)) in
          record {
            line = k;
            more = ks;
            is = e;
            first = sym (reduced-is (slow_fits r s ws o h).positive (All_in proper (here refl)) (same-sym (slow_only r s ws o h k k-fit k-slope)));
            last = sym (reduced-is (fast_fits r s ws o h).positive (All_in proper (in_last k ks)) (same-sym (fast_only r s ws o h m m-fit m-slope)));
          }

  pub listed : Listed (r ∷ s ∷ ws) (slow r s ws) (fast r s ws) (fitting (r ∷ s ∷ ws))
  listed =
      record {
        fit = fitting_fit (r ∷ s ∷ ws) o;
        has_slow = record { entry = reduced (slow r s ws); among = slow_in; holds = reduced_same (slow r s ws) (slow_fits r s ws o h).positive };
        has_fast = record { entry = reduced (fast r s ws); among = fast_in; holds = reduced_same (fast r s ws) (fast_fits r s ws o h).positive };
      }

  pub slow_restates : Restates (slow r s ws) (reduced (slow r s ws))
  slow_restates = reduced_restates (slow_fits r s ws o h).positive

  pub fast_restates : Restates (fast r s ws) (reduced (fast r s ws))
  fast_restates = reduced_restates (fast_fits r s ws o h).positive

  pub shown : (v : Service) → outlook v (r ∷ s ∷ ws)
      ≡ lines (reduced (slow r s ws)) (reduced (fast r s ws)) (some_time v (end_time s ws) (fitting (r ∷ s ∷ ws))) (all_time v (end_time s ws) (fitting (r ∷ s ∷ ws)))
  unfolding outlook outlook_of
  shown v = by first_last
    where
      by : FirstLast → outlook v (r ∷ s ∷ ws) ≡ lines (reduced (slow r s ws)) (reduced (fast r s ws)) (some_time v (end_time s ws) (fitting (r ∷ s ∷ ws))) (all_time v (end_time s ws) (fitting (r ∷ s ∷ ws)))
      by e =
          subst (λ ls. outlook_of v (end_time s ws) ls ≡ lines e.line (get_last_d e.more e.line) (some_time v (end_time s ws) ls) (all_time v (end_time s ws) ls)) (sym e.is) refl
          ∙ ap₂ (λ j m. lines j m (some_time v (end_time s ws) (fitting (r ∷ s ∷ ws))) (all_time v (end_time s ws) (fitting (r ∷ s ∷ ws)))) e.first e.last

-- ---- from the mirror image

pub leading-mirrored : (n : ℕ) → n ≤ most_direction → (k l : Line) → leading (direction_of (opposite n)) k l ≡ mirrored_line (leading (direction_of n) (mirrored_line l) (mirrored_line k))
unfolding direction_of
leading-mirrored zero good k l = sym (neg_l_neg_l k)
leading-mirrored (suc zero) good k l = sym (neg_l_neg_l l)
leading-mirrored (suc (suc n)) good k l = absurd (omega arith)

-- ---- either direction

-- o is a slow line, a fast line and the two times of a run that ends at `from`
pub record LinesOf (v : Service) (run : List Range) (from : ℕ) (o : Outlook) : Type 0 where
  pub slow : Line
  pub fast : Line
  pub some : Time
  pub all : Time
  pub is : o ≡ lines slow fast some all
  pub means : OutlookMeans v run from slow fast some all
