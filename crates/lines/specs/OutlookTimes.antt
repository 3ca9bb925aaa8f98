-- The times of an outlook on a rising trace. *Some* and *all* are searched on a finite list of lines of the fit; they are the least multiples of the step at which one line, every line of the whole fit is at or above the level. Each is also the time at which one line reaches the level: the fast line for *some*, the slow line for *all*. `RunOutlook` gets the same of a falling trace from its mirror image, which rises.
--
--     rises level step                     what is looked for on a rising trace
--     reach_time v from l                   the first multiple of the step from `from` on at which l has reached the level, or none, in either direction
--     paced, paced-reading, paced-reaches  the line whose value after k steps is l's at k · step: counted in steps a line is a line again, so that what is known of all times is known of the multiples
--     DecidedBy level l from test P        from `from` on, the test passes, and P holds, exactly where l reaches the level
--     decided_ends                         then the test passes at an end of a span from `from` on if it passes in it at all
--     decided_least   so the first multiple at which it passes is the least of which P holds, and is l's reach_time
--     ExtremesOf rs from slow fast         from `from` on, slow is lowest of the lines of the fit and fast is highest
--     Listed rs slow fast ls               ls are lines of the fit, with both among them
--
-- Example: with e : ExtremesOf rs from slow fast and k : Listed rs slow fast ls, `some_least e k level step over : LeastMultiple step (SomeReached rs (rises level step)) from most_time (some_time (rises level step) from ls)`.
-- Further laws stand in proofs/OutlookTimes.antt.
-- Assumes nothing.
use Rattle.std.specs.Prelude.{◌≡◌, ◌⊎◌, ◌↔◌, Bool, List, [], ◌∷◌, ℕ, ◌*◌, ◌≤◌, ◌<◌, ℤ, pos, ◌+ℤ◌, ◌*ℤ◌, ◌≤ℤ◌}
use Rattle.std.proofs.Common.{sym, subst, inl, inr, le_refl, le_trans}
use Rattle.std.proofs.Math.Option.{none}
use Rattle.std.proofs.Math.Dec.{T}
use Rattle.integers.specs.OrderLaws.{≤ℤ_or_<ℤ}
use Rattle.integers.specs.Quotes.{quotes, ring! }
use Rattle.integers.specs.Booleans.{or_left, or_right}
use Rattle.integers.specs.Lists.{All, Any, All_in}
use Rattle.integers.specs.Least.{IsLeast, nowhere, AtAnEnd}
use Rattle.integers.specs.Multiples.{LeastMultiple, from_turn, to_turn, first_multiple, from_turns, multiple-iff}
use Rattle.integers.proofs.Multiples.{first_multiple_least}
use Rattle.integers.specs.Crossing.{reach_never}
use Rattle.integers.proofs.Crossing.{reaches_iff}
use Rattle.definitions.specs.Services.{Service}
use Rattle.definitions.specs.Spans.{most_time}
use Rattle.definitions.specs.Times.{Time}
use Rattle.definitions.specs.Ranges.{Range}
use Rattle.definitions.specs.Lines.{Line, reading}
use Rattle.definitions.specs.Fit.{InFit, SameLine, Reaches}
use Rattle.definitions.specs.Outlook.{has_reached}
use Rattle.lines.specs.Levels.{reaches_same}

abbrev pub rises : ℤ → ℕ → Service
rises level step = record { level = level; direction = 0; step = step }

-- ---- one line

-- a line that reaches the level between two times reaches it at one of the two
reaches_end : (level : ℤ) (l : Line) (from to t : ℕ) → from ≤ t → t ≤ to → Reaches level t l → Reaches level from l ⊎ Reaches level to l
unfolding reading
reaches_end level l from to t a b r =
    elim (≤ℤ_or_<ℤ l.p (pos 0)) [
      | inl h ↦ elim (≤ℤ_or_<ℤ v (l.p *ℤ pos from +ℤ l.q)) [ inl k ↦ inl k | inr k ↦ absurd (never (reach_never l.p l.q v from to h k) t a b r) ]
      | inr h ↦ inr ((reaches_iff l.p l.q v h to).1 (le_trans ((reaches_iff l.p l.q v h t).0 r) b))
    ]
  where
    v : ℤ
    v = l.d *ℤ level

    never : {P : ℕ → Type 0} {from to : ℕ} → IsLeast P from to none → (t : ℕ) → from ≤ t → t ≤ to → ¬ P t
    never (nowhere h) = h

-- the first multiple from `from` on at which it has
unfoldable pub reach_time : Service → ℕ → Line → Time
reach_time v from l = first_multiple v.step (λ t. has_reached v t l) from most_time

-- ---- a test that one line decides
pub record DecidedBy (level : ℤ) (l : Line) (from : ℕ) (test : ℕ → Bool) (P : ℕ → Type 0) : Type 0 where
  pub test_iff : (t : ℕ) → from ≤ t → T (test t) ↔ Reaches level t l
  pub holds_iff : (t : ℕ) → from ≤ t → P t ↔ Reaches level t l

module _ {level : ℤ} {l : Line} {from : ℕ} {test : ℕ → Bool} {P : ℕ → Type 0} (d : DecidedBy level l from test P) where
  pub decided_ends : (to : ℕ) → AtAnEnd test from to
  decided_ends to t a b p =
      elim (reaches_end level l from to t a b ((d.test_iff t a).0 p)) [
        | inl r ↦ or_left (test from) (test to) ((d.test_iff from (le_refl from)).1 r)
        | inr r ↦ or_right (test from) (test to) ((d.test_iff to (le_trans a b)).1 r)
      ]

-- ---- by steps

abbrev pub paced : ℕ → Line → Line
paced step l = record { p = l.p *ℤ pos step; q = l.q; d = l.d }

pub paced-reading : (step : ℕ) (l : Line) (k : ℕ) → reading (paced step l) k ≡ reading l (k * step)
unfolding reading
paced-reading step l k = by l.p l.q (pos step) (pos k)
  where
    by : (p q s k : ℤ) → (p *ℤ s) *ℤ k +ℤ q ≡ p *ℤ (k *ℤ s) +ℤ q
    by p q s k = ring! (p ∷ q ∷ s ∷ k ∷ []) (search quotes depth 40) (search quotes depth 40) tt

pub paced-reaches : (step : ℕ) (level : ℤ) (l : Line) (k : ℕ) → Reaches level (k * step) l ↔ Reaches level k (paced step l)
paced-reaches step level l k = let e = paced-reading step l k in (subst (λ x. (l.d *ℤ level) ≤ℤ x) (sym e), subst (λ x. (l.d *ℤ level) ≤ℤ x) e)

module _ (step : ℕ) (over : 0 < step) where
  module _ {level : ℤ} {l : Line} {from : ℕ} {test : ℕ → Bool} {P : ℕ → Type 0} (d : DecidedBy level l from test P) where
    -- the number of steps decides as the time does
    by_steps : DecidedBy level (paced step l) (from_turn step from) (λ k. test (k * step)) (λ k. P (k * step))
    by_steps = record { test_iff = λ k a. then k (d.test_iff (k * step) ((from_turns step over from k).1 a)); holds_iff = λ k a. then k (d.holds_iff (k * step) ((from_turns step over from k).1 a)) }
      where
        then : {A : Type 0} (k : ℕ) → A ↔ Reaches level (k * step) l → A ↔ Reaches level k (paced step l)
        then k e = let p = paced-reaches step level l k in (λ x. p.0 (e.0 x), λ r. e.1 (p.1 r))

    pub decided_line : LeastMultiple step (λ t. Reaches level t l) from most_time (first_multiple step test from most_time)
    decided_line = multiple-iff d.test_iff (first_multiple_least step over test from most_time (decided_ends by_steps (to_turn step most_time)))

    pub decided_least : LeastMultiple step P from most_time (first_multiple step test from most_time)
    decided_least = multiple-iff (λ t a. ((d.holds_iff t a).1, (d.holds_iff t a).0)) decided_line

-- ---- the slow and the fast line

-- from `from` on, every line of the fit reaches a level where slow does, and fast where any line of the fit does
pub record ExtremesOf (rs : List Range) (from : ℕ) (slow fast : Line) : Type 0 where
  pub slow_fit : InFit rs slow
  pub fast_fit : InFit rs fast
  pub slow_lowest : (level : ℤ) (t : ℕ) → from ≤ t → Reaches level t slow → (l : Line) → InFit rs l → Reaches level t l
  pub fast_highest : (level : ℤ) (t : ℕ) → from ≤ t → (l : Line) → InFit rs l → Reaches level t l → Reaches level t fast

-- lines of the fit, slow and fast among them, by whichever p, q and d
pub record Listed (rs : List Range) (slow fast : Line) (ls : List Line) : Type 0 where
  pub fit : All (InFit rs) ls
  pub has_slow : Any (SameLine slow) ls
  pub has_fast : Any (SameLine fast) ls

module _ {rs : List Range} {from : ℕ} {slow fast : Line} (e : ExtremesOf rs from slow fast) {ls : List Line} (among : Listed rs slow fast ls) (level : ℤ) (step : ℕ) where
  -- a line of the fit reaches the level exactly where the one of the list does that is the same line
  pub listed_reaches : {l : Line} → InFit rs l → (k : Any (SameLine l) ls) → (t : ℕ) → Reaches level t l ↔ Reaches level t k.entry
  listed_reaches f k t = reaches_same (record { same = k.holds; left_positive = f.positive; right_positive = (All_in among.fit k.among).positive }) level t
