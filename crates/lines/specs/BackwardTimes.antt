-- A trace read backward. The ranges from the last to the first, each time t as m − t, are a trace again, and the same runs have a line. So a fit that goes forward over them goes backward over
-- the trace, and where their first run stops, the latest run begins.
--
--     back_time, backward       a range with its time counted from m backward; ranges so, the last one first
--     Until                    no time is above m, as none is above 4,294,967,295
--     backward_length          as many
--     backward_ordered         they are ordered where the ranges are
--
-- Further laws stand in proofs/BackwardTimes.antt.
-- Assumes nothing.
use Rattle.std.specs.Prelude.{◌≡◌, ℕ, ◌+◌, ◌-◌, ◌<◌, ◌≤◌, ℤ, pos, negsuc, neg_ℤ, ◌+ℤ◌, ◌-ℤ◌, ◌*ℤ◌, ◌≤ℤ◌, length, take, drop}
use Rattle.std.proofs.Common.{sym, ap, ◌∙◌, arith, length-drop, take-append-drop, take_at}
use Rattle.std.proofs.Math.Path.{subst}
use mathlib.Core.List.{List, [], ◌∷◌, ◌++◌, map, reverse, map-append, reverse-append, reverse-cons}
use Rattle.std.proofs.lemmas.List.{length-map, length-reverse}
use Rattle.integers.specs.Quotes.{quotes, ring! }
use Rattle.integers.specs.RingSolver.{var, lit, ◌:*◌}
use Rattle.integers.specs.Certificates.{num, eqn}
use Rattle.integers.specs.Solve.{claims, certify! }
use Rattle.integers.specs.Lists.{All, nil, cons, All-map, All_imp₂, All-reverse, All-tail}
use Rattle.definitions.specs.Ranges.{Range}
use Rattle.definitions.specs.Lines.{Line, reading}
use Rattle.definitions.specs.Fit.{FitsRange, Ordered}
use Rattle.splits.specs.OrderedRanges.{ordered-append}

abbrev pub back_time : ℕ → Range → Range
back_time m r = record { time = m - r.time; low = r.low; high = r.high }

abbrev pub backward : ℕ → List Range → List Range
backward m rs = reverse (map (back_time m) rs)

abbrev pub Until : ℕ → List Range → Type 0
Until m rs = All (λ r. r.time ≤ m) rs

-- the line that has at m − t the value that l has at t
abbrev pub back_line : ℕ → Line → Line
back_line m l = record { p = neg_ℤ l.p; q = l.p *ℤ pos m +ℤ l.q; d = l.d }

-- ---- one range

time-back : (m t : ℕ) → t ≤ m → pos (m - t) ≡ pos m -ℤ pos t
time-back m t h = there_back (pos (m - t)) (pos t) ∙ ap (λ k. pos k -ℤ pos t) whole
  where
    there_back : (x y : ℤ) → x ≡ (x +ℤ y) -ℤ y
    there_back x y = ring! (x ∷ y ∷ []) (search quotes depth 40) (search quotes depth 40) tt

    whole : m - t + t ≡ m
    whole = omega arith

same-value : (p q m t s : ℤ) → s ≡ m -ℤ t → neg_ℤ p *ℤ s +ℤ (p *ℤ m +ℤ q) ≡ p *ℤ t +ℤ q
same-value p q m t s = certify! (p ∷ q ∷ m ∷ t ∷ s ∷ []) (search claims depth 40) (num 1) (eqn 0 (lit (negsuc 0) :* var 0)) tt

other-value : (p q m t s : ℤ) → s ≡ m -ℤ t → neg_ℤ p *ℤ t +ℤ (p *ℤ m +ℤ q) ≡ p *ℤ s +ℤ q
other-value p q m t s = certify! (p ∷ q ∷ m ∷ t ∷ s ∷ []) (search claims depth 40) (num 1) (eqn 0 (lit (negsuc 0) :* var 0)) tt

module _ (m : ℕ) where
  pub fits_backward : (l : Line) (r : Range) → r.time ≤ m → FitsRange l r → FitsRange (back_line m l) (back_time m r)
  unfolding reading
  fits_backward l r h f =
      let e = same-value l.p l.q (pos m) (pos r.time) (pos (m - r.time)) (time-back m r.time h) in
      record { over_low = subst (λ z. (l.d *ℤ r.low) ≤ℤ z) (sym e) f.over_low; under_high = subst (λ z. z ≤ℤ (l.d *ℤ r.high)) (sym e) f.under_high }

  pub fits_again : (l : Line) (r : Range) → r.time ≤ m → FitsRange l (back_time m r) → FitsRange (back_line m l) r
  unfolding reading
  fits_again l r h f =
      let e = other-value l.p l.q (pos m) (pos r.time) (pos (m - r.time)) (time-back m r.time h) in
      record { over_low = subst (λ z. (l.d *ℤ r.low) ≤ℤ z) (sym e) f.over_low; under_high = subst (λ z. z ≤ℤ (l.d *ℤ r.high)) (sym e) f.under_high }

  -- ---- ranges

  backward_append : (xs ys : List Range) → backward m (xs ++ ys) ≡ backward m ys ++ backward m xs
  backward_append xs ys = ap reverse (map-append (back_time m) xs ys) ∙ reverse-append (map (back_time m) xs) (map (back_time m) ys)

  pub backward_ordered : (rs : List Range) → Until m rs → Ordered rs → Ordered (backward m rs)
  backward_ordered [] u o = tt
  backward_ordered (r ∷ rs) u o =
      subst Ordered (sym (reverse-cons (back_time m r) (map (back_time m) rs)))
      (ordered-append (backward m rs) (back_time m r ∷ []) (backward_ordered rs (All-tail u) o.2) (o.0, nil, tt)
      (All-reverse (All-map (back_time m) (All_imp₂ (λ s a b. cons (later r.time s.time a b) nil) o.1 (All-tail u)))))
    where
      later : (i j : ℕ) → i < j → j ≤ m → m - j < m - i
      later i j a b = omega arith

  pub backward_length : (rs : List Range) → length (backward m rs) ≡ length rs
  backward_length rs = length-reverse (map (back_time m) rs) ∙ length-map rs (back_time m)

  pub backward_take : (rs : List Range) (e : ℕ) → e ≤ length rs → take e (backward m rs) ≡ backward m (drop (length rs - e) rs)
  backward_take rs e h =
      let k = length rs - e in
      ap (λ l. take e (backward m l)) (sym (take-append-drop k rs))
      ∙ ap (take e) (backward_append (take k rs) (drop k rs))
      ∙ take_at (backward m (drop k rs)) (backward m (take k rs)) e (omega (arith, backward_length (drop k rs), length-drop k rs))
