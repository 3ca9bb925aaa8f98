-- Ordered ranges: their parts, and their times.
--
--     ordered-left, ordered-right, ordered-part    parts of an ordered list are ordered
--     ordered_at                                   each of the runs that one after the other are an ordered list is ordered
--     ordered-before                               in an ordered list, the times of a front are below those that follow
--     ordered-append                               the converse: two ordered lists one after the other
--     times-rise                                   by position: the i-th time is below the j-th where i is below j
--     first_time_of, last_time_of                      the times of a run's first and last range
--     last-append                                  the last time of a list is that of its end
--     LastRange, last-range                        a list that is not empty has a last range, with the last time
--     times-from_first, times-to_last              a run's times are from its first to its last
--     times-before_first, times-after_last         what stands before a run is earlier than its first time, and what follows later than its last
--     last-front, last_take_rises                  the last time of a front is at most that of a longer one
--
-- Assumes nothing.
use Rattle.std.specs.Prelude.{◌≡◌, refl, ℕ, zero, suc, ◌+◌, ◌-◌, ◌≤◌, ◌<◌, length, get_or, take, drop}
use Rattle.std.proofs.Common.{sym, ap, ◌∙◌, subst, le_refl, arith, take-append-drop, take-add}
use mathlib.Core.List.{List, [], ◌∷◌, ◌++◌, flatten, append-nil}
use Rattle.integers.specs.Lists.{All, nil, cons, All-head, All-tail, All_imp, All-append, All_append_left, All_append_right}
use Rattle.definitions.specs.Ranges.{Range}
use Rattle.definitions.specs.Outlook.{end_time}
use Rattle.definitions.specs.Fit.{Ordered}

-- ---- parts

pub ordered-left : (xs ys : List Range) → Ordered (xs ++ ys) → Ordered xs
ordered-left [] ys o = tt
ordered-left (r ∷ xs) ys o = (o.0, All_append_left xs ys o.1, ordered-left xs ys o.2)

pub ordered-right : (xs ys : List Range) → Ordered (xs ++ ys) → Ordered ys
ordered-right [] ys o = o
ordered-right (r ∷ xs) ys o = ordered-right xs ys o.2

pub ordered-part : (xs ys zs : List Range) → Ordered (xs ++ ys ++ zs) → Ordered ys
ordered-part xs ys zs o = ordered-right xs ys (ordered-left (xs ++ ys) zs o)

pub ordered_at : (runs : List (List Range)) → Ordered (flatten runs) → (j : ℕ) → Ordered (get_or runs j [])
unfolding flatten
ordered_at [] o j = tt
ordered_at (run ∷ runs) o zero = ordered-left run (flatten runs) o
ordered_at (run ∷ runs) o (suc j) = ordered_at runs (ordered-right run (flatten runs) o) j

pub ordered-before : (xs ys : List Range) → Ordered (xs ++ ys) → All (λ r. All (λ s. r.time < s.time) ys) xs
ordered-before [] ys o = nil
ordered-before (r ∷ xs) ys o = cons (All_append_right xs ys o.1) (ordered-before xs ys o.2)

pub ordered-append : (xs ys : List Range) → Ordered xs → Ordered ys → All (λ r. All (λ s. r.time < s.time) ys) xs → Ordered (xs ++ ys)
ordered-append [] ys o k h = k
ordered-append (r ∷ xs) ys o k h = (o.0, All-append o.1 (All-head h), ordered-append xs ys o.2 k (All-tail h))

-- ---- by position

later-at : {t : ℕ} (rs : List Range) (d : Range) (j : ℕ) → All (λ s. t < s.time) rs → j < length rs → t < (get_or rs j d).time
later-at [] d j h b = absurd (omega arith)
later-at (r ∷ rs) d zero h b = All-head h
later-at (r ∷ rs) d (suc j) h b = later-at rs d j (All-tail h) (omega arith)

pub times-rise : (rs : List Range) (d : Range) (i j : ℕ) → Ordered rs → i < j → j < length rs → (get_or rs i d).time < (get_or rs j d).time
times-rise [] d i j o h b = absurd (omega arith)
times-rise (r ∷ rs) d i zero o h b = absurd (omega arith)
times-rise (r ∷ rs) d zero (suc j) o h b = later-at rs d j o.1 (omega arith)
times-rise (r ∷ rs) d (suc i) (suc j) o h b = times-rise rs d i j o.2 (omega arith) (omega arith)

-- ---- first and last times; an empty list has none, and 0 stands for them

unfoldable pub first_time_of : List Range → ℕ
first_time_of [] = 0
first_time_of (r ∷ rs) = r.time

unfoldable pub last_time_of : List Range → ℕ
last_time_of [] = 0
last_time_of (r ∷ rs) = end_time r rs

pub last-append : (xs : List Range) (r : Range) (rs : List Range) → last_time_of (xs ++ (r ∷ rs)) ≡ last_time_of (r ∷ rs)
unfolding last_time_of end_time
last-append [] r rs = refl
last-append (x ∷ []) r rs = refl
last-append (x ∷ y ∷ xs) r rs = last-append (y ∷ xs) r rs

pub record LastRange (rs : List Range) : Type 0 where
  pub before : List Range
  pub range : Range
  pub splits : rs ≡ before ++ (range ∷ [])
  pub time_is : last_time_of rs ≡ range.time

pub last-range : (r : Range) (rs : List Range) → LastRange (r ∷ rs)
unfolding last_time_of end_time
last-range r [] = record { before = []; range = r; splits = refl; time_is = refl }
last-range r (s ∷ rs) = let l = last-range s rs in record { before = r ∷ l.before; range = l.range; splits = ap (λ x. r ∷ x) l.splits; time_is = l.time_is }

pub times-from_first : (r : Range) (rs : List Range) → Ordered (r ∷ rs) → All (λ s. first_time_of (r ∷ rs) ≤ s.time) (r ∷ rs)
unfolding first_time_of
times-from_first r rs o = cons (le_refl r.time) (All_imp (λ s h. omega arith) o.1)

pub times-to_last : (r : Range) (rs : List Range) → Ordered (r ∷ rs) → All (λ s. s.time ≤ last_time_of (r ∷ rs)) (r ∷ rs)
unfolding last_time_of end_time
times-to_last r [] o = cons (le_refl r.time) nil
times-to_last r (s ∷ rs) o =
    let later = times-to_last s rs o.2 in
    let h : r.time ≤ end_time s rs = omega (arith, All-head o.1, All-head later) in
    cons h later

pub times-before_first : (xs : List Range) (r : Range) (rs : List Range) → Ordered (xs ++ (r ∷ rs)) → All (λ s. s.time < first_time_of (r ∷ rs)) xs
unfolding first_time_of
times-before_first xs r rs o = All_imp (λ s h. All-head h) (ordered-before xs (r ∷ rs) o)

pub times-after_last : (r : Range) (rs ys : List Range) → Ordered (r ∷ rs ++ ys) → All (λ s. last_time_of (r ∷ rs) < s.time) ys
unfolding last_time_of end_time
times-after_last r [] ys o = o.1
times-after_last r (s ∷ rs) ys o = times-after_last s rs ys o.2

-- ---- fronts

pub last-front : (xs ys : List Range) → Ordered (xs ++ ys) → last_time_of xs ≤ last_time_of (xs ++ ys)
unfolding last_time_of
last-front [] ys o = omega arith
last-front (r ∷ rs) [] o = omega (arith, ap last_time_of (append-nil (r ∷ rs)))
last-front (r ∷ rs) (y ∷ ys) o =
    omega (arith, last-append (r ∷ rs) y ys, All-head (times-after_last r rs (y ∷ ys) o), All-head (times-to_last y ys (ordered-right (r ∷ rs) (y ∷ ys) o)))

pub last_take_rises : (rs : List Range) (m n : ℕ) → Ordered rs → m ≤ n → last_time_of (take m rs) ≤ last_time_of (take n rs)
last_take_rises rs m n o h = subst (λ l. last_time_of (take m rs) ≤ last_time_of l) (sym longer) (last-front (take m rs) (take (n - m) (drop m rs)) (subst Ordered longer front))
  where
    n_is : n ≡ m + (n - m)
    n_is = omega arith

    longer : take n rs ≡ take m rs ++ take (n - m) (drop m rs)
    longer = ap (λ k. take k rs) n_is ∙ take-add m (n - m) rs

    front : Ordered (take n rs)
    front = ordered-left (take n rs) (drop n rs) (subst Ordered (sym (take-append-drop n rs)) o)
