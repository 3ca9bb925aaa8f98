-- A chain of points as a part of two slices, one of times and one of values: the entries from a to b stand for ends of ranges.
--
--     Chain, chain ts vs       the two slices
--     store c m t u            a point stored at the place m
--     Long n c                 both slices have n entries
--     part f a n               the n points f a, f (a + 1), .. in their order
--     stack f a n              the same, the last one first
--     between f a b            the points from a up to, not including, b
--     of_chain flip c           the points that the entries of c stand for
--     part-snoc, head-between, last-between   the last point apart; the first and the last point
--     part-mirrored            the points in the mirror are the mirror images
--     store_push               a store at the end adds a point
--     alone, two               slices whose first entry, first two entries were stored
--     PoppedTo, popped, pop_step, pop_stop, pop_one   popping moves the end: what one test r of the last two points says of `pop_end`
--     DroppedTo, drop-step, drop_stop, drop-one       dropping moves the start: what one test r of the first two points says of `drop_over`
--
-- Every law is over an arbitrary function from places to points, so a store changes the function at one place.
-- Assumes nothing.
use Rattle.std.specs.Prelude.{◌≡◌, Bool, true, false, length, get_or, set, ℤ, pos}
use Rattle.std.proofs.Math.Path.{refl, sym}
use Rattle.std.proofs.Common.{◌∙◌, ap, ap₂, arith, add-one, length-set, get_or-set_same, get_or-set_other}
use mathlib.Core.List.{List, [], ◌∷◌, ◌++◌, reverse, reverse-cons, reverse-reverse}
use Prim.Native.Nat.{ℕ, zero, suc, ◌+◌, ◌-◌, ◌<◌, ◌≤◌}
use Rattle.std.specs.Int.Signed.{le_z}
use Rattle.chains.specs.Points.{Point, gap, through}
use Rattle.chains.specs.Mirror.{negs}
use Rattle.chains.specs.Chain.{head_of, last_of, last_from}
use Rattle.chains.specs.Cut.{drop_over, drop_over_if}
use Rattle.chains.specs.Pop.{trim, trim_if, pop_end}
use Rattle.drift_laws.specs.TestedSigns.{by_not_under, by_under}
use Rattle.drift_laws.specs.RangeEnds.{end_of, end-mirrored}

pub record Chain : Type 0 where
  pub times : List ℕ
  pub values : List ℤ

abbrev pub chain : List ℕ → List ℤ → Chain
chain ts vs = record { times = ts; values = vs }

abbrev pub store : Chain → ℕ → ℕ → ℤ → Chain
store c m t u = chain (set c.times m t) (set c.values m u)

-- both slices have n entries
pub record Long (n : ℕ) (c : Chain) : Type 0 where
  pub times_long : n ≤ length c.times
  pub values_long : n ≤ length c.values

unfoldable pub part : (ℕ → Point) → ℕ → ℕ → List Point
part f a zero = []
part f a (suc n) = f a ∷ part f (suc a) n

unfoldable pub stack : (ℕ → Point) → ℕ → ℕ → List Point
stack f a zero = []
stack f a (suc n) = f (a + n) ∷ stack f a n

abbrev pub between : (ℕ → Point) → ℕ → ℕ → List Point
between f a b = part f a (b - a)

abbrev pub of_chain : Bool → Chain → ℕ → Point
of_chain flip c i = end_of flip (get_or c.times i 0) (get_or c.values i (pos 0))

pub part-snoc : (f : ℕ → Point) (a n : ℕ) → part f a (suc n) ≡ part f a n ++ (f (a + n) ∷ [])
unfolding part
part-snoc f a zero = ap (λ k. f k ∷ []) (omega arith)
part-snoc f a (suc n) = ap (λ ys. f a ∷ ys) (part-snoc f (suc a) n ∙ ap (λ k. part f (suc a) n ++ (f k ∷ [])) (omega arith))

-- ---- the first and the last point
head-core : (f : ℕ → Point) (a n : ℕ) → head_of (part f a (suc n)) ≡ f a
unfolding part
head-core f a n = refl

last_from-end : (X : Point) (xs : List Point) (A : Point) → last_from X (xs ++ (A ∷ [])) ≡ A
last_from-end X [] A = refl
last_from-end X (Y ∷ xs) A = last_from-end Y xs A

last_end : (xs : List Point) (A : Point) → last_of (xs ++ (A ∷ [])) ≡ A
last_end [] A = refl
last_end (X ∷ xs) A = last_from-end X xs A

pub head-between : (f : ℕ → Point) (a b : ℕ) → a < b → head_of (between f a b) ≡ f a
head-between f a b h =
    let e : b - a ≡ suc (b - a - 1) = omega arith in
    ap (λ n. head_of (part f a n)) e ∙ head-core f a (b - a - 1)

pub last-between : (f : ℕ → Point) (a b : ℕ) → a < b → last_of (between f a b) ≡ f (b - 1)
last-between f a b h =
    let e : b - a ≡ suc (b - a - 1) = omega arith in
    let i : a + (b - a - 1) ≡ b - 1 = omega arith in
    ap (λ n. last_of (part f a n)) e ∙ ap last_of (part-snoc f a (b - a - 1)) ∙ last_end (part f a (b - a - 1)) (f (a + (b - a - 1))) ∙ ap f i

-- ---- the mirror image
pub part-mirrored : (c : Chain) (a n : ℕ) → part (of_chain true c) a n ≡ negs (part (of_chain false c) a n)
unfolding part
part-mirrored c a zero = refl
part-mirrored c a (suc n) = ap₂ (λ A xs. A ∷ xs) (end-mirrored (get_or c.times a 0) (get_or c.values a (pos 0))) (part-mirrored c (suc a) n)

-- ---- stores
part_same : (f g : ℕ → Point) (a n : ℕ) → ((i : ℕ) → i < a + n → f i ≡ g i) → part f a n ≡ part g a n
unfolding part
part_same f g a zero h = refl
part_same f g a (suc n) h = ap₂ (λ A xs. A ∷ xs) (h a (omega arith)) (part_same f g (suc a) n (λ i l. h i (omega arith)))

part-one : (f : ℕ → Point) → part f 0 1 ≡ f 0 ∷ []
unfolding part
part-one f = refl

module _ (flip : Bool) (c : Chain) where
  -- past the end a store changes nothing
  store_kept : (a b m t : ℕ) (u : ℤ) → a ≤ b → b ≤ m → between (of_chain flip (store c m t u)) a b ≡ between (of_chain flip c) a b
  store_kept a b m t u l h =
      part_same (of_chain flip (store c m t u)) (of_chain flip c) a (b - a)
      (λ i j. ap₂ (end_of flip) (get_or-set_other c.times m i t 0 (λ e. omega arith)) (get_or-set_other c.values m i u (pos 0) (λ e. omega arith)))

  stored_at : (m t : ℕ) (u : ℤ) → Long (m + 1) c → of_chain flip (store c m t u) m ≡ end_of flip t u
  stored_at m t u l = ap₂ (end_of flip) (get_or-set_same c.times m t 0 (omega (arith, l.times_long))) (get_or-set_same c.values m u (pos 0) (omega (arith, l.values_long)))

  pub store_push : (a m t : ℕ) (u : ℤ) → a ≤ m → Long (m + 1) c → between (of_chain flip (store c m t u)) a (m + 1) ≡ between (of_chain flip c) a m ++ (end_of flip t u ∷ [])
  store_push a m t u h l =
      let i : m + 1 - a ≡ suc (m - a) = omega arith in
      let j : a + (m - a) ≡ m = omega arith in
      ap (part (of_chain flip (store c m t u)) a) i
      ∙ part-snoc (of_chain flip (store c m t u)) a (m - a)
      ∙ ap₂ (λ xs A. xs ++ (A ∷ [])) (store_kept a m m t u (omega arith) (omega arith)) (ap (of_chain flip (store c m t u)) j ∙ stored_at m t u l)

  pub alone : (t : ℕ) (u : ℤ) → Long 1 c → between (of_chain flip (store c 0 t u)) 0 1 ≡ end_of flip t u ∷ []
  alone t u h = part-one (of_chain flip (store c 0 t u)) ∙ ap (λ A. A ∷ []) (stored_at 0 t u h)

pub two : (flip : Bool) (c : Chain) (t : ℕ) (u : ℤ) (s : ℕ) (v : ℤ) → Long 2 c → between (of_chain flip (store (store c 0 t u) 1 s v)) 0 2 ≡ end_of flip t u ∷ end_of flip s v ∷ []
two flip c t u s v h =
    store_push flip (store c 0 t u) 0 1 s v (omega arith)
    (record { times_long = omega (arith, h.times_long, length-set c.times 0 t); values_long = omega (arith, h.values_long, length-set c.values 0 u) })
    ∙ ap (λ xs. xs ++ (end_of flip s v ∷ [])) (alone flip c t u (record { times_long = omega (arith, h.times_long); values_long = omega (arith, h.values_long) }))

-- ---- popping
reverse-stack : (f : ℕ → Point) (a n : ℕ) → reverse (stack f a n) ≡ part f a n
unfolding stack part
reverse-stack f a zero = refl
reverse-stack f a (suc n) = reverse-cons (f (a + n)) (stack f a n) ∙ ap (λ ys. ys ++ (f (a + n) ∷ [])) (reverse-stack f a n) ∙ sym (part-snoc f a n)

reverse-part : (f : ℕ → Point) (a n : ℕ) → reverse (part f a n) ≡ stack f a n
reverse-part f a n = ap reverse (sym (reverse-stack f a n)) ∙ reverse-reverse (stack f a n)

-- what is left of the stack is what `pop_end` leaves
pub popped : (f : ℕ → Point) (N : Point) (a m n : ℕ) → stack f a m ≡ trim N (stack f a n) → part f a m ≡ pop_end N (part f a n)
unfolding pop_end
popped f N a m n e = sym (reverse-stack f a m) ∙ ap reverse (e ∙ ap (trim N) (sym (reverse-part f a n)))

module _ (f : ℕ → Point) (N : Point) (a : ℕ) where
  pop_core : (n : ℕ) → le_z (pos 0) (gap (through (f (a + n)) (f (a + suc n))) N) ≡ true → trim N (stack f a (suc n)) ≡ trim N (stack f a (suc (suc n)))
  unfolding trim stack
  pop_core n e = sym (by_not_under (λ g. trim_if g (trim N (stack f a (suc n))) (stack f a (suc (suc n))) ≡ trim N (stack f a (suc n))) (gap (through (f (a + n)) (f (a + suc n))) N) e (λ m. refl))

  stop_core : (n : ℕ) → le_z (pos 0) (gap (through (f (a + n)) (f (a + suc n))) N) ≡ false → stack f a (suc (suc n)) ≡ trim N (stack f a (suc (suc n)))
  unfolding trim stack
  stop_core n e = sym (by_under (λ g. trim_if g (trim N (stack f a (suc n))) (stack f a (suc (suc n))) ≡ stack f a (suc (suc n))) (gap (through (f (a + n)) (f (a + suc n))) N) e (λ m. refl))

  one_core : stack f a 1 ≡ trim N (stack f a 1)
  unfolding trim stack
  one_core = refl

  module _ (m : ℕ) (many : a + 1 < m) where
    test_at : (b : Bool) → le_z (pos 0) (gap (through (f (m - 2)) (f (m - 1))) N) ≡ b → le_z (pos 0) (gap (through (f (a + (m - a - 2))) (f (a + suc (m - a - 2)))) N) ≡ b
    test_at b e =
        let i : a + (m - a - 2) ≡ m - 2 = omega arith in
        let j : a + suc (m - a - 2) ≡ m - 1 = omega arith in
        ap₂ (λ x y. le_z (pos 0) (gap (through (f x) (f y)) N)) i j ∙ e

    pub pop_step : {r : Bool} → r ≡ le_z (pos 0) (gap (through (f (m - 2)) (f (m - 1))) N) → r ≡ true → trim N (stack f a (m - 1 - a)) ≡ trim N (stack f a (m - a))
    pop_step e t =
        let i : m - 1 - a ≡ suc (m - a - 2) = omega arith in
        let j : m - a ≡ suc (suc (m - a - 2)) = omega arith in
        ap (λ k. trim N (stack f a k)) i ∙ pop_core (m - a - 2) (test_at true (sym e ∙ t)) ∙ ap (λ k. trim N (stack f a k)) (sym j)

    pub pop_stop : {r : Bool} → r ≡ le_z (pos 0) (gap (through (f (m - 2)) (f (m - 1))) N) → r ≡ false → stack f a (m - a) ≡ trim N (stack f a (m - a))
    pop_stop e t =
        let j : m - a ≡ suc (suc (m - a - 2)) = omega arith in
        ap (stack f a) j ∙ stop_core (m - a - 2) (test_at false (sym e ∙ t)) ∙ ap (λ k. trim N (stack f a k)) (sym j)

  pub pop_one : (m : ℕ) → m ≤ a + 1 → a < m → stack f a (m - a) ≡ trim N (stack f a (m - a))
  pop_one m h k =
      let j : m - a ≡ 1 = omega arith in
      ap (stack f a) j ∙ one_core ∙ ap (λ k. trim N (stack f a k)) (sym j)

-- ---- dropping
module _ (f : ℕ → Point) (N : Point) (b : ℕ) where
  drop_core : (a n : ℕ) → le_z (pos 0) (gap (through (f a) (f (suc a))) N) ≡ true → drop_over N (part f (suc a) (suc n)) ≡ drop_over N (part f a (suc (suc n)))
  unfolding part
  drop_core a n e = sym (by_not_under (λ g. drop_over_if g (part f a (suc (suc n))) (drop_over N (part f (suc a) (suc n))) ≡ drop_over N (part f (suc a) (suc n))) (gap (through (f a) (f (suc a))) N) e (λ m. refl))

  stay_core : (a n : ℕ) → le_z (pos 0) (gap (through (f a) (f (suc a))) N) ≡ false → part f a (suc (suc n)) ≡ drop_over N (part f a (suc (suc n)))
  unfolding part
  stay_core a n e = sym (by_under (λ g. drop_over_if g (part f a (suc (suc n))) (drop_over N (part f (suc a) (suc n))) ≡ part f a (suc (suc n))) (gap (through (f a) (f (suc a))) N) e (λ m. refl))

  alone_core : (a : ℕ) → part f a 1 ≡ drop_over N (part f a 1)
  unfolding part
  alone_core a = refl

  module _ (a : ℕ) (many : a + 1 < b) where
    suc_at : (t : Bool) → le_z (pos 0) (gap (through (f a) (f (a + 1))) N) ≡ t → le_z (pos 0) (gap (through (f a) (f (suc a))) N) ≡ t
    suc_at t e = ap (λ x. le_z (pos 0) (gap (through (f a) (f x)) N)) (sym (add-one a)) ∙ e

    pub drop-step : {r : Bool} → r ≡ le_z (pos 0) (gap (through (f a) (f (a + 1))) N) → r ≡ true → drop_over N (between f (a + 1) b) ≡ drop_over N (between f a b)
    drop-step e t =
        let i : b - (a + 1) ≡ suc (b - a - 2) = omega arith in
        let j : b - a ≡ suc (suc (b - a - 2)) = omega arith in
        ap₂ (λ x k. drop_over N (part f x k)) (add-one a) i ∙ drop_core a (b - a - 2) (suc_at true (sym e ∙ t)) ∙ ap (λ k. drop_over N (part f a k)) (sym j)

    pub drop_stop : {r : Bool} → r ≡ le_z (pos 0) (gap (through (f a) (f (a + 1))) N) → r ≡ false → between f a b ≡ drop_over N (between f a b)
    drop_stop e t =
        let j : b - a ≡ suc (suc (b - a - 2)) = omega arith in
        ap (part f a) j ∙ stay_core a (b - a - 2) (suc_at false (sym e ∙ t)) ∙ ap (λ k. drop_over N (part f a k)) (sym j)

  pub drop-one : (a : ℕ) → b ≤ a + 1 → a < b → between f a b ≡ drop_over N (between f a b)
  drop-one a h k =
      let j : b - a ≡ 1 = omega arith in
      ap (part f a) j ∙ alone_core a ∙ ap (λ k. drop_over N (part f a k)) (sym j)

-- ---- what the two loops answer
pub record PoppedTo (f : ℕ → Point) (N : Point) (a b r : ℕ) : Type 0 where
  pub from : a < r
  pub to : r ≤ b
  pub is : between f a r ≡ pop_end N (between f a b)

pub record DroppedTo (f : ℕ → Point) (N : Point) (a b r : ℕ) : Type 0 where
  pub from : a ≤ r
  pub to : r < b
  pub is : between f r b ≡ drop_over N (between f a b)
