-- The least: of a list, by a Boolean total preorder of its entries, and of the numbers of a range that pass a test.
--
--     TotalPreorder Ok at_most                      transitive and total on the entries that are Ok; flip_preorder: the other way round, for the greatest
--     by_key                                       the entries by a whole number that each has
--     least at_most x xs                            the least entry of x ∷ xs, the first of them where several are
--     in_least, least_at_most                       it is an entry, and at most every entry
--
--     IsLeast P from to r (nowhere, least_at)      r is the least number from `from` to `to` of which P holds, or none where there is no such number
--     least-unique, least_iff                      there is only one; of another property that holds at the same numbers
--     first test from to                           the first number of the range that passes (scan: of so many numbers from one on), or none
--     first-least, first-none                      it is the least that passes; it is none exactly if no number of the range passes
--     first_by_ends, AtAnEnd                         the same for a test that passes at an end of the range if it passes at all, with no search where neither end passes
--     first_by_ends-is, first_by_ends-least            it is `first`, and the least that passes
--
-- Both searches stop at the number found, so a range of all 32-bit numbers computes where that number is near `from`; `first` does not where no number passes.
-- Example: `first (λ t. leb 77 t) 50 4294967295` computes to some 77.
-- Assumes nothing.
use Rattle.std.specs.Prelude.{◌≡◌, ◌↔◌, Bool, ◌||◌, ℕ, zero, suc, ◌-◌, ◌≤◌, ◌<◌, leb, ℤ}
use Rattle.std.proofs.Math.Path.{refl}
use Rattle.std.proofs.Common.{sym, ap, subst, inl, inr, eq-or-lt_of_le, le_antisymm, arith}
use Rattle.std.proofs.Math.Bool.{true, false}
use Rattle.std.proofs.Math.Option.{Option, none, some}
use mathlib.Core.List.{List, [], ◌∷◌}
use Rattle.std.proofs.Math.Dec.{T}
use Rattle.std.specs.Int.Signed.{le_z}
use Rattle.integers.specs.OrderLaws.{≤ℤ-trans, ≤ℤ_or_<ℤ, <ℤ→≤ℤ}
use Rattle.integers.specs.Booleans.{T_dec, true→T, false→¬T}
use Rattle.integers.specs.Lists.{All, nil, cons, In, here, there, All_in, All_imp₂}

-- ---- the least entry of a list
module _ {A : Type 0} where
  -- `at_most` is transitive on the entries that are Ok, and holds of any two of them one way or the other
  pub record TotalPreorder (Ok : A → Type 0) (at_most : A → A → Bool) : Type 0 where
    pub transitive : (x y z : A) → Ok x → Ok y → Ok z → T (at_most x y) → T (at_most y z) → T (at_most x z)
    pub total : (x y : A) → Ok x → Ok y → ¬ T (at_most x y) → T (at_most y x)

  -- the order the other way round: its least entry is the greatest
  pub flip_preorder : {Ok : A → Type 0} {at_most : A → A → Bool} → TotalPreorder Ok at_most → TotalPreorder Ok (λ x y. at_most y x)
  flip_preorder o = record { transitive = λ x y z p q r s t. o.transitive z y x r q p t s; total = λ x y p q n. o.total y x q p n }

  -- entries by a whole number that each has
  pub by_key : (key : A → ℤ) → TotalPreorder (λ x. Unit {0}) (λ x y. le_z (key x) (key y))
  by_key key =
      record {
        transitive = λ x y z p q r s t. (≤ℤ-trans {x = key x} {y = key y} {z = key z} (record { le = s }) (record { le = t })).le;
        total = λ x y p q n. elim (≤ℤ_or_<ℤ (key x) (key y)) [ inl h ↦ absurd (n h.le) | inr h ↦ (<ℤ→≤ℤ h).le ];
      }

  -- the least of x ∷ xs, the first of them where several are
  unfoldable pub least : (A → A → Bool) → A → List A → A
  least at_most x [] = x
  least at_most x (y ∷ ys) = let m = least at_most y ys in elim (at_most x m) [ true ↦ x | false ↦ m ]

  -- a property of the least is shown for x, and for the least of what follows x
  least_step : (at_most : A → A → Bool) (Q : A → Type 0) (x y : A) (ys : List A) → (T (at_most x (least at_most y ys)) → Q x)
      → (¬ T (at_most x (least at_most y ys)) → Q (least at_most y ys)) → Q (least at_most x (y ∷ ys))
  unfolding least
  least_step at_most Q x y ys = by (at_most x (least at_most y ys))
    where
      by : (b : Bool) → (T b → Q x) → (¬ T b → Q (least at_most y ys)) → Q (elim b as (λ b. A) [ true ↦ x | false ↦ least at_most y ys ])
      by true f g = f tt
      by false f g = g (λ t. t)

  pub in_least : (at_most : A → A → Bool) (x : A) (xs : List A) → In (least at_most x xs) (x ∷ xs)
  unfolding least
  in_least at_most x [] = here refl
  in_least at_most x (y ∷ ys) = by (in_least at_most y ys)
    where
      by : In (least at_most y ys) (y ∷ ys) → In (least at_most x (y ∷ ys)) (x ∷ y ∷ ys)
      by i = least_step at_most (λ m. In m (x ∷ y ∷ ys)) x y ys (λ t. here refl) (λ n. there i)

  module _ {Ok : A → Type 0} {at_most : A → A → Bool} (o : TotalPreorder Ok at_most) where
    at_most_refl : (x : A) → Ok x → T (at_most x x)
    at_most_refl x p = elim (T_dec (at_most x x)) [ yes t ↦ t | no n ↦ o.total x x p p n ]

    pub least_at_most : (x : A) {xs : List A} → All Ok (x ∷ xs) → All (λ y. T (at_most (least at_most x xs) y)) (x ∷ xs)
    unfolding least
    least_at_most x {xs = []} (cons p ps) = cons (at_most_refl x p) nil
    least_at_most x {xs = y ∷ ys} (cons p ps) = by (least_at_most y ps)
      where
        m : A
        m = least at_most y ys

        q : Ok m
        q = All_in ps (in_least at_most y ys)

        by : All (λ z. T (at_most m z)) (y ∷ ys) → All (λ z. T (at_most (least at_most x (y ∷ ys)) z)) (x ∷ y ∷ ys)
        by h =
            least_step at_most (λ l. All (λ z. T (at_most l z)) (x ∷ y ∷ ys)) x y ys
            (λ t. cons (at_most_refl x p) (All_imp₂ (λ z k l. o.transitive x m z p q k t l) ps h))
            (λ n. cons (o.total x m p q n) h)

-- ---- the least number of a range

-- r is the least number from `from` to `to` of which P holds, and none exactly if there is no such number
pub data IsLeast (P : ℕ → Type 0) (from to : ℕ) : Option ℕ → Type 0 where
  nowhere : ((t : ℕ) → from ≤ t → t ≤ to → ¬ P t) → IsLeast P from to none
  least_at : (t : ℕ) → from ≤ t → t ≤ to → P t → ((s : ℕ) → from ≤ s → s < t → ¬ P s) → IsLeast P from to (some t)

-- there is only one
pub least-unique : {P : ℕ → Type 0} {from to : ℕ} {r s : Option ℕ} → IsLeast P from to r → IsLeast P from to s → r ≡ s
least-unique (nowhere h) (nowhere k) = refl
least-unique (nowhere h) (least_at t a b p f) = absurd (h t a b p)
least-unique (least_at t a b p f) (nowhere h) = absurd (h t a b p)
least-unique {P} {from} (least_at t a b p f) (least_at u c d q g) = ap some (le_antisymm (not-before u t c q f) (not-before t u a p g))
  where
    not-before : (u t : ℕ) → from ≤ u → P u → ((s : ℕ) → from ≤ s → s < t → ¬ P s) → t ≤ u
    not-before u t c q f = let n : ¬ (u < t) = λ h. f u c h q in omega arith

-- of a property that holds in the range where P does, and only there
pub least_iff : {P Q : ℕ → Type 0} {from to : ℕ} {r : Option ℕ} → ((t : ℕ) → from ≤ t → t ≤ to → P t ↔ Q t) → IsLeast P from to r → IsLeast Q from to r
least_iff f (nowhere h) = nowhere (λ t a b q. h t a b ((f t a b).1 q))
least_iff f (least_at t a b p g) = least_at t a b ((f t a b).0 p) (λ s c d q. g s c d ((f s c (omega arith)).1 q))

-- of a range that begins one earlier
least-earlier : {P : ℕ → Type 0} {from to : ℕ} {r : Option ℕ} → ¬ P from → IsLeast P (suc from) to r → IsLeast P from to r
least-earlier {P} {from} n h = by h
  where
    later : (s : ℕ) → from ≤ s → P s → suc from ≤ s
    later s a p = elim (eq-or-lt_of_le a) [ inl e ↦ absurd (n (subst P (sym e) p)) | inr k ↦ k ]

    by : {to : ℕ} {r : Option ℕ} → IsLeast P (suc from) to r → IsLeast P from to r
    by (nowhere h) = nowhere (λ s a b p. h s (later s a p) b p)
    by (least_at t a b p g) = least_at t (omega arith) b p (λ s c d q. g s (later s c q) d q)

-- ---- search

-- the first of the n numbers from t on that passes
unfoldable pub scan : (ℕ → Bool) → ℕ → ℕ → Option ℕ
scan test zero t = none
scan test (suc n) t = elim (test t) [ true ↦ some t | false ↦ scan test n (suc t) ]

-- the first number from `from` to `to` that passes
unfoldable pub first : (ℕ → Bool) → ℕ → ℕ → Option ℕ
first test from to = scan test (suc to - from) from

scan-least : (test : ℕ → Bool) (n t to : ℕ) → n ≡ suc to - t → IsLeast (λ s. T (test s)) t to (scan test n t)
unfolding scan
scan-least test zero t to e = nowhere (λ s a b. absurd (omega arith))
scan-least test (suc n) t to e = by (test t) refl (scan-least test n (suc t) to (omega arith))
  where
    by : (b : Bool) → test t ≡ b → IsLeast (λ s. T (test s)) (suc t) to (scan test n (suc t))
        → IsLeast (λ s. T (test s)) t to (elim b as (λ b. Option ℕ) [ true ↦ some t | false ↦ scan test n (suc t) ])
    by true f k = least_at t (omega arith) (omega arith) (true→T f) (λ s a b. absurd (omega arith))
    by false f k = least-earlier (false→¬T f) k

pub first-least : (test : ℕ → Bool) (from to : ℕ) → IsLeast (λ t. T (test t)) from to (first test from to)
unfolding first
first-least test from to = scan-least test (suc to - from) from to refl

pub first-none : (test : ℕ → Bool) (from to : ℕ) → (first test from to ≡ none) ↔ ((t : ℕ) → from ≤ t → t ≤ to → ¬ T (test t))
first-none test from to = (λ e. nothing (subst (IsLeast (λ t. T (test t)) from to) e is), λ f. least-unique is (nowhere f))
  where
    is : IsLeast (λ t. T (test t)) from to (first test from to)
    is = first-least test from to

    nothing : IsLeast (λ t. T (test t)) from to none → (t : ℕ) → from ≤ t → t ≤ to → ¬ T (test t)
    nothing (nowhere h) = h

-- ---- search of a long range, for a test that passes at an end of it if it passes anywhere
abbrev pub AtAnEnd : (ℕ → Bool) → ℕ → ℕ → Type 0
AtAnEnd test from to = (t : ℕ) → from ≤ t → t ≤ to → T (test t) → T (test from || test to)

-- the first number that passes, where nothing is searched if neither end passes
unfoldable pub first_by_ends : (ℕ → Bool) → ℕ → ℕ → Option ℕ
first_by_ends test from to = elim (test from || test to) [ true ↦ first test from to | false ↦ none ]

pub first_by_ends-is : (test : ℕ → Bool) (from to : ℕ) → AtAnEnd test from to → first_by_ends test from to ≡ first test from to
unfolding first_by_ends
first_by_ends-is test from to ends = by (test from || test to) refl
  where
    by : (b : Bool) → (test from || test to) ≡ b → elim b as (λ b. Option ℕ) [ true ↦ first test from to | false ↦ none ] ≡ first test from to
    by true e = refl
    by false e = sym ((first-none test from to).1 (λ t a b p. false→¬T e (ends t a b p)))

-- so it is the least number that passes
pub first_by_ends-least : (test : ℕ → Bool) (from to : ℕ) → AtAnEnd test from to → IsLeast (λ t. T (test t)) from to (first_by_ends test from to)
first_by_ends-least test from to ends = subst (IsLeast (λ t. T (test t)) from to) (sym (first_by_ends-is test from to ends)) (first-least test from to)

-- both compute over the 32-bit numbers
example-first : first (λ t. leb 77 t) 50 4294967295 ≡ some 77
unfolding first scan
example-first = refl

example-none : first_by_ends (λ t. false) 50 4294967295 ≡ none
unfolding first_by_ends
example-none = refl
