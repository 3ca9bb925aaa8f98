-- Sorted lists, over any type with a Boolean strict order: strictly rising lists, sorting with each entry once, and that a rising list is known by its entries.
-- The laws of the order may hold only of the entries that are Ok, such as lines in lowest terms; then the lists are those of Ok entries, All Ok xs.
--
--     StrictOrder Ok before                        irreflexive, transitive, and equal where neither is before the other; flip_order: the other way round
--     Rising before xs                             each entry is before all that follow it: the library's Pairwise, whose laws serve too
--     insert, sorted                               x put in its place, unless it is there; the entries in their order, each once
--
--     rising_unique                                two rising lists with the same entries are equal
--     sorted_rising, sorted_members, in_sorted     sorted rises, and its entries are those of the list; in_sorted_inv, All_sorted, length-sorted
--     sorted_is, sorted_same                       a rising list with the entries of ys is ys, sorted; lists with the same entries are sorted alike
--     insert_rising, All-insert                    the same of insert; in_insert_new, in_insert_old, in_insert_inv
--     rising_cons, rising_head, rising_tail        the first is before every other; rising_cons_cons: it is enough that it is before the second
--     rising-last                                  the last is after every other
--     rising_append, rising_append_left, -right,   of xs ++ ys: both rise, and every entry of xs is before every entry of ys; rising_join: two that meet in an entry
--     rising_append_across
--     rising_filter, rising_split, rising_merge    the entries that pass a test rise; those before the first that fails; both parts put together again
--     rising_reverse, rising_reverse_inv           the other way round
--     rising_map, rising_map_inv, rising_imp       by what a function makes of the entries; by another order
--     rising_nodup                                 no entry stands twice
--     natural-order                                the natural numbers by ltb
--
-- Example: `sorted ltb (3 ∷ 1 ∷ 2 ∷ 1 ∷ [])` computes to 1 ∷ 2 ∷ 3 ∷ []; with o : StrictOrder Ok before, r : Rising before xs, s : Rising before ys,
-- p : All Ok xs and m : SameMembers xs ys, `rising_unique o p r s m : xs ≡ ys`.
-- Assumes nothing.
use Rattle.std.specs.Prelude.{◌≡◌, ◌⊎◌, ltb}
use Rattle.std.proofs.Math.Path.{refl}
use Rattle.std.proofs.Common.{sym, ap, ap₂, ◌∙◌, subst, inl, inr, T_not, ltb→lt, lt→ltb, nltb→le}
use Rattle.std.proofs.Math.Logic.{∥∥₁_elim}
use Rattle.std.proofs.Math.Bool.{Bool, true, false, not}
use mathlib.Core.List as Core
use mathlib.Core.List.{List, [], ◌∷◌, ◌++◌, map, reverse, get_last_d, Pairwise, Nodup}
use Prim.Native.Nat.{ℕ, suc, ◌≤◌}
use native.Mathlib.Omega.{arith}
use Rattle.std.proofs.Math.Dec.{T, T_prop, not_T}
use Rattle.std.proofs.Math.ListN.{length}
use Rattle.integers.specs.Booleans.{T_dec}
use mathlib.Core.List.Memᴰ
use Rattle.integers.specs.Lists.{filter, All, nil, cons, In, here, there, SameMembers, same_members_sym, same_members_trans, not-in-nil, All_in, All_of, All-head, All-tail, All_imp, All_imp₂, All-append, All_append_left, All_append_right, filter-true, filter-false, filter_all, filter_none, filter_members, All-filter, in_last, last_cons}

module _ {A : Type 0} where
  -- `before` is a strict order of the entries that are Ok, and they are equal where neither is before the other
  pub record StrictOrder (Ok : A → Type 0) (before : A → A → Bool) : Type 0 where
    pub irreflexive : (x : A) → Ok x → ¬ T (before x x)
    pub transitive : (x y z : A) → Ok x → Ok y → Ok z → T (before x y) → T (before y z) → T (before x z)
    pub trichotomous : (x y : A) → Ok x → Ok y → ¬ T (before x y) → ¬ T (before y x) → x ≡ y

  -- each entry is before all that follow it
  abbrev pub Rising : (A → A → Bool) → List A → Type 0
  Rising before = Pairwise (λ x y. T (before x y))

  -- x put in its place, where it is not there yet
  unfoldable pub insert : (A → A → Bool) → A → List A → List A
  insert before x [] = x ∷ []
  insert before x (y ∷ ys) = elim (before x y) [ true ↦ x ∷ y ∷ ys | false ↦ elim (before y x) [ true ↦ y ∷ insert before x ys | false ↦ y ∷ ys ] ]

  -- the entries in their order, each once
  unfoldable pub sorted : (A → A → Bool) → List A → List A
  sorted before [] = []
  sorted before (x ∷ xs) = insert before x (sorted before xs)

  module _ (before : A → A → Bool) where
    -- ---- rising lists, whatever the order

    -- the library's laws speak of mere membership, from which only what has a single proof can be had
    before_prop : (x y : A) → IsProp (T (before x y))
    before_prop x y = T_prop (before x y)

    pub rising_cons : {x : A} {xs : List A} → All (λ y. T (before x y)) xs → Rising before xs → Rising before (x ∷ xs)
    rising_cons {x} h r = Pairwise.cons (λ y m. ∥∥₁_elim m (before_prop x y) (λ i. All_in h i)) r

    pub rising_head : {x : A} {xs : List A} → Rising before (x ∷ xs) → All (λ y. T (before x y)) xs
    rising_head {xs} r = All_of xs (λ y i. Core.rel_of_Pairwise-cons r ∣ i ∣₁)

    pub rising_tail : {x : A} {xs : List A} → Rising before (x ∷ xs) → Rising before xs
    rising_tail r = Core.Pairwise.of_cons r

    pub rising_append : {xs ys : List A} → Rising before xs → Rising before ys → All (λ x. All (λ y. T (before x y)) ys) xs → Rising before (xs ++ ys)
    rising_append r s h = (Core.Pairwise-append before_prop).1 (r, s, λ x m y n. ∥∥₁_elim m (before_prop x y) (λ i. ∥∥₁_elim n (before_prop x y) (λ k. All_in (All_in h i) k)))

    pub rising_append_left : (xs ys : List A) → Rising before (xs ++ ys) → Rising before xs
    rising_append_left xs ys r = ((Core.Pairwise-append before_prop {l₁ = xs} {l₂ = ys}).0 r).0

    pub rising_append_right : (xs ys : List A) → Rising before (xs ++ ys) → Rising before ys
    rising_append_right xs ys r = ((Core.Pairwise-append before_prop {l₁ = xs} {l₂ = ys}).0 r).1

    pub rising_append_across : (xs ys : List A) → Rising before (xs ++ ys) → All (λ x. All (λ y. T (before x y)) ys) xs
    rising_append_across xs ys r = All_of xs (λ x i. All_of ys (λ y k. ((Core.Pairwise-append before_prop {l₁ = xs} {l₂ = ys}).0 r).2 x ∣ i ∣₁ y ∣ k ∣₁))

    pub rising-last : (x : A) (xs : List A) → Rising before (x ∷ xs) → All (λ y. (y ≡ get_last_d xs x) ⊎ T (before y (get_last_d xs x))) (x ∷ xs)
    unfolding get_last_d
    rising-last x [] r = cons (inl refl) nil
    rising-last x (y ∷ ys) r = rw (last_cons x y ys) (cons (inr (All_in (rising_head r) (in_last y ys))) (rising-last y ys (rising_tail r)))

    pub rising_filter : (test : A → Bool) {xs : List A} → Rising before xs → Rising before (filter test xs)
    unfolding filter
    rising_filter test r = Core.Pairwise.filter (λ x. T_dec (test x)) r

    pub rising_reverse : (xs : List A) → Rising (λ x y. before y x) xs → Rising before (reverse xs)
    rising_reverse xs r = (Core.Pairwise-reverse before_prop {l = xs}).1 r

    pub rising_reverse_inv : (xs : List A) → Rising before (reverse xs) → Rising (λ x y. before y x) xs
    rising_reverse_inv xs r = (Core.Pairwise-reverse before_prop {l = xs}).0 r

    -- another test that passes where `before` does, of entries of the list
    pub rising_imp : (after : A → A → Bool) {xs : List A} → ((x y : A) → In x xs → In y xs → T (before x y) → T (after x y)) → Rising before xs → Rising after xs
    rising_imp after f r = Core.Pairwise.imp_of_mem (λ x y m n t. ∥∥₁_elim m (T_prop (after x y)) (λ i. ∥∥₁_elim n (T_prop (after x y)) (λ k. f x y i k t))) r

    -- a test that no entry passes after one that fails cuts a rising list in two
    pub rising_split : (test : A → Bool) (xs : List A) → ((x y : A) → In x xs → In y xs → T (before x y) → T (test y) → T (test x)) → Rising before xs
        → xs ≡ filter test xs ++ filter (λ x. not (test x)) xs
    unfolding filter
    rising_split test [] down r = refl
    rising_split test (x ∷ xs) down r = by (T_dec (test x)) (rising_split test xs (λ y z i k. down y z (there i) (there k)) (rising_tail r))
      where
        fails : A → Bool
        fails y = not (test y)

        later : ¬ T (test x) → All (λ y. ¬ T (test y)) xs
        later n = All_of xs (λ y i t. n (down x y (here refl) (there i) (All_in (rising_head r) i) t))

        by : Dec (T (test x)) → xs ≡ filter test xs ++ filter fails xs → x ∷ xs ≡ filter test (x ∷ xs) ++ filter fails (x ∷ xs)
        by (yes t) e = ap (λ l. x ∷ l) e ∙ sym (ap₂ ◌++◌ (filter-true test x xs t) (filter-false fails x xs (λ s. T_not (test x) s t)))
        by (no n) e = sym (ap₂ ◌++◌ (filter_none test (cons n (later n))) (filter_all fails (All_imp (λ y m. not_T (test y) m) (cons n (later n)))))

    -- ---- what `insert` and `sorted` do, whatever the order

    -- a property of the list with x put in is shown for each of the three places that x can have beside y
    insert_step : (Q : List A → Type 0) (x y : A) (ys : List A) → (T (before x y) → Q (x ∷ y ∷ ys)) → (¬ T (before x y) → T (before y x) → Q (y ∷ insert before x ys))
        → (¬ T (before x y) → ¬ T (before y x) → Q (y ∷ ys)) → Q (insert before x (y ∷ ys))
    unfolding insert
    insert_step Q x y ys = by (before x y) (before y x)
      where
        by : (b c : Bool) → (T b → Q (x ∷ y ∷ ys)) → (¬ T b → T c → Q (y ∷ insert before x ys)) → (¬ T b → ¬ T c → Q (y ∷ ys))
            → Q (elim b as (λ b. List A) [ true ↦ x ∷ y ∷ ys | false ↦ elim c as (λ c. List A) [ true ↦ y ∷ insert before x ys | false ↦ y ∷ ys ] ])
        by true c f g h = f tt
        by false true f g h = g (λ t. t) tt
        by false false f g h = h (λ t. t) (λ t. t)

    pub All-insert : {P : A → Type 0} (x : A) {xs : List A} → P x → All P xs → All P (insert before x xs)
    unfolding insert
    All-insert x p nil = cons p nil
    All-insert {P} x p (cons {x = y} {xs = ys} h hs) = by (All-insert x p hs)
      where
        by : All P (insert before x ys) → All P (insert before x (y ∷ ys))
        by k = insert_step (All P) x y ys (λ t. cons p (cons h hs)) (λ n t. cons h k) (λ n m. cons h hs)

    pub in_insert_inv : {z : A} (x : A) (xs : List A) → In z (insert before x xs) → (z ≡ x) ⊎ In z xs
    in_insert_inv x xs i = All_in {P = λ y. (y ≡ x) ⊎ In y xs} (All-insert x (inl refl) (All_of xs (λ y k. inr k))) i

    pub in_insert_old : {z : A} (x : A) {xs : List A} → In z xs → In z (insert before x xs)
    in_insert_old {z} x (here {x = y} {xs = ys} e) = insert_step (In z) x y ys (λ t. there (here e)) (λ n t. here e) (λ n m. here e)
    in_insert_old {z} x (there {x = y} {xs = ys} i) = by (in_insert_old x i)
      where
        by : In z (insert before x ys) → In z (insert before x (y ∷ ys))
        by k = insert_step (In z) x y ys (λ t. there (there i)) (λ n t. there k) (λ n m. there i)

    length-insert : (x : A) (xs : List A) → length (insert before x xs) ≤ suc (length xs)
    unfolding insert
    length-insert x [] = omega arith
    length-insert x (y ∷ ys) = by (length-insert x ys)
      where
        by : length (insert before x ys) ≤ suc (length ys) → length (insert before x (y ∷ ys)) ≤ suc (suc (length ys))
        by k = insert_step (λ l. length l ≤ suc (suc (length ys))) x y ys (λ t. omega arith) (λ n t. omega arith) (λ n m. omega arith)

    pub length-sorted : (xs : List A) → length (sorted before xs) ≤ length xs
    unfolding sorted
    length-sorted [] = omega arith
    length-sorted (x ∷ xs) = omega (arith, length-insert x (sorted before xs), length-sorted xs)

    pub All_sorted : {P : A → Type 0} {xs : List A} → All P xs → All P (sorted before xs)
    unfolding sorted
    All_sorted nil = nil
    All_sorted (cons {x} h hs) = All-insert x h (All_sorted hs)

    pub in_sorted_inv : {z : A} (xs : List A) → In z (sorted before xs) → In z xs
    in_sorted_inv xs i = All_in (All_sorted (All_of xs (λ x k. k))) i

  -- ---- with the laws of the order
  module _ {Ok : A → Type 0} {before : A → A → Bool} (o : StrictOrder Ok before) where
    asymmetric : (x y : A) → Ok x → Ok y → T (before x y) → ¬ T (before y x)
    asymmetric x y p q s t = o.irreflexive x p (o.transitive x y x p q p s t)

    pub rising_nodup : {xs : List A} → All Ok xs → Rising before xs → Nodup xs
    rising_nodup nil r = Pairwise.nil
    rising_nodup (cons {x} p ps) (Pairwise.cons h r) = Pairwise.cons (λ y m e. o.irreflexive x p (subst (λ z. T (before x z)) (sym e) (h y m))) (rising_nodup ps r)

    -- from one entry to the next is enough
    pub rising_cons_cons : {x y : A} {ys : List A} → All Ok (x ∷ y ∷ ys) → T (before x y) → Rising before (y ∷ ys) → Rising before (x ∷ y ∷ ys)
    rising_cons_cons {x} {y} (cons p (cons q qs)) t r = rising_cons before (cons t (All_imp₂ (λ z k h. o.transitive x y z p q k t h) qs (rising_head before r))) r

    -- two rising lists that meet in m
    pub rising_join : (xs : List A) (m : A) (ys : List A) → All Ok (xs ++ (m ∷ ys)) → Rising before (xs ++ (m ∷ [])) → Rising before (m ∷ ys) → Rising before (xs ++ (m ∷ ys))
    rising_join xs m ys p r s = rising_append before (rising_append_left before xs (m ∷ []) r) s (All_imp₂ across (All_append_left xs (m ∷ ys) p) (rising_append_across before xs (m ∷ []) r))
      where
        q : All Ok (m ∷ ys)
        q = All_append_right xs (m ∷ ys) p

        across : (x : A) → Ok x → All (λ y. T (before x y)) (m ∷ []) → All (λ y. T (before x y)) (m ∷ ys)
        across x k (cons t nil) = cons t (All_imp₂ (λ y l h. o.transitive x m y k (All-head q) l t h) (All-tail q) (rising_head before s))

    -- ---- a rising list is known by its entries

    -- the first of the one is the first of the other
    same_head : {x y : A} {xs ys : List A} → All Ok (x ∷ xs) → Rising before (x ∷ xs) → Rising before (y ∷ ys) → In x (y ∷ ys) → In y (x ∷ xs) → x ≡ y
    same_head p r s (here e) k = e
    same_head p r s (there i) (here e) = sym e
    same_head {x} {y} p r s (there i) (there k) = absurd (asymmetric x y (All-head p) (All_in (All-tail p) k) (All_in (rising_head before r) k) (All_in (rising_head before s) i))

    -- what follows x is found after y
    later_in : {x y : A} {xs ys : List A} → Ok x → x ≡ y → Rising before (x ∷ xs) → ((z : A) → In z (x ∷ xs) → In z (y ∷ ys)) → (z : A) → In z xs → In z ys
    later_in {x} {y} {xs} {ys} p e r into z i = by (into z (there i))
      where
        by : In z (y ∷ ys) → In z ys
        by (here d) = absurd (o.irreflexive x p (subst (λ w. T (before x w)) (d ∙ sym e) (All_in (rising_head before r) i)))
        by (there k) = k

    pub rising_unique : {xs ys : List A} → All Ok xs → Rising before xs → Rising before ys → SameMembers xs ys → xs ≡ ys
    rising_unique {xs = []} {ys = []} p r s m = refl
    rising_unique {xs = []} {ys = y ∷ ys} p r s m = absurd (not-in-nil (m.back y (here refl)))
    rising_unique {xs = x ∷ xs} {ys = []} p r s m = absurd (not-in-nil (m.into x (here refl)))
    rising_unique {xs = x ∷ xs} {ys = y ∷ ys} p r s m =
        ap₂ (λ z zs. z ∷ zs) e
        (rising_unique {xs = xs} {ys = ys} (All-tail p) (rising_tail before r) (rising_tail before s)
        (record { into = later_in (All-head p) e r m.into; back = later_in (subst Ok e (All-head p)) (sym e) s m.back }))
      where
        e : x ≡ y
        e = same_head p r s (m.into x (here refl)) (m.back y (here refl))

    -- ---- `sorted` rises, and has the entries of its list
    pub insert_rising : (x : A) {xs : List A} → Ok x → All Ok xs → Rising before xs → Rising before (insert before x xs)
    unfolding insert
    insert_rising x {xs = []} p ps r = rising_cons before nil Pairwise.nil
    insert_rising x {xs = y ∷ ys} p (cons q qs) r = by (insert_rising x p qs (rising_tail before r))
      where
        by : Rising before (insert before x ys) → Rising before (insert before x (y ∷ ys))
        by k =
            insert_step before (Rising before) x y ys
            (λ t. rising_cons_cons (cons p (cons q qs)) t r)
            (λ n t. rising_cons before (All-insert before x t (rising_head before r)) k)
            (λ n m. r)

    pub in_insert_new : (x : A) {xs : List A} → Ok x → All Ok xs → In x (insert before x xs)
    unfolding insert
    in_insert_new x p nil = here refl
    in_insert_new x p (cons {x = y} {xs = ys} q qs) = by (in_insert_new x p qs)
      where
        by : In x (insert before x ys) → In x (insert before x (y ∷ ys))
        by k = insert_step before (In x) x y ys (λ t. here refl) (λ n t. there k) (λ n m. here (o.trichotomous x y p q n m))

    pub sorted_rising : {xs : List A} → All Ok xs → Rising before (sorted before xs)
    unfolding sorted
    sorted_rising nil = Pairwise.nil
    sorted_rising (cons {x} p ps) = insert_rising x p (All_sorted before ps) (sorted_rising ps)

    pub in_sorted : {z : A} {xs : List A} → All Ok xs → In z xs → In z (sorted before xs)
    unfolding sorted
    in_sorted {z = z} nil x3 = elim x3 [ ]
    in_sorted (cons {x} p ps) (here e) = Memᴰ.cast e (in_insert_new x p (All_sorted before ps))
    in_sorted (cons {x} p ps) (there i) = in_insert_old before x (in_sorted ps i)

    pub sorted_members : {xs : List A} → All Ok xs → SameMembers (sorted before xs) xs
    sorted_members {xs} p = record { into = λ z i. in_sorted_inv before xs i; back = λ z i. in_sorted p i }

    -- so a rising list with the entries of ys is ys, sorted
    pub sorted_is : {xs ys : List A} → All Ok ys → Rising before xs → SameMembers xs ys → sorted before ys ≡ xs
    sorted_is p r m = rising_unique (All_sorted before p) (sorted_rising p) r (same_members_trans (sorted_members p) (same_members_sym m))

    pub sorted_same : {xs ys : List A} → All Ok xs → SameMembers xs ys → sorted before xs ≡ sorted before ys
    sorted_same {xs} {ys} p m = sorted_is p (sorted_rising q) (same_members_trans (sorted_members q) (same_members_sym m))
      where
        q : All Ok ys
        q = All_of ys (λ y i. All_in p (m.back y i))

    pub rising_merge : (test : A → Bool) {xs : List A} → All Ok xs → Rising before xs → sorted before (filter test xs ++ filter (λ x. not (test x)) xs) ≡ xs
    rising_merge test {xs} p r = sorted_is (All-append (All-filter test p) (All-filter (λ x. not (test x)) p)) r (same_members_sym (filter_members test xs))

  -- the order the other way round: what falls by the one rises by the other
  pub flip_order : {Ok : A → Type 0} {before : A → A → Bool} → StrictOrder Ok before → StrictOrder Ok (λ x y. before y x)
  flip_order o =
      record {
        irreflexive = o.irreflexive;
        transitive = λ x y z p q r s t. o.transitive z y x r q p t s;
        trichotomous = λ x y p q m n. o.trichotomous x y p q n m;
      }

-- ---- a rising list of what f makes of the entries
module _ {A B : Type 0} (before : B → B → Bool) (f : A → B) where
  pub rising_map : {xs : List A} → Rising (λ x y. before (f x) (f y)) xs → Rising before (map f xs)
  rising_map r = (Core.Pairwise-map (λ x y. T_prop (before x y)) f).1 r

  pub rising_map_inv : (xs : List A) → Rising before (map f xs) → Rising (λ x y. before (f x) (f y)) xs
  rising_map_inv xs r = (Core.Pairwise-map (λ x y. T_prop (before x y)) f).0 r

-- ---- the natural numbers
pub natural-order : StrictOrder (λ (n : ℕ). Unit {0}) ltb
natural-order =
    record {
      irreflexive = λ x p t. let h = ltb→lt x x t in omega arith;
      transitive = λ x y z p q r s t. let h = ltb→lt x y s in let k = ltb→lt y z t in lt→ltb x z (omega arith);
      trichotomous = λ x y p q m n. let h = nltb→le x y (not_T (ltb x y) m) in let k = nltb→le y x (not_T (ltb y x) n) in omega arith;
    }

-- entries out of order, and one of them twice
example : sorted ltb (3 ∷ 1 ∷ 2 ∷ 1 ∷ []) ≡ 1 ∷ 2 ∷ 3 ∷ []
unfolding sorted insert
example = refl
