-- Finite lists: tests of the entries that compute, what holds of every entry or of some entry, and which entries there are.
-- Lists, ++, map, reverse and flatten are those of mathlib.Core.List, and so is membership, which has a short name here. The library's `all` and `any` do not
-- unfold and its `filter` takes a decision, so the three stand here for Boolean tests.
--
--     all, any, filter                             every entry passes; some entry passes; the entries that pass
--     All P xs (nil, cons)                         P holds of every entry
--     Any P xs                                     an entry of which P holds
--     In x xs (here, there)                        x is an entry: `here e` with e : x ≡ y finds x first in y ∷ ys, `there i` where i finds it in ys
--     SameMembers xs ys                            the entries of the one are the entries of the other; same_members_sym, same_members_trans
--
--     all_means, all_passes, all_fails             T (all test xs) gives All P xs where the test gives P, and the other way round; what it means that it fails
--     any_means, any_passes, any_fails             the same of T (any test xs) and Any P xs
--     All_in, All_of, All-head, All-tail           from every entry to one, and back
--     All_imp, All_imp₂, All_imp₃, Any_imp         weakened entry by entry; Any_here, Any_there: found first, found later
--     All-append, All_append_left, -right          of xs ++ ys, made and taken apart; so All-map, All_map_inv; All-filter, All-reverse, All_flatten
--     in_append_left, in_append_right, in_map      x is an entry of the longer list; so in_filter, in_reverse, in_flatten
--     in-cons-inv, in-append-inv, in-map-inv       where an entry of it comes from; so in_filter_inv, in_reverse_inv, in_flatten_inv; not-in-nil
--     in_split                                     what stands before an entry and what after it
--     last_cons, in_last                           the last of x ∷ xs, get_last_d xs x, is an entry
--     last_snoc                                    the last of xs ++ (y ∷ [])
--     filter-true, filter-false, filter_passes     the first entry stays, or goes; what stays passes
--     filter_all, filter_none, filter-append       nothing goes; nothing stays; of xs ++ ys
--     filter_members, length_filter_not            the entries that pass and those that fail are all entries; length-filter: at most as many pass
--     flatten_append, levi                         of lists of lists; of two ways to cut one list in two
--
-- Example: with h : T (all test xs) and i : In x xs, `All_in (all_means test (λ y t. t) xs h) i : T (test x)`.
-- Assumes nothing.
use Rattle.std.specs.Prelude.{◌≡◌, ◌⊎◌, Bool, true, false, not, ◌&&◌, ◌||◌, suc, ◌+◌, ◌≤◌, length}
use Rattle.std.proofs.Math.Path.{refl, sym, ap, subst}
use Rattle.std.proofs.Common.{◌∙◌, inl, inr}
use Rattle.std.proofs.Math.Logic.{if_pos, if_neg, ite}
use mathlib.Core.List as Core
use mathlib.Core.List.{List, [], ◌∷◌, ◌++◌, map, reverse, reverse_aux, flatten, get_last_d, append_assoc, head-eq_of_cons-eq, tail-eq_of_cons-eq}
pub use mathlib.Core.List.Memᴰ.{head as here}
pub use mathlib.Core.List.Memᴰ.{tail as there}
pub use mathlib.Core.List.{Memᴰ as In}
pub use mathlib.Core.List.Memᴰ.{cases_cons as in-cons-inv}
pub use mathlib.Core.List.Memᴰ.{not-nil as not-in-nil}
pub use mathlib.Core.List.Memᴰ.{append_cases as in-append-inv}
pub use mathlib.Core.List.Memᴰ.{append_left as in_append_left}
pub use mathlib.Core.List.Memᴰ.{append_right as in_append_right}
pub use mathlib.Core.List.Memᴰ.{map as in_map}
pub use mathlib.Core.List.Memᴰ.{of_map as in-map-inv}
use native.Mathlib.Omega.{arith}
use Rattle.std.proofs.Math.Dec.{T, not_T}
use mathlib.Core.List.Memᴰ
use Rattle.integers.specs.Booleans.{T_dec, and_intro, and_left, and_right, or_left, or_right, or_cases}

module _ {A : Type 0} where
  -- ---- tests

  -- every entry passes
  unfoldable pub all : (A → Bool) → List A → Bool
  all test [] = true
  all test (x ∷ xs) = test x && all test xs

  -- some entry passes
  unfoldable pub any : (A → Bool) → List A → Bool
  any test [] = false
  any test (x ∷ xs) = test x || any test xs

  -- the entries that pass
  unfoldable pub filter : (A → Bool) → List A → List A
  filter test xs = Core.filter (λ x. T_dec (test x)) xs

  -- ---- properties

  -- P holds of every entry
  pub data All (P : A → Type 0) : List A → Type 0 where
    nil : All P []
    cons : {x : A} {xs : List A} → P x → All P xs → All P (x ∷ xs)

  -- an entry of which P holds
  pub record Any (P : A → Type 0) (xs : List A) : Type 0 where
    pub entry : A
    pub among : In entry xs
    pub holds : P entry

  -- the entries of the one are the entries of the other
  pub record SameMembers (xs ys : List A) : Type 0 where
    pub into : (x : A) → In x xs → In x ys
    pub back : (x : A) → In x ys → In x xs

  pub same_members_sym : {xs ys : List A} → SameMembers xs ys → SameMembers ys xs
  same_members_sym m = record { into = m.back; back = m.into }

  pub same_members_trans : {xs ys zs : List A} → SameMembers xs ys → SameMembers ys zs → SameMembers xs zs
  same_members_trans m n = record { into = λ x i. n.into x (m.into x i); back = λ x i. m.back x (n.back x i) }

  -- ---- every entry
  pub All_in : {P : A → Type 0} {x : A} {xs : List A} → All P xs → In x xs → P x
  All_in {P = P} nil x4 = elim x4 [ ]
  All_in {P} (cons h hs) (here e) = subst P (sym e) h
  All_in (cons h hs) (there i) = All_in hs i

  pub All_of : {P : A → Type 0} (xs : List A) → ((x : A) → In x xs → P x) → All P xs
  All_of [] f = nil
  All_of (x ∷ xs) f = cons (f x (here refl)) (All_of xs (λ y i. f y (there i)))

  pub All-head : {P : A → Type 0} {x : A} {xs : List A} → All P (x ∷ xs) → P x
  All-head (cons h hs) = h

  pub All-tail : {P : A → Type 0} {x : A} {xs : List A} → All P (x ∷ xs) → All P xs
  All-tail (cons h hs) = hs

  pub All_imp : {P Q : A → Type 0} {xs : List A} → ((x : A) → P x → Q x) → All P xs → All Q xs
  All_imp f nil = nil
  All_imp f (cons {x} h hs) = cons (f x h) (All_imp f hs)

  pub All_imp₂ : {P Q R : A → Type 0} {xs : List A} → ((x : A) → P x → Q x → R x) → All P xs → All Q xs → All R xs
  All_imp₂ f nil nil = nil
  All_imp₂ f (cons {x} h hs) (cons k ks) = cons (f x h k) (All_imp₂ f hs ks)

  pub All_imp₃ : {P Q R S : A → Type 0} {xs : List A} → ((x : A) → P x → Q x → R x → S x) → All P xs → All Q xs → All R xs → All S xs
  All_imp₃ f nil nil nil = nil
  All_imp₃ f (cons {x} h hs) (cons k ks) (cons l ls) = cons (f x h k l) (All_imp₃ f hs ks ls)

  pub All-append : {P : A → Type 0} {xs ys : List A} → All P xs → All P ys → All P (xs ++ ys)
  All-append nil k = k
  All-append (cons h hs) k = cons h (All-append hs k)

  pub All_append_left : {P : A → Type 0} (xs ys : List A) → All P (xs ++ ys) → All P xs
  All_append_left [] ys h = nil
  All_append_left (x ∷ xs) ys (cons h hs) = cons h (All_append_left xs ys hs)

  pub All_append_right : {P : A → Type 0} (xs ys : List A) → All P (xs ++ ys) → All P ys
  All_append_right [] ys h = h
  All_append_right (x ∷ xs) ys (cons h hs) = All_append_right xs ys hs

  -- ---- some entry
  pub Any_here : {P : A → Type 0} {x : A} {xs : List A} → P x → Any P (x ∷ xs)
  Any_here {x} h = record { entry = x; among = here refl; holds = h }

  pub Any_there : {P : A → Type 0} {x : A} {xs : List A} → Any P xs → Any P (x ∷ xs)
  Any_there k = record { entry = k.entry; among = there k.among; holds = k.holds }

  pub Any_imp : {P Q : A → Type 0} {xs : List A} → ((x : A) → P x → Q x) → Any P xs → Any Q xs
  Any_imp f k = record { entry = k.entry; among = k.among; holds = f k.entry k.holds }

  -- ---- what the tests mean
  module _ {P : A → Type 0} (test : A → Bool) where
    pub all_means : ((x : A) → T (test x) → P x) → (xs : List A) → T (all test xs) → All P xs
    unfolding all
    all_means f [] t = nil
    all_means f (x ∷ xs) t = cons (f x (and_left (test x) (all test xs) t)) (all_means f xs (and_right (test x) (all test xs) t))

    pub all_passes : ((x : A) → P x → T (test x)) → {xs : List A} → All P xs → T (all test xs)
    unfolding all
    all_passes f nil = tt
    all_passes f (cons {x} {xs} h hs) = and_intro (test x) (all test xs) (f x h) (all_passes f hs)

    pub any_means : ((x : A) → T (test x) → P x) → (xs : List A) → T (any test xs) → Any P xs
    unfolding any
    any_means f [] t = absurd t
    any_means f (x ∷ xs) t = by (or_cases (test x) (any test xs) t) (λ s. any_means f xs s)
      where
        by : T (test x) ⊎ T (any test xs) → (T (any test xs) → Any P xs) → Any P (x ∷ xs)
        by (inl s) more = Any_here (f x s)
        by (inr s) more = Any_there (more s)

    pub any_passes : ((x : A) → P x → T (test x)) → {xs : List A} → Any P xs → T (any test xs)
    unfolding any
    any_passes f k = found k.among (f k.entry k.holds)
      where
        found : {x : A} {xs : List A} → In x xs → T (test x) → T (any test xs)
        found (here {x = y} {xs} e) t = or_left (test y) (any test xs) (subst (λ z. T (test z)) e t)
        found (there {x = y} {xs} i) t = or_right (test y) (any test xs) (found i t)

  pub all_fails : (test : A → Bool) (xs : List A) → ¬ T (all test xs) → Any (λ x. ¬ T (test x)) xs
  unfolding all
  all_fails test [] n = absurd (n tt)
  all_fails test (x ∷ xs) n = by (T_dec (test x)) (λ m. all_fails test xs m)
    where
      by : Dec (T (test x)) → (¬ T (all test xs) → Any (λ x. ¬ T (test x)) xs) → Any (λ x. ¬ T (test x)) (x ∷ xs)
      by (no m) more = Any_here m
      by (yes t) more = Any_there (more (λ s. n (and_intro (test x) (all test xs) t s)))

  pub any_fails : (test : A → Bool) (xs : List A) → ¬ T (any test xs) → All (λ x. ¬ T (test x)) xs
  any_fails test xs n = All_of xs (λ x i t. n (any_passes test (λ y s. s) (record { entry = x; among = i; holds = t })))

  -- ---- the entries that pass
  module _ (test : A → Bool) where
    pub filter-true : (x : A) (xs : List A) → T (test x) → filter test (x ∷ xs) ≡ x ∷ filter test xs
    unfolding filter
    filter-true x xs t = if_pos (T_dec (test x)) t (x ∷ filter test xs) (filter test xs)

    pub filter-false : (x : A) (xs : List A) → ¬ T (test x) → filter test (x ∷ xs) ≡ filter test xs
    unfolding filter
    filter-false x xs n = if_neg (T_dec (test x)) n (x ∷ filter test xs) (filter test xs)

    pub filter-append : (xs ys : List A) → filter test (xs ++ ys) ≡ filter test xs ++ filter test ys
    unfolding filter
    filter-append xs ys = Core.filter-append (λ x. T_dec (test x)) xs ys

    pub filter_all : {xs : List A} → All (λ x. T (test x)) xs → filter test xs ≡ xs
    unfolding filter
    filter_all nil = refl
    filter_all (cons {x} {xs} h hs) = filter-true x xs h ∙ ap (λ l. x ∷ l) (filter_all hs)

    pub filter_none : {xs : List A} → All (λ x. ¬ T (test x)) xs → filter test xs ≡ []
    unfolding filter
    filter_none nil = refl
    filter_none (cons {x} {xs} h hs) = filter-false x xs h ∙ filter_none hs

    pub in_filter : {x : A} {xs : List A} → In x xs → T (test x) → In x (filter test xs)
    unfolding filter
    in_filter {x} (here {x = y} {xs} e) t = subst (In x) (sym (filter-true y xs (subst (λ z. T (test z)) e t))) (here e)
    in_filter {x} (there {x = y} {xs} i) t = by (T_dec (test y)) (in_filter i t)
      where
        by : (d : Dec (T (test y))) → In x (filter test xs) → In x (ite d (y ∷ filter test xs) (filter test xs))
        by (yes s) k = there k
        by (no n) k = k

    pub in_filter_inv : {x : A} (xs : List A) → In x (filter test xs) → In x xs × T (test x)
    unfolding filter
    in_filter_inv [] i = absurd (not-in-nil i)
    in_filter_inv {x} (y ∷ ys) i = by (T_dec (test y)) (λ k. in_filter_inv ys k) i
      where
        by : (d : Dec (T (test y))) → (In x (filter test ys) → In x ys × T (test x)) → In x (ite d (y ∷ filter test ys) (filter test ys)) → In x (y ∷ ys) × T (test x)
        by (yes t) more (here e) = (here e, subst (λ z. T (test z)) (sym e) t)
        by (yes t) more (there k) = (there (more k).0, (more k).1)
        by (no n) more k = (there (more k).0, (more k).1)

    pub All-filter : {P : A → Type 0} {xs : List A} → All P xs → All P (filter test xs)
    All-filter {xs} h = All_of (filter test xs) (λ x i. All_in h (in_filter_inv xs i).0)

    pub filter_passes : (xs : List A) → All (λ x. T (test x)) (filter test xs)
    filter_passes xs = All_of (filter test xs) (λ x i. (in_filter_inv xs i).1)

  -- the entries that pass and those that fail are all entries
  pub filter_members : (test : A → Bool) (xs : List A) → SameMembers (filter test xs ++ filter (λ x. not (test x)) xs) xs
  filter_members test xs = record { into = λ x i. from (in-append-inv (filter test xs) i); back = λ x i. to i (T_dec (test x)) }
    where
      fails : A → Bool
      fails x = not (test x)

      from : {x : A} → In x (filter test xs) ⊎ In x (filter fails xs) → In x xs
      from (inl i) = (in_filter_inv test xs i).0
      from (inr i) = (in_filter_inv fails xs i).0

      to : {x : A} → In x xs → Dec (T (test x)) → In x (filter test xs ++ filter fails xs)
      to i (yes t) = in_append_left (filter fails xs) (in_filter test i t)
      to {x} i (no n) = in_append_right (filter test xs) (in_filter fails i (not_T (test x) n))

  pub length_filter_not : (test : A → Bool) (xs : List A) → length (filter test xs) + length (filter (λ x. not (test x)) xs) ≡ length xs
  unfolding filter
  length_filter_not test [] = omega arith
  length_filter_not test (x ∷ xs) = by (test x) (length_filter_not test xs)
    where
      pass : List A
      pass = filter test xs

      fail : List A
      fail = filter (λ x. not (test x)) xs

      by : (b : Bool) → length pass + length fail ≡ length xs → length (ite (T_dec b) (x ∷ pass) pass) + length (ite (T_dec (not b)) (x ∷ fail) fail) ≡ suc (length xs)
      by true e = omega arith
      by false e = omega arith

  pub length-filter : (test : A → Bool) (xs : List A) → length (filter test xs) ≤ length xs
  length-filter test xs = let e = length_filter_not test xs in omega arith

  -- ---- entries of a list turned round, and what stands about an entry
  in_reverse_aux : {x : A} {xs ys : List A} → In x xs ⊎ In x ys → In x (reverse_aux xs ys)
  in_reverse_aux {xs = []} (inr k) = k
  in_reverse_aux {xs = []} (inl k) = absurd (not-in-nil k)
  in_reverse_aux {xs = z ∷ xs} (inl (here e)) = in_reverse_aux {xs = xs} (inr (here e))
  in_reverse_aux {xs = z ∷ xs} (inl (there i)) = in_reverse_aux {xs = xs} (inl i)
  in_reverse_aux {xs = z ∷ xs} (inr k) = in_reverse_aux {xs = xs} (inr (there k))

  in_reverse_aux_inv : {x : A} (xs ys : List A) → In x (reverse_aux xs ys) → In x xs ⊎ In x ys
  in_reverse_aux_inv [] ys k = inr k
  in_reverse_aux_inv {x} (z ∷ xs) ys k = by (in_reverse_aux_inv xs (z ∷ ys) k)
    where
      by : In x xs ⊎ In x (z ∷ ys) → In x (z ∷ xs) ⊎ In x ys
      by (inl i) = inl (there i)
      by (inr (here e)) = inl (here e)
      by (inr (there i)) = inr i

  pub in_reverse : {x : A} {xs : List A} → In x xs → In x (reverse xs)
  in_reverse {xs} i = in_reverse_aux {xs = xs} (inl i)

  pub in_reverse_inv : {x : A} (xs : List A) → In x (reverse xs) → In x xs
  in_reverse_inv xs k = elim (in_reverse_aux_inv xs [] k) [ inl i ↦ i | inr i ↦ absurd (not-in-nil i) ]

  pub All-reverse : {P : A → Type 0} {xs : List A} → All P xs → All P (reverse xs)
  All-reverse {xs} h = All_of (reverse xs) (λ x i. All_in h (in_reverse_inv xs i))

  pub in_split : {x : A} {xs : List A} → In x xs → (ys : List A) × (zs : List A) × (xs ≡ ys ++ (x ∷ zs))
  in_split {x} (here {xs} e) = ([], xs, ap (λ y. y ∷ xs) (sym e))
  in_split (there {x = y} i) = let (ys, zs, e) = in_split i in (y ∷ ys, zs, ap (λ l. y ∷ l) e)

  -- ---- the last entry
  pub last_cons : (x y : A) (ys : List A) → get_last_d (y ∷ ys) x ≡ get_last_d ys y
  unfolding get_last_d
  last_cons x y [] = refl
  last_cons x y (z ∷ zs) = refl

  pub last_snoc : (x y : A) (xs : List A) → get_last_d (xs ++ (y ∷ [])) x ≡ y
  unfolding get_last_d
  last_snoc x y [] = refl
  last_snoc x y (z ∷ xs) = last_cons x z (xs ++ (y ∷ [])) ∙ last_snoc z y xs

  pub in_last : (x : A) (xs : List A) → In (get_last_d xs x) (x ∷ xs)
  unfolding get_last_d
  in_last x [] = here refl
  in_last x (y ∷ ys) = there (Memᴰ.cast (last_cons x y ys) (in_last y ys))

  -- ---- two ways to cut one list in two: one of the two fronts begins with the other
  abbrev pub Levi : List A → List A → List A → List A → Type 0
  Levi us vs xs ys =
      ((ms : List A) × (xs ≡ us ++ ms) × (vs ≡ ms ++ ys))
      ⊎ ((m : A) × (ms : List A) × (us ≡ xs ++ (m ∷ ms)) × (ys ≡ (m ∷ ms) ++ vs))

  pub levi : (us vs xs ys : List A) → us ++ vs ≡ xs ++ ys → Levi us vs xs ys
  levi [] vs xs ys e = inl (xs, refl, e)
  levi (u ∷ us) vs [] ys e = inr (u, us, refl, sym e)
  levi (u ∷ us) vs (x ∷ xs) ys e = more (levi us vs xs ys (tail-eq_of_cons-eq e))
    where
      same : u ≡ x
      same = head-eq_of_cons-eq e

      more : Levi us vs xs ys → Levi (u ∷ us) vs (x ∷ xs) ys
      more (inl k) = inl (k.0, (λ i. sym same i ∷ k.1 i), k.2)
      more (inr k) = inr (k.0, k.1, (λ i. same i ∷ k.2 i), k.3)

-- ---- lists made from others
module _ {A B : Type 0} {P : B → Type 0} (f : A → B) where
  pub All-map : {xs : List A} → All (λ x. P (f x)) xs → All P (map f xs)
  All-map nil = nil
  All-map (cons h hs) = cons h (All-map hs)

  pub All_map_inv : (xs : List A) → All P (map f xs) → All (λ x. P (f x)) xs
  All_map_inv [] h = nil
  All_map_inv (x ∷ xs) (cons h hs) = cons h (All_map_inv xs hs)

module _ {A : Type 0} where
  pub All_flatten : {P : A → Type 0} {xss : List (List A)} → All (All P) xss → All P (flatten xss)
  unfolding flatten
  All_flatten nil = nil
  All_flatten (cons h hs) = All-append h (All_flatten hs)

  pub in_flatten : {x : A} {xs : List A} {xss : List (List A)} → In x xs → In xs xss → In x (flatten xss)
  unfolding flatten
  in_flatten {x} i (here {xs = xss} e) = in_append_left (flatten xss) (subst (In x) e i)
  in_flatten i (there {x = ys} k) = in_append_right ys (in_flatten i k)

  pub in_flatten_inv : {x : A} (xss : List (List A)) → In x (flatten xss) → Any (In x) xss
  unfolding flatten
  in_flatten_inv [] i = absurd (not-in-nil i)
  in_flatten_inv {x} (xs ∷ xss) i = by (in-append-inv xs i) (λ k. in_flatten_inv xss k)
    where
      by : In x xs ⊎ In x (flatten xss) → (In x (flatten xss) → Any (In x) xss) → Any (In x) (xs ∷ xss)
      by (inl k) more = Any_here k
      by (inr k) more = Any_there (more k)

  pub flatten_append : (xss yss : List (List A)) → flatten (xss ++ yss) ≡ flatten xss ++ flatten yss
  unfolding flatten
  flatten_append [] yss = refl
  flatten_append (xs ∷ xss) yss = ap (λ l. xs ++ l) (flatten_append xss yss) ∙ sym (append_assoc xs (flatten xss) (flatten yss))
