-- A list of images, and a list the other way round.
--
--     Backward x xs, backward      reverse (x ∷ xs) begins with the last entry of x ∷ xs and ends with x
--     last_map, take-map           the last of the images is the image of the last, the first k of them are the images of the first k
--     any_images, all_images       a test that passes the images of what another passes: some image passes, every image passes, exactly if some entry, every entry does
--
-- Assumes nothing.
use Rattle.std.specs.Prelude.{◌≡◌, Bool, ℕ, zero, suc, T, take}
use Rattle.std.proofs.Math.Path.{refl, ap}
use Rattle.std.proofs.Common.{sym, subst, ◌∙◌}
use mathlib.Core.List.{List, [], ◌∷◌, ◌++◌, map, reverse, reverse-cons, get_last_d}
use Rattle.integers.specs.Booleans.{T_ext}
use Rattle.integers.specs.Lists.{all, any, In, all_means, all_passes, any_means, any_passes, All_in, All_of, in_map, in-map-inv, in_reverse, in_reverse_inv, last_cons, last_snoc}

-- ---- the ends, and a front
module _ {A : Type 0} where
  pub record Backward (x : A) (xs : List A) : Type 0 where
    pub more : List A
    pub is : reverse (x ∷ xs) ≡ get_last_d xs x ∷ more
    pub last : get_last_d more (get_last_d xs x) ≡ x

  pub backward : (x : A) (xs : List A) → Backward x xs
  unfolding get_last_d
  backward x [] = record { more = []; is = refl; last = refl }
  backward x (y ∷ ys) =
      let b = backward y ys in
      record {
        more = b.more ++ (x ∷ []);
        is = reverse-cons x (y ∷ ys) ∙ ap (λ zs. zs ++ (x ∷ [])) b.is ∙ ap (λ z. z ∷ b.more ++ (x ∷ [])) (sym (last_cons x y ys));
        last = last_snoc (get_last_d (y ∷ ys) x) x b.more;
      }

  pub last_map : {B : Type 0} (f : A → B) (x : A) (xs : List A) → get_last_d (map f xs) (f x) ≡ f (get_last_d xs x)
  unfolding get_last_d
  last_map f x [] = refl
  last_map f x (y ∷ ys) = last_cons (f x) (f y) (map f ys) ∙ last_map f y ys ∙ ap f (sym (last_cons x y ys))

  pub take-map : {B : Type 0} (f : A → B) (k : ℕ) (xs : List A) → take k (map f xs) ≡ map f (take k xs)
  take-map f zero xs = refl
  take-map f (suc k) [] = refl
  take-map f (suc k) (x ∷ xs) = ap (λ ys. f x ∷ ys) (take-map f k xs)

-- ---- tests of the images
module _ {A B : Type 0} (f : A → B) (test : A → Bool) (image : B → Bool) (same : (x : A) → image (f x) ≡ test x) (xs : List A) where
  abbrev images : List B
  images = reverse (map f xs)

  image_in : {x : A} → In x xs → In (f x) images
  image_in i = in_reverse (in_map f i)

  image_of : {y : B} → In y images → (x : A) × In x xs × (f x ≡ y)
  image_of i = in-map-inv f xs (in_reverse_inv (map f xs) i)

  pub any_images : any image (reverse (map f xs)) ≡ any test xs
  any_images = T_ext back into
    where
      into : T (any test xs) → T (any image images)
      into t =
          let k = any_means test (λ x p. p) xs t in
          any_passes image (λ x p. p) (record { entry = f k.entry; among = image_in k.among; holds = subst T (sym (same k.entry)) k.holds })

      back : T (any image images) → T (any test xs)
      back t =
          let k = any_means image (λ x p. p) images t in
          let (y, i, e) = image_of k.among in
          any_passes test (λ x p. p) (record { entry = y; among = i; holds = subst T (same y) (subst (λ z. T (image z)) (sym e) k.holds) })

  pub all_images : all image (reverse (map f xs)) ≡ all test xs
  all_images = T_ext back into
    where
      into : T (all test xs) → T (all image images)
      into t =
          let h = all_means test (λ x p. p) xs t in
          all_passes image (λ x p. p) (All_of images (λ x j. let (y, i, e) = image_of j in subst (λ z. T (image z)) e (subst T (sym (same y)) (All_in h i))))

      back : T (all image images) → T (all test xs)
      back t =
          let h = all_means image (λ x p. p) images t in
          all_passes test (λ x p. p) (All_of xs (λ x i. subst T (same x) (All_in h (image_in i))))
