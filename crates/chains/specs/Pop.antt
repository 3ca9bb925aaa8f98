-- Popping a chain from its end, as code does with a stack, leaves what `keep_under` keeps from its beginning.
--
--     trim N ys         (trim_if) ys has its end first: the end goes while the line through the last two points is at or above N
--     pop_end N xs       the same of a list in its own order
--     pop_keep          on a chain it is keep_under
--
-- Slopes rise along a chain, so from the first line at or above N on all lines are, and the two rules stop at one place.
-- Assumes nothing.
use Rattle.std.specs.Prelude.{◌≡◌, ◌⊎◌, ℕ, ℤ, pos, negsuc, ◌≤ℤ◌, ◌<ℤ◌}
use Rattle.std.proofs.Math.Path.{refl, ap}
use Rattle.std.proofs.Common.{sym, ◌∙◌, subst, inl, inr}
use mathlib.Core.List.{List, [], ◌∷◌, ◌++◌, reverse, reverse_aux, reverse_aux-eq, reverse-reverse}
use Rattle.integers.specs.Parts.{ints}
use Rattle.integers.specs.OrderLaws.{≤ℤ-trans, ≤ℤ_or_<ℤ, ≤ℤ-<ℤ-⊥}
use Rattle.definitions.specs.Lines.{Line}
use Rattle.chains.specs.Signs.{negsuc<0, pos≥0}
use Rattle.chains.specs.Points.{Point, gap, through, stays_over}
use Rattle.chains.specs.Extremes.{Laws}
use Rattle.chains.specs.Chain.{Bend, Chain, next, first_fits, last_from}
use Rattle.chains.specs.Cut.{keep_under, keep_under_after, keep_under_if}

abbrev pub trim_if : ℤ → List Point → List Point → List Point
trim_if (pos n) a b = a
trim_if (negsuc n) a b = b

unfoldable pub trim : Point → List Point → List Point
trim N [] = []
trim N (A ∷ []) = A ∷ []
trim N (B ∷ (A ∷ ys)) = trim_if (gap (through A B) N) (trim N (A ∷ ys)) (B ∷ (A ∷ ys))

unfoldable pub pop_end : Point → List Point → List Point
pop_end N xs = reverse (trim N (reverse xs))

-- ---- where popping stops
-- the line through the last two of A ∷ B ∷ xs
abbrev last_line : Point → Point → List Point → Line
last_line A B [] = through A B
last_line A B (C ∷ xs) = last_line B C xs

-- one point is left, or the line through the last two is below N
abbrev Stops : Point → Point → List Point → Type 0
Stops N A [] = Unit {0}
Stops N A (B ∷ xs) = gap (last_line A B xs) N <ℤ pos 0

-- what was popped last: the line through the end A that is left and the next point is at or above N
abbrev Popped : Point → Point → List Point → Type 0
Popped N A [] = Unit {0}
Popped N A (B ∷ ys) = pos 0 ≤ℤ gap (through A B) N

-- ---- on a chain that is the list that is kept
chain-tail : {F : Line → Type 0} {Top : Point → Type 0} {v w : Line} {A B : Point} {xs : List Point} → Chain F Top v (A ∷ B ∷ xs) w
    → Bend F Top v A (through A B) × Chain F Top (through A B) (B ∷ xs) w
chain-tail (next b lt c) = (b, c)

keep-off : (g : ℤ) (ys : List Point) → pos 0 ≤ℤ g → keep_under_if g ys ≡ []
keep-off (pos n) ys h = refl
keep-off (negsuc n) ys h = absurd h.le

keep-on : (g : ℤ) (ys : List Point) → g <ℤ pos 0 → keep_under_if g ys ≡ ys
keep-on (pos n) ys h = absurd (not-below n h)
  where
    not-below : (n : ℕ) → pos n <ℤ pos 0 → ⊥
    not-below n h = omega ints
keep-on (negsuc n) ys h = refl

module _ {F : Line → Type 0} {Top Bot : Point → Type 0} {T : ℤ} (laws : Laws F Top Bot T) (N : Point) (late : T ≤ℤ N.t) where
  last_over : (A B : Point) (xs ys : List Point) {w : Line} → Chain F Top (through A B) (B ∷ (xs ++ ys)) w → pos 0 ≤ℤ gap (through A B) N
      → pos 0 ≤ℤ gap (last_line A B xs) N
  last_over A B [] ys c h = h
  last_over A B (C ∷ xs) ys c h =
      let t = chain-tail c in
      let b = t.0 in
      last_over B C xs ys t.1
      (stays_over (through A B) (through B C) B N b.before b.after (≤ℤ-trans (laws.top_early B b.top) late) (laws.positive _ b.fits) (laws.positive _ (first_fits t.1)) b.turns h)

  kept_after : (A : Point) (xs ys : List Point) {v w : Line} → Chain F Top v (A ∷ (xs ++ ys)) w → Stops N A xs → Popped N (last_from A xs) ys
      → keep_under_after N A (xs ++ ys) ≡ xs
  kept_after A [] [] c s o = refl
  kept_after A [] (B ∷ ys) c s o = keep-off (gap (through A B) N) (B ∷ keep_under_after N B ys) o
  kept_after A (B ∷ xs) ys c s o =
      let t = chain-tail c in
      keep-on (gap (through A B) N) (B ∷ keep_under_after N B (xs ++ ys)) (below t.1 (≤ℤ_or_<ℤ (pos 0) (gap (through A B) N))) ∙ ap (λ zs. B ∷ zs) (kept_after B xs ys t.1 (next_stops xs s) o)
    where
      below : {w : Line} → Chain F Top (through A B) (B ∷ (xs ++ ys)) w → (pos 0 ≤ℤ gap (through A B) N) ⊎ (gap (through A B) N <ℤ pos 0) → gap (through A B) N <ℤ pos 0
      below c (inl h) = absurd (≤ℤ-<ℤ-⊥ (last_over A B xs ys c h) s)
      below c (inr h) = h

      next_stops : (xs : List Point) → gap (last_line A B xs) N <ℤ pos 0 → Stops N B xs
      next_stops [] s = tt
      next_stops (C ∷ xs) s = s

-- ---- popping stops there
-- xs is ks, which begins at `start`, and then what was popped
record Pops (N : Point) (xs ks : List Point) : Type 0 where
  start : Point
  more : List Point
  gone : List Point
  is : ks ≡ start ∷ more
  whole : xs ≡ start ∷ (more ++ gone)
  stops : Stops N start more
  over : Popped N (last_from start more) gone

last-of-two : (X Y : Point) (xs : List Point) (A B : Point) → last_line X Y (xs ++ (A ∷ B ∷ [])) ≡ through A B
last-of-two X Y [] A B = refl
last-of-two X Y (Z ∷ xs) A B = last-of-two Y Z xs A B

stops_at : (N X : Point) (xs : List Point) (A B : Point) → gap (through A B) N <ℤ pos 0 → Stops N X (xs ++ (A ∷ B ∷ []))
stops_at N X [] A B h = h
stops_at N X (Y ∷ xs) A B h = subst (λ l. gap l N <ℤ pos 0) (sym (last-of-two X Y xs A B)) h

end-of-two : (X : Point) (xs : List Point) (A B : Point) → last_from X (xs ++ (A ∷ B ∷ [])) ≡ B
end-of-two X [] A B = refl
end-of-two X (Y ∷ xs) A B = end-of-two Y xs A B

-- a list that ends in A and B
pops-none : (N : Point) (xs gone : List Point) (A B : Point) → gap (through A B) N <ℤ pos 0 → Popped N B gone → Pops N ((xs ++ (A ∷ B ∷ [])) ++ gone) (xs ++ (A ∷ B ∷ []))
pops-none N [] gone A B h o = record { start = A; more = B ∷ []; gone = gone; is = refl; whole = refl; stops = h; over = o }
pops-none N (X ∷ xs) gone A B h o =
    record {
      start = X;
      more = xs ++ (A ∷ B ∷ []);
      gone = gone;
      is = refl;
      whole = refl;
      stops = stops_at N X xs A B h;
      over = subst (λ C. Popped N C gone) (sym (end-of-two X xs A B)) o;
    }

-- the list with end B, then ys, and after it what is popped already
pops : (N B : Point) (ys gone : List Point) → Popped N B gone → Pops N (reverse_aux (B ∷ ys) gone) (reverse (trim N (B ∷ ys)))
unfolding trim
pops N B [] gone o = record { start = B; more = []; gone = gone; is = refl; whole = refl; stops = tt; over = o }
pops N B (A ∷ ys) gone o = by (gap (through A B) N) refl (λ k. pops N A ys (B ∷ gone) k)
  where
    by : (g : ℤ) → gap (through A B) N ≡ g → (pos 0 ≤ℤ gap (through A B) N → Pops N (reverse_aux (A ∷ ys) (B ∷ gone)) (reverse (trim N (A ∷ ys))))
        → Pops N (reverse_aux (B ∷ (A ∷ ys)) gone) (reverse (trim_if g (trim N (A ∷ ys)) (B ∷ (A ∷ ys))))
    by (pos n) e r = r (pos≥0 _ n e)
    by (negsuc n) e r =
        let two : reverse (B ∷ (A ∷ ys)) ≡ reverse ys ++ (A ∷ B ∷ []) = reverse_aux-eq ys (A ∷ B ∷ []) in
        subst (λ zs. Pops N zs (reverse (B ∷ (A ∷ ys)))) (sym (reverse_aux-eq (B ∷ (A ∷ ys)) gone))
        (subst (λ zs. Pops N (zs ++ gone) zs) (sym two) (pops-none N (reverse ys) gone A B (negsuc<0 _ n e) o))

module _ {F : Line → Type 0} {Top Bot : Point → Type 0} {T : ℤ} (laws : Laws F Top Bot T) (N : Point) (late : T ≤ℤ N.t) where
  pops_keep : (xs ks : List Point) {v w : Line} → Chain F Top v xs w → Pops N xs ks → ks ≡ keep_under N xs
  pops_keep xs ks {v} {w} c p =
      p.is ∙ ap (λ zs. p.start ∷ zs) (sym (kept_after laws N late p.start p.more p.gone (subst (λ ys. Chain F Top v ys w) p.whole c) p.stops p.over)) ∙ ap (keep_under N) (sym p.whole)

  trim_keep : (ys : List Point) {v w : Line} → Chain F Top v (reverse ys) w → reverse (trim N ys) ≡ keep_under N (reverse ys)
  unfolding trim
  trim_keep [] c = refl
  trim_keep (B ∷ ys) c = pops_keep (reverse (B ∷ ys)) (reverse (trim N (B ∷ ys))) c (pops N B ys [] tt)

  pub pop_keep : {v : Line} {xs : List Point} {w : Line} → Chain F Top v xs w → pop_end N xs ≡ keep_under N xs
  unfolding pop_end
  pop_keep {v} {xs} {w} c = trim_keep (reverse xs) (subst (λ ys. Chain F Top v ys w) (sym (reverse-reverse xs)) c) ∙ ap (keep_under N) (reverse-reverse xs)
