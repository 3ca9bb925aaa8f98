-- The lines that a call left in three slices, as Corners and Latest leave corners: on the way to their front pages.
--
--     given_lines n ps qs ds      the lines whose p, q and d are the first n entries of three slices
--     LinesFilled                the slices hold the p, q and d of each line of the call's result, and past these their old contents
--     lines_given, lines_past    where the call is accepted, these are the lines of its result, and later entries are as they were
--     lines_kept, lines_none     where it is refused, or has no line to give, the slices are as they were
--     corners_about              what holds of the corners of any two or more ranges that have a line holds of those of a run of so many
--
-- Assumes nothing.
use Rattle.std.specs.Prelude.{◌≡◌, refl, ℕ, ◌≤◌, ℤ, length, take}
use Rattle.std.proofs.Common.{sym, ap₂, ◌∙◌, arith, take_at, drop_at}
use Rattle.std.proofs.Math.Path.{ap}
use mathlib.Core.List.{List, [], ◌∷◌, ◌++◌, map}
use Rattle.std.proofs.Math.ListN.{drop}
use Rattle.std.proofs.lemmas.List.{length-map}
use Rattle.definitions.specs.Ranges.{Range}
use Rattle.definitions.specs.Lines.{Line}
use Rattle.definitions.specs.Corners.{corners}
use Rattle.definitions.specs.Fit.{HasLine, Ordered}
use Rattle.definitions.specs.Splits.{GoodRun}
use Rattle.definitions.specs.Answers.{Answer, refused, accepted, filled}

unfoldable pub zip_lines : List ℤ → List ℤ → List ℤ → List Line
zip_lines [] qs ds = []
zip_lines (p ∷ ps) [] ds = []
zip_lines (p ∷ ps) (q ∷ qs) [] = []
zip_lines (p ∷ ps) (q ∷ qs) (d ∷ ds) = record { p = p; q = q; d = d } ∷ zip_lines ps qs ds

abbrev pub given_lines : ℕ → List ℤ → List ℤ → List ℤ → List Line
given_lines n ps qs ds = zip_lines (take n ps) (take n qs) (take n ds)

pub record LinesFilled {B : Type 0} (answer : Answer B) (lines_of : B → List Line) (ps qs ds ps' qs' ds' : List ℤ) : Type 0 where
  pub ps_are : ps' ≡ filled answer (λ b. map (λ l. l.p) (lines_of b)) ps
  pub qs_are : qs' ≡ filled answer (λ b. map (λ l. l.q) (lines_of b)) qs
  pub ds_are : ds' ≡ filled answer (λ b. map (λ l. l.d) (lines_of b)) ds

zip-maps : (ks : List Line) → zip_lines (map (λ l. l.p) ks) (map (λ l. l.q) ks) (map (λ l. l.d) ks) ≡ ks
unfolding zip_lines
zip-maps [] = refl
zip-maps (k ∷ ks) = ap (λ ls. k ∷ ls) (zip-maps ks)

module _ {B : Type 0} {answer : Answer B} {lines_of : B → List Line} {ps qs ds ps' qs' ds' : List ℤ} (f : LinesFilled answer lines_of ps qs ds ps' qs' ds') where
  module _ {b : B} (is : answer ≡ accepted b) {n : ℕ} (count : n ≡ length (lines_of b)) where
    long : (number : Line → ℤ) → length (map number (lines_of b)) ≡ n
    long number = length-map (lines_of b) number ∙ sym count

    -- one slice
    stands : (number : Line → ℤ) (old new : List ℤ) → new ≡ filled answer (λ b. map number (lines_of b)) old → new ≡ map number (lines_of b) ++ drop n old
    unfolding filled
    stands number old new e = e ∙ ap (λ x. filled x (λ b. map number (lines_of b)) old) is ∙ ap (λ j. map number (lines_of b) ++ drop j old) (long number)

    first_entries : (number : Line → ℤ) (old new : List ℤ) → new ≡ filled answer (λ b. map number (lines_of b)) old → take n new ≡ map number (lines_of b)
    first_entries number old new e = ap (take n) (stands number old new e) ∙ take_at (map number (lines_of b)) (drop n old) n (long number)

    later_entries : (number : Line → ℤ) (old new : List ℤ) → new ≡ filled answer (λ b. map number (lines_of b)) old → drop n new ≡ drop n old
    later_entries number old new e = ap (drop n) (stands number old new e) ∙ drop_at (map number (lines_of b)) (drop n old) n (long number)

    pub lines_given : given_lines n ps' qs' ds' ≡ lines_of b
    lines_given =
        ap₂ (λ xs ys. zip_lines xs ys (take n ds')) (first_entries (λ l. l.p) ps ps' f.ps_are) (first_entries (λ l. l.q) qs qs' f.qs_are)
        ∙ ap (zip_lines (map (λ l. l.p) (lines_of b)) (map (λ l. l.q) (lines_of b))) (first_entries (λ l. l.d) ds ds' f.ds_are)
        ∙ zip-maps (lines_of b)

    pub lines_past : (drop n ps' ≡ drop n ps) × (drop n qs' ≡ drop n qs) × (drop n ds' ≡ drop n ds)
    lines_past = (later_entries (λ l. l.p) ps ps' f.ps_are, later_entries (λ l. l.q) qs qs' f.qs_are, later_entries (λ l. l.d) ds ds' f.ds_are)

  -- nothing is filled in
  unfilled : ((number : Line → ℤ) (old : List ℤ) → filled answer (λ b. map number (lines_of b)) old ≡ old) → (ps' ≡ ps) × (qs' ≡ qs) × (ds' ≡ ds)
  unfilled same = (f.ps_are ∙ same (λ l. l.p) ps, f.qs_are ∙ same (λ l. l.q) qs, f.ds_are ∙ same (λ l. l.d) ds)

  pub lines_kept : {e : ℕ} → answer ≡ refused e → (ps' ≡ ps) × (qs' ≡ qs) × (ds' ≡ ds)
  unfolding filled
  lines_kept is = unfilled (λ number old. ap (λ x. filled x (λ b. map number (lines_of b)) old) is)

  pub lines_none : {b : B} → answer ≡ accepted b → lines_of b ≡ [] → (ps' ≡ ps) × (qs' ≡ qs) × (ds' ≡ ds)
  unfolding filled
  lines_none is none = unfilled (λ number old. ap (λ x. filled x (λ b. map number (lines_of b)) old) is ∙ ap (λ ks. map number ks ++ drop (length (map number ks)) old) none)

pub corners_about : (P : List Range → List Line → Type 0) → ((r s : Range) (ws : List Range) → Ordered (r ∷ s ∷ ws) → HasLine (r ∷ s ∷ ws) → P (r ∷ s ∷ ws) (corners (r ∷ s ∷ ws)))
    → (rs : List Range) → 2 ≤ length rs → Ordered rs → GoodRun HasLine rs → P rs (corners rs)
corners_about P h [] two o g = absurd (omega arith)
corners_about P h (r ∷ []) two o g = absurd (omega arith)
corners_about P h (r ∷ s ∷ ws) two o g = h r s ws o g
