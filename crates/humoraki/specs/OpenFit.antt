-- The library tells an open fit by the count 0. With after : AfterCorners k ls old new number, and the number 0:
--
--     answer_of, promise_below   what the library leaves is what the call below leaves with this answer, so drift's CornerTheorems are about it too
--     fit_found, count_found    the fit that Corners found; the count is that of its corners
--     open_iff                  so the count is 0 exactly if the fit is open
--     one_range_iff             and exactly if the segment then running has one range
--
-- Assumes nothing.
use Rattle.definitions.specs.declared.refusals.Refusal.{Refusal}
use Rattle.std.specs.Prelude.{ℕ, ◌<◌, ◌≡◌, ◌↔◌, List, [], ◌∷◌, None, Ok, Option, Result, Some}
use Rattle.std.proofs.Math.Path.{refl, sym, ap}
use Rattle.std.proofs.Common.{◌∙◌, arith}
use Rattle.std.proofs.Math.ListN.{length}
use Rattle.definitions.specs.Ranges.{Range, Lists, ranges_of}
use Rattle.definitions.specs.Lines.{Line}
use Rattle.definitions.specs.Segments.{running_after}
use Rattle.definitions.specs.Answers.{accepted, ◌>>=◌, given}
use Rattle.definitions.specs.Trial.{corner_rows}
use Rattle.definitions.specs.Calls.{Fit, open_strip, bounded, fit_of, corners_in, corners_call}
use Rattle.trial_laws.specs.CallLaws.{call-accepted, accepted-is}
use Rattle.lines.specs.Theorems.{corners_some}
use Rattle.drift.specs.CornersPromise.{count_of, corners_meaning, three_lengths, CornersPromise}
use Rattle.drift.specs.CornerTheorems.{given_corners, given_about, given_count, open_one}
use Rattle.humoraki.specs.Promises.{CornersLent, corners_answer, AfterCorners}
use Rattle.humoraki.specs.Zero.{Accepted, corners-zero}

-- the answer of the call below that tells of a fit
unfoldable pub answer_of : Fit → Result (Option ℕ) Refusal
answer_of open_strip = Ok None
answer_of (bounded ks) = Ok (Some (length ks))

answer-means : (fit : Fit) → corners_meaning (answer_of fit) ≡ accepted (count_of fit)
unfolding answer_of corners_meaning count_of
answer-means open_strip = refl
answer-means (bounded ks) = refl

one_open : (rs : List Range) → length rs ≡ 1 → fit_of rs ≡ open_strip
unfolding fit_of
one_open [] e = refl
one_open (r ∷ []) e = refl
one_open (r ∷ s ∷ rs) e = absurd (omega arith)

never_open : {A : Type 0} (ks : List Line) → open_strip ≡ bounded ks → A
never_open ks e = let z : ◌≡◌ {A = ℕ} 0 1 = cc in absurd (omega arith)

module _ {k : ℕ} {ls : Lists} {old new : CornersLent} {number : ℕ} (after : AfterCorners k ls old new number) where
  abbrev segment : List Range
  segment = running_after k (ranges_of ls)

  pub promise_below : {fit : Fit} → corners_answer k ls old ≡ accepted fit → CornersPromise k ls old.ps old.qs old.ds new.ps new.qs new.ds (answer_of fit)
  unfolding ◌>>=◌
  promise_below {fit} e = record { answer_is = answer-means fit ∙ sym (ap (λ x. x >>= λ f. accepted (count_of f)) e); ps_are = after.ps_are; qs_are = after.qs_are; ds_are = after.ds_are }

  bounded_some : (ks : List Line) → corners_answer k ls old ≡ accepted (bounded ks) → 0 < length ks
  unfolding answer_of
  bounded_some ks e =
      let below : CornersPromise k ls old.ps old.qs old.ds new.ps new.qs new.ds (Ok (Some (length ks))) = promise_below e in
      omega (arith, (given_count below).0, ap length (given_corners below), given_about below (λ rs ks. 0 < length ks) (λ r s ws o h. corners_some r s ws o h))

  bounded_more : (ks : List Line) → corners_answer k ls old ≡ accepted (bounded ks) → length segment ≡ 1 → open_strip ≡ bounded ks
  unfolding corners_call
  bounded_more ks e one = sym (one_open segment one) ∙ ((call-accepted (corner_rows (three_lengths old.ps old.qs old.ds) k ls) (fit_of segment) (bounded ks)).0 e).1

  by_fit : (fit : Fit) → corners_answer k ls old ≡ accepted fit → ((length (corners_in fit) ≡ 0) ↔ (fit ≡ open_strip)) × ((length (corners_in fit) ≡ 0) ↔ (length segment ≡ 1))
  unfolding answer_of corners_in
  by_fit open_strip e = ((λ z. refl, λ z. refl), (λ z. open_one (promise_below e), λ z. refl))
  by_fit (bounded ks) e =
      let some = bounded_some ks e in
      ((λ z. absurd (omega arith), λ y. never_open ks (sym y)), (λ z. absurd (omega arith), λ one. never_open ks (bounded_more ks e one)))

  module _ (zero : number ≡ 0) where
    pub fit_found : Accepted (corners_answer k ls old)
    fit_found = (corners-zero after).0 zero

    pub count_found : new.count ≡ length (corners_in fit_found.0)
    unfolding given
    count_found = after.counted.count-is ∙ ap (λ x. given x (λ fit. length (corners_in fit)) old.count) fit_found.1

    pub open_iff : (new.count ≡ 0) ↔ (corners_answer k ls old ≡ accepted open_strip)
    open_iff =
        let both = (by_fit fit_found.0 fit_found.1).0 in
        (λ z. fit_found.1 ∙ ap accepted (both.0 (sym count_found ∙ z)), λ e. count_found ∙ both.1 (accepted-is (sym fit_found.1 ∙ e)))

    pub one_range_iff : (new.count ≡ 0) ↔ (length (running_after k (ranges_of ls)) ≡ 1)
    one_range_iff = let both = (by_fit fit_found.0 fit_found.1).1 in (λ z. both.0 (sym count_found ∙ z), λ one. count_found ∙ both.1 one)
