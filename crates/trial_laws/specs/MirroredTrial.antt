-- The trial of the mirror image: a call on the image is refused exactly where the call is, and with the same number. Nothing is asked of the lists or of the service.
--
--     longer-mirrored         the image of lists with a range more is the image of the lists with the image of the range more
--     service-mirrored        the image of a service has a value outside its span exactly if the service has
--
-- A low that is outside has a high that is outside for its image; both have the number 4, so it does not matter that the one is tried before the other.
-- Further laws stand in proofs/MirroredTrial.antt.
-- Assumes nothing.
use Rattle.std.specs.Prelude.{◌≡◌, refl, Bool, true, false, not, ◌&&◌, ◌||◌, List, [], ◌∷◌, ◌++◌, map, ℕ, zero, suc, eqb, length, ℤ, pos, neg_ℤ}
use Rattle.std.proofs.Common.{sym, ap, ap₂, ◌∙◌}
use Rattle.std.proofs.Math.Bool.{and_comm, or_comm}
use Rattle.std.proofs.lemmas.List.{map-append, length-map}
use Rattle.std.proofs.Math.IntN.{neg_ℤ-neg_ℤ}
use Rattle.std.specs.Int.Signed.{lt_z}
use Rattle.integers.specs.OrderLaws.{lt_z-neg}
use Rattle.definitions.specs.Spans.{most_value}
use Rattle.definitions.specs.Services.{Service}
use Rattle.definitions.specs.Times.{Time, at}
use Rattle.definitions.specs.Ranges.{Range, Lists, zip_ranges}
use Rattle.definitions.specs.Answers.{Row, ◌if◌, ◌>>=◌, firstRow}
use Rattle.definitions.specs.Trial.{outside, bad_direction, bad_step, not_above, range_rows, ranges_rows, differ}
use Rattle.definitions.specs.Previews.{longer}
use Rattle.definitions.specs.Mirrors.{mirrored_range, mirrored_lists, opposite, mirrored_service}
use Rattle.trial_laws.specs.Rows.{first_row-append}
use Rattle.trial_laws.specs.ListTrial.{bad_service}

-- ---- lists

pub zip-mirrored : (ts : List ℕ) (us vs : List ℤ) → zip_ranges ts (map neg_ℤ vs) (map neg_ℤ us) ≡ map mirrored_range (zip_ranges ts us vs)
unfolding zip_ranges
zip-mirrored [] us vs = refl
zip-mirrored (t ∷ ts) [] [] = refl
zip-mirrored (t ∷ ts) [] (v ∷ vs) = refl
zip-mirrored (t ∷ ts) (u ∷ us) [] = refl
zip-mirrored (t ∷ ts) (u ∷ us) (v ∷ vs) = ap (λ rs. record { time = t; low = neg_ℤ v; high = neg_ℤ u } ∷ rs) (zip-mirrored ts us vs)

pub longer-mirrored : (ls : Lists) (r : Range) → longer (mirrored_lists ls) (mirrored_range r) ≡ mirrored_lists (longer ls r)
unfolding longer
longer-mirrored ls r = ap₂ (λ us vs. record { times = ls.times ++ (r.time ∷ []); lows = us; highs = vs }) (sym (map-append neg_ℤ ls.highs (r.high ∷ []))) (sym (map-append neg_ℤ ls.lows (r.low ∷ [])))

pub differ-mirrored : (ls : Lists) → differ (mirrored_lists ls) ≡ differ ls
unfolding differ
differ-mirrored ls =
    let n = length ls.times in
    ap₂ (λ l h. not (eqb n l && eqb n h)) (length-map ls.highs neg_ℤ) (length-map ls.lows neg_ℤ)
    ∙ ap not (and_comm (eqb n (length ls.highs)) (eqb n (length ls.lows)))

-- ---- values

outside-mirrored : (u : ℤ) → outside (neg_ℤ u) ≡ outside u
unfolding outside
outside-mirrored u =
    ap₂ (λ a b. a || b) (lt_z-neg (pos most_value) u) (ap (λ z. lt_z z (neg_ℤ u)) (sym (neg_ℤ-neg_ℤ (pos most_value))) ∙ lt_z-neg u (neg_ℤ (pos most_value)))
    ∙ or_comm (lt_z (pos most_value) u) (lt_z u (neg_ℤ (pos most_value)))

direction-mirrored : (n : ℕ) → bad_direction (opposite n) ≡ bad_direction n
unfolding bad_direction
direction-mirrored zero = refl
direction-mirrored (suc zero) = refl
direction-mirrored (suc (suc n)) = refl

pub service-mirrored : (v : Service) → bad_service (mirrored_service v) ≡ bad_service v
service-mirrored v = ap₂ (λ a b. a || (b || bad_step v.step)) (outside-mirrored v.level) (direction-mirrored v.direction)

-- ---- rows

-- two rows of one number, in either order
swap-rows : (n : ℕ) (a b : Bool) (rows : List Row) → firstRow (n if a ∷ n if b ∷ rows) ≡ firstRow (n if b ∷ n if a ∷ rows)
unfolding firstRow
swap-rows n true true rows = refl
swap-rows n true false rows = refl
swap-rows n false true rows = refl
swap-rows n false false rows = refl

range_rows-mirrored : (before : Time) (r : Range) → firstRow (range_rows before (mirrored_range r)) ≡ firstRow (range_rows before r)
unfolding range_rows
range_rows-mirrored before r =
    let last = 6 if not_above before r.time ∷ [] in
    (λ i. firstRow (4 if outside-mirrored r.high i ∷ 4 if outside-mirrored r.low i ∷ 5 if lt_z-neg r.high r.low i ∷ last))
    ∙ swap-rows 4 (outside r.high) (outside r.low) (5 if lt_z r.high r.low ∷ last)

pub ranges_rows-mirrored : (before : Time) (rs : List Range) → firstRow (ranges_rows before (map mirrored_range rs)) ≡ firstRow (ranges_rows before rs)
unfolding ranges_rows
ranges_rows-mirrored before [] = refl
ranges_rows-mirrored before (r ∷ rs) =
    first_row-append (range_rows before (mirrored_range r)) (ranges_rows (at r.time) (map mirrored_range rs))
    ∙ ap₂ (λ x y. x >>= λ ok. y) (range_rows-mirrored before r) (ranges_rows-mirrored (at r.time) rs)
    ∙ sym (first_row-append (range_rows before r) (ranges_rows (at r.time) rs))
