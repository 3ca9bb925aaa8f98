-- Lines through an end of one range and an end of a later one, in terms of ranges and lines alone.
--
--     IsEnd r u                  u is the low or the high of r
--     ThroughTwoEnds rs l        the values of l at the times of two of the ranges rs are ends of these
--     ThroughEnds P Q rs l       l is the line through the ends P and Q of two ranges, the first one earlier: high and low for slow, low and high for fast
--     touches_reading, reading_touches   to touch a point is to have its value at its time
--     joined_ends   the line through the two ends, with the numbers that the candidates have; l is this line; it fits where l does
--     through-positive, same-fits   a line is the line through two of its points; its d is above 0; the same line fits the same ranges
--     pinned_two_ends, two_ends_pinned   a line of the fit goes through two ends exactly when it is pinned
--     two_ends_map, through_ends-map     of a run with the same ranges
--
-- Further laws stand in proofs/TwoEnds.antt.
-- Assumes nothing.
use Rattle.std.specs.Prelude.{◌≡◌, refl, List, [], ◌∷◌, ◌⊎◌, ℕ, ◌<◌, ℤ, pos, ◌+ℤ◌, ◌*ℤ◌, ◌<ℤ◌}
use Rattle.std.proofs.Common.{sym, subst, inl, inr}
use Rattle.std.proofs.Math.IntN.{*ℤ_comm}
use Rattle.integers.specs.Parts.{ints}
use Rattle.integers.specs.OrderLaws.{<ℤ→≤ℤ, sub-pos}
use Rattle.integers.specs.RingSolver.{lit}
use Rattle.integers.specs.Certificates.{num, eqn}
use Rattle.integers.specs.Solve.{claims, certify! }
use Rattle.integers.specs.Lists.{In}
use Rattle.definitions.specs.Ranges.{Range}
use Rattle.definitions.specs.Lines.{Line, reading, through}
use Rattle.definitions.specs.Fit.{InFit, SameLine}
use Rattle.chains.specs.Points.{Point, Touches}
use Rattle.chains.specs.Ends.{mean_fits, time<, H, L, un-time<}
use Rattle.chains.specs.Run.{BotOf, TopOf, source, end_in}
use Rattle.chains.specs.CornersOfChains.{Pinned}

abbrev pub IsEnd : Range → ℤ → Type 0
IsEnd r u = (u ≡ r.low) ⊎ (u ≡ r.high)

pub record ThroughTwoEnds (rs : List Range) (l : Line) : Type 0 where
  pub first : Range
  pub second : Range
  pub first_in : In first rs
  pub second_in : In second rs
  pub earlier : first.time < second.time
  pub first_value : ℤ
  pub second_value : ℤ
  pub first_end : IsEnd first first_value
  pub second_end : IsEnd second second_value
  pub on_first : reading l first.time ≡ l.d *ℤ first_value
  pub on_second : reading l second.time ≡ l.d *ℤ second_value

pub record ThroughEnds (P Q : Range → ℤ) (rs : List Range) (l : Line) : Type 0 where
  pub first : Range
  pub second : Range
  pub first_in : In first rs
  pub second_in : In second rs
  pub earlier : first.time < second.time
  pub same : SameLine l (through first.time (P first) second.time (Q second))

-- ---- a line's value at a range, by points
pub touches_reading : (l : Line) (t : ℕ) (u : ℤ) → Touches l (record { t = pos t; u = u }) → reading l t ≡ l.d *ℤ u
unfolding reading
touches_reading l t u = certify! (l.p ∷ l.q ∷ l.d ∷ pos t ∷ u ∷ []) (search claims depth 40) (num 1) (eqn 0 (lit (pos 1))) tt

pub reading_touches : (l : Line) (t : ℕ) (u : ℤ) → reading l t ≡ l.d *ℤ u → Touches l (record { t = pos t; u = u })
unfolding reading
reading_touches l t u = certify! (l.p ∷ l.q ∷ l.d ∷ pos t ∷ u ∷ []) (search claims depth 40) (num 1) (eqn 0 (lit (pos 1))) tt

-- ---- the line through two points

pub through-positive : (i j : ℕ) (u v : ℤ) → i < j → pos 0 <ℤ (through i u j v).d
unfolding through
through-positive i j u v lt = sub-pos (time< i j lt)

-- ---- the same line fits
same-mean : (x y d e : ℤ) → x *ℤ e ≡ y *ℤ d → e *ℤ x ≡ d *ℤ y +ℤ pos 0 *ℤ y
same-mean x y d e = certify! (x ∷ y ∷ d ∷ e ∷ []) (search claims depth 40) (num 1) (eqn 0 (lit (pos 1))) tt

pub same-fits : (rs : List Range) (k l : Line) → SameLine k l → pos 0 <ℤ k.d → InFit rs l → InFit rs k
same-fits rs k l s k-over f =
    mean_fits k l l l.d k.d (pos 0) rs
    (record {
      c_over = f.positive;
      α-over = <ℤ→≤ℤ k-over;
      β-over = omega ints;
      on_p = same-mean k.p l.p k.d l.d s.slope;
      on_q = same-mean k.q l.q k.d l.d s.intercept;
      on_d = same-mean k.d l.d k.d l.d (*ℤ_comm k.d l.d);
    })
    k-over f f

-- ---- of a line through two ends
module _ {rs : List Range} {l : Line} (t : ThroughTwoEnds rs l) where
  abbrev pub joined_ends : Line
  joined_ends = through t.first.time t.first_value t.second.time t.second_value

-- a run with the same ranges
pub two_ends_map : {rs qs : List Range} {l : Line} → ((q : Range) → In q rs → In q qs) → ThroughTwoEnds rs l → ThroughTwoEnds qs l
two_ends_map f t =
    record {
      first = t.first;
      second = t.second;
      first_in = f _ t.first_in;
      second_in = f _ t.second_in;
      earlier = t.earlier;
      first_value = t.first_value;
      second_value = t.second_value;
      first_end = t.first_end;
      second_end = t.second_end;
      on_first = t.on_first;
      on_second = t.on_second;
    }

-- ---- by points
abbrev pub point_at : Range → ℤ → Point
point_at r u = record { t = pos r.time; u = u }

-- the range and the value of an end
record EndAt (rs : List Range) (A : Point) : Type 0 where
  pub range : Range
  pub among : In range rs
  value : ℤ
  is_end : IsEnd range value
  pub is : A ≡ point_at range value

end-at : (rs : List Range) (A : Point) → TopOf rs A ⊎ BotOf rs A → EndAt rs A
end-at rs A (inl a) = let s = source H rs A a in record { range = s.range; among = s.among; value = s.range.high; is_end = inr refl; is = s.is }
end-at rs A (inr b) = let s = source L rs A b in record { range = s.range; among = s.among; value = s.range.low; is_end = inl refl; is = s.is }

end_of : (rs : List Range) (r : Range) (u : ℤ) → In r rs → IsEnd r u → TopOf rs (point_at r u) ⊎ BotOf rs (point_at r u)
end_of rs r u i (inl e) = inr (subst (λ v. BotOf rs (point_at r v)) (sym e) (end_in L i))
end_of rs r u i (inr e) = inl (subst (λ v. TopOf rs (point_at r v)) (sym e) (end_in H i))

module _ (rs : List Range) (l : Line) where
  pub pinned_two_ends : Pinned (InFit rs) (TopOf rs) (BotOf rs) l → ThroughTwoEnds rs l
  pinned_two_ends z =
      let i = end-at rs z.first z.first_end in
      let j = end-at rs z.second z.second_end in
      record {
        first = i.range;
        second = j.range;
        first_in = i.among;
        second_in = j.among;
        earlier = un-time< _ _ (subst (λ B. pos i.range.time <ℤ B.t) j.is (subst (λ A. A.t <ℤ z.second.t) i.is z.rise));
        first_value = i.value;
        second_value = j.value;
        first_end = i.is_end;
        second_end = j.is_end;
        on_first = touches_reading l i.range.time i.value (subst (Touches l) i.is z.on_first);
        on_second = touches_reading l j.range.time j.value (subst (Touches l) j.is z.on_second);
      }

  pub two_ends_pinned : InFit rs l → ThroughTwoEnds rs l → Pinned (InFit rs) (TopOf rs) (BotOf rs) l
  two_ends_pinned f t =
      record {
        fits = f;
        first = point_at t.first t.first_value;
        second = point_at t.second t.second_value;
        rise = time< _ _ t.earlier;
        first_end = end_of rs t.first t.first_value t.first_in t.first_end;
        second_end = end_of rs t.second t.second_value t.second_in t.second_end;
        on_first = reading_touches l t.first.time t.first_value t.on_first;
        on_second = reading_touches l t.second.time t.second_value t.on_second;
      }

pub through_ends-map : {P Q : Range → ℤ} {rs qs : List Range} {l : Line} → ((q : Range) → In q rs → In q qs) → ThroughEnds P Q rs l → ThroughEnds P Q qs l
through_ends-map f t = record { first = t.first; second = t.second; first_in = f _ t.first_in; second_in = f _ t.second_in; earlier = t.earlier; same = t.same }
