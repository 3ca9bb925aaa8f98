-- The candidates of definitions, the lines through an end of one range and an end of a later one, by the ends that they go through.
--
--     candidate            the line through an end of a range and an end of a later range is a candidate
--     ends-candidate       so is, up to a common factor, every line through two ends
--     candidate_positive   its d is above 0
--
-- Further laws stand in proofs/Candidates.antt.
-- Assumes nothing.
use Rattle.std.proofs.Common.{sym, subst, inl, inr, arith}
use Rattle.std.specs.Prelude.{refl, ◌≡◌, List, [], ◌∷◌, ◌++◌, ◌⊎◌, ℕ, ◌<◌, ℤ, ◌<ℤ◌}
use Rattle.std.proofs.Math.IntN.{pos}
use Rattle.integers.specs.Lists.{here, there, All, nil, cons, All_in, Any, Any_here, Any_there, In, in_append_left, in_append_right, in-cons-inv, All-append, All_imp}
use Rattle.definitions.specs.Ranges.{Range}
use Rattle.definitions.specs.Lines.{Line, through, through_ends, candidates_from, candidates}
use Rattle.definitions.specs.Fit.{Ordered}
use Rattle.chains.specs.TwoEnds.{IsEnd, ThroughTwoEnds, joined_ends, through-positive}

-- ---- the line through two ends is a candidate
in_ends : (r s : Range) (u v : ℤ) → IsEnd r u → IsEnd s v → In (through r.time u s.time v) (through_ends r s)
unfolding through_ends
in_ends r s u v (inl a) (inl b) = there (there (here (λ i. through r.time (a i) s.time (b i))))
in_ends r s u v (inl a) (inr b) = there (there (there (here (λ i. through r.time (a i) s.time (b i)))))
in_ends r s u v (inr a) (inl b) = here (λ i. through r.time (a i) s.time (b i))
in_ends r s u v (inr a) (inr b) = there (here (λ i. through r.time (a i) s.time (b i)))

in_from : (r s : Range) (rs : List Range) (u v : ℤ) → IsEnd r u → IsEnd s v → In s rs → In (through r.time u s.time v) (candidates_from r rs)
unfolding candidates_from
in_from r s rs u v a b (here {x = q} {xs = qs} e) =
    in_append_left (candidates_from r qs) (subst (λ z. In (through r.time u s.time v) (through_ends r z)) e (in_ends r s u v a b))
in_from r s rs u v a b (there {x = q} {xs = qs} i) = in_append_right (through_ends r q) (in_from r s qs u v a b i)

pub candidate : (rs : List Range) → Ordered rs → (r s : Range) → In r rs → In s rs → r.time < s.time → (u v : ℤ) → IsEnd r u → IsEnd s v
    → In (through r.time u s.time v) (candidates rs)
unfolding candidates
candidate [] o r s i j lt u v a b = elim i [ ]
candidate (q ∷ qs) o r s i j lt u v a b = by (in-cons-inv i) (in-cons-inv j) (λ k m. candidate qs o.2 r s k m lt u v a b)
  where
    never : (m n : ℕ) → m < n → n < m → ⊥
    never m n h k = omega arith

    by : (r ≡ q) ⊎ In r qs → (s ≡ q) ⊎ In s qs → (In r qs → In s qs → In (through r.time u s.time v) (candidates qs))
        → In (through r.time u s.time v) (candidates_from q qs ++ candidates qs)
    by (inl e) (inl f) later = let h : q.time < q.time = subst (λ z. z.time < q.time) e (subst (λ z. r.time < z.time) f lt) in absurd (never q.time q.time h h)
    by (inl e) (inr k) later = in_append_left (candidates qs) (subst (λ z. In (through r.time u s.time v) (candidates_from z qs)) e (in_from r s qs u v a b k))
    by (inr i) (inl f) later = absurd (never r.time s.time lt (subst (λ z. z.time < r.time) (sym f) (All_in o.1 i)))
    by (inr i) (inr k) later = in_append_right (candidates_from q qs) (later i k)

pub ends-candidate : {rs : List Range} {l : Line} (t : ThroughTwoEnds rs l) → Ordered rs → In (joined_ends t) (candidates rs)
ends-candidate {rs} t o = candidate rs o t.first t.second t.first_in t.second_in t.earlier t.first_value t.second_value t.first_end t.second_end

-- ---- a candidate goes through two ends
-- k is the line through an end of r and an end of s
pub record Joins (r s : Range) (k : Line) : Type 0 where
  pub first_value : ℤ
  pub second_value : ℤ
  pub first_end : IsEnd r first_value
  pub second_end : IsEnd s second_value
  pub is : k ≡ through r.time first_value s.time second_value

ends-all : (r s : Range) → All (Joins r s) (through_ends r s)
unfolding through_ends
ends-all r s =
    cons (of r.high s.low (inr refl) (inl refl))
    (cons (of r.high s.high (inr refl) (inr refl)) (cons (of r.low s.low (inl refl) (inl refl)) (cons (of r.low s.high (inl refl) (inr refl)) nil)))
  where
    of : (u v : ℤ) → IsEnd r u → IsEnd s v → Joins r s (through r.time u s.time v)
    of u v a b = record { first_value = u; second_value = v; first_end = a; second_end = b; is = refl }

from_all : (r : Range) (rs : List Range) → All (λ k. Any (λ s. Joins r s k) rs) (candidates_from r rs)
unfolding candidates_from
from_all r [] = nil
from_all r (s ∷ rs) = All-append (All_imp (λ k. Any_here) (ends-all r s)) (All_imp (λ k. Any_there) (from_all r rs))

-- the two ranges of a candidate
pub record Between (rs : List Range) (k : Line) : Type 0 where
  pub first : Range
  pub second : Range
  pub first_in : In first rs
  pub second_in : In second rs
  pub earlier : first.time < second.time
  pub joins : Joins first second k

pub between-all : (rs : List Range) → Ordered rs → All (Between rs) (candidates rs)
unfolding candidates
between-all [] o = nil
between-all (r ∷ rs) o = All-append (All_imp with_first (from_all r rs)) (All_imp later (between-all rs o.2))
  where
    with_first : (k : Line) → Any (λ s. Joins r s k) rs → Between (r ∷ rs) k
    with_first k a = record { first = r; second = a.entry; first_in = here refl; second_in = there a.among; earlier = All_in o.1 a.among; joins = a.holds }

    later : (k : Line) → Between rs k → Between (r ∷ rs) k
    later k b = record { first = b.first; second = b.second; first_in = there b.first_in; second_in = there b.second_in; earlier = b.earlier; joins = b.joins }

module _ (rs : List Range) (o : Ordered rs) (k : Line) (i : In k (candidates rs)) where
  pub candidate_positive : pos 0 <ℤ k.d
  candidate_positive =
      let b = All_in (between-all rs o) i in
      subst (λ l. pos 0 <ℤ l.d) (sym b.joins.is) (through-positive b.first.time b.second.time b.joins.first_value b.joins.second_value b.earlier)
