-- The polygon of `chains` against the definitions: it fills what the other modules ask of a list of corners and of two extreme lines, and decides which ranges join.
--
--     corners_of                 the polygon's list has all that `CornerList` asks of a list of corners
--     extremes_of                its two lines have all that `OutlookTimes` asks of the slow and the fast line
--     decides                    among ordered ranges, `has_line` decides whether some line fits, which consecutive parts inherit
--     closes                     a range that cannot join is kept out by two ranges of the run, one earlier than the other
--
-- Assumes nothing.
use Rattle.std.proofs.Common.{subst, inl, inr, append_assoc, arith}
use Rattle.std.specs.Prelude.{List, [], ◌∷◌, ◌++◌, ◌≤◌, length}
use Rattle.integers.specs.Lists.{Any, Any_imp, All_imp}
use Rattle.definitions.specs.Ranges.{Range}
use Rattle.definitions.specs.Lines.{Line, candidates, has_line}
use Rattle.definitions.specs.Outlook.{end_time}
use Rattle.definitions.specs.Fit.{InFit, HasLine, Ordered, SameLine}
use Rattle.chains.proofs.Candidates.{candidate_ends}
use Rattle.chains.specs.Results.{slow, fast, corner_list}
use Rattle.chains.proofs.Results.{two_have_line, slow_fits, fast_fits, slow_lowest, fast_highest, corners_fit, corners_candidates, corners_in_order, corners_at_most, mean_of_corners, listed_corners, corners_listed, touching_listed, joins_or_closes}
use Rattle.chains.proofs.Results as Chains
use Rattle.splits.specs.Greedy.{Decides}
use Rattle.splits.specs.Segments.{TwoWithout}
use Rattle.splits.specs.OrderedRanges.{ordered-part, ordered-left}
use Rattle.lines.specs.LineOrder.{same-sym}
use Rattle.lines.specs.HasLine.{has_line→Has_line, HasLine→hasLine, HasLine_part}
use Rattle.lines.specs.CornerFacts.{CornersOf}
use Rattle.lines.specs.OutlookTimes.{ExtremesOf}

-- ---- a run of two or more ranges that has a line

turned : {l : Line} {ls : List Line} → Any (λ k. SameLine k l) ls → Any (SameLine l) ls
turned a = Any_imp (λ k s. same-sym s) a

module _ (r s : Range) (ws : List Range) (o : Ordered (r ∷ s ∷ ws)) (h : HasLine (r ∷ s ∷ ws)) where
  pub corners_of : CornersOf (r ∷ s ∷ ws) (corner_list r s ws)
  corners_of =
      record {
        ordered = corners_in_order r s ws o h;
        listed_fit = corners_fit r s ws o h;
        listed_candidate = All_imp (λ l a. Any_imp (λ k p. same-sym p.0) a) (corners_candidates r s ws o h);
        candidate_listed = λ l i f. turned (touching_listed r s ws o h l f (candidate_ends (r ∷ s ∷ ws) o l i));
        listed_corner = listed_corners r s ws o h;
        corner_listed = λ l c. turned (corners_listed r s ws o h l c);
        few = corners_at_most r s ws o h;
        means = mean_of_corners r s ws o h;
      }

  pub extremes_of : ExtremesOf (r ∷ s ∷ ws) (end_time s ws) (slow r s ws) (fast r s ws)
  extremes_of =
      record {
        slow_fit = slow_fits r s ws o h;
        fast_fit = fast_fits r s ws o h;
        slow_lowest = λ level t late a l f. slow_lowest r s ws o h l f level t late a;
        fast_highest = λ level t late l f a. fast_highest r s ws o h l f level t late a;
      }

-- ---- which ranges join

candidate-fits : (rs : List Range) → 2 ≤ length rs → Ordered rs → HasLine rs → Any (InFit rs) (candidates rs)
candidate-fits [] two o h = absurd (omega arith)
candidate-fits (r ∷ []) two o h = absurd (omega arith)
candidate-fits (r ∷ s ∷ ws) two o h = Chains.candidate-fits r s ws o h

pub decides : Decides Ordered HasLine has_line
unfolding has_line
decides =
    record {
      ok_part = ordered-part;
      part = λ xs ys zs h. HasLine_part xs ys zs (subst HasLine (append_assoc xs ys zs) h);
      one = λ r o. has_line→Has_line (r ∷ []) o tt;
      passes = HasLine→hasLine candidate-fits;
      means = has_line→Has_line;
    }

pub closes : (run : List Range) (w : Range) → Ordered (run ++ (w ∷ [])) → HasLine run → (HasLine (run ++ (w ∷ [])) → ⊥) → TwoWithout run w
closes [] w o h out = absurd (out (decides.one w o))
closes (r ∷ []) w o h out = absurd (out (two_have_line r w o))
closes (r ∷ s ∷ ws) w o h out =
    elim (joins_or_closes r s ws (ordered-left (r ∷ s ∷ ws) (w ∷ []) o) h w o) [
      | inl j ↦ absurd (out j)
      | inr c ↦ record { first = c.first; second = c.second; first_in = c.first_in; second_in = c.second_in; earlier = c.earlier; no_line = c.no_line }
    ]
