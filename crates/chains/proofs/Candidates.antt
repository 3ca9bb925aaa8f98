-- Laws that rest on those of specs/Candidates.antt.
--
--     candidate_ends       every candidate goes through two ends
--
-- Assumes nothing.
use Rattle.std.proofs.Common.{sym, subst}
use Rattle.std.specs.Prelude.{List}
use Rattle.std.proofs.Math.IntN.{pos}
use Rattle.integers.specs.Lists.{All_in, In}
use Rattle.definitions.specs.Ranges.{Range}
use Rattle.definitions.specs.Lines.{Line, through, candidates}
use Rattle.definitions.specs.Fit.{Ordered}
use Rattle.chains.specs.Points.{Point, Touches, through-first, through-second}
use Rattle.chains.specs.TwoEnds.{ThroughTwoEnds, touches_reading}
use Rattle.chains.specs.Candidates.{between-all}

module _ (rs : List Range) (o : Ordered rs) (k : Line) (i : In k (candidates rs)) where
  pub candidate_ends : ThroughTwoEnds rs k
  unfolding through
  candidate_ends =
      let b = All_in (between-all rs o) i in
      let j = b.joins in
      let A : Point = record { t = pos b.first.time; u = j.first_value } in
      let B : Point = record { t = pos b.second.time; u = j.second_value } in
      record {
        first = b.first;
        second = b.second;
        first_in = b.first_in;
        second_in = b.second_in;
        earlier = b.earlier;
        first_value = j.first_value;
        second_value = j.second_value;
        first_end = j.first_end;
        second_end = j.second_end;
        on_first = touches_reading k b.first.time j.first_value (subst (λ l. Touches l A) (sym j.is) (through-first A B));
        on_second = touches_reading k b.second.time j.second_value (subst (λ l. Touches l B) (sym j.is) (through-second A B));
      }
