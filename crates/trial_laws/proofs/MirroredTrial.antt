-- Laws that rest on those of specs/MirroredTrial.antt.
--
--     ranges-mirrored         the ranges of the image are the images of the ranges, also of lists that differ in length
--     trial_mirrored          the trial that all calls share gives the same answer
--     segment_trial_mirrored, latest_trial_mirrored, corner_trial_mirrored   so do the rows of Segment, of Latest and of Corners
--
-- Assumes nothing.
use Rattle.std.specs.Prelude.{◌≡◌, Bool, false, List, [], ◌∷◌, map, ℕ, ltb, length}
use Rattle.std.proofs.Common.{sym, ap, ap₂, ◌∙◌}
use Rattle.definitions.specs.Spans.{most_ranges, segment_room, corner_room}
use Rattle.definitions.specs.Services.{Service}
use Rattle.definitions.specs.Times.{none}
use Rattle.definitions.specs.Ranges.{Lists, ranges_of}
use Rattle.definitions.specs.Answers.{◌if◌, ◌>>=◌, firstRow}
use Rattle.definitions.specs.Trial.{ranges_rows, too_short, differ, segment_rows, latest_rows, corner_rows}
use Rattle.definitions.specs.Mirrors.{mirrored_range, mirrored_lists, mirrored_service}
use Rattle.trial_laws.specs.Rows.{first_row-rest}
use Rattle.trial_laws.specs.ListTrial.{trial_rows, bad_service, segment_trial, latest_trial, count_rows, corner_trial}
use Rattle.trial_laws.specs.MirroredTrial.{differ-mirrored, ranges_rows-mirrored, service-mirrored, zip-mirrored}

pub ranges-mirrored : (ls : Lists) → ranges_of (mirrored_lists ls) ≡ map mirrored_range (ranges_of ls)
unfolding ranges_of
ranges-mirrored ls = zip-mirrored ls.times ls.lows ls.highs

pub trial_mirrored : (short bad : Bool) (ls : Lists) → firstRow (trial_rows short bad (mirrored_lists ls)) ≡ firstRow (trial_rows short bad ls)
unfolding trial_rows
trial_mirrored short bad ls =
    let first = 8 if short ∷ 10 if differ ls ∷ 7 if ltb most_ranges (length ls.times) ∷ 4 if bad ∷ [] in
    ap₂ (λ d rs. firstRow (8 if short ∷ 10 if d ∷ 7 if ltb most_ranges (length ls.times) ∷ 4 if bad ∷ ranges_rows none rs)) (differ-mirrored ls) (ranges-mirrored ls)
    ∙ first_row-rest first (ranges_rows none (map mirrored_range (ranges_of ls))) (ranges_rows none (ranges_of ls)) (ranges_rows-mirrored none (ranges_of ls))

service_trial_mirrored : (v : Service) (ls : Lists) {short short' : Bool} → short' ≡ short → firstRow (trial_rows short' (bad_service (mirrored_service v)) (mirrored_lists ls)) ≡ firstRow (trial_rows short (bad_service v) ls)
service_trial_mirrored v ls {short} {short'} alike =
    trial_mirrored short' (bad_service (mirrored_service v)) ls ∙ ap₂ (λ short bad. firstRow (trial_rows short bad ls)) alike (service-mirrored v)

-- the two calls may be lent slices of other lengths, as long as both have room or neither has
module _ (ls : Lists) (lengths lengths' : List ℕ) where
  pub segment_trial_mirrored : (v : Service) → too_short segment_room lengths' ≡ too_short segment_room lengths → firstRow (segment_rows lengths' (mirrored_service v) (mirrored_lists ls)) ≡ firstRow (segment_rows lengths v ls)
  segment_trial_mirrored v alike = segment_trial lengths' (mirrored_service v) (mirrored_lists ls) ∙ service_trial_mirrored v ls alike ∙ sym (segment_trial lengths v ls)

  pub latest_trial_mirrored : (v : Service) → too_short corner_room lengths' ≡ too_short corner_room lengths → firstRow (latest_rows lengths' (mirrored_service v) (mirrored_lists ls)) ≡ firstRow (latest_rows lengths v ls)
  latest_trial_mirrored v alike = latest_trial lengths' (mirrored_service v) (mirrored_lists ls) ∙ service_trial_mirrored v ls alike ∙ sym (latest_trial lengths v ls)

  pub corner_trial_mirrored : (k : ℕ) → too_short corner_room lengths' ≡ too_short corner_room lengths → firstRow (corner_rows lengths' k (mirrored_lists ls)) ≡ firstRow (corner_rows lengths k ls)
  corner_trial_mirrored k alike =
      corner_trial lengths' k (mirrored_lists ls)
      ∙ ap (λ x. x >>= λ ok. firstRow (count_rows k ls)) (trial_mirrored (too_short corner_room lengths') false ls ∙ ap (λ short. firstRow (trial_rows short false ls)) alike)
      ∙ sym (corner_trial lengths k ls)
