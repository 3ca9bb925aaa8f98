-- Laws that rest on those of specs/PanelTheorems.antt.
--
--     places_add_up               the places held add up to the ranges accepted since the panel started
--     most_all                    at most 4,096 ranges are accepted in all
--
-- Assumes nothing.
use Rattle.std.specs.Prelude.{◌+◌, ◌≤◌, ◌≡◌, length}
use Rattle.std.proofs.Common.{zero-add, ◌∙◌, subst}
use Rattle.std.proofs.Math.Path.{ap}
use mathlib.Core.List.{List}
use Rattle.definitions.specs.Panels.{Panel, Taken, total_held}
use Rattle.panel_laws.specs.AddLaws.{AllEmpty, none-held, Starts, starts-panel}
use Rattle.panel_laws.specs.HeldLaws as Held
use Rattle.panel.specs.Courses.{Course, held_course}
use Rattle.panel.specs.PanelTheorems.{course_panel}

module _ {start : Panel} {xs : List Taken} {s : Panel} (course : Course start xs s) where
  pub places_add_up : AllEmpty start.entries → total_held s.entries ≡ length xs
  places_add_up empty = held_course course ∙ ap (λ n. n + length xs) (none-held empty) ∙ zero-add (length xs)

  pub most_all : Starts start → length xs ≤ 4096
  most_all starts = subst (λ n. n ≤ 4096) (places_add_up starts.empty) (Held.all_held (course_panel course (starts-panel starts)))
