-- `fit::ends::seen` meets its contract: a value within 2^28 is the same as i32 and as i64, and so is its negation. Assumes nothing.
use Prim.Native.Nat.{ℕ, ◌<◌}
use mathlib.Core.Path.{◌≡◌, ap, ◌∙◌}
use lib.IntN.{pos, ◌-ℤ◌}
use mir.Syntax.{w64}
use mir.Facts.{to_z-of_z}
use borrow.Author.Rules.{rules}
use Rattle.integers.specs.Bounds.{fits}
use Rattle.drift_laws.specs.EndReads.{rd, clock_in, time-clock, value_mirrored, value_plain}
use Rattle.fit.specs.LinesOfEnds.{seen_of}
use Rattle.fit.proofs.ends.seen.Goals as goal

time_read : (t : ℕ) → t < 4294967296 → rd (pos t) ≡ pos t
time_read t h = to_z-of_z {w = w64} (fits (clock_in (time-clock t h)) tt)

pub returns-then-flip : goal.returns-then-flip
returns-then-flip c =
    let e = c.args.e in
    seen_of c.args.flip e (search rules) c.requires (ap rd c.from-t.ensures ∙ time_read e.time (search rules)) (ap (λ u. rd (pos 0 -ℤ rd u)) c.from-u.ensures ∙ value_mirrored c.requires c.if-flip.true)

pub returns-else-flip : goal.returns-else-flip
returns-else-flip c =
    let e = c.args.e in
    seen_of c.args.flip e (search rules) c.requires (ap rd c.from-t.ensures ∙ time_read e.time (search rules)) (ap rd c.from-u.ensures ∙ value_plain c.requires c.if-flip.false)
