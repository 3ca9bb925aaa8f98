-- `text::put_word` meets its contract: a word that is copied to its place is put there. Assumes nothing.
use Rattle.std.proofs.Common.{◌≡◌, refl, sym, ◌∙◌, ◌+◌, ◌-◌, arith, length, take, drop, drop-drop, append_assoc}
use Rattle.fields.specs.SpliceLaws.{splice-fits}
use Rattle.text.proofs.put_word.Goals as goal

pub returns : goal.returns
returns c =
    let a = c.args in
    let long = length a.word.now in
    let part : a.at + long - a.at ≡ long = omega arith in
    record {
      fits = c.requires;
      next_is = refl;
      text_is =
          rw (c.copy_from_slice.ensures.after, part, drop-drop long a.at a.text.now)
          (sym (splice-fits a.at a.word.now a.text.now c.requires ∙ append_assoc (take a.at a.text.now) a.word.now (drop (a.at + long) a.text.now)));
    }
