-- Laws of text that is put piece by piece.
--
--     put-none, put_one      a piece of no byte, and of one
--     put_then, put-before   a piece just after another is one piece, and so is a byte just before a piece
--     room-front, room_then  room for two pieces is room for the first, and after it for the second
--     put_length             the text stays as long as it was
--     FirstPut, first-none, first_next, first-all   the first bytes of a word: none, one more, and all
--
-- Assumes nothing.
use Rattle.std.specs.Prelude.{ℕ, suc, ◌+◌, ◌≤◌, ◌<◌, ◌≡◌, refl, List, [], ◌∷◌, ◌++◌, length, get_or, set, take}
use Rattle.std.proofs.Common.{sym, ap, ◌∙◌, arith, add-one, length-append, take-suc, take_all, length-take-le}
use Rattle.std.proofs.lemmas.List.Edits.{sets}
use Rattle.std.proofs.lemmas.List.{set_comm}
use Rattle.fields.specs.Splices.{splice}
use Rattle.fields.specs.SpliceLaws.{splice_in, splice-length, splice-then}
use Rattle.text.specs.Put.{Room, Put}

pub put-none : (at : ℕ) (old : List ℕ) → Room at [] old → Put at [] old (at + 0) old
put-none at old h = record { fits = h; next_is = refl; text_is = sym (splice_in at [] old h) }

pub put_one : (at : ℕ) (b : ℕ) (old : List ℕ) → Room at (b ∷ []) old → Put at (b ∷ []) old (at + 1) (set old at b)
put_one at b old h = record { fits = h; next_is = refl; text_is = sym (splice_in at (b ∷ []) old h) }

module _ {at next : ℕ} {new old text : List ℕ} (put : Put at new old next text) where
  pub put_length : length text ≡ length old
  put_length = ap length put.text_is ∙ splice-length at new old

  pub room_then : (more : List ℕ) → Room at (new ++ more) old → Room next more text
  room_then more h = omega (arith, h, length-append new more, put.next_is, put_length)

  pub put_then : {more : List ℕ} {last : ℕ} {after : List ℕ} → Put next more text last after → Put at (new ++ more) old last after
  put_then {more} {last} {after} then =
      let long = length-append new more in
      let room : next + length more ≤ length old = omega (arith, then.fits, put_length) in
      record {
        fits = omega (arith, long, room, put.next_is);
        next_is = omega (arith, then.next_is, put.next_is, long);
        text_is = then.text_is ∙ ap (splice next more) put.text_is ∙ splice-then at next new more old put.next_is room;
      }

-- stores at different places come in any order
stores-before : (text new : List ℕ) (i j b : ℕ) → i < j → set (sets text j new) i b ≡ sets (set text i b) j new
stores-before text [] i j b h = refl
stores-before text (n ∷ new) i j b h = stores-before (set text j n) new i (suc j) b (omega arith) ∙ ap (λ l. sets l (suc j) new) (set_comm text j i n b (λ e. absurd (omega (arith, e))))

pub put-before : {at next : ℕ} {new old text : List ℕ} (b : ℕ) → Put (at + 1) new old next text → Put at (b ∷ new) old next (set text at b)
put-before {at} {next} {new} {old} {text} b put =
    let room : Room at (b ∷ new) old = omega (arith, put.fits) in
    let stores : text ≡ sets old (suc at) new = put.text_is ∙ splice_in (at + 1) new old put.fits ∙ ap (λ k. sets old k new) (add-one at) in
    record {
      fits = room;
      next_is = omega (arith, put.next_is);
      text_is = ap (λ l. set l at b) stores ∙ stores-before old new at (suc at) b (omega arith) ∙ sym (splice_in at (b ∷ new) old room);
    }

pub room-front : (at : ℕ) (new more old : List ℕ) → Room at (new ++ more) old → Room at new old
room-front at new more old h = omega (arith, h, length-append new more)

-- ---- a word, byte by byte

-- the first i bytes are put
pub record FirstPut (at : ℕ) (word old : List ℕ) (i : ℕ) (text : List ℕ) : Type 0 where
  pub some : i ≤ length word
  pub put : Put at (take i word) old (at + i) text

module _ (at : ℕ) (word old : List ℕ) (room : Room at word old) where
  pub first-none : FirstPut at word old 0 old
  first-none = record { some = omega arith; put = put-none at old (omega (arith, room)) }

  pub first_next : (i : ℕ) (text : List ℕ) → i < length word → FirstPut at word old i text → FirstPut at word old (i + 1) (set text (at + i) (get_or word i 0))
  first_next i text h first =
      let one = put_one (at + i) (get_or word i 0) text (omega (arith, room, put_length first.put)) in
      let more : take (i + 1) word ≡ take i word ++ (get_or word i 0 ∷ []) = ap (λ n. take n word) (add-one i) ∙ take-suc word i 0 h in
      let long = length-take-le (i + 1) word (omega arith) in
      record {
        some = omega arith;
        put = record { fits = omega (arith, room, long); next_is = omega (arith, long); text_is = (put_then first.put one).text_is ∙ ap (λ bs. splice at bs old) (sym more) };
      }

  pub first-all : (i : ℕ) (text : List ℕ) → length word ≤ i → FirstPut at word old i text → Put at word old (at + i) text
  first-all i text h first = rw (take_all i word h) at first.put
