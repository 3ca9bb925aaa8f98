-- How long the parts of a report's lines may be. No line has more than 256 bytes: a segment's has 66 for its span, 168 for its outlook, and a line feed.
--
--     short32                        a number of 32 bits has at most 10 digits
--     LineFits, line-short           a word and a line's three numbers, which fit their types
--     span-short                     the first part of a segment's line
--     refused-short, heading-short   the line of a refusal, and the first line of a trace
--
-- Assumes nothing.
use Rattle.std.specs.Prelude.{ℕ, ◌+◌, ◌≤◌, List, ◌++◌, ℤ, length}
use Rattle.std.proofs.Common.{arith, length-append, Fits, SFits}
use Rattle.std.specs.Int.{w8, w32, w64}
use Rattle.definitions.specs.Lines.{Line}
use Rattle.definitions.specs.Report.{ascii, labelled, decimal, signed_decimal, span_text, trace_line, refused_line}
use Rattle.text.specs.DecimalLaws.{decimal-long}
use Rattle.text.specs.SignLaws.{signed-long}
use Rattle.report_text.specs.Lines.{line_bytes}

-- ---- pieces

joined : (m n : ℕ) (a b : List ℕ) → length a ≤ m → length b ≤ n → length (a ++ b) ≤ m + n
joined m n a b h k = omega (arith, h, k, length-append a b)

pub short32 : (n : ℕ) → Fits w32 n → length (decimal n) ≤ 10
short32 n h = decimal-long 9 n (omega (arith, h.fits))

short64 : (n : ℕ) → Fits w64 n → length (decimal n) ≤ 20
short64 n h = decimal-long 19 n (omega (arith, h.fits))

-- a line's numbers have 64 bits
pub record LineFits (l : Line) : Type 0 where
  pub p_fits : SFits w64 l.p
  pub q_fits : SFits w64 l.q
  pub d_fits : SFits w64 l.d

pub line-short : (word : List ℕ) → length word ≤ 6 → (l : Line) → LineFits l → length (line_bytes word l) ≤ 68
unfolding line_bytes
line-short word short l h =
    let p = word ++ signed_decimal l.p in
    let q = labelled " " (signed_decimal l.q) in
    let d = labelled " " (signed_decimal l.d) in
    let p-short = joined 6 20 word (signed_decimal l.p) short (signed-long l.p h.p_fits) in
    let q-short = joined 1 20 (ascii " ") (signed_decimal l.q) (omega arith) (signed-long l.q h.q_fits) in
    let d-short = joined 1 20 (ascii " ") (signed_decimal l.d) (omega arith) (signed-long l.d h.d_fits) in
    joined 47 21 (p ++ q) d (joined 26 21 p q p-short q-short) d-short

pub span-short : (place first last count : ℕ) → Fits w32 place → Fits w32 first → Fits w32 last → Fits w32 count → length (span_text place first last count) ≤ 66
unfolding span_text
span-short place first last count hp hf hl hc =
    let one = labelled "segment " (decimal place) in
    let two = labelled " from " (decimal first) in
    let three = labelled " to " (decimal last) in
    let four = labelled " ranges " (decimal count) in
    let one-short = joined 8 10 (ascii "segment ") (decimal place) (omega arith) (short32 place hp) in
    let two-short = joined 6 10 (ascii " from ") (decimal first) (omega arith) (short32 first hf) in
    let three-short = joined 4 10 (ascii " to ") (decimal last) (omega arith) (short32 last hl) in
    let four-short = joined 8 10 (ascii " ranges ") (decimal count) (omega arith) (short32 count hc) in
    joined 48 18 (one ++ two ++ three) four (joined 34 14 (one ++ two) three (joined 18 16 one two one-short two-short) three-short) four-short

-- ---- lines

pub refused-short : (n : ℕ) → Fits w8 n → length (refused_line n) ≤ 256
unfolding refused_line
refused-short n h =
    let told = joined 8 10 (ascii "refused ") (decimal n) (omega arith) (decimal-long 9 n (omega (arith, h.fits))) in
    omega (arith, joined 18 1 (labelled "refused " (decimal n)) (ascii "\n") told (omega arith))

pub heading-short : (address : ℕ) (level : ℤ) (ranges segments : ℕ) → Fits w32 address → SFits w64 level → Fits w64 ranges → Fits w64 segments → length (trace_line address level ranges segments) ≤ 256
unfolding trace_line
heading-short address level ranges segments ha hl hr hs =
    let one = labelled "detector " (decimal address) in
    let two = labelled " level " (signed_decimal level) in
    let three = labelled " ranges " (decimal ranges) in
    let four = labelled " segments " (decimal segments) in
    let one-short = joined 9 10 (ascii "detector ") (decimal address) (omega arith) (decimal-long 9 address (omega (arith, ha.fits))) in
    let two-short = joined 7 20 (ascii " level ") (signed_decimal level) (omega arith) (signed-long level hl) in
    let three-short = joined 8 20 (ascii " ranges ") (decimal ranges) (omega arith) (short64 ranges hr) in
    let four-short = joined 10 20 (ascii " segments ") (decimal segments) (omega arith) (short64 segments hs) in
    let four-of = joined 74 30 (one ++ two ++ three) four (joined 46 28 (one ++ two) three (joined 19 27 one two one-short two-short) three-short) four-short in
    omega (arith, joined 104 1 (one ++ two ++ three ++ four) (ascii "\n") four-of (omega arith))
