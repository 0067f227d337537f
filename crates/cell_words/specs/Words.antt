-- A line of a cell list: blank, a comment, or one cell in hexadecimal with or without 0x. A line is a list of bytes.
-- Assumes nothing.
use Rattle.std.specs.Prelude.{ℕ, zero, suc, ◌+◌, ◌-◌, ◌*◌, ◌%◌, min, Bool, ◌&&◌, ◌||◌, not, cond, List, reverse, eqb, leb, length, take, drop, Option, Some, None, Result, Ok, Err}
use Rattle.std.specs.List.{take_while}
use Rattle.scope.specs.Lists.{at}
use Rattle.cell_words.specs.declared.Wrong.{Wrong}
use Rattle.cell_words.specs.declared.Wrong.TheVariants.{Word, Return}

-- ---- bytes

-- space, tab, carriage return
abbrev pub is_blank : ℕ → Bool
is_blank b = eqb b 32 || eqb b 9 || eqb b 13

-- 0 to 9, A to F, a to f
abbrev pub is_digit : ℕ → Bool
is_digit b = leb 48 b && leb b 57 || leb 65 b && leb b 70 || leb 97 b && leb b 102

-- what a digit is worth: of 0 to 9 the low four bits, of a letter these and nine
abbrev pub worth : ℕ → ℕ
worth b = cond (leb b 57) (b % 16) ((b + 9) % 16)

-- ---- runs of bytes

abbrev pub before_byte : ℕ → List ℕ → ℕ
before_byte b s = length (take_while (λ x. not (eqb x b)) s)

abbrev pub blanks_before : List ℕ → ℕ
blanks_before s = length (take_while is_blank s)

abbrev pub blanks_after : List ℕ → ℕ
blanks_after s = length (take_while is_blank (reverse s))

abbrev pub digits_before : List ℕ → ℕ
digits_before s = length (take_while is_digit s)

-- ---- the word of a line

abbrev pub without_blanks_before : List ℕ → List ℕ
without_blanks_before s = drop (blanks_before s) s

abbrev pub without_blanks_after : List ℕ → List ℕ
without_blanks_after s = take (length s - blanks_after s) s

-- ---- a cell

-- 0x or 0X stands in front
abbrev pub prefixed : List ℕ → Bool
prefixed w = leb 2 (length w) && eqb (at w 0) 48 && (eqb (at w 1) 120 || eqb (at w 1) 88)

unfoldable pub prefix_of : List ℕ → ℕ
prefix_of w = cond (prefixed w) 2 0

-- the number in the first n digits
unfoldable pub number_in : List ℕ → ℕ → ℕ
number_in d zero = 0
number_in d (suc n) = number_in d n * 16 + worth (at d n)

-- how many bytes may stand in front, of which n are digits: these, sixteen at most, and the blanks behind them
unfoldable pub sound_in : List ℕ → ℕ → ℕ
sound_in d n = cond (leb 1 n && leb n 16) (n + blanks_before (drop n d)) (min n 16)

-- A cell is 1 to 16 digits. Else the fault is at the first byte behind the digits that is no blank, at the seventeenth digit, or where digits
-- are missing; start is how many bytes of the line stand before the digits, and the fault's byte is counted from 1.
unfoldable pub digits_of : ℕ → List ℕ → Result ℕ Wrong
digits_of start d =
    let n = digits_before d in
    cond (eqb n (length d) && leb 1 n && leb n 16) (Ok (number_in d n)) (Err (Word (start + sound_in d n + 1)))

-- None where no cell stands
abbrev pub some_cell : Result ℕ Wrong → Result (Option ℕ) Wrong
some_cell (Ok x) = Ok (Some x)
some_cell (Err wrong) = Err wrong

unfoldable pub word_of : ℕ → List ℕ → Result (Option ℕ) Wrong
word_of start w = cond (eqb (length w) 0) (Ok None) (some_cell (digits_of (start + prefix_of w) (drop (prefix_of w) w)))

-- ---- a line without its comment

unfoldable pub trimmed_of : ℕ → List ℕ → Result (Option ℕ) Wrong
trimmed_of start s = word_of start (without_blanks_after s)

unfoldable pub body_of : List ℕ → Result (Option ℕ) Wrong
body_of s = trimmed_of (blanks_before s) (without_blanks_before s)

-- ---- a line with its comment

-- the place of the # that begins it
abbrev pub comment_at : List ℕ → ℕ
comment_at l = before_byte 35 l

-- A carriage return may end a comment. Before its end it is a fault: where lines end with it alone, a comment would swallow the cells behind it.
unfoldable pub comment_of : ℕ → List ℕ → Result (Unit {0}) Wrong
comment_of start comment =
    let n = before_byte 13 comment in
    cond (leb (length comment) (n + 1)) (Ok tt) (Err (Return (start + n + 1)))

-- A fault of the body comes first.
abbrev pub beside_comment : Result (Option ℕ) Wrong → Result (Unit {0}) Wrong → Result (Option ℕ) Wrong
beside_comment (Err wrong) comment = Err wrong
beside_comment (Ok cell) (Err wrong) = Err wrong
beside_comment (Ok cell) (Ok done) = Ok cell

unfoldable pub line_of : List ℕ → Result (Option ℕ) Wrong
line_of l = beside_comment (body_of (take (comment_at l) l)) (comment_of (comment_at l) (drop (comment_at l) l))
