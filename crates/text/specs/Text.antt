-- Text as bytes, and a text written into a slice: as much of it as fits, from a place on.
-- Assumes nothing.
use Rattle.std.specs.Prelude.{ℕ, zero, suc, ◌+◌, ◌-◌, ◌/◌, ◌%◌, min, ◌≡◌, Bool, true, false, ◌&&◌, ◌||◌, cond, not, List, [], ◌∷◌, ◌++◌, map, eqb, ltb, leb, length}
use Prim.Native.Char.{code}
use Prim.Native.String.{String}
use Prim.Native.String as string
use Rattle.std.proofs.lemmas.List.Edits.{sets}

-- a text in plain ASCII, a byte for each character
abbrev pub ascii : String → List ℕ
ascii string.[] = []
ascii (string.◌∷◌ c s) = code c ∷ ascii s

-- ---- names

abbrev pub is_control : ℕ → Bool
is_control b = ltb b 32 || eqb b 127

-- A control byte, which may end a line, is shown as a question mark.
abbrev pub shown_byte : ℕ → ℕ
shown_byte b = cond (is_control b) 63 b

-- a name, or a word of a command line, as it is shown
unfoldable pub shown : List ℕ → List ℕ
shown name = map shown_byte name

-- ---- numbers

-- a digit below 16: 0 to 9, then a to f
abbrev pub glyph : ℕ → ℕ
glyph d = cond (ltb d 10) (48 + d) (87 + d)

-- n in a base, in no fewer digits than `least`; one digit where there is no fuel left
unfoldable pub numeral_in : ℕ → ℕ → ℕ → ℕ → List ℕ
numeral_in zero base least n = glyph (n % base) ∷ []
numeral_in (suc fuel) base least n =
    let front = numeral_in fuel base (least - 1) (n / base) in
    cond (ltb n base && leb least 1) [] front ++ (glyph (n % base) ∷ [])

-- as much fuel as there can be digits
unfoldable pub numeral : ℕ → ℕ → ℕ → List ℕ
numeral base least n = numeral_in (n + least) base least n

abbrev pub decimal : ℕ → List ℕ
decimal n = numeral 10 1 n

-- sixteen digits
abbrev pub hexadecimal : ℕ → List ℕ
hexadecimal n = numeral 16 16 n

-- ---- writing

-- Text written into a slice from place `from` on, as far as the slice goes, up to place `to`.
pub record Wrote (before : List ℕ) (from : ℕ) (after : List ℕ) (to : ℕ) (text : List ℕ) : Type 0 where
  pub bytes : after ≡ sets before from text
  pub place : to ≡ min (from + length text) (length before)

-- ---- lines

-- no byte ends a line
unfoldable pub unbroken : List ℕ → Bool
unbroken [] = true
unbroken (b ∷ text) = not (eqb b 10) && unbroken text

abbrev pub is_empty : List ℕ → Bool
is_empty [] = true
is_empty (b ∷ text) = false

-- one line: its first line end is its last byte
unfoldable pub one_line : List ℕ → Bool
one_line [] = false
one_line (b ∷ text) = cond (eqb b 10) (is_empty text) (one_line text)
