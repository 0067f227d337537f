-- Texts, read: what is passed over, both cases, carriage returns, a last line with no newline, a byte order mark; each kind of fault, and the
-- bytes beside each range of digits.
-- Assumes nothing.
use Prim.Native.Nat.{ℕ}
use Prim.Native.String.{String}
use mathlib.Core.Path.{◌≡◌, refl}
use mathlib.Core.List.{List, [], ◌∷◌, ◌++◌}
use Rattle.text.specs.Text.{ascii}
use Rattle.std.specs.Prelude.{Option, Some, None}
use Rattle.cell_text.specs.declared.ListFault.{ListFault}
use Rattle.cell_text.specs.declared.ListFault.TheVariants as fault
use Rattle.cell_words.specs.declared.Wrong.TheVariants.{Word, Return}
use Rattle.cell_words.specs.Words.{prefix_of, number_in, sound_in, digits_of, word_of, trimmed_of, body_of, comment_of, line_of}
use Rattle.cell_text.specs.Lines.{lines, reading, fitted, cells_in, mark_of, cells_of}

text : List ℕ
text = ascii "0x1F\n\n# a\n  aB # b\r\n2"

whole : cells_of 3 text ≡ record { cells = 31 ∷ 171 ∷ 2 ∷ []; numbers = 1 ∷ 4 ∷ 5 ∷ []; end = None }
unfolding text prefix_of number_in sound_in digits_of word_of trimmed_of body_of comment_of line_of lines reading fitted cells_in mark_of cells_of
whole = refl

too_many : cells_of 2 text ≡ record { cells = 31 ∷ 171 ∷ []; numbers = 1 ∷ 4 ∷ []; end = Some (fault.TooMany 5) }
unfolding text prefix_of number_in sound_in digits_of word_of trimmed_of body_of comment_of line_of lines reading fitted cells_in mark_of cells_of
too_many = refl

-- no digit, missing digits, a seventeenth digit, two cells on a line, a letter behind a blank
end_in : List ℕ → Option ListFault
unfolding cells_of
end_in s = (cells_of 2 s).end

end_of : String → Option ListFault
unfolding end_in
end_of s = end_in (ascii s)

faults : (end_of "1\n 12g4" ≡ Some (fault.Wrong 2 (Word 4))) × (end_of "0x # a" ≡ Some (fault.Wrong 1 (Word 3))) × (end_of "0x12345678901234567" ≡ Some (fault.Wrong 1 (Word 19))) × (end_of "1 2" ≡ Some (fault.Wrong 1 (Word 3))) × (end_of "12 \tg" ≡ Some (fault.Wrong 1 (Word 5)))
unfolding end_of end_in prefix_of number_in sound_in digits_of word_of trimmed_of body_of comment_of line_of lines reading fitted cells_in mark_of cells_of
faults = (refl, refl, refl, refl, refl)

-- the first and last digit of each range, and the bytes beside them; NUL, and a carriage return that ends no line
digits : cells_of 1 (ascii "09AFaf") ≡ record { cells = 0x09afaf ∷ []; numbers = 1 ∷ []; end = None }
unfolding prefix_of number_in sound_in digits_of word_of trimmed_of body_of comment_of line_of lines reading fitted cells_in mark_of cells_of
digits = refl

beside : (end_of "1/" ≡ Some (fault.Wrong 1 (Word 2))) × (end_of "1:" ≡ Some (fault.Wrong 1 (Word 2))) × (end_of "1@" ≡ Some (fault.Wrong 1 (Word 2))) × (end_of "1G" ≡ Some (fault.Wrong 1 (Word 2))) × (end_of "1`" ≡ Some (fault.Wrong 1 (Word 2))) × (end_of "1g" ≡ Some (fault.Wrong 1 (Word 2))) × (end_in (0x31 ∷ 0 ∷ []) ≡ Some (fault.Wrong 1 (Word 2))) × (end_of "1\r2" ≡ Some (fault.Wrong 1 (Word 3)))
unfolding end_of end_in prefix_of number_in sound_in digits_of word_of trimmed_of body_of comment_of line_of lines reading fitted cells_in mark_of cells_of
beside = (refl, refl, refl, refl, refl, refl, refl, refl)

-- a carriage return: it ends a comment, before the newline or with the text; inside one it is a fault, behind the body's
comment_ends : cells_of 2 (ascii "# a\r\n1 # b\r") ≡ record { cells = 1 ∷ []; numbers = 2 ∷ []; end = None }
unfolding prefix_of number_in sound_in digits_of word_of trimmed_of body_of comment_of line_of lines reading fitted cells_in mark_of cells_of
comment_ends = refl

comment_faults : (end_of "# a\r1\r2\r" ≡ Some (fault.Wrong 1 (Return 4))) × (end_of "1 # a\r\r\n" ≡ Some (fault.Wrong 1 (Return 6))) × (end_of "1 g # a\r2" ≡ Some (fault.Wrong 1 (Word 3)))
unfolding end_of end_in prefix_of number_in sound_in digits_of word_of trimmed_of body_of comment_of line_of lines reading fitted cells_in mark_of cells_of
comment_faults = (refl, refl, refl)

-- a byte order mark: passed over in front, where places count behind it; a fault where it is cut off, or stands on another line
mark : List ℕ
mark = 0xef ∷ 0xbb ∷ 0xbf ∷ []

marked : cells_of 2 (mark ++ ascii "1\n2") ≡ record { cells = 1 ∷ 2 ∷ []; numbers = 1 ∷ 2 ∷ []; end = None }
unfolding mark prefix_of number_in sound_in digits_of word_of trimmed_of body_of comment_of line_of lines reading fitted cells_in mark_of cells_of
marked = refl

mark_faults : (end_in (mark ++ ascii " 1g") ≡ Some (fault.Wrong 1 (Word 3))) × (end_in (0xef ∷ 0xbb ∷ ascii "1") ≡ Some (fault.Wrong 1 (Word 1))) × (end_in (ascii "1\n" ++ mark) ≡ Some (fault.Wrong 2 (Word 1)))
unfolding mark end_in prefix_of number_in sound_in digits_of word_of trimmed_of body_of comment_of line_of lines reading fitted cells_in mark_of cells_of
mark_faults = (refl, refl, refl)
