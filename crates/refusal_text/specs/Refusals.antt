-- Refusals in words, with their number, and with the line of the cell or the row of the table that they point at.
-- Assumes nothing.
use Rattle.std.specs.Prelude.{ℕ, ◌&&◌, cond, List, [], ◌++◌, eqb, leb}
use Rattle.text.specs.Text.{ascii, shown}
use Rattle.note_text.specs.Notes.{noted}

-- 7 to 10: of the memory lent
abbrev pub memory_words : ℕ → List ℕ
memory_words n =
    cond (eqb n 7) (ascii "the pool has too few free slots for this cell's outline")
    (cond (eqb n 8) (ascii "there are more cells than places")
    (cond (eqb n 9) (ascii "the state breaks a rule")
    (ascii "a length, a capacity or the mode is out of range, or an output is too short")))

-- Refusals by their number alone.
unfoldable pub refusal_words : ℕ → List ℕ
refusal_words n =
    cond (eqb n 1) (ascii "the table breaks a rule")
    (cond (eqb n 2) (ascii "this is no valid cell")
    (cond (eqb n 3) (ascii "this cell is there already, or lies under another")
    (cond (eqb n 4) (ascii "this cell's resolution does not fit the table")
    (cond (eqb n 5) (ascii "an edge of this cell's outline is not in the table")
    (cond (eqb n 6) (ascii "this cell's outline names an edge twice")
    (memory_words n))))))

-- Refusal 1 by its row: 0 is also that of a bad row count and of unequal resolutions. A row of a table file has 20 bytes.
abbrev pub row_words : ℕ → List ℕ
row_words index =
    cond (eqb index 0) (ascii "the table has fewer than 2 rows or more than 65536, its resolutions are unequal, or this row is no valid edge, is not named back by its reverse row, or has no finite area term")
    (ascii "this row (the first is row 0, each has 20 bytes) is no valid edge, is out of order, is not named back by its reverse row, or has no finite area term")

-- Refusals by number and index.
abbrev pub reason_words : ℕ → ℕ → List ℕ
reason_words n index = cond (eqb n 1) (row_words index) (refusal_words n)

-- Which file it points at, and where in it: the row of the table, the line of the cell, or the list. 9 and 10 point at no file.
unfoldable pub refusal_place : List ℕ → List ℕ → ℕ → ℕ → ℕ → List ℕ
refusal_place table list n index line =
    cond (eqb n 1) (shown table ++ noted (ascii " row ") index (ascii ": "))
    (cond (leb 2 n && leb n 7) (shown list ++ noted (ascii " line ") line (ascii ": "))
    (cond (eqb n 8) (shown list ++ ascii ": ") []))

unfoldable pub refusal_text : List ℕ → List ℕ → ℕ → ℕ → ℕ → List ℕ
refusal_text table list n index line = refusal_place table list n index line ++ noted (ascii "refused ") n (ascii ", ") ++ reason_words n index ++ ascii "\n"
