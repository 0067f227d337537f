-- The cells of a text with the lines that they stand on, up to the first fault. Lines are counted from 1, and so are the bytes of a line.
-- Assumes nothing.
use Rattle.std.specs.Prelude.{ℕ, suc, ◌+◌, ◌≡◌, ◌&&◌, cond, List, [], ◌∷◌, eqb, leb, ltb, length, take, drop, set, Option, Some, None, Result, Ok, Err}
use Rattle.std.proofs.lemmas.List.Edits.{sets}
use Rattle.scope.specs.Lists.{at}
use Rattle.cell_words.specs.declared.Wrong.{Wrong}
use Rattle.cell_text.specs.declared.ListFault.{ListFault}
use Rattle.cell_text.specs.declared.ListFault.TheVariants as fault
use Rattle.cell_text.specs.declared.Stopped.{Stopped}
use Rattle.cell_words.specs.Words.{line_of}

-- ---- lines

-- a byte in front of the first line
abbrev pub onto : ℕ → List (List ℕ) → List (List ℕ)
onto b [] = (b ∷ []) ∷ []
onto b (l ∷ ls) = (b ∷ l) ∷ ls

-- The lines of a text are what stands between its newlines.
unfoldable pub lines : List ℕ → List (List ℕ)
lines [] = [] ∷ []
lines (b ∷ s) = let ls = lines s in cond (eqb b 10) ([] ∷ ls) (onto b ls)

-- ---- cells

-- the cells, the line of each, and what ends the reading: None where it is the end of the text
pub record Reading : Type 0 where
  pub cells : List ℕ
  pub numbers : List ℕ
  pub end : Option ListFault

abbrev pub ended : Option ListFault → Reading
ended e = record { cells = []; numbers = []; end = e }

abbrev pub and_cell : ℕ → ℕ → Reading → Reading
and_cell x k r = record { cells = x ∷ r.cells; numbers = k ∷ r.numbers; end = r.end }

-- line k, read, and what is read after it
abbrev pub and_line : Result (Option ℕ) Wrong → ℕ → Reading → Reading
and_line (Ok None) k r = r
and_line (Ok (Some x)) k r = and_cell x k r
and_line (Err wrong) k r = ended (Some (fault.Wrong k wrong))

-- the lines from line k on
unfoldable pub reading : ℕ → List (List ℕ) → Reading
reading k [] = ended None
reading k (l ∷ ls) = let r = reading (suc k) ls in and_line (line_of l) k r

-- Where there is room for fewer, the cells that fit, and the line of the first that does not.
unfoldable pub fitted : ℕ → Reading → Reading
fitted room r =
    cond (leb (length r.cells) room) r
    (record { cells = take room r.cells; numbers = take room r.numbers; end = Some (fault.TooMany (at r.numbers room)) })

unfoldable pub cells_in : ℕ → List ℕ → Reading
cells_in room s = fitted room (reading 1 (lines s))

-- ---- a text

-- A byte order mark, EF BB BF, may stand in front. It is passed over, and the bytes of line 1 are counted behind it.
unfoldable pub mark_of : List ℕ → ℕ
mark_of text = cond (leb 3 (length text) && eqb (at text 0) 0xef && eqb (at text 1) 0xbb && eqb (at text 2) 0xbf) 3 0

abbrev pub without_mark : List ℕ → List ℕ
without_mark text = drop (mark_of text) text

unfoldable pub cells_of : ℕ → List ℕ → Reading
cells_of room text = cells_in room (without_mark text)

-- ---- what the functions promise

-- how many cells, or what ended the reading
abbrev pub answered : Option ListFault → ℕ → Result ℕ Stopped
answered None count = Ok count
answered (Some fault) count = Err (record { count = count; fault = fault })

-- a reading, stored from the front of two slices; what lies past it stays as it was
pub record Stored (r : Reading) (cells numbers : List ℕ) (answer : Result ℕ Stopped) (cells' numbers' : List ℕ) : Type 0 where
  pub answer_is : answer ≡ answered r.end (length r.cells)
  pub cells_are : cells' ≡ sets cells 0 r.cells
  pub numbers_are : numbers' ≡ sets numbers 0 r.numbers

-- Line `number` taken, where `count` cells stand and `room` fit: how many stand after it, or what ends the reading there.
unfoldable pub listed_by : ℕ → Result (Option ℕ) Wrong → ℕ → ℕ → Result ℕ Stopped
listed_by room (Ok None) number count = Ok count
listed_by room (Ok (Some x)) number count = cond (ltb count room) (Ok (count + 1)) (Err (record { count = count; fault = fault.TooMany number }))
listed_by room (Err wrong) number count = Err (record { count = count; fault = fault.Wrong number wrong })

-- a slice after it, in which a cell that fits has its value stored
unfoldable pub stored_by : ℕ → Result (Option ℕ) Wrong → (ℕ → ℕ) → ℕ → List ℕ → List ℕ
stored_by room (Ok None) value count s = s
stored_by room (Ok (Some x)) value count s = cond (ltb count room) (set s count (value x)) s
stored_by room (Err wrong) value count s = s

-- line `number` taken: the answer, and both slices
pub record Took (room : ℕ) (l : Result (Option ℕ) Wrong) (number count : ℕ) (cells numbers : List ℕ) (answer : Result ℕ Stopped) (cells' numbers' : List ℕ) : Type 0 where
  pub listed : answer ≡ listed_by room l number count
  pub cells_are : cells' ≡ stored_by room l (λ x. x) count cells
  pub numbers_are : numbers' ≡ stored_by room l (λ x. number) count numbers
