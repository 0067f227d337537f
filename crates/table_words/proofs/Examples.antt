-- Lines of tables of two rows and of none, computed by the definitions.
-- Assumes nothing.
use Prim.Native.Nat.{ℕ}
use mathlib.Core.Path.{◌≡◌, refl}
use mathlib.Core.List.{List, [], ◌∷◌, map}
use lib.Ieee.{Float, nan, of_bits, binary64}
use Rattle.std.specs.Prelude.{Err}
use Rattle.scope.specs.declared.Refusal.TheVariants.{BadTable}
use Rattle.scope.specs.Lists.{all, member, from, first_bad}
use Rattle.scope.specs.Cells.{valid_cell, is_pentagon, owner_of, valid_edge}
use Rattle.scope.specs.Table.{Table, table, is_finite, ascends, paired, row_good, table_verdict}
use Rattle.scope.specs.Answers.{refusal_number, refusal_index}
use Rattle.edge_table.specs.Checks.{checked}
use Rattle.text.specs.Text.{ascii, shown, numeral, numeral_in}
use Rattle.table_words.specs.Faults.{whole_fault, row_fault, fault_of}
use Rattle.table_words.specs.Words.{whole_words, row_words, fault_words, fault_place, fault_text, table_text}

unfoldable line : Table → List ℕ
line t = table_text (ascii "T") t (checked t)

-- edge 3 of the cell of T1 in row 0, whose area term is 1
unfoldable rows : ℕ → ℕ → ℕ → Float → Table
rows edge first second term = table (0x13001fffffffffff ∷ edge ∷ []) (first ∷ second ∷ []) (of_bits binary64 0x3ff0000000000000 ∷ term ∷ [])

-- edge 4 of it, and another of resolution 1
abbrev fourth : ℕ
fourth = 0x14001fffffffffff

abbrev finer : ℕ
finer = 0x141003ffffffffff

whole : map line (table [] [] [] ∷ table (fourth ∷ fourth ∷ []) [] [] ∷ rows finer 1 0 nan ∷ []) ≡
    ascii "T: refused 1, the table has fewer than 2 rows\n"
    ∷ ascii "T: refused 10, its columns are of unequal lengths\n"
    ∷ ascii "T: refused 1, its edges are of unequal resolutions\n"
    ∷ []
unfolding all member from first_bad valid_cell is_pentagon owner_of valid_edge is_finite ascends paired row_good table_verdict checked of_bits line rows table_text fault_of whole_fault row_fault refusal_number refusal_index fault_text fault_place fault_words shown numeral numeral_in whole_words
whole = refl

rows_told : map line (rows 0 1 0 nan ∷ rows 0x13001fffffffffff 1 0 nan ∷ rows fourth 2 0 nan ∷ rows fourth 0 1 nan ∷ rows fourth 1 1 nan ∷ rows fourth 1 0 nan ∷ []) ≡
    ascii "T row 1, byte 20: refused 1, this row is no valid edge\n"
    ∷ ascii "T row 1, byte 20: refused 1, this row is not above the one before it\n"
    ∷ ascii "T row 0, byte 0: refused 1, its reverse row is past the end of the table\n"
    ∷ ascii "T row 0, byte 0: refused 1, its reverse row is the row itself\n"
    ∷ ascii "T row 0, byte 0: refused 1, its reverse row does not name it back\n"
    ∷ ascii "T row 1, byte 20: refused 1, its area term is not finite\n"
    ∷ []
unfolding all member from first_bad valid_cell is_pentagon owner_of valid_edge is_finite ascends paired row_good table_verdict checked of_bits line rows table_text fault_of whole_fault row_fault refusal_number refusal_index fault_text fault_place fault_words shown numeral numeral_in row_words
rows_told = refl

-- a table that keeps the rules
kept : line (rows fourth 1 0 (of_bits binary64 0x3ff0000000000000)) ≡ []
unfolding all member from first_bad valid_cell is_pentagon owner_of valid_edge is_finite ascends paired row_good table_verdict checked of_bits line rows table_text
kept = refl

-- and a verdict that points at a row of it, which no check gives: the row is told to be sound
sound_told : table_text (ascii "T") (rows fourth 1 0 (of_bits binary64 0x3ff0000000000000)) (Err (BadTable 1)) ≡ ascii "T row 1, byte 20: refused 1, this row breaks no rule\n"
unfolding all member from first_bad valid_cell is_pentagon owner_of valid_edge is_finite ascends of_bits rows table_text fault_of whole_fault row_fault refusal_number refusal_index shown numeral numeral_in
sound_told = refl
