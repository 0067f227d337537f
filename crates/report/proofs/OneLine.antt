-- What is said of a file that cannot be taken is one line, whatever bytes its name holds.
-- Assumes nothing.
use Prim.Native.Nat.{ℕ}
use mathlib.Core.Path.{◌≡◌, refl}
use mathlib.Core.Bool.{true}
use mathlib.Core.List.{List, ◌++◌}
use Rattle.std.specs.Prelude.{Some, Err}
use Rattle.text.specs.Text.{ascii, shown, unbroken, one_line}
use Rattle.text.proofs.Lines.{name_unbroken, number_unbroken, line_behind, name_line, number_line}
use Rattle.files.specs.declared.Reason.{Reason}
use Rattle.files.specs.declared.Reason.TheVariants as reason
use Rattle.cell_words.specs.declared.Wrong.{Wrong}
use Rattle.cell_words.specs.declared.Wrong.TheVariants as wrong
use Rattle.cell_text.specs.declared.ListFault.TheVariants as list
use Rattle.table_bytes.specs.declared.TableFault.TheVariants as table
use Rattle.note_text.specs.Notes.{noted}
use Rattle.report.specs.Faults.{unreadable_words, unreadable_text, too_long_text, table_fault_text, wrong_text, list_fault_text}

words_line : (why : Reason) → one_line (unreadable_words why) ≡ true
unfolding unreadable_words one_line
words_line reason.Missing = refl
words_line reason.Directory = refl
words_line reason.Forbidden = refl
words_line reason.Other = refl

wrong_line : (what : Wrong) → one_line (wrong_text what) ≡ true
unfolding wrong_text one_line
wrong_line (wrong.Word place) = number_line place _ refl
wrong_line (wrong.Return place) = number_line place _ refl

module _ (name : List ℕ) where
  -- the name, and the line of a list
  lined_unbroken : (line : ℕ) → unbroken (shown name ++ noted (ascii " line ") line (ascii "")) ≡ true
  unfolding unbroken
  lined_unbroken line = name_unbroken name _ (number_unbroken line _ refl)

  pub unreadable_line : (why : Reason) → one_line (unreadable_text name why) ≡ true
  unreadable_line why = name_line name (unreadable_words why) (words_line why)

  module _ (room : ℕ) where
    pub too_long_line : one_line (too_long_text name room) ≡ true
    unfolding one_line
    too_long_line = name_line name _ (number_line room _ refl)

    pub cut_off_line : (place : ℕ) → one_line (table_fault_text name room (Err (table.CutOff place))) ≡ true
    unfolding table_fault_text one_line
    cut_off_line place = name_line name _ (number_line place _ refl)

    pub rows_line : (place : ℕ) → one_line (table_fault_text name room (Err (table.TooMany place))) ≡ true
    unfolding table_fault_text unbroken one_line
    rows_line place = line_behind (shown name ++ noted (ascii " byte ") place (ascii "")) _ (name_unbroken name _ (number_unbroken place _ refl)) (number_line room _ refl)

    pub fault_line : (line : ℕ) (what : Wrong) → one_line (list_fault_text name room (Some (list.Wrong line what))) ≡ true
    unfolding list_fault_text
    fault_line line what = line_behind (shown name ++ noted (ascii " line ") line (ascii "")) (wrong_text what) (lined_unbroken line) (wrong_line what)

    pub cells_line : (line : ℕ) → one_line (list_fault_text name room (Some (list.TooMany line))) ≡ true
    unfolding list_fault_text one_line
    cells_line line = line_behind (shown name ++ noted (ascii " line ") line (ascii "")) _ (lined_unbroken line) (number_line room _ refl)
