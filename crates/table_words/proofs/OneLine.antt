-- A fault of a table is told in one line, whatever bytes the name of the file holds.
-- Assumes nothing.
use Prim.Native.Nat.{ℕ, ◌*◌}
use mathlib.Core.Path.{◌≡◌, refl, ap, ◌∙◌}
use mathlib.Core.Bool.{true}
use mathlib.Core.List.{List, ◌++◌}
use Rattle.std.specs.Prelude.{Result, Ok, Err}
use Rattle.scope.specs.declared.Refusal.{Refusal}
use Rattle.scope.specs.Answers.{Verdict, refusal_number, refusal_index}
use Rattle.scope.specs.Table.{Table}
use Rattle.edge_table.specs.Checks.{checked}
use Rattle.text.specs.Text.{ascii, shown, unbroken, one_line}
use Rattle.text.proofs.Lines.{unbroken_more, shown_unbroken, number_unbroken, line_behind}
use Rattle.note_text.specs.Notes.{noted}
use Rattle.table_words.specs.declared.rules.WholeFault.{WholeFault}
use Rattle.table_words.specs.declared.rules.WholeFault.TheVariants as whole
use Rattle.table_words.specs.declared.rules.RowFault.{RowFault}
use Rattle.table_words.specs.declared.rules.RowFault.TheVariants as row
use Rattle.table_words.specs.declared.rules.Fault.{Fault}
use Rattle.table_words.specs.declared.rules.Fault.TheVariants as fault
use Rattle.table_words.specs.Faults.{fault_of}
use Rattle.table_words.specs.Words.{whole_words, row_words, fault_words, row_place, fault_place, fault_text, told_text, table_text}

whole_unbroken : (f : WholeFault) → unbroken (whole_words f) ≡ true
unfolding whole_words unbroken
whole_unbroken whole.Lengths = refl
whole_unbroken whole.TooFew = refl
whole_unbroken whole.TooMany = refl
whole_unbroken whole.Resolutions = refl

row_unbroken : (f : RowFault) → unbroken (row_words f) ≡ true
unfolding row_words unbroken
row_unbroken row.NoEdge = refl
row_unbroken row.NotAbove = refl
row_unbroken row.PastEnd = refl
row_unbroken row.Itself = refl
row_unbroken row.NotBack = refl
row_unbroken row.NotFinite = refl

words_unbroken : (f : Fault) → unbroken (fault_words f) ≡ true
unfolding fault_words
words_unbroken (fault.Whole f) = whole_unbroken f
words_unbroken (fault.Row f) = row_unbroken f

row_place_unbroken : (index : ℕ) → unbroken (row_place index) ≡ true
unfolding unbroken
row_place_unbroken index = unbroken_more (noted (ascii " row ") index (ascii "")) _ (number_unbroken index _ refl) (number_unbroken (20 * index) _ refl)

place_unbroken : (f : Fault) (index : ℕ) → unbroken (fault_place f index) ≡ true
unfolding fault_place unbroken
place_unbroken (fault.Whole f) index = refl
place_unbroken (fault.Row f) index = row_place_unbroken index

-- the name, a place, the number and words, of which none breaks a line
words_line : (name : List ℕ) (number : ℕ) (place words : List ℕ) → unbroken place ≡ true → unbroken words ≡ true
    → one_line (shown name ++ place ++ noted (ascii "refused ") number (ascii ", ") ++ words ++ ascii "\n") ≡ true
unfolding unbroken one_line
words_line name number place words p w = line_behind (shown name ++ place ++ noted (ascii "refused ") number (ascii ", ") ++ words) _
    (unbroken_more (shown name ++ place ++ noted (ascii "refused ") number (ascii ", ")) _
    (unbroken_more (shown name ++ place) _
    (unbroken_more (shown name) _ (shown_unbroken name) p)
    (number_unbroken number _ refl))
    w)
    refl

pub fault_line : (name : List ℕ) (number index : ℕ) (f : Fault) → one_line (fault_text name number index f) ≡ true
unfolding fault_text
fault_line name number index f = words_line name number (fault_place f index) (fault_words f) (place_unbroken f index) (words_unbroken f)

-- of a row that breaks no rule too
pub told_line : (name : List ℕ) (number index : ℕ) (r : Result (Unit {0}) Fault) → one_line (told_text name number index r) ≡ true
unfolding unbroken
told_line name number index (Err f) = fault_line name number index f
told_line name number index (Ok sound) = words_line name number (row_place index) (ascii "this row breaks no rule") (row_place_unbroken index) refl

-- what `tell_table` writes where the table is refused
pub table_line : (name : List ℕ) (t : Table) {why : Refusal} → checked t ≡ Err why → one_line (table_text name t (checked t)) ≡ true
unfolding table_text
table_line name t {why} e =
    ap (λ (v : Verdict). one_line (table_text name t v)) e
    ∙ told_line name (refusal_number why) (refusal_index why) (fault_of t (refusal_index why))
