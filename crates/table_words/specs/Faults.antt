-- Which rule a table breaks: those of document 01, "The edge table (added)", in the order of its tests. The first one broken is the fault.
-- Assumes nothing.
use Rattle.std.specs.Prelude.{ℕ, ◌≡◌, true, false, not, cond, eqb, ltb, length, get_or, Result, Ok, Err}
use Rattle.std.specs.Float.{nan}
use Rattle.scope.specs.Lists.{at, passes}
use Rattle.scope.specs.Cells.{valid_edge}
use Rattle.scope.specs.Table.{Table, row_count, has_target, ascends, is_finite, reverse_of}
use Rattle.scope.specs.Memory.{table_agrees}
use Rattle.table_words.specs.declared.rules.WholeFault.{WholeFault}
use Rattle.table_words.specs.declared.rules.WholeFault.TheVariants as whole
use Rattle.table_words.specs.declared.rules.RowFault.{RowFault}
use Rattle.table_words.specs.declared.rules.RowFault.TheVariants as row
use Rattle.table_words.specs.declared.rules.Fault.{Fault}
use Rattle.table_words.specs.declared.rules.Fault.TheVariants as fault

-- Of the table as a whole: slices of one length (refusal 10), 2 to 65,536 rows, of one resolution.
unfoldable pub whole_fault : Table → Result (Unit {0}) WholeFault
whole_fault t =
    cond (not (table_agrees t)) (Err whole.Lengths)
    (cond (ltb (row_count t) 2) (Err whole.TooFew)
    (cond (ltb 65536 (row_count t)) (Err whole.TooMany)
    (cond (not (passes (has_target t.edges) (row_count t))) (Err whole.Resolutions)
    (Ok tt))))

-- Of a row, in the order of `row_good`: a valid edge, above the row before it; its reverse row is in range, isn't the row itself, and names
-- this row back; a finite area term.
unfoldable pub row_fault : Table → ℕ → Result (Unit {0}) RowFault
row_fault t i =
    cond (not (valid_edge (at t.edges i))) (Err row.NoEdge)
    (cond (not (ascends t.edges i)) (Err row.NotAbove)
    (cond (not (ltb (reverse_of t i) (length t.reverse))) (Err row.PastEnd)
    (cond (eqb (reverse_of t i) i) (Err row.Itself)
    (cond (not (eqb (reverse_of t (reverse_of t i)) i)) (Err row.NotBack)
    (cond (not (is_finite (get_or t.area i nan))) (Err row.NotFinite)
    (Ok tt))))))

abbrev pub first_fault : Result (Unit {0}) WholeFault → Result (Unit {0}) RowFault → Result (Unit {0}) Fault
first_fault (Err f) of_row = Err (fault.Whole f)
first_fault (Ok kept) (Err f) = Err (fault.Row f)
first_fault (Ok kept) (Ok sound) = Ok tt

-- Of the table, and then of this row.
unfoldable pub fault_of : Table → ℕ → Result (Unit {0}) Fault
fault_of t i = first_fault (whole_fault t) (row_fault t i)

-- ---- what each fault says of a table

unfoldable pub WholeBreaks : Table → WholeFault → Type 0
WholeBreaks t whole.Lengths = table_agrees t ≡ false
WholeBreaks t whole.TooFew = ltb (row_count t) 2 ≡ true
WholeBreaks t whole.TooMany = ltb 65536 (row_count t) ≡ true
WholeBreaks t whole.Resolutions = passes (has_target t.edges) (row_count t) ≡ false

unfoldable pub RowBreaks : Table → ℕ → RowFault → Type 0
RowBreaks t i row.NoEdge = valid_edge (at t.edges i) ≡ false
RowBreaks t i row.NotAbove = ascends t.edges i ≡ false
RowBreaks t i row.PastEnd = ltb (reverse_of t i) (length t.reverse) ≡ false
RowBreaks t i row.Itself = eqb (reverse_of t i) i ≡ true
RowBreaks t i row.NotBack = eqb (reverse_of t (reverse_of t i)) i ≡ false
RowBreaks t i row.NotFinite = is_finite (get_or t.area i nan) ≡ false

unfoldable pub Breaks : Table → ℕ → Result (Unit {0}) Fault → Type 0
Breaks t i (Err (fault.Whole f)) = WholeBreaks t f
Breaks t i (Err (fault.Row f)) = RowBreaks t i f
Breaks t i (Ok sound) = ⊥
