-- What was loaded lies within the slices that it was loaded into.
--     rows_few        a table's rows
--     cells_few       a list's cells
-- Assumes nothing.
use Prim.Native.Nat.{ℕ, ◌%◌, ◌≤◌, min}
use mathlib.Core.Path.{◌≡◌, sym, ◌∙◌, ap, subst}
use mathlib.Core.List.{List}
use mathlib.Core.Logic.{⊎_elim}
use native.Mathlib.Nat.{min-le_left, min-le_right}
use native.Mathlib.Omega.{arith}
use borrow.Author.Tests.{leb-true}
use lib.Dec.{eqb, leb}
use lib.ListN.{length, length-take}
use Rattle.scope.specs.Table.{Table}
use Rattle.scope.specs.Bytes.{rows_in}
use Rattle.scope.proofs.Tests.{either}
use Rattle.cell_text.specs.declared.ListFault.{ListFault}
use Rattle.cell_text.specs.Lines.{Reading, answered, lines, reading, fitted, cells_in, without_mark, cells_of}
use Rattle.table_bytes.specs.Files.{file_of, room_of}
use Rattle.files.specs.declared.FileError.{FileError}
use Rattle.std.specs.Result.{result_ok}
use Rattle.std.specs.Prelude.{Result, Ok, Option, Some, None}
use Rattle.desk.specs.Loads.{Loaded, count_of, Came, whole, none, TableLoad, table_loaded, CellLoad, list_loaded}
use Rattle.desk.specs.Taking.{Taken, came_of, TakesTable, TakesCells}

-- ---- a table

few_rows : (room : ℕ) (b : List ℕ) → count_of (result_ok (file_of room b)) ≤ room
unfolding file_of
few_rows room b = ⊎_elim
    (λ l. rw l (⊎_elim (λ e. rw e (leb-true (rows_in b) room l)) (λ e. rw e (omega arith)) (either (eqb (length b % 20) 0))))
    (λ l. rw l (omega arith))
    (either (leb (rows_in b) room))

few_loaded : (c : Came) (t : Table) → count_of (table_loaded c t).answer ≤ room_of t
unfolding table_loaded
few_loaded (whole b) t = few_rows (room_of t) b
few_loaded none t = omega arith

pub rows_few : {read : Result ℕ FileError} {text path : List ℕ} {t : Table} {line line' : List ℕ} {r : Taken} {t' : Table} {n : ℕ} → TakesTable read text path t line line' r t' → r ≡ Ok n
    → (n ≤ length t.edges) × (n ≤ length t.reverse) × (n ≤ length t.area)
rows_few {read} {text} {t = t} {r = r} {n = n} T e =
    let f : n ≤ room_of t = subst (λ (x : Loaded). count_of x ≤ room_of t) (sym (ap (λ (x : TableLoad). x.answer) T.loads) ∙ ap (λ (x : Taken). result_ok x) e) (few_loaded (came_of read text) t) in
    let p = min-le_left (min (length t.edges) (length t.reverse)) (length t.area) in
    let q = min-le_right (min (length t.edges) (length t.reverse)) (length t.area) in
    let u = min-le_left (length t.edges) (length t.reverse) in
    let v = min-le_right (length t.edges) (length t.reverse) in
    (omega arith, omega arith, omega arith)

-- ---- a list

few_cells : (room : ℕ) (r : Reading) → length (fitted room r).cells ≤ room
unfolding fitted
few_cells room r = ⊎_elim
    (λ e. rw e (leb-true (length r.cells) room e))
    (λ e. rw e (rw (length-take room r.cells) (min-le_left room (length r.cells))))
    (either (leb (length r.cells) room))

few_counted : (e : Option ListFault) {n room : ℕ} → n ≤ room → count_of (result_ok (answered e n)) ≤ room
few_counted None h = h
few_counted (Some fault) h = omega arith

few_listed : (c : Came) (cells numbers : List ℕ) → count_of (list_loaded c cells numbers).answer ≤ min (length cells) (length numbers)
unfolding list_loaded cells_of cells_in
few_listed (whole b) cells numbers =
    let room = min (length cells) (length numbers) in
    few_counted (cells_of room b).end (few_cells room (reading 1 (lines (without_mark b))))
few_listed none cells numbers = omega arith

pub cells_few : {read : Result ℕ FileError} {text path cells numbers line line' : List ℕ} {r : Taken} {cells' numbers' : List ℕ} {n : ℕ}
    → TakesCells read text path cells numbers line line' r cells' numbers' → r ≡ Ok n → (n ≤ length cells) × (n ≤ length numbers)
cells_few {read} {text} {cells = cells} {numbers} {r = r} {n = n} T e =
    let room = min (length cells) (length numbers) in
    let f : n ≤ room = subst (λ (x : Loaded). count_of x ≤ room) (sym (ap (λ (x : CellLoad). x.answer) T.loads) ∙ ap (λ (x : Taken). result_ok x) e) (few_listed (came_of read text) cells numbers) in
    let p = min-le_left (length cells) (length numbers) in
    let q = min-le_right (length cells) (length numbers) in
    (omega arith, omega arith)
