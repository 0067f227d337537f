-- What is promised leaves one outcome.
--     table_loaded_one, cells_loaded_one    the bytes that came determine what `load_table` and `load_cells` load
--     sound_loaded_one                      so of `load_sound_table`
--     table_taken_one, cells_taken_one      and what was read determines all that `take_table` and `take_cells` leave
-- Assumes nothing.
use Prim.Native.Nat.{ℕ}
use mathlib.Core.Path.{◌≡◌, sym, ◌∙◌, ap}
use mathlib.Core.List.{List}
use Rattle.std.specs.Result.{result_ok}
use Rattle.std.specs.Prelude.{Result, Ok, Err}
use Rattle.scope.specs.Table.{Table}
use Rattle.files.specs.declared.FileError.{FileError}
use Rattle.desk.specs.Loads.{Loaded, count_of, Came, TableLoad, table_loaded, LoadsTable, CellLoad, list_loaded, LoadsCells}
use Rattle.desk.specs.Taking.{Taken, complaint_of, TakesTable, TakesCells}
use Rattle.desk.specs.Tables.{sound_of, LoadsSound}

pub table_loaded_one : {text text₂ : List ℕ} {t t' t'' : Table} {r r₂ : Loaded} (A : LoadsTable text t r t') (B : LoadsTable text₂ t r₂ t'')
    → A.came ≡ B.came → (r ≡ r₂) × (t' ≡ t'')
table_loaded_one {t = t} A B e =
    let same = A.loads ∙ ap (λ (c : Came). table_loaded c t) e ∙ sym B.loads in
    (ap (λ (x : TableLoad). x.answer) same, ap (λ (x : TableLoad). x.left) same)

pub sound_loaded_one : {text text₂ : List ℕ} {t t' t'' : Table} {r r₂ : Loaded} (A : LoadsSound text t r t') (B : LoadsSound text₂ t r₂ t'')
    → A.loads.came ≡ B.loads.came → (r ≡ r₂) × (t' ≡ t'')
sound_loaded_one {t'' = t''} A B e =
    let same = table_loaded_one A.loads B.loads e in
    (A.sound ∙ ap (sound_of A.loaded) same.1 ∙ ap (λ (l : Loaded). sound_of l t'') same.0 ∙ sym B.sound, same.1)

pub cells_loaded_one : {text text₂ cells lines cells' lines' cells'' lines'' : List ℕ} {r r₂ : Loaded}
    (A : LoadsCells text cells lines r cells' lines') (B : LoadsCells text₂ cells lines r₂ cells'' lines'')
    → A.came ≡ B.came → (r ≡ r₂) × (cells' ≡ cells'') × (lines' ≡ lines'')
cells_loaded_one {cells = cells} {lines} A B e =
    let same = A.loads ∙ ap (λ (c : Came). list_loaded c cells lines) e ∙ sym B.loads in
    (ap (λ (x : CellLoad). x.answer) same, ap (λ (x : CellLoad). x.cells) same, ap (λ (x : CellLoad). x.lines) same)

same_taken : (r r₂ : Taken) → result_ok r ≡ result_ok r₂ → complaint_of r ≡ complaint_of r₂ → r ≡ r₂
same_taken (Ok n) (Ok m) e f = ap (λ (l : Loaded). Ok (count_of l)) e
same_taken (Ok n) (Err m) e f = cc
same_taken (Err n) (Ok m) e f = cc
same_taken (Err n) (Err m) e f = ap Err f

pub table_taken_one : (read : Result ℕ FileError) (text path : List ℕ) (t : Table) (line : List ℕ) {line' line'' : List ℕ} {r r₂ : Taken} {t' t'' : Table}
    → TakesTable read text path t line line' r t' → TakesTable read text path t line line'' r₂ t'' → (line' ≡ line'') × (r ≡ r₂) × (t' ≡ t'')
table_taken_one read text path t line {r = r} {r₂} A B =
    let same = A.loads ∙ sym B.loads in (
      A.says.bytes ∙ sym B.says.bytes,
      same_taken r r₂ (ap (λ (x : TableLoad). x.answer) same) (A.says.place ∙ sym B.says.place),
      ap (λ (x : TableLoad). x.left) same,
    )

pub cells_taken_one : (read : Result ℕ FileError) (text path cells lines line : List ℕ) {line' line'' : List ℕ} {r r₂ : Taken} {cells' cells'' lines' lines'' : List ℕ}
    → TakesCells read text path cells lines line line' r cells' lines' → TakesCells read text path cells lines line line'' r₂ cells'' lines''
    → (line' ≡ line'') × (r ≡ r₂) × (cells' ≡ cells'') × (lines' ≡ lines'')
cells_taken_one read text path cells lines line {r = r} {r₂} A B =
    let same = A.loads ∙ sym B.loads in (
      A.says.bytes ∙ sym B.says.bytes,
      same_taken r r₂ (ap (λ (x : CellLoad). x.answer) same) (A.says.place ∙ sym B.says.place),
      ap (λ (x : CellLoad). x.cells) same,
      ap (λ (x : CellLoad). x.lines) same,
    )
