-- What is loaded is what the definitions make of the bytes that came, and what is said where nothing is.
--     rows_taken, cells_taken        what the reader promises, told as what is taken
--     rows_faulty, cells_faulty      and as what is said where nothing can be taken
--     table_came, list_came          of the bytes that were read
--     table_unread, list_unread      none were taken
--     table_loads, cells_loads       so a load keeps its promise
-- Assumes nothing.
use Prim.Native.Nat.{ℕ, ◌≤◌, min}
use mathlib.Core.Path.{◌≡◌, refl, sym, ◌∙◌, ap, subst}
use mathlib.Core.List.{List}
use native.Mathlib.Omega.{arith}
use lib.ListN.{length, take}
use lib.Seq.{length-take-le}
use Rattle.std.specs.Prelude.{Option, Some, None, Result, Ok, Err}
use Rattle.std.specs.Result.{result_ok}
use Rattle.scope.specs.Table.{Table}
use Rattle.text.specs.Text.{Wrote}
use Rattle.text.proofs.Writing.{wrote_none}
use Rattle.cell_text.specs.declared.ListFault.{ListFault}
use Rattle.cell_text.specs.declared.Stopped.{Stopped}
use Rattle.cell_text.specs.Lines.{Reading, answered, cells_of, Stored}
use Rattle.table_bytes.specs.declared.TableFault.{TableFault}
use Rattle.table_bytes.specs.Files.{file_of, room_of, TableRead}
use Rattle.report.specs.Faults.{file_error_text, table_fault_text, list_fault_text}
use Rattle.files.specs.declared.FileError.{FileError}
use Rattle.files.specs.Files.{count_of as bytesRead}
use Rattle.desk.specs.Loads.{whole, InFront, table_loaded, LoadsTable, read_into, list_loaded, LoadsCells}
use Rattle.desk.specs.Taking.{Taken, came_of, table_complaint, TakesRows, TakesTable, list_complaint, TakesList, TakesCells}

came_in_front : (file : Result ℕ FileError) (text : List ℕ) → bytesRead file ≤ length text → InFront (came_of file text) text
came_in_front (Ok n) text h = ap (λ (k : ℕ). take k text) (sym (length-take-le n text h))
came_in_front (Err error) text h = refl

-- ---- a table

module _ (b path : List ℕ) (t : Table) {file : Result ℕ TableFault} {t' : Table} (R : TableRead b t file t') where
  table_read : record { answer = result_ok file; left = t' } ≡ table_loaded (whole b) t
  unfolding table_loaded
  table_read =
      ap (λ (x : Result ℕ TableFault). record { answer = result_ok x; left = t' }) R.answer
      ∙ ap (λ (x : Table). record { answer = result_ok (file_of (room_of t) b); left = x }) R.left

  pub rows_taken : (line : List ℕ) {n : ℕ} → file ≡ Ok n → TakesRows b path t line line (Ok n) t'
  unfolding table_fault_text
  rows_taken line e = record {
    loads = ap (λ (x : Result ℕ TableFault). record { answer = result_ok x; left = t' }) (sym e) ∙ table_read;
    says = subst (λ (x : Result ℕ TableFault). Wrote line 0 line 0 (table_fault_text path (length t.edges) x)) (sym e ∙ R.answer) (wrote_none line 0 (omega arith));
  }

  pub rows_faulty : {line line' : List ℕ} {fault : TableFault} {size room : ℕ} → file ≡ Err fault → room ≡ length t.edges
      → Wrote line 0 line' size (table_fault_text path room (Err fault)) → TakesRows b path t line line' (Err size) t'
  rows_faulty {line} {line'} {fault} {size} e l W = record {
    loads = ap (λ (x : Result ℕ TableFault). record { answer = result_ok x; left = t' }) (sym e) ∙ table_read;
    says = subst (λ (x : Result ℕ TableFault). Wrote line 0 line' size (table_fault_text path (length t.edges) x)) (sym e ∙ R.answer)
        (subst (λ (k : ℕ). Wrote line 0 line' size (table_fault_text path k (Err fault))) l W);
  }

module _ {file : Result ℕ FileError} {text path : List ℕ} {t : Table} {line line' : List ℕ} where
  pub table_came : {n : ℕ} {r : Taken} {t' : Table} → file ≡ Ok n → TakesRows (take n text) path t line line' r t' → TakesTable file text path t line line' r t'
  unfolding table_complaint
  table_came {r = r} {t'} e T = subst (λ (x : Result ℕ FileError). TakesTable x text path t line line' r t') (sym e) (record { loads = T.loads; says = T.says })

  pub table_unread : {size : ℕ} {error : FileError} → file ≡ Err error → Wrote line 0 line' size (file_error_text path (length text) error)
      → TakesTable file text path t line line' (Err size) t
  unfolding table_loaded table_complaint
  table_unread {size} e W = subst (λ (x : Result ℕ FileError). TakesTable x text path t line line' (Err size) t) (sym e) (record { loads = refl; says = W })

  pub table_loads : {r : Taken} {t' : Table} → bytesRead file ≤ length text → TakesTable file text path t line line' r t' → LoadsTable text t (result_ok r) t'
  table_loads h T = record { came = came_of file text; front = came_in_front file text h; loads = T.loads }

-- ---- a list

abbrev end_of : Result ℕ Stopped → Option ListFault
end_of (Ok count) = None
end_of (Err stopped) = Some stopped.fault

ended : (end : Option ListFault) (count : ℕ) → end_of (answered end count) ≡ end
ended None count = refl
ended (Some fault) count = refl

module _ (b path cells numbers : List ℕ) {answer : Result ℕ Stopped} {cells' numbers' : List ℕ} (S : Stored (cells_of (min (length cells) (length numbers)) b) cells numbers answer cells' numbers') where
  list_read : record { answer = result_ok answer; cells = cells'; lines = numbers' } ≡ list_loaded (whole b) cells numbers
  unfolding list_loaded
  list_read =
      let found : Reading = cells_of (min (length cells) (length numbers)) b in
      ap (λ (x : Result ℕ Stopped). record { answer = result_ok x; cells = cells'; lines = numbers' }) S.answer_is
      ∙ ap (λ (x : List ℕ). record { answer = result_ok (answered found.end (length found.cells)); cells = x; lines = numbers' }) S.cells_are
      ∙ ap (λ (x : List ℕ). record { answer = result_ok (answered found.end (length found.cells)); cells = (read_into found cells numbers).cells; lines = x }) S.numbers_are

  end_is : end_of answer ≡ (cells_of (min (length cells) (length numbers)) b).end
  end_is = ap end_of S.answer_is ∙ ended (cells_of (min (length cells) (length numbers)) b).end (length (cells_of (min (length cells) (length numbers)) b).cells)

  pub cells_taken : (line : List ℕ) {n : ℕ} → answer ≡ Ok n → TakesList b path cells numbers line line (Ok n) cells' numbers'
  unfolding list_fault_text
  cells_taken line e = record {
    loads = ap (λ (x : Result ℕ Stopped). record { answer = result_ok x; cells = cells'; lines = numbers' }) (sym e) ∙ list_read;
    says = subst (λ (x : Option ListFault). Wrote line 0 line 0 (list_fault_text path (length cells) x)) (ap end_of (sym e) ∙ end_is) (wrote_none line 0 (omega arith));
  }

  pub cells_faulty : {line line' : List ℕ} {stopped : Stopped} {size room : ℕ} → answer ≡ Err stopped → room ≡ length cells
      → Wrote line 0 line' size (list_fault_text path room (Some stopped.fault)) → TakesList b path cells numbers line line' (Err size) cells' numbers'
  cells_faulty {line} {line'} {stopped} {size} e l W = record {
    loads = ap (λ (x : Result ℕ Stopped). record { answer = result_ok x; cells = cells'; lines = numbers' }) (sym e) ∙ list_read;
    says = subst (λ (x : Option ListFault). Wrote line 0 line' size (list_fault_text path (length cells) x)) (ap end_of (sym e) ∙ end_is)
        (subst (λ (k : ℕ). Wrote line 0 line' size (list_fault_text path k (Some stopped.fault))) l W);
  }

module _ {file : Result ℕ FileError} {text path cells numbers line line' : List ℕ} where
  pub list_came : {n : ℕ} {r : Taken} {cells' numbers' : List ℕ} → file ≡ Ok n → TakesList (take n text) path cells numbers line line' r cells' numbers'
      → TakesCells file text path cells numbers line line' r cells' numbers'
  unfolding list_complaint
  list_came {r = r} {cells'} {numbers'} e T =
      subst (λ (x : Result ℕ FileError). TakesCells x text path cells numbers line line' r cells' numbers') (sym e) (record { loads = T.loads; says = T.says })

  pub list_unread : {size : ℕ} {error : FileError} → file ≡ Err error → Wrote line 0 line' size (file_error_text path (length text) error)
      → TakesCells file text path cells numbers line line' (Err size) cells numbers
  unfolding list_loaded list_complaint
  list_unread {size} e W =
      subst (λ (x : Result ℕ FileError). TakesCells x text path cells numbers line line' (Err size) cells numbers) (sym e) (record { loads = refl; says = W })

  pub cells_loads : {r : Taken} {cells' numbers' : List ℕ} → bytesRead file ≤ length text → TakesCells file text path cells numbers line line' r cells' numbers'
      → LoadsCells text cells numbers (result_ok r) cells' numbers'
  cells_loads h T = record { came = came_of file text; front = came_in_front file text h; loads = T.loads }
