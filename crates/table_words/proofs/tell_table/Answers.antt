-- `table_words::tell_table` meets its contract. By the verdict on the table.
-- Assumes nothing.
use mathlib.Core.Path.{sym, ◌∙◌}
use native.Mathlib.Omega.{arith}
use Rattle.table_words.proofs.Broken.{refused_low, fault_told}
use Rattle.table_words.proofs.Telling.{table_kept, table_refused}
use Rattle.table_words.proofs.tell_table.Goals as goal

pub returns-in_default : goal.returns-in_default
returns-in_default c = table_kept (sym c.check_table.ensures ∙ c.in_default.is)

pub unwrap_err-fault-requires : goal.unwrap_err-fault-requires
unwrap_err-fault-requires c = rw (c.fault_of.ensures, c.index-row.ensures) (fault_told _ _ (sym c.check_table.ensures ∙ c.in-Err.is))

pub put_fault-requires : goal.put_fault-requires
put_fault-requires c = (omega arith, rw c.index-row.ensures (refused_low _ _ (sym c.check_table.ensures ∙ c.in-Err.is)))

pub returns : goal.returns
returns c =
    let i = c.index-row.ensures in
    table_refused (sym c.check_table.ensures ∙ c.in-Err.is) (rw i at (sym c.fault_of.ensures ∙ c.unwrap_err-fault.ensures)) (rw (c.number.ensures, i) at c.put_fault.ensures)
