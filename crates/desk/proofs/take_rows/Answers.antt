-- `desk::take_rows` meets its contract. By whether the rows can be taken.
-- Assumes nothing.
use Rattle.desk.proofs.Loading.{rows_taken, rows_faulty}
use Rattle.desk.proofs.take_rows.Goals as goal

pub returns-in-Ok : goal.returns-in-Ok
returns-in-Ok c = rows_taken _ _ _ c.read_table.ensures _ c.in-Ok.is

pub returns-in-Err : goal.returns-in-Err
returns-in-Err c = rows_faulty _ _ _ c.read_table.ensures c.in-Err.is c.read_table.auto.edges c.put_table_fault.ensures
