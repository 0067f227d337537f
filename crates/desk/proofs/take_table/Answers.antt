-- `desk::take_table` meets its contract. By what came of the file.
-- Assumes nothing.
use Rattle.desk.proofs.Loading.{table_came, table_unread}
use Rattle.desk.proofs.take_table.Goals as goal

pub returns-in-Ok : goal.returns-in-Ok
returns-in-Ok c = table_came c.in-Ok.is c.take_rows.ensures

pub returns-in-Err : goal.returns-in-Err
returns-in-Err c = table_unread c.in-Err.is c.put_file_error.ensures
