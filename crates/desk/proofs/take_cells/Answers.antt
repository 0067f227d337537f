-- `desk::take_cells` meets its contract. By what came of the file.
-- Assumes nothing.
use Rattle.desk.proofs.Loading.{list_came, list_unread}
use Rattle.desk.proofs.take_cells.Goals as goal

pub returns-in-Ok : goal.returns-in-Ok
returns-in-Ok c = list_came c.in-Ok.is c.take_list.ensures

pub returns-in-Err : goal.returns-in-Err
returns-in-Err c = list_unread c.in-Err.is c.put_file_error.ensures
