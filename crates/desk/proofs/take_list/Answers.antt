-- `desk::take_list` meets its contract. By whether the cells can be taken.
-- Assumes nothing.
use Rattle.desk.proofs.Loading.{cells_taken, cells_faulty}
use Rattle.desk.proofs.take_list.Goals as goal

pub returns-in-Ok : goal.returns-in-Ok
returns-in-Ok c = cells_taken _ _ _ _ c.read_cells.ensures _ c.in-Ok.is

pub returns-in-Err : goal.returns-in-Err
returns-in-Err c = cells_faulty _ _ _ _ c.read_cells.ensures c.in-Err.is c.read_cells.auto.cells c.put_list_fault.ensures
