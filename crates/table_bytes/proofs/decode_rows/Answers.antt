-- `table_bytes::decode_rows` meets its contract. As many rows as are lent of each slice.
-- Assumes nothing.
use Rattle.table_bytes.proofs.Rows.{rows_over, part_long}
use Rattle.table_bytes.proofs.decode_rows.Goals as goal

pub returns : goal.returns
returns c = rows_over _ _ _ _ c.decode_table.ensures (part_long _ _ c.requires.0 c.decode_table.auto.edges) (part_long _ _ c.requires.1 c.decode_table.auto.reverse) (part_long _ _ c.requires.2 c.decode_table.auto.area)
