-- `text::put_bytes` meets its contract. As many bytes as fit are copied.
-- Assumes nothing.
use native.Mathlib.Omega.{arith}
use Rattle.text.proofs.Writing.{wrote_copied}
use Rattle.text.proofs.put_bytes.Goals as goal

pub returns : goal.returns
returns c = wrote_copied _ _ _ _ _ _ c.requires c.min-fits.ensures (omega arith) c.copy_from_slice.ensures.after
