-- `codec::write_u32` meets its contract: the first four of the number's eight bytes are copied. Assumes nothing.
use mathlib.Core.Path.{ap, ◌∙◌}
use lib.ListN.{take}
use native.Mathlib.Omega.{arith}
use Rattle.scope.specs.Bytes.{bytes32}
use Rattle.codec.proofs.Writing.{copied}
use Rattle.codec.proofs.write_u32.Goals as goal

pub returns : goal.returns
returns c = copied c.args.b.now c.args.at _ _ (bytes32 c.args.n) (c.copy_from_slice.ensures.after ∙ ap (take 4) c.to_le_bytes.ensures) (omega arith) (omega arith)
