-- `codec::write` of a `u64` meets its contract: the number's eight bytes are copied. Assumes nothing.
use mathlib.Core.Path.{◌∙◌}
use native.Mathlib.Omega.{arith}
use Rattle.scope.specs.Bytes.{bytes64}
use Rattle.codec.proofs.Writing.{copied, bytes64_is}
use Rattle.codec.proofs.U64ToBytes.write.Goals as goal

pub returns : goal.returns
returns c = copied c.args.b.now c.args.at _ _ (bytes64 c.args.self) (c.copy_from_slice.ensures.after ∙ c.to_le_bytes.ensures ∙ bytes64_is c.args.self) (omega arith) (omega arith)
