-- `validate::chains::seat` meets its contract.
-- Assumes nothing.
use native.Mathlib.Omega.{arith}
use mathlib.Core.Path.{refl}
use Rattle.validate.specs.Chains.{seat_of}
use Rattle.validate.proofs.chains.seat.Goals as goal

pub returns : goal.returns
unfolding seat_of
returns c = (refl, omega arith)
