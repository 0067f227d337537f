-- `byte_calls::call_within` meets its contract: a change, a read out, or refusal 10, by the number of the call.
-- Assumes nothing.
use native.Mathlib.Omega.{arith}
use Rattle.byte_calls.proofs.Calling.{calls_open, calls_offer, calls_read, calls_none}
use Rattle.byte_calls.proofs.call_within.Goals as goal

pub returns-in-0 : goal.returns-in-0
returns-in-0 c = search (calls_open)

pub returns-in-1 : goal.returns-in-1
returns-in-1 c = search (calls_offer)

pub returns-in-2 : goal.returns-in-2
returns-in-2 c = search (calls_read)

pub returns-in_default : goal.returns-in_default
returns-in_default c = search (arith, calls_none)
