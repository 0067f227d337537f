-- Every refusal has one of the paper's numbers, 1 to 10, and so has each call's.
--     Numbered                                  carried out, or refused with such a number
--     why_numbered, numbered                    every refusal, every verdict
--     open_numbered, offer_numbered, read_numbered, dissolve_numbered     of the four calls
--     number_most                               so the number is at most 10
-- Assumes nothing.
use Prim.Native.Nat.{ℕ, ◌≤◌}
use mathlib.Core.List.{List}
use native.Mathlib.Omega.{arith}
use Rattle.std.specs.Prelude.{Err, Ok}
use Rattle.scope.specs.declared.Refusal.{Refusal}
use Rattle.scope.specs.declared.Refusal.TheVariants.{BadTable, InvalidCell, DuplicateInput, UnsupportedResolution, EdgeNotInTable, EdgeTwice, PoolFull, TooManyCells, BrokenState, BadLengths}
use Rattle.scope.specs.Answers.{Verdict, refusal_number, refusal_of, verdict_of}
use Rattle.scope.specs.Table.{Table}
use Rattle.scope.specs.Memory.{Memory, Output}
use Rattle.scope.specs.Calls.{open_verdict, offer_verdict, reading_out, dissolving}

pub record Within (n : ℕ) : Type 0 where
  pub least : 1 ≤ n
  pub most : n ≤ 10

within : (n : ℕ) → 1 ≤ n → n ≤ 10 → Within n
within n p q = record { least = p; most = q }

pub why_numbered : (why : Refusal) → Within (refusal_number why)
unfolding refusal_number
why_numbered (BadTable row) = within 1 (omega arith) (omega arith)
why_numbered (InvalidCell index) = within 2 (omega arith) (omega arith)
why_numbered (DuplicateInput index) = within 3 (omega arith) (omega arith)
why_numbered (UnsupportedResolution index) = within 4 (omega arith) (omega arith)
why_numbered (EdgeNotInTable index) = within 5 (omega arith) (omega arith)
why_numbered (EdgeTwice index) = within 6 (omega arith) (omega arith)
why_numbered (PoolFull index) = within 7 (omega arith) (omega arith)
why_numbered TooManyCells = within 8 (omega arith) (omega arith)
why_numbered BrokenState = within 9 (omega arith) (omega arith)
why_numbered BadLengths = within 10 (omega arith) (omega arith)

abbrev pub Numbered : Verdict → Type 0
Numbered (Ok _) = Unit {0}
Numbered (Err why) = Within (refusal_number why)

pub numbered : (v : Verdict) → Numbered v
numbered (Ok _) = tt
numbered (Err why) = why_numbered why

pub number_most : (v : Verdict) → Numbered v → refusal_of v ≤ 10
unfolding refusal_of
number_most (Ok _) n = omega arith
number_most (Err why) n = n.most

-- ---- the calls

pub open_numbered : (t : Table) (m : Memory) (mode : ℕ) → Numbered (open_verdict t m mode)
open_numbered t m mode = numbered (open_verdict t m mode)

pub offer_numbered : (t : Table) (m : Memory) (x : ℕ) → Numbered (offer_verdict t m x)
offer_numbered t m x = numbered (offer_verdict t m x)

pub read_numbered : (t : Table) (m : Memory) (o : Output) → Numbered (verdict_of (reading_out t m o).answer)
read_numbered t m o = numbered (verdict_of (reading_out t m o).answer)

pub dissolve_numbered : (t : Table) (m : Memory) (mode : ℕ) (cs : List ℕ) (o : Output) → Numbered (verdict_of (dissolving t m mode cs o).answer)
dissolve_numbered t m mode cs o = numbered (verdict_of (dissolving t m mode cs o).answer)
