-- What the functions that write an answer ask of their slices: as many rings and edges as the answer says, and no more than 1,024 of each.
-- Assumes nothing.
use Rattle.std.specs.Prelude.{ℕ, ◌+◌, ◌*◌, ◌≤◌, ◌≡◌, length}
use Rattle.scope.specs.Lists.{at, total}
use Rattle.scope.specs.Answers.{Answer, rings_of}
use Rattle.scope.specs.Memory.{Output}
use Rattle.scope.specs.Bytes.{edge_count}

-- The first rings stand in the outputs.
pub record RingsIn (o : Output) (rings : ℕ) : Type 0 where
  pub starts : rings ≤ length o.start
  pub sizes : rings ≤ length o.size
  pub groups : rings ≤ length o.group
  pub areas : rings ≤ length o.area

pub record CountRoom (o : Output) (rings : ℕ) : Type 0 where
  pub within : rings ≤ length o.size
  pub few : total (at o.size) rings ≤ 1024

pub record RingsRoom (bytes : ℕ) (o : Output) (rings : ℕ) : Type 0 where
  pub room : 24 + 20 * rings ≤ bytes
  pub here : RingsIn o rings

pub record ReadingRoom (bytes : ℕ) (answer : Answer) (o : Output) (edges : ℕ) : Type 0 where
  pub room : 24 + 20 * rings_of answer + 4 * edges ≤ bytes
  pub edges_are : edges ≡ edge_count answer o
  pub here : RingsIn o (rings_of answer)
  pub rows : edges ≤ length o.edges

pub record ShownRoom (answer : Answer) (o : Output) : Type 0 where
  pub few : rings_of answer ≤ 1024
  pub few_edges : edge_count answer o ≤ 1024
  pub here : RingsIn o (rings_of answer)
  pub rows : edge_count answer o ≤ length o.edges
