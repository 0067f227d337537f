-- One more cell of a state that admits it: what is asked, and what is left.
-- Assumes nothing.
use Rattle.std.specs.Prelude.{◌≡◌, not, List, ◌++◌, ℕ, ◌<◌, leb, length, Result, Ok, Err}
use Rattle.scope.specs.declared.Refusal.{Refusal}
use Rattle.scope.specs.declared.Refusal.TheVariants.{EdgeNotInTable, EdgeTwice, PoolFull}
use Rattle.scope.specs.Lists.{at}
use Rattle.scope.specs.Answers.{require, ◌▷◌, Verdict}
use Rattle.scope.specs.Table.{Table, target_of, outline_rows}
use Rattle.scope.specs.CellLists.{list_verdict, cell_verdict}
use Rattle.scope.specs.Memory.{Memory, kept_mode, held_cells, places}
use Rattle.scope.specs.Pool.{free_slots, outline_verdict, taking}
use Rattle.scope.specs.Calls.{outcome, offering_all}
use Rattle.scope.proofs.Sound.{Sound}
use Rattle.free_slots.specs.Search.{Flags}
use Rattle.taking.specs.declared.lookup.Outlined.{Outlined}
use Rattle.taking.specs.Outlines.{Room}

-- 5, 6, 7 of what was found
unfoldable pub outline_answer : Outlined → ℕ → ℕ → Verdict
outline_answer o held free = require (not o.absent) (EdgeNotInTable held) ▷ require (not o.twice) (EdgeTwice held) ▷ require (leb o.count free) (PoolFull held)

-- The state is sound and passes 2, 3, 4, 3, 8 for the cell; so many slots are free, each of them flagged; there is room for an outline's rows.
pub record TakeAsks (t : Table) (m : Memory) (rows vacant : List ℕ) (x free : ℕ) : Type 0 where
  pub sound : Sound t m
  pub cell : cell_verdict (kept_mode m) (target_of t) (places m) (held_cells m) x ≡ Ok tt
  pub free_count : free ≡ length (free_slots m)
  pub flags : Flags vacant m.slot_row
  pub room : Room t.edges x rows

-- How many slots are free, or a refusal, as the verdict of a call.
abbrev pub verdict_in : Result ℕ Refusal → Verdict
verdict_in (Ok free) = Ok tt
verdict_in (Err why) = Err why

-- Refused by 5, 6 or 7, or with one more cell; and how many slots are free then, each of them flagged.
pub record Takes (t : Table) (m : Memory) (x : ℕ) (r : Result ℕ Refusal) (m' : Memory) (vacant' : List ℕ) : Type 0 where
  pub done : record { answer = verdict_in r; left = m' } ≡ outcome (outline_verdict t m (outline_rows t x)) (taking t m x) m
  pub free_count : (free : ℕ) → r ≡ Ok free → free ≡ length (free_slots m')
  pub flags : Flags vacant' m'.slot_row

-- The state is sound, and its held cells with those of the list pass 2, 3, 4, 3, 8.
pub record ListAsks (t : Table) (m : Memory) (cs : List ℕ) : Type 0 where
  pub sound : Sound t m
  pub list : list_verdict (kept_mode m) (target_of t) (places m) (held_cells m ++ cs) ≡ Ok tt

-- The same, with room for the rows of each outline.
pub record ScratchAsks (t : Table) (m : Memory) (rows cs : List ℕ) : Type 0 where
  pub asks : ListAsks t m cs
  pub room : (i : ℕ) → i < length cs → Room t.edges (at cs i) rows

-- What offers in list order leave; where none is refused the state is sound again.
pub record TakesAll (t : Table) (m : Memory) (cs : List ℕ) (v : Verdict) (m' : Memory) : Type 0 where
  pub done : record { answer = v; left = m' } ≡ offering_all t m cs
  pub sound : v ≡ Ok tt → Sound t m'
