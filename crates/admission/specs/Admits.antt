-- The tests of the calls before anything is written, where `fits` is what was found of the lengths.
-- Assumes nothing.
use Rattle.std.specs.Prelude.{◌≡◌, Bool, ◌&&◌, List, ℕ, ◌<◌, ◌≤◌, length}
use Rattle.scope.specs.declared.Refusal.TheVariants.{BadLengths}
use Rattle.scope.specs.Lists.{at}
use Rattle.scope.specs.Answers.{require, ◌▷◌, Verdict}
use Rattle.scope.specs.Table.{Table, target_of}
use Rattle.scope.specs.CellLists.{list_verdict, cell_verdict}
use Rattle.scope.specs.Memory.{Memory, kept, kept_mode, held_cells, places, mode_fits}
use Rattle.scope.specs.Calls.{state_verdict}
use Rattle.edge_table.specs.Checks.{checked}

-- 10, 1: the table after the lengths.
unfoldable pub table_after : Bool → Table → Verdict
table_after fits t = require fits BadLengths ▷ checked t

-- The same after the mode too.
unfoldable pub open_after : Bool → ℕ → Table → Verdict
open_after fits mode t = table_after (fits && mode_fits mode) t

-- 10, 1, 2, 3, 4, 3, 8: the whole list after the table.
unfoldable pub list_after : Bool → ℕ → Table → ℕ → List ℕ → Verdict
list_after fits mode t capacity cs = open_after fits mode t ▷ list_verdict (kept mode) (target_of t) capacity cs

-- 10, 1, 9: the state after the lengths of read out's outputs.
unfoldable pub state_after : Bool → Table → Memory → Verdict
state_after agree t m = require agree BadLengths ▷ state_verdict t m

-- 10, 1, 9, 2, 3, 4, 3, 8.
unfoldable pub admits : Table → Memory → ℕ → Verdict
admits t m x = state_verdict t m ▷ cell_verdict (kept_mode m) (target_of t) (places m) (held_cells m) x

-- The head has its two numbers, no more cells are held than there are places, and the table has a row.
pub record CellAsks (es head cells : List ℕ) : Type 0 where
  pub some : 0 < length es
  pub head_two : length head ≡ 2
  pub count_fits : at head 1 ≤ length cells
