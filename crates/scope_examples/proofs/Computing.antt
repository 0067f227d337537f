-- The definitions that examples compute with, under a short name for each use. To unfold such a name is to unfold all that it computes with.
-- Assumes nothing.
use Prim.Native.Nat.{ℕ}
use mathlib.Core.Bool.{Bool}
use mathlib.Core.List.{List, map}
use lib.Ieee as Ieee
use lib.Ieee.{Float, binary64, nan}
use lib.ListN.{replicate}
use Rattle.scope.specs.Answers.{Verdict}
use Rattle.scope.specs.Lists as Lists
use Rattle.scope.specs.Cells as Cells
use Rattle.scope.specs.Cells.{valid_cell, valid_edge, under}
use Rattle.scope.specs.Walk as Walk
use Rattle.scope.specs.Walk.{outline}
use Rattle.scope.specs.Table as Table
use Rattle.scope.specs.Table.{Table, row_count}
use Rattle.scope.specs.Standing as Standing
use Rattle.scope.specs.Afresh as Afresh
use Rattle.scope.specs.Afresh.{rings, group_place}
use Rattle.scope.specs.CellLists as CellLists
use Rattle.scope.specs.CellLists.{list_verdict, cell_verdict}
use Rattle.scope.specs.Memory as Memory
use Rattle.scope.specs.Memory.{Memory, memory, Output, output}
use Rattle.scope.specs.Rules as Rules
use Rattle.scope.specs.UnionFind as UnionFind
use Rattle.scope.specs.UnionFind.{Halved, finding}
use Rattle.scope.specs.Pool as Pool
use Rattle.scope.specs.Area as Area
use Rattle.scope.specs.Area.{value_of, no_terms, area_le}
use Rattle.scope.specs.Order as Order
use Rattle.scope.specs.Calls as Calls
use Rattle.scope.specs.Calls.{Outcome, Reading, opening, offering, offering_all, reading_out, dissolving}

-- ---- numbers, the walk, the adder

unfoldable pub is_cell : ℕ → Bool
unfolding Lists.all valid_cell
is_cell x = valid_cell x

unfoldable pub is_edge : ℕ → Bool
unfolding is_cell Lists.member Cells.is_pentagon Cells.owner_of valid_edge
is_edge x = valid_edge x

unfoldable pub is_under : ℕ → ℕ → Bool
unfolding Lists.all under
is_under a b = under a b

unfoldable pub walked : ℕ → ℕ → List ℕ
unfolding Lists.all Lists.member Lists.tabulate_from Cells.is_pentagon Walk.level_step Walk.move Walk.step Walk.first_walk Walk.spell Walk.edge_at Walk.passed_over Walk.edges outline
walked x t = outline x t

unfoldable pub summed : List ℕ → ℕ
unfolding Ieee.of_bits Ieee.to_bits Ieee.add Ieee.sub Area.add_all
summed bs = Ieee.to_bits binary64 (value_of (Area.add_all no_terms (map (Ieee.of_bits binary64) bs)))

unfoldable pub no_larger : ℕ → ℕ → Bool
unfolding Ieee.of_bits Ieee.le area_le
no_larger x y = area_le (Ieee.of_bits binary64 x) (Ieee.of_bits binary64 y)

unfoldable pub found : List ℕ → ℕ → Halved
unfolding UnionFind.halve finding
found ps a = finding ps a

-- ---- worked out afresh

unfoldable pub rings_afresh : Table → List ℕ → List (List ℕ)
unfolding walked Lists.from Lists.first_bad Lists.below Lists.follow Table.row_of Table.outline_rows Standing.next_after Standing.next_in Standing.next_of Afresh.is_given Afresh.is_standing Afresh.successor Afresh.trail Afresh.ring Afresh.none_below Afresh.starts_ring rings
rings_afresh t cs = rings t cs

unfoldable pub groups_afresh : Table → List ℕ → List ℕ → List ℕ
unfolding rings_afresh Afresh.some_reverse Afresh.touches Afresh.relabel Afresh.label_with Afresh.label_all group_place
groups_afresh t cs places = map (group_place t cs) places

-- ---- the calls, in lent memory and on lent outputs that hold something

unfoldable pub lent : Table → ℕ → ℕ → Memory
lent t slots places = memory (replicate 2 7) (replicate places 7) (replicate places 7) (replicate places 7) (replicate places 7)
    (replicate slots 7) (replicate slots 7) (replicate slots 7) (replicate slots 7) (replicate (row_count t) 7) (replicate (row_count t) 7)

unfoldable pub space : ℕ → ℕ → Output
space records rows = output (replicate records 7) (replicate records 7) (replicate records 7) (replicate records nan) (replicate rows 7)

unfoldable pub opened : Table → Memory → ℕ → Outcome
unfolding is_edge Ieee.of_bits Lists.from Lists.first_bad Table.is_finite Table.ascends Table.paired Table.row_good Table.table_verdict Memory.opened Memory.lengths_fit Calls.open_verdict opening
opened t m mode = opening t m mode

unfoldable pub listed : ℕ → ℕ → ℕ → List ℕ → Verdict
unfolding is_cell is_under Lists.from Lists.first_bad CellLists.resolution_fits list_verdict
listed mode target capacity cs = list_verdict mode target capacity cs

unfoldable pub joined : ℕ → ℕ → ℕ → List ℕ → ℕ → Verdict
unfolding listed cell_verdict
joined mode target capacity cs x = cell_verdict mode target capacity cs x

unfoldable pub offer : Table → Memory → ℕ → Outcome
unfolding opened joined rings_afresh Lists.total Lists.put_all Rules.row_kept Rules.owned_by Rules.links_kept Rules.slot_kept Rules.parent_kept Rules.ranks_kept Rules.rules_kept UnionFind.halve finding UnionFind.uniting Pool.free_slots Pool.names_twice Pool.outline_verdict Pool.placed Pool.relinked Pool.met_first Pool.unite_pairs Pool.cancelled Pool.taking Calls.state_verdict Calls.offer_verdict offering
offer t m x = offering t m x

unfoldable pub offer_all : Table → Memory → List ℕ → Outcome
unfolding offer offering_all
offer_all t m cs = offering_all t m cs

unfoldable pub read : Table → Memory → Output → Reading
unfolding offer space Ieee.add Ieee.sub Ieee.lt Ieee.le Lists.keep UnionFind.climb UnionFind.root_of Area.add_all area_le Order.insert Order.sort_by Order.group_of Order.outer_at Order.ordered Order.polygon_count Order.starts Order.edge_rows Order.read_answer Calls.written Calls.output_fits Calls.read_verdict reading_out
read t m o = reading_out t m o

unfoldable pub dissolved : Table → Memory → ℕ → List ℕ → Output → Reading
unfolding offer_all read Calls.dissolve_verdict Calls.working dissolving
dissolved t m mode cs o = dissolving t m mode cs o
