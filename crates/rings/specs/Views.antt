-- A view of a state that passes the rules, and the rings of a view by number: the i-th ring is that of the i-th lowest row.
-- Assumes nothing.
use Rattle.std.specs.Prelude.{ℕ, ◌≤◌, ◌<◌, ◌≡◌, ◌≢◌, List, eqb, Float, length, drop}
use Rattle.std.specs.Float.{nan}
use Rattle.scope.specs.Lists.{at, zeros}
use Rattle.scope.specs.Order.{View, lowest_rows, area_at, group_at, edge_rows}
use Rattle.ring_sort.specs.Fill.{Filling}
use Rattle.rings.specs.Links.{Links, starts_in}
use Rattle.rings.specs.Grouping.{Parents}
use Rattle.rings.specs.declared.links.View.{View as Lent}

abbrev pub view_of : List ℕ → List ℕ → List ℕ → List ℕ → List ℕ → ℕ → List Float → View
view_of row_slot slot_row slot_cell next parent held terms = record {
  row_slot = row_slot;
  slot_row = slot_row;
  slot_cell = slot_cell;
  next = next;
  parent = parent;
  held = held;
  terms = terms;
}

-- the same of the slices that are lent together
abbrev pub view_in : Lent → View
view_in l = view_of l.row_slot.now l.slot_row.now l.slot_cell.now l.next.now l.parent.now l.held l.terms.now

-- what the state's rules and its lengths say of a view
pub record Readable (v : View) : Type 0 where
  pub links : Links v.row_slot v.slot_row v.next
  pub cells : length v.slot_cell ≡ length v.slot_row
  pub cell_held : (s : ℕ) → at v.slot_row s ≢ 0 → at v.slot_cell s < v.held
  pub parents : Parents v.parent v.held
  pub terms : length v.terms ≡ length v.row_slot

-- marks as long as what they mark
pub record MarksFit (v : View) (row_mark cell_mark : List ℕ) : Type 0 where
  pub row_marks : length row_mark ≡ length v.row_slot
  pub cell_marks : length cell_mark ≡ length v.parent
  pub cells_clear : (c : ℕ) → at cell_mark c ≡ 0

abbrev pub edge_count : View → ℕ
edge_count v = length (edge_rows v (lowest_rows v))

-- the lowest rows are marked 2, and every list has room for the n rings
pub record SurveyReady (v : View) (row_mark cell_mark edges size rows group : List ℕ) (area : List Float) (n : ℕ) : Type 0 where
  pub readable : Readable v
  pub marks : MarksFit v row_mark cell_mark
  pub twos : (x : ℕ) → x < length v.row_slot → eqb (at row_mark x) 2 ≡ starts_in v.row_slot v.slot_row v.next x
  pub count : n ≡ length (lowest_rows v)
  pub few : edge_count v ≤ 4294967296
  pub edges_room : edge_count v ≤ length edges
  pub size_room : n ≤ length size
  pub rows_room : n ≤ length rows
  pub group_room : n ≤ length group
  pub area_room : n ≤ length area

-- row, group and area of each ring by number; the marks are cleared, and what lies past the places of the rings is as it was
pub record Surveyed (v : View) (row_mark cell_mark edges size rows group : List ℕ) (area : List Float) (n : ℕ)
    (rowMark' cellMark' edges' size' rows' group' : List ℕ) (area' : List Float) : Type 0 where
  pub rows_are : Filling 0 (at (lowest_rows v)) rows rows' n
  pub groups_are : Filling 0 (λ i. group_at v (at (lowest_rows v) i)) group group' n
  pub areas_are : Filling nan (λ i. area_at v (at (lowest_rows v) i)) area area' n
  pub row_marks : rowMark' ≡ zeros row_mark
  pub cell_marks : cellMark' ≡ cell_mark
  pub edges_behind : drop (edge_count v) edges' ≡ drop (edge_count v) edges
  pub edges_len : length edges' ≡ length edges
  pub size_behind : drop n size' ≡ drop n size
  pub size_len : length size' ≡ length size
