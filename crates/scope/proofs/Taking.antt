-- ONE MORE CELL: what `taking` leaves of a sound state that accepts the cell, list by list.
--     placed_for                    the state with the outline placed, all pairs still there
--     taken_cells, taken-..        the held cells are one more; mode, capacity and marks are as they were
--     offered_linked               slots and rows point at each other with the outline placed; `taken_linked`: and with the pairs gone
--     placed_cell, placed_owned    a used slot stands in the name of a held cell, which its row belongs to
--     pairs_held                   the cells of a pair that cancels are held
--     taken_forest                 the parents and ranks keep their rules
-- Assumes nothing.
use mathlib.Core.Path.{◌≡◌, refl, sym, ◌∙◌, ap}
use mathlib.Core.Bool.{true}
use mathlib.Core.List.{List, [], ◌∷◌, ◌++◌}
use Prim.Native.Nat.{ℕ, suc, ◌+◌, ◌-◌, ◌<◌}
use native.Mathlib.Omega.{arith}
use native.Mathlib.Numerals.{add-one}
use lib.ListN.{length, set, length-set}
use lib.Seq.{get_or-set_same, get_or-set_other, take-suc-set}
use Rattle.scope.specs.Lists.{at}
use Rattle.scope.specs.Table.{Table, outline_rows}
use Rattle.scope.specs.Memory.{Memory, kept_mode, held, held_cells, places, row_in}
use Rattle.scope.specs.Rules.{owned_by}
use Rattle.scope.specs.UnionFind.{United}
use Rattle.scope.specs.Pool.{slots_for, placed, met_first, unite_pairs, cancelled, taking}
use Rattle.scope.proofs.Members.{mem_at}
use Rattle.scope.proofs.Halving.{Forest}
use Rattle.scope.proofs.Unions.{added_keeps}
use Rattle.scope.proofs.Owning.{test_owned, outline_owned}
use Rattle.scope.proofs.Linked.{at_in, Used, Linked, cancels_used, mate_cancels}
use Rattle.scope.proofs.Placed.{Placed, slots_many, placed_lists, placed_linked, each_slot}
use Rattle.scope.proofs.Cancelling.{Cancelled, cancelled_lists, cancelled_linked}
use Rattle.scope.proofs.Pairs.{met_in, PairsHeld, united_forest}
use Rattle.scope.proofs.Sound.{sound_reverses, sound_linked, Offered, offered_valid, offered_room, offered_outline}

-- the state with the outline placed
abbrev pub placed_for : Table → Memory → ℕ → Memory
placed_for t m x = placed m x (outline_rows t x)

-- its parents and ranks, and the pairs that are united in them
abbrev pub one_place_more : Table → Memory → ℕ → United
one_place_more t m x = record { parents = (placed_for t m x).parent; ranks = (placed_for t m x).rank }

abbrev pub pairs_met : Table → Memory → ℕ → List ℕ
pairs_met t m x = met_first t (placed_for t m x) [] (slots_for m (outline_rows t x))

module _ (t : Table) (m : Memory) (x : ℕ) where
  pub taken_head : (taking t m x).head ≡ set m.head 1 (held m + 1)
  unfolding taking cancelled placed
  taken_head = refl

  pub taken_places : (taking t m x).cells ≡ set m.cells (held m) x
  unfolding taking cancelled placed
  taken_places = refl

  pub taken_cell_mark : (taking t m x).cell_mark ≡ m.cell_mark
  unfolding taking cancelled placed
  taken_cell_mark = refl

  pub taken_row_mark : (taking t m x).row_mark ≡ m.row_mark
  unfolding taking cancelled placed
  taken_row_mark = refl

  pub placed_parents : length (placed_for t m x).parent ≡ length m.parent
  unfolding placed
  placed_parents = length-set m.parent (held m) (held m)

  pub taken_parent : (taking t m x).parent ≡ (unite_pairs t (placed_for t m x) (pairs_met t m x) (one_place_more t m x)).parents
  unfolding taking cancelled
  taken_parent = refl

  pub taken_rank : (taking t m x).rank ≡ (unite_pairs t (placed_for t m x) (pairs_met t m x) (one_place_more t m x)).ranks
  unfolding taking cancelled
  taken_rank = refl

  pub taken_cancelled : Cancelled t (placed_for t m x) (taking t m x)
  unfolding taking
  taken_cancelled = cancelled_lists t (placed_for t m x) (slots_for m (outline_rows t x))

module _ {t : Table} {m : Memory} {x : ℕ} (O : Offered t m x) where
  -- ---- the held cells

  pub taken_held : held (taking t m x) ≡ suc (held m)
  taken_held = rw (taken_head t m x) (get_or-set_same m.head 1 (held m + 1) 0 (let l = O.sound.lengths.head in omega arith) ∙ add-one (held m))

  pub taken_mode : kept_mode (taking t m x) ≡ kept_mode m
  taken_mode = rw (taken_head t m x) (get_or-set_other m.head 1 0 (held m + 1) 0 (omega arith))

  pub taken_room : places (taking t m x) ≡ places m
  taken_room = rw (taken_places t m x) (length-set m.cells (held m) x)

  pub taken_cells : held_cells (taking t m x) ≡ held_cells m ++ (x ∷ [])
  taken_cells = rw (taken_held, taken_places t m x) (take-suc-set m.cells (held m) x (offered_room O))

  pub cell_new : at (taking t m x).cells (held m) ≡ x
  cell_new = rw (taken_places t m x) (get_or-set_same m.cells (held m) x 0 (offered_room O))

  pub cell_old : (i : ℕ) → i < held m → at (taking t m x).cells i ≡ at m.cells i
  cell_old i h = rw (taken_places t m x) (get_or-set_other m.cells (held m) i x 0 (omega arith))

  -- ---- the slots

  pub offered_placed : Placed m (outline_rows t x) (placed_for t m x)
  offered_placed = placed_lists O.sound.lengths (offered_outline O) x

  pub offered_many : length (slots_for m (outline_rows t x)) ≡ length (outline_rows t x)
  offered_many = slots_many O.sound.lengths (offered_outline O)

  pub offered_linked : Linked t (placed_for t m x)
  offered_linked = placed_linked (sound_linked O.sound) (offered_outline O) offered_many offered_placed

  pub taken_linked : Linked t (taking t m x)
  taken_linked = cancelled_linked (sound_reverses O.sound) offered_linked (taken_cancelled t m x)

  -- a used slot stands in the name of a held cell, which its row belongs to
  pub placed_cell : (s : ℕ) → Used (placed_for t m x) s → at (placed_for t m x).slot_cell s < suc (held m)
  placed_cell = each_slot (sound_linked O.sound) (offered_outline O) offered_many offered_placed (λ s. at (placed_for t m x).slot_cell s < suc (held m))
      (λ i h. rw (offered_placed.new_cell i h) (omega arith))
      (λ s u n. let w = (O.sound.rules.slot_used s (at_in m.slot_row s u) u).cell_held in rw (offered_placed.old_cell s n) (omega arith))

  pub placed_owned : (s : ℕ) → Used (placed_for t m x) s
      → owned_by (at t.edges (row_in (placed_for t m x) s)) (at (taking t m x).cells (at (placed_for t m x).slot_cell s)) ≡ true
  placed_owned = each_slot (sound_linked O.sound) (offered_outline O) offered_many offered_placed
      (λ s. owned_by (at t.edges (row_in (placed_for t m x) s)) (at (taking t m x).cells (at (placed_for t m x).slot_cell s)) ≡ true)
      (λ i h.
      let a = at (outline_rows t x) i in
      let row : row_in (placed_for t m x) (at (slots_for m (outline_rows t x)) i) ≡ a = ap (λ (k : ℕ). k - 1) (offered_placed.new_row i h) ∙ omega arith in
      let mem = mem_at (outline_rows t x) i h in
      rw (row, offered_placed.new_cell i h, cell_new)
      (test_owned (at t.edges a) x (outline_owned t x a (offered_valid O) mem ((offered_outline O).in_table a mem))))
      (λ s u n.
      let w = O.sound.rules.slot_used s (at_in m.slot_row s u) u in
      rw (ap (λ (k : ℕ). k - 1) (offered_placed.old_row s n), offered_placed.old_cell s n, cell_old _ w.cell_held) w.owned)

  -- ---- parents and ranks

  pub sound_forest : Forest m.parent m.rank (held m)
  sound_forest =
      let l = O.sound.lengths in
      let g = O.sound.rules in
      record {
        room = rw l.parent g.count_fits;
        ranks = l.rank ∙ sym l.parent;
        inside = g.parent_held;
        rises = g.rank_rises;
        weight = g.ranks_fit;
      }

  pub placed_forest : Forest (placed_for t m x).parent (placed_for t m x).rank (suc (held m))
  unfolding placed
  placed_forest = added_keeps m.parent m.rank (held m) sound_forest (rw O.sound.lengths.parent (offered_room O))

  -- the cells of a pair that cancels are held
  pub pairs_held : PairsHeld t (placed_for t m x) (suc (held m)) (pairs_met t m x)
  pairs_held s i =
      let c = (met_in t (placed_for t m x) [] (slots_for m (outline_rows t x)) s i).1 in (
        placed_cell s (cancels_used t (placed_for t m x) s c),
        placed_cell _ (cancels_used t (placed_for t m x) _ (mate_cancels (sound_reverses O.sound) offered_linked s c)),
      )

  pub taken_forest : Forest (taking t m x).parent (taking t m x).rank (suc (held m))
  taken_forest = rw (taken_parent t m x, taken_rank t m x)
      (united_forest t (placed_for t m x) (suc (held m)) (pairs_met t m x) (one_place_more t m x) placed_forest pairs_held)
