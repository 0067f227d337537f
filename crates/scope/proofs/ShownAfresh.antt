-- A SHOWN STATE IN LISTS AND NUMBERS: its rows, rings and groups are those worked out afresh from the accepted cells. After any run of calls
-- the state is shown (Run).
--     shown_stands       the rows with a slot are the standing ones
--     shown_rings        the rings read of the state are `rings t cs`; `shown_starts`, `shown_ring`: by their lowest rows, one by one
--     shown_group        the group of a row is written as `group_place` of its cell's place
--     shown_pool         free slots plus standing edges equal the pool's size
--     run_rings, run_pool     so it is after any run of calls
-- Assumes nothing.
use mathlib.Core.Path.{◌≡◌, sym, ◌∙◌, ap, subst}
use mathlib.Core.Logic.{⊎_elim}
use mathlib.Core.Bool.{Bool, true, false, not}
use mathlib.Core.List.{List, map}
use Prim.Native.Nat.{ℕ, ◌+◌}
use lib.Dec.{eqb}
use lib.ListN.{length}
use Rattle.std.specs.Prelude.{Ok}
use Rattle.scope.specs.Lists.{at, below, first_bad}
use Rattle.scope.specs.Table.{Table, row_count, reverse_of, table_verdict}
use Rattle.scope.specs.Standing.{outlines}
use Rattle.scope.specs.Afresh.{is_standing, successor, standing_rows, ring, starts_ring, rings, group_place}
use Rattle.scope.specs.UnionFind.{root_of}
use Rattle.scope.specs.Memory.{Memory, slots, has_slot, slot_of, lengths_fit}
use Rattle.scope.specs.Pool.{free_slots}
use Rattle.scope.specs.Order.{view, ring_at, lowest_rows, group_of, group_at}
use Rattle.scope.proofs.Tests.{either, same}
use Rattle.scope.proofs.Members.{mem_below}
use Rattle.scope.proofs.Below.{below_same}
use Rattle.scope.proofs.Cycle.{Permutes}
use Rattle.scope.proofs.Rings.{starts_stand}
use Rattle.scope.proofs.Agree.{stands_test, test_stands}
use Rattle.scope.proofs.States.{Holds}
use Rattle.scope.proofs.StateOf.{state_of}
use Rattle.scope.proofs.History.{ring_afresh, group_afresh}
use Rattle.scope.proofs.PoolCount.{pool_count}
use Rattle.scope.proofs.Linked.{has_true, true_has}
use Rattle.scope.proofs.Cancelling.{row_after}
use Rattle.scope.proofs.Sound.{sound_linked}
use Rattle.scope.proofs.TakingCells.{Shown}
use Rattle.scope.proofs.TakingShows.{shown_count, shown_holds}
use Rattle.scope.proofs.Sorting.{All}
use Rattle.scope.proofs.Untouched.{rows_permute}
use Rattle.scope.specs.Demands.{Call}
use Rattle.scope.proofs.Run.{ran, ran_shown}
use Rattle.scope.proofs.ViewsAlike.{all_mem, map_cong}

-- the next row permutes the rows with a slot
pub view_turns : {t : Table} {m : Memory} {cs : List ℕ} → Shown t m cs → Permutes (length m.row_slot) (λ r. has_slot m r ≡ true) (row_after m)
view_turns {m = m} S = subst (λ (n : ℕ). Permutes n (λ r. has_slot m r ≡ true) (row_after m)) (sym S.sound.lengths.row_slot) (rows_permute (sound_linked S.sound))

module _ {t : Table} {m : Memory} {cs : List ℕ} (S : Shown t m cs) where
  K : Holds t cs (state_of m)
  K = shown_holds S

  abbrev standing : ℕ → Bool
  standing = is_standing (outlines t cs) (reverse_of t)

  pub shown_stands : (r : ℕ) → has_slot m r ≡ standing r
  shown_stands r = same (has_slot m r) (standing r)
      (λ e. stands_test (outlines t cs) (reverse_of t) r (K.stands r (true_has m r e)))
      (λ e. has_true m r (K.all r (test_stands (outlines t cs) (reverse_of t) r e)))

  pub shown_ring : (r : ℕ) → has_slot m r ≡ true → ring (row_count t) (row_after m) r ≡ ring (row_count t) (successor t cs) r
  shown_ring r e = ring_afresh S.proper K r (true_has m r e)

  start : (r : ℕ) → starts_ring (row_count t) (has_slot m) (row_after m) r ≡ starts_ring (row_count t) standing (successor t cs) r
  unfolding starts_ring
  start r = ⊎_elim
      (λ (e : has_slot m r ≡ true). rw (← shown_stands r, e, shown_ring r e))
      (λ (e : has_slot m r ≡ false). rw (← shown_stands r, e))
      (either (has_slot m r))

  pub shown_starts : lowest_rows (view t m) ≡ below (starts_ring (row_count t) standing (successor t cs)) (row_count t)
  shown_starts =
      ap (λ (n : ℕ). below (starts_ring n (has_slot m) (row_after m)) n) S.sound.lengths.row_slot
      ∙ below_same (starts_ring (row_count t) (has_slot m) (row_after m)) (starts_ring (row_count t) standing (successor t cs)) (row_count t) (λ r h. start r)

  pub starts_have : All (λ r. has_slot m r ≡ true) (lowest_rows (view t m))
  starts_have = all_mem (λ r. has_slot m r ≡ true) (lowest_rows (view t m)) (λ r i.
      let n = length m.row_slot in
      starts_stand (view_turns S) r (mem_below (starts_ring n (has_slot m) (row_after m)) n r i).1)

  -- THE RINGS
  pub shown_rings : map (ring_at (view t m)) (lowest_rows (view t m)) ≡ rings t cs
  unfolding rings
  shown_rings =
      ap (λ (n : ℕ). map (ring n (row_after m)) (lowest_rows (view t m))) S.sound.lengths.row_slot
      ∙ map_cong (λ r. has_slot m r ≡ true) (ring (row_count t) (row_after m)) (ring (row_count t) (successor t cs)) shown_ring (lowest_rows (view t m)) starts_have
      ∙ ap (map (ring (row_count t) (successor t cs))) shown_starts

  -- THE GROUPS
  pub shown_group : (r : ℕ) → has_slot m r ≡ true → group_at (view t m) r ≡ group_place t cs (at m.slot_cell (slot_of m r))
  unfolding group_of
  shown_group r e =
      let c = at m.slot_cell (slot_of m r) in
      ap (λ (n : ℕ). first_bad (λ p. not (eqb (root_of m.parent p) (root_of m.parent c))) n) (shown_count S)
      ∙ group_afresh S.proper K c (K.place r (true_has m r e))

  -- THE POOL
  pub shown_pool : length (free_slots m) + length (standing_rows t cs) ≡ slots m
  shown_pool = pool_count S.proper (sound_linked S.sound) K

-- ---- after any run of calls

module _ (t : Table) (m : Memory) (mode : ℕ) (calls : List Call) (checked : table_verdict t ≡ Ok tt) (fits : lengths_fit t m ≡ true) where
  pub run_rings : map (ring_at (view t (ran t mode m calls).memory)) (lowest_rows (view t (ran t mode m calls).memory)) ≡ rings t (ran t mode m calls).cells
  run_rings = shown_rings (ran_shown t m mode calls checked fits)

  pub run_pool : length (free_slots (ran t mode m calls).memory) + length (standing_rows t (ran t mode m calls).cells) ≡ slots (ran t mode m calls).memory
  run_pool = shown_pool (ran_shown t m mode calls checked fits)
