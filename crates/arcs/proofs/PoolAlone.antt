-- Cancelling looks at the reverse rows and the pool alone: the same over them as over a whole table and state.
--     pool_of, asks_same          what is asked
--     met_same, unite_same       the pairs, and their unions
--     cancelled_same             the state left
-- Assumes nothing.
use mathlib.Core.Path.{◌≡◌, refl, sym, ap, ◌∙◌}
use mathlib.Core.Bool.{cond, ◌&&◌, not}
use mathlib.Core.List.{List, [], ◌∷◌}
use Prim.Native.Nat.{ℕ}
use lib.ListN.{length}
use Rattle.scope.specs.Lists.{at, member}
use Rattle.scope.specs.Table.{Table, row_count}
use Rattle.scope.specs.Memory.{Memory, memory}
use Rattle.scope.specs.UnionFind.{United, uniting}
use Rattle.scope.specs.Pool.{cancels, reverse_slot, relinked, met_first, unite_pairs, cancelled}
use Rattle.pair_links.specs.Links.{pool}
use Rattle.arcs.specs.CancelRows.{reverses, CancelAsks}

abbrev pub pool_of : Memory → Memory
pool_of m = pool m.parent m.rank m.slot_row m.slot_cell m.prev m.next m.row_slot

pub asks_same : {t : Table} {m : Memory} {n : ℕ} {o : List ℕ} → CancelAsks t m n o → CancelAsks (reverses t.reverse) (pool_of m) n o
asks_same {t} {m} A =
    let e = A.even_reverse in
    record {
      reverses = rw e (record { rev_in = A.reverses.rev_in; rev_rev = A.reverses.rev_rev; rev_ne = A.reverses.rev_ne });
      linked = record {
        row_count = A.linked.row_count ∙ sym e;
        row_held = A.linked.row_held;
        slot_held = A.linked.slot_held;
        next_used = A.linked.next_used;
        prev_used = A.linked.prev_used;
        prev_next = A.linked.prev_next;
        next_prev = A.linked.next_prev;
      };
      free = λ s h z. let f = A.free s h z in record { cell_clear = f.cell_clear; prev_clear = f.prev_clear; next_clear = f.next_clear };
      cells = A.cells;
      forest = A.forest;
      once = A.once;
      has = A.has;
      met = A.met;
      even_reverse = refl;
      even_cell = A.even_cell;
      even_prev = A.even_prev;
      even_next = A.even_next;
      slots_fit = A.slots_fit;
      cells_fit = A.cells_fit;
    }

module _ (t : Table) (m : Memory) where
  pub met_same : (l ss : List ℕ) → met_first (reverses t.reverse) (pool_of m) l ss ≡ met_first t m l ss
  unfolding met_first
  met_same l [] = refl
  met_same l (s ∷ ss) = ap (λ (k : List ℕ). cond (cancels t m s && not (member (reverse_slot t m s) l)) (s ∷ k) k) (met_same (s ∷ l) ss)

  pub unite_same : (ss : List ℕ) (u : United) → unite_pairs (reverses t.reverse) (pool_of m) ss u ≡ unite_pairs t m ss u
  unfolding unite_pairs
  unite_same [] u = refl
  unite_same (s ∷ ss) u = unite_same ss (uniting u.parents u.ranks (at m.slot_cell s) (at m.slot_cell (reverse_slot t m s)))

  unions_same : (ss : List ℕ) (u : United) → unite_pairs (reverses t.reverse) (pool_of m) (met_first (reverses t.reverse) (pool_of m) [] ss) u ≡ unite_pairs t m (met_first t m [] ss) u
  unions_same ss u = unite_same (met_first (reverses t.reverse) (pool_of m) [] ss) u ∙ ap (λ (k : List ℕ). unite_pairs t m k u) (met_same [] ss)

  -- the state left, with the rest of the state put back
  pub cancelled_same : (ss : List ℕ) → length t.reverse ≡ row_count t → (c : Memory) → c ≡ cancelled (reverses t.reverse) (pool_of m) ss
      → memory m.head m.cells c.parent c.rank m.cell_mark c.slot_row c.slot_cell c.prev c.next c.row_slot m.row_mark ≡ cancelled t m ss
  unfolding cancelled relinked
  cancelled_same ss e c q =
      let u = unions_same ss (record { parents = m.parent; ranks = m.rank }) in
      rw (q, ap (λ (w : United). w.parents) u, ap (λ (w : United). w.ranks) u, e)
