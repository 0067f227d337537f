-- The loop of `cancel_rows`: what it has done when the first i rows of the outline have been met.
--     Left                 a used slot that is not gone
--     Cancelling           the loop's invariant: the lists hold what is not gone, linked as After says, and the unions left lead to the end
--     cancelling_start     before the first row
-- Assumes nothing.
use mathlib.Core.Path.{◌≡◌, refl, sym}
use mathlib.Core.Logic.{⊎_elim}
use mathlib.Core.Bool.{false, cond}
use mathlib.Core.List.{List, []}
use Prim.Native.Nat.{ℕ, ◌+◌, ◌*◌, ◌≤◌, ◌<◌}
use native.Mathlib.Omega.{arith}
use lib.ListN.{length, get_or-eq_default}
use Rattle.scope.specs.Lists.{at}
use Rattle.scope.specs.Table.{Table}
use Rattle.scope.specs.Memory.{Memory, slots, slot_of}
use Rattle.scope.specs.UnionFind.{United}
use Rattle.scope.specs.Pool.{reverse_slot, met_first, unite_pairs}
use Rattle.scope.proofs.Tests.{le_or_lt}
use Rattle.scope.proofs.Members.{cases}
use Rattle.scope.proofs.Halving.{Forest}
use Rattle.scope.proofs.Linked.{Used}
use Rattle.placing.specs.Place.{slots_at}
use Rattle.arcs.specs.CancelRows.{CancelAsks}
use Rattle.arcs.proofs.Round.{Round}
use Rattle.arcs.proofs.After.{After, after_none, after_same, round_same}
use Rattle.arcs.proofs.Gone.{gone, gone_none}
use Rattle.arcs.proofs.Counting.{used_total}

abbrev pub Left : Table → Memory → List ℕ → ℕ → Type 0
Left t m l s = Used m s × (gone t m l s ≡ false)

-- a number of a slot, cleared where the slot is gone
abbrev pub unless_gone : Table → Memory → List ℕ → ℕ → ℕ → ℕ
unless_gone t m l s v = cond (gone t m l s) 0 v

-- all unions, from the parents and ranks before the first
abbrev pub unions : Table → Memory → List ℕ → United
unions t m ss = unite_pairs t m (met_first t m [] ss) (record { parents = m.parent; ranks = m.rank })

-- l are the slots met, rest those to come
pub record Cancelling (t : Table) (m : Memory) (n : ℕ) (ss l rest : List ℕ) (pairs : ℕ) (m' : Memory) : Type 0 where
  pub slot_row : (s : ℕ) → at m'.slot_row s ≡ unless_gone t m l s (at m.slot_row s)
  pub slot_cell : (s : ℕ) → at m'.slot_cell s ≡ unless_gone t m l s (at m.slot_cell s)
  pub row_slot : (r : ℕ) → at m'.row_slot r ≡ unless_gone t m l (slot_of m r) (at m.row_slot r)
  pub round : Round (Left t m l) (at m'.next) (at m'.prev)
  pub after : After (reverse_slot t m) (at m.next) (Left t m l) (at m'.next)
  pub next_clear : (s : ℕ) → (Left t m l s → ⊥) → at m'.next s ≡ 0
  pub prev_clear : (s : ℕ) → (Left t m l s → ⊥) → at m'.prev s ≡ 0
  pub united : unite_pairs t m (met_first t m l rest) (record { parents = m'.parent; ranks = m'.rank }) ≡ unions t m ss
  pub count : pairs + length (met_first t m l rest) ≡ length (met_first t m [] ss)
  pub used : used_total m'.slot_row (slots m) + 2 * pairs ≡ used_total m.slot_row (slots m)
  pub forest : Forest m'.parent m'.rank n
  pub long_parent : length m'.parent ≡ length m.parent
  pub long_rank : length m'.rank ≡ length m.rank
  pub long_row : slots m' ≡ slots m
  pub long_cell : length m'.slot_cell ≡ slots m
  pub long_prev : length m'.prev ≡ slots m
  pub long_next : length m'.next ≡ slots m
  pub long_slot : length m'.row_slot ≡ length m.row_slot

module _ {t : Table} {m : Memory} {n : ℕ} {o : List ℕ} (A : CancelAsks t m n o) where
  all : (a : ℕ) → Used m a → Left t m [] a
  all a u = (u, gone_none t m a)

  some : (a : ℕ) → Left t m [] a → Used m a
  some a u = u.0

  whole : Round (Used m) (at m.next) (at m.prev)
  whole = record { next_in = A.linked.next_used; prev_in = A.linked.prev_used; prev_next = A.linked.prev_next; next_prev = A.linked.next_prev }

  -- a slot that is not left is free, or past the pool
  clear : (l : List ℕ) → length l ≡ slots m → ((i : ℕ) → i < slots m → at m.slot_row i ≡ 0 → at l i ≡ 0) → (s : ℕ) → (Left t m [] s → ⊥) → at l s ≡ 0
  clear l e f s k = ⊎_elim
      (λ (h : slots m ≤ s). get_or-eq_default l 0 (rw e h))
      (λ (h : s < slots m). f s h (cases (at m.slot_row s) 0 (λ q. q) (λ u. absurd (k (all s u)))))
      (le_or_lt (slots m) s)

  pub cancelling_start : Cancelling t m n (slots_at m.row_slot o) [] (slots_at m.row_slot o) 0 m
  cancelling_start = record {
    slot_row = λ s. sym (rw (gone_none t m s));
    slot_cell = λ s. sym (rw (gone_none t m s));
    row_slot = λ r. sym (rw (gone_none t m (slot_of m r)));
    round = round_same all some (λ a u. refl) (λ a u. refl) whole;
    after = after_same all some (λ a u. refl) (after_none A.linked.next_used);
    next_clear = clear m.next A.even_next (λ i h e. (A.free i h e).next_clear);
    prev_clear = clear m.prev A.even_prev (λ i h e. (A.free i h e).prev_clear);
    united = refl;
    count = omega arith;
    used = omega arith;
    forest = A.forest;
    long_parent = refl;
    long_rank = refl;
    long_row = refl;
    long_cell = A.even_cell;
    long_prev = A.even_prev;
    long_next = A.even_next;
    long_slot = refl;
  }
