-- PLACING an outline: what the lists of `placed` hold at each place, where the outline's rows are different, in the table, without slots,
-- and there are slots enough.
--     Placeable t m o       what is asked of the outline
--     Placed m x o p        p holds the outline in the slots for it, linked in walk order, and all else as m does
--     placed_lists          `placed` leaves such a state
--     placed_has, -used     the rows with a slot are those before and the outline's, the used slots those before and the new ones
--     placed_linked         slots and rows point at each other again, and the links are inverse
-- Assumes nothing.
use mathlib.Core.Path.{◌≡◌, refl, sym, ◌∙◌, ap, subst}
use mathlib.Core.Logic.{◌⊎◌, inl, inr}
use mathlib.Core.Bool.{true, not}
use mathlib.Core.List.{List, [], ◌∷◌, map, Memᴰ}
use Prim.Native.Nat.{ℕ, zero, suc, ◌+◌, ◌-◌, ◌≤◌, ◌<◌}
use native.Mathlib.Omega.{arith}
use lib.ListN.{length, replicate, length-map, length-replicate, get_or-replicate}
use lib.Seq.{length-take-le}
use borrow.Author.Tests.{not-true}
use Rattle.scope.specs.Lists.{at, rotate, put_all}
use Rattle.scope.specs.Table.{Table, row_count}
use Rattle.scope.specs.Memory.{Memory, held, slots, is_used, row_in, slot_of}
use Rattle.scope.specs.Pool.{free_slots, slots_for, placed}
use Rattle.scope.proofs.Tests.{clash}
use Rattle.scope.proofs.Members.{Fresh, mem_dec, mem_at, place, mem_below, below_fresh}
use Rattle.scope.proofs.Outlines.{onward, onward_lt, onward_onto}
use Rattle.scope.proofs.Puts.{put_all_length, put_all_at, put_all_other, rotate_length, rotate_at, rotate_fresh, mem_rotate, mem_take, take_fresh}
use Rattle.scope.proofs.Lengths.{Lengths}
use Rattle.scope.proofs.Linked.{Used, Has, used_true, Linked, slot_used, row_has}

pub record Placeable (t : Table) (m : Memory) (o : List ℕ) : Type 0 where
  pub once : Fresh o
  pub in_table : (a : ℕ) → Memᴰ a o → a < row_count t
  pub none_held : (a : ℕ) → Memᴰ a o → Has m a → ⊥
  pub room : length o ≤ length (free_slots m)

pub record Placed (m : Memory) (o : List ℕ) (p : Memory) : Type 0 where
  pub pool : slots p ≡ slots m
  pub rows : length p.row_slot ≡ length m.row_slot
  pub new_row : (i : ℕ) → i < length o → at p.slot_row (at (slots_for m o) i) ≡ at o i + 1
  pub new_cell : (i : ℕ) → i < length o → at p.slot_cell (at (slots_for m o) i) ≡ held m
  pub new_next : (i : ℕ) → i < length o → at p.next (at (slots_for m o) i) ≡ at (slots_for m o) (onward (length o) i)
  pub new_prev : (i : ℕ) → i < length o → at p.prev (at (slots_for m o) (onward (length o) i)) ≡ at (slots_for m o) i
  pub new_slot : (i : ℕ) → i < length o → at p.row_slot (at o i) ≡ at (slots_for m o) i + 1
  pub old_row : (s : ℕ) → (Memᴰ s (slots_for m o) → ⊥) → at p.slot_row s ≡ at m.slot_row s
  pub old_cell : (s : ℕ) → (Memᴰ s (slots_for m o) → ⊥) → at p.slot_cell s ≡ at m.slot_cell s
  pub old_next : (s : ℕ) → (Memᴰ s (slots_for m o) → ⊥) → at p.next s ≡ at m.next s
  pub old_prev : (s : ℕ) → (Memᴰ s (slots_for m o) → ⊥) → at p.prev s ≡ at m.prev s
  pub old_slot : (r : ℕ) → (Memᴰ r o → ⊥) → at p.row_slot r ≡ at m.row_slot r

map_suc : (l : List ℕ) (i : ℕ) → i < length l → at (map suc l) i ≡ at l i + 1
map_suc [] i h = absurd (omega arith)
map_suc (x ∷ l) zero h = omega arith
map_suc (x ∷ l) (suc i) h = map_suc l i (omega arith)

-- ---- the slots for an outline

module _ (m : Memory) (o : List ℕ) where
  pub slots_fresh : Fresh (slots_for m o)
  unfolding free_slots
  slots_fresh = take_fresh (length o) (free_slots m) (below_fresh (λ s. not (is_used m s)) (slots m))

  slot_free : (s : ℕ) → Memᴰ s (slots_for m o) → (s < slots m) × (not (is_used m s) ≡ true)
  unfolding free_slots
  slot_free s i = mem_below (λ k. not (is_used m k)) (slots m) s (mem_take (length o) (free_slots m) s i)

  pub slots_free : (s : ℕ) → Memᴰ s (slots_for m o) → Used m s → ⊥
  slots_free s i u = clash (used_true m s u) (not-true (is_used m s) (slot_free s i).1)

  pub slots_in : (s : ℕ) → Memᴰ s (slots_for m o) → s < slots m
  slots_in s i = (slot_free s i).0

module _ {t : Table} {m : Memory} {o : List ℕ} (l : Lengths t m) (f : Placeable t m o) where
  abbrev ss : List ℕ
  ss = slots_for m o

  pub slots_many : length (slots_for m o) ≡ length o
  slots_many = length-take-le (length o) (free_slots m) f.room

  slot_at : (i : ℕ) → i < length o → Memᴰ (at ss i) ss
  slot_at i h = mem_at ss i (let e = slots_many in omega arith)

  -- a value for each new slot
  new_at : (vs k : List ℕ) (i : ℕ) → length vs ≡ length o → length k ≡ slots m → i < length o → at (put_all ss vs k) (at ss i) ≡ at vs i
  new_at vs k i a b h =
      let e = slots_many in
      put_all_at ss vs k i (slots_fresh m o) (omega arith) (omega arith) (rw b (slots_in m o (at ss i) (slot_at i h)))

  pub placed_lists : (x : ℕ) → Placed m o (placed m x o)
  unfolding placed
  placed_lists x =
      let e = slots_many in
      let turned : (i : ℕ) → i < length o → at (rotate ss) i ≡ at ss (onward (length o) i) = λ i h. rotate_at ss i (omega arith) ∙ ap (λ (n : ℕ). at ss (onward n i)) e in
      record {
        pool = put_all_length ss (map suc o) m.slot_row;
        rows = put_all_length o (map suc ss) m.row_slot;
        new_row = λ i h. new_at (map suc o) m.slot_row i (length-map o suc) refl h ∙ map_suc o i h;
        new_cell = λ i h. new_at (replicate (length o) (held m)) m.slot_cell i (length-replicate (length o) (held m)) l.slot_cell h ∙ get_or-replicate (length o) i (held m) 0 h;
        new_next = λ i h. new_at (rotate ss) m.next i (rotate_length ss ∙ e) l.next h ∙ turned i h;
        new_prev = λ i h. ap (at (put_all (rotate ss) ss m.prev)) (sym (turned i h))
            ∙ put_all_at (rotate ss) ss m.prev i (rotate_fresh ss (slots_fresh m o)) (sym (rotate_length ss)) (rw (rotate_length ss, e) h)
            (rw (turned i h, l.prev) (slots_in m o _ (slot_at (onward (length o) i) (onward_lt (length o) i h))));
        new_slot = λ i h. put_all_at o (map suc ss) m.row_slot i f.once (length-map ss suc ∙ e) h (rw l.row_slot (f.in_table (at o i) (mem_at o i h)))
            ∙ map_suc ss i (omega arith);
        old_row = λ s n. put_all_other ss (map suc o) m.slot_row s n;
        old_cell = λ s n. put_all_other ss (replicate (length o) (held m)) m.slot_cell s n;
        old_next = λ s n. put_all_other ss (rotate ss) m.next s n;
        old_prev = λ s n. put_all_other (rotate ss) ss m.prev s (λ i. n (mem_rotate ss s i));
        old_slot = λ r n. put_all_other o (map suc ss) m.row_slot r n;
      }

-- ---- old and new

module _ {t : Table} {m p : Memory} {o : List ℕ} (L : Linked t m) (f : Placeable t m o) (many : length (slots_for m o) ≡ length o) (P : Placed m o p) where
  abbrev new : List ℕ
  new = slots_for m o

  -- an old slot is none of the new ones, an old row is not in the outline
  pub used_old : (s : ℕ) → Used m s → Memᴰ s (slots_for m o) → ⊥
  used_old s u i = slots_free m o s i u

  pub has_old : (r : ℕ) → Has m r → Memᴰ r o → ⊥
  has_old r h i = f.none_held r i h

  pub used_kept : (s : ℕ) → Used m s → Used p s
  used_kept s u = rw (P.old_row s (used_old s u)) u

  pub has_kept : (r : ℕ) → Has m r → Has p r
  has_kept r h = rw (P.old_slot r (has_old r h)) h

  pub used_new : (i : ℕ) → i < length o → Used p (at (slots_for m o) i)
  used_new i h z = let e = P.new_row i h in omega arith

  pub has_new : (i : ℕ) → i < length o → Has p (at o i)
  has_new i h z = let e = P.new_slot i h in omega arith

  -- the used slots: a new one by its place, or an old one
  pub placed_used : (s : ℕ) → Used p s → ((i : ℕ) × (i < length o) × (at (slots_for m o) i ≡ s)) ⊎ (Used m s × (Memᴰ s (slots_for m o) → ⊥))
  placed_used s u = go (mem_dec s new)
    where
      go : Dec (Memᴰ s new) → ((i : ℕ) × (i < length o) × (at new i ≡ s)) ⊎ (Used m s × (Memᴰ s new → ⊥))
      go (yes i) = let q = place i in inl (q.0, omega (arith, q.1), q.2)
      go (no n) = inr (subst (λ (k : ℕ). k ≡ 0 → ⊥) (P.old_row s n) u, n)

  pub placed_has : (r : ℕ) → Has p r → ((i : ℕ) × (i < length o) × (at o i ≡ r)) ⊎ (Has m r × (Memᴰ r o → ⊥))
  placed_has r h = go (mem_dec r o)
    where
      go : Dec (Memᴰ r o) → ((i : ℕ) × (i < length o) × (at o i ≡ r)) ⊎ (Has m r × (Memᴰ r o → ⊥))
      go (yes i) = inl (place i)
      go (no n) = inr (subst (λ (k : ℕ). k ≡ 0 → ⊥) (P.old_slot r n) h, n)

  -- ---- a property of every used slot, by the new slots' places and the old slots

  pub each_slot : (Q : ℕ → Type 0) → ((i : ℕ) → i < length o → Q (at new i)) → ((s : ℕ) → Used m s → (Memᴰ s new → ⊥) → Q s) → (s : ℕ) → Used p s → Q s
  each_slot Q a b s u = go (placed_used s u)
    where
      go : ((i : ℕ) × (i < length o) × (at new i ≡ s)) ⊎ (Used m s × (Memᴰ s new → ⊥)) → Q s
      go (inl (i, h, e)) = subst Q e (a i h)
      go (inr (v, n)) = b s v n

  pub each_row : (Q : ℕ → Type 0) → ((i : ℕ) → i < length o → Q (at o i)) → ((r : ℕ) → Has m r → (Memᴰ r o → ⊥) → Q r) → (r : ℕ) → Has p r → Q r
  each_row Q a b r u = go (placed_has r u)
    where
      go : ((i : ℕ) × (i < length o) × (at o i ≡ r)) ⊎ (Has m r × (Memᴰ r o → ⊥)) → Q r
      go (inl (i, h, e)) = subst Q e (a i h)
      go (inr (v, n)) = b r v n

  -- the slot before a new one
  before : (Q : ℕ → Type 0) → ((i : ℕ) → i < length o → Q (at new (onward (length o) i))) → (i : ℕ) → i < length o → Q (at new i)
  before Q a i h = let w = onward_onto (length o) i h in subst (λ (k : ℕ). Q (at new k)) w.2 (a w.0 w.1)

  pub placed_linked : Linked t p
  placed_linked = record {
    row_count = P.rows ∙ L.row_count;
    row_held = each_row (λ r. at p.slot_row (slot_of p r) ≡ r + 1)
        (λ i h. ap (λ (k : ℕ). at p.slot_row (k - 1)) (P.new_slot i h) ∙ ap (at p.slot_row) (let z : at new i + 1 - 1 ≡ at new i = omega arith in z) ∙ P.new_row i h)
        (λ r h n. ap (λ (k : ℕ). at p.slot_row (k - 1)) (P.old_slot r n) ∙ P.old_row (slot_of m r) (used_old _ (slot_used L r h)) ∙ L.row_held r h);
    slot_held = each_slot (λ s. at p.row_slot (row_in p s) ≡ s + 1)
        (λ i h. ap (λ (k : ℕ). at p.row_slot (k - 1)) (P.new_row i h) ∙ ap (at p.row_slot) (let z : at o i + 1 - 1 ≡ at o i = omega arith in z) ∙ P.new_slot i h)
        (λ s u n. ap (λ (k : ℕ). at p.row_slot (k - 1)) (P.old_row s n) ∙ P.old_slot (row_in m s) (has_old _ (row_has L s u)) ∙ L.slot_held s u);
    next_used = each_slot (λ s. Used p (at p.next s))
        (λ i h. subst (Used p) (sym (P.new_next i h)) (used_new (onward (length o) i) (onward_lt (length o) i h)))
        (λ s u n. subst (Used p) (sym (P.old_next s n)) (used_kept _ (L.next_used s u)));
    prev_used = each_slot (λ s. Used p (at p.prev s))
        (before (λ s. Used p (at p.prev s)) (λ i h. subst (Used p) (sym (P.new_prev i h)) (used_new i h)))
        (λ s u n. subst (Used p) (sym (P.old_prev s n)) (used_kept _ (L.prev_used s u)));
    prev_next = each_slot (λ s. at p.prev (at p.next s) ≡ s)
        (λ i h. ap (at p.prev) (P.new_next i h) ∙ P.new_prev i h)
        (λ s u n. ap (at p.prev) (P.old_next s n) ∙ P.old_prev _ (used_old _ (L.next_used s u)) ∙ L.prev_next s u);
    next_prev = each_slot (λ s. at p.next (at p.prev s) ≡ s)
        (before (λ s. at p.next (at p.prev s) ≡ s) (λ i h. ap (at p.next) (P.new_prev i h) ∙ P.new_next i h))
        (λ s u n. ap (at p.next) (P.old_prev s n) ∙ P.old_next _ (used_old _ (L.prev_used s u)) ∙ L.next_prev s u);
  }
