-- Document 01, "Standing edges, rings, groups": the pool. Placing an outline, and cancelling, all pairs at once.
-- Assumes nothing.
use Rattle.std.specs.Prelude.{ℕ, suc, ◌+◌, Bool, true, false, ◌&&◌, ◌||◌, not, cond, List, [], ◌∷◌, map, leb, ltb, length, set, take, replicate}
use Rattle.scope.specs.declared.Refusal.TheVariants.{EdgeNotInTable, EdgeTwice, PoolFull}
use Rattle.scope.specs.Lists.{at, passes, below, member, tabulate, rotate, put_all, follow}
use Rattle.scope.specs.Answers.{require, ◌▷◌, Verdict}
use Rattle.scope.specs.Table.{Table, row_count, reverse_of, outline_rows}
use Rattle.scope.specs.Memory.{Memory, memory, held, slots, is_used, row_in, has_slot, slot_of}
use Rattle.scope.specs.UnionFind.{United, uniting}

-- ---- placing

unfoldable pub free_slots : Memory → List ℕ
free_slots m = below (λ s. not (is_used m s)) (slots m)

-- An outline's i-th edge takes the i-th lowest free slot.
abbrev pub slots_for : Memory → List ℕ → List ℕ
slots_for m o = take (length o) (free_slots m)

-- 5 unless every outline edge is in the table.
abbrev pub all_in_table : Table → List ℕ → Bool
all_in_table t o = passes (λ i. ltb (at o i) (row_count t)) (length o)

-- 6: an outline names an edge twice.
unfoldable pub names_twice : List ℕ → Bool
names_twice [] = false
names_twice (a ∷ o) = member a o || names_twice o

-- 7 unless there are as many free slots as the outline has edges.
abbrev pub enough_slots : Memory → List ℕ → Bool
enough_slots m o = leb (length o) (length (free_slots m))

-- 5, 6 and 7, with the index of the cell.
unfoldable pub outline_verdict : Table → Memory → List ℕ → Verdict
outline_verdict t m o =
    require (all_in_table t o) (EdgeNotInTable (held m)) ▷ require (not (names_twice o)) (EdgeTwice (held m)) ▷ require (enough_slots m o) (PoolFull (held m))

-- The state with one more cell, its outline's edges in their slots, linked in walk order.
unfoldable pub placed : Memory → ℕ → List ℕ → Memory
placed m x o =
    let n = held m in
    let ss = slots_for m o in
    memory (set m.head 1 (n + 1)) (set m.cells n x) (set m.parent n n) (set m.rank n 0) m.cell_mark
    (put_all ss (map suc o) m.slot_row) (put_all ss (replicate (length o) n) m.slot_cell)
    (put_all (rotate ss) ss m.prev) (put_all ss (rotate ss) m.next) (put_all o (map suc ss) m.row_slot) m.row_mark

-- ---- cancelling

-- whether a slot holds the reverse of a slot's row, and which
abbrev pub reverse_held : Table → Memory → ℕ → Bool
reverse_held t m s = has_slot m (reverse_of t (row_in m s))

abbrev pub reverse_slot : Table → Memory → ℕ → ℕ
reverse_slot t m s = slot_of m (reverse_of t (row_in m s))

-- An edge cancels when a slot holds its reverse.
abbrev pub cancels : Table → Memory → ℕ → Bool
cancels t m s = is_used m s && reverse_held t m s

abbrev pub stays : Table → Memory → ℕ → Bool
stays t m s = is_used m s && not (reverse_held t m s)

-- The links left are those of the successor rule over the links before: while the slot linked to cancels, the link of its reverse's slot.
-- The same rule over the previous links gives the backward links.
unfoldable pub relinked : Table → Memory → List ℕ → ℕ → ℕ
relinked t m links s = follow (λ w. not (cancels t m w)) (λ w. at links (reverse_slot t m w)) (slots m) (at links s)

-- What stays of a slot's number; the slots of cancelled pairs are free again.
abbrev pub if_stays : Table → Memory → (ℕ → ℕ) → ℕ → ℕ
if_stays t m f s = cond (stays t m s) (f s) 0

abbrev pub row_if_stays : Table → Memory → ℕ → ℕ
row_if_stays t m r = cond (has_slot m (reverse_of t r)) 0 (at m.row_slot r)

-- Pairs cancel in walk order: of an edge and its reverse the one met first, for the slots ss of an outline, after those already seen.
unfoldable pub met_first : Table → Memory → List ℕ → List ℕ → List ℕ
met_first t m seen [] = []
met_first t m seen (s ∷ ss) =
    let l = met_first t m (s ∷ seen) ss in
    cond (cancels t m s && not (member (reverse_slot t m s) seen)) (s ∷ l) l

-- Each cancelled pair, a ring's last one too, unites the cell of the edge met first with the cell of its reverse, in that order.
unfoldable pub unite_pairs : Table → Memory → List ℕ → United → United
unite_pairs t m [] u = u
unite_pairs t m (s ∷ ss) u =
    unite_pairs t m ss (uniting u.parents u.ranks (at m.slot_cell s) (at m.slot_cell (reverse_slot t m s)))

-- The state that a placed outline in the slots ss leaves when all pairs have cancelled.
unfoldable pub cancelled : Table → Memory → List ℕ → Memory
cancelled t m ss =
    let u = unite_pairs t m (met_first t m [] ss) (record { parents = m.parent; ranks = m.rank }) in
    memory m.head m.cells u.parents u.ranks m.cell_mark
    (tabulate (if_stays t m (at m.slot_row)) (slots m)) (tabulate (if_stays t m (at m.slot_cell)) (slots m))
    (tabulate (if_stays t m (relinked t m m.prev)) (slots m)) (tabulate (if_stays t m (relinked t m m.next)) (slots m))
    (tabulate (row_if_stays t m) (row_count t)) m.row_mark

-- One more accepted cell: its outline placed, then all pairs cancelled.
unfoldable pub taking : Table → Memory → ℕ → Memory
taking t m x = let o = outline_rows t x in cancelled t (placed m x o) (slots_for m o)
