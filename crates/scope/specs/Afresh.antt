-- Document 01, "Standing edges, rings, groups", as functions that compute: worked out afresh from a table and a list of cells.
-- proofs/Agree shows that they are the propositions of Standing.
-- Assumes nothing.
use Rattle.std.specs.Prelude.{ℕ, zero, suc, Bool, true, false, ◌&&◌, ◌||◌, not, cond, List, [], ◌∷◌, map, eqb, leb, length}
use Rattle.scope.specs.Lists.{at, member, below, follow, first_bad, tabulate}
use Rattle.scope.specs.Table.{Table, row_count, reverse_of, outline_rows}
use Rattle.scope.specs.Standing.{outlines, next_of}

unfoldable pub is_given : List (List ℕ) → ℕ → Bool
is_given [] a = false
is_given (o ∷ os) a = member a o || is_given os a

unfoldable pub is_standing : List (List ℕ) → (ℕ → ℕ) → ℕ → Bool
is_standing os rev a = is_given os a && not (is_given os (rev a))

-- The ring successor, followed for at most as many steps as there are rows.
unfoldable pub successor : Table → List ℕ → ℕ → ℕ
successor t cs a =
    let os = outlines t cs in
    follow (is_standing os (reverse_of t)) (λ w. next_of os (reverse_of t w)) (row_count t) (next_of os a)

-- The rows that stand, ascending.
unfoldable pub standing_rows : Table → List ℕ → List ℕ
standing_rows t cs = let os = outlines t cs in below (is_standing os (reverse_of t)) (row_count t)

-- ---- rings as cycles, over any row count n, standing rows and successor

-- the rows from x on up to the start, which ends it
unfoldable pub trail : (ℕ → ℕ) → ℕ → ℕ → ℕ → List ℕ
trail f start zero x = []
trail f start (suc k) x = let l = x ∷ trail f start k (f x) in cond (eqb x start) [] l

-- the ring of a row, from it on
unfoldable pub ring : ℕ → (ℕ → ℕ) → ℕ → List ℕ
ring n f r = r ∷ trail f r n (f r)

unfoldable pub none_below : ℕ → List ℕ → Bool
none_below r [] = true
none_below r (x ∷ l) = leb r x && none_below r l

-- the row stands and is the lowest of its ring
unfoldable pub starts_ring : ℕ → (ℕ → Bool) → (ℕ → ℕ) → ℕ → Bool
starts_ring n stands f r = stands r && none_below r (ring n f r)

-- the rings by their lowest rows, ascending
abbrev pub ring_starts : ℕ → (ℕ → Bool) → (ℕ → ℕ) → List ℕ
ring_starts n stands f = below (starts_ring n stands f) n

-- The rings of a table and a cell list, each from its lowest row.
unfoldable pub rings : Table → List ℕ → List (List ℕ)
rings t cs =
    map (ring (row_count t) (successor t cs))
    (ring_starts (row_count t) (is_standing (outlines t cs) (reverse_of t)) (successor t cs))

-- ---- groups, by places of the cell list

unfoldable pub some_reverse : Table → List ℕ → List ℕ → Bool
some_reverse t [] p = false
some_reverse t (a ∷ o) p = member (reverse_of t a) p || some_reverse t o p

-- the two cells hold some edge and its reverse
unfoldable pub touches : Table → ℕ → ℕ → Bool
touches t x y = some_reverse t (outline_rows t x) (outline_rows t y)

-- places of label b get label a
unfoldable pub relabel : ℕ → ℕ → List ℕ → List ℕ
relabel a b l = map (λ c. cond (eqb c b) a c) l

-- where the cell at place i touches one before place j, the two labels become one
unfoldable pub label_with : Table → List ℕ → ℕ → ℕ → List ℕ → List ℕ
label_with t cs i zero l = l
label_with t cs i (suc j) l =
    let k = label_with t cs i j l in
    let m = relabel (at k i) (at k j) k in
    cond (touches t (at cs i) (at cs j)) m k

-- the same for every cell before place i: then places of one label are one group
unfoldable pub label_all : Table → List ℕ → ℕ → List ℕ
label_all t cs zero = tabulate (λ i. i) (length cs)
label_all t cs (suc i) = label_with t cs i (length cs) (label_all t cs i)

-- The group of the cell at a place: the lowest place of the group's cells.
unfoldable pub group_place : Table → List ℕ → ℕ → ℕ
group_place t cs i = let l = label_all t cs (length cs) in first_bad (λ j. not (eqb (at l j) (at l i))) (length cs)
