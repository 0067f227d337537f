-- Examples beside those of document 01: each bound and each rule from both sides, the order of refusals, ties, ranks, mixed mode, and outlines
-- that real tables show.
-- Assumes nothing.
use Prim.Native.Nat.{ℕ}
use mathlib.Core.List.{List, [], ◌∷◌}
use lib.ListN.{take}
use Rattle.scope.specs.Table.{table}
use Rattle.scope_examples.proofs.ExampleKinds.{Example, valid_cells, valid_edges, pentagons, nests, walks, compares, finds, surrounds, row_counts, opens, shortens, misfits, offers, unites, refuses, intrudes, reads, breaks, dissolves, rejects, lists, joins}
use Rattle.scope_examples.proofs.ExampleKinds.{Offers, in_mode, even, closed, refused, outlined, put, head, cells, parent, rank, cell_mark, slot_row, slot_cell, prev, next, row_slot, row_mark}
use Rattle.scope_examples.proofs.Seven.{seven, around}
use Rattle.scope_examples.proofs.Mixed.{mixed, coarse, inside, beside, over_beside}
use Rattle.scope_examples.proofs.Odd.{odd, couple, single, few_reverses, few_terms, with_edge, with_reverse, with_term, first, second, third, absent, under_first, also_under_first, under_second}

-- the standing edges of the 49 cells of resolution 9 under 872830828ffffff, and of the 41 of resolution 2 under the pentagon 08009fffffffffff, in
-- the order of their one ring, as real tables of these resolutions have them
island_of_odd : List ℕ
island_of_odd =
    0o123 ∷ 0o132 ∷ 0o133 ∷ 0o131 ∷ 0o113 ∷ 0o111 ∷ 0o115 ∷ 0o151 ∷ 0o155 ∷ 0o531 ∷ 0o513 ∷ 0o511 ∷ 0o515 ∷ 0o551 ∷ 0o555 ∷ 0o554 ∷ 0o545 ∷
    0o544 ∷ 0o415 ∷ 0o451 ∷ 0o455 ∷ 0o454 ∷ 0o445 ∷ 0o444 ∷ 0o446 ∷ 0o464 ∷ 0o466 ∷ 0o654 ∷ 0o645 ∷ 0o644 ∷ 0o646 ∷ 0o664 ∷ 0o666 ∷ 0o662 ∷
    0o626 ∷ 0o622 ∷ 0o246 ∷ 0o264 ∷ 0o266 ∷ 0o262 ∷ 0o226 ∷ 0o222 ∷ 0o223 ∷ 0o232 ∷ 0o233 ∷ 0o362 ∷ 0o326 ∷ 0o322 ∷ 0o323 ∷ 0o332 ∷ 0o333 ∷
    0o331 ∷ 0o313 ∷ 0o311 ∷ []

island_of_pentagon : List ℕ
island_of_pentagon =
    0o511 ∷ 0o515 ∷ 0o551 ∷ 0o555 ∷ 0o554 ∷ 0o545 ∷ 0o544 ∷ 0o546 ∷ 0o564 ∷ 0o455 ∷ 0o454 ∷ 0o445 ∷ 0o444 ∷ 0o446 ∷ 0o464 ∷ 0o466 ∷ 0o462 ∷
    0o426 ∷ 0o644 ∷ 0o646 ∷ 0o664 ∷ 0o666 ∷ 0o662 ∷ 0o626 ∷ 0o622 ∷ 0o623 ∷ 0o632 ∷ 0o266 ∷ 0o262 ∷ 0o226 ∷ 0o222 ∷ 0o223 ∷ 0o232 ∷ 0o233 ∷
    0o231 ∷ 0o213 ∷ 0o322 ∷ 0o323 ∷ 0o332 ∷ 0o333 ∷ 0o331 ∷ 0o313 ∷ 0o311 ∷ 0o315 ∷ 0o351 ∷ []

-- two hexagons of the small table, with a slot, a place, and so many records and rows to read out
two : ℕ → ℕ → Offers
two records rows = even odd 11 3 records rows (second ∷ first ∷ [])

on_mixed : ℕ → List ℕ → Offers
on_mixed slots cs = in_mode 1 mixed slots 2 2 24 cs

-- numbers, walks, tables, and the order of tests
unfoldable pub bounds : List Example
unfolding island_of_odd island_of_pentagon
bounds =
    -- bit 63, mode, edge bits, base cell 121 and 122, digit 7 up to the resolution, another digit after it
    valid_cells (0x08001fffffffffff ∷ 0x080f3fffffffffff ∷ 0x08f0000000000000 ∷ [])
    (0x88001fffffffffff ∷ 0x10001fffffffffff ∷ 0x09001fffffffffff ∷ 0x080f5fffffffffff ∷ 0x08101fffffffffff ∷ 0x08001ffffffffff6 ∷ [])
    -- edge numbers 0, 1, 6 and 7, edge 1 of a pentagon, a cell
    ∷ valid_edges (0x11001fffffffffff ∷ 0x16001fffffffffff ∷ 0x12009fffffffffff ∷ [])
    (0x10001fffffffffff ∷ 0x17001fffffffffff ∷ 0x11009fffffffffff ∷ 0x09001fffffffffff ∷ [])
    -- the pentagons, as a real table of resolution 0 has them
    ∷ pentagons (4 ∷ 14 ∷ 24 ∷ 38 ∷ 49 ∷ 58 ∷ 63 ∷ 72 ∷ 83 ∷ 97 ∷ 107 ∷ 117 ∷ [])
    -- one under it; then itself, one above, one beside, one under that
    ∷ nests under_first (0x082000ffffffffff ∷ []) (under_first ∷ first ∷ also_under_first ∷ 0x082004ffffffffff ∷ [])
    -- the outlines are those that real tables show
    ∷ walks 0x872830828ffffff 9 54 island_of_odd []
    ∷ walks 0x08009fffffffffff 2 45 island_of_pentagon []
    -- a finer pentagon, and a hexagon beside it under the same base cell
    ∷ walks 0x081083ffffffffff 1 5 (3 ∷ 5 ∷ 4 ∷ 6 ∷ 2 ∷ []) []
    ∷ walks 0x08108bffffffffff 1 6 (3 ∷ 1 ∷ 5 ∷ 4 ∷ 6 ∷ 2 ∷ []) []
    -- −∞, −1, 0, 1, ∞, NaN; then both zeros, and NaN with itself
    ∷ compares (0xfff0000000000000 ∷ 0xbff0000000000000 ∷ 0 ∷ 0x3ff0000000000000 ∷ 0x7ff0000000000000 ∷ 0x7ff8000000000000 ∷ [])
    (0 ∷ 0x8000000000000000 ∷ [])
    ∷ compares [] (0x7ff8000000000000 ∷ 0x7ff8000000000000 ∷ [])
    -- find halves the path
    ∷ finds (1 ∷ 2 ∷ 3 ∷ 3 ∷ []) 0 3 (2 ∷ 2 ∷ 3 ∷ 3 ∷ [])
    -- modes: 2 means even, above 2 is refused; capacities of 0 and past the largest; slices of another length
    ∷ opens odd 11 3 2 0 0 0
    ∷ opens odd 11 3 1 0 0 1
    ∷ opens odd 11 3 3 10 0 7
    ∷ opens odd 0 3 0 10 0 7
    ∷ opens odd 11 0 0 10 0 7
    ∷ opens odd 1 3 0 0 0 0
    ∷ opens odd 11 1 0 0 0 0
    ∷ opens odd 65536 3 0 0 0 0
    ∷ opens odd 65537 3 0 10 0 7
    ∷ opens odd 11 16384 0 0 0 0
    ∷ opens odd 11 16385 0 10 0 7
    ∷ opens few_reverses 11 3 0 10 0 7
    ∷ opens few_terms 11 3 0 10 0 7
    ∷ shortens odd 11 3 head
    ∷ shortens odd 11 3 cells
    ∷ shortens odd 11 3 parent
    ∷ shortens odd 11 3 rank
    ∷ shortens odd 11 3 cell_mark
    ∷ shortens odd 11 3 slot_row
    ∷ shortens odd 11 3 slot_cell
    ∷ shortens odd 11 3 prev
    ∷ shortens odd 11 3 next
    ∷ shortens odd 11 3 row_slot
    ∷ shortens odd 11 3 row_mark
    -- no row at all, one, two; and the most
    ∷ opens (table [] [] []) 11 3 0 1 0 7
    ∷ opens single 11 3 0 1 0 7
    ∷ opens couple 11 3 0 0 0 0
    ∷ row_counts (2 ∷ 65536 ∷ []) (0 ∷ 1 ∷ 65537 ∷ [])
    -- the lowest bad row: out of order the later, not valid, reverse out of range, itself, not naming back, area term not finite
    ∷ opens (with_edge 4 0x11007fffffffffff) 11 3 0 1 4 7
    ∷ opens (with_edge 5 0x12009ffffffffffe) 11 3 0 1 5 7
    ∷ opens (with_reverse 5 24) 11 3 0 1 5 7
    ∷ opens (with_reverse 6 6) 11 3 0 1 4 7
    ∷ opens (with_reverse 9 11) 11 3 0 1 9 7
    ∷ opens (with_term 7 0x7ff0000000000000) 11 3 0 1 7 7
    -- where two refusals apply, the first in the order of test is given. 10, 1 (unequal resolutions, then rows), 9, 2
    ∷ opens (with_term 7 0x7ff0000000000000) 11 3 3 10 0 7
    ∷ opens (with_edge 5 0x121023ffffffffff) 11 3 0 1 0 7
    ∷ intrudes (with_term 7 0x7ff0000000000000) 0 3 first 10 0
    ∷ intrudes (with_term 7 0x7ff0000000000000) 11 3 first 1 7
    ∷ intrudes odd 11 3 0 9 0
    -- 2, 3, 4, the second 3, 8
    ∷ lists 0 0 9 (first ∷ first ∷ 0 ∷ []) 2 2
    ∷ lists 0 1 9 (first ∷ first ∷ []) 3 1
    ∷ lists 0 0 9 (first ∷ under_first ∷ []) 4 1
    ∷ lists 0 1 9 (first ∷ under_first ∷ []) 4 0
    ∷ lists 1 0 9 (first ∷ under_first ∷ []) 4 1
    ∷ lists 1 1 1 (under_second ∷ under_first ∷ first ∷ []) 3 1
    ∷ lists 0 0 1 (first ∷ second ∷ []) 8 0
    -- for one cell the same; where it lies over held cells, the place of the lowest of them
    ∷ joins 0 0 9 (second ∷ first ∷ []) 0 2 2
    ∷ joins 0 1 9 (second ∷ first ∷ []) first 3 2
    ∷ joins 1 0 9 (second ∷ first ∷ []) under_first 4 2
    ∷ joins 1 1 2 (second ∷ first ∷ []) under_first 3 2
    ∷ joins 1 1 3 (second ∷ under_first ∷ also_under_first ∷ []) first 3 1
    ∷ joins 0 0 1 (first ∷ []) second 8 0
    ∷ []

-- states: rings of one edge, ties, ranks, room, and each rule for 9
unfoldable pub states : List Example
unfolding two
states =
    -- a ring of one edge, whose successor is itself; then every pair cancels, the ring's last one too
    surrounds odd (first ∷ []) (1 ∷ 3 ∷ []) (0 ∷ []) (0 ∷ [])
    ∷ reads (even odd 10 3 4 8 (first ∷ third ∷ [])) closed
    -- polygons and rings of equal area go by lowest row
    ∷ reads (even odd 10 3 4 8 (second ∷ first ∷ [])) (outlined 2 (0 ∷ 4 ∷ 1 ∷ 5 ∷ []) (1 ∷ 3 ∷ 2 ∷ 2 ∷ []) (1 ∷ 1 ∷ 0 ∷ 0 ∷ [])
    (0x4000000000000000 ∷ 0x4008000000000000 ∷ 0x4000000000000000 ∷ 0x4000000000000000 ∷ []))
    -- polygons by outer area, the larger first
    ∷ reads (even seven 28 7 3 30 (0x89283082807ffff ∷ 0x8928308280bffff ∷ []))
    (outlined 2 (2 ∷ 1 ∷ []) (6 ∷ 6 ∷ []) (1 ∷ 0 ∷ []) (0x3e27272577360000 ∷ 0x3e2726c7f4dd0000 ∷ []))
    -- a slot, a record or a row less
    ∷ dissolves (even odd 9 3 4 8 (second ∷ first ∷ [])) (refused 7 1)
    ∷ dissolves (even odd 10 3 3 8 (second ∷ first ∷ [])) (refused 10 0)
    ∷ reads (even odd 10 3 4 7 (second ∷ first ∷ [])) (refused 10 0)
    ∷ misfits (two 4 8)
    -- in read out it is tested after 9
    ∷ breaks (two 3 8) (put head 0 2 ∷ []) 9
    -- dissolve refused by its list's checks writes nothing
    ∷ rejects (even odd 10 3 4 8 (first ∷ first ∷ [])) 3 1
    ∷ rejects (in_mode 3 odd 10 3 4 8 (first ∷ [])) 10 0
    ∷ rejects (even odd 9 1 4 8 (first ∷ second ∷ [])) 8 0
    ∷ rejects (even odd 10 1 4 8 (first ∷ absent ∷ [])) 8 0
    -- refused by 5 it leaves the memory newly opened
    ∷ dissolves (even odd 10 3 4 8 (first ∷ absent ∷ [])) (refused 5 1)
    -- 8 before 5 and before 7; then 5, 7
    ∷ refuses (even odd 11 1 4 8 (first ∷ [])) absent 8 0
    ∷ refuses (even odd 9 1 4 8 (first ∷ [])) second 8 0
    ∷ refuses (even odd 5 3 4 8 []) absent 5 0
    ∷ refuses (even odd 9 3 4 8 (first ∷ [])) second 7 1
    -- the new cell is united with the held one, in that order, and the rank grows also where ranks are unequal
    ∷ unites (even seven 28 7 3 30 (take 3 around)) (1 ∷ 1 ∷ 1 ∷ 0 ∷ 0 ∷ 0 ∷ 0 ∷ []) (0 ∷ 2 ∷ 0 ∷ 0 ∷ 0 ∷ 0 ∷ 0 ∷ [])
    -- where a cell meets two groups, in walk order; and a union halves the paths that it climbs
    ∷ unites (even seven 28 7 3 30 (0x89283082877ffff ∷ 0x8928308283bffff ∷ 0x89283082803ffff ∷ 0x89283082807ffff ∷ []))
    (1 ∷ 1 ∷ 1 ∷ 1 ∷ 0 ∷ 0 ∷ 0 ∷ []) (0 ∷ 3 ∷ 0 ∷ 0 ∷ 0 ∷ 0 ∷ 0 ∷ [])
    ∷ unites (even seven 28 7 3 30 (0x89283082877ffff ∷ 0x89283082803ffff ∷ 0x89283082807ffff ∷ 0x8928308280fffff ∷ []))
    (3 ∷ 3 ∷ 3 ∷ 3 ∷ 0 ∷ 0 ∷ 0 ∷ []) (0 ∷ 0 ∷ 1 ∷ 2 ∷ 0 ∷ 0 ∷ 0 ∷ [])
    -- 9: mode, count; held cells valid, unequal, of the target's resolution
    ∷ breaks (two 4 8) [] 0
    ∷ breaks (two 4 8) (put head 0 2 ∷ []) 9
    ∷ breaks (two 4 8) (put head 1 4 ∷ []) 9
    ∷ breaks (two 4 8) (put head 1 3 ∷ put parent 2 2 ∷ []) 9
    ∷ breaks (two 4 8) (put head 1 3 ∷ put cells 2 first ∷ put parent 2 2 ∷ []) 9
    ∷ breaks (two 4 8) (put head 1 3 ∷ put cells 2 under_first ∷ put parent 2 2 ∷ []) 9
    ∷ breaks (two 4 8) (put head 1 3 ∷ put cells 2 third ∷ put parent 2 2 ∷ []) 0
    -- what stands past the held cells is not read
    ∷ breaks (two 4 8) (put cells 2 7 ∷ put parent 2 7 ∷ put rank 2 7 ∷ []) 0
    -- a row's slot: past the pool, free, another's; none though a slot holds the row
    ∷ breaks (two 4 8) (put row_slot 2 12 ∷ []) 9
    ∷ breaks (two 4 8) (put row_slot 2 11 ∷ []) 9
    ∷ breaks (two 4 8) (put row_slot 2 4 ∷ []) 9
    ∷ breaks (two 4 8) (put row_slot 0 0 ∷ []) 9
    -- a slot's row past the table; its cell not held, or not the owner's; its links not inverse, or to a free slot
    ∷ breaks (two 4 8) (put slot_row 10 25 ∷ put prev 10 10 ∷ put next 10 10 ∷ []) 9
    ∷ breaks (two 4 8) (put slot_cell 1 2 ∷ []) 9
    ∷ breaks (two 4 8) (put slot_cell 1 1 ∷ []) 9
    ∷ breaks (two 4 8) (put prev 1 1 ∷ []) 9
    ∷ breaks (two 4 8) (put next 1 1 ∷ []) 9
    ∷ breaks (two 4 8) (put prev 3 10 ∷ put next 3 10 ∷ put prev 10 3 ∷ put next 10 3 ∷ []) 9
    -- a foreign state with a ring of row 8 in slot 0 passes; with links to a free slot or past the pool it does not
    ∷ breaks (two 5 9) (put slot_row 0 9 ∷ put slot_cell 0 1 ∷ put row_slot 8 1 ∷ []) 0
    ∷ breaks (two 5 9) (put slot_row 0 9 ∷ put slot_cell 0 1 ∷ put row_slot 8 1 ∷ put prev 0 10 ∷ put next 0 10 ∷ []) 9
    ∷ breaks (two 5 9) (put slot_row 0 9 ∷ put slot_cell 0 1 ∷ put row_slot 8 1 ∷ put prev 0 11 ∷ put next 0 11 ∷ []) 9
    -- nor with its reverse, row 16, beside it
    ∷ breaks (two 6 10)
    (put slot_row 0 9 ∷ put slot_cell 0 1 ∷ put row_slot 8 1
    ∷ put slot_row 6 17 ∷ put slot_cell 6 1 ∷ put prev 6 6 ∷ put next 6 6 ∷ put row_slot 16 7 ∷ []) 9
    -- a free slot's cell, previous, next; a cell's mark, a row's mark
    ∷ breaks (two 4 8) (put slot_cell 10 1 ∷ []) 9
    ∷ breaks (two 4 8) (put prev 10 1 ∷ []) 9
    ∷ breaks (two 4 8) (put next 10 1 ∷ []) 9
    ∷ breaks (two 4 8) (put cell_mark 2 1 ∷ []) 9
    ∷ breaks (two 4 8) (put row_mark 23 1 ∷ []) 9
    -- a parent not held, or of no higher rank; ranks that add up to too much
    ∷ breaks (two 4 8) (put parent 0 2 ∷ []) 9
    ∷ breaks (two 4 8) (put parent 0 1 ∷ []) 9
    ∷ breaks (two 4 8) (put rank 0 1 ∷ []) 9
    ∷ breaks (two 4 8) (put parent 0 1 ∷ put rank 1 1 ∷ []) 0
    ∷ []

-- mixed mode: a cell of resolution 8 and a hexagon of resolution 9 that shares two edge pairs with it
unfoldable pub coarser : List Example
unfolding on_mixed
coarser =
    surrounds mixed (coarse ∷ beside ∷ []) (20 ∷ []) (1 ∷ []) (0 ∷ [])
    -- in whatever order they come
    ∷ reads (on_mixed 24 (coarse ∷ beside ∷ [])) (outlined 1 (0 ∷ []) (20 ∷ []) (0 ∷ []) (0x3e5727036fa38800 ∷ []))
    ∷ reads (on_mixed 24 (beside ∷ coarse ∷ [])) (outlined 1 (0 ∷ []) (20 ∷ []) (0 ∷ []) (0x3e5727036fa38800 ∷ []))
    ∷ offers (on_mixed 23 (coarse ∷ beside ∷ [])) 7 1
    -- mode 2 means even
    ∷ rejects (in_mode 2 mixed 24 2 2 24 (coarse ∷ [])) 4 0
    -- the place of the cell that lies under the other
    ∷ refuses (on_mixed 24 (coarse ∷ [])) inside 3 1
    ∷ refuses (on_mixed 24 (beside ∷ [])) over_beside 3 0
    ∷ []
