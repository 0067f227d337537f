-- The byte formats and the two entry points computed, on a small table: what is written, what is refused, what stays.
-- Assumes nothing.
use Prim.Native.Nat.{ℕ, ◌+◌, ◌-◌, ◌*◌, ◌/◌, ◌%◌, ◌^◌}
use mathlib.Core.Path.{◌≡◌, refl}
use mathlib.Core.Bool.{Bool, true, false, cond}
use mathlib.Core.List.{List, [], ◌∷◌, ◌++◌}
use lib.Ieee as Ieee
use lib.Dec.{eqb}
use lib.ListN.{set, take, replicate}
use Rattle.scope.specs.Lists as Lists
use Rattle.scope.specs.Lists.{at, tabulate_from}
use Rattle.scope.specs.Answers as Answers
use Rattle.scope.specs.Bytes as Bytes
use Rattle.scope.specs.Bytes.{Left, u32_at, u64_at, bytes32, bytes64, joined, table_in, state_in, state_bytes, table_fits, list_fits, room_fits, zone_dissolving, zone_standing}
use Rattle.scope_examples.proofs.Computing as Computing
use Rattle.scope_examples.proofs.Odd.{edge_numbers, reverse_rows}

-- ---- the definitions, with all that they compute with

standing : List ℕ → List ℕ → List ℕ → ℕ → ℕ → ℕ → ℕ → Left
unfolding Computing.read Lists.total tabulate_from Ieee.to_bits Answers.refusal_number Answers.refusal_index Answers.refusal_of Answers.index_of Answers.kind_of Answers.verdict_of Answers.polygons_of Answers.rings_of joined table_in state_in state_bytes Bytes.result_of Bytes.area_bits Bytes.edge_count Bytes.read_bytes Bytes.cleared_output Bytes.storing Bytes.showing Bytes.calling zone_standing
standing t s o slots places call value = zone_standing t s o slots places call value

dissolve : List ℕ → List ℕ → List ℕ → ℕ → ℕ → ℕ → Left
unfolding standing Computing.dissolved Bytes.cleared zone_dissolving
dissolve t cs o mode slots places = zone_dissolving t cs o mode slots places

-- ---- what they are computed on: a small lent table, the edges of two hexagons of resolution 0, each paired with the same edge of the other

first : ℕ
first = 0x08001fffffffffff

second : ℕ
second = 0x08003fffffffffff

-- the edge of row i: edge number i / 2 + 1 of the first for an even row, of the second for an odd one
rows : List ℕ
unfolding joined first
rows = joined (λ i. bytes64 (first + 2 ^ 59 + (i / 2 + 1) * 2 ^ 56 + i % 2 * 2 ^ 45) ++ bytes32 (i + 1 - i % 2 * 2) ++ bytes64 0x3ff0000000000000) 12

-- One hexagon as bytes: an outline of one polygon with one ring of six edges, whose area is 6.
hexagon : List ℕ
unfolding joined
hexagon =
    2 ∷ 0 ∷ 0 ∷ 0 ∷ 1 ∷ 0 ∷ 0 ∷ 0 ∷ 1 ∷ 0 ∷ 0 ∷ 0 ∷ 6 ∷ 0 ∷ 0 ∷ 0 ∷ 0 ∷ 0 ∷ 0 ∷ 0 ∷ 0 ∷ 0 ∷ 0x18 ∷ 0x40 ∷
    0 ∷ 0 ∷ 0 ∷ 0 ∷ 6 ∷ 0 ∷ 0 ∷ 0 ∷ 0 ∷ 0 ∷ 0 ∷ 0 ∷ 0 ∷ 0 ∷ 0 ∷ 0 ∷ 0 ∷ 0 ∷ 0x18 ∷ 0x40 ∷
    joined (λ i. bytes32 (at (0 ∷ 8 ∷ 6 ∷ 10 ∷ 2 ∷ 4 ∷ []) i)) 6

lent : List ℕ
lent = replicate 70 7

-- ---- numbers

numbers : List ℕ × List ℕ × ℕ × ℕ
numbers = (bytes32 0x01020304, bytes64 0x0102030405060708, u32_at (0 ∷ 4 ∷ 3 ∷ 2 ∷ 1 ∷ []) 1, u64_at (8 ∷ 7 ∷ 6 ∷ 5 ∷ 4 ∷ 3 ∷ 2 ∷ 1 ∷ []) 0)

numbers_are : numbers ≡ (4 ∷ 3 ∷ 2 ∷ 1 ∷ [], 8 ∷ 7 ∷ 6 ∷ 5 ∷ 4 ∷ 3 ∷ 2 ∷ 1 ∷ [], 0x01020304, 0x0102030405060708)
unfolding numbers
numbers_are = refl

-- A table of 1,024 rows fits, one row more or a part of a row doesn't; nor do 257 cells, 1,025 slots or 257 places.
limits : List Bool
limits =
    table_fits (replicate 20480 0) ∷ table_fits (replicate 20500 0) ∷ table_fits (replicate 1219 0) ∷ list_fits (replicate 2048 0) ∷ list_fits (replicate 2056 0)
    ∷ list_fits (replicate 12 0) ∷ room_fits 1024 256 ∷ room_fits 1025 256 ∷ room_fits 1024 257 ∷ []

limits_are : limits ≡ true ∷ false ∷ false ∷ true ∷ false ∷ false ∷ true ∷ false ∷ false ∷ []
unfolding limits
limits_are = refl

-- ---- dissolve

-- One hexagon; what lies past the written part stays. No cell, and both, which cancel each other: the kind, and zeros after it.
dissolved : List Left
unfolding dissolve rows lent first second
dissolved =
    dissolve rows (bytes64 first) lent 0 12 2 ∷ dissolve rows [] lent 2 12 2 ∷ dissolve rows (bytes64 first ++ bytes64 second) lent 1 12 2 ∷ []

dissolved_is : dissolved ≡ record { result = 0; state = []; out = hexagon ++ (7 ∷ 7 ∷ []) }
    ∷ record { result = 0; state = []; out = replicate 24 0 ++ replicate 46 7 }
    ∷ record { result = 0; state = []; out = 1 ∷ replicate 23 0 ++ replicate 46 7 } ∷ []
unfolding dissolved lent hexagon
dissolved_is = refl

-- An output one byte too short, a part of a row, a part of a cell, a mode above 2, no slot; a NaN's pattern as the area term of row 5; equal
-- cells; too few slots.
refused : List Left
unfolding dissolve rows lent first second
refused =
    dissolve rows (bytes64 first) (take 67 lent) 0 12 2 ∷ dissolve (0 ∷ rows) (bytes64 first) lent 0 12 2 ∷ dissolve rows (0 ∷ bytes64 first) lent 0 12 2
    ∷ dissolve rows (bytes64 first) lent 3 12 2 ∷ dissolve rows (bytes64 first) lent 0 0 2
    ∷ dissolve (set rows 119 0x7f) (bytes64 first) lent 0 12 2 ∷ dissolve rows (bytes64 first ++ bytes64 first) lent 0 12 2
    ∷ dissolve rows (bytes64 first ++ bytes64 second) lent 0 11 2 ∷ []

untouched : ℕ → Left
unfolding lent
untouched n = record { result = n; state = []; out = lent }

refused_is : refused ≡ record { result = 10 * 2 ^ 32; state = []; out = take 67 lent }
    ∷ untouched (10 * 2 ^ 32) ∷ untouched (10 * 2 ^ 32) ∷ untouched (10 * 2 ^ 32) ∷ untouched (10 * 2 ^ 32)
    ∷ untouched (1 * 2 ^ 32 + 5) ∷ untouched (3 * 2 ^ 32 + 1) ∷ untouched (7 * 2 ^ 32 + 1) ∷ []
unfolding refused lent untouched
refused_is = refl

-- ---- a standing state of 12 slots and 2 places: 8 + 40 + 192 + 96 bytes

call : List ℕ → ℕ → ℕ → Left
unfolding standing rows lent
call state number value = standing rows state lent 12 2 number value

-- Opened in mixed mode: the mode, no cell, everything else cleared.
opened_is : call (replicate 336 7) 0 1 ≡ record { result = 0; state = 1 ∷ replicate 335 0; out = lent }
unfolding call lent
opened_is = refl

-- With the first hexagon offered: the cell, its slots' rows plus one, cells, and links, the rows' slots plus one.
held : List ℕ
unfolding joined first
held =
    bytes32 0 ++ bytes32 1 ++ bytes64 first ++ replicate 8 0 ++ replicate 24 0
    ++ joined (λ i. bytes32 (at (5 ∷ 1 ∷ 9 ∷ 7 ∷ 11 ∷ 3 ∷ []) i)) 6 ++ replicate 24 0 ++ replicate 48 0
    ++ joined (λ i. bytes32 (at (5 ∷ 0 ∷ 1 ∷ 2 ∷ 3 ∷ 4 ∷ []) i)) 6 ++ replicate 24 0
    ++ joined (λ i. bytes32 (at (1 ∷ 2 ∷ 3 ∷ 4 ∷ 5 ∷ 0 ∷ []) i)) 6 ++ replicate 24 0
    ++ joined (λ i. bytes32 (at (2 ∷ 0 ∷ 6 ∷ 0 ∷ 1 ∷ 0 ∷ 4 ∷ 0 ∷ 3 ∷ 0 ∷ 5 ∷ 0 ∷ []) i)) 12 ++ replicate 48 0

offered_is : call (replicate 336 0) 1 first ≡ record { result = 0; state = held; out = lent }
unfolding call lent held first joined
offered_is = refl

-- With the second offered too every pair cancels: both cells, their parents, their ranks, and all else cleared.
both_is : call held 1 second ≡ record {
  result = 0;
  state = bytes32 0 ++ bytes32 2 ++ bytes64 first ++ bytes64 second ++ bytes32 1 ++ bytes32 1 ++ bytes32 0 ++ bytes32 1 ++ replicate 296 0;
  out = lent;
}
unfolding call lent held first second joined
both_is = refl

-- Read out, it is what dissolve writes. The same cell again is refused by 3 at place 1, a state of another length and an unknown call by 10.
called : List Left
unfolding call held first joined
called = call held 2 0 ∷ call held 1 first ∷ call (0 ∷ held) 1 first ∷ call held 3 0 ∷ []

called_is : called ≡ record { result = 0; state = held; out = hexagon ++ (7 ∷ 7 ∷ []) } ∷ record { result = 3 * 2 ^ 32 + 1; state = held; out = lent }
    ∷ record { result = 10 * 2 ^ 32; state = 0 ∷ held; out = lent } ∷ record { result = 10 * 2 ^ 32; state = held; out = lent } ∷ []
unfolding called held first lent joined hexagon
called_is = refl

-- ---- four rings in two polygons: the two hexagons of the small table Odd that hold a pair of their own

odd_rows : List ℕ
unfolding joined edge_numbers reverse_rows
odd_rows = joined (λ i. bytes64 (at edge_numbers i) ++ bytes32 (at reverse_rows i) ++ bytes64 (cond (eqb i 0) 0x4000000000000000 0x3ff0000000000000)) 24

-- Two polygons, four rings, eight edges, the first outer area 2; start, length, group and area of each ring; the edges.
four_rings : List ℕ
unfolding joined
four_rings =
    bytes32 2 ++ bytes32 2 ++ bytes32 4 ++ bytes32 8 ++ bytes64 0x4000000000000000
    ++ bytes32 0 ++ bytes32 1 ++ bytes32 1 ++ bytes64 0x4000000000000000
    ++ bytes32 1 ++ bytes32 3 ++ bytes32 1 ++ bytes64 0x4008000000000000
    ++ bytes32 4 ++ bytes32 2 ++ bytes32 0 ++ bytes64 0x4000000000000000
    ++ bytes32 6 ++ bytes32 2 ++ bytes32 0 ++ bytes64 0x4000000000000000
    ++ joined (λ i. bytes32 (at (0 ∷ 4 ∷ 12 ∷ 20 ∷ 1 ∷ 17 ∷ 5 ∷ 21 ∷ []) i)) 8

rings_are : dissolve odd_rows (bytes64 second ++ bytes64 first) (replicate 136 7) 0 10 3 ≡ record { result = 0; state = []; out = four_rings }
unfolding dissolve odd_rows four_rings first second joined edge_numbers reverse_rows
rings_are = refl
