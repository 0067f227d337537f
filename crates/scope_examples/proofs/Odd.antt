-- A small lent table that no globe has, for examples: the six edges of each of four hexagons of resolution 0, the first to the fourth. The row
-- of edge e (1 to 6) of hexagon k (0 to 3) is 4·(e − 1) + k. Each hexagon holds one pair of edges that are each other's reverse: edges 3 and 5
-- of the first and the third, 3 and 4 of the second and the fourth. The other edges of the first are paired with the same of the third, those
-- of the second with the same of the fourth.
-- Assumes nothing.
use Prim.Native.Nat.{ℕ}
use mathlib.Core.List.{List, [], ◌∷◌}
use lib.Ieee.{Float, binary64, of_bits}
use lib.ListN.{replicate, set, take}
use Rattle.scope.specs.Table.{Table, table}

-- ---- cells: the four hexagons, one without edges in the table, two cells under the first and one under the second

unfoldable pub first : ℕ
first = 0x08001fffffffffff

unfoldable pub second : ℕ
second = 0x08003fffffffffff

unfoldable pub third : ℕ
third = 0x08005fffffffffff

unfoldable pub fourth : ℕ
fourth = 0x08007fffffffffff

unfoldable pub absent : ℕ
absent = 0x0800bfffffffffff

unfoldable pub under_first : ℕ
under_first = 0x081003ffffffffff

unfoldable pub also_under_first : ℕ
also_under_first = 0x081007ffffffffff

unfoldable pub under_second : ℕ
under_second = 0x081023ffffffffff

-- ---- the table

unfoldable pub edge_numbers : List ℕ
edge_numbers =
    0x11001fffffffffff ∷ 0x11003fffffffffff ∷ 0x11005fffffffffff ∷ 0x11007fffffffffff
    ∷ 0x12001fffffffffff ∷ 0x12003fffffffffff ∷ 0x12005fffffffffff ∷ 0x12007fffffffffff
    ∷ 0x13001fffffffffff ∷ 0x13003fffffffffff ∷ 0x13005fffffffffff ∷ 0x13007fffffffffff
    ∷ 0x14001fffffffffff ∷ 0x14003fffffffffff ∷ 0x14005fffffffffff ∷ 0x14007fffffffffff
    ∷ 0x15001fffffffffff ∷ 0x15003fffffffffff ∷ 0x15005fffffffffff ∷ 0x15007fffffffffff
    ∷ 0x16001fffffffffff ∷ 0x16003fffffffffff ∷ 0x16005fffffffffff ∷ 0x16007fffffffffff ∷ []

unfoldable pub reverse_rows : List ℕ
reverse_rows = 2 ∷ 3 ∷ 0 ∷ 1 ∷ 6 ∷ 7 ∷ 4 ∷ 5 ∷ 16 ∷ 13 ∷ 18 ∷ 15 ∷ 14 ∷ 9 ∷ 12 ∷ 11 ∷ 8 ∷ 19 ∷ 10 ∷ 17 ∷ 22 ∷ 23 ∷ 20 ∷ 21 ∷ []

-- every area term is 1, but that of row 0 is 2
unfoldable pub terms : List Float
terms = of_bits binary64 0x4000000000000000 ∷ replicate 23 (of_bits binary64 0x3ff0000000000000)

unfoldable pub odd : Table
unfolding edge_numbers reverse_rows terms
odd = table edge_numbers reverse_rows terms

-- edge 1 of the first two hexagons, each the other's reverse; and the first of these alone
unfoldable pub couple : Table
unfolding edge_numbers terms
couple = table (take 2 edge_numbers) (1 ∷ 0 ∷ []) (take 2 terms)

unfoldable pub single : Table
unfolding edge_numbers terms
single = table (take 1 edge_numbers) (0 ∷ []) (take 1 terms)

-- ---- tables that break a rule: the last reverse or area term is missing; one row's edge, reverse or area term is another

unfoldable pub few_reverses : Table
unfolding edge_numbers reverse_rows terms
few_reverses = table edge_numbers (take 23 reverse_rows) terms

unfoldable pub few_terms : Table
unfolding edge_numbers reverse_rows terms
few_terms = table edge_numbers reverse_rows (take 23 terms)

unfoldable pub with_edge : ℕ → ℕ → Table
unfolding edge_numbers reverse_rows terms
with_edge i x = table (set edge_numbers i x) reverse_rows terms

unfoldable pub with_reverse : ℕ → ℕ → Table
unfolding edge_numbers reverse_rows terms
with_reverse i r = table edge_numbers (set reverse_rows i r) terms

unfoldable pub with_term : ℕ → ℕ → Table
unfolding edge_numbers reverse_rows terms
with_term i bits = table edge_numbers reverse_rows (set terms i (of_bits binary64 bits))
