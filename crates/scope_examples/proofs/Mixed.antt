-- A real table for mixed mode, resolution 9: the outline of the cell 8828308281fffff of resolution 8, the edges of the hexagon 8928308283bffff
-- beside it, and the reverses of these edges.
-- Assumes nothing.
use Prim.Native.Nat.{ℕ}
use mathlib.Core.List.{List, [], ◌∷◌, map}
use lib.Ieee.{binary64, of_bits}
use Rattle.scope.specs.Table.{Table, table}

unfoldable pub edge_numbers : List ℕ
edge_numbers =
    0x119283082807ffff ∷ 0x11928308280fffff ∷ 0x119283082817ffff ∷ 0x11928308283bffff ∷ 0x119283082857ffff ∷ 0x1192830828c7ffff ∷
    0x1192830828cfffff ∷ 0x12928308280bffff ∷ 0x12928308280fffff ∷ 0x12928308281bffff ∷ 0x129283082833ffff ∷ 0x12928308283bffff ∷
    0x12928308288fffff ∷ 0x1292830828abffff ∷ 0x1292830828bbffff ∷ 0x139283082807ffff ∷ 0x13928308280bffff ∷ 0x13928308280fffff ∷
    0x13928308283bffff ∷ 0x13928308288bffff ∷ 0x13928308288fffff ∷ 0x1392830828c7ffff ∷ 0x149283082813ffff ∷ 0x149283082817ffff ∷
    0x14928308281bffff ∷ 0x14928308282bffff ∷ 0x14928308283bffff ∷ 0x149283082873ffff ∷ 0x149283082877ffff ∷ 0x159283082807ffff ∷
    0x159283082813ffff ∷ 0x159283082817ffff ∷ 0x15928308283bffff ∷ 0x159283082847ffff ∷ 0x159283082857ffff ∷ 0x159283082873ffff ∷
    0x159283082877ffff ∷ 0x16928308280bffff ∷ 0x169283082813ffff ∷ 0x16928308281bffff ∷ 0x169283082823ffff ∷ 0x169283082833ffff ∷
    0x16928308283bffff ∷ 0x1692830828abffff ∷ []

unfoldable pub reverse_rows : List ℕ
reverse_rows =
    41 ∷ 42 ∷ 43 ∷ 40 ∷ 37 ∷ 38 ∷ 39 ∷ 33 ∷ 35 ∷ 34 ∷ 32 ∷ 36 ∷ 30 ∷ 29 ∷ 31 ∷ 26 ∷ 27 ∷ 28 ∷ 25 ∷ 22 ∷ 23 ∷ 24 ∷ 19 ∷ 20 ∷ 21 ∷ 18 ∷ 15 ∷
    16 ∷ 17 ∷ 13 ∷ 12 ∷ 14 ∷ 10 ∷ 7 ∷ 9 ∷ 8 ∷ 11 ∷ 4 ∷ 5 ∷ 6 ∷ 3 ∷ 0 ∷ 1 ∷ 2 ∷ []

-- the area terms, by their bits
unfoldable pub area_bits : List ℕ
area_bits =
    0x3eff9ce32dcd4466 ∷ 0x3eff9dc16b23b554 ∷ 0x3eff9c7396b5ccbc ∷ 0x3eff9d52c5573376 ∷ 0x3eff9e9ea4f8adbc ∷ 0x3eff9d50cdb2dd96 ∷
    0x3eff9e2f0267946b ∷ 0x3f02961b62a4ad01 ∷ 0x3f02964eb83eb300 ∷ 0x3f0295d3aba7f875 ∷ 0x3f02966da314116f ∷ 0x3f0296820b310325 ∷
    0x3f0295aae5191927 ∷ 0x3f029625eb3eeb3c ∷ 0x3f0295de33fa897f ∷ 0x3f11327e90c0ecdd ∷ 0x3f1132c251286001 ∷ 0x3f1132c0539b3526 ∷
    0x3f1132be533ea1d4 ∷ 0x3f1132010b4e5ba5 ∷ 0x3f1131ff0cffcc06 ∷ 0x3f113242c9d9bc73 ∷ 0xbf1132010b4e5ba5 ∷ 0xbf1131ff0cffcc06 ∷
    0xbf113242c9d9bc73 ∷ 0xbf1132be533ea1d4 ∷ 0xbf11327e90c0ecdd ∷ 0xbf1132c251286001 ∷ 0xbf1132c0539b3526 ∷ 0xbf029625eb3eeb3c ∷
    0xbf0295aae5191927 ∷ 0xbf0295de33fa897f ∷ 0xbf02966da314116f ∷ 0xbf02961b62a4ad01 ∷ 0xbf0295d3aba7f875 ∷ 0xbf02964eb83eb300 ∷
    0xbf0296820b310325 ∷ 0xbeff9e9ea4f8adbc ∷ 0xbeff9d50cdb2dd96 ∷ 0xbeff9e2f0267946b ∷ 0xbeff9d52c5573376 ∷ 0xbeff9ce32dcd4466 ∷
    0xbeff9dc16b23b554 ∷ 0xbeff9c7396b5ccbc ∷ []

unfoldable pub mixed : Table
unfolding edge_numbers reverse_rows area_bits
mixed = table edge_numbers reverse_rows (map (of_bits binary64) area_bits)

unfoldable pub coarse : ℕ
coarse = 0x8828308281fffff

-- a cell under it, the hexagon beside it, and the cell that this one lies under
unfoldable pub inside : ℕ
inside = 0x8928308280fffff

unfoldable pub beside : ℕ
beside = 0x8928308283bffff

unfoldable pub over_beside : ℕ
over_beside = 0x8828308283fffff
