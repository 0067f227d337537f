-- The real table of T7 to T9, resolution 9: the edges of the hexagon 8928308280fffff, of its six neighbours, and the reverses of these edges.
-- Assumes nothing.
use Prim.Native.Nat.{ℕ}
use mathlib.Core.List.{List, [], ◌∷◌, map}
use lib.Ieee.{binary64, of_bits}
use Rattle.scope.specs.Table.{Table, table}

unfoldable pub edge_numbers : List ℕ
edge_numbers =
    0x119283082803ffff ∷ 0x119283082807ffff ∷ 0x11928308280bffff ∷ 0x11928308280fffff ∷ 0x11928308281bffff ∷ 0x11928308283bffff ∷
    0x119283082847ffff ∷ 0x119283082857ffff ∷ 0x119283082873ffff ∷ 0x119283082877ffff ∷ 0x129283082803ffff ∷ 0x129283082807ffff ∷
    0x12928308280bffff ∷ 0x12928308280fffff ∷ 0x129283082817ffff ∷ 0x129283082833ffff ∷ 0x12928308283bffff ∷ 0x129283082873ffff ∷
    0x129283082877ffff ∷ 0x1292830828abffff ∷ 0x139283082803ffff ∷ 0x139283082807ffff ∷ 0x13928308280bffff ∷ 0x13928308280fffff ∷
    0x139283082813ffff ∷ 0x139283082817ffff ∷ 0x13928308281bffff ∷ 0x13928308283bffff ∷ 0x139283082873ffff ∷ 0x139283082877ffff ∷
    0x149283082803ffff ∷ 0x149283082807ffff ∷ 0x14928308280bffff ∷ 0x14928308280fffff ∷ 0x14928308282bffff ∷ 0x14928308283bffff ∷
    0x149283082863ffff ∷ 0x149283082867ffff ∷ 0x149283082873ffff ∷ 0x149283082877ffff ∷ 0x159283082803ffff ∷ 0x159283082807ffff ∷
    0x15928308280bffff ∷ 0x15928308280fffff ∷ 0x15928308283bffff ∷ 0x159283082847ffff ∷ 0x159283082863ffff ∷ 0x159283082873ffff ∷
    0x159283082877ffff ∷ 0x15928308287bffff ∷ 0x169283082803ffff ∷ 0x169283082807ffff ∷ 0x16928308280bffff ∷ 0x16928308280fffff ∷
    0x169283082823ffff ∷ 0x16928308282bffff ∷ 0x169283082833ffff ∷ 0x16928308283bffff ∷ 0x169283082873ffff ∷ 0x169283082877ffff ∷ []

unfoldable pub reverse_rows : List ℕ
reverse_rows =
    51 ∷ 56 ∷ 53 ∷ 57 ∷ 50 ∷ 54 ∷ 58 ∷ 52 ∷ 59 ∷ 55 ∷ 42 ∷ 43 ∷ 45 ∷ 47 ∷ 40 ∷ 44 ∷ 48 ∷ 49 ∷ 46 ∷ 41 ∷ 33 ∷ 35 ∷ 38 ∷ 39 ∷ 30 ∷ 31 ∷ 32 ∷
    34 ∷ 36 ∷ 37 ∷ 24 ∷ 25 ∷ 26 ∷ 20 ∷ 27 ∷ 21 ∷ 28 ∷ 29 ∷ 22 ∷ 23 ∷ 14 ∷ 19 ∷ 10 ∷ 11 ∷ 15 ∷ 12 ∷ 18 ∷ 13 ∷ 16 ∷ 17 ∷ 4 ∷ 0 ∷ 7 ∷ 2 ∷ 5 ∷
    9 ∷ 1 ∷ 3 ∷ 6 ∷ 8 ∷ []

-- the area terms, by their bits
unfoldable pub area_bits : List ℕ
area_bits =
    0x3eff9d51cfe63cbd ∷ 0x3eff9ce32dcd4466 ∷ 0x3eff9e300b020d8d ∷ 0x3eff9dc16b23b554 ∷ 0x3eff9dc06c1ac085 ∷ 0x3eff9d52c5573376 ∷
    0x3eff9f0e4809313c ∷ 0x3eff9e9ea4f8adbc ∷ 0x3eff9e9faa624b63 ∷ 0x3eff9e3106da18a8 ∷ 0x3f02960700c9919c ∷ 0x3f02963a53437b65 ∷
    0x3f02961b62a4ad01 ∷ 0x3f02964eb83eb300 ∷ 0x3f0295f29be6b5f9 ∷ 0x3f02966da314116f ∷ 0x3f0296820b310325 ∷ 0x3f0296631a33bf81 ∷
    0x3f02969670449492 ∷ 0x3f029625eb3eeb3c ∷ 0x3f113280906f3ad7 ∷ 0x3f11327e90c0ecdd ∷ 0x3f1132c251286001 ∷ 0x3f1132c0539b3526 ∷
    0x3f113240cdaaac87 ∷ 0x3f11323ecead0d22 ∷ 0x3f1132828d4d573c ∷ 0x3f1132be533ea1d4 ∷ 0x3f113302156ba225 ∷ 0x3f113300172e9868 ∷
    0xbf113240cdaaac87 ∷ 0xbf11323ecead0d22 ∷ 0xbf1132828d4d573c ∷ 0xbf113280906f3ad7 ∷ 0xbf1132be533ea1d4 ∷ 0xbf11327e90c0ecdd ∷
    0xbf113302156ba225 ∷ 0xbf113300172e9868 ∷ 0xbf1132c251286001 ∷ 0xbf1132c0539b3526 ∷ 0xbf0295f29be6b5f9 ∷ 0xbf029625eb3eeb3c ∷
    0xbf02960700c9919c ∷ 0xbf02963a53437b65 ∷ 0xbf02966da314116f ∷ 0xbf02961b62a4ad01 ∷ 0xbf02969670449492 ∷ 0xbf02964eb83eb300 ∷
    0xbf0296820b310325 ∷ 0xbf0296631a33bf81 ∷ 0xbeff9dc06c1ac085 ∷ 0xbeff9d51cfe63cbd ∷ 0xbeff9e9ea4f8adbc ∷ 0xbeff9e300b020d8d ∷
    0xbeff9d52c5573376 ∷ 0xbeff9e3106da18a8 ∷ 0xbeff9ce32dcd4466 ∷ 0xbeff9dc16b23b554 ∷ 0xbeff9f0e4809313c ∷ 0xbeff9e9faa624b63 ∷ []

unfoldable pub seven : Table
unfolding edge_numbers reverse_rows area_bits
seven = table edge_numbers reverse_rows (map (of_bits binary64) area_bits)

unfoldable pub centre : ℕ
centre = 0x8928308280fffff

-- The six neighbours, in the order around the centre.
unfoldable pub around : List ℕ
around = 0x89283082877ffff ∷ 0x8928308283bffff ∷ 0x89283082807ffff ∷ 0x89283082803ffff ∷ 0x8928308280bffff ∷ 0x89283082873ffff ∷ []
