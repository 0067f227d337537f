-- The worked examples of document 01, and those of MoreExamples, proved of the definitions by one statement over a list that antt computes.
-- Assumes nothing.
use Prim.Native.Nat.{ℕ}
use mathlib.Core.List.{List, [], ◌∷◌, ◌++◌}
use lib.Dec.{T}
use lib.ListN.{take, drop}
use Rattle.scope_examples.proofs.ExampleKinds.{Example, walks, adds, surrounds, offers, refuses, reads, dissolves}
use Rattle.scope_examples.proofs.ExampleKinds.{Offers, even, nothing, outlined}
use Rattle.scope_examples.proofs.ExampleTest.{every}
use Rattle.scope_examples.proofs.MoreExamples.{bounds, states, coarser}
use Rattle.scope_examples.proofs.Seven.{seven, centre, around}
use Rattle.scope_examples.proofs.Mixed.{mixed, coarse, inside, beside, over_beside}
use Rattle.scope_examples.proofs.Odd.{odd, couple, single, few_reverses, few_terms, with_edge, with_reverse, with_term, first, second, third, absent, under_first, also_under_first, under_second}

on_seven : ℕ → List ℕ → Offers
on_seven slots cs = even seven slots 7 3 30 cs

-- T3's edges, by digit and edge number
sides : List ℕ
sides =
    0o13 ∷ 0o11 ∷ 0o15 ∷ 0o51 ∷ 0o55 ∷ 0o54 ∷ 0o45 ∷ 0o44 ∷ 0o46 ∷ 0o64 ∷ 0o66 ∷ 0o62 ∷ 0o26 ∷ 0o22 ∷ 0o23 ∷ 0o32 ∷ 0o33 ∷ 0o31 ∷ []

documented : List Example
unfolding on_seven sides
documented =
    -- T1 to T6
    walks 0x08001fffffffffff 0 6 (3 ∷ 1 ∷ 5 ∷ 4 ∷ 6 ∷ 2 ∷ []) (0x13001fffffffffff ∷ [])
    ∷ walks 0x08009fffffffffff 0 5 (3 ∷ 5 ∷ 4 ∷ 6 ∷ 2 ∷ []) []
    ∷ walks 0x08001fffffffffff 1 18 sides (0x131007ffffffffff ∷ [])
    ∷ walks 0x08009fffffffffff 1 15 (drop 3 sides) []
    ∷ walks 0x08001fffffffffff 2 54 (0o133 ∷ 0o131 ∷ 0o113 ∷ 0o111 ∷ 0o115 ∷ 0o151 ∷ []) []
    ∷ walks 0x081003ffffffffff 0 0 [] []
    -- T7: two hexagons sharing one edge pair
    ∷ surrounds seven (take 2 around) (10 ∷ []) (0 ∷ 1 ∷ []) (0 ∷ 0 ∷ [])
    ∷ reads (on_seven 28 (take 2 around)) (outlined 1 (5 ∷ []) (10 ∷ []) (0 ∷ []) (0x3e3726950b290000 ∷ []))
    ∷ dissolves (on_seven 28 (take 2 around)) (outlined 1 (5 ∷ []) (10 ∷ []) (0 ∷ []) (0x3e3726950b290000 ∷ []))
    -- T8: six hexagons around an absent one
    ∷ surrounds seven around (18 ∷ 6 ∷ []) (0 ∷ 1 ∷ 2 ∷ 3 ∷ 4 ∷ 5 ∷ []) (0 ∷ 0 ∷ 0 ∷ 0 ∷ 0 ∷ 0 ∷ [])
    ∷ reads (on_seven 28 around) (outlined 1 (1 ∷ 2 ∷ []) (18 ∷ 6 ∷ []) (0 ∷ 0 ∷ []) (0x3e5441fddeef6000 ∷ 0x402921fb542d063f ∷ []))
    ∷ offers (on_seven 27 around) 7 5
    -- T9: then the centre
    ∷ surrounds seven (around ++ (centre ∷ [])) (18 ∷ []) (0 ∷ 1 ∷ 2 ∷ 3 ∷ 4 ∷ 5 ∷ 6 ∷ []) (0 ∷ 0 ∷ 0 ∷ 0 ∷ 0 ∷ 0 ∷ 0 ∷ [])
    ∷ reads (on_seven 30 (around ++ (centre ∷ []))) (outlined 1 (1 ∷ []) (18 ∷ []) (0 ∷ []) (0x3e5441fddeef6000 ∷ []))
    ∷ offers (on_seven 29 (around ++ (centre ∷ []))) 7 6
    -- T10
    ∷ adds (0x3ff0000000000000 ∷ 0x3ca0000000000000 ∷ []) 0x3fefffffffffffff
    -- the empty list, and a newly opened state
    ∷ dissolves (on_seven 28 []) nothing
    ∷ reads (on_seven 28 []) nothing
    -- the replay of an accepted cell
    ∷ refuses (on_seven 28 (take 2 around)) 0x89283082877ffff 3 2
    ∷ []

examples : List Example
unfolding documented bounds states coarser
examples = documented ++ bounds ++ states ++ coarser

examples_hold : T (every examples)
unfolding every examples seven centre around mixed coarse inside beside over_beside odd couple single few_reverses few_terms with_edge with_reverse with_term first second third absent under_first also_under_first under_second
examples_hold = tt
