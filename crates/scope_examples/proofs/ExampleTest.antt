-- The test that a worked example holds: that the definitions compute what it says.
-- Assumes nothing.
use Prim.Native.Nat.{ℕ, ◌+◌, ◌-◌, ◌*◌, ◌/◌, ◌%◌, ◌^◌}
use mathlib.Core.Bool.{Bool, true, false, ◌&&◌, ◌||◌, not, cond}
use mathlib.Core.List.{List, [], ◌∷◌, map}
use lib.Dec.{eqb}
use lib.Ieee as Ieee
use lib.Ieee.{binary64}
use lib.ListN.{length, take, drop, get_or, set}
use Rattle.scope.specs.Lists.{head_or, below}
use Rattle.scope.specs.Answers.{refusal_number, refusal_index, refusal_of, index_of, kind_of, verdict_of, polygons_of, rings_of, area_in, Verdict}
use Rattle.scope.specs.Cells.{edge_number, resolution_of}
use Rattle.scope.specs.Table.{row_count_fits}
use Rattle.scope.specs.Memory.{Memory, memory, Output, output, kept_mode}
use Rattle.scope.specs.Calls.{Outcome, Reading, over}
use Rattle.scope_examples.proofs.Computing.{is_cell, is_edge, is_under, walked, summed, no_larger, found, rings_afresh, groups_afresh, lent, space, opened, listed, joined, offer, offer_all, read, dissolved}
use Rattle.scope_examples.proofs.ExampleKinds.{Offers, Shown, refused, Slice, Change, Example, head, cells, parent, rank, cell_mark, slot_row, slot_cell, prev, next, row_slot, row_mark, valid_cells, valid_edges, pentagons, nests, walks, adds, compares, finds, surrounds, row_counts, opens, shortens, misfits, offers, unites, refuses, intrudes, reads, breaks, dissolves, rejects, lists, joins}

-- ---- equality and tests over lists, computed

same : List ℕ → List ℕ → Bool
same [] [] = true
same [] (y ∷ ys) = false
same (x ∷ xs) [] = false
same (x ∷ xs) (y ∷ ys) = eqb x y && same xs ys

all_same : List (List ℕ) → List (List ℕ) → Bool
unfolding same
all_same [] [] = true
all_same [] (l ∷ ls) = false
all_same (k ∷ ks) [] = false
all_same (k ∷ ks) (l ∷ ls) = same k l && all_same ks ls

all_pass : (ℕ → Bool) → List ℕ → Bool
all_pass ok [] = true
all_pass ok (x ∷ l) = ok x && all_pass ok l

-- each two neighbours pass
steps_pass : (ℕ → ℕ → Bool) → ℕ → List ℕ → Bool
steps_pass ok x [] = true
steps_pass ok x (y ∷ l) = ok x y && steps_pass ok y l

sum : List ℕ → ℕ
sum [] = 0
sum (n ∷ l) = n + sum l

is_refusal : Verdict → ℕ → ℕ → Bool
unfolding refusal_number refusal_index refusal_of index_of
is_refusal v number index = eqb (refusal_of v) number && eqb (index_of v) index

slices : Memory → List (List ℕ)
slices m =
    m.head ∷ m.cells ∷ m.parent ∷ m.rank ∷ m.cell_mark ∷ m.slot_row ∷ m.slot_cell ∷ m.prev ∷ m.next ∷ m.row_slot ∷ m.row_mark ∷ []

-- its place in that list
place_of : Slice → ℕ
place_of head = 0
place_of cells = 1
place_of parent = 2
place_of rank = 3
place_of cell_mark = 4
place_of slot_row = 5
place_of slot_cell = 6
place_of prev = 7
place_of next = 8
place_of row_slot = 9
place_of row_mark = 10

remade : List (List ℕ) → Memory
remade ls =
    let l : ℕ → List ℕ = λ k. get_or ls k [] in
    memory (l 0) (l 1) (l 2) (l 3) (l 4) (l 5) (l 6) (l 7) (l 8) (l 9) (l 10)

changed : List Change → List (List ℕ) → List (List ℕ)
unfolding place_of
changed [] ls = ls
changed (c ∷ cs) ls =
    let k = place_of c.slice in
    changed cs (set ls k (set (get_or ls k []) c.place c.value))

-- ---- what is read out

is_one_of : List (List ℕ) → List ℕ → Bool
unfolding same
is_one_of [] l = false
is_one_of (r ∷ rs) l = same r l || is_one_of rs l

-- the rings that start at these places of an edge list, with these lowest rows and lengths, are among rs
are_among : List (List ℕ) → List ℕ → List ℕ → List ℕ → List ℕ → Bool
unfolding is_one_of
are_among rs starts lows [] rows = true
are_among rs [] lows (n ∷ sizes) rows = false
are_among rs (k ∷ starts) [] (n ∷ sizes) rows = false
are_among rs (k ∷ starts) (a ∷ lows) (n ∷ sizes) rows =
    eqb (head_or 0 (drop k rows)) a && is_one_of rs (take n (drop k rows)) && are_among rs starts lows sizes rows

-- no area is shown as NaN
shows : Reading → Output → List (List ℕ) → Shown → Bool
unfolding is_refusal same are_among sum Ieee.to_bits verdict_of kind_of polygons_of rings_of area_in
shows q before rs s =
    is_refusal (verdict_of q.answer) s.refusal s.index
    && eqb (kind_of q.answer) s.kind && eqb (polygons_of q.answer) s.polygons
    && eqb (rings_of q.answer) (length s.lengths) && eqb (Ieee.to_bits binary64 (area_in q.answer)) (head_or 0x7ff8000000000000 s.areas)
    && same q.out.size (over s.lengths before.size) && same q.out.group (over s.groups before.group)
    && same (map (Ieee.to_bits binary64) q.out.area) (over s.areas (map (Ieee.to_bits binary64) before.area))
    && are_among rs q.out.start s.lowest s.lengths q.out.edges
    && same (drop (length s.lengths) q.out.start) (drop (length s.lengths) before.start)
    && same (drop (sum s.lengths) q.out.edges) (drop (sum s.lengths) before.edges)

fresh : Offers → Outcome
unfolding lent opened
fresh r = opened r.table (lent r.table r.slots r.places) r.mode

offered : Offers → Outcome
unfolding fresh offer_all
offered r = offer_all r.table (fresh r).left r.cells

room : Offers → Output
unfolding space
room r = space r.records r.rows

dissolution : Offers → Reading
unfolding lent room dissolved
dissolution r = dissolved r.table (lent r.table r.slots r.places) r.mode r.cells (room r)

-- ---- the test

-- the digits past resolution c of an edge and its edge number as one octal numeral: 13/3 is 0o133
digits : ℕ → ℕ → ℕ
digits c x = x / 2 ^ (3 * (15 - resolution_of x)) % 8 ^ (resolution_of x - c) * 8 + edge_number x

unfoldable pub holds : Example → Bool
unfolding same all_same all_pass steps_pass is_refusal slices place_of remade changed shows fresh offered room digits below is_cell is_edge is_under walked summed no_larger found rings_afresh groups_afresh lent opened listed joined offer read dissolved space dissolution
holds (valid_cells valid invalid) = all_pass is_cell valid && all_pass (λ x. not (is_cell x)) invalid
holds (valid_edges valid invalid) = all_pass is_edge valid && all_pass (λ x. not (is_edge x)) invalid
holds (pentagons bs) = same (below (λ b. not (is_edge (0x11001fffffffffff + b * 2 ^ 45))) 122) bs
holds (nests x under beside) = all_pass (λ a. is_under a x) under && all_pass (λ a. not (is_under a x)) beside
holds (walks x t n es f) =
    let o = walked x t in
    eqb (length o) n && same (take (length es) (map (digits (resolution_of x)) o)) es && same (take (length f) o) f
holds (adds bs b) = eqb (summed bs) b
holds (compares up level) =
    steps_pass (λ x y. no_larger x y && not (no_larger y x)) (head_or 0 up) (drop 1 up)
    && steps_pass (λ x y. no_larger x y && no_larger y x) (head_or 0 level) (drop 1 level)
holds (finds ps a root left) = let h = found ps a in eqb h.root root && same h.parents left
holds (surrounds t cs ls ps gs) = same (map length (rings_afresh t cs)) ls && same (groups_afresh t cs ps) gs
holds (row_counts fit unfit) = all_pass row_count_fits fit && all_pass (λ n. not (row_count_fits n)) unfit
holds (opens t slots places mode number index kept) =
    let o = opened t (lent t slots places) mode in
    is_refusal o.answer number index && eqb (kept_mode o.left) kept
holds (shortens t slots places slice) =
    let k = place_of slice in
    let ls = slices (lent t slots places) in
    let m = remade (set ls k (drop 1 (get_or ls k []))) in
    let o = space 1 1 in
    is_refusal (opened t m 0).answer 10 0 && is_refusal (offer t m 0).answer 10 0
    && is_refusal (verdict_of (read t m o).answer) 10 0 && is_refusal (verdict_of (dissolved t m 0 [] o).answer) 10 0
holds (misfits r) =
    let m = (offered r).left in
    let o = room r in
    let answered : Output → Bool = λ p.
    is_refusal (verdict_of (read r.table m p).answer) 10 0 && is_refusal (verdict_of (dissolved r.table m r.mode r.cells p).answer) 10 0 in
    answered (output o.start (drop 1 o.size) o.group o.area o.edges)
    && answered (output o.start o.size (drop 1 o.group) o.area o.edges)
    && answered (output o.start o.size o.group (drop 1 o.area) o.edges)
holds (offers r number index) = is_refusal (offered r).answer number index
holds (unites r ps rs) = let m = (offered r).left in same m.parent ps && same m.rank rs
holds (refuses r x number index) =
    let m = (offered r).left in
    let o = offer r.table m x in
    is_refusal o.answer number index && all_same (slices o.left) (slices m)
holds (intrudes t slots places x number index) =
    let m = lent t slots places in
    let o = offer t m x in
    is_refusal o.answer number index && all_same (slices o.left) (slices m)
holds (reads r s) =
    let m = (offered r).left in
    let q = read r.table m (room r) in
    shows q (room r) (rings_afresh r.table r.cells) s && all_same (slices q.left) (slices m)
holds (breaks r cs number) =
    let q = read r.table (remade (changed cs (slices (offered r).left))) (room r) in
    is_refusal (verdict_of q.answer) number 0
holds (dissolves r s) =
    let full = (offered r).left in
    let empty = (fresh r).left in
    let d = dissolution r in
    shows d (room r) (rings_afresh r.table r.cells) s
    && all_same (slices d.left) (slices (cond (eqb s.refusal 0) full empty))
holds (rejects r number index) =
    let d = dissolution r in
    shows d (room r) [] (refused number index) && all_same (slices d.left) (slices (lent r.table r.slots r.places))
holds (lists mode target capacity cs number index) = is_refusal (listed mode target capacity cs) number index
holds (joins mode target capacity cs x number index) = is_refusal (joined mode target capacity cs x) number index

unfoldable pub every : List Example → Bool
unfolding holds
every [] = true
every (e ∷ es) = holds e && every es
