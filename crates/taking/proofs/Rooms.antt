-- Room for the rows of an outline.
--     room_all       an array with a place for each row of the table has it
--     room_few       one with 4,096 places has it where few suffice
-- Assumes nothing.
use mathlib.Core.Path.{◌≡◌, ap, subst}
use mathlib.Core.Bool.{Bool, true, false, ◌&&◌, ◌||◌, cond}
use mathlib.Core.List.{List}
use mathlib.Core.Logic.{⊎_elim}
use Prim.Native.Nat.{ℕ, ◌+◌, ◌-◌, ◌*◌, ◌^◌, ◌<◌, ◌≤◌}
use native.Mathlib.Nat.{pow-le-pow_right, zero-lt-suc}
use native.Mathlib.Omega.{arith}
use lib.Dec.{ltb}
use lib.ListN.{length}
use borrow.Author.Tests.{leb-true, lt-leb}
use Rattle.scope.specs.Lists.{at, passes}
use Rattle.scope.specs.Cells.{resolution_of, is_pentagon}
use Rattle.scope.specs.Walk.{outline}
use Rattle.scope.proofs.Tests.{le_or_lt, and_right}
use Rattle.scope.proofs.Scan.{passes_at}
use Rattle.scope.proofs.WalkCounts.{outline_coarser, outline_count}
use Rattle.taking.specs.Outlines.{Room, near_at, few_suffice}

pub room_all : {es : List ℕ} {x : ℕ} {rows : List ℕ} → length es ≤ length rows → Room es x rows
room_all h = record { fits = λ n a b. omega arith }

sides_most : (b : Bool) (p : ℕ) → p ≤ 81 → cond b 5 6 * p ≤ 486
sides_most true p h = omega arith
sides_most false p h = omega arith

short_edges : (x t : ℕ) → t ≤ 15 → t ≤ resolution_of x + 4 → length (outline x t) ≤ 486
short_edges x t deep near = ⊎_elim
    (λ (h : resolution_of x ≤ t).
    let few : t - resolution_of x ≤ 4 = omega arith in
    let p : 3 ^ (t - resolution_of x) ≤ 81 = pow-le-pow_right (zero-lt-suc 2) few in
    let s = sides_most (is_pentagon x) (3 ^ (t - resolution_of x)) p in
    let e = outline_count x t h deep in
    omega arith)
    (λ (h : t < resolution_of x). let e = ap length (outline_coarser x t h) in omega arith)
    (le_or_lt (resolution_of x) t)

pub room_few : (es cs : List ℕ) {rows : List ℕ} → few_suffice es cs ≡ true → 4096 ≤ length rows → (i : ℕ) → i < length cs → Room es (at cs i) rows
unfolding few_suffice
room_few es cs e h i l = ⊎_elim
    (λ (small : length es ≤ 4096). room_all (omega arith))
    (λ (many : 4096 < length es).
    let target = resolution_of (at es 0) in
    let deep : resolution_of (at es 0) ≤ 15 = omega arith in
    let few = ltb (length cs) 8 in
    let each = passes (near_at target cs) (length cs) in
    let all = and_right few each (subst (λ (small : Bool). (small || (few && each)) ≡ true) (lt-leb (length es) 4096 many) e) in
    let near = leb-true target (resolution_of (at cs i) + 4) (passes_at (near_at target cs) (length cs) all i l) in
    let short = short_edges (at cs i) target deep near in
    record { fits = λ n a b. omega arith })
    (le_or_lt (length es) 4096)
