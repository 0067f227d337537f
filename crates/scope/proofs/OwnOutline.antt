-- The outline of a cell at its own resolution: every edge of the cell, a pentagon's without the edge numbered 1.
--     own_outline      the edges at its edge positions, in order
--     own_edge         a valid edge is its owner with mode 2 and its edge number: the edge at a position
--     own_mem          so it is in its owner's outline
-- Assumes nothing.
use mathlib.Core.Path.{◌≡◌, refl, sym, ◌∙◌, ap}
use mathlib.Core.Bool.{Bool, true, false, ◌&&◌, ◌||◌}
use mathlib.Core.List.Memᴰ
use mathlib.Core.List.{List, [], ◌∷◌, map, Memᴰ}
use Prim.Native.Nat.{ℕ, ◌+◌, ◌-◌, ◌*◌, ◌^◌, ◌<◌}
use native.Mathlib.Omega.{arith}
use lib.Dec.{eqb, leb}
use borrow.Author.Tests.{eq-eqb, eqb-true, le-ltb, not-true}
use Rattle.scope.specs.Lists.{at, member}
use Rattle.scope.specs.Cells.{mode_of, edge_number, resolution_of, valid_cell, is_pentagon, owner_of, valid_edge}
use Rattle.scope.specs.Walk.{edge_direction, edge_at, step, passed_over, edges, outline}
use Rattle.scope.proofs.Tests.{same, and_left, and_right}
use Rattle.scope.proofs.Entries.{every, entry}
use Rattle.scope.proofs.Members.{member_mem}
use Rattle.scope.proofs.Cells.{top}
use Rattle.scope.proofs.Edges.{edge_parts, edge_top, owner_is}
use Rattle.scope.proofs.WalkStarts.{first_own, edge_own}
use Rattle.scope.proofs.WalkCounts.{facing, outline_own, outline_hexagon}

-- the edge positions at the cell's own resolution: a pentagon passes over the second
abbrev pub own_positions : Bool → List ℕ
own_positions true = 0 ∷ 2 ∷ 3 ∷ 4 ∷ 5 ∷ []
own_positions false = 0 ∷ 1 ∷ 2 ∷ 3 ∷ 4 ∷ 5 ∷ []

module _ (x c : ℕ) where
  hexagon_steps : edges false x c c 6 (facing 0) ≡ map (λ i. edge_at x c c (facing i)) (own_positions false)
  unfolding edges passed_over step
  hexagon_steps = rw (le-ltb c c (omega arith))

  pentagon_steps : edges false x c c 4 (facing 2) ≡ map (λ i. edge_at x c c (facing i)) (2 ∷ 3 ∷ 4 ∷ 5 ∷ [])
  unfolding edges passed_over step
  pentagon_steps = rw (le-ltb c c (omega arith))

pub own_outline : (x : ℕ) → outline x (resolution_of x) ≡ map (λ i. edge_at x (resolution_of x) (resolution_of x) (facing i)) (own_positions (is_pentagon x))
own_outline x = go (is_pentagon x) refl
  where
    six : 6 * 3 ^ (resolution_of x - resolution_of x) ≡ 6
    six = ap (λ (n : ℕ). 6 * 3 ^ n) (let e : resolution_of x - resolution_of x ≡ 0 = omega arith in e)

    go : (p : Bool) → is_pentagon x ≡ p → outline x (resolution_of x) ≡ map (λ i. edge_at x (resolution_of x) (resolution_of x) (facing i)) (own_positions p)
    go true e = outline_own x e ∙ ap (λ (l : List ℕ). edge_at x (resolution_of x) (resolution_of x) (facing 0) ∷ l) (pentagon_steps x (resolution_of x))
    go false e =
        outline_hexagon x (resolution_of x) e (omega arith)
        ∙ rw (six, ← first_own (resolution_of x)) (hexagon_steps x (resolution_of x))

-- ---- an edge by its owner

-- the edge position of each edge number, from 1 on
abbrev edge_positions : List ℕ
edge_positions = 1 ∷ 5 ∷ 0 ∷ 3 ∷ 2 ∷ 4 ∷ []

-- position i has edge number k + 1, and a pentagon has it too but for the number 1
abbrev is_position : ℕ → ℕ → Bool
is_position k i = eqb (edge_direction i) (k + 1) && (member i (own_positions false) && (eqb k 0 || member i (own_positions true)))

positions_are : every is_position 0 edge_positions ≡ true
unfolding every member
positions_are = refl

position : (p : Bool) (k : ℕ) → k < 6 → (p && eqb k 0) ≡ false → (i : ℕ) × Memᴰ i (own_positions p) × (edge_direction i ≡ k + 1)
position p k h q = (i, there p q, eqb-true (edge_direction i) (k + 1) (and_left _ _ fits))
  where
    i : ℕ
    i = at edge_positions k

    fits : is_position k (at edge_positions k) ≡ true
    fits = entry is_position edge_positions positions_are k h

    both : (member (at edge_positions k) (own_positions false) && (eqb k 0 || member (at edge_positions k) (own_positions true))) ≡ true
    both = and_right (eqb (edge_direction (at edge_positions k)) (k + 1)) _ fits

    there : (p : Bool) → (p && eqb k 0) ≡ false → Memᴰ (at edge_positions k) (own_positions p)
    there true q = member_mem (at edge_positions k) (own_positions true) (rw q at (and_right (member (at edge_positions k) (own_positions false)) _ both))
    there false q = member_mem (at edge_positions k) (own_positions false) (and_left _ _ both)

module _ (e : ℕ) (valid : valid_edge e ≡ true) where
  pub own_edge : (i : ℕ) → edge_direction i ≡ edge_number e → edge_at (owner_of e) (resolution_of (owner_of e)) (resolution_of (owner_of e)) (facing i) ≡ e
  own_edge i d =
      let o = owner_is e valid in
      let t = edge_top e valid in
      let n : edge_number e ≡ top e - 16 = omega arith in
      edge_own (owner_of e) (edge_parts e valid).owned (facing i) ∙ rw d (omega arith)

  -- a pentagon has no edge 1
  no_one : (is_pentagon (owner_of e) && eqb (edge_number e - 1) 0) ≡ false
  unfolding valid_edge
  no_one =
      let rest = eqb (mode_of e) 2 && valid_cell (owner_of e) && leb 1 (edge_number e) && leb (edge_number e) 6 in
      let low = (edge_parts e valid).low in
      rw (same (eqb (edge_number e - 1) 0) (eqb (edge_number e) 1)
      (λ q. let z = eqb-true (edge_number e - 1) 0 q in eq-eqb (edge_number e) 1 (omega arith))
      (λ q. let z = eqb-true (edge_number e) 1 q in eq-eqb (edge_number e - 1) 0 (omega arith)))
      (not-true (is_pentagon (owner_of e) && eqb (edge_number e) 1) (and_right rest _ valid))

  pub own_mem : Memᴰ e (outline (owner_of e) (resolution_of (owner_of e)))
  own_mem =
      let x = owner_of e in
      let c = resolution_of x in
      let p = edge_parts e valid in
      let low = p.low in
      let high = p.high in
      let i = position (is_pentagon x) (edge_number e - 1) (omega arith) no_one in
      rw (own_outline x) (Memᴰ.cast (sym (own_edge i.0 (i.2 ∙ omega arith))) (Memᴰ.map (λ i. edge_at x c c (facing i)) i.1))
