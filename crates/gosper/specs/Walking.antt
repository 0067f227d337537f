-- What a `Gosper` stands for: a walk of scope, and the edges that are left.
-- Assumes nothing.
use Rattle.std.specs.Prelude.{◌≡◌, Bool, true, false, ◌&&◌, cond, List, ◌∷◌, ℕ, ◌+◌, ◌-◌, ◌*◌, ◌%◌, ◌^◌, ◌<◌, ◌≤◌, leb, ltb, set}
use Rattle.scope.specs.Lists.{at}
use Rattle.scope.specs.Cells.{resolution_of, is_pentagon}
use Rattle.scope.specs.Walk.{Walk, next_edge_position, edge_at, edges, step, outline}
use Rattle.scope.proofs.Odometer.{Fine}
use Rattle.walk_levels.specs.Starts.{start_walk}
use Rattle.gosper.specs.declared.Gosper.{Gosper}
use Rattle.gosper.specs.declared.Stepped.{Stepped}

-- The walk that it stands at: the finest level's position stands by itself.
abbrev pub walk_of : Gosper → Walk
walk_of g = record { positions = set g.positions g.child g.finest; edge_position = g.facing }

-- The walk once the edge position has gone on.
abbrev pub turned : Walk → Bool → Walk
turned w b = record { positions = w.positions; edge_position = next_edge_position w.edge_position b }

-- Every field, from a number that has the cell's base cell and digits, the two resolutions, the count and the walk.
abbrev pub gosper_at : ℕ → ℕ → ℕ → Bool → ℕ → Walk → Gosper
gosper_at x c t b n w =
    record {
      scratchpad = edge_at x c t w;
      count = n;
      positions = set w.positions t 0;
      finest = at w.positions t;
      facing = w.edge_position;
      parent = c;
      child = t;
      skips = b;
    }

-- The same at another walk.
abbrev pub moved_to : Gosper → Walk → Gosper
moved_to g w = gosper_at g.scratchpad g.parent g.child g.skips g.count w

-- The scratch number is the edge at the walk. A step is passed over only at the cell's own resolution, where an edge is left.
pub record Walking (g : Gosper) : Type 0 where
  pub down : g.parent ≤ g.child
  pub deep : g.child ≤ 15
  pub fine : Fine g.positions
  pub apart : at g.positions g.child ≡ 0
  pub finest : g.finest < 18
  pub facing : g.facing < 6
  pub scratchpad : g.scratchpad ≡ edge_at g.scratchpad g.parent g.child (walk_of g)
  pub skips : g.skips ≡ true → (g.parent ≡ g.child) × (0 < g.count)

-- The edges that are left: one for each step, but that where `skips` is set the step after the next edge is passed over.
unfoldable pub rest : Gosper → List ℕ
rest g =
    let x = g.scratchpad in
    let c = g.parent in
    let t = g.child in
    let w = walk_of g in
    let n = g.count in
    cond g.skips (x ∷ edges false x c t (n - 1) (step c t (step c t w))) (edges false x c t n w)

-- ---- the start

-- A hexagon begins at the first walk, and so does a pentagon at its own resolution, where it passes over its second step.
-- A pentagon's outline below its resolution begins one side on.
unfoldable pub begun : ℕ → ℕ → Gosper
begun x t =
    let c = resolution_of x in
    let hexagon = gosper_at x c t false (6 * 3 ^ (t - c)) (start_walk 0 c t) in
    let finer = gosper_at x c t false (5 * 3 ^ (t - c)) (start_walk 1 c t) in
    let own = gosper_at x c t true (5 * 3 ^ (t - c)) (start_walk 0 c t) in
    let none = gosper_at x c c false 0 (start_walk 0 c c) in
    cond (leb c t) (cond (is_pentagon x) (cond (ltb c t) finer own) hexagon) none

-- The walk of the cell x to the target t has all of its outline before it.
pub record Begins (x t : ℕ) (g : Gosper) : Type 0 where
  pub fields : g ≡ begun x t
  pub walking : Walking g
  pub rest : rest g ≡ outline x t

-- ---- the step

-- The walk at the edge after the next one: the step passed over, if one is, is made too.
abbrev pub next_walk : Gosper → Walk
next_walk g =
    let w = step g.parent g.child (walk_of g) in
    cond g.skips (step g.parent g.child w) w

abbrev pub next : Gosper → Gosper
next g = gosper_at g.scratchpad g.parent g.child false (g.count - 1) (next_walk g)

-- The next edge is handed over, and the walk goes on with the others.
pub record Steps (g : Gosper) (s : Stepped) : Type 0 where
  pub fields : s ≡ record { edge = g.scratchpad; walk = next g }
  pub walking : Walking s.walk
  pub rest : rest g ≡ s.edge ∷ rest s.walk
