-- Laws of `Gosper` against the walk that it stands for.
--     walk_at         the walk of a state made from one is that one
--     walking_at      such a state is in order; walking-is: a state in order is such a state
--     at_again        the scratch number can stand for the cell
--     turned_is       the state with another edge position
-- Assumes nothing.
use mathlib.Core.Path.{◌≡◌, ◌∙◌, ap, sym}
use mathlib.Core.Bool.{Bool, true}
use mathlib.Core.List.{List}
use Prim.Native.Nat.{ℕ, ◌+◌, ◌*◌, ◌%◌, ◌^◌, ◌<◌, ◌≤◌}
use native.Mathlib.Omega.{arith}
use lib.Dec.{lit<}
use lib.ListN.{set}
use lib.Seq.{get_or-set_same, set-set, set-get_or}
use Rattle.scope.specs.Lists.{at}
use Rattle.scope.specs.Walk.{Walk, edge_at, edge_direction, next_edge_position}
use Rattle.scope.proofs.Odometer.{Fine, set_fine}
use Rattle.scope.proofs.EdgeDigits.{edge_again, edge_faced}
use Rattle.gosper.specs.declared.Gosper.{Gosper}
use Rattle.gosper.specs.Walking.{walk_of, turned, gosper_at, Walking}

-- a position set apart and put back
apart_back : (ps : List ℕ) (t : ℕ) → set (set ps t 0) t (at ps t) ≡ ps
apart_back ps t = set-set ps t 0 (at ps t) ∙ set-get_or ps t 0

module _ (x c t : ℕ) (b : Bool) (n : ℕ) (w : Walk) where
  pub walk_at : walk_of (gosper_at x c t b n w) ≡ w
  walk_at = ap (λ (l : List ℕ). record { positions = l; edge_position = w.edge_position }) (apart_back w.positions t)

  pub walking_at : c ≤ t → t ≤ 15 → Fine w.positions → w.edge_position < 6 → (b ≡ true → (c ≡ t) × (0 < n)) → Walking (gosper_at x c t b n w)
  walking_at down deep fine facing skips =
      record {
        down = down;
        deep = deep;
        fine = set_fine w.positions t 0 fine (lit< tt);
        apart = get_or-set_same w.positions t 0 0 (omega (arith, fine.long));
        finest = fine.round t;
        facing = facing;
        scratchpad = sym (edge_again x c t w deep w) ∙ ap (edge_at (edge_at x c t w) c t) (sym walk_at);
        skips = skips;
      }

  pub at_again : t ≤ 15 → (v : Walk) → gosper_at (edge_at x c t w) c t b n v ≡ gosper_at x c t b n v
  at_again deep v = rw (edge_again x c t w deep v)

module _ (g : Gosper) (walking : Walking g) where
  pub fine_walk : Fine (walk_of g).positions
  fine_walk = set_fine g.positions g.child g.finest walking.fine walking.finest

  positions_is : g.positions ≡ set (set g.positions g.child g.finest) g.child 0
  positions_is =
      sym
      (set-set g.positions g.child g.finest 0 ∙ ap (set g.positions g.child) (sym walking.apart) ∙ set-get_or g.positions g.child 0)

  finest_is : g.finest ≡ at (set g.positions g.child g.finest) g.child
  finest_is = sym (get_or-set_same g.positions g.child g.finest 0 (omega (arith, walking.fine.long, walking.deep)))

  pub walking_is : g ≡ gosper_at g.scratchpad g.parent g.child g.skips g.count (walk_of g)
  walking_is =
      λ i.
      record {
        scratchpad = walking.scratchpad i;
        count = g.count;
        positions = positions_is i;
        finest = finest_is i;
        facing = g.facing;
        parent = g.parent;
        child = g.child;
        skips = g.skips;
      }

  -- the edge position is another, and the scratch number has its direction
  faced_is : (e s : ℕ) → s ≡ g.scratchpad % 2 ^ 56 + (16 + edge_direction e) * 2 ^ 56
      → s ≡ edge_at g.scratchpad g.parent g.child (record { positions = (walk_of g).positions; edge_position = e })
  faced_is e s h =
      h ∙ ap (λ (y : ℕ). y % 2 ^ 56 + (16 + edge_direction e) * 2 ^ 56) walking.scratchpad
      ∙ edge_faced g.scratchpad g.parent g.child (walk_of g) walking.deep e

  pub turned_is : (e s : ℕ) (b : Bool) → e ≡ next_edge_position g.facing b → s ≡ g.scratchpad % 2 ^ 56 + (16 + edge_direction e) * 2 ^ 56
      → record { scratchpad = s; count = g.count; positions = g.positions; finest = g.finest; facing = e; parent = g.parent; child = g.child; skips = g.skips }
      ≡ gosper_at g.scratchpad g.parent g.child g.skips g.count (turned (walk_of g) b)
  turned_is e s b f h =
      let k : s ≡ edge_at g.scratchpad g.parent g.child (turned (walk_of g) b) =
      faced_is e s h
      ∙ ap (λ (y : ℕ). edge_at g.scratchpad g.parent g.child (record { positions = (walk_of g).positions; edge_position = y })) f in
      λ i.
      record {
        scratchpad = k i;
        count = g.count;
        positions = positions_is i;
        finest = finest_is i;
        facing = f i;
        parent = g.parent;
        child = g.child;
        skips = g.skips;
      }
