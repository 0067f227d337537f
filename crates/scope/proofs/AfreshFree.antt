-- What is worked out afresh does not depend on the order of the cells: two lists of the same cells have the same standing rows, the same
-- successors and the same rings, as lists.
--     rows_free        standing_rows t cs ≡ standing_rows t ds
--     link_free        the successors of a standing row are equal
--     rings_free       rings t cs ≡ rings t ds
-- Assumes nothing.
use mathlib.Core.Path.{◌≡◌, refl, sym, ◌∙◌, ap}
use mathlib.Core.Logic.{⊎_elim}
use mathlib.Core.Bool.{true, false}
use mathlib.Core.List.{List, [], ◌∷◌, map, Memᴰ}
use Prim.Native.Nat.{ℕ}
use Rattle.scope.specs.Table.{Table, row_count, reverse_of}
use Rattle.scope.specs.Standing.{outlines, StandsIn}
use Rattle.scope.specs.Afresh.{is_standing, successor, standing_rows, ring, rings, starts_ring}
use Rattle.scope.proofs.Tests.{either, same}
use Rattle.scope.proofs.Lands.{lands_unique}
use Rattle.scope.proofs.Members.{mem_below}
use Rattle.scope.proofs.Below.{below_same}
use Rattle.scope.proofs.Cycle.{iter, iter_in}
use Rattle.scope.proofs.Proper.{Proper, SameMembers}
use Rattle.scope.proofs.OrderFree.{stands_free, successor_free}
use Rattle.scope.proofs.Rings.{ring_same, starts_stand}
use Rattle.scope.proofs.Agree.{stands_test, test_stands, successor_agrees, successor_permutes, standing_permutes, starts}

map_same : (f g : ℕ → List ℕ) (l : List ℕ) → ((x : ℕ) → Memᴰ x l → f x ≡ g x) → map f l ≡ map g l
map_same f g [] e = refl
map_same f g (x ∷ l) e = rw (e x (Memᴰ.head refl), map_same f g l (λ y m. e y (Memᴰ.tail m)))

module _ {t : Table} {cs ds : List ℕ} (P : Proper t cs) (Q : Proper t ds) (E : SameMembers cs ds) where
  test_free : (a : ℕ) → is_standing (outlines t cs) (reverse_of t) a ≡ is_standing (outlines t ds) (reverse_of t) a
  test_free a = same (is_standing (outlines t cs) (reverse_of t) a) (is_standing (outlines t ds) (reverse_of t) a)
      (λ e. stands_test (outlines t ds) (reverse_of t) a (stands_free t E a (test_stands (outlines t cs) (reverse_of t) a e)))
      (λ e. stands_test (outlines t cs) (reverse_of t) a (stands_free t (E.1, E.0) a (test_stands (outlines t ds) (reverse_of t) a e)))

  pub rows_free : standing_rows t cs ≡ standing_rows t ds
  unfolding standing_rows
  rows_free = below_same (is_standing (outlines t cs) (reverse_of t)) (is_standing (outlines t ds) (reverse_of t)) (row_count t) (λ a h. test_free a)

  pub link_free : (a : ℕ) → StandsIn t cs a → successor t cs a ≡ successor t ds a
  link_free a s = lands_unique (successor_free P Q E a (successor t cs a) s.0 (successor_agrees P a s)) (successor_agrees Q a (stands_free t E a s))

  ring_free : (r : ℕ) → is_standing (outlines t cs) (reverse_of t) r ≡ true → ring (row_count t) (successor t ds) r ≡ ring (row_count t) (successor t cs) r
  ring_free r u =
      let s = test_stands (outlines t cs) (reverse_of t) r u in
      ring_same (standing_permutes P) (successor t ds) r u (λ k. sym (link_free (iter (successor t cs) k r) (iter_in (successor_permutes P) k r s)))

  start_free : (r : ℕ) → starts_ring (row_count t) (is_standing (outlines t cs) (reverse_of t)) (successor t cs) r ≡ starts_ring (row_count t) (is_standing (outlines t ds) (reverse_of t)) (successor t ds) r
  unfolding starts_ring
  start_free r = ⊎_elim
      (λ (u : is_standing (outlines t cs) (reverse_of t) r ≡ true). rw (← test_free r, ring_free r u))
      (λ (u : is_standing (outlines t cs) (reverse_of t) r ≡ false). rw (← test_free r, u))
      (either (is_standing (outlines t cs) (reverse_of t) r))

  starts_free : starts t cs ≡ starts t ds
  starts_free = below_same (starts_ring (row_count t) (is_standing (outlines t cs) (reverse_of t)) (successor t cs))
      (starts_ring (row_count t) (is_standing (outlines t ds) (reverse_of t)) (successor t ds)) (row_count t) (λ r h. start_free r)

  -- IN WHATEVER ORDER, the same rings
  pub rings_free : rings t cs ≡ rings t ds
  unfolding rings
  rings_free =
      map_same (ring (row_count t) (successor t cs)) (ring (row_count t) (successor t ds)) (starts t cs)
      (λ r m. sym (ring_free r (starts_stand (standing_permutes P) r (mem_below _ (row_count t) r m).1)))
      ∙ ap (map (ring (row_count t) (successor t ds))) starts_free
