-- Each group with a ring is one polygon.
--     outer_ring        the outer of a ring is a ring of the same group
--     outer_same        rings of one group have one outer
--     polygon_count_lem     AS MANY POLYGONS AS GROUPS WITH A RING
--     sound_polygons    so it is of every state that passes the rules
-- Assumes nothing.
use mathlib.Core.Path.{◌≡◌, refl, sym, ◌∙◌, ap}
use mathlib.Core.Bool.{Bool, true, false, not}
use mathlib.Core.Logic.{⊎_elim}
use mathlib.Core.List.{List, [], ◌∷◌, map, Memᴰ}
use Prim.Native.Nat.{ℕ, suc, ◌<◌}
use native.Mathlib.Omega.{arith}
use lib.Dec.{eqb}
use lib.ListN.{length}
use borrow.Author.Tests.{eq-eqb, eqb-true}
use Rattle.scope.specs.Lists.{at, keep, below, member, head_or}
use Rattle.scope.specs.Table.{Table}
use Rattle.scope.specs.Memory.{Memory, held, has_slot, slot_of}
use Rattle.scope.specs.UnionFind.{root_of}
use Rattle.scope.specs.Afresh.{starts_ring}
use Rattle.scope.specs.Order.{View, view, sort_by, group_of, group_at, lowest_rows, within_polygon, outer_at, polygon_count}
use Rattle.scope.proofs.Tests.{either, clash, and_left}
use Rattle.scope.proofs.Scan.{passes_not, passes_fails}
use Rattle.scope.proofs.Members.{Fresh, member_true, member_mem, below_mem, mem_below, below_fresh}
use Rattle.scope.proofs.Pigeonhole.{one_to_one}
use Rattle.scope.proofs.Linked.{at_in, true_has, slot_used}
use Rattle.scope.proofs.Sound.{Sound, sound_linked}
use Rattle.scope.proofs.Sorting.{All, all_sort, sort_length}

-- ---- what is kept of a list

module _ (ok : ℕ → Bool) where
  pub keep_mem : (l : List ℕ) {a : ℕ} → Memᴰ a l → ok a ≡ true → Memᴰ a (keep ok l)
  unfolding keep
  keep_mem [] i t = i
  keep_mem (x ∷ l) {a} i t = ⊎_elim
      (λ (e : ok x ≡ true). rw e (⊎_elim (λ (q : a ≡ x). mathlib.Core.List.Memᴰ.head q) (λ (j : Memᴰ a l). mathlib.Core.List.Memᴰ.tail (keep_mem l j t)) (mathlib.Core.List.Memᴰ.cases_cons i)))
      (λ (e : ok x ≡ false). rw e (⊎_elim (λ (q : a ≡ x). absurd (clash (sym (ap ok q) ∙ t) e)) (λ (j : Memᴰ a l). keep_mem l j t) (mathlib.Core.List.Memᴰ.cases_cons i)))
      (either (ok x))

  mem_keep : (l : List ℕ) {a : ℕ} → Memᴰ a (keep ok l) → Memᴰ a l × (ok a ≡ true)
  unfolding keep
  mem_keep [] i = absurd (mathlib.Core.List.Memᴰ.not-nil i)
  mem_keep (x ∷ l) {a} i = ⊎_elim
      (λ (e : ok x ≡ true). ⊎_elim (λ (q : a ≡ x). (mathlib.Core.List.Memᴰ.head q, ap ok q ∙ e))
      (λ (j : Memᴰ a (keep ok l)). let r = mem_keep l j in (mathlib.Core.List.Memᴰ.tail r.0, r.1)) (mathlib.Core.List.Memᴰ.cases_cons (rw e at i)))
      (λ (e : ok x ≡ false). let r = mem_keep l (rw e at i) in (mathlib.Core.List.Memᴰ.tail r.0, r.1))
      (either (ok x))

  keep_fresh : (l : List ℕ) → Fresh l → Fresh (keep ok l)
  unfolding keep
  keep_fresh [] f = tt
  keep_fresh (x ∷ l) f = ⊎_elim
      (λ (e : ok x ≡ true). rw e (λ m. f.0 (mem_keep l m).0, keep_fresh l f.1))
      (λ (e : ok x ≡ false). rw e (keep_fresh l f.1))
      (either (ok x))

-- ---- the first of a sorted list

all_mem : (P : ℕ → Type 0) (l : List ℕ) → ((a : ℕ) → Memᴰ a l → P a) → All P l
all_mem P [] f = tt
all_mem P (x ∷ l) f = (f x (mathlib.Core.List.Memᴰ.head refl), all_mem P l (λ a i. f a (mathlib.Core.List.Memᴰ.tail i)))

module _ (le : ℕ → ℕ → Bool) where
  -- it is a member, whatever would stand for an empty list
  first_is : (d e : ℕ) (l : List ℕ) {a : ℕ} → Memᴰ a l → (head_or d (sort_by le l) ≡ head_or e (sort_by le l)) × Memᴰ (head_or d (sort_by le l)) l
  first_is d e [] i = absurd (mathlib.Core.List.Memᴰ.not-nil i)
  first_is d e (x ∷ l) i =
      go (sort_by le (x ∷ l)) (sort_length le (x ∷ l)) (all_sort (λ a. Memᴰ a (x ∷ l)) le (x ∷ l) (all_mem (λ a. Memᴰ a (x ∷ l)) (x ∷ l) (λ a j. j)))
    where
      go : (k : List ℕ) → length k ≡ suc (length l) → All (λ a. Memᴰ a (x ∷ l)) k → (head_or d k ≡ head_or e k) × Memᴰ (head_or d k) (x ∷ l)
      go [] n all = absurd (omega arith)
      go (y ∷ k) n all = (refl, all.0)

-- ---- outers

module _ (v : View) where
  abbrev is_in : ℕ → ℕ → Bool
  is_in g r = eqb (group_at v r) g

  -- the rings of a group, and the first of them by area
  abbrev rings_in : ℕ → List ℕ
  rings_in g = keep (is_in g) (lowest_rows v)

  abbrev outer_in : ℕ → ℕ → ℕ
  outer_in d g = head_or d (sort_by (within_polygon v) (rings_in g))

  in_group : (r : ℕ) → Memᴰ r (lowest_rows v) → Memᴰ r (rings_in (group_at v r))
  in_group r i = keep_mem (is_in (group_at v r)) (lowest_rows v) i (eq-eqb (group_at v r) (group_at v r) refl)

  outer_in_lem : (d g : ℕ) {a : ℕ} → Memᴰ a (rings_in g) → Memᴰ (outer_in d g) (lowest_rows v) × (group_at v (outer_in d g) ≡ g)
  outer_in_lem d g i =
      let r = mem_keep (is_in g) (lowest_rows v) (first_is (within_polygon v) d d (rings_in g) i).1 in
      (r.0, eqb-true (group_at v (outer_in d g)) g r.1)

  -- the outer of a ring is a ring of the same group
  pub outer_ring : (r : ℕ) → Memᴰ r (lowest_rows v) → Memᴰ (outer_at v r) (lowest_rows v) × (group_at v (outer_at v r) ≡ group_at v r)
  unfolding outer_at
  outer_ring r i = outer_in_lem r (group_at v r) (in_group r i)

  -- rings of one group have one outer
  pub outer_same : (r q : ℕ) → Memᴰ r (lowest_rows v) → group_at v r ≡ group_at v q → outer_at v r ≡ outer_at v q
  unfolding outer_at
  outer_same r q i e = (first_is (within_polygon v) r q (rings_in (group_at v r)) (in_group r i)).0 ∙ ap (outer_in q) e

  -- ---- how many there are

  -- the groups with a ring
  abbrev pub ring_groups : List ℕ
  ring_groups = below (λ g. member g (map (group_at v) (lowest_rows v))) v.held

  is_outer : ℕ → Bool
  is_outer r = eqb (outer_at v r) r

  outers : List ℕ
  unfolding is_outer
  outers = keep is_outer (lowest_rows v)

  outer_self : (r : ℕ) → Memᴰ r outers → Memᴰ r (lowest_rows v) × (outer_at v r ≡ r)
  unfolding outers
  outer_self r i = let k = mem_keep is_outer (lowest_rows v) i in (k.0, eqb-true (outer_at v r) r k.1)

  -- a group with a ring has a ring in it
  group_ring : (g : ℕ) → Memᴰ g ring_groups → (r : ℕ) × Memᴰ r (rings_in g)
  group_ring g i =
      let m = member_mem g (map (group_at v) (lowest_rows v)) (mem_below (λ k. member k (map (group_at v) (lowest_rows v))) v.held g i).1 in
      let r = mathlib.Core.List.Memᴰ.of_map (group_at v) (lowest_rows v) m in
      (r.0, keep_mem (is_in g) (lowest_rows v) r.1 (eq-eqb (group_at v r.0) g r.2))

  group_outer : (g : ℕ) → Memᴰ g ring_groups → Memᴰ (outer_in 0 g) outers × (group_at v (outer_in 0 g) ≡ g)
  unfolding outers is_outer outer_at
  group_outer g i =
      let o = outer_in 0 g in
      let h = group_ring g i in
      let k = outer_in_lem 0 g h.1 in
      let e = ap (outer_in o) k.1 ∙ (first_is (within_polygon v) o 0 (rings_in g) h.1).0 in
      (keep_mem is_outer (lowest_rows v) k.0 (eq-eqb (outer_at v o) o e), k.1)

  module _ (held : (r : ℕ) → Memᴰ r (lowest_rows v) → group_at v r < v.held) where
    outer_group : (r : ℕ) → Memᴰ r outers → Memᴰ (group_at v r) ring_groups
    outer_group r i =
        let k = (outer_self r i).0 in
        below_mem (λ g. member g (map (group_at v) (lowest_rows v))) v.held (group_at v r) (held r k) (member_true (mathlib.Core.List.Memᴰ.map (group_at v) k))

    -- AS MANY POLYGONS AS GROUPS WITH A RING
    pub polygon_count_lem : polygon_count v ≡ length ring_groups
    unfolding polygon_count outers is_outer
    polygon_count_lem =
        let a = one_to_one (group_at v) outers ring_groups (keep_fresh is_outer (lowest_rows v) (below_fresh _ _)) outer_group
        (λ r q i j e. sym (outer_self r i).1 ∙ outer_same r q (outer_self r i).0 e ∙ (outer_self q j).1) in
        let b = one_to_one (outer_in 0) ring_groups outers (below_fresh _ _) (λ g i. (group_outer g i).0)
        (λ g h i j e. sym (group_outer g i).1 ∙ ap (group_at v) e ∙ (group_outer h j).1) in
        omega arith

-- ---- states that pass the rules

-- a held cell's group is one of the held places
group_held : (parent : List ℕ) (n c : ℕ) → c < n → group_of parent n c < n
unfolding group_of
group_held parent n c h =
    let same : ℕ → Bool = λ p. not (eqb (root_of parent p) (root_of parent c)) in
    passes_fails same n (passes_not same n c h (ap not (eq-eqb (root_of parent c) (root_of parent c) refl)))

module _ {t : Table} {m : Memory} (s : Sound t m) where
  pub ring_held : (r : ℕ) → Memᴰ r (lowest_rows (view t m)) → group_at (view t m) r < held m
  unfolding starts_ring
  ring_held r i =
      let L = sound_linked s in
      let u = slot_used L r (true_has m r (and_left (has_slot m r) _ (mem_below _ _ r i).1)) in
      group_held m.parent (held m) (at m.slot_cell (slot_of m r)) (s.rules.slot_used (slot_of m r) (at_in m.slot_row (slot_of m r) u) u).cell_held

  pub sound_polygons : polygon_count (view t m) ≡ length (ring_groups (view t m))
  sound_polygons = polygon_count_lem (view t m) ring_held
