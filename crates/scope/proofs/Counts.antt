-- WHAT READ OUT COUNTS: after any run of calls it answers as many rings as are worked out afresh from the accepted cells, and as many polygons
-- as groups of these cells, worked out afresh too, have a ring.
--     giver t cs a        the place of the cell whose outline holds a row
--     ring_group t cs l    the group of a ring: that of the cell that gives its lowest row
--     polygons t cs       the groups that have a ring
--     shown_groups        the groups that a shown state names are those of the rings worked out afresh
--     shown_polygons, shown_ring_count, shown_counts     its counts, and those that read out answers
--     run_counts          THE COUNTS after any run of calls
-- Assumes nothing.
use Prim.Native.Nat.{ℕ, ◌≤◌}
use mathlib.Core.Path.{◌≡◌, refl, sym, ◌∙◌, ap}
use mathlib.Core.Logic.{⊎_elim}
use mathlib.Core.Bool.{Bool, true, false, not, cond}
use mathlib.Core.List.{List, [], ◌∷◌, map, map-map, Memᴰ}
use native.Mathlib.Omega.{arith}
use lib.Dec.{eqb}
use lib.ListN.{length}
use borrow.Author.Tests.{eqb-true}
use Rattle.std.specs.Prelude.{Ok}
use Rattle.scope.specs.declared.ReadOut.TheVariants.{Nothing, Closed, Outline}
use Rattle.scope.specs.Lists.{at, first_bad, below, member, keep, head_or}
use Rattle.scope.specs.Answers.{polygons_of, rings_of, Answer, Verdict}
use Rattle.scope.specs.Table.{Table, row_count, table_verdict, outline_rows}
use Rattle.scope.specs.Afresh.{successor, ring, rings, group_place}
use Rattle.scope.specs.Memory.{Memory, Output, held, has_slot, slot_of, lengths_fit}
use Rattle.scope.specs.Order.{view, ring_at, lowest_rows, area_at, group_at, outer_at, ordered, polygon_count, read_answer}
use Rattle.scope.specs.Calls.{read_from, reading, read_verdict, reading_out}
use Rattle.scope.specs.Demands.{Call}
use Rattle.scope.proofs.Tests.{either}
use Rattle.scope.proofs.Scan.{first_bad_is}
use Rattle.scope.proofs.Members.{mem_at, fresh_at, member_true, member_false}
use Rattle.scope.proofs.Below.{map_length}
use Rattle.scope.proofs.Agree.{starts}
use Rattle.scope.proofs.Linked.{true_has}
use Rattle.scope.proofs.TakingCells.{Shown}
use Rattle.scope.proofs.TakingShows.{shown_count, shown_holds}
use Rattle.scope.proofs.Polygons.{ring_held, sound_polygons}
use Rattle.scope.proofs.ViewsAlike.{map_cong}
use Rattle.scope.proofs.ShownAfresh.{shown_starts, starts_have, shown_rings, shown_group}
use Rattle.scope.proofs.Run.{ran, ran_shown}

-- ---- groups with a ring, worked out afresh

-- The place of the cell whose outline holds a row.
unfoldable pub giver : Table → List ℕ → ℕ → ℕ
giver t cs a = first_bad (λ i. not (member a (outline_rows t (at cs i)))) (length cs)

-- A ring is in the group of its lowest row's cell.
unfoldable pub ring_group : Table → List ℕ → List ℕ → ℕ
ring_group t cs l = group_place t cs (giver t cs (head_or 0 l))

-- Each group with a ring is one polygon.
unfoldable pub polygons : Table → List ℕ → List ℕ
polygons t cs = below (λ g. member g (map (ring_group t cs) (rings t cs))) (length cs)

-- ---- lists

keep_length : (ok : ℕ → Bool) (l : List ℕ) → length (keep ok l) ≤ length l
unfolding keep
keep_length ok [] = omega arith
keep_length ok (x ∷ l) = let h = keep_length ok l in ⊎_elim (λ e. rw e (omega arith)) (λ e. rw e (omega arith)) (either (ok x))

none : (l : List ℕ) → ((r : ℕ) → Memᴰ r l → ⊥) → length l ≡ 0
none [] f = refl
none (r ∷ l) f = absurd (f r (Memᴰ.head refl))

module _ {t : Table} {m : Memory} {cs : List ℕ} (S : Shown t m cs) where
  -- the cell in whose slot a row is held is the one that gives it
  giver_is : (r : ℕ) → has_slot m r ≡ true → giver t cs r ≡ at m.slot_cell (slot_of m r)
  unfolding giver
  giver_is r e =
      let K = shown_holds S in
      let h = true_has m r e in
      let c = at m.slot_cell (slot_of m r) in
      let inside = K.place r h in
      sym (first_bad_is (λ i. not (member r (outline_rows t (at cs i)))) (length cs) (record {
        within = omega arith;
        before = λ k l. ap not (member_false r (outline_rows t (at cs k)) (λ i.
            let q = fresh_at cs S.proper.distinct k c (omega arith) inside
            (S.proper.apart (at cs k) (at cs c) r (mem_at cs k (omega arith)) (mem_at cs c inside) i (K.gives r h)) in
            omega arith));
        here = λ _. ap not (member_true (K.gives r h));
      }))

  pub group_is : (r : ℕ) → has_slot m r ≡ true → group_at (view t m) r ≡ ring_group t cs (ring (row_count t) (successor t cs) r)
  unfolding ring_group ring
  group_is r e = shown_group S r e ∙ ap (group_place t cs) (sym (giver_is r e))

  pub shown_groups : map (group_at (view t m)) (lowest_rows (view t m)) ≡ map (ring_group t cs) (rings t cs)
  unfolding rings
  shown_groups =
      map_cong (λ r. has_slot m r ≡ true) (group_at (view t m)) (λ r. ring_group t cs (ring (row_count t) (successor t cs) r)) group_is (lowest_rows (view t m)) (starts_have S)
      ∙ ap (map (λ r. ring_group t cs (ring (row_count t) (successor t cs) r))) (shown_starts S)
      ∙ sym (map-map (ring_group t cs) (ring (row_count t) (successor t cs)) (starts t cs))

  -- POLYGONS: as many as groups with a ring
  pub shown_polygons : polygon_count (view t m) ≡ length (polygons t cs)
  unfolding polygons
  shown_polygons =
      sound_polygons S.sound
      ∙ ap (λ (l : List ℕ). length (below (λ g. member g l) (held m))) shown_groups
      ∙ ap (λ (n : ℕ). length (below (λ g. member g (map (ring_group t cs) (rings t cs))) n)) (shown_count S)

  -- RINGS
  pub shown_ring_count : length (lowest_rows (view t m)) ≡ length (rings t cs)
  shown_ring_count = sym (map_length (ring_at (view t m)) (lowest_rows (view t m))) ∙ ap length (shown_rings S)

  -- what read out answers: without a ring, nothing or closed, both counts are 0
  answered : (polygons_of (read_answer (view t m)) ≡ polygon_count (view t m)) × (rings_of (read_answer (view t m)) ≡ length (lowest_rows (view t m)))
  unfolding read_answer polygons_of rings_of
  answered = go (eqb (held m) 0) (eqb (length (lowest_rows (view t m))) 0) refl refl
    where
      some : Answer
      some = Ok (Outline (polygon_count (view t m)) (length (lowest_rows (view t m))) (area_at (view t m) (head_or 0 (ordered (view t m)))))

      empty : length (lowest_rows (view t m)) ≡ 0 → (0 ≡ polygon_count (view t m)) × (0 ≡ length (lowest_rows (view t m)))
      empty e = (few e, sym e)
        where
          few : length (lowest_rows (view t m)) ≡ 0 → 0 ≡ polygon_count (view t m)
          few e = unfold polygon_count in (let k = keep_length (λ r. eqb (outer_at (view t m) r) r) (lowest_rows (view t m)) in omega arith)

      go : (b c : Bool) → eqb (held m) 0 ≡ b → eqb (length (lowest_rows (view t m))) 0 ≡ c
          → (polygons_of (cond b (Ok Nothing) (cond c (Ok Closed) some)) ≡ polygon_count (view t m))
          × (rings_of (cond b (Ok Nothing) (cond c (Ok Closed) some)) ≡ length (lowest_rows (view t m)))
      go true c e d = let z = eqb-true (held m) 0 e in empty (none (lowest_rows (view t m)) (λ r i. let k = ring_held S.sound r i in omega arith))
      go false true e d = empty (eqb-true (length (lowest_rows (view t m))) 0 d)
      go false false e d = (refl, refl)

  pub shown_counts : (polygons_of (read_answer (view t m)) ≡ length (polygons t cs)) × (rings_of (read_answer (view t m)) ≡ length (rings t cs))
  shown_counts = (answered.0 ∙ shown_polygons, answered.1 ∙ shown_ring_count)

-- ---- after any run of calls

module _ (t : Table) (m : Memory) (mode : ℕ) (calls : List Call) (checked : table_verdict t ≡ Ok tt) (fits : lengths_fit t m ≡ true) where
  abbrev k : Memory
  k = (ran t mode m calls).memory

  -- THE COUNTS
  pub run_counts : (o : Output) → read_verdict t (ran t mode m calls).memory o ≡ Ok tt
      → (polygons_of (reading_out t (ran t mode m calls).memory o).answer ≡ length (polygons t (ran t mode m calls).cells))
      × (rings_of (reading_out t (ran t mode m calls).memory o).answer ≡ length (rings t (ran t mode m calls).cells))
  unfolding reading_out
  run_counts o e =
      let c = shown_counts (ran_shown t m mode calls checked fits) in
      let a : (reading (read_verdict t k o) (read_from t k o) k o).answer ≡ read_answer (view t k) = ap (λ (v : Verdict). (reading v (read_from t k o) k o).answer) e in
      (ap polygons_of a ∙ c.0, ap rings_of a ∙ c.1)
