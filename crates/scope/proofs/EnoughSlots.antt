-- A POOL THAT IS ALWAYS LARGE ENOUGH: as many slots as the table has rows.
--     rows_apart      no row of an offered cell's outline has a slot
--     slots_enough    so that 7 is never given: an offer that gets to its outline is refused by 5 or 6 alone
-- Assumes nothing.
use Prim.Native.Nat.{ℕ, suc, ◌+◌, ◌≤◌, ◌<◌}
use mathlib.Core.Path.{◌≡◌, refl, sym, ◌∙◌, ap}
use mathlib.Core.Bool.{Bool, true, false, not}
use mathlib.Core.List.{List, [], ◌∷◌, ◌++◌, Memᴰ}
use native.Mathlib.Omega.{arith}
use lib.Dec.{ltb}
use lib.ListN.{length, length-append, get_or-append}
use lib.Seq.{get_or-append_seam}
use borrow.Author.Tests.{ltb-true, le-leb}
use Rattle.scope.specs.declared.Refusal.TheVariants.{EdgeNotInTable, EdgeTwice, PoolFull}
use Rattle.std.specs.Prelude.{Ok}
use Rattle.scope.specs.Lists.{at, below, member}
use Rattle.scope.specs.Answers.{require, ◌▷◌}
use Rattle.scope.specs.Cells.{owner_of}
use Rattle.scope.specs.Table.{Table, row_count, target_of, outline_rows}
use Rattle.scope.specs.CellLists.{cell_verdict}
use Rattle.scope.specs.Memory.{Memory, kept_mode, held, held_cells, places, slots, is_used, row_in}
use Rattle.scope.specs.Pool.{free_slots, all_in_table, names_twice, enough_slots, outline_verdict}
use Rattle.scope.proofs.Scan.{passes_at}
use Rattle.scope.proofs.Members.{place, fresh_test, member_true, member_false, below_mem, mem_below, below_fresh}
use Rattle.scope.proofs.Pigeonhole.{fresh_within, one_to_one}
use Rattle.scope.proofs.PoolCount.{count_both}
use Rattle.scope.proofs.CellLists.{ListGood, list_good}
use Rattle.scope.proofs.CellOffers.{offer_is_list}
use Rattle.scope.proofs.Owning.{Owned, owned_test, one_cell, outline_owned}
use Rattle.scope.proofs.Linked.{true_used}
use Rattle.scope.proofs.Sound.{Sound, held_count, held_at}

module _ {t : Table} {m : Memory} (S : Sound t m) (x : ℕ) (cell : cell_verdict (kept_mode m) (target_of t) (places m) (held_cells m) x ≡ Ok tt) where
  abbrev more : List ℕ
  more = held_cells m ++ (x ∷ [])

  good : ListGood (kept_mode m) (target_of t) (places m) more
  good = list_good _ _ _ _ (sym (offer_is_list (kept_mode m) (target_of t) (held m) (places m) (held_cells m) x S.rules.cells_pass) ∙ cell)

  more_count : length more ≡ suc (held m)
  more_count = length-append (held_cells m) (x ∷ []) ∙ (let e = held_count S in omega arith)

  more_old : (c : ℕ) → c < held m → at more c ≡ at m.cells c
  more_old c h = get_or-append (held_cells m) (x ∷ []) 0 c (rw (held_count S) h) ∙ held_at S c h

  more_new : at more (held m) ≡ x
  more_new = ap (at more) (sym (held_count S)) ∙ get_or-append_seam (held_cells m) x [] 0

  -- its cell would be the offered one, and held already
  pub rows_apart : (s : ℕ) → s < slots m → is_used m s ≡ true → Memᴰ (row_in m s) (outline_rows t x) → ⊥
  rows_apart s h u i =
      let w = S.rules.slot_used s h (true_used m s u) in
      let c = at m.slot_cell s in
      let l : c < held m = w.cell_held in
      let n = more_count in
      let owner = owner_of (at t.edges (row_in m s)) in
      let first : c < length more = omega arith in
      let last : held m < length more = omega arith in
      let old : Owned owner (at more c) = rw (more_old c l) (owned_test _ _ w.owned) in
      let valid = good.valid (held m) last in
      let new : Owned owner (at more (held m)) = outline_owned t (at more (held m)) (row_in m s) valid (rw more_new i) w.row_within in
      let same = one_cell owner (at more c) (at more (held m)) (good.valid c first) valid (good.apart c (held m) first last) (good.apart (held m) c last first) old new in
      let e = good.once c (held m) first last same in
      omega arith

  abbrev o : List ℕ
  o = outline_rows t x

  room : row_count t ≤ slots m → all_in_table t o ≡ true → names_twice o ≡ false → length o ≤ length (free_slots m)
  unfolding free_slots
  room h all once =
      let inside : (a : ℕ) → Memᴰ a o → a < row_count t = λ a i.
      let q = place i in let l : at o q.0 < row_count t = ltb-true _ _ (passes_at (λ k. ltb (at o k) (row_count t)) (length o) all q.0 q.1) in rw q.2 at l in
      let ours = fresh_within o (below (λ a. member a o) (row_count t)) (fresh_test o once) (λ a i. below_mem (λ b. member b o) (row_count t) a (inside a i) (member_true i)) in
      let used = below (is_used m) (slots m) in
      let theirs = one_to_one (row_in m) used (below (λ a. not (member a o)) (row_count t)) (below_fresh (is_used m) (slots m))
      (λ s i.
      let q = mem_below (is_used m) (slots m) s i in
      below_mem (λ a. not (member a o)) (row_count t) (row_in m s) (S.rules.slot_used s q.0 (true_used m s q.1)).row_within
      (ap not (member_false (row_in m s) o (rows_apart s q.0 q.1))))
      (λ s u i j e.
      let q = mem_below (is_used m) (slots m) s i in let p = mem_below (is_used m) (slots m) u j in
      let a = (S.rules.slot_used s q.0 (true_used m s q.1)).back in let b = (S.rules.slot_used u p.0 (true_used m u p.1)).back in
      let z : s + 1 ≡ u + 1 = sym a ∙ ap (at m.row_slot) e ∙ b in omega arith) in
      let rows = count_both (λ a. member a o) (row_count t) in let pool = count_both (is_used m) (slots m) in
      omega arith

  pub slots_enough : row_count t ≤ slots m → outline_verdict t m o ≡ (require (all_in_table t o) (EdgeNotInTable (held m)) ▷ require (not (names_twice o)) (EdgeTwice (held m)))
  unfolding outline_verdict
  slots_enough h = go (all_in_table t o) (names_twice o) (enough_slots m o) (λ all once. le-leb _ _ (room h all once))
    where
      go : (a b c : Bool) → (a ≡ true → b ≡ false → c ≡ true)
          → (require a (EdgeNotInTable (held m)) ▷ require (not b) (EdgeTwice (held m)) ▷ require c (PoolFull (held m))) ≡ (require a (EdgeNotInTable (held m)) ▷ require (not b) (EdgeTwice (held m)))
      go false b c k = refl
      go true true c k = refl
      go true false c k = rw (k refl refl)
