-- Free slots plus standing edges equal the pool's size.
--     count_both      of the numbers below n each passes a test or fails it
--     used_count      as many slots are used as rows stand
--     pool_count      THE POOL'S SIZE
-- Assumes nothing.
use mathlib.Core.Path.{◌≡◌, refl, sym, ◌∙◌, ap}
use mathlib.Core.Logic.{⊎_elim}
use mathlib.Core.Bool.{Bool, true, false, not}
use mathlib.Core.List.{List, [], ◌∷◌, Memᴰ}
use Prim.Native.Nat.{ℕ, zero, suc, ◌+◌}
use native.Mathlib.Omega.{arith}
use lib.ListN.{length, length-append}
use Rattle.scope.specs.Lists.{below}
use Rattle.scope.specs.Table.{Table}
use Rattle.scope.specs.Memory.{Memory, slots, is_used, row_in, slot_of}
use Rattle.scope.specs.Pool.{free_slots}
use Rattle.scope.specs.Afresh.{standing_rows}
use Rattle.scope.proofs.Tests.{either}
use Rattle.scope.proofs.Members.{below_mem, mem_below, below_fresh}
use Rattle.scope.proofs.Pigeonhole.{one_to_one}
use Rattle.scope.proofs.Proper.{Proper}
use Rattle.scope.proofs.Agree.{rows_fresh}
use Rattle.scope.proofs.Linked.{at_in, Used, Has, used_true, true_used, Linked, slot_used, row_has, row_slot, slot_row}
use Rattle.scope.proofs.States.{Holds}
use Rattle.scope.proofs.StateOf.{state_of}
use Rattle.scope.proofs.History.{rows_afresh}

pub count_both : (ok : ℕ → Bool) (n : ℕ) → length (below (λ i. not (ok i)) n) + length (below ok n) ≡ n
unfolding below
count_both ok zero = refl
count_both ok (suc n) = ⊎_elim
    (λ (t : ok n ≡ true). rw t (let e = length-append (below ok n) (n ∷ []) in let h = count_both ok n in omega arith))
    (λ (t : ok n ≡ false). rw t (let e = length-append (below (λ i. not (ok i)) n) (n ∷ []) in let h = count_both ok n in omega arith))
    (either (ok n))

module _ {t : Table} {m : Memory} {cs : List ℕ} (P : Proper t cs) (L : Linked t m) (K : Holds t cs (state_of m)) where
  used : (s : ℕ) → Memᴰ s (below (is_used m) (slots m)) → Used m s
  used s i = true_used m s (mem_below (is_used m) (slots m) s i).1

  has : (r : ℕ) → Memᴰ r (standing_rows t cs) → Has m r
  has r i = (rows_afresh P K r).1 i

  pub used_count : length (below (is_used m) (slots m)) ≡ length (standing_rows t cs)
  used_count =
      let a = one_to_one (row_in m) (below (is_used m) (slots m)) (standing_rows t cs) (below_fresh (is_used m) (slots m))
      (λ s i. (rows_afresh P K (row_in m s)).0 (row_has L s (used s i)))
      (λ s u i j e. sym (slot_row L s (used s i)) ∙ ap (slot_of m) e ∙ slot_row L u (used u j)) in
      let b = one_to_one (slot_of m) (standing_rows t cs) (below (is_used m) (slots m)) (rows_fresh t cs)
      (λ r i. let v = slot_used L r (has r i) in below_mem (is_used m) (slots m) (slot_of m r) (at_in m.slot_row (slot_of m r) v) (used_true m (slot_of m r) v))
      (λ r q i j e. sym (row_slot L r (has r i)) ∙ ap (row_in m) e ∙ row_slot L q (has q j)) in
      omega arith

  -- THE POOL'S SIZE
  pub pool_count : length (free_slots m) + length (standing_rows t cs) ≡ slots m
  unfolding free_slots
  pool_count = let e = used_count in let c = count_both (is_used m) (slots m) in omega arith
