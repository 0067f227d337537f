-- ONE MORE CELL, BY CELLS: what a run of calls keeps, and the list of cells with an accepted one.
--     Shown t m cs     the state is sound, the cells are proper, and the state shows them: what a run of calls keeps
--     fresh_from       a list that is different at each place has no member twice
--     proper_more      with an accepted cell the held cells are proper
-- Assumes nothing.
use mathlib.Core.Path.{◌≡◌, sym, ◌∙◌, subst}
use mathlib.Core.Logic.{◌⊎◌, inl, inr}
use mathlib.Core.List.Memᴰ
use mathlib.Core.List.{List, [], ◌∷◌, ◌++◌, Memᴰ}
use Prim.Native.Nat.{ℕ, suc, ◌<◌}
use native.Mathlib.Omega.{arith}
use lib.ListN.{length}
use Rattle.scope.specs.Lists.{at}
use Rattle.scope.specs.Table.{Table, row_count, outline_rows}
use Rattle.scope.specs.Memory.{Memory, held_cells}
use Rattle.scope.specs.Demands.{Shows}
use Rattle.scope.proofs.Members.{Fresh, place}
use Rattle.scope.proofs.Proper.{Proper}
use Rattle.scope.proofs.Owning.{outlines_apart}
use Rattle.scope.proofs.Sound.{Sound, Offered, offered_cells, offered_outline}

pub record Shown (t : Table) (m : Memory) (cs : List ℕ) : Type 0 where
  pub sound : Sound t m
  pub proper : Proper t cs
  pub shows : Shows t m cs

-- different at each place
pub fresh_from : (l : List ℕ) → ((i j : ℕ) → i < length l → j < length l → at l i ≡ at l j → i ≡ j) → Fresh l
fresh_from [] f = tt
fresh_from (x ∷ l) f = (
  λ m. let q = place m in let e : 0 ≡ suc q.0 = f 0 (suc q.0) (omega arith) (omega (arith, q.1)) (sym q.2) in omega arith,
  fresh_from l (λ i j h k e. let z : suc i ≡ suc j = f (suc i) (suc j) (omega arith) (omega arith) e in omega arith),
)

module _ {t : Table} {m : Memory} {x : ℕ} (P : Proper t (held_cells m)) (O : Offered t m x) where
  abbrev cs : List ℕ
  cs = held_cells m

  pub proper_more : Proper t (held_cells m ++ (x ∷ []))
  proper_more = record {
    reverses = P.reverses;
    distinct = fresh_from (cs ++ (x ∷ [])) (offered_cells O).once;
    in_table = λ y a i k. in_row y a k (Memᴰ.append_cases cs i);
    once = λ y i. in_once y (Memᴰ.append_cases cs i);
    apart = λ y z a i j k l.
        let p = place i in
        let q = place j in
        sym p.2 ∙ outlines_apart (offered_cells O) t p.0 q.0 a p.1 q.1 (subst (λ (w : ℕ). Memᴰ a (outline_rows t w)) (sym p.2) k)
        (subst (λ (w : ℕ). Memᴰ a (outline_rows t w)) (sym q.2) l) (in_row y a k (Memᴰ.append_cases cs i)) ∙ q.2;
  }
    where
      in_row : (y a : ℕ) → Memᴰ a (outline_rows t y) → Memᴰ y (held_cells m) ⊎ Memᴰ y (x ∷ []) → a < row_count t
      in_row y a k (inl i) = P.in_table y a i k
      in_row y a k (inr i) = (offered_outline O).in_table a (subst (λ (w : ℕ). Memᴰ a (outline_rows t w)) (Memᴰ.eq_of_singleton i) k)

      in_once : (y : ℕ) → Memᴰ y (held_cells m) ⊎ Memᴰ y (x ∷ []) → Fresh (outline_rows t y)
      in_once y (inl i) = P.once y i
      in_once y (inr i) = subst (λ (w : ℕ). Fresh (outline_rows t w)) (sym (Memᴰ.eq_of_singleton i)) (offered_outline O).once
