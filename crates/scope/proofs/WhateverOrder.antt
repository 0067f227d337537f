-- IN WHATEVER ORDER: two shown states of the same cells, in whatever order they came, hold the same rows, links and groups, and are read out
-- alike. After any run of calls the state is shown (Run).
--     order_rows, order_links     the same rows have a slot, with the same next rows
--     order_cells                 in the name of the same cells
--     order_groups                two cells have one root in both or in neither
--     order_views                 so what read out depends on is the same: rings, areas and their order (ViewsAlike)
--     order_answer                and so is its answer
--     runs_alike                  the same for two runs of calls that have accepted the same cells
-- Assumes nothing.
use mathlib.Core.Path.{◌≡◌, refl, sym, ◌∙◌, ap, subst}
use mathlib.Core.Logic.{◌↔◌}
use mathlib.Core.Bool.{true}
use mathlib.Core.List.Memᴰ
use mathlib.Core.List.{List, [], ◌∷◌}
use Prim.Native.Nat.{ℕ, ◌<◌}
use native.Mathlib.Omega.{arith}
use lib.Dec.{eqb}
use lib.ListN.{length}
use borrow.Author.Tests.{eq-eqb, ne_eqb, eqb-true}
use Rattle.std.specs.Prelude.{Ok}
use Rattle.scope.specs.Lists.{at}
use Rattle.scope.specs.Table.{Table, table_verdict}
use Rattle.scope.specs.Standing.{OneGroup}
use Rattle.scope.specs.UnionFind.{root_of}
use Rattle.scope.specs.Memory.{Memory, has_slot, slot_of, lengths_fit}
use Rattle.scope.specs.Order.{view, group_at, read_answer}
use Rattle.scope.specs.Demands.{Call}
use Rattle.scope.proofs.Tests.{same}
use Rattle.scope.proofs.Members.{mem_at}
use Rattle.scope.proofs.Proper.{SameMembers}
use Rattle.scope.proofs.OrderFree.{group_free}
use Rattle.scope.proofs.Groups.{group_agrees}
use Rattle.scope.proofs.States.{Holds}
use Rattle.scope.proofs.StateOf.{state_of}
use Rattle.scope.proofs.History.{same_rows, same_links, same_groups}
use Rattle.scope.proofs.Linked.{has_true, true_has}
use Rattle.scope.proofs.Cancelling.{row_after}
use Rattle.scope.proofs.TakingCells.{Shown}
use Rattle.scope.proofs.TakingShows.{shown_count, shown_holds}
use Rattle.scope.proofs.ViewsAlike.{Alike, alike_answer}
use Rattle.scope.proofs.Run.{ran, ran_shown}
use Rattle.scope.proofs.ShownAfresh.{view_turns, shown_group}

module _ {t : Table} {m k : Memory} {cs ds : List ℕ} (S : Shown t m cs) (T : Shown t k ds) (E : SameMembers cs ds) where
  K : Holds t cs (state_of m)
  K = shown_holds S

  L : Holds t ds (state_of k)
  L = shown_holds T

  back : SameMembers ds cs
  back = (E.1, E.0)

  pub order_rows : (a : ℕ) → has_slot k a ≡ has_slot m a
  order_rows a = same (has_slot k a) (has_slot m a)
      (λ e. has_true m a (same_rows T.proper S.proper back L K a (true_has k a e)))
      (λ e. has_true k a (same_rows S.proper T.proper E K L a (true_has m a e)))

  pub order_links : (a : ℕ) → has_slot m a ≡ true → row_after k a ≡ row_after m a
  order_links a e = sym (same_links S.proper T.proper E K L a (true_has m a e))

  pub order_cells : (a : ℕ) → has_slot m a ≡ true → at ds (at k.slot_cell (slot_of k a)) ≡ at cs (at m.slot_cell (slot_of m a))
  order_cells a e =
      let h = true_has m a e in
      let g = same_rows S.proper T.proper E K L a h in
      S.proper.apart (at ds (at k.slot_cell (slot_of k a))) (at cs (at m.slot_cell (slot_of m a))) a
      (E.1 _ (mem_at ds _ (L.place a g))) (mem_at cs _ (K.place a h)) (L.gives a g) (K.gives a h)

  pub order_groups : (i j p q : ℕ) → i < length cs → j < length cs → p < length ds → q < length ds → at cs i ≡ at ds p → at cs j ≡ at ds q
      → (root_of m.parent i ≡ root_of m.parent j) ↔ (root_of k.parent p ≡ root_of k.parent q)
  order_groups = same_groups S.proper T.proper E K L

  -- ---- read out

  group_tests : (q r : ℕ) → has_slot m q ≡ true → has_slot m r ≡ true → eqb (group_at (view t k) q) (group_at (view t k) r) ≡ eqb (group_at (view t m) q) (group_at (view t m) r)
  group_tests q r d e = same _ _
      (λ b. eq-eqb _ _ (shown_group S q d ∙ (group_agrees t cs S.proper.distinct i j hi hj).1
      (move (group_free t E.1 ((group_agrees t ds T.proper.distinct p u hp hu).0 (sym (shown_group T q d') ∙ eqb-true _ _ b ∙ shown_group T r e')))) ∙ sym (shown_group S r e)))
      (λ b. eq-eqb _ _ (shown_group T q d' ∙ (group_agrees t ds T.proper.distinct p u hp hu).1
      (movb (group_free t E.0 ((group_agrees t cs S.proper.distinct i j hi hj).0 (sym (shown_group S q d) ∙ eqb-true _ _ b ∙ shown_group S r e)))) ∙ sym (shown_group T r e')))
    where
      d' : has_slot k q ≡ true
      d' = order_rows q ∙ d

      e' : has_slot k r ≡ true
      e' = order_rows r ∙ e

      i : ℕ
      i = at m.slot_cell (slot_of m q)

      j : ℕ
      j = at m.slot_cell (slot_of m r)

      p : ℕ
      p = at k.slot_cell (slot_of k q)

      u : ℕ
      u = at k.slot_cell (slot_of k r)

      hi : i < length cs
      hi = K.place q (true_has m q d)

      hj : j < length cs
      hj = K.place r (true_has m r e)

      hp : p < length ds
      hp = L.place q (true_has k q d')

      hu : u < length ds
      hu = L.place r (true_has k r e')

      move : OneGroup t cs (at ds p) (at ds u) → OneGroup t cs (at cs i) (at cs j)
      move g = subst (OneGroup t cs (at cs i)) (order_cells r e) (subst (λ (x : ℕ). OneGroup t cs x (at ds u)) (order_cells q d) g)

      movb : OneGroup t ds (at cs i) (at cs j) → OneGroup t ds (at ds p) (at ds u)
      movb g = subst (OneGroup t ds (at ds p)) (sym (order_cells r e)) (subst (λ (x : ℕ). OneGroup t ds x (at cs j)) (sym (order_cells q d)) g)

  pub order_views : Alike (view t m) (view t k)
  order_views = record {
    rows = T.sound.lengths.row_slot ∙ sym S.sound.lengths.row_slot;
    stands = order_rows;
    turns = view_turns S;
    links = order_links;
    groups = group_tests;
    terms = refl;
  }

  pub order_answer : read_answer (view t k) ≡ read_answer (view t m)
  order_answer = alike_answer order_views (ap (λ (n : ℕ). eqb n 0) (shown_count T) ∙ none cs ds E ∙ sym (ap (λ (n : ℕ). eqb n 0) (shown_count S)))
    where
      none : (cs ds : List ℕ) → SameMembers cs ds → eqb (length ds) 0 ≡ eqb (length cs) 0
      none [] [] E = refl
      none [] (y ∷ ds) E = absurd (Memᴰ.not-nil (E.1 y (Memᴰ.head refl)))
      none (x ∷ cs) [] E = absurd (Memᴰ.not-nil (E.0 x (Memᴰ.head refl)))
      none (x ∷ cs) (y ∷ ds) E = ne_eqb (length (y ∷ ds)) 0 (omega arith) ∙ sym (ne_eqb (length (x ∷ cs)) 0 (omega arith))

-- what two runs of calls over one table, each in a memory of its own, have left
pub record Runs (t : Table) (m k : Memory) (cs ds : List ℕ) : Type 0 where
  pub rows : (a : ℕ) → has_slot k a ≡ has_slot m a
  pub links : (a : ℕ) → has_slot m a ≡ true → row_after k a ≡ row_after m a
  pub groups : (i j p q : ℕ) → i < length cs → j < length cs → p < length ds → q < length ds → at cs i ≡ at ds p → at cs j ≡ at ds q
      → (root_of m.parent i ≡ root_of m.parent j) ↔ (root_of k.parent p ≡ root_of k.parent q)
  pub views : Alike (view t m) (view t k)
  pub answer : read_answer (view t k) ≡ read_answer (view t m)

pub runs_alike : (t : Table) (m k : Memory) (mode mode' : ℕ) (calls calls' : List Call) → table_verdict t ≡ Ok tt → lengths_fit t m ≡ true → lengths_fit t k ≡ true
    → SameMembers (ran t mode m calls).cells (ran t mode' k calls').cells
    → Runs t (ran t mode m calls).memory (ran t mode' k calls').memory (ran t mode m calls).cells (ran t mode' k calls').cells
runs_alike t m k mode mode' calls calls' e l l' E =
    let S = ran_shown t m mode calls e l in
    let T = ran_shown t k mode' calls' e l' in
    record { rows = order_rows S T E; links = order_links S T E; groups = order_groups S T E; views = order_views S T E; answer = order_answer S T E }
