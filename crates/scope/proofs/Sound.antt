-- A state that passes 10, 1 and 9, and a cell that it accepts: what each has, by name.
--     Sound t m             the table passes 1, the lengths fit, the state keeps the rules; `sound_from`, `sound_state`: from the tests
--     sound_table, sound_reverses, sound_linked, sound_cells     what the laws of tables, successors, cancelling and outlines ask for
--     Offered t m x         the state is sound and accepts the cell; `offered`: from `offer_verdict`
--     offered_cells, offered_outline     the held cells with it pass as a list; its outline can be placed
-- Assumes nothing.
use mathlib.Core.Path.{◌≡◌, sym, ◌∙◌, ap, subst}
use mathlib.Core.Bool.{true, not}
use mathlib.Core.List.{[], ◌∷◌, ◌++◌, Memᴰ}
use Prim.Native.Nat.{ℕ, suc, ◌<◌}
use native.Mathlib.Omega.{arith}
use lib.Dec.{ltb}
use lib.ListN.{length, length-append, get_or-append}
use lib.Seq.{length-take-le, get_or-take, get_or-append_seam}
use borrow.Author.Tests.{eq-eqb, ltb-true, leb-true, not-true}
use Rattle.scope.specs.declared.Refusal.TheVariants.{EdgeNotInTable, EdgeTwice, PoolFull, BrokenState, BadLengths}
use Rattle.std.specs.Prelude.{Ok}
use Rattle.scope.specs.Lists.{at}
use Rattle.scope.specs.Answers.{require}
use Rattle.scope.specs.Cells.{valid_cell, owner_of}
use Rattle.scope.specs.Table.{Table, row_count, reverse_of, target_of, table_verdict, outline_rows}
use Rattle.scope.specs.CellLists.{cell_verdict}
use Rattle.scope.specs.Memory.{Memory, kept_mode, held, held_cells, places, slot_of, row_in, lengths_fit}
use Rattle.scope.specs.Rules.{rules_kept}
use Rattle.scope.specs.Pool.{all_in_table, names_twice, enough_slots, outline_verdict}
use Rattle.scope.specs.Calls.{state_verdict, offer_verdict}
use Rattle.scope.proofs.Scan.{passes_at}
use Rattle.scope.proofs.Verdicts.{first_accepts, second_accepts, both_accept, require_holds, require_accepts}
use Rattle.scope.proofs.CellLists.{ListGood, list_good}
use Rattle.scope.proofs.CellOffers.{offer_is_list}
use Rattle.scope.proofs.Rules.{RulesGood, rules_good}
use Rattle.scope.proofs.RulesKept.{rules_kept_lem}
use Rattle.scope.proofs.Members.{place, fresh_test}
use Rattle.scope.proofs.Successor.{Reverses}
use Rattle.scope.proofs.Tables.{TableGood, table_good}
use Rattle.scope.proofs.Tests.{and_both}
use Rattle.scope.proofs.Owning.{Owned, owned_test, one_cell, outline_owned}
use Rattle.scope.proofs.Lengths.{Lengths, lengths_good, lengths_kept}
use Rattle.scope.proofs.Linked.{at_in, Used, Has, Linked, slot_used, row_slot}
use Rattle.scope.proofs.Placed.{Placeable}

pub record Sound (t : Table) (m : Memory) : Type 0 where
  pub table : table_verdict t ≡ Ok tt
  pub lengths : Lengths t m
  pub rules : RulesGood t m

pub sound_from : (t : Table) (m : Memory) → table_verdict t ≡ Ok tt → lengths_fit t m ≡ true → rules_kept t m ≡ true → Sound t m
sound_from t m e l r = record { table = e; lengths = lengths_good t m l; rules = rules_good t m r }

pub sound_state : (t : Table) (m : Memory) → state_verdict t m ≡ Ok tt → Sound t m
unfolding state_verdict
sound_state t m e =
    let e₂ = second_accepts (require (lengths_fit t m) BadLengths) _ e in
    sound_from t m (first_accepts _ _ e₂) (require_holds _ BadLengths (first_accepts _ _ e)) (require_holds _ BrokenState (second_accepts (table_verdict t) _ e₂))

pub state_sound : {t : Table} {m : Memory} → Sound t m → state_verdict t m ≡ Ok tt
unfolding state_verdict
state_sound {t} {m} S = both_accept _ _ (require_accepts _ BadLengths (lengths_kept t m S.lengths))
    (both_accept _ _ S.table (require_accepts _ BrokenState (rules_kept_lem t m S.rules)))

module _ {t : Table} {m : Memory} (S : Sound t m) where
  pub sound_table : TableGood t
  sound_table = table_good t (and_both _ _ (eq-eqb _ _ S.lengths.reverse) (eq-eqb _ _ S.lengths.area)) S.table

  pub sound_reverses : Reverses (λ a. a < row_count t) (reverse_of t)
  sound_reverses = sound_table.reverses

  pub sound_linked : Linked t m
  sound_linked =
      let used : (s : ℕ) → Used m s → _ = λ s u. S.rules.slot_used s (at_in m.slot_row s u) u in
      record {
        row_count = S.lengths.row_slot;
        row_held = λ r h. (S.rules.row_held r (at_in m.row_slot r h) h).holds;
        slot_held = λ s u. (used s u).back;
        next_used = λ s u. (used s u).next_used;
        prev_used = λ s u. (used s u).prev_used;
        prev_next = λ s u. (used s u).prev_next;
        next_prev = λ s u. (used s u).next_prev;
      }

  -- no row and its reverse are both held
  pub none_both : (a : ℕ) → Has m a → Has m (reverse_of t a) → ⊥
  none_both a h k =
      let u = slot_used sound_linked a h in
      k (subst (λ (r : ℕ). at m.row_slot (reverse_of t r) ≡ 0) (row_slot sound_linked a h) (S.rules.slot_used (slot_of m a) (at_in m.slot_row (slot_of m a) u) u).reverse_free)

  pub held_count : length (held_cells m) ≡ held m
  held_count = length-take-le (held m) m.cells S.rules.count_fits

  pub held_at : (i : ℕ) → i < held m → at (held_cells m) i ≡ at m.cells i
  held_at i h = get_or-take (held m) m.cells i 0 h

  pub sound_cells : ListGood (kept_mode m) (target_of t) (held m) (held_cells m)
  sound_cells = list_good (kept_mode m) (target_of t) (held m) (held_cells m) S.rules.cells_pass

-- ---- a cell that is accepted

pub record Offered (t : Table) (m : Memory) (x : ℕ) : Type 0 where
  pub sound : Sound t m
  pub cell : cell_verdict (kept_mode m) (target_of t) (places m) (held_cells m) x ≡ Ok tt
  pub outline : outline_verdict t m (outline_rows t x) ≡ Ok tt

pub offered : (t : Table) (m : Memory) (x : ℕ) → offer_verdict t m x ≡ Ok tt → Offered t m x
unfolding offer_verdict
offered t m x e =
    let e₂ = second_accepts (state_verdict t m) _ e in
    record { sound = sound_state t m (first_accepts _ _ e); cell = first_accepts _ _ e₂; outline = second_accepts (cell_verdict (kept_mode m) (target_of t) (places m) (held_cells m) x) _ e₂ }

module _ {t : Table} {m : Memory} {x : ℕ} (O : Offered t m x) where
  -- the held cells with the new one
  pub offered_cells : ListGood (kept_mode m) (target_of t) (places m) (held_cells m ++ (x ∷ []))
  offered_cells = list_good _ _ _ _
      (sym (offer_is_list (kept_mode m) (target_of t) (held m) (places m) (held_cells m) x O.sound.rules.cells_pass) ∙ O.cell)

  pub more_count : length (held_cells m ++ (x ∷ [])) ≡ suc (held m)
  more_count = length-append (held_cells m) (x ∷ []) ∙ (let e = held_count O.sound in omega arith)

  pub more_old : (i : ℕ) → i < held m → at (held_cells m ++ (x ∷ [])) i ≡ at m.cells i
  more_old i h = get_or-append (held_cells m) (x ∷ []) 0 i (rw (held_count O.sound) h) ∙ held_at O.sound i h

  pub more_new : at (held_cells m ++ (x ∷ [])) (held m) ≡ x
  more_new = ap (at (held_cells m ++ (x ∷ []))) (sym (held_count O.sound)) ∙ get_or-append_seam (held_cells m) x [] 0

  pub offered_valid : valid_cell x ≡ true
  offered_valid = subst (λ (y : ℕ). valid_cell y ≡ true) more_new (offered_cells.valid (held m) (rw more_count (omega arith)))

  pub offered_room : held m < places m
  offered_room = let r = offered_cells.room in let e = more_count in omega arith

  -- a row of the outline has no slot: its cell would be held already
  row_new : (a : ℕ) → Memᴰ a (outline_rows t x) → Has m a → ⊥
  row_new a i h =
      let L = sound_linked O.sound in
      let s = slot_of m a in
      let u = slot_used L a h in
      let w = O.sound.rules.slot_used s (at_in m.slot_row s u) u in
      let row : row_in m s ≡ a = row_slot L a h in
      let c = at m.slot_cell s in
      let low : c < suc (held m) = omega (arith, w.cell_held) in
      let g = offered_cells in
      let k : c < length (held_cells m ++ (x ∷ [])) = rw more_count low in
      let n : held m < length (held_cells m ++ (x ∷ [])) = rw more_count (omega arith) in
      let y : at (held_cells m ++ (x ∷ [])) c ≡ at m.cells c = more_old c w.cell_held in
      let old : Owned (owner_of (at t.edges a)) (at (held_cells m ++ (x ∷ [])) c) =
      subst (λ (r : ℕ). Owned (owner_of (at t.edges r)) (at (held_cells m ++ (x ∷ [])) c)) row (rw y (owned_test _ _ w.owned)) in
      let inside : a < row_count t = subst (λ (r : ℕ). r < row_count t) row w.row_within in
      let new : Owned (owner_of (at t.edges a)) (at (held_cells m ++ (x ∷ [])) (held m)) = rw more_new (outline_owned t x a offered_valid i inside) in
      let same = one_cell (owner_of (at t.edges a)) _ _ (g.valid c k) (g.valid (held m) n) (g.apart c (held m) k n) (g.apart (held m) c n k) old new in
      let e = g.once c (held m) k n same in
      omega (arith, w.cell_held)

  pub offered_outline : Placeable t m (outline_rows t x)
  unfolding outline_verdict
  offered_outline =
      let o = outline_rows t x in
      let e₂ = second_accepts (require (all_in_table t o) (EdgeNotInTable (held m))) _ O.outline in
      let all = require_holds (all_in_table t o) (EdgeNotInTable (held m)) (first_accepts _ _ O.outline) in
      record {
        once = fresh_test o (not-true (names_twice o) (require_holds (not (names_twice o)) (EdgeTwice (held m)) (first_accepts _ _ e₂)));
        in_table = λ a i.
            let q = place i in
            let l : at o q.0 < row_count t = ltb-true _ _ (passes_at (λ k. ltb (at o k) (row_count t)) (length o) all q.0 q.1) in
            rw q.2 at l;
        none_held = row_new;
        room = leb-true _ _ (require_holds (enough_slots m o) (PoolFull (held m)) (second_accepts (require (not (names_twice o)) (EdgeTwice (held m))) _ e₂));
      }
