-- The links ahead tell all links: where each used slot's next is used and has it as its previous, next goes around among the used slots, so
-- that each of them is some slot's next, and that one is its previous.
--     ahead_all     every slot keeps its rules with the link ahead alone, just where every slot keeps all its rules
-- Assumes nothing.
use Prim.Native.Nat.{ℕ, suc, ◌-◌}
use mathlib.Core.Path.{◌≡◌, sym, ◌∙◌, ap, subst}
use mathlib.Core.Bool.{Bool, true, false, ◌&&◌}
use mathlib.Core.Logic.{⊎_elim}
use native.Mathlib.Omega.{arith}
use lib.Dec.{eqb, ltb}
use borrow.Author.Tests.{eq-eqb, eqb-true, lt-ltb}
use Rattle.scope.specs.Lists.{at, passes}
use Rattle.scope.specs.Table.{Table}
use Rattle.scope.specs.Memory.{Memory, slots, is_used}
use Rattle.scope.specs.Rules.{points_back, cell_kept, link_used, links_kept, reverse_free, slot_kept}
use Rattle.scope.proofs.Tests.{either, same, and_left, and_right, and_both}
use Rattle.scope.proofs.Scan.{passes_at, passes_all}
use Rattle.scope.proofs.Linked.{at_in, Used, used_true, true_used}
use Rattle.scope.proofs.Cycle.{Permutes, iter, iter_in, iter_last, period}
use Rattle.slot_rules.specs.Slices.{ahead_kept, slot_ahead}

link_used_lem : (m : Memory) (s : ℕ) → Used m s → link_used m s ≡ true
link_used_lem m s u = and_both _ _ (lt-ltb s (slots m) (at_in m.slot_row s u)) (used_true m s u)

-- one test of four for another
third : (a b c d e : Bool) → (c ≡ true → e ≡ true) → (a && b && c && d) ≡ true → (a && b && e && d) ≡ true
third a b c d e f h =
    let most = and_left (a && b && c) d h in
    and_both (a && b && e) d (and_both (a && b) e (and_left (a && b) c most) (f (and_right (a && b) c most))) (and_right (a && b && c) d h)

module _ (t : Table) (m : Memory) where
  -- a slot that keeps the rules in one form keeps them in the other, where its links do
  to_ahead : (s : ℕ) → slot_kept t m s ≡ true → slot_ahead t m s ≡ true
  unfolding slot_kept slot_ahead links_kept
  to_ahead s e = ⊎_elim
      (λ (u : is_used m s ≡ true). rw u (third (points_back t m s) (cell_kept t m s) _ (reverse_free t m s) (ahead_kept m s) ahead (rw u at e)))
      (λ (u : is_used m s ≡ false). rw u (rw u at e))
      (either (is_used m s))
    where
      ahead : (link_used m (at m.prev s) && link_used m (at m.next s) && eqb (at m.next (at m.prev s)) s && eqb (at m.prev (at m.next s)) s) ≡ true → ahead_kept m s ≡ true
      ahead h =
          let three = and_left (link_used m (at m.prev s) && link_used m (at m.next s) && eqb (at m.next (at m.prev s)) s) _ h in
          let two = and_left (link_used m (at m.prev s) && link_used m (at m.next s)) _ three in
          and_both _ _ (and_right (link_used m (at m.prev s)) _ two) (and_right (link_used m (at m.prev s) && link_used m (at m.next s) && eqb (at m.next (at m.prev s)) s) _ h)

  from_ahead : (s : ℕ) → (Used m s → links_kept m s ≡ true) → slot_ahead t m s ≡ true → slot_kept t m s ≡ true
  unfolding slot_kept slot_ahead
  from_ahead s links e = ⊎_elim
      (λ (u : is_used m s ≡ true). rw u (third (points_back t m s) (cell_kept t m s) (ahead_kept m s) (reverse_free t m s) (links_kept m s) (λ _. links (true_used m s u)) (rw u at e)))
      (λ (u : is_used m s ≡ false). rw u (rw u at e))
      (either (is_used m s))

  module _ (all : passes (slot_ahead t m) (slots m) ≡ true) where
    ahead : (s : ℕ) → Used m s → ahead_kept m s ≡ true
    unfolding slot_ahead
    ahead s u =
        let kept = rw (used_true m s u) at (passes_at (slot_ahead t m) (slots m) all s (at_in m.slot_row s u)) in
        and_right (points_back t m s && cell_kept t m s) _ (and_left (points_back t m s && cell_kept t m s && ahead_kept m s) (reverse_free t m s) kept)

    next_used : (s : ℕ) → Used m s → Used m (at m.next s)
    next_used s u = true_used m (at m.next s) (and_right (ltb (at m.next s) (slots m)) _ (and_left (link_used m (at m.next s)) _ (ahead s u)))

    prev_next : (s : ℕ) → Used m s → at m.prev (at m.next s) ≡ s
    prev_next s u = eqb-true _ _ (and_right (link_used m (at m.next s)) _ (ahead s u))

    around : Permutes (slots m) (Used m) (at m.next)
    around = record {
      small = λ s u. at_in m.slot_row s u;
      keeps = next_used;
      injects = λ s q u v e. sym (prev_next s u) ∙ ap (at m.prev) e ∙ prev_next q v;
    }

    -- the slot that leads to s is its previous
    links : (s : ℕ) → Used m s → links_kept m s ≡ true
    unfolding links_kept
    links s u =
        let r = period around s u in
        let k : ℕ = r.0 - 1 in
        let q : ℕ = iter (at m.next) k s in
        let used : Used m q = iter_in around k s u in
        let whole : suc k ≡ r.0 = (let h = r.1.some in omega arith) in
        let leads : at m.next q ≡ s = sym (iter_last (at m.next) k s) ∙ ap (λ (i : ℕ). iter (at m.next) i s) whole ∙ r.1.back in
        let before : at m.prev s ≡ q = sym (ap (at m.prev) leads) ∙ prev_next q used in
        let prev_used : Used m (at m.prev s) = subst (λ (i : ℕ). Used m i) (sym before) used in
        and_both _ _ (and_both _ _ (and_both _ _ (link_used_lem m (at m.prev s) prev_used) (link_used_lem m (at m.next s) (next_used s u)))
        (eq-eqb (at m.next (at m.prev s)) s (ap (at m.next) before ∙ leads))) (eq-eqb (at m.prev (at m.next s)) s (prev_next s u))

  pub ahead_all : passes (slot_ahead t m) (slots m) ≡ passes (slot_kept t m) (slots m)
  ahead_all = same _ _
      (λ e. passes_all (slot_kept t m) (slots m) (λ s h. from_ahead s (links e s) (passes_at (slot_ahead t m) (slots m) e s h)))
      (λ e. passes_all (slot_ahead t m) (slots m) (λ s h. to_ahead s (passes_at (slot_kept t m) (slots m) e s h)))
