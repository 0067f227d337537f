-- The loop that marks one ring: what is passed holds 1, then its lowest row 2, and no other row has changed.
-- Assumes nothing.
use Prim.Native.Nat.{ℕ, ◌+◌, ◌<◌}
use mathlib.Core.Path.{◌≡◌, refl, sym, ◌∙◌, ap, subst}
use mathlib.Core.Bool.{Bool, true, false, not, cond}
use mathlib.Core.Logic.{◌⊎◌, inl, inr, ⊎_elim, ◌≢◌}
use mathlib.Core.List.{List, Memᴰ}
use native.Mathlib.Omega.{arith}
use borrow.Author.Tests.{eq-eqb, ne_eqb}
use lib.Dec.{eqb}
use lib.ListN.{length, set, length-set}
use lib.Seq.{get_or-set_same, get_or-set_other}
use Rattle.scope.specs.Lists.{at, member}
use Rattle.scope.specs.Order.{next_row}
use Rattle.scope.proofs.Tests.{either}
use Rattle.scope.proofs.Members.{cases, member_mem, member_true}
use Rattle.scope.proofs.Cycle.{iter, mem_orbit, orbit_mem, around}
use Rattle.rings.specs.Links.{ring_in}
use Rattle.rings.specs.Marking.{MarkReady, Marked}
use Rattle.rings.proofs.Rounds.{turns, turns_period, ring_rows, ring_length, Round, round_start, round_low, round_next}

pub record MarkInv (row_slot slot_row next mark₀ : List ℕ) (r : ℕ) (mark : List ℕ) (k x : ℕ) (more : Bool) : Type 0 where
  pub ready : MarkReady row_slot slot_row next mark₀ r
  pub round : Round row_slot slot_row next r k x more
  pub wrote : (j : ℕ) → j < k → at mark (iter (next_row row_slot slot_row next) j r) ≡ 1
  pub rest : (y : ℕ) → (at mark y ≡ at mark₀ y) ⊎ ((j : ℕ) × (y ≡ iter (next_row row_slot slot_row next) j r))
  pub len : length mark ≡ length mark₀

pub mark_start : {row_slot slot_row next mark : List ℕ} {r : ℕ} → MarkReady row_slot slot_row next mark r → MarkInv row_slot slot_row next mark r mark 0 r true
mark_start M = record { ready = M; round = round_start M.ring; wrote = λ j h. absurd (omega arith); rest = λ y. inl refl; len = refl }

module _ {row_slot slot_row next mark₀ : List ℕ} {r : ℕ} {mark : List ℕ} {k x : ℕ} {more : Bool} (I : MarkInv row_slot slot_row next mark₀ r mark k x more) where
  pub mark_in : x < length mark
  mark_in = let a = round_low I.round in let b = I.ready.marks in let c = I.len in omega arith

  pub mark_next : more ≡ true → (y : ℕ) → y ≡ next_row row_slot slot_row next x → MarkInv row_slot slot_row next mark₀ r (set mark x 1) (k + 1) y (not (eqb y r))
  mark_next e y f = record {
    ready = I.ready;
    round = round_next I.round e y f;
    wrote = λ j h. cases (iter (next_row row_slot slot_row next) j r) x
        (λ q. ap (at (set mark x 1)) q ∙ get_or-set_same mark x 1 0 mark_in)
        (λ d. get_or-set_other mark x (iter (next_row row_slot slot_row next) j r) 1 0 d ∙ I.wrote j (last j h d));
    rest = λ y. cases y x (λ q. inr (k, q ∙ I.round.x_is)) (λ d. ⊎_elim (λ s. inl (get_or-set_other mark x y 1 0 d ∙ s)) (λ s. inr s) (I.rest y));
    len = length-set mark x 1 ∙ I.len;
  }
    where
      last : (j : ℕ) → j < k + 1 → iter (next_row row_slot slot_row next) j r ≢ x → j < k
      last j h d = let z : j ≢ k = λ q. d (ap (λ (a : ℕ). iter (next_row row_slot slot_row next) a r) q ∙ sym I.round.x_is) in omega arith

  -- after one round
  module _ (e : more ≡ false) where
    k_is : k ≡ turns I.round.on
    k_is = I.round.ends e

    in_ring : (y : ℕ) → Memᴰ y (ring_in row_slot slot_row next r) → (j : ℕ) × (j < k) × (y ≡ iter (next_row row_slot slot_row next) j r)
    in_ring y m =
        let z = mem_orbit (next_row row_slot slot_row next) (turns I.round.on) r y (subst (Memᴰ y) (ring_rows I.round.on) m) in
        (z.0, let a = z.1 in let b = k_is in omega arith, z.2)

    on_ring : (y j : ℕ) → y ≡ iter (next_row row_slot slot_row next) j r → Memᴰ y (ring_in row_slot slot_row next r)
    on_ring y j q =
        let z = around (turns_period I.round.on) j in
        subst (λ (a : ℕ). Memᴰ a (ring_in row_slot slot_row next r)) (sym (q ∙ z.2))
        (subst (Memᴰ (iter (next_row row_slot slot_row next) z.0 r)) (sym (ring_rows I.round.on)) (orbit_mem (next_row row_slot slot_row next) (turns I.round.on) r z.0 z.1))

    in_mark : r < length mark
    in_mark = let a = round_low (round_start I.round.on) in let b = I.ready.marks in let c = I.len in omega arith

    marks : (y : ℕ) → y ≢ r → at mark y ≡ cond (member y (ring_in row_slot slot_row next r)) 1 (at mark₀ y)
    marks y d = ⊎_elim
        (λ (t : member y (ring_in row_slot slot_row next r) ≡ true).
        let z = in_ring y (member_mem y (ring_in row_slot slot_row next r) t) in
        ap (at mark) z.2 ∙ I.wrote z.0 z.1 ∙ sym (ap (λ (b : Bool). cond b 1 (at mark₀ y)) t))
        (λ (t : member y (ring_in row_slot slot_row next r) ≡ false).
        old t (I.rest y) ∙ sym (ap (λ (b : Bool). cond b 1 (at mark₀ y)) t))
        (either (member y (ring_in row_slot slot_row next r)))
      where
        old : member y (ring_in row_slot slot_row next r) ≡ false → (at mark y ≡ at mark₀ y) ⊎ ((j : ℕ) × (y ≡ iter (next_row row_slot slot_row next) j r)) → at mark y ≡ at mark₀ y
        old t (inl s) = s
        old t (inr (j, s)) = let z : true ≡ false = sym (member_true (on_ring y j s)) ∙ t in absurd (let n : ◌≡◌ {A = ℕ} 0 1 = cc in omega arith)

    pub mark_end : Marked row_slot slot_row next mark₀ r (set mark r 2) k
    mark_end = record {
      count = k_is ∙ sym (ring_length I.round.on);
      marks = λ y. cases y r
          (λ q. ap (at (set mark r 2)) q ∙ get_or-set_same mark r 2 0 in_mark ∙ sym (ap (λ (b : Bool). cond b 2 (cond (member y (ring_in row_slot slot_row next r)) 1 (at mark₀ y))) (eq-eqb y r q)))
          (λ d. get_or-set_other mark r y 2 0 d ∙ marks y d ∙ sym (ap (λ (b : Bool). cond b 2 (cond (member y (ring_in row_slot slot_row next r)) 1 (at mark₀ y))) (ne_eqb y r d)));
      len = length-set mark r 2 ∙ I.len;
    }

    pub mark_last : r < length mark
    mark_last = in_mark

module _ {row_slot slot_row next mark₀ : List ℕ} {r : ℕ} {mark : List ℕ} {k x : ℕ} (I : MarkInv row_slot slot_row next mark₀ r mark k x true)
    {y : ℕ} (f : y ≡ next_row row_slot slot_row next x) where
  -- on to another row, or back at the first
  pub mark_on : y ≢ r → MarkInv row_slot slot_row next mark₀ r (set mark x 1) (k + 1) y true
  mark_on d = subst (λ (b : Bool). MarkInv row_slot slot_row next mark₀ r (set mark x 1) (k + 1) y b) (ap not (ne_eqb y r d)) (mark_next I refl y f)

  pub mark_back : y ≡ r → Marked row_slot slot_row next mark₀ r (set (set mark x 1) r 2) (k + 1)
  mark_back q = mark_end (mark_next I refl y f) (ap not (eq-eqb y r q))

  pub mark_first : y ≡ r → r < length (set mark x 1)
  mark_first q = mark_last (mark_next I refl y f) (ap not (eq-eqb y r q))
