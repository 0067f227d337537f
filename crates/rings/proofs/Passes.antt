-- The pass over the rows: for each row that stands and has no mark its ring is marked, so that a row is marked when it comes up exactly when
-- a lower row is in its ring.
--     Pass              what the marks say when the rows below r are passed
--     pass_new, pass_old     a row that stands starts its ring where it has no mark, and does not where it has one
--     pass_skip, pass_mark   one row more
--     pass_twos         at the end the mark 2 stands at the lowest rows alone
-- Assumes nothing.
use Prim.Native.Nat.{ℕ, zero, suc, ◌+◌, ◌≤◌, ◌<◌}
use mathlib.Core.Path.{◌≡◌, refl, sym, ◌∙◌, ap, subst}
use mathlib.Core.Bool.{Bool, true, false, cond}
use mathlib.Core.Logic.{⊎_elim, ◌≢◌}
use mathlib.Core.List.{List, Memᴰ}
use native.Mathlib.Omega.{arith}
use borrow.Author.Tests.{eq-eqb, ne_eqb}
use lib.Dec.{eqb}
use lib.ListN.{length}
use Rattle.scope.specs.Lists.{at, member}
use Rattle.scope.specs.Order.{stands_at, next_row}
use Rattle.scope.proofs.Tests.{either}
use Rattle.scope.proofs.Rules.{not_zero, zero_not}
use Rattle.scope.proofs.Members.{cases, mem_dec, member_true, member_false}
use Rattle.scope.proofs.Cycle.{iter, iter_zero, iter_suc, iter_last, iter_in, period, leads_back}
use Rattle.scope.proofs.Rings.{ring_mem, mem_ring, starts_true, starts_stand, starts_lowest}
use Rattle.rings.specs.Links.{Links, ring_in, starts_in}
use Rattle.rings.specs.Marking.{Marked}
use Rattle.rings.proofs.Rounds.{links_permute}

-- ---- what a marked ring leaves

module _ {row_slot slot_row next mark : List ℕ} {r : ℕ} {mark' : List ℕ} {k : ℕ} (M : Marked row_slot slot_row next mark r mark' k) where
  marked_start : at mark' r ≡ 2
  marked_start = M.marks r ∙ ap (λ (b : Bool). cond b 2 (cond (member r (ring_in row_slot slot_row next r)) 1 (at mark r))) (eq-eqb r r refl)

  unstarted : (y : ℕ) → y ≢ r → at mark' y ≡ cond (member y (ring_in row_slot slot_row next r)) 1 (at mark y)
  unstarted y d = M.marks y ∙ ap (λ (b : Bool). cond b 2 (cond (member y (ring_in row_slot slot_row next r)) 1 (at mark y))) (ne_eqb y r d)

  marked_ring : (y : ℕ) → y ≢ r → Memᴰ y (ring_in row_slot slot_row next r) → at mark' y ≡ 1
  marked_ring y d m = unstarted y d ∙ ap (λ (b : Bool). cond b 1 (at mark y)) (member_true m)

  marked_other : (y : ℕ) → y ≢ r → (Memᴰ y (ring_in row_slot slot_row next r) → ⊥) → at mark' y ≡ at mark y
  marked_other y d n = unstarted y d ∙ ap (λ (b : Bool). cond b 1 (at mark y)) (member_false y (ring_in row_slot slot_row next r) n)

  marked_on : (y : ℕ) → Memᴰ y (ring_in row_slot slot_row next r) → at mark' y ≢ 0
  marked_on y m = cases y r
      (λ q. let w : at mark' y ≡ 2 = ap (at mark') q ∙ marked_start in λ z. omega arith)
      (λ d. let w = marked_ring y d m in λ z. omega arith)

  marked_kept : (y : ℕ) → at mark y ≢ 0 → at mark' y ≢ 0
  marked_kept y h = go (mem_dec y (ring_in row_slot slot_row next r))
    where
      go : Dec (Memᴰ y (ring_in row_slot slot_row next r)) → at mark' y ≢ 0
      go (yes m) = marked_on y m
      go (no n) = cases y r
          (λ q. let w : at mark' y ≡ 2 = ap (at mark') q ∙ marked_start in λ z. omega arith)
          (λ d z. h (sym (marked_other y d n) ∙ z))

-- ---- the pass

pub record Pass (row_slot slot_row next mark : List ℕ) (r : ℕ) : Type 0 where
  pub links : Links row_slot slot_row next
  pub len : length mark ≡ length row_slot
  pub done : (x : ℕ) → x < r → at row_slot x ≢ 0 → at mark x ≢ 0
  pub shut : (x : ℕ) → at mark x ≢ 0 → at mark (next_row row_slot slot_row next x) ≢ 0
  pub from : (x : ℕ) → at mark x ≢ 0 → (at row_slot x ≢ 0) × ((k : ℕ) × (iter (next_row row_slot slot_row next) k x < r))
  pub twos : (x : ℕ) → at mark x ≢ 0 → eqb (at mark x) 2 ≡ starts_in row_slot slot_row next x

pub pass_start : {row_slot slot_row next mark : List ℕ} → Links row_slot slot_row next → length mark ≡ length row_slot → ((x : ℕ) → at mark x ≡ 0) → Pass row_slot slot_row next mark 0
pass_start L l z = record {
  links = L;
  len = l;
  done = λ x h. absurd (omega arith);
  shut = λ x h. absurd (h (z x));
  from = λ x h. absurd (h (z x));
  twos = λ x h. absurd (h (z x));
}

-- a lower row in the ring: the row does not start it
not_lowest : {row_slot slot_row next : List ℕ} (L : Links row_slot slot_row next) (x k : ℕ) → iter (next_row row_slot slot_row next) k x < x → starts_in row_slot slot_row next x ≡ false
not_lowest {row_slot} {slot_row} {next} L x k h =
    ⊎_elim (λ e. absurd (let l = starts_lowest (links_permute L) x e k in omega arith)) (λ e. e) (either (starts_in row_slot slot_row next x))

pub not_standing : {row_slot slot_row next : List ℕ} (L : Links row_slot slot_row next) (x : ℕ) → at row_slot x ≡ 0 → starts_in row_slot slot_row next x ≡ false
not_standing {row_slot} {slot_row} {next} L x z =
    ⊎_elim (λ t. absurd (not_zero (at row_slot x) (starts_stand (links_permute L) x t) z)) (λ t. t) (either (starts_in row_slot slot_row next x))

module _ {row_slot slot_row next mark : List ℕ} {r : ℕ} (P : Pass row_slot slot_row next mark r) where
  marked_along : (k x : ℕ) → at mark x ≢ 0 → at mark (iter (next_row row_slot slot_row next) k x) ≢ 0
  marked_along zero x h = λ e. h (ap (at mark) (sym (iter_zero (next_row row_slot slot_row next) x)) ∙ e)
  marked_along (suc k) x h = λ e. marked_along k (next_row row_slot slot_row next x) (P.shut x h) (ap (at mark) (sym (iter_suc (next_row row_slot slot_row next) k x)) ∙ e)

  module _ (u : at row_slot r ≢ 0) where
    stands : stands_at row_slot r ≡ true
    stands = zero_not (at row_slot r) u

    -- no mark: no lower row is in the ring
    lowest : at mark r ≡ 0 → (k : ℕ) → r ≤ iter (next_row row_slot slot_row next) k r
    lowest z k =
        let b = leads_back (period (links_permute P.links) r stands).1 k in
        let no_less : iter (next_row row_slot slot_row next) k r < r → ⊥ = λ h.
        marked_along b.0 (iter (next_row row_slot slot_row next) k r)
        (P.done (iter (next_row row_slot slot_row next) k r) h (not_zero (at row_slot (iter (next_row row_slot slot_row next) k r)) (iter_in (links_permute P.links) k r stands)))
        (ap (at mark) b.1 ∙ z) in
        omega arith

    pub pass_new : at mark r ≡ 0 → starts_in row_slot slot_row next r ≡ true
    pass_new z = starts_true (links_permute P.links) r stands (lowest z)

    pub pass_old : at mark r ≢ 0 → starts_in row_slot slot_row next r ≡ false
    pass_old m = let t = P.from r m in not_lowest P.links r t.1.0 t.1.1

    module _ (z : at mark r ≡ 0) {mark' : List ℕ} {k : ℕ} (M : Marked row_slot slot_row next mark r mark' k) where
      start_on : Memᴰ r (ring_in row_slot slot_row next r)
      start_on = subst (λ (a : ℕ). Memᴰ a (ring_in row_slot slot_row next r)) (iter_zero (next_row row_slot slot_row next) r) (ring_mem (links_permute P.links) r stands 0)

      pub pass_mark : Pass row_slot slot_row next mark' (r + 1)
      pass_mark = record {
        links = P.links;
        len = M.len ∙ P.len;
        done = λ x l v. cases x r
            (λ q. subst (λ (a : ℕ). at mark' a ≢ 0) (sym q) (marked_on M r start_on))
            (λ d. marked_kept M x (P.done x (omega arith) v));
        shut = λ x m. onward x m (mem_dec x (ring_in row_slot slot_row next r));
        from = λ x m. source x m (mem_dec x (ring_in row_slot slot_row next r));
        twos = λ x m. two x m (mem_dec x (ring_in row_slot slot_row next r));
      }
        where
          -- a row that is not in the ring has its old mark
          old : (x : ℕ) → (Memᴰ x (ring_in row_slot slot_row next r) → ⊥) → at mark' x ≡ at mark x
          old x n = marked_other M x (λ q. n (subst (λ (a : ℕ). Memᴰ a (ring_in row_slot slot_row next r)) (sym q) start_on)) n

          onward : (x : ℕ) → at mark' x ≢ 0 → Dec (Memᴰ x (ring_in row_slot slot_row next r)) → at mark' (next_row row_slot slot_row next x) ≢ 0
          onward x m (yes i) =
              let j = mem_ring (links_permute P.links) r x stands i in
              marked_on M (next_row row_slot slot_row next x)
              (subst (λ (a : ℕ). Memᴰ a (ring_in row_slot slot_row next r)) (iter_last (next_row row_slot slot_row next) j.0 r ∙ ap (next_row row_slot slot_row next) (sym j.1))
              (ring_mem (links_permute P.links) r stands (suc j.0)))
          onward x m (no n) = marked_kept M (next_row row_slot slot_row next x) (P.shut x (λ e. m (old x n ∙ e)))

          -- from a row of the ring the way leads to its start
          back : (x : ℕ) → Memᴰ x (ring_in row_slot slot_row next r) → (k : ℕ) × (iter (next_row row_slot slot_row next) k x ≡ r)
          back x i =
              let j = mem_ring (links_permute P.links) r x stands i in
              let b = leads_back (period (links_permute P.links) r stands).1 j.0 in
              (b.0, ap (iter (next_row row_slot slot_row next) b.0) j.1 ∙ b.1)

          source : (x : ℕ) → at mark' x ≢ 0 → Dec (Memᴰ x (ring_in row_slot slot_row next r))
              → (at row_slot x ≢ 0) × ((k : ℕ) × (iter (next_row row_slot slot_row next) k x < r + 1))
          source x m (yes i) =
              let j = mem_ring (links_permute P.links) r x stands i in
              let b = back x i in
              let on = subst (λ (a : ℕ). stands_at row_slot a ≡ true) (sym j.1) (iter_in (links_permute P.links) j.0 r stands) in
              (not_zero (at row_slot x) on, (b.0, let e = b.1 in omega arith))
          source x m (no n) = let t = P.from x (λ e. m (old x n ∙ e)) in (t.0, (t.1.0, let l = t.1.1 in omega arith))

          two : (x : ℕ) → at mark' x ≢ 0 → Dec (Memᴰ x (ring_in row_slot slot_row next r)) → eqb (at mark' x) 2 ≡ starts_in row_slot slot_row next x
          two x m (yes i) = cases x r
              (λ q. eq-eqb (at mark' x) 2 (ap (at mark') q ∙ marked_start M) ∙ sym (ap (starts_in row_slot slot_row next) q ∙ pass_new z))
              (λ d.
              let b = back x i in
              let j = mem_ring (links_permute P.links) r x stands i in
              let l = lowest z j.0 in
              let e = j.1 in let f = b.1 in
              let w = marked_ring M x d i in
              ne_eqb (at mark' x) 2 (λ y. omega arith) ∙ sym (not_lowest P.links x b.0 (omega arith)))
          two x m (no n) = ap (λ (a : ℕ). eqb a 2) (old x n) ∙ P.twos x (λ e. m (old x n ∙ e))

  pub pass_skip : (at row_slot r ≢ 0 → at mark r ≢ 0) → Pass row_slot slot_row next mark (r + 1)
  pass_skip h = record {
    links = P.links;
    len = P.len;
    done = λ x l u. cases x r (λ q e. h (λ s. u (ap (at row_slot) q ∙ s)) (ap (at mark) (sym q) ∙ e)) (λ d. P.done x (omega arith) u);
    shut = P.shut;
    from = λ x m. let t = P.from x m in (t.0, (t.1.0, let l = t.1.1 in omega arith));
    twos = P.twos;
  }

-- ---- all rows passed

pub pass_twos : {row_slot slot_row next mark : List ℕ} {n : ℕ} → Pass row_slot slot_row next mark n → length row_slot ≤ n → (x : ℕ) → x < length row_slot
    → eqb (at mark x) 2 ≡ starts_in row_slot slot_row next x
pass_twos {row_slot} {slot_row} {next} {mark} P h x l = cases (at row_slot x) 0
    (λ z.
    let unmarked : at mark x ≡ 0 = cases (at mark x) 0 (λ e. e) (λ m. absurd ((P.from x m).0 z)) in
    ne_eqb (at mark x) 2 (λ e. omega arith) ∙ sym (not_standing P.links x z))
    (λ u. P.twos x (P.done x (omega arith) u))
