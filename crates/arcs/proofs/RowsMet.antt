-- The loop of `cancel_rows` by the outline's rows: its invariant, a turn, and the end.
--     slots_fresh                        different rows have different slots
--     Meeting                            the loop's invariant
--     meeting_start, row_asks, meeting_turn, meeting_end
-- Assumes nothing.
use mathlib.Core.Path.{◌≡◌, refl, sym, ◌∙◌, ap, subst}
use mathlib.Core.Logic.{inl, inr, ⊎_elim}
use mathlib.Core.Bool.{true}
use mathlib.Core.List.{List, [], ◌∷◌, Memᴰ}
use Prim.Native.Nat.{ℕ, suc, ◌+◌, ◌-◌, ◌≤◌, ◌<◌}
use native.Mathlib.Numerals.{add-one}
use native.Mathlib.Nat.{add-zero}
use native.Mathlib.Omega.{arith}
use lib.ListN.{length, drop, length-map, drop_of_length-le}
use lib.Seq.{drop-cons}
use Rattle.scope.specs.Lists.{at}
use Rattle.scope.specs.Table.{Table}
use Rattle.scope.specs.Memory.{Memory, memory, slot_of, row_in}
use Rattle.scope.specs.Pool.{cancels, reverse_slot}
use Rattle.scope.proofs.Members.{Fresh, place}
use Rattle.scope.proofs.Linked.{Has, Linked, has_in, row_slot}
use Rattle.placing.specs.Place.{slots_at}
use Rattle.arcs.specs.CancelRows.{RowAsks, RowCancelled, CancelAsks, RowsCancelled}
use Rattle.placing.proofs.Linking.{slots_at_lem}
use Rattle.arcs.proofs.Gone.{seen, seen_none, seen_more, seen_not, seen_all, Met}
use Rattle.arcs.proofs.Cancelling.{Cancelling, cancelling_start}
use Rattle.arcs.proofs.Skipping.{cancelling_skip}
use Rattle.arcs.proofs.Pairing.{pair_asks, cancelling_pair}
use Rattle.arcs.proofs.Counting.{used_total, free_count}
use Rattle.arcs.proofs.Cancelled.{cancelling_end, cancelling_count}

-- ---- the outline's slots

slot_row : (m : Memory) (o : List ℕ) (s : ℕ) → Memᴰ s (slots_at m.row_slot o) → (a : ℕ) × Memᴰ a o × (slot_of m a ≡ s)
slot_row m [] s i = absurd (mathlib.Core.List.Memᴰ.not-nil i)
slot_row m (x ∷ o) s i = ⊎_elim
    (λ (e : s ≡ slot_of m x). (x, mathlib.Core.List.Memᴰ.head refl, sym e))
    (λ (k : Memᴰ s (slots_at m.row_slot o)). let r = slot_row m o s k in (r.0, mathlib.Core.List.Memᴰ.tail r.1, r.2))
    (mathlib.Core.List.Memᴰ.cases_cons i)

pub slots_fresh : {t : Table} {m : Memory} → Linked t m → (o : List ℕ) → Fresh o → ((a : ℕ) → Memᴰ a o → Has m a) → Fresh (slots_at m.row_slot o)
slots_fresh L [] f h = tt
slots_fresh {m = m} L (x ∷ o) f h = (
  (λ (i : Memᴰ (slot_of m x) (slots_at m.row_slot o)).
      let r = slot_row m o (slot_of m x) i in
      f.0 (mathlib.Core.List.Memᴰ.cast (sym (row_slot L x (h x (mathlib.Core.List.Memᴰ.head refl))) ∙ ap (row_in m) (sym r.2) ∙ row_slot L r.0 (h r.0 (mathlib.Core.List.Memᴰ.tail r.1))) r.1)),
  slots_fresh L o f.1 (λ a i. h a (mathlib.Core.List.Memᴰ.tail i)),
)

-- ---- the loop

pub record Meeting (t : Table) (m : Memory) (n : ℕ) (o : List ℕ) (i pairs : ℕ) (m' : Memory) : Type 0 where
  pub within : i ≤ length o
  pub few : pairs ≤ i
  pub going : Cancelling t m n (slots_at m.row_slot o) (seen (slots_at m.row_slot o) i) (drop i (slots_at m.row_slot o)) pairs m'

module _ {t : Table} {m : Memory} {n : ℕ} {o : List ℕ} (A : CancelAsks t m n o) where
  many : length (slots_at m.row_slot o) ≡ length o
  many = length-map o (λ r. at m.row_slot r - 1)

  pub meeting_start : Meeting t m n o 0 0 m
  meeting_start = record { within = omega arith; few = omega arith; going = rw (seen_none (slots_at m.row_slot o)) (cancelling_start A) }

  module _ {i pairs : ℕ} {m' : Memory} (G : Meeting t m n o i pairs m') where
    module _ (h : i < length o) {row : ℕ} (e : row ≡ at o i) where
      has : Has m row
      has = rw e (A.has i h)

      slot_is : at (slots_at m.row_slot o) i ≡ slot_of m row
      slot_is = slots_at_lem m.row_slot o i h ∙ ap (slot_of m) (sym e)

      low : i < length (slots_at m.row_slot o)
      low = rw many h

      here : Cancelling t m n (slots_at m.row_slot o) (seen (slots_at m.row_slot o) i) (slot_of m row ∷ drop (suc i) (slots_at m.row_slot o)) pairs m'
      here = rw (drop-cons (slots_at m.row_slot o) i 0 low, slot_is) at G.going

      new : Memᴰ (slot_of m row) (seen (slots_at m.row_slot o) i) → ⊥
      new k = seen_not (slots_at m.row_slot o) i
          (slots_fresh A.linked o A.once (λ a j. let p = place j in subst (Has m) p.2 (A.has p.0 p.1))) low (mathlib.Core.List.Memᴰ.cast slot_is k)

      pub row_asks : RowAsks t.reverse m' n row
      row_asks =
          let k = has_in A.linked row has in
          let b = A.reverses.rev_in row k in
          let c = A.linked.row_count in
          let g = G.going.long_slot in
          record {
            row_in = rw A.even_reverse k;
            back_in = omega arith;
            pair = λ d. pair_asks A row has here d;
          }

      met_on : {r : ℕ} {m'' : Memory} → RowCancelled t.reverse m' n row r m''
          → Cancelling t m n (slots_at m.row_slot o) (slot_of m row ∷ seen (slots_at m.row_slot o) i) (drop (suc i) (slots_at m.row_slot o)) (pairs + r) m''
      met_on (inl (z, q, k)) = rw (k, q, add-zero) (cancelling_skip A row has here new z)
      met_on (inr (d, q, D)) = rw q (cancelling_pair A row has here d D)

      one_most : {r : ℕ} {m'' : Memory} → RowCancelled t.reverse m' n row r m'' → r ≤ 1
      one_most (inl (z, q, k)) = rw q (omega arith)
      one_most (inr (d, q, D)) = rw q (omega arith)

      -- A TURN
      pub meeting_turn : {r : ℕ} {m'' : Memory} → RowCancelled t.reverse m' n row r m'' → Meeting t m n o (i + 1) (pairs + r) m''
      meeting_turn {r} D = rw (add-one i) (record {
        within = omega arith;
        few = let k = one_most D in let f = G.few in omega arith;
        going = rw (seen_more (slots_at m.row_slot o) i, slot_is) (met_on D);
      })

    -- THE END
    pub meeting_end : length o ≤ i → RowsCancelled t m n o pairs
        (memory m.head m.cells m'.parent m'.rank m.cell_mark m'.slot_row m'.slot_cell m'.prev m'.next m'.row_slot m.row_mark)
    meeting_end h =
        let e : i ≡ length (slots_at m.row_slot o) = let k = many in let w = G.within in omega arith in
        let low : length (slots_at m.row_slot o) ≤ i = omega arith in
        let C = rw (drop_of_length-le (slots_at m.row_slot o) low, e) at G.going in
        record {
          left = cancelling_end A C met_all;
          count = cancelling_count A C met_all;
          free =
              let u = C.used in
              let a = free_count m.slot_row in
              let b = free_count m'.slot_row in
              let k = C.long_row in
              let w = ap (used_total m'.slot_row) k in
              omega arith;
        }
      where
        met_all : (s : ℕ) → cancels t m s ≡ true → Met t m (seen (slots_at m.row_slot o) (length (slots_at m.row_slot o))) s
        met_all s c = ⊎_elim (λ k. inl (seen_all (slots_at m.row_slot o) s k)) (λ k. inr (seen_all (slots_at m.row_slot o) (reverse_slot t m s) k)) (A.met s c)
