-- A turn of `cancel_rows` at a row whose reverse has a slot: the pair is gone, the links pass over it, its cells are united.
--     pair_asks                  what `cancel_pair` asks
--     cancelling_pair            the turn
-- Assumes nothing.
use mathlib.Core.Path.{◌≡◌, sym, ◌∙◌, ap, subst}
use mathlib.Core.Logic.{inr, ⊎_elim, ◌≢◌}
use mathlib.Core.Bool.{Bool, true, false, cond}
use mathlib.Core.List.{List, ◌∷◌}
use Prim.Native.Nat.{ℕ, ◌+◌, ◌-◌, ◌<◌}
use native.Mathlib.Omega.{arith}
use lib.ListN.{length}
use Rattle.scope.specs.Lists.{at}
use Rattle.scope.specs.Table.{Table, reverse_of}
use Rattle.scope.specs.Memory.{Memory, slots, slot_of, row_in}
use Rattle.scope.specs.UnionFind.{uniting}
use Rattle.scope.specs.Pool.{cancels, reverse_slot, met_first, unite_pairs}
use Rattle.scope.proofs.Tests.{either, clash}
use Rattle.scope.proofs.Members.{cases}
use Rattle.scope.proofs.Linked.{at_in, Has, has_in, slot_used, row_slot, cancels_from, mate_mate}
use Rattle.pair_links.specs.Links.{pair_next, pair_prev, clear_two, Closed}
use Rattle.pairs.specs.Cancel.{PairAsks, PairCancelled}
use Rattle.arcs.specs.CancelRows.{CancelAsks}
use Rattle.arcs.proofs.Round.{Put₂}
use Rattle.pairs.proofs.Freeing.{clear_length}
use Rattle.arcs.proofs.Clearing.{clear_put, pair_length, clear_more}
use Rattle.arcs.proofs.Pair.{Less₂, Mates, Removed, pair_removed, pair_rest}
use Rattle.arcs.proofs.After.{after_pair, after_same, round_same}
use Rattle.arcs.proofs.Gone.{gone, gone_from, gone_mate, gone_else, gone_first, gone_second}
use Rattle.arcs.proofs.Cancelling.{Left, unless_gone, Cancelling}
use Rattle.arcs.proofs.Counting.{used_clear}
use Rattle.arcs.proofs.Skipping.{met_pair, kept, none, mate_is}

-- ---- the pair

module _ {t : Table} {m : Memory} {n : ℕ} {o : List ℕ} (A : CancelAsks t m n o) (row : ℕ) (has : Has m row) {ss l rest : List ℕ} {pairs : ℕ} {m' : Memory}
    (C : Cancelling t m n ss l (slot_of m row ∷ rest) pairs m') (d : at m'.row_slot (reverse_of t row) ≢ 0) where
  abbrev back : ℕ
  back = reverse_of t row

  abbrev x : ℕ
  x = slot_of m row

  abbrev y : ℕ
  y = slot_of m back

  back_kept : (gone t m l y ≡ false) × Has m back
  back_kept = kept (gone t m l y) (at m.row_slot back) (λ z. d (C.row_slot back ∙ z))

  is_mate : reverse_slot t m x ≡ y
  is_mate = mate_is A.linked row has

  pair_cancels : cancels t m x ≡ true
  pair_cancels = cancels_from t m x (slot_used A.linked row has) (subst (λ (r : ℕ). Has m (reverse_of t r)) (sym (row_slot A.linked row has)) back_kept.1)

  x_kept : gone t m l x ≡ false
  x_kept = ⊎_elim
      (λ g. absurd (clash (gone_mate A.reverses A.linked l x g) (ap (gone t m l) is_mate ∙ back_kept.0)))
      (λ g. g)
      (either (gone t m l x))

  x_left : Left t m l x
  x_left = (slot_used A.linked row has, x_kept)

  y_left : Left t m l y
  y_left = (slot_used A.linked back back_kept.1, back_kept.0)

  mates : Mates (reverse_slot t m) x y
  mates = record {
    apart = λ e. A.reverses.rev_ne row (has_in A.linked row has)
        (sym (row_slot A.linked back back_kept.1) ∙ ap (row_in m) (sym e) ∙ row_slot A.linked row has);
    there = is_mate;
    back = ap (reverse_slot t m) (sym is_mate) ∙ mate_mate A.reverses A.linked x pair_cancels;
  }

  -- the slots and cells that the code reads
  slot_x : slot_of m' row ≡ x
  slot_x = ap (λ (k : ℕ). k - 1) (C.row_slot row ∙ rw x_kept)

  slot_y : slot_of m' back ≡ y
  slot_y = ap (λ (k : ℕ). k - 1) (C.row_slot back ∙ rw back_kept.0)

  cell_x : at m'.slot_cell x ≡ at m.slot_cell x
  cell_x = C.slot_cell x ∙ rw x_kept

  cell_y : at m'.slot_cell y ≡ at m.slot_cell y
  cell_y = C.slot_cell y ∙ rw back_kept.0

  left_low : (s : ℕ) → Left t m l s → s < slots m
  left_low s u = at_in m.slot_row s u.0

  -- what is left, or not
  by_left : {P : Type 0} (s : ℕ) → (Left t m l s → P) → ((Left t m l s → ⊥) → P) → P
  by_left s f g = cases (at m.slot_row s) 0 (λ e. g (λ u. u.0 e))
      (λ u. ⊎_elim (λ q. g (λ v. clash q v.1)) (λ q. f (u, q)) (either (gone t m l s)))

  closed : Closed m'.prev m'.next
  closed =
      let ln = C.long_next in
      let lp = C.long_prev in
      record {
        even = lp ∙ sym ln;
        next_below = λ i h. by_left i
            (λ u. let k = left_low _ (C.round.next_in i u) in omega arith)
            (λ u. let k = C.next_clear i u in omega arith);
        prev_below = λ i h. by_left i
            (λ u. let k = left_low _ (C.round.prev_in i u) in omega arith)
            (λ u. let k = C.prev_clear i u in omega arith);
        fits = let f = A.slots_fit in omega arith;
      }

  pub pair_asks : PairAsks m' n row back
  pair_asks =
      let lr = C.long_row in
      let ls = C.long_slot in
      record {
        row_in = let k = at_in m.row_slot row has in omega arith;
        back_in = let k = at_in m.row_slot back back_kept.1 in omega arith;
        row_has = rw (C.row_slot row, x_kept) (let k : at m.row_slot row ≢ 0 = has in omega arith);
        back_has = let k : at m'.row_slot back ≢ 0 = d in omega arith;
        row_slot = rw (slot_x, lr) (left_low x x_left);
        back_slot = rw (slot_y, lr) (left_low y y_left);
        row_cell = rw (slot_x, cell_x) (A.cells x x_left.0);
        back_cell = rw (slot_y, cell_y) (A.cells y y_left.0);
        forest = C.forest;
        closed = closed;
        even_cell = C.long_cell ∙ sym lr;
        even_next = C.long_next ∙ sym lr;
        cells_fit = A.cells_fit;
      }

  -- ---- what is left without the pair

  both_gone : (gone t m (x ∷ l) x ≡ true) × (gone t m (x ∷ l) y ≡ true)
  both_gone = (gone_first A.reverses A.linked l x pair_cancels, ap (gone t m (x ∷ l)) (sym is_mate) ∙ gone_second A.reverses A.linked l x pair_cancels)

  others : (w : ℕ) → w ≢ x → w ≢ y → gone t m (x ∷ l) w ≡ gone t m l w
  others w nx ny = gone_else A.reverses A.linked l x w nx (λ q. ny (q ∙ is_mate))

  left_in : (a : ℕ) → Less₂ (Left t m l) x y a → Left t m (x ∷ l) a
  left_in a u = (u.0.0, others a u.1 u.2 ∙ u.0.1)

  left_out : (a : ℕ) → Left t m (x ∷ l) a → Less₂ (Left t m l) x y a
  left_out a u =
      let nx : a ≢ x = λ q. clash both_gone.0 (ap (gone t m (x ∷ l)) (sym q) ∙ u.1) in
      let ny : a ≢ y = λ q. clash both_gone.1 (ap (gone t m (x ∷ l)) (sym q) ∙ u.1) in
      ((u.0, sym (others a nx ny) ∙ u.1), nx, ny)

  -- a row that keeps its number: it has none, or its slot is another
  other_row : (r : ℕ) → r ≢ row → r ≢ back → unless_gone t m l (slot_of m r) (at m.row_slot r) ≡ unless_gone t m (x ∷ l) (slot_of m r) (at m.row_slot r)
  other_row r nr nb = cases (at m.row_slot r) 0 (λ e. none (gone t m l (slot_of m r)) (gone t m (x ∷ l) (slot_of m r)) (at m.row_slot r) e)
      (λ h. ap (λ (b : Bool). cond b 0 (at m.row_slot r)) (sym (others (slot_of m r)
      (λ q. nr (sym (row_slot A.linked r h) ∙ ap (row_in m) q ∙ row_slot A.linked row has))
      (λ q. nb (sym (row_slot A.linked r h) ∙ ap (row_in m) q ∙ row_slot A.linked back back_kept.1)))))

  removed : Removed (Left t m l) (reverse_slot t m) (at m'.next) x y (at (pair_next m'.next m'.prev x y)) (at (pair_prev m'.next m'.prev x y))
  removed = pair_removed m'.next m'.prev C.round (λ a u. rw C.long_next (left_low a u)) (λ a u. rw C.long_prev (left_low a u)) x_left y_left mates

  rest_kept : (a : ℕ) → (Left t m l a → ⊥) → (at (pair_next m'.next m'.prev x y) a ≡ at m'.next a) × (at (pair_prev m'.next m'.prev x y) a ≡ at m'.prev a)
  rest_kept = pair_rest m'.next m'.prev C.round (λ a u. rw C.long_next (left_low a u)) (λ a u. rw C.long_prev (left_low a u)) x_left y_left mates

  -- the two cleared links
  next_put : Put₂ (at (pair_next m'.next m'.prev x y)) (at (clear_two (pair_next m'.next m'.prev x y) x y)) x 0 y 0
  next_put = clear_put _ x y mates.apart (rw ((pair_length m'.next m'.prev x y).0, C.long_next) (left_low x x_left)) (rw ((pair_length m'.next m'.prev x y).0, C.long_next) (left_low y y_left))

  prev_put : Put₂ (at (pair_prev m'.next m'.prev x y)) (at (clear_two (pair_prev m'.next m'.prev x y) x y)) x 0 y 0
  prev_put = clear_put _ x y mates.apart (rw ((pair_length m'.next m'.prev x y).1, C.long_prev) (left_low x x_left)) (rw ((pair_length m'.next m'.prev x y).1, C.long_prev) (left_low y y_left))

  cleared : {f g : ℕ → ℕ} → Put₂ f g x 0 y 0 → ((s : ℕ) → (Left t m l s → ⊥) → f s ≡ 0) → (s : ℕ) → (Left t m (x ∷ l) s → ⊥) → g s ≡ 0
  cleared {f} {g} P z s k = cases s x (λ q. ap g q ∙ P.put₁) (λ nx. cases s y (λ q. ap g q ∙ P.put₂)
      (λ ny. P.rest s nx ny ∙ z s (λ u. k (left_in s (u, nx, ny)))))

  is_first : met_first t m l (x ∷ rest) ≡ x ∷ met_first t m (x ∷ l) rest
  is_first = met_pair t m l x rest pair_cancels (λ i. clash (gone_from t m l x pair_cancels (inr i)) x_kept)

  united_on : (m'' : Memory) → record { parents = m''.parent; ranks = m''.rank } ≡ uniting m'.parent m'.rank (at m.slot_cell x) (at m.slot_cell y)
      → unite_pairs t m (met_first t m l (x ∷ rest)) (record { parents = m'.parent; ranks = m'.rank })
      ≡ unite_pairs t m (met_first t m (x ∷ l) rest) (record { parents = m''.parent; ranks = m''.rank })
  unfolding unite_pairs
  united_on m'' e =
      ap (λ (k : List ℕ). unite_pairs t m k (record { parents = m'.parent; ranks = m'.rank })) is_first
      ∙ ap (unite_pairs t m (met_first t m (x ∷ l) rest))
      (ap (λ (w : ℕ). uniting m'.parent m'.rank (at m.slot_cell x) (at m.slot_cell w)) is_mate ∙ sym e)

  -- a slot that is left holds its row
  row_used : (s : ℕ) → Left t m l s → at m'.slot_row s ≢ 0
  row_used s u z = u.0 (sym (C.slot_row s ∙ rw u.1) ∙ z)

  -- THE TURN
  pub cancelling_pair : {m'' : Memory} → PairCancelled m' n row back m'' → Cancelling t m n ss (x ∷ l) rest (pairs + 1) m''
  cancelling_pair {m''} D =
      let joined = rw (slot_x, slot_y, cell_x, cell_y) at D.united in
      let rows = rw (slot_x, slot_y) at D.slot_row in
      let cells = rw (slot_x, slot_y) at D.slot_cell in
      let nexts = rw (slot_x, slot_y) at D.next in
      let prevs = rw (slot_x, slot_y) at D.prev in
      let low_x = left_low x x_left in
      let low-y = left_low y y_left in
      let P = pair_asks in
      record {
        slot_row = rw rows (clear_more m'.slot_row x y mates.apart (rw C.long_row low_x) (rw C.long_row low-y) (at m.slot_row) (gone t m (x ∷ l)) (gone t m l)
            both_gone.0 both_gone.1 (λ w nx ny. ap (λ (b : Bool). cond b 0 (at m.slot_row w)) (sym (others w nx ny))) C.slot_row);
        slot_cell = rw cells (clear_more m'.slot_cell x y mates.apart (rw C.long_cell low_x) (rw C.long_cell low-y) (at m.slot_cell) (gone t m (x ∷ l)) (gone t m l)
            both_gone.0 both_gone.1 (λ w nx ny. ap (λ (b : Bool). cond b 0 (at m.slot_cell w)) (sym (others w nx ny))) C.slot_cell);
        row_slot = rw D.row_slot (clear_more m'.row_slot row back rows_apart P.row_in P.back_in (at m.row_slot)
            (λ r. gone t m (x ∷ l) (slot_of m r)) (λ r. gone t m l (slot_of m r)) both_gone.0 both_gone.1 other_row C.row_slot);
        round = rw (nexts, prevs) (round_same left_in left_out (λ a u. next_put.rest a (left_out a u).1 (left_out a u).2) (λ a u. prev_put.rest a (left_out a u).1 (left_out a u).2) removed.round);
        after = rw nexts (after_same left_in left_out (λ a u. next_put.rest a (left_out a u).1 (left_out a u).2) (after_pair C.after x_left y_left mates removed));
        next_clear = rw nexts (cleared next_put (λ s k. (rest_kept s k).0 ∙ C.next_clear s k));
        prev_clear = rw prevs (cleared prev_put (λ s k. (rest_kept s k).1 ∙ C.prev_clear s k));
        united = sym (united_on m'' joined) ∙ C.united;
        count = let c = C.count in let f = ap length is_first in omega arith;
        used =
            let k = used_clear m'.slot_row (slots m) x y C.long_row low_x low-y mates.apart (row_used x x_left) (row_used y y_left) in
            let c = C.used in
            rw rows (omega arith);
        forest = D.forest;
        long_parent = D.long_parent ∙ C.long_parent;
        long_rank = D.long_rank ∙ C.long_rank;
        long_row = rw (rows, clear_length) C.long_row;
        long_cell = rw (cells, clear_length) C.long_cell;
        long_prev = rw (prevs, clear_length) ((pair_length m'.next m'.prev x y).1 ∙ C.long_prev);
        long_next = rw (nexts, clear_length) ((pair_length m'.next m'.prev x y).0 ∙ C.long_next);
        long_slot = rw (D.row_slot, clear_length) C.long_slot;
      }
    where
      rows_apart : row ≢ back
      rows_apart e = A.reverses.rev_ne row (has_in A.linked row has) (sym e)
