-- THE STATES OF THE CALLS FIT THEIR BYTES: every number of a state that passes the rules fits its width, but for what stands past the held cells;
-- and there the calls put nothing.
--     PlacesLow m              cells, parents and ranks fit their widths at every place
--     sound_stored             then a state that passes the rules is one that its bytes can hold
--     opened_low, taken_low    an opening, and an accepted offer, leave such places
--     read_low                 every state read from bytes has such places
-- Assumes nothing.
use mathlib.Core.Path.{◌≡◌, refl}
use mathlib.Core.Bool.{true}
use mathlib.Core.Logic.{⊎_elim}
use mathlib.Core.List.{List}
use Prim.Native.Nat.{ℕ, zero, suc, ◌+◌, ◌*◌, ◌^◌, ◌≤◌, ◌<◌}
use native.Mathlib.Omega.{arith}
use lib.ListN.{length, get_or-eq_default}
use lib.Seq.{get_or-set_other}
use Rattle.scope.specs.Lists.{at, tabulate}
use Rattle.scope.specs.Cells.{valid_cell}
use Rattle.scope.specs.Table.{Table, row_count}
use Rattle.scope.specs.Memory.{Memory, held, places, slots, opened}
use Rattle.scope.specs.Pool.{taking}
use Rattle.scope.specs.Bytes.{u32_at, u64_at, state_in}
use Rattle.scope.proofs.Tests.{le_or_lt}
use Rattle.scope.proofs.Members.{cases}
use Rattle.scope.proofs.Below.{tabulate_length, tabulate_at}
use Rattle.scope.proofs.Sums.{total_term}
use Rattle.scope.proofs.Cells.{cell_top}
use Rattle.scope.proofs.Opened.{zeros_at}
use Rattle.scope.proofs.Sound.{Sound, sound_table, Offered, offered_valid}
use Rattle.scope.proofs.Taking.{taken_places, taken_held, cell_new}
use Rattle.scope.proofs.TakingRules.{taken_sound}
use Rattle.scope.proofs.PastHeld.{taken_past}
use Rattle.scope.proofs.RoundTrip.{Stored}

-- every number of a list fits, and so does the 0 past its end
abbrev pub Low : ℕ → List ℕ → Type 0
Low limit l = (i : ℕ) → at l i < limit

low_by : (limit : ℕ) (l : List ℕ) → 0 < limit → ((i : ℕ) → i < length l → at l i < limit) → Low limit l
low_by limit l z f i = ⊎_elim (λ (h : length l ≤ i). let e = get_or-eq_default l 0 h in omega arith) (λ (h : i < length l). f i h) (le_or_lt (length l) i)

pub record PlacesLow (m : Memory) : Type 0 where
  pub cells : Low (2 ^ 64) m.cells
  pub parent : Low (2 ^ 32) m.parent
  pub rank : Low (2 ^ 32) m.rank

-- ---- a state that passes the rules

module _ {t : Table} {m : Memory} (S : Sound t m) where
  head_low : (i : ℕ) → i < length m.head → at m.head i < 2 ^ 32
  head_low zero h = let g = S.rules.mode_fits in omega arith
  head_low (suc zero) h = let g = S.rules.count_fits in let l = S.lengths.most_places in omega arith
  head_low (suc (suc i)) h = let l = S.lengths.head in absurd (omega arith)

  -- a slot's number, by whether the slot is used
  slot_low : (l : List ℕ) → length l ≡ slots m → ((s : ℕ) → s < slots m → (at m.slot_row s ≡ 0 → ⊥) → at l s < 2 ^ 32)
      → ((s : ℕ) → s < slots m → at m.slot_row s ≡ 0 → at l s ≡ 0) → Low (2 ^ 32) l
  slot_low l e used free = low_by (2 ^ 32) l (omega arith) (λ s h. cases (at m.slot_row s) 0
      (λ z. let c = free s (omega arith) z in omega arith)
      (λ u. used s (omega arith) u))

  row_low : (r : ℕ) → r < length m.row_slot → at m.row_slot r < 2 ^ 32
  row_low r h = cases (at m.row_slot r) 0 (λ z. omega arith) (λ n. let w = (S.rules.row_held r h n).slot-in in let k = S.lengths.most_slots in omega arith)

  pub sound_stored : PlacesLow m → Stored (row_count t) (slots m) (places m) m
  sound_stored P =
      let l = S.lengths in
      let g = S.rules in
      let rows = (sound_table S).most in
      let held_in = g.count_fits in
      let most_places = l.most_places in
      let most_slots = l.most_slots in
      let clear : (k : List ℕ) → ((i : ℕ) → i < length k → at k i ≡ 0) → Low (2 ^ 32) k = λ k f. low_by (2 ^ 32) k (omega arith) (λ i h. let e = f i h in omega arith) in
      record {
        head = record { long = l.head; low = low_by (2 ^ 32) m.head (omega arith) head_low };
        cells = record { long = refl; low = P.cells };
        parent = record { long = l.parent; low = P.parent };
        rank = record { long = l.rank; low = P.rank };
        cell_mark = record { long = l.cell_mark; low = clear m.cell_mark g.cell_marks };
        slot_row = record { long = refl; low = slot_low m.slot_row refl (λ s h u. let w = g.slot_used s h u in omega (arith, w.row_within, w.row_is)) (λ s h z. z) };
        slot_cell = record { long = l.slot_cell; low = slot_low m.slot_cell l.slot_cell (λ s h u. let w = (g.slot_used s h u).cell_held in omega arith) (λ s h z. (g.slot_free s h z).cell_clear) };
        prev = record { long = l.prev; low = slot_low m.prev l.prev (λ s h u. let w = (g.slot_used s h u).prev_in in omega arith) (λ s h z. (g.slot_free s h z).prev_clear) };
        next = record { long = l.next; low = slot_low m.next l.next (λ s h u. let w = (g.slot_used s h u).next_in in omega arith) (λ s h z. (g.slot_free s h z).next_clear) };
        row_slot = record { long = l.row_slot; low = low_by (2 ^ 32) m.row_slot (omega arith) row_low };
        row_mark = record { long = l.row_mark; low = clear m.row_mark g.row_marks };
      }

-- ---- the calls

pub opened_low : (mode : ℕ) (m : Memory) → PlacesLow (opened mode m)
unfolding opened
opened_low mode m = record {
  cells = λ i. let z = zeros_at m.cells i in omega arith;
  parent = λ i. let z = zeros_at m.parent i in omega arith;
  rank = λ i. let z = zeros_at m.rank i in omega arith;
}

cell_low : (x : ℕ) → valid_cell x ≡ true → x < 2 ^ 64
cell_low x e = let h = cell_top x e in omega arith

pub taken_low : {t : Table} {m : Memory} {x : ℕ} → Offered t m x → PlacesLow m → PlacesLow (taking t m x)
taken_low {t} {m} {x} O P =
    let T = taken_sound O in
    let past = taken_past O in
    let n = taken_held O in
    let most : held (taking t m x) ≤ 16384 = let c = T.rules.count_fits in let l = T.lengths.most_places in omega arith in
    record {
      cells = λ i. cases i (held m) (λ e. rw (e, cell_new O) (cell_low x (offered_valid O)))
          (λ d. rw (taken_places t m x, get_or-set_other m.cells (held m) i x 0 d) (P.cells i));
      parent = λ i. ⊎_elim
          (λ (h : held (taking t m x) ≤ i). rw (past.parent i (omega arith)) (P.parent i))
          (λ (h : i < held (taking t m x)). let k = T.rules.parent_held i h in omega arith)
          (le_or_lt (held (taking t m x)) i);
      rank = λ i. ⊎_elim
          (λ (h : held (taking t m x) ≤ i). rw (past.rank i (omega arith)) (P.rank i))
          (λ (h : i < held (taking t m x)). let k = total_term (at (taking t m x).rank) (held (taking t m x)) i h in let f = T.rules.ranks_fit in omega arith)
          (le_or_lt (held (taking t m x)) i);
    }

-- ---- states read from bytes

module _ (b : List ℕ) (bytes : Low (2 ^ 8) b) where
  u32_low : (s : ℕ) → u32_at b s < 2 ^ 32
  u32_low s = let p = bytes s in let q = bytes (s + 1) in let r = bytes (s + 2) in let t = bytes (s + 3) in omega arith

  u64_low : (s : ℕ) → u64_at b s < 2 ^ 64
  u64_low s = let p = u32_low s in let q = u32_low (s + 4) in omega arith

  column_low : (limit : ℕ) (f : ℕ → ℕ) (n : ℕ) → ((i : ℕ) → f i < limit) → Low limit (tabulate f n)
  column_low limit f n h = let z = h 0 in low_by limit (tabulate f n) (omega arith) (λ i k.
      let e = tabulate_at f n i (let l = tabulate_length f 0 n in omega arith) in let g = h i in omega arith)

  pub read_low : (rows slots places : ℕ) → PlacesLow (state_in rows slots places b)
  unfolding state_in
  read_low rows slots places = record {
    cells = column_low (2 ^ 64) (λ i. u64_at b (8 + i * 8)) places (λ i. u64_low (8 + i * 8));
    parent = column_low (2 ^ 32) (λ i. u32_at b (8 + 8 * places + i * 4)) places (λ i. u32_low (8 + 8 * places + i * 4));
    rank = column_low (2 ^ 32) (λ i. u32_at b (8 + 12 * places + i * 4)) places (λ i. u32_low (8 + 12 * places + i * 4));
  }
