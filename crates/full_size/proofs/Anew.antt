-- What dissolve answers and writes out is the same in all memories of the same sizes, whatever they hold.
--     same_lengths      their lengths fit a table, or do not
--     dissolve_anew     that law
--     Full, full_sized     memory is of full size, by the lengths of its slices
--     lent_full, drawn_full     in full memory itself, dissolve is what the contract says
--     drawn_anew     and in arrays of a full state, whatever they hold
-- Assumes nothing.
use Prim.Native.Nat.{ℕ, min}
use mathlib.Core.Path.{◌≡◌, refl, sym, ◌∙◌, ap}
use mathlib.Core.List.{List}
use lib.ListN.{length, replicate, length-replicate}
use Rattle.std.specs.Prelude.{Err, Ok}
use Rattle.scope.specs.Answers.{Verdict}
use Rattle.scope.specs.Table.{Table, row_count}
use Rattle.scope.specs.Memory.{Memory, Output, lengths_fit}
use Rattle.scope.specs.Calls.{Reading, reading, open_verdict, dissolve_verdict, working, dissolving}
use Rattle.scope.specs.Bytes.{cleared}
use Rattle.lent.specs.declared.arrays.Sizes.{Sizes}
use Rattle.lent.specs.Arrays.{HasSizes}
use Rattle.taking.proofs.Sizes.{Sized, opened_same}
use Rattle.full_size.specs.Drawing.{drawn, full_memory, drawing}

drawn_reading : (v : Verdict) (d : Reading) (m₀ m : Memory) (o : Output) → drawn (reading v d m o) ≡ drawn (reading v d m₀ o)
drawn_reading (Ok done) d m₀ m o = refl
drawn_reading (Err why) d m₀ m o = refl

pub same_lengths : (t : Table) {m₀ m : Memory} → Sized m₀ m → lengths_fit t m ≡ lengths_fit t m₀
unfolding lengths_fit
same_lengths t s =
    rw (
      s.head,
      s.cells,
      s.parent,
      s.rank,
      s.cell_mark,
      s.slot_row,
      s.slot_cell,
      s.prev,
      s.next,
      s.row_slot,
      s.row_mark,
    )

module _ (t : Table) (mode : ℕ) (cs : List ℕ) (o : Output) {m₀ m : Memory} (s : Sized m₀ m) where
  same_verdict : dissolve_verdict t m mode cs o ≡ dissolve_verdict t m₀ mode cs o
  unfolding dissolve_verdict open_verdict
  same_verdict = rw (same_lengths t s, s.cells)

  same_work : working t m mode cs o ≡ working t m₀ mode cs o
  unfolding working
  same_work = rw (opened_same mode s)

  pub dissolve_anew : drawn (dissolving t m mode cs o) ≡ drawn (dissolving t m₀ mode cs o)
  unfolding dissolving
  dissolve_anew =
      drawn_reading (dissolve_verdict t m mode cs o) (working t m mode cs o) m₀ m o
      ∙ ap (λ (v : Verdict). drawn (reading v (working t m mode cs o) m₀ o)) same_verdict
      ∙ ap (λ (d : Reading). drawn (reading (dissolve_verdict t m₀ mode cs o) d m₀ o)) same_work

-- ---- by the lengths of the slices

-- the slices of m are as long as those of full memory
pub record Full (t : Table) (m : Memory) : Type 0 where
  pub head : 2 ≡ length m.head
  pub cells : 16384 ≡ length m.cells
  pub parent : 16384 ≡ length m.parent
  pub rank : 16384 ≡ length m.rank
  pub cell_mark : 16384 ≡ length m.cell_mark
  pub slot_row : 65536 ≡ length m.slot_row
  pub slot_cell : 65536 ≡ length m.slot_cell
  pub prev : 65536 ≡ length m.prev
  pub next : 65536 ≡ length m.next
  pub row_slot : min (row_count t) 65536 ≡ length m.row_slot
  pub row_mark : min (row_count t) 65536 ≡ length m.row_mark

as_long : (n : ℕ) (l : List ℕ) → n ≡ length l → length l ≡ length {A = ℕ} (replicate n 0)
as_long n l e = sym e ∙ sym (length-replicate {A = ℕ} n 0)

pub full_sized : (t : Table) (m : Memory) → Full t m → Sized (full_memory t) m
unfolding cleared
full_sized t m f = record {
  head = as_long 2 m.head f.head;
  cells = as_long 16384 m.cells f.cells;
  parent = as_long 16384 m.parent f.parent;
  rank = as_long 16384 m.rank f.rank;
  cell_mark = as_long 16384 m.cell_mark f.cell_mark;
  slot_row = as_long 65536 m.slot_row f.slot_row;
  slot_cell = as_long 65536 m.slot_cell f.slot_cell;
  prev = as_long 65536 m.prev f.prev;
  next = as_long 65536 m.next f.next;
  row_slot = as_long (min (row_count t) 65536) m.row_slot f.row_slot;
  row_mark = as_long (min (row_count t) 65536) m.row_mark f.row_mark;
}

-- ---- in full memory itself

pub lent_full : (t : Table) {m : Memory} {s : Sizes} → m ≡ cleared s.rows s.slots s.places → s ≡ record { rows = min (row_count t) 65536; slots = 65536; places = 16384 } → m ≡ full_memory t
lent_full t e f = e ∙ ap (λ (k : Sizes). cleared k.rows k.slots k.places) f

pub drawn_full : (t : Table) (mode : ℕ) (cs : List ℕ) (o : Output) {m : Memory} {d : Reading} → m ≡ full_memory t → d ≡ dissolving t m mode cs o → drawn d ≡ drawing t mode cs o
unfolding drawing
drawn_full t mode cs o f e = ap (λ (k : Reading). drawn k) e ∙ ap (λ (k : Memory). drawn (dissolving t k mode cs o)) f

-- ---- in arrays that hold anything

lent_long : (t : Table) (m : Memory) {s : Sizes} → HasSizes s m → s ≡ record { rows = min (row_count t) 65536; slots = 65536; places = 16384 } → Full t m
lent_long t m h e = record {
  head = sym h.head;
  cells = sym (h.cells ∙ ap (λ (k : Sizes). k.places) e);
  parent = sym (h.parent ∙ ap (λ (k : Sizes). k.places) e);
  rank = sym (h.rank ∙ ap (λ (k : Sizes). k.places) e);
  cell_mark = sym (h.cell_mark ∙ ap (λ (k : Sizes). k.places) e);
  slot_row = sym (h.slot_row ∙ ap (λ (k : Sizes). k.slots) e);
  slot_cell = sym (h.slot_cell ∙ ap (λ (k : Sizes). k.slots) e);
  prev = sym (h.prev ∙ ap (λ (k : Sizes). k.slots) e);
  next = sym (h.next ∙ ap (λ (k : Sizes). k.slots) e);
  row_slot = sym (h.row_slot ∙ ap (λ (k : Sizes). k.rows) e);
  row_mark = sym (h.row_mark ∙ ap (λ (k : Sizes). k.rows) e);
}

pub drawn_anew : (t : Table) (mode : ℕ) (cs : List ℕ) (o : Output) {m : Memory} {s : Sizes} {d : Reading} → HasSizes s m → s ≡ record { rows = min (row_count t) 65536; slots = 65536; places = 16384 }
    → d ≡ dissolving t m mode cs o → drawn d ≡ drawing t mode cs o
unfolding drawing
drawn_anew t mode cs o {m} h e r = ap (λ (k : Reading). drawn k) r ∙ dissolve_anew t mode cs o (full_sized t m (lent_long t m h e))
