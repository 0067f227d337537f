-- Rows decoded over the start of three slices.
--     rows_over    the three lent parts, come back, are the table over what was there
--     in_room      rows that fit the room fit each slice
--     fits, unfit                     what the answer says of the file
--     table_read, table_refused       what the reader promises, by whether the rows fit
-- Assumes nothing.
use Prim.Native.Nat.{ℕ, ◌%◌, ◌≤◌, min}
use mathlib.Core.Path.{◌≡◌, refl, sym, ◌∙◌, ap}
use mathlib.Core.Bool.{Bool, true, false, ◌&&◌, cond}
use mathlib.Core.List.{List, ◌++◌}
use mathlib.Core.Logic.{⊎_elim}
use native.Mathlib.Nat.{min-le_left, min-le_right}
use native.Mathlib.Omega.{arith}
use borrow.Author.Tests.{leb-true}
use lib.Dec.{eqb, leb}
use lib.Ieee.{Float}
use lib.ListN.{length, take, drop}
use lib.Seq.{length-take-le}
use Rattle.scope.specs.Table.{Table, table}
use Rattle.scope.specs.Bytes.{rows_in, table_in}
use Rattle.scope.proofs.Tests.{either, and_right}
use Rattle.std.specs.Prelude.{Ok, Err}
use Rattle.table_bytes.specs.declared.TableFault.{TableFault}
use Rattle.table_bytes.specs.Files.{table_fits, file_of, over_table, room_of, TableRead}

pub rows_over : (b E R : List ℕ) (A : List Float) {n : ℕ} {e r : List ℕ} {a : List Float}
    → table e r a ≡ table_in b → length e ≡ n → length r ≡ n → length a ≡ n
    → table (e ++ drop n E) (r ++ drop n R) (a ++ drop n A) ≡ over_table (table_in b) (table E R A)
unfolding over_table
rows_over b E R A {n} {e} {r} {a} q le lr la =
    ap (λ (k : ℕ). table (e ++ drop k E) (r ++ drop n R) (a ++ drop n A)) (sym le)
    ∙ ap (λ (k : ℕ). table (e ++ drop (length e) E) (r ++ drop k R) (a ++ drop n A)) (sym lr)
    ∙ ap (λ (k : ℕ). table (e ++ drop (length e) E) (r ++ drop (length r) R) (a ++ drop k A)) (sym la)
    ∙ ap (λ (t : Table). over_table t (table E R A)) q

-- a part of n is n long
pub part_long : {A : Type 0} (n : ℕ) (l : List A) {m : ℕ} → n ≤ length l → m ≡ length (take n l) → m ≡ n
part_long n l h k = k ∙ length-take-le n l h

pub in_room : (b : List ℕ) (t : Table) {room : ℕ} → room ≡ room_of t → table_fits room b ≡ true → (rows_in b ≤ length t.edges) × (rows_in b ≤ length t.reverse) × (rows_in b ≤ length t.area)
in_room b t {room} e h =
    let f = leb-true (rows_in b) room (and_right (eqb (length b % 20) 0) (leb (rows_in b) room) h) in
    let p = min-le_left (min (length t.edges) (length t.reverse)) (length t.area) in
    let q = min-le_right (min (length t.edges) (length t.reverse)) (length t.area) in
    let u = min-le_left (length t.edges) (length t.reverse) in
    let v = min-le_right (length t.edges) (length t.reverse) in
    (omega arith, omega arith, omega arith)

and_no : (a b : Bool) → b ≡ false → (a && b) ≡ false
and_no true b e = e
and_no false b e = refl

-- whole rows are read just where they fit
module _ (b : List ℕ) (room : ℕ) where
  pub fits : {rows : ℕ} → file_of room b ≡ Ok rows → table_fits room b ≡ true
  unfolding file_of
  fits q = ⊎_elim
      (λ (l : leb (rows_in b) room ≡ true). ⊎_elim
      (λ (z : eqb (length b % 20) 0 ≡ true). rw (l, z) refl)
      (λ (z : eqb (length b % 20) 0 ≡ false). let e = rw (l, z) at q in cc)
      (either (eqb (length b % 20) 0)))
      (λ (l : leb (rows_in b) room ≡ false). let e = rw l at q in cc)
      (either (leb (rows_in b) room))

  pub unfit : {fault : TableFault} → file_of room b ≡ Err fault → table_fits room b ≡ false
  unfolding file_of
  unfit q = ⊎_elim
      (λ (l : leb (rows_in b) room ≡ true). ⊎_elim
      (λ (z : eqb (length b % 20) 0 ≡ true). let e = rw (l, z) at q in cc)
      (λ (z : eqb (length b % 20) 0 ≡ false). rw z refl)
      (either (eqb (length b % 20) 0)))
      (λ (l : leb (rows_in b) room ≡ false). and_no (eqb (length b % 20) 0) (leb (rows_in b) room) l)
      (either (leb (rows_in b) room))

-- the room was reckoned from the three lengths
pub room_is : (t : Table) {k room : ℕ} → k ≡ min (length t.edges) (length t.reverse) → room ≡ min k (length t.area) → room ≡ room_of t
room_is t e f = f ∙ ap (λ (k : ℕ). min k (length t.area)) e

module _ (b : List ℕ) (t : Table) {room : ℕ} (e : room ≡ room_of t) where
  pub table_read : {rows : ℕ} {t' : Table} → file_of room b ≡ Ok rows → t' ≡ over_table (table_in b) t → TableRead b t (Ok rows) t'
  table_read q u = record {
    answer = sym q ∙ ap (λ (k : ℕ). file_of k b) e;
    left = u ∙ ap (λ (x : Bool). cond x (over_table (table_in b) t) t) (sym (fits b room q) ∙ ap (λ (k : ℕ). table_fits k b) e);
  }

  pub table_refused : {fault : TableFault} → file_of room b ≡ Err fault → TableRead b t (Err fault) t
  table_refused q = record {
    answer = sym q ∙ ap (λ (k : ℕ). file_of k b) e;
    left = ap (λ (x : Bool). cond x (over_table (table_in b) t) t) (sym (unfit b room q) ∙ ap (λ (k : ℕ). table_fits k b) e);
  }
