-- What is read out has room in the outputs: no more rings than records, no more edges than rows in the edge list.
--     RoomIn                       a reading of outputs as long as these
--     read_room, dissolve_room     the readings of the two calls
-- Assumes nothing.
use Prim.Native.Nat.{ℕ, zero, suc, ◌+◌, ◌≤◌}
use mathlib.Core.Path.{◌≡◌, refl, sym, ◌∙◌, ap, subst}
use mathlib.Core.Bool.{Bool, true, false, cond}
use mathlib.Core.List.{List, [], ◌∷◌}
use native.Mathlib.Omega.{arith}
use lib.Dec.{eqb, leb}
use lib.ListN.{length, length-append}
use borrow.Author.Tests.{leb-true}
use Rattle.scope.specs.declared.Refusal.TheVariants.{BadLengths}
use Rattle.std.specs.Prelude.{Err, Ok}
use Rattle.scope.specs.declared.ReadOut.TheVariants.{Nothing, Closed, Outline}
use Rattle.scope.specs.Lists.{at, total, head_or}
use Rattle.scope.specs.Answers.{rings_of, require, ◌▷◌, Answer, Verdict}
use Rattle.scope.specs.Table.{Table}
use Rattle.scope.specs.Memory.{Memory, Output, held, opened, outputs_agree}
use Rattle.scope.specs.Order.{View, view, ring_at, lowest_rows, ring_order, ordered, sizes, edge_rows, polygon_count, area_at, read_answer}
use Rattle.scope.specs.Calls.{Reading, reading, read_from, written, output_fits, state_verdict, read_verdict, reading_out, offering_all, dissolve_verdict, working, dissolving}
use Rattle.scope.specs.Bytes.{edge_count}
use Rattle.scope.proofs.Tests.{and_left, and_right}
use Rattle.scope.proofs.Verdicts.{second_accepts, require_holds}
use Rattle.scope.proofs.Sums.{total_same}
use Rattle.scope.proofs.Sorting.{sort_length}
use Rattle.scope.proofs.Below.{map_length}
use Rattle.scope.proofs.Over.{over_at}

pub record RoomIn (o : Output) (r : Reading) : Type 0 where
  pub rings : rings_of r.answer ≤ length o.start
  pub edges : edge_count r.answer r.out ≤ length o.edges

-- ---- as many edges as all rings are long

total_first : (f : ℕ → ℕ) (n : ℕ) → total f (suc n) ≡ f 0 + total (λ i. f (suc i)) n
unfolding total
total_first f zero = omega arith
total_first f (suc n) = let e = total_first f n in omega arith

rings_long : (v : View) (l : List ℕ) → total (at (sizes v l)) (length l) ≡ length (edge_rows v l)
unfolding total edge_rows
rings_long v [] = refl
rings_long v (r ∷ l) =
    total_first (at (sizes v (r ∷ l))) (length l) ∙ ap (λ (n : ℕ). length (ring_at v r) + n) (rings_long v l)
    ∙ sym (length-append (ring_at v r) (edge_rows v l))

module _ (v : View) (o : Output) where
  wrote : total (at (written v o).size) (length (lowest_rows v)) ≡ length (edge_rows v (ordered v))
  unfolding written ordered
  wrote =
      let l = ordered v in
      let n : length (lowest_rows v) ≡ length l = sym (sort_length _ (lowest_rows v)) in
      ap (total (at (written v o).size)) n
      ∙ total_same (at (written v o).size) (at (sizes v l)) (length l) (λ i h. over_at (sizes v l) o.size i 0 (let k = map_length (λ r. length (ring_at v r)) l in omega arith))
      ∙ rings_long v l

-- ---- the calls

module _ (t : Table) (m : Memory) (o : Output) where
  fits_room : output_fits (view t m) o ≡ true → RoomIn o (read_from t m o)
  unfolding output_fits read_answer edge_count rings_of total ordered
  fits_room e = go (eqb (held m) 0) (eqb (length (lowest_rows v)) 0)
    where
      v : View
      v = view t m

      answer : Bool → Bool → Answer
      answer a b = cond a (Ok Nothing) (cond b (Ok Closed) (Ok (Outline (polygon_count v) (length (lowest_rows v)) (area_at v (head_or 0 (ordered v))))))

      records : length (ordered v) ≤ length o.start
      records = leb-true _ _ (and_left _ _ e)

      rows : length (edge_rows v (ordered v)) ≤ length o.edges
      rows = leb-true _ _ (and_right (leb (length (ordered v)) (length o.start)) _ e)

      go : (a b : Bool) → RoomIn o (record { answer = answer a b; left = m; out = written v o })
      go true b = record { rings = omega arith; edges = omega arith }
      go false true = record { rings = omega arith; edges = omega arith }
      go false false = record {
        rings = subst (λ (n : ℕ). n ≤ length o.start) (sort_length (ring_order v) (lowest_rows v)) records;
        edges = subst (λ (n : ℕ). n ≤ length o.edges) (sym (wrote v o)) rows;
      }

-- refused, nothing is read out
read_as : (w : Verdict) (done : Reading) (m : Memory) (o : Output) → (w ≡ Ok tt → RoomIn o done) → RoomIn o (reading w done m o)
unfolding edge_count rings_of total
read_as (Ok _) done m o f = f refl
read_as (Err why) done m o f = record { rings = omega arith; edges = omega arith }

pub read_room : (t : Table) (m : Memory) (o : Output) → RoomIn o (reading_out t m o)
unfolding reading_out read_verdict
read_room t m o = read_as (read_verdict t m o) (read_from t m o) m o (λ e.
    fits_room t m o (require_holds (output_fits (view t m) o) BadLengths (second_accepts (state_verdict t m) _ (second_accepts (require (outputs_agree o) BadLengths) _ e))))

pub dissolve_room : (t : Table) (m : Memory) (mode : ℕ) (cs : List ℕ) (o : Output) → RoomIn o (dissolving t m mode cs o)
unfolding dissolving working
dissolve_room t m mode cs o =
    let last = offering_all t (opened mode m) cs in
    let fits = require (output_fits (view t last.left) o) BadLengths in
    read_as (dissolve_verdict t m mode cs o) (working t m mode cs o) m o (λ _.
    read_as (last.answer ▷ fits) (read_from t last.left o) (opened mode m) o (λ e.
    fits_room t last.left o (require_holds (output_fits (view t last.left) o) BadLengths (second_accepts last.answer fits e))))
