-- Laws of what read out and dissolve write: sums over the rings, and the bytes of a whole reading.
--     total_next, total_upto     one more, and no more than all
--     read_length                24 bytes, 20 for each ring and 4 for each edge
--     reading_written            the summary, the rings and the edges written one behind the other are a reading's bytes
--     shown_is, shown_fits     the verdict with the test of the output's length
-- Assumes nothing.
use Prim.Native.Nat.{ℕ, zero, suc, ◌+◌, ◌-◌, ◌*◌, ◌≤◌, ◌<◌}
use mathlib.Core.Path.{◌≡◌, refl, sym, ◌∙◌, ap, ap₂, subst}
use mathlib.Core.Bool.{true}
use mathlib.Core.List.{List, ◌++◌}
use native.Mathlib.Numerals.{add-one}
use native.Mathlib.Omega.{arith}
use lib.Dec.{leb}
use lib.ListN.{length, take, drop, length-append}
use borrow.Author.Tests.{leb-true}
use lib.Seq.{sets, sets-eq, length-take-le, get_or-take}
use Rattle.scope.specs.declared.Refusal.TheVariants.{BadLengths}
use Rattle.scope.specs.Lists.{at, total}
use Rattle.scope.specs.Answers.{Answer, Verdict, kind_of, verdict_of, polygons_of, rings_of, is_accepted, require, ◌▷◌}
use Rattle.scope.specs.Memory.{Output}
use Rattle.scope.specs.Calls.{over}
use Rattle.scope.specs.Bytes.{bytes32, joined, all32, summary_record, ring_bytes, edge_bytes, edge_count, area_bits, read_bytes, shown_verdict}
use Rattle.scope.proofs.Verdicts.{accepted, second_accepts, require_holds}
use Rattle.answer_numbers.specs.declared.Summary.{Summary}
use Rattle.answer_numbers.specs.Sums.{Sums}
use Rattle.scope.proofs.RoundTrip.{joined_length}
use Rattle.codec.proofs.Writing.{behind}
use Rattle.wire.specs.Room.{ReadingRoom}

module _ (f : ℕ → ℕ) where
  pub total_next : (i : ℕ) → total f (i + 1) ≡ total f i + f i
  unfolding total
  total_next i = ap (total f) (add-one i)

  more : (i d : ℕ) → total f i ≤ total f (i + d)
  unfolding total
  more i zero = omega (arith, ap (total f) (let z : i + 0 ≡ i = omega arith in z))
  more i (suc d) = let m = more i d in omega (arith, ap (total f) (let z : i + suc d ≡ suc (i + d) = omega arith in z))

  pub total_upto : (i n : ℕ) → i ≤ n → total f i ≤ total f n
  total_upto i n h = subst (λ (k : ℕ). total f i ≤ total f k) (let z : i + (n - i) ≡ n = omega arith in z) (more i (n - i))

-- ---- runs of bytes

joined_same : (f g : ℕ → List ℕ) (n : ℕ) → ((i : ℕ) → i < n → f i ≡ g i) → joined f n ≡ joined g n
unfolding joined
joined_same f g zero e = refl
joined_same f g (suc n) e = ap₂ (λ (x y : List ℕ). x ++ y) (joined_same f g n (λ i h. e i (omega arith))) (e n (omega arith))

-- the first n numbers of a list
front_bytes : (l : List ℕ) (n : ℕ) → n ≤ length l → all32 (take n l) ≡ joined (λ i. bytes32 (at l i)) n
front_bytes l n h =
    ap (joined (λ i. bytes32 (at (take n l) i))) (length-take-le n l h)
    ∙ joined_same (λ i. bytes32 (at (take n l) i)) (λ i. bytes32 (at l i)) n (λ i k. ap bytes32 (get_or-take n l i 0 k))

-- written from the first place on
sets_over : (x b : List ℕ) → length x ≤ length b → sets b 0 x ≡ over x b
sets_over x b h = sets-eq x b 0 (omega arith) ∙ ap (λ (k : ℕ). x ++ drop k b) (let z : 0 + length x ≡ length x = omega arith in z)

-- ---- a whole reading

module _ (r : Answer) (o : Output) where
  pub read_length : length (read_bytes r o) ≡ 24 + 20 * rings_of r + 4 * edge_count r o
  unfolding read_bytes
  read_length =
      let s = summary_record (kind_of r) (polygons_of r) (rings_of r) (edge_count r o) (area_bits r) in
      let rings = joined (ring_bytes o) (rings_of r) in let edges = joined (edge_bytes o) (edge_count r o) in
      let a = length-append (s ++ rings) edges in let b = length-append s rings in
      let c = joined_length (ring_bytes o) 20 (λ i. refl) (rings_of r) in let d = joined_length (edge_bytes o) 4 (λ i. refl) (edge_count r o) in
      omega arith

module _ {size : ℕ} {r : Answer} {o : Output} {edges : ℕ} (R : ReadingRoom size r o edges) where
  pub reading_written : (out : List ℕ) {out₁ out₂ out₃ : List ℕ} {s : Summary} → length out ≡ size → Sums r s
      → out₁ ≡ sets out 0 (summary_record s.kind s.polygons s.rings edges s.area) → out₂ ≡ sets out₁ 24 (joined (ring_bytes o) s.rings)
      → out₃ ≡ sets out₂ (24 + 20 * s.rings) (all32 (take edges o.edges)) → out₃ ≡ over (read_bytes r o) out
  unfolding read_bytes
  reading_written out {out₁} {out₂} {out₃} {s} len e e₁ e₂ e₃ =
      let ss = summary_record s.kind s.polygons s.rings edges s.area in
      let rs = joined (ring_bytes o) s.rings in
      let es = all32 (take edges o.edges) in
      let n = joined_length (ring_bytes o) 20 (λ i. refl) s.rings in let l = length-append ss rs in
      let all = behind out (ss ++ rs) es 0 (behind out ss rs 0 e₁ e₂ refl) e₃ (omega arith) in
      let same : ss ++ rs ++ es ≡ read_bytes r o = rw (e.0, e.1, e.2, e.3, front_bytes o.edges edges R.rows, R.edges_are) in
      let long = read_length r o in let room = R.room in let ei = R.edges_are in
      all ∙ ap (sets out 0) same ∙ sets_over (read_bytes r o) out (omega arith)

-- ---- the verdict

module _ (r : Answer) (o : Output) (out : List ℕ) {rings edges : ℕ} (ri : rings ≡ rings_of r) (ei : edges ≡ edge_count r o) {v w : Verdict}
    (vi : v ≡ verdict_of r) (wi : w ≡ (v ▷ require (leb (24 + 20 * rings + 4 * edges) (length out)) BadLengths)) where
  pub shown_is : w ≡ shown_verdict r o out
  shown_is = wi ∙ ap₂ (λ (x : Verdict) (n : ℕ). x ▷ require (leb n (length out)) BadLengths) vi
      (ap₂ (λ (a b : ℕ). 24 + 20 * a + 4 * b) ri ei ∙ sym (read_length r o))

  pub shown_fits : is_accepted w ≡ true → 24 + 20 * rings + 4 * edges ≤ length out
  shown_fits e = leb-true _ _ (require_holds (leb (24 + 20 * rings + 4 * edges) (length out)) BadLengths (second_accepts v _ (sym wi ∙ accepted w e)))
