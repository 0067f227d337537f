-- What `read_out` and `dissolve` over records ask of the definitions.
--     Fits                           an answer counts no more rings than there are records and places of each plain slice
--     read_fits, dissolve_fits       so it is with the answers of the two calls
--     read_refused, read_agreed, dissolve_refused, dissolve_agreed     refused, or the core's, by the number of records
--     fills                          so there is room for what `fill_rings` writes
--     lists                          and what it leaves is what is defined
-- Assumes nothing.
use Prim.Native.Nat.{ℕ, ◌≤◌, zero-le}
use native.Mathlib.Nat.{le_refl, le_trans}
use mathlib.Core.Path.{◌≡◌, refl, sym, ap, subst, ◌∙◌}
use mathlib.Core.Bool.{Bool, true, false, ◌&&◌, cond}
use mathlib.Core.List.{List}
use lib.Dec.{eqb, leb}
use lib.ListN.{length}
use lib.Ieee.{Float}
use borrow.Author.Tests.{eqb-true, leb-true, eq-eqb, ne_eqb}
use Rattle.scope.specs.declared.Refusal.TheVariants.{BadLengths}
use Rattle.std.specs.Prelude.{Err, Ok}
use Rattle.scope.specs.declared.ReadOut.TheVariants.{Nothing, Closed, Outline}
use Rattle.scope.specs.Lists.{head_or}
use Rattle.scope.specs.Answers.{require, ◌▷◌, rings_of, Answer, Verdict}
use Rattle.scope.specs.Table.{Table}
use Rattle.scope.specs.Memory.{Memory, Output, outputs_agree, opened}
use Rattle.scope.specs.Order.{View, view, ordered, lowest_rows, ring_order, read_answer, polygon_count, area_at}
use Rattle.scope.specs.Calls.{Reading, reading, read_from, read_verdict, reading_out, state_verdict, offering_all, dissolve_verdict, working, dissolving, output_fits}
use Rattle.scope.proofs.Sorting.{sort_length}
use Rattle.scope.proofs.Tests.{and_left, and_right}
use Rattle.scope.proofs.Verdicts.{first_accepts, second_accepts, require_holds}
use Rattle.lent.specs.declared.Output.{Output as LentOutput}
use Rattle.lent.specs.Lent.{output_of, SameOutput}
use Rattle.ring_records.specs.Records.{filled}
use Rattle.ring_list.specs.Listing.{agreeing, listed, reading_agreed, dissolving_agreed, Records}
use Rattle.ring_records.specs.declared.Ring.{Ring}

pub record Fits (n : ℕ) (o : Output) (d : Reading) : Type 0 where
  pub records : rings_of d.answer ≤ n
  pub starts : rings_of d.answer ≤ length o.start
  pub sizes : rings_of d.answer ≤ length o.size
  pub groups : rings_of d.answer ≤ length o.group
  pub areas : rings_of d.answer ≤ length o.area

-- ---- the counts of the calls' answers

answer_counts : (a b : Bool) (p k : ℕ) (z : Float) → rings_of (cond a (Ok Nothing) (cond b (Ok Closed) (Ok (Outline p k z)))) ≤ k
unfolding rings_of
answer_counts true b p k z = zero-le
answer_counts false true p k z = zero-le
answer_counts false false p k z = le_refl k

counts : (v : View) → rings_of (read_answer v) ≤ length (ordered v)
unfolding read_answer ordered
counts v = subst (λ (k : ℕ). rings_of (read_answer v) ≤ k) (sym (sort_length (ring_order v) (lowest_rows v))) (answer_counts (eqb v.held 0) (eqb (length (lowest_rows v)) 0) (polygon_count v) (length (lowest_rows v)) (area_at v (head_or 0 (ordered v))))

same_length : (k a b : ℕ) → a ≡ b → k ≤ b → k ≤ a
same_length k a b e l = subst (λ (n : ℕ). k ≤ n) (sym e) l

module _ (n : ℕ) (o : Output) where
  -- a refusal counts no ring
  reading_fits : (v : Verdict) (d : Reading) (m : Memory) → (v ≡ Ok tt → Fits n o d) → Fits n o (reading v d m o)
  unfolding rings_of
  reading_fits (Ok done) d m h = h refl
  reading_fits (Err why) d m h = record { records = zero-le; starts = zero-le; sizes = zero-le; groups = zero-le; areas = zero-le }

  agree_sizes : outputs_agree o ≡ true → length o.size ≡ length o.start
  agree_sizes e = eqb-true _ _ (and_left (eqb (length o.size) (length o.start)) (eqb (length o.group) (length o.start)) (and_left _ (eqb (length o.area) (length o.start)) e))

  agree_groups : outputs_agree o ≡ true → length o.group ≡ length o.start
  agree_groups e = eqb-true _ _ (and_right (eqb (length o.size) (length o.start)) (eqb (length o.group) (length o.start)) (and_left _ (eqb (length o.area) (length o.start)) e))

  agree_areas : outputs_agree o ≡ true → length o.area ≡ length o.start
  agree_areas e = eqb-true _ _ (and_right (eqb (length o.size) (length o.start) && eqb (length o.group) (length o.start)) (eqb (length o.area) (length o.start)) e)

  from_fits : (t : Table) (m : Memory) → eqb n (length o.start) ≡ true → outputs_agree o ≡ true → output_fits (view t m) o ≡ true → Fits n o (read_from t m o)
  unfolding output_fits
  from_fits t m e agree fit =
      let c = le_trans (counts (view t m)) (leb-true _ _ (and_left (leb (length (ordered (view t m))) (length o.start)) _ fit)) in
      record {
        records = same_length _ _ _ (eqb-true _ _ e) c;
        starts = c;
        sizes = same_length _ _ _ (agree_sizes agree) c;
        groups = same_length _ _ _ (agree_groups agree) c;
        areas = same_length _ _ _ (agree_areas agree) c;
      }

pub read_fits : (t : Table) (m : Memory) (o : Output) (n : ℕ) → Fits n o (reading_agreed t m o n)
unfolding reading_agreed reading_out read_verdict
read_fits t m o n =
    reading_fits n o _ (reading_out t m o) m (λ same. reading_fits n o (read_verdict t m o) (read_from t m o) m (λ a.
    from_fits n o t m (require_holds _ BadLengths same) (require_holds _ BadLengths (first_accepts _ (state_verdict t m ▷ require (output_fits (view t m) o) BadLengths) a))
    (require_holds _ BadLengths (second_accepts (state_verdict t m) _ (second_accepts (require (outputs_agree o) BadLengths) _ a)))))

pub dissolve_fits : (t : Table) (m : Memory) (mode : ℕ) (cs : List ℕ) (o : Output) (n : ℕ) → Fits n o (dissolving_agreed t m mode cs o n)
unfolding dissolving_agreed dissolving working dissolve_verdict
dissolve_fits t m mode cs o n =
    let last = offering_all t (opened mode m) cs in
    reading_fits n o _ (dissolving t m mode cs o) m (λ same. reading_fits n o (dissolve_verdict t m mode cs o) (working t m mode cs o) m (λ a.
    reading_fits n o (last.answer ▷ require (output_fits (view t last.left) o) BadLengths) (read_from t last.left o) (opened mode m) (λ b.
    from_fits n o t last.left (require_holds _ BadLengths same) (require_holds (outputs_agree o) BadLengths (first_accepts (require (outputs_agree o) BadLengths) _ a)) (require_holds _ BadLengths (second_accepts last.answer _ b)))))

-- ---- slices that disagree in length, and that agree

module _ (n : ℕ) (o : Output) (d : Reading) (m : Memory) where
  refused : (n ≡ length o.start → ⊥) → record { answer = Err BadLengths; left = m; out = o } ≡ agreeing n o d m
  refused e = ap (λ (b : Bool). reading (require b BadLengths) d m o) (sym (ne_eqb n (length o.start) e))

  carried_out : (d' : Reading) → n ≡ length o.start → d' ≡ d → d' ≡ agreeing n o d m
  carried_out d' e same = same ∙ ap (λ (b : Bool). reading (require b BadLengths) d m o) (sym (eq-eqb n (length o.start) e))

module _ (t : Table) (m : Memory) (o : Output) (n : ℕ) where
  pub read_refused : (n ≡ length o.start → ⊥) → record { answer = Err BadLengths; left = m; out = o } ≡ reading_agreed t m o n
  unfolding reading_agreed
  read_refused e = refused n o (reading_out t m o) m e

  pub read_agreed : (d : Reading) → n ≡ length o.start → d ≡ reading_out t m o → d ≡ reading_agreed t m o n
  unfolding reading_agreed
  read_agreed d e same = carried_out n o (reading_out t m o) m d e same

module _ (t : Table) (m : Memory) (mode : ℕ) (cs : List ℕ) (o : Output) (n : ℕ) where
  pub dissolve_refused : (n ≡ length o.start → ⊥) → record { answer = Err BadLengths; left = m; out = o } ≡ dissolving_agreed t m mode cs o n
  unfolding dissolving_agreed
  dissolve_refused e = refused n o (dissolving t m mode cs o) m e

  pub dissolve_agreed : (d : Reading) → n ≡ length o.start → d ≡ dissolving t m mode cs o → d ≡ dissolving_agreed t m mode cs o n
  unfolding dissolving_agreed
  dissolve_agreed d e same = carried_out n o (dissolving t m mode cs o) m d e same

-- ---- the records

pub fills : (rings : List Ring) {r : Answer} {left : Memory} {a b : LentOutput} {d : Reading} → record { answer = r; left = left; out = output_of b } ≡ d
    → Fits (length rings) (output_of a) d → SameOutput a b → Records r rings (output_of b)
fills rings {a = a} e f s =
    let h = subst (Fits (length rings) (output_of a)) (sym e) f in (
      h.records,
      same_length _ _ _ s.start_length h.starts,
      same_length _ _ _ s.size_length h.sizes,
      same_length _ _ _ s.group_length h.groups,
      same_length _ _ _ s.area_length h.areas,
    )

pub lists : (rings : List Ring) {r : Answer} {left : Memory} {o : Output} {d : Reading} → record { answer = r; left = left; out = o } ≡ d
    → (rings' : List Ring) → rings' ≡ filled o.start o.size o.group o.area (rings_of r) rings
    → record { reading = record { answer = r; left = left; out = o }; rings = rings' } ≡ listed d rings
lists rings {r} {left} {o} e rings' z =
    ap (λ (l : List Ring). record { reading = record { answer = r; left = left; out = o }; rings = l }) z ∙ ap (λ (x : Reading). listed x rings) e
