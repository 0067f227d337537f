-- Where the check refuses a table, the fault that is told is one that the table has.
--     fault_broken     of a table that is refused, with the row that is answered; fault_told: there is one
--     refused_low      that row is at most 65,536
-- Assumes nothing.
use Prim.Native.Nat.{ℕ, ◌≤◌}
use mathlib.Core.Path.{◌≡◌, refl, sym, ◌∙◌, ap, subst}
use mathlib.Core.Bool.{Bool, true, false, not, cond}
use mathlib.Core.Logic.{⊎_elim}
use native.Mathlib.Omega.{arith}
use lib.Dec.{eqb, leb, ltb}
use lib.Ieee.{nan}
use lib.ListN.{length, get_or}
use borrow.Author.Tests.{not-true, not-false, ltb-true, ltb-false, leb-true, le-leb}
use Rattle.std.specs.Prelude.{Result, Ok, Err, IsErr}
use Rattle.scope.specs.declared.Refusal.{Refusal}
use Rattle.scope.specs.declared.Refusal.TheVariants.{BadTable, BadLengths}
use Rattle.scope.specs.Answers.{Verdict, require, require_none, ◌▷◌, refusal_index, index_of}
use Rattle.scope.specs.Lists.{at, first_bad, passes}
use Rattle.scope.specs.Cells.{valid_edge}
use Rattle.scope.specs.Table.{Table, row_count, row_count_fits, reverse_of, has_target, ascends, paired, is_finite, row_good, table_verdict}
use Rattle.scope.specs.Memory.{table_agrees}
use Rattle.scope.proofs.Tests.{either, clash, and_right, and_both}
use Rattle.scope.proofs.Scan.{first_bad_lowest}
use Rattle.edge_table.specs.Checks.{checked}
use Rattle.table_words.specs.declared.rules.WholeFault.{WholeFault}
use Rattle.table_words.specs.declared.rules.RowFault.{RowFault}
use Rattle.table_words.specs.declared.rules.Fault.{Fault}
use Rattle.table_words.specs.Faults.{whole_fault, row_fault, first_fault, fault_of, RowBreaks, WholeBreaks, Breaks}

-- one of two, by a test, and by its negation
by_fault : {A : Type 0} (P : A → Type 0) (b : Bool) (x y : A) → (b ≡ true → P x) → (b ≡ false → P y) → P (cond b x y)
by_fault P true x y p q = p refl
by_fault P false x y p q = q refl

by_test : {A : Type 0} (P : A → Type 0) (b : Bool) (x y : A) → (b ≡ false → P x) → (b ≡ true → P y) → P (cond (not b) x y)
by_test P b x y p q = by_fault P (not b) x y (λ e. p (not-true b e)) (λ e. q (not-false b e))

module _ (t : Table) (i : ℕ) where
  good : valid_edge (at t.edges i) ≡ true → ascends t.edges i ≡ true → ltb (reverse_of t i) (length t.reverse) ≡ true → eqb (reverse_of t i) i ≡ false
      → eqb (reverse_of t (reverse_of t i)) i ≡ true → is_finite (get_or t.area i nan) ≡ true → row_good t i ≡ true
  unfolding row_good paired
  good valid above within other named finite = rw (valid, above, within, other, named, finite)

  -- what the tests of a row, and those of the table, say of it
  RowSays : Result (Unit {0}) RowFault → Type 0
  RowSays (Err f) = RowBreaks t i f
  RowSays (Ok sound) = row_good t i ≡ true

  row_says : RowSays (row_fault t i)
  unfolding row_fault RowSays RowBreaks
  row_says =
      by_test RowSays (valid_edge (at t.edges i)) _ _ (λ e. e) (λ valid.
      by_test RowSays (ascends t.edges i) _ _ (λ e. e) (λ above.
      by_test RowSays (ltb (reverse_of t i) (length t.reverse)) _ _ (λ e. e) (λ within.
      by_fault RowSays (eqb (reverse_of t i) i) _ _ (λ e. e) (λ other.
      by_test RowSays (eqb (reverse_of t (reverse_of t i)) i) _ _ (λ e. e) (λ named.
      by_test RowSays (is_finite (get_or t.area i nan)) _ _ (λ e. e) (λ finite.
      good valid above within other named finite))))))

  WholeSays : Result (Unit {0}) WholeFault → Type 0
  WholeSays (Err f) = WholeBreaks t f
  WholeSays (Ok kept) = (table_agrees t ≡ true) × (row_count_fits (row_count t) ≡ true) × (passes (has_target t.edges) (row_count t) ≡ true)

  count_fits : ltb (row_count t) 2 ≡ false → ltb 65536 (row_count t) ≡ false → row_count_fits (row_count t) ≡ true
  count_fits few many = and_both (leb 2 (row_count t)) (leb (row_count t) 65536) (le-leb 2 (row_count t) (ltb-false (row_count t) 2 few)) (le-leb (row_count t) 65536 (ltb-false 65536 (row_count t) many))

  whole_says : WholeSays (whole_fault t)
  unfolding whole_fault WholeSays WholeBreaks
  whole_says =
      by_test WholeSays (table_agrees t) _ _ (λ e. e) (λ agree.
      by_fault WholeSays (ltb (row_count t) 2) _ _ (λ e. e) (λ few.
      by_fault WholeSays (ltb 65536 (row_count t)) _ _ (λ e. e) (λ many.
      by_test WholeSays (passes (has_target t.edges) (row_count t)) _ _ (λ e. e) (λ targets.
      (agree, count_fits few many, targets)))))

-- the row that a lowest failure is refused with
none_refused : (ok : ℕ → Bool) (n : ℕ) (why : Refusal) → require_none BadTable n (first_bad ok n) ≡ Err why → ok (refusal_index why) ≡ false
unfolding refusal_index
none_refused ok n why e = ⊎_elim
    (λ (h : ltb (first_bad ok n) n ≡ true).
    let r : ◌≡◌ {A = Verdict} (Err (BadTable (first_bad ok n))) (Err why) = rw h at e in
    let s : BadTable (first_bad ok n) ≡ why = cc in
    ap (λ (w : Refusal). ok (refusal_index w)) (sym s) ∙ (first_bad_lowest ok n).here (ltb-true _ _ h))
    (λ (h : ltb (first_bad ok n) n ≡ false).
    let r : ◌≡◌ {A = Verdict} (Ok tt) (Err why) = rw h at e in cc)
    (either (ltb (first_bad ok n) n))

module _ (t : Table) (why : Refusal) (refused : checked t ≡ Err why) where
  bad_row : table_agrees t ≡ true → row_count_fits (row_count t) ≡ true → passes (has_target t.edges) (row_count t) ≡ true → row_good t (refusal_index why) ≡ false
  unfolding checked table_verdict
  bad_row agree fits targets = none_refused (row_good t) (row_count t) why (rw (agree, fits, targets) at refused)

  first_breaks : (w : Result (Unit {0}) WholeFault) (r : Result (Unit {0}) RowFault) → WholeSays t (refusal_index why) w → RowSays t (refusal_index why) r → Breaks t (refusal_index why) (first_fault w r)
  unfolding Breaks WholeSays RowSays
  first_breaks (Err f) r p q = p
  first_breaks (Ok kept) (Err f) p q = q
  first_breaks (Ok kept) (Ok sound) p q = clash q (bad_row p.0 p.1 p.2)

  pub fault_broken : Breaks t (refusal_index why) (fault_of t (refusal_index why))
  unfolding fault_of
  fault_broken = first_breaks (whole_fault t) (row_fault t (refusal_index why)) (whole_says t (refusal_index why)) (row_says t (refusal_index why))

  some_fault : (r : Result (Unit {0}) Fault) → Breaks t (refusal_index why) r → IsErr r
  unfolding Breaks
  some_fault (Err f) p = refl
  some_fault (Ok sound) p = absurd p

  -- so there is one
  pub fault_told : IsErr (fault_of t (refusal_index why))
  fault_told = some_fault (fault_of t (refusal_index why)) fault_broken

-- the index of tests in a row that each refuse with 0, but for the last
low : (agree fits targets : Bool) (n bad : ℕ) → (fits ≡ true → n ≤ 65536)
    → index_of (require agree BadLengths ▷ require fits (BadTable 0) ▷ require targets (BadTable 0) ▷ require_none BadTable n bad) ≤ 65536
unfolding index_of refusal_index
low false fits targets n bad h = omega arith
low true false targets n bad h = omega arith
low true true false n bad h = omega arith
low true true true n bad h = ⊎_elim
    (λ (e : ltb bad n ≡ true). let l = ltb-true bad n e in let m = h refl in rw e (omega arith))
    (λ (e : ltb bad n ≡ false). rw e (omega arith))
    (either (ltb bad n))

pub refused_low : (t : Table) (why : Refusal) → checked t ≡ Err why → refusal_index why ≤ 65536
unfolding checked table_verdict index_of
refused_low t why e =
    subst (λ (k : ℕ). k ≤ 65536) (ap index_of e)
    (low (table_agrees t) (row_count_fits (row_count t)) (passes (has_target t.edges) (row_count t)) (row_count t) (first_bad (row_good t) (row_count t))
    (λ f. leb-true (row_count t) 65536 (and_right (leb 2 (row_count t)) (leb (row_count t) 65536) f)))
