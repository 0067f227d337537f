-- What a table that is accepted gives to every layer above: its rules as facts.
--     Ascending es     of any two rows the later has the larger edge; `ascending`: neighbours in order are all in order
--     TableGood t      the rules as facts; `table_good`: a table whose lengths agree and that is accepted has them
-- Assumes nothing.
use Prim.Native.Nat.{ℕ, zero, suc, ◌-◌, ◌<◌, ◌≤◌}
use mathlib.Core.Path.{◌≡◌}
use mathlib.Core.Bool.{Bool, true, false, ◌||◌, ◌&&◌}
use mathlib.Core.List.{List}
use mathlib.Core.Logic.{⊎_elim}
use native.Mathlib.Nat.{eq-or-lt_of_le}
use native.Mathlib.Omega.{arith}
use lib.Dec.{eqb, leb}
use lib.ListN.{length, get_or}
use lib.Ieee.{nan}
use borrow.Author.Tests.{ne_eqb, ltb-true, leb-true, eqb-true}
use Rattle.scope.specs.declared.Refusal.TheVariants.{BadTable}
use Rattle.std.specs.Prelude.{Ok}
use Rattle.scope.specs.Lists.{at, passes}
use Rattle.scope.specs.Answers.{require}
use Rattle.scope.specs.Cells.{resolution_of, valid_edge}
use Rattle.scope.specs.Table.{Table, row_count, reverse_of, is_finite, row_count_fits, target_of, has_target, ascends, paired, row_good, table_verdict}
use Rattle.scope.specs.Memory.{table_agrees}
use Rattle.scope.proofs.Tests.{and_left, and_right}
use Rattle.scope.proofs.Scan.{passes_at, passes_all}
use Rattle.scope.proofs.Verdicts.{first_accepts, second_accepts, require_holds, none_fails}
use Rattle.scope.proofs.Successor.{Reverses}
use Rattle.scope.proofs.Proper.{table_reverses}

-- ---- neighbours in order are all in order

pub record Ascending (es : List ℕ) : Type 0 where
  pub order : (i j : ℕ) → i < j → j < length es → at es i < at es j

or_else : (b c : Bool) → (b || c) ≡ true → b ≡ false → c ≡ true
or_else true c p q = cc
or_else false c p q = p

module _ (es : List ℕ) (sorted : passes (ascends es) (length es) ≡ true) where
  next_above : (i : ℕ) → suc i < length es → at es i < at es (suc i)
  unfolding ascends
  next_above i h =
      let e : suc i - 1 ≡ i = omega arith in
      let w : at es (suc i - 1) < at es (suc i) =
      ltb-true _ _ (or_else (eqb (suc i) 0) _ (passes_at (ascends es) (length es) sorted (suc i) h) (ne_eqb (suc i) 0 (λ z. omega arith))) in
      rw e at w

  above : (i j : ℕ) → i < j → j < length es → at es i < at es j
  above i zero l h = absurd (omega arith)
  above i (suc j) l h =
      let w = next_above j h in
      let m : i ≤ j = omega arith in
      ⊎_elim (λ (e : i ≡ j). rw e w) (λ (k : i < j). let v = above i j k (omega arith) in omega arith) (eq-or-lt_of_le m)

  pub ascending : Ascending es
  ascending = record { order = above }

-- ---- a table that is accepted

pub record TableGood (t : Table) : Type 0 where
  pub two : 2 ≤ row_count t
  pub most : row_count t ≤ 65536
  pub reverse_long : length t.reverse ≡ row_count t
  pub area_long : length t.area ≡ row_count t
  pub target : (a : ℕ) → a < row_count t → resolution_of (at t.edges a) ≡ target_of t
  pub good : passes (row_good t) (row_count t) ≡ true
  pub valid : (a : ℕ) → a < row_count t → valid_edge (at t.edges a) ≡ true
  pub sorted : passes (ascends t.edges) (row_count t) ≡ true
  pub order : Ascending t.edges
  pub reverses : Reverses (λ a. a < row_count t) (reverse_of t)
  pub finite : (a : ℕ) → a < row_count t → is_finite (get_or t.area a nan) ≡ true

pub table_good : (t : Table) → table_agrees t ≡ true → table_verdict t ≡ Ok tt → TableGood t
unfolding table_verdict row_good
table_good t agree e =
    let n = row_count t in
    let es = t.edges in
    let count = require (row_count_fits n) (BadTable 0) in
    let one = require (passes (has_target es) n) (BadTable 0) in
    let fits : row_count_fits n ≡ true = require_holds _ (BadTable 0) (first_accepts count _ e) in
    let targets : passes (has_target es) n ≡ true = require_holds _ (BadTable 0) (first_accepts one _ (second_accepts count _ e)) in
    let row : (a : ℕ) → a < n → row_good t a ≡ true =
    none_fails BadTable (row_good t) n (second_accepts one _ (second_accepts count _ e)) in
    let rows : passes (row_good t) n ≡ true = passes_all (row_good t) n row in
    let long : length t.reverse ≡ n = eqb-true _ _ (and_left _ _ agree) in
    let edge : (a : ℕ) → a < n → (valid_edge (at es a) && ascends es a) ≡ true =
    λ a h. and_left _ (paired t.reverse a) (and_left _ (is_finite (get_or t.area a nan)) (row a h)) in
    let sorted : passes (ascends es) n ≡ true = passes_all (ascends es) n (λ a h. and_right (valid_edge (at es a)) _ (edge a h)) in
    record {
      two = leb-true _ _ (and_left (leb 2 n) _ fits);
      most = leb-true _ _ (and_right (leb 2 n) _ fits);
      reverse_long = long;
      area_long = eqb-true _ _ (and_right (eqb (length t.reverse) n) _ agree);
      target = λ a h. eqb-true _ _ (passes_at (has_target es) n targets a h);
      good = rows;
      valid = λ a h. and_left _ (ascends es a) (edge a h);
      sorted = sorted;
      order = ascending es sorted;
      reverses = table_reverses t long rows;
      finite = λ a h. and_right (valid_edge (at es a) && ascends es a && paired t.reverse a) _ (row a h);
    }
