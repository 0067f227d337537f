-- A table told.
--     table_kept, table_refused     from the verdict on the table, and the fault
--     table_one     what the promise of `tell_table` allows is one outcome: the text, and what is answered
-- Assumes nothing.
use Prim.Native.Nat.{ℕ}
use mathlib.Core.Path.{◌≡◌, refl, sym, ◌∙◌, ap, subst}
use mathlib.Core.List.{List}
use native.Mathlib.Omega.{arith}
use Rattle.std.specs.Prelude.{Result, Ok, Err, is_ok}
use Rattle.scope.specs.declared.Refusal.{Refusal}
use Rattle.scope.specs.Answers.{Verdict, refusal_number, refusal_index, is_accepted}
use Rattle.scope.specs.Table.{Table}
use Rattle.edge_table.specs.Checks.{checked}
use Rattle.text.specs.Text.{Wrote}
use Rattle.text.proofs.Writing.{wrote_none}
use Rattle.table_words.specs.declared.rules.Fault.{Fault}
use Rattle.table_words.specs.Faults.{fault_of}
use Rattle.table_words.specs.Words.{fault_text, told_text, table_text, told_size, TableTold}

module _ {name before : List ℕ} {t : Table} where
  pub table_kept : {done : Unit {0}} → checked t ≡ Ok done → TableTold name t before before (Ok tt)
  unfolding table_text
  table_kept e = record {
    text = subst (λ (v : Verdict). Wrote before 0 before 0 (table_text name t v)) (sym e) (wrote_none before 0 (omega arith));
    passes = ap is_accepted (sym e);
  }

  pub table_refused : {why : Refusal} → checked t ≡ Err why → {fault : Fault} → fault_of t (refusal_index why) ≡ Err fault
      → {after : List ℕ} {end : ℕ} → Wrote before 0 after end (fault_text name (refusal_number why) (refusal_index why) fault)
      → TableTold name t before after (Err end)
  unfolding table_text
  table_refused {why} e f {after} {end} w = record {
    text = subst (λ (v : Verdict). Wrote before 0 after end (table_text name t v)) (sym e)
        (subst (λ (g : Result (Unit {0}) Fault). Wrote before 0 after end (told_text name (refusal_number why) (refusal_index why) g)) (sym f) w);
    passes = ap is_accepted (sym e);
  }

told_one : (r r' : Result (Unit {0}) ℕ) → told_size r ≡ told_size r' → is_ok r ≡ is_ok r' → r ≡ r'
told_one (Ok u) (Ok v) p q = refl
told_one (Ok u) (Err m) p q = cc
told_one (Err n) (Ok v) p q = cc
told_one (Err n) (Err m) p q = ap Err p

pub table_one : (name : List ℕ) (t : Table) (before : List ℕ) {after after' : List ℕ} {r r' : Result (Unit {0}) ℕ}
    → TableTold name t before after r → TableTold name t before after' r' → (after ≡ after') × (r ≡ r')
table_one name t before {r = r} {r' = r'} p q = (
  p.text.bytes ∙ sym q.text.bytes,
  told_one r r' (p.text.place ∙ sym q.text.place) (p.passes ∙ sym q.passes),
)
