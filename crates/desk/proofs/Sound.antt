-- A table that has to keep the rules.
--     sound_told                      whether it passes is what the report tells
-- Assumes nothing.
use Prim.Native.Nat.{ℕ, ◌<◌, min}
use mathlib.Core.Path.{◌≡◌, refl, ◌∙◌, ap}
use mathlib.Core.Bool.{true, false}
use mathlib.Core.List.{List, []}
use mathlib.Core.Logic.{⊎_elim}
use native.Mathlib.Nat.{min-le_left}
use native.Mathlib.Omega.{arith}
use borrow.Author.Tests.{lt-ltb}
use lib.Dec.{ltb}
use lib.ListN.{length}
use lib.Seq.{length-sets}
use Rattle.scope.specs.Answers.{is_accepted, Verdict}
use Rattle.scope.specs.Table.{Table}
use Rattle.scope.proofs.Tests.{either}
use Rattle.edge_table.specs.Checks.{checked}
use Rattle.table_words.specs.Words.{table_text}
use Rattle.std.specs.Prelude.{is_ok, Err, Ok}
use Rattle.desk.specs.Reports.{Report, size_of, Page, written, in_room, report_in}
use Rattle.desk.specs.Tables.{table_in}

-- what is left out is not done
undone : (name : List ℕ) (p : Page) → is_ok p.report ≡ false → is_ok (in_room name p).report ≡ false
unfolding in_room
undone name p e = ⊎_elim
    (λ (b : ltb (size_of p.report) (length p.text) ≡ true). rw b e)
    (λ (b : ltb (size_of p.report) (length p.text) ≡ false). rw b refl)
    (either (ltb (size_of p.report) (length p.text)))

told_done : (slice name : List ℕ) (t : Table) (v : Verdict) → 0 < length slice → is_ok (report_in slice name (table_text name t v) (is_accepted v)).report ≡ is_accepted v
unfolding in_room table_text
told_done slice name t (Ok tt) h =
    let none = min-le_left 0 (length slice) in
    rw (length-sets slice 0 [], lt-ltb (min 0 (length slice)) (length slice) (omega arith)) refl
told_done slice name t (Err why) h = undone name (written slice (table_text name t (Err why)) false) refl

pub sound_told : (slice name : List ℕ) (t : Table) {after : List ℕ} {r : Report} → 0 < length slice → record { text = after; report = r } ≡ table_in slice name t
    → is_ok r ≡ is_accepted (checked t)
sound_told slice name t h e = ap (λ (p : Page). is_ok p.report) e ∙ told_done slice name t (checked t) h
