-- A zone imported.
--     imported        from what dissolve comes to, told
--     imported_one    what the promise of `import` allows is one outcome: what is told, the text and the outputs
--     imported_in     in outputs of zeros, told as a report and brought into its room, it is what `import_list` promises
-- Assumes nothing.
use Prim.Native.Nat.{ℕ, ◌≤◌, ◌<◌, min}
use mathlib.Core.Path.{◌≡◌, refl, sym, ◌∙◌, ap, subst}
use mathlib.Core.Bool.{Bool, true, false, cond}
use mathlib.Core.List.{List}
use mathlib.Core.Logic.{⊎_elim}
use native.Mathlib.Nat.{min-eq_left, min-eq_right}
use native.Mathlib.Omega.{arith}
use borrow.Author.Tests.{lt-ltb, le-ltb}
use lib.ListN.{length}
use lib.Seq.{sets, length-sets}
use Rattle.scope.specs.declared.Refusal.{Refusal}
use Rattle.scope.specs.Answers.{Answer}
use Rattle.scope.specs.Table.{Table}
use Rattle.scope.specs.Memory.{Output}
use Rattle.scope.proofs.Tests.{le_or_lt}
use Rattle.std.specs.Prelude.{Ok, Err, is_ok}
use Rattle.desk.specs.Outputs.{new_output}
use Rattle.desk.specs.Reports.{Report, report_of as reportOf, Page, in_room, report_in}
use Rattle.desk.proofs.Pages.{size_told, filled}
use Rattle.zone_lines.specs.declared.Untold.TheVariants.{Refused}
use Rattle.zone_lines.specs.Zones.{zone_text}
use Rattle.zone_lines.specs.Telling.{Told, told_by, Tells}
use Rattle.zone_lines.proofs.Determined.{tells_one}
use Rattle.full_size.specs.Drawing.{Drawn, drawing}
use Rattle.till_import.specs.Imports.{no_mode, Imported, report_of, zone_in}

pub imported : {table list : List ℕ} {cells : ℕ} {lines edges : List ℕ} {zone : Drawn} {answer : Answer} {o : Output} {before after : List ℕ} {told : Told}
    → record { answer = answer; out = o } ≡ zone → Tells table list cells lines edges answer o before after told → Imported table list cells lines edges zone o before after told
imported {table} {list} {cells} {lines} {edges} {before = before} {after = after} {told = told} e t = record {
  out = ap (λ (d : Drawn). d.out) e;
  tells = subst (λ (d : Drawn). Tells table list cells lines edges d.answer d.out before after told) e t;
}

pub imported_one : (table list : List ℕ) (cells : ℕ) (lines edges : List ℕ) (zone : Drawn) (before : List ℕ) {o o' : Output} {after after' : List ℕ} {told told' : Told}
    → Imported table list cells lines edges zone o before after told → Imported table list cells lines edges zone o' before after' told'
    → (o ≡ o') × (after ≡ after') × (told ≡ told')
imported_one table list cells lines edges zone before p q =
    let t = tells_one table list cells lines edges zone.answer zone.out before p.tells q.tells in
    (p.out ∙ sym q.out, t.0, t.1)

-- ---- what was told, as a report

counted : (n room : ℕ) (done : Bool) → report_of (cond done (Ok n) (Err (Refused n))) room ≡ reportOf done n
counted n room true = refl
counted n room false = refl

told_whole : (n room : ℕ) (done : Bool) → n < room → report_of (told_by n room done) room ≡ reportOf done n
unfolding told_by
told_whole n room done h = rw (lt-ltb n room h) (counted n room done)

told_long : (n room : ℕ) (done : Bool) → room ≤ n → report_of (told_by n room done) room ≡ Err room
unfolding told_by
told_long n room done h = rw (le-ltb n room h) refl

told_in : (slice name text : List ℕ) (done : Bool)
    → in_room name (record { text = sets slice 0 text; report = report_of (told_by (length text) (length slice) done) (length slice) }) ≡ report_in slice name text done
told_in slice name text done =
    let long = length-sets slice 0 text in
    ⊎_elim
    (λ (h : length slice ≤ length text).
    let full : min (length text) (length slice) ≡ length slice = min-eq_right h in
    ap (λ (r : Report). in_room name (record { text = sets slice 0 text; report = r })) (told_long (length text) (length slice) done h)
    ∙ filled name (sets slice 0 text) (Err (length slice)) (reportOf done (min (length text) (length slice))) (omega arith) (rw (size_told done (min (length text) (length slice))) (omega arith)))
    (λ (h : length text < length slice).
    let free : min (length text) (length slice) ≡ length text = min-eq_left (omega arith) in
    ap (λ (r : Report). in_room name (record { text = sets slice 0 text; report = r })) (told_whole (length text) (length slice) done h)
    ∙ ap (λ (k : ℕ). in_room name (record { text = sets slice 0 text; report = reportOf done k })) (sym free))
    (le_or_lt (length slice) (length text))

pub imported_in : (table list lines edges : List ℕ) (t : Table) (cells : List ℕ) {o o' : Output} {slice after : List ℕ} {told : Told} {room : ℕ} {r : Report} {p : Page}
    → o ≡ new_output → Imported table list (length cells) lines edges (drawing t no_mode cells o) o' slice after told → room ≡ length slice → r ≡ report_of told room
    → p ≡ in_room list (record { text = after; report = r }) → p ≡ zone_in slice table list (length cells) lines edges (drawing t no_mode cells new_output)
imported_in table list lines edges t cells {o' = o'} {slice} {after} {told} {room} {r} e I l f q =
    let told-zone = (subst (λ (x : Output). Imported table list (length cells) lines edges (drawing t no_mode cells x) o' slice after told) e I).tells in
    let zone = drawing t no_mode cells new_output in
    let text = zone_text table list (length cells) lines edges zone.answer zone.out in
    let done = is_ok zone.answer in
    q
    ∙ ap (λ (x : List ℕ). in_room list (record { text = x; report = r })) told-zone.bytes
    ∙ ap (λ (x : Report). in_room list (record { text = sets slice 0 text; report = x }))
    (f ∙ ap (λ (x : Told). report_of x room) told-zone.answered ∙ ap (λ (k : ℕ). report_of (told_by (length text) (length slice) done) k) l)
    ∙ told_in slice list text done
