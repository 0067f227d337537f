-- A zone reported.
--     reported_one    its promise allows one outcome: the text, the outputs, and what is answered
--     drawn_in        in outputs of zeros, and brought into its room, it is what `draw_zone` promises
-- Assumes nothing.
use Prim.Native.Nat.{ℕ}
use mathlib.Core.Path.{◌≡◌, refl, sym, ◌∙◌, ap, subst}
use mathlib.Core.Bool.{Bool}
use mathlib.Core.List.{List}
use lib.Ieee.{Float}
use lib.ListN.{length}
use Rattle.scope.specs.Answers.{verdict_of, is_accepted, Answer}
use Rattle.scope.specs.Table.{Table}
use Rattle.scope.specs.Memory.{Output, output}
use Rattle.text.specs.Text.{Wrote}
use Rattle.report.specs.Answers.{outline_text}
use Rattle.desk.specs.Outputs.{new_output}
use Rattle.desk.specs.Reports.{Report, Page, in_room}
use Rattle.desk.proofs.Pages.{same_report, reported_in}
use Rattle.full_size.specs.Drawing.{Drawn, drawing}
use Rattle.outline.specs.Zones.{Reported, zone_in}

pub reported_one : (table list : List ℕ) (cells : ℕ) (lines edges : List ℕ) (byRow : Bool) (d : Drawn) (before : List ℕ) {after after' : List ℕ} {o o' : Output} {r r' : Report}
    → Reported table list cells lines edges byRow d before after o r → Reported table list cells lines edges byRow d before after' o' r'
    → (after ≡ after') × (o ≡ o') × (r ≡ r')
reported_one table list cells lines edges byRow d before {r = r} {r' = r'} p q =
    (p.text.bytes ∙ sym q.text.bytes, p.outputs ∙ sym q.outputs, same_report r r' (p.text.place ∙ sym q.text.place) (p.answers ∙ sym q.answers))

pub drawn_in : (table list lines edges : List ℕ) (byRow : Bool) (t : Table) (mode : ℕ) (cells : List ℕ) {o o' : Output} {slice after : List ℕ} {r : Report} {p : Page}
    → o ≡ new_output → Reported table list (length cells) lines edges byRow (drawing t mode cells o) slice after o' r → p ≡ in_room list (record { text = after; report = r })
    → p ≡ zone_in slice table list (length cells) lines edges byRow (drawing t mode cells new_output)
drawn_in table list lines edges byRow t mode cells {o' = o'} {slice} {after} {r} e R q =
    let R₀ = subst (λ (x : Output). Reported table list (length cells) lines edges byRow (drawing t mode cells x) slice after o' r) e R in
    reported_in r list R₀.text R₀.answers q
