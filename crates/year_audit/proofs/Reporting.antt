-- An audit reported.
--     told_refused, told_done    what is written, by the verdict of the opening
--     reported                   what was audited and then written is what `report_audit` promises
--     reported_one               its promise allows one outcome: the text, both outputs, and what is answered
--     audited_in                 in outputs of zeros, and brought into its room, it is what `audit_feed` promises
-- Assumes nothing.
use Prim.Native.Nat.{ℕ}
use mathlib.Core.Path.{◌≡◌, refl, sym, ◌∙◌, ap, subst}
use mathlib.Core.Bool.{Bool, true, false}
use mathlib.Core.List.{List}
use Rattle.scope.specs.declared.Refusal.{Refusal}
use Rattle.scope.specs.Answers.{Answer, Verdict, refusal_number, refusal_index}
use Rattle.scope.specs.Table.{Table}
use Rattle.scope.specs.Memory.{Output}
use Rattle.text.specs.Text.{Wrote}
use Rattle.refusal_text.specs.Refusals.{refusal_text}
use Rattle.audit.specs.Summary.{audit_text}
use Rattle.std.specs.Prelude.{Ok, Err}
use Rattle.desk.specs.Outputs.{new_output}
use Rattle.desk.specs.Reports.{Report, Page, in_room}
use Rattle.desk.proofs.Pages.{same_report, reported_in}
use Rattle.feed_audit.specs.Audit.{Audit, auditing}
use Rattle.year_audit.specs.Audits.{audited_text, Told, Reported, audit_in}

module _ (table : List ℕ) (offered : ℕ) (counts : List ℕ) (standing : Answer) (same : Bool) (visits : ℕ) {before after : List ℕ} {size : ℕ} {v : Verdict} where
  pub told_refused : {why : Refusal} → v ≡ Err why → Wrote before 0 after size (refusal_text table table (refusal_number why) (refusal_index why) 0)
      → Told (audited_text table offered v counts standing same visits) v before after (Err size)
  unfolding audited_text
  told_refused e W = subst (λ (x : Verdict). Told (audited_text table offered x counts standing same visits) x before after (Err size)) (sym e) (record { wrote = W; answers = refl })

  pub told_done : v ≡ Ok tt → Wrote before 0 after size (audit_text offered counts standing same visits)
      → Told (audited_text table offered v counts standing same visits) v before after (Ok size)
  unfolding audited_text
  told_done e W = subst (λ (x : Verdict). Told (audited_text table offered x counts standing same visits) x before after (Ok size)) (sym e) (record { wrote = W; answers = refl })

pub reported : {table : List ℕ} {offered : ℕ} {found a : Audit} {before after : List ℕ} {r : Report} → found ≡ a
    → Told (audited_text table offered found.opened found.counts found.answer found.same found.visits) found.opened before after r
    → Reported table offered a before after found.out found.anew r
reported {table} {offered} {before = before} {after} {r} e t = record {
  told = subst (λ (x : Audit). Told (audited_text table offered x.opened x.counts x.answer x.same x.visits) x.opened before after r) e t;
  standing = ap (λ (x : Audit). x.out) e;
  afresh = ap (λ (x : Audit). x.anew) e;
}

pub reported_one : (table : List ℕ) (offered : ℕ) (a : Audit) (before : List ℕ) {after after' : List ℕ} {o o' p p' : Output} {r r' : Report}
    → Reported table offered a before after o p r → Reported table offered a before after' o' p' r'
    → (after ≡ after') × (o ≡ o') × (p ≡ p') × (r ≡ r')
reported_one table offered a before {r = r} {r' = r'} A B = (
  A.told.wrote.bytes ∙ sym B.told.wrote.bytes,
  A.standing ∙ sym B.standing,
  A.afresh ∙ sym B.afresh,
  same_report r r' (A.told.wrote.place ∙ sym B.told.wrote.place) (A.told.answers ∙ sym B.told.answers),
)

pub audited_in : (table name : List ℕ) (t : Table) (feed : List ℕ) (offered : ℕ) {o p o' p' : Output} {slice after : List ℕ} {r : Report} {q : Page}
    → o ≡ new_output → p ≡ new_output → Reported table offered (auditing t feed o p) slice after o' p' r → q ≡ in_room name (record { text = after; report = r })
    → q ≡ audit_in slice table name offered (auditing t feed new_output new_output)
audited_in table name t feed offered {o} {p} {o'} {p'} {slice} {after} {r} e f R q =
    let R₁ = subst (λ (x : Output). Reported table offered (auditing t feed x p) slice after o' p' r) e R in
    let R₂ = subst (λ (x : Output). Reported table offered (auditing t feed new_output x) slice after o' p' r) f R₁ in
    reported_in r name R₂.told.wrote R₂.told.answers q
