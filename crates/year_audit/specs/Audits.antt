-- What is printed of an audit: what came of it; or, where the table was refused, that, and at which row.
-- Assumes nothing.
use Rattle.std.specs.Prelude.{ℕ, ◌≡◌, Bool, List, is_ok, Err, Ok}
use Rattle.scope.specs.Answers.{is_accepted, Answer, Verdict, refusal_number, refusal_index}
use Rattle.scope.specs.Memory.{Output}
use Rattle.text.specs.Text.{Wrote}
use Rattle.refusal_text.specs.Refusals.{refusal_text}
use Rattle.audit.specs.Summary.{audit_text}
use Rattle.desk.specs.Reports.{Report, size_of, Page, report_in}
use Rattle.feed_audit.specs.Audit.{Audit}

-- the table's name, how many cells were offered, and what the audit found
unfoldable pub audited_text : List ℕ → ℕ → Verdict → List ℕ → Answer → Bool → ℕ → List ℕ
audited_text table offered (Ok done) counts standing same visits = audit_text offered counts standing same visits
audited_text table offered (Err why) counts standing same visits = refusal_text table table (refusal_number why) (refusal_index why) 0

-- the text, from the front of a slice on; and whether it answers or tells of a refusal
pub record Told (text : List ℕ) (opened : Verdict) (before after : List ℕ) (r : Report) : Type 0 where
  pub wrote : Wrote before 0 after (size_of r) text
  pub answers : is_ok r ≡ is_accepted opened

-- the same of a whole audit, and its outputs
pub record Reported (table : List ℕ) (offered : ℕ) (a : Audit) (before after : List ℕ) (out anew : Output) (r : Report) : Type 0 where
  pub told : Told (audited_text table offered a.opened a.counts a.answer a.same a.visits) a.opened before after r
  pub standing : out ≡ a.out
  pub afresh : anew ≡ a.anew

-- the same in a slice, as it can be printed: the names of table and feed, how many cells were offered, and what the audit found
abbrev pub audit_in : List ℕ → List ℕ → List ℕ → ℕ → Audit → Page
audit_in slice table feed offered a = report_in slice feed (audited_text table offered a.opened a.counts a.answer a.same a.visits) (is_accepted a.opened)
