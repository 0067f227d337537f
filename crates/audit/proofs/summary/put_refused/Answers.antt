-- `audit::summary/put_refused` meets its contract. By whether there are any.
-- Assumes nothing.
use mathlib.Core.Path.{sym, ◌∙◌}
use borrow.Author.Tests.{eq-eqb, ne_eqb}
use Rattle.text.proofs.Writing.{wrote_none, wrote_more}
use Rattle.audit.specs.Summary.{refused_text}
use Rattle.audit.proofs.summary.put_refused.Goals as goal

pub returns-then-count-eq0 : goal.returns-then-count-eq0
unfolding refused_text
returns-then-count-eq0 c = rw (eq-eqb _ _ (sym c.count_at-count.ensures ∙ c.if-count-eq0.true)) (wrote_none _ _ c.requires)

pub returns : goal.returns
unfolding refused_text
returns c = rw (ne_eqb _ _ (λ q. c.if-count-eq0.false (c.count_at-count.ensures ∙ q)), ← c.count_at-count.ensures) (wrote_more (wrote_more (wrote_more c.put_noted-named.ensures c.put_noted-numbered.ensures) c.put_words-worded.ensures) c.put_bytes.ensures)
