-- `taking::lookup::store_row` meets its contract. The row is marked already, or is stored and marked.
-- Assumes nothing.
use mathlib.Core.Path.{◌≡◌, sym, ◌∙◌}
use Rattle.taking.proofs.Marking.{row_again, row_stored}
use Rattle.taking.proofs.lookup.store_row.Goals as goal

pub returns-then-get32-ne0 : goal.returns-then-get32-ne0
returns-then-get32-ne0 c = row_again c.requires (λ z. c.if-get32-ne0.true (c.get32.ensures.0 ∙ z))

pub returns : goal.returns
returns c = let z : c.get32.result ≡ 0 = c.if-get32-ne0.false in row_stored c.requires (sym c.get32.ensures.0 ∙ z) c.put32.ensures c.put32-2.ensures
