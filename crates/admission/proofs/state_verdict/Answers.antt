-- `admission::state_verdict` meets its contract. The lengths, the table, the rules.
-- Assumes nothing.
use mathlib.Core.Bool.{not}
use mathlib.Core.Path.{◌≡◌, sym, ◌∙◌, ap}
use Rattle.std.proofs.Common.{rules, Err}
use Rattle.scope.proofs.Tests.{fails, holds}
use Rattle.lent.specs.Lent.{table_of, read_of}
use Rattle.admission.proofs.Refusals.{rules_asks, state_stops, state_rules}
use Rattle.admission.proofs.state_verdict.Goals as goal

pub returns-in_err-table_verdict : goal.returns-in_err-table_verdict
returns-in_err-table_verdict c =
    let handed_on : c.from_residual.result ≡ Err c.in_err-table_verdict.field-0.0 = search rules in
    handed_on ∙ state_stops (table_of c.args.table.now) (read_of c.args.state.now c.args.marks.now) c.args.agree c.lengths_fit-fits.ensures c.table_verdict.ensures c.in_err-table_verdict.was

pub rules_kept-requires : goal.rules_kept-requires
rules_kept-requires c =
    rules_asks (table_of c.args.table.now) (read_of c.args.state.now c.args.marks.now) c.args.agree c.lengths_fit-fits.ensures c.table_verdict.ensures c.in_ok-table_verdict.was

pub returns-then-not-rules_kept : goal.returns-then-not-rules_kept
returns-then-not-rules_kept c =
    state_rules (table_of c.args.table.now) (read_of c.args.state.now c.args.marks.now) c.args.agree c.lengths_fit-fits.ensures c.table_verdict.ensures c.in_ok-table_verdict.was
    (sym (fails c.rules_kept.ensures (ap not c.if-not-rules_kept.true)))

pub returns : goal.returns
returns c =
    state_rules (table_of c.args.table.now) (read_of c.args.state.now c.args.marks.now) c.args.agree c.lengths_fit-fits.ensures c.table_verdict.ensures c.in_ok-table_verdict.was
    (sym (holds c.rules_kept.ensures (ap not c.if-not-rules_kept.false)))
