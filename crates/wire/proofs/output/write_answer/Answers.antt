-- `wire::output::write_answer` meets its contract: refused or too short, nothing is written. Assumes nothing.
use mathlib.Core.Path.{◌≡◌, sym, ◌∙◌, ap}
use Prim.Native.Nat.{ℕ}
use native.Mathlib.Omega.{arith}
use borrow.Author.Rules.{rules}
use Rattle.scope.specs.Answers.{Answer, Verdict, rings_of, if_accepted, is_accepted}
use Rattle.scope.specs.Lists.{at, total}
use Rattle.scope.specs.Memory.{Output}
use Rattle.scope.specs.Bytes.{edge_count, read_bytes}
use Rattle.scope.specs.Calls.{over}
use Rattle.lent.specs.Lent.{drawn_of}
use Rattle.wire.proofs.Showing.{shown_is, shown_fits}
use Rattle.wire.proofs.output.write_answer.Goals as goal

counted : (r : Answer) (o : Output) {rings : ℕ} → rings ≡ rings_of r → total (at o.size) rings ≡ edge_count r o
unfolding edge_count
counted r o e = ap (total (at o.size)) e

pub edge_count-edges-requires : goal.edge_count-edges-requires
edge_count-edges-requires c =
    let p = c.requires in let r = c.summarise-rings.ensures.2 in
    record { within = rw r p.here.sizes; few = rw (counted c.args.answer (drawn_of c.args.output.now) r) p.few_edges }

pub overflow_mul-fits-2 : goal.overflow_mul-fits-2
overflow_mul-fits-2 c = omega (arith, counted c.args.answer (drawn_of c.args.output.now) c.summarise-rings.ensures.2)

pub overflow_add-fits-2 : goal.overflow_add-fits-2
overflow_add-fits-2 c = omega (arith, counted c.args.answer (drawn_of c.args.output.now) c.summarise-rings.ensures.2)

pub returns-in_err-then_fits-clause-verdict : goal.returns-in_err-then_fits-clause-verdict
returns-in_err-then_fits-clause-verdict c =
    let a = c.args in let o = drawn_of a.output.now in let r = c.summarise-rings.ensures.2 in
    let same = shown_is a.answer o a.out.now r (c.edge_count-edges.ensures ∙ counted a.answer o r) c.verdict_of.ensures c.then_fits.ensures in
    let z : c.from_residual.result ≡ c.then_fits.result = search rules in z ∙ same

pub returns-in_err-then_fits-clause-written : goal.returns-in_err-then_fits-clause-written
returns-in_err-then_fits-clause-written c =
    let a = c.args in let o = drawn_of a.output.now in let r = c.summarise-rings.ensures.2 in
    let same = shown_is a.answer o a.out.now r (c.edge_count-edges.ensures ∙ counted a.answer o r) c.verdict_of.ensures c.then_fits.ensures in
    sym (ap (λ (v : Verdict). if_accepted v (over (read_bytes a.answer o) a.out.now) a.out.now) (sym same ∙ c.in_err-then_fits.was))

pub write_reading-requires : goal.write_reading-requires
write_reading-requires c =
    let a = c.args in let o = drawn_of a.output.now in let p = c.requires in
    let r = c.summarise-rings.ensures.2 in let e = c.edge_count-edges.ensures ∙ counted a.answer o r in
    record {
      room = rw (← r) (shown_fits a.answer o a.out.now r e c.verdict_of.ensures c.then_fits.ensures (ap is_accepted c.in_ok-then_fits.was));
      edges_are = e;
      here = p.here;
      rows = rw e p.rows;
    }

pub returns-clause-verdict : goal.returns-clause-verdict
returns-clause-verdict c =
    let a = c.args in let o = drawn_of a.output.now in let r = c.summarise-rings.ensures.2 in
    let same = shown_is a.answer o a.out.now r (c.edge_count-edges.ensures ∙ counted a.answer o r) c.verdict_of.ensures c.then_fits.ensures in
    sym c.in_ok-then_fits.was ∙ same

pub returns-clause-written : goal.returns-clause-written
returns-clause-written c =
    let a = c.args in let o = drawn_of a.output.now in let r = c.summarise-rings.ensures.2 in
    let same = shown_is a.answer o a.out.now r (c.edge_count-edges.ensures ∙ counted a.answer o r) c.verdict_of.ensures c.then_fits.ensures in
    c.write_reading.ensures ∙ sym (ap (λ (v : Verdict). if_accepted v (over (read_bytes a.answer o) a.out.now) a.out.now) (sym same ∙ c.in_ok-then_fits.was))
