-- `cell_text::read_lines` meets its contract. The cells of the lines before the next are stored.
-- Assumes nothing.
use Rattle.std.proofs.Common.{rules, tests, ◌≡◌, refl, sym, ap, arith, eqb, Err}
use Rattle.std.proofs.lemmas.List.Sorted.{answers_always}
use Rattle.cell_text.proofs.LinesLeft.{left, left_next}
use Rattle.cell_text.proofs.Come.{come_none, come_all, same_room}
use Rattle.cell_text.proofs.Turn.{number_few, come_goes, come_ends}
use Rattle.cell_text.proofs.read_lines.Goals as goal

pub loop-line-init : goal.loop-line-init
loop-line-init c = come_none _ _ _ _ (rw (c.into_iter-line-iterator.ensures.into_iter_gives, c.split-line-items.ensures.rest, c.split-line-items.ensures.done) refl)

pub overflow_add-number : goal.overflow_add-number
overflow_add-number c =
    let s = c.in-Some.ensures.steps in
    let n = left_next c.in-Some.line.now _ _ _ s.0 s.1 (s.2 (λ b. eqb b 10) (answers_always _ _ _ (λ f a r f' k. search (rules, tests)))).1 in
    omega (arith, number_few c.loop-line.invariant n)

pub returns-in_err-count : goal.returns-in_err-count
returns-in_err-count c =
    let s = c.in-Some.ensures.steps in
    let n = left_next c.in-Some.line.now _ _ _ s.0 s.1 (s.2 (λ b. eqb b 10) (answers_always _ _ _ (λ f a r f' k. search (rules, tests)))).1 in
    let e : c.from_residual.result ≡ Err c.in_err-count.field-0.0 = search rules in
    rw e (come_ends c.loop-line.invariant n (same_room c.loop-line.invariant) _ (sym c.read_line.ensures) c.take_line.ensures c.in_err-count.was)

pub loop-line-preserved : goal.loop-line-preserved
loop-line-preserved c =
    let s = c.in-Some.ensures.steps in
    let n = left_next c.in-Some.line.now _ _ _ s.0 s.1 (s.2 (λ b. eqb b 10) (answers_always _ _ _ (λ f a r f' k. search (rules, tests)))).1 in
    come_goes c.loop-line.invariant n (same_room c.loop-line.invariant) _ (sym c.read_line.ensures) c.take_line.ensures c.in_ok-count.was

pub returns : goal.returns
returns c = come_all c.loop-line.invariant (ap (left _) c.in-None.ensures.steps.0)
