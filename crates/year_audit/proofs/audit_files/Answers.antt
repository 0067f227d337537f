-- `year_audit::audit_files` meets its contract. What is lent to `audit_feed` are the rows and the cells that were loaded.
-- Assumes nothing.
use Prim.Native.Nat.{◌≤◌}
use native.Mathlib.Omega.{arith}
use mathlib.Core.Path.{sym}
use lib.ListN.{length}
use lib.Seq.{length-take-le}
use Rattle.desk.proofs.Pages.{in_slice, within}
use Rattle.year_audit.proofs.audit_files.Goals as goal

pub slice_bounds-edges-end : goal.slice_bounds-edges-end
slice_bounds-edges-end g c = let h : c.in-Some.rows ≤ length c.row_zeros-edges.result = c.in-Some.ensures.0 in omega (arith, h, c.load_rows.auto.edges)

pub slice_bounds-table-end : goal.slice_bounds-table-end
slice_bounds-table-end g c = sym (length-take-le _ _ (let h : c.in-Some.rows ≤ length c.row_zeros-edges.result = c.in-Some.ensures.0 in omega (arith, h, c.load_rows.auto.edges)))

pub slice_bounds-reverse-end : goal.slice_bounds-reverse-end
slice_bounds-reverse-end g c = let h : c.in-Some.rows ≤ length c.row_zeros-reverse.result = c.in-Some.ensures.1 in omega (arith, h, c.load_rows.auto.reverse)

pub slice_bounds-table-end-2 : goal.slice_bounds-table-end-2
slice_bounds-table-end-2 g c = sym (length-take-le _ _ (let h : c.in-Some.rows ≤ length c.row_zeros-reverse.result = c.in-Some.ensures.1 in omega (arith, h, c.load_rows.auto.reverse)))

pub slice_bounds-area-end : goal.slice_bounds-area-end
slice_bounds-area-end g c = let h : c.in-Some.rows ≤ length c.row_zeros-area.result = c.in-Some.ensures.2 in omega (arith, h, c.load_rows.auto.area)

pub slice_bounds-table-end-3 : goal.slice_bounds-table-end-3
slice_bounds-table-end-3 g c = sym (length-take-le _ _ (let h : c.in-Some.rows ≤ length c.row_zeros-area.result = c.in-Some.ensures.2 in omega (arith, h, c.load_rows.auto.area)))

pub say_report-requires : goal.say_report-requires
say_report-requires g c = within c.audit_feed-report.ensures (in_slice _ _)

pub slice_bounds-cells-end : goal.slice_bounds-cells-end
slice_bounds-cells-end g c = let h : c.in-Some-load_feed.count ≤ length c.offer_zeros-cells.result = c.in-Some-load_feed.ensures in omega (arith, h, c.load_feed.auto.cells)
