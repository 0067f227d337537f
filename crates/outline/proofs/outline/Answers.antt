-- `outline::outline` meets its contract. What is lent to `draw_zone` are the rows and the cells that were loaded.
-- Assumes nothing.
use Prim.Native.Nat.{◌≤◌}
use native.Mathlib.Omega.{arith}
use mathlib.Core.Path.{sym}
use lib.ListN.{length}
use lib.Seq.{length-take-le}
use Rattle.desk.proofs.Pages.{in_slice, within}
use Rattle.outline.proofs.outline.Goals as goal

pub slice_bounds-edges-end : goal.slice_bounds-edges-end
slice_bounds-edges-end g c = let h : c.in-Some.rows ≤ length c.row_zeros-edges.result = c.in-Some.ensures.fits.0 in omega (arith, h, c.load_sound_table.auto.edges)

pub slice_bounds-table-end : goal.slice_bounds-table-end
slice_bounds-table-end g c = sym (length-take-le _ _ (let h : c.in-Some.rows ≤ length c.row_zeros-edges.result = c.in-Some.ensures.fits.0 in omega (arith, h, c.load_sound_table.auto.edges)))

pub slice_bounds-reverse-end : goal.slice_bounds-reverse-end
slice_bounds-reverse-end g c = let h : c.in-Some.rows ≤ length c.row_zeros-reverse.result = c.in-Some.ensures.fits.1 in omega (arith, h, c.load_sound_table.auto.reverse)

pub slice_bounds-table-end-2 : goal.slice_bounds-table-end-2
slice_bounds-table-end-2 g c = sym (length-take-le _ _ (let h : c.in-Some.rows ≤ length c.row_zeros-reverse.result = c.in-Some.ensures.fits.1 in omega (arith, h, c.load_sound_table.auto.reverse)))

pub slice_bounds-area-end : goal.slice_bounds-area-end
slice_bounds-area-end g c = let h : c.in-Some.rows ≤ length c.row_zeros-area.result = c.in-Some.ensures.fits.2 in omega (arith, h, c.load_sound_table.auto.area)

pub slice_bounds-table-end-3 : goal.slice_bounds-table-end-3
slice_bounds-table-end-3 g c = sym (length-take-le _ _ (let h : c.in-Some.rows ≤ length c.row_zeros-area.result = c.in-Some.ensures.fits.2 in omega (arith, h, c.load_sound_table.auto.area)))

pub slice_bounds-cells-end : goal.slice_bounds-cells-end
slice_bounds-cells-end g c = let h : c.in-Some-load_cells.count ≤ length c.place_zeros-cells.result = c.in-Some-load_cells.ensures.fits.0 in omega (arith, h, c.load_cells.auto.cells)

pub slice_bounds-lines-end : goal.slice_bounds-lines-end
slice_bounds-lines-end g c = let h : c.in-Some-load_cells.count ≤ length c.place_zeros-lines.result = c.in-Some-load_cells.ensures.fits.1 in omega (arith, h, c.load_cells.auto.lines)

pub say_report-requires : goal.say_report-requires
say_report-requires g c = within c.draw_zone-report.ensures (in_slice _ _)
