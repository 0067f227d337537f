-- `worked_examples::show_zone` meets its contract. What is lent to `show_dissolved` are the rows that were loaded.
-- Assumes nothing.
use native.Mathlib.Omega.{arith}
use mathlib.Core.Path.{sym}
use lib.Seq.{length-take-le}
use Rattle.worked_examples.proofs.show_zone.Goals as goal

pub slice_bounds-edges-end : goal.slice_bounds-edges-end
slice_bounds-edges-end g c = let load = c.load_table-loaded in omega (arith, c.rows_of-rows.ensures, load.ensures.fits.0, load.auto.edges)

pub slice_bounds-table-end : goal.slice_bounds-table-end
slice_bounds-table-end g c = sym (length-take-le _ _ (let load = c.load_table-loaded in omega (arith, c.rows_of-rows.ensures, load.ensures.fits.0, load.auto.edges)))

pub slice_bounds-reverse-end : goal.slice_bounds-reverse-end
slice_bounds-reverse-end g c = let load = c.load_table-loaded in omega (arith, c.rows_of-rows.ensures, load.ensures.fits.1, load.auto.reverse)

pub slice_bounds-table-end-2 : goal.slice_bounds-table-end-2
slice_bounds-table-end-2 g c = sym (length-take-le _ _ (let load = c.load_table-loaded in omega (arith, c.rows_of-rows.ensures, load.ensures.fits.1, load.auto.reverse)))

pub slice_bounds-area-end : goal.slice_bounds-area-end
slice_bounds-area-end g c = let load = c.load_table-loaded in omega (arith, c.rows_of-rows.ensures, load.ensures.fits.2, load.auto.area)

pub slice_bounds-table-end-3 : goal.slice_bounds-table-end-3
slice_bounds-table-end-3 g c = sym (length-take-le _ _ (let load = c.load_table-loaded in omega (arith, c.rows_of-rows.ensures, load.ensures.fits.2, load.auto.area)))
