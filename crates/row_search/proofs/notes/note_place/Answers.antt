-- `row_search::notes::note_place` meets its contract. The place is below the number of notes.
-- Assumes nothing.
use Rattle.row_search.specs.Notes.{note_place}
use Rattle.row_search.proofs.Noting.{place_in}
use Rattle.row_search.proofs.notes.note_place.Goals as goal

pub returns : goal.returns
unfolding note_place
returns c = (rw c.spread-part.ensures.0, place_in _ _ c.spread-part.ensures.1)
