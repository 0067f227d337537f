-- `free_slots::lowest_free` meets its contract: the lowest flag is no higher than the free slot (Flagged), or the search goes on without it.
-- Assumes nothing.
use native.Mathlib.Omega.{arith}
use mathlib.Core.Path.{refl, sym, ◌∙◌}
use Rattle.free_slots.proofs.Flagged.{word_asks, slot-in, searched}
use Rattle.free_slots.proofs.lowest_free.Goals as goal

pub next_word-place-requires : goal.next_word-place-requires
next_word-place-requires c = word_asks c.requires

pub overflow_mul-slot : goal.overflow_mul-slot
overflow_mul-slot c =
    omega (arith, slot-in c.requires c.next_word-place.ensures refl refl, c.requires.fits)

pub overflow_add-slot : goal.overflow_add-slot
overflow_add-slot c =
    omega (arith, slot-in c.requires c.next_word-place.ensures refl c.lowest_flag.ensures, c.requires.fits)

pub get32-requires : goal.get32-requires
get32-requires c = slot-in c.requires c.next_word-place.ensures refl c.lowest_flag.ensures

pub returns : goal.returns
returns c =
    searched c.requires c.next_word-place.ensures refl c.lowest_flag.ensures (sym c.get32.ensures.0 ∙ c.if-get32-ne0.false) refl
