-- Document 01, "Area and order": the ring list is a lent slice of records: start, length, group, area.
-- Here a list of records is made of four lists of plain numbers, one for each field.
-- Assumes nothing.
use Rattle.std.specs.Prelude.{ℕ, zero, suc, ◌≤◌, List, Float, length, get_or, set}
use Rattle.std.specs.Float.{nan}
use Rattle.scope.specs.Lists.{at}
use Rattle.ring_records.specs.declared.Ring.{Ring}

-- what is read past the end of a list of records
abbrev pub blank : Ring
blank = record { start = 0; length = 0; group = 0; area = nan }

abbrev pub ring_at : List Ring → ℕ → Ring
ring_at rings i = get_or rings i blank

-- the record whose fields stand at i in the four lists
abbrev pub record_at : List ℕ → List ℕ → List ℕ → List Float → ℕ → Ring
record_at starts lengths groups areas i = record { start = at starts i; length = at lengths i; group = at groups i; area = get_or areas i nan }

-- The first n records are those of the four lists. What lies past them stays as it was.
abbrev pub filled : List ℕ → List ℕ → List ℕ → List Float → ℕ → List Ring → List Ring
filled starts lengths groups areas zero rings = rings
filled starts lengths groups areas (suc i) rings = set (filled starts lengths groups areas i rings) i (record_at starts lengths groups areas i)

-- There are n of each.
abbrev pub Enough : ℕ → List Ring → List ℕ → List ℕ → List ℕ → List Float → Type 0
Enough n rings starts lengths groups areas =
    (n ≤ length rings) × (n ≤ length starts) × (n ≤ length lengths) × (n ≤ length groups) × (n ≤ length areas)
