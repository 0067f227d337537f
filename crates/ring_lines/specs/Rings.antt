-- The rings of a zone, each as a list on one line: outer or inner, its polygon's group, its area, and its edges in ring order as
-- hexadecimal numbers.
-- Assumes nothing.
use Rattle.std.specs.Prelude.{ℕ, ◌+◌, Bool, cond, List, ◌++◌, get_or}
use Rattle.std.specs.Float.{nan}
use Rattle.scope.specs.Lists.{at}
use Rattle.scope.specs.Memory.{Output}
use Rattle.scope.specs.Bytes.{joined}
use Rattle.text.specs.Text.{ascii, hexadecimal}
use Rattle.note_text.specs.Notes.{noted, area_text}
use Rattle.outline_text.specs.Outlines.{begins}

unfoldable pub edge_word : List ℕ → ℕ → List ℕ
edge_word edges row = ascii " " ++ hexadecimal (at edges row)

-- n edges of the edge list, from place start on
abbrev pub edge_words : List ℕ → List ℕ → ℕ → ℕ → List ℕ
edge_words edges list start n = joined (λ j. edge_word edges (at list (start + j))) n

abbrev pub kind_text : Bool → List ℕ
kind_text outer = cond outer (ascii "outer") (ascii "inner")

-- The first ring of a polygon is its outer.
unfoldable pub ring_name : List ℕ → ℕ → List ℕ
ring_name group i = kind_text (begins group i) ++ noted (ascii " ring of group ") (at group i) (ascii ", area ")

unfoldable pub ring_line : List ℕ → Output → ℕ → List ℕ
ring_line edges o i =
    ring_name o.group i
    ++ area_text (get_or o.area i nan)
    ++ noted (ascii ", edges ") (at o.size i) (ascii ":")
    ++ edge_words edges o.edges (at o.start i) (at o.size i)
    ++ ascii "\n"

abbrev pub ring_lines : List ℕ → Output → ℕ → List ℕ
ring_lines edges o n = joined (ring_line edges o) n
