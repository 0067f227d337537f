-- An outline as text: what it counts, then each polygon with its rings, the outer first: group, area and edges.
-- A ring list is four lists of one length, as read out writes them; rings of one polygon follow each other and have one group.
-- Assumes nothing.
use Rattle.std.specs.Prelude.{ℕ, ◌+◌, ◌-◌, Bool, ◌||◌, not, cond, List, ◌++◌, eqb, Float, get_or}
use Rattle.std.specs.Float.{nan}
use Rattle.scope.specs.Lists.{at}
use Rattle.scope.specs.Bytes.{joined}
use Rattle.text.specs.Text.{ascii, decimal, hexadecimal}
use Rattle.note_text.specs.Notes.{noted, area_text}

-- ---- a ring

-- an edge by its number in hexadecimal, or by its row
abbrev pub edge_name : List ℕ → Bool → ℕ → List ℕ
edge_name edges rows row = cond rows (decimal row) (hexadecimal (at edges row))

unfoldable pub edge_text : List ℕ → Bool → ℕ → List ℕ
edge_text edges rows row = ascii "    " ++ edge_name edges rows row ++ ascii "\n"

-- n edges of the edge list, from place start on
abbrev pub edges_text : List ℕ → Bool → List ℕ → ℕ → ℕ → List ℕ
edges_text edges rows list start n = joined (λ j. edge_text edges rows (at list (start + j))) n

-- ring i is the first of its polygon
abbrev pub begins : List ℕ → ℕ → Bool
begins group i = eqb i 0 || not (eqb (at group i) (at group (i - 1)))

unfoldable pub heading_text : List ℕ → ℕ → List ℕ
heading_text group i = cond (begins group i) (noted (ascii "polygon of group ") (at group i) (ascii "\n  outer ring")) (ascii "  inner ring")

unfoldable pub ring_text : List ℕ → Bool → List ℕ → List ℕ → List ℕ → List Float → List ℕ → ℕ → List ℕ
ring_text edges rows start size group area list i =
    heading_text group i
    ++ ascii ", area "
    ++ area_text (get_or area i nan)
    ++ noted (ascii ", edges ") (at size i) (ascii "\n")
    ++ edges_text edges rows list (at start i) (at size i)

abbrev pub rings_text : List ℕ → Bool → List ℕ → List ℕ → List ℕ → List Float → List ℕ → ℕ → List ℕ
rings_text edges rows start size group area list n = joined (ring_text edges rows start size group area list) n

-- ---- the summary

-- as many edges stand as the edge list holds: it ends where the last of n rings ends
abbrev pub standing : List ℕ → List ℕ → ℕ → ℕ
standing start size n = cond (eqb n 0) 0 (at start (n - 1) + at size (n - 1))

abbrev pub count_text : List ℕ → ℕ → List ℕ
count_text name n = noted name n (ascii "\n")

unfoldable pub summary_text : ℕ → ℕ → ℕ → ℕ → ℕ → List ℕ
summary_text rows cells polygons rings edges =
    count_text (ascii "cells ") cells
    ++ count_text (ascii "polygons ") polygons
    ++ count_text (ascii "rings ") rings
    ++ count_text (ascii "table edges ") rows
    ++ count_text (ascii "standing edges ") edges
