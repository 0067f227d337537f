-- What the public promises of this crate allow is one outcome each, but for the flags, which are scratch.
--     cell_one, outline_one
-- Assumes nothing.
use mathlib.Core.Path.{◌≡◌, sym, ◌∙◌}
use mathlib.Core.List.{List}
use Prim.Native.Nat.{ℕ}
use Rattle.placing.specs.Outline.{CellHeld, OutlinePlaced}

pub cell_one : {head cells parent rank h c p r h' c' p' r' : List ℕ} {x k k' : ℕ} → CellHeld head cells parent rank x k h c p r → CellHeld head cells parent rank x k' h' c' p' r'
    → (k ≡ k') × (h ≡ h') × (c ≡ c') × (p ≡ p') × (r ≡ r')
cell_one C D = (C.place_is ∙ sym D.place_is, C.head_left ∙ sym D.head_left, C.cells_left ∙ sym D.cells_left, C.parent_left ∙ sym D.parent_left, C.rank_left ∙ sym D.rank_left)

pub outline_one : {slot_row slot_cell prev next row_slot o a b c d e f a' b' c' d' e' f' : List ℕ} {k : ℕ}
    → OutlinePlaced slot_row slot_cell prev next row_slot o k a b c d e f → OutlinePlaced slot_row slot_cell prev next row_slot o k a' b' c' d' e' f'
    → (a ≡ a') × (b ≡ b') × (c ≡ c') × (d ≡ d') × (e ≡ e')
outline_one P Q = (P.rows ∙ sym Q.rows, P.cells ∙ sym Q.cells, P.prevs ∙ sym Q.prevs, P.nexts ∙ sym Q.nexts, P.slots ∙ sym Q.slots)
