-- In even mode standing means: its owner is in the set and its reverse's owner isn't.
--     own_rows        the rows of a cell's outline at its own resolution are the rows of edges that it owns
--     even_given      a row is given when the owner of its edge is in the set
--     even_stands     it stands when that owner is in the set and the owner of its reverse isn't
-- Assumes nothing.
use mathlib.Core.Path.{◌≡◌, refl, ◌∙◌, subst}
use mathlib.Core.Logic.{◌⊎◌, inl, inr, ◌↔◌}
use mathlib.Core.Bool.{true}
use mathlib.Core.List.Memᴰ
use mathlib.Core.List.{List, Memᴰ}
use Prim.Native.Nat.{ℕ, ◌<◌}
use native.Mathlib.Omega.{arith}
use Rattle.scope.specs.Lists.{at}
use Rattle.scope.specs.Cells.{resolution_of, valid_cell, owner_of, under}
use Rattle.scope.specs.Walk.{outline}
use Rattle.scope.specs.Table.{Table, row_count, reverse_of, target_of, row_of, outline_rows}
use Rattle.scope.specs.Standing.{GivenBy, StandsIn}
use Rattle.scope.proofs.Cells.{same_resolution}
use Rattle.scope.proofs.Edges.{owner_low}
use Rattle.scope.proofs.OwnOutline.{own_mem}
use Rattle.scope.proofs.Tables.{TableGood}
use Rattle.scope.proofs.RowSearch.{row_is}
use Rattle.scope.proofs.Owning.{below_parts, outline_owned}
use Rattle.scope.proofs.Proper.{given_of, given_by}

-- the cell that owns a row's edge
abbrev pub owner_at : Table → ℕ → ℕ
owner_at t a = owner_of (at t.edges a)

module _ {t : Table} (good : TableGood t) where
  owner_resolution : (a : ℕ) → a < row_count t → resolution_of (owner_at t a) ≡ target_of t
  owner_resolution a h = same_resolution (owner_at t a) (at t.edges a) (owner_low (at t.edges a) (good.valid a h)) ∙ good.target a h

  module _ (x a : ℕ) (valid : valid_cell x ≡ true) (own : resolution_of x ≡ target_of t) (h : a < row_count t) where
    pub own_rows : Memᴰ a (outline_rows t x) ↔ (owner_at t a ≡ x)
    own_rows = (λ m. owner (outline_owned t x a valid m h), λ e. subst (λ (c : ℕ). Memᴰ a (outline_rows t c)) e row)
      where
        -- no cell of the target's resolution lies under another of it
        owner : (owner_at t a ≡ x) ⊎ (under (owner_at t a) x ≡ true) → owner_at t a ≡ x
        owner (inl e) = e
        owner (inr u) = let f = (below_parts (owner_at t a) x u).finer in let r = owner_resolution a h in absurd (omega arith)

        edge : Memᴰ (at t.edges a) (outline (owner_at t a) (target_of t))
        edge = subst (λ (r : ℕ). Memᴰ (at t.edges a) (outline (owner_at t a) r)) (owner_resolution a h) (own_mem (at t.edges a) (good.valid a h))

        row : Memᴰ a (outline_rows t (owner_at t a))
        row = unfold outline_rows in Memᴰ.cast (row_is t.edges (at t.edges a) good.order a h refl) (Memᴰ.map (row_of t.edges) edge)

  -- the cells are of the target's resolution
  module _ (cs : List ℕ) (valid : (x : ℕ) → Memᴰ x cs → valid_cell x ≡ true) (even : (x : ℕ) → Memᴰ x cs → resolution_of x ≡ target_of t) where
    pub even_given : (a : ℕ) → a < row_count t → GivenBy t cs a ↔ Memᴰ (owner_at t a) cs
    even_given a h = (λ g. in_set (given_by t cs a g), λ m. given_of t a m ((own_rows (owner_at t a) a (valid (owner_at t a) m) (even (owner_at t a) m) h).1 refl))
      where
        in_set : (x : ℕ) × Memᴰ x cs × Memᴰ a (outline_rows t x) → Memᴰ (owner_at t a) cs
        in_set (x, i, m) = Memᴰ.cast ((own_rows x a (valid x i) (even x i) h).0 m) i

    pub even_stands : (a : ℕ) → a < row_count t → StandsIn t cs a ↔ (Memᴰ (owner_at t a) cs × (Memᴰ (owner_at t (reverse_of t a)) cs → ⊥))
    even_stands a h =
        let g = even_given a h in
        let r = even_given (reverse_of t a) (good.reverses.rev_in a h) in
        (λ s. (g.0 s.0, λ m. s.1 (r.1 m)), λ s. (g.1 s.0, λ k. s.1 (r.0 k)))
