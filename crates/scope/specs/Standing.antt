-- Document 01, "Standing edges, rings, groups", as propositions. An edge is named by its row in the table; os are the outlines of the
-- accepted cells, each a list of rows in walk order (an accepted cell's outline is in the table: refusal 5).
-- Assumes nothing.
use Rattle.std.specs.Prelude.{ℕ, Bool, cond, ◌⊎◌, eqb}
use mathlib.Core.List.{List, [], ◌∷◌, map, Memᴰ}
use Rattle.scope.specs.Lists.{member}
use Rattle.scope.specs.Table.{Table, outline_rows, reverse_of}

-- x, f x, f (f x), .. first meets the stops at y.
pub data Lands {A : Type 0} (Stop : A → Type 0) (f : A → A) : A → A → Type 0 where
  here : {x : A} → Stop x → Lands Stop f x x
  on : {x y : A} → (Stop x → ⊥) → Lands Stop f (f x) y → Lands Stop f x y

-- The outlines of the accepted cells.
abbrev pub outlines : Table → List ℕ → List (List ℕ)
outlines t cs = map (outline_rows t) cs

-- An edge is given when it is in the outline of an accepted cell.
abbrev pub Given : List (List ℕ) → ℕ → Type 0
Given [] a = ⊥
Given (o ∷ os) a = Memᴰ a o ⊎ Given os a

-- It stands when it is given and its reverse isn't.
abbrev pub Stands : (ℕ → Type 0) → (ℕ → ℕ) → ℕ → Type 0
Stands G rev a = G a × (G (rev a) → ⊥)

-- The next edge in an outline, cyclically: of a from c on, with h the outline's first.
unfoldable pub next_after : ℕ → ℕ → List ℕ → ℕ → ℕ
next_after h c [] a = h
next_after h c (d ∷ o) a = let r = next_after h d o a in cond (eqb a c) d r

unfoldable pub next_in : List ℕ → ℕ → ℕ
next_in [] a = a
next_in (h ∷ o) a = next_after h h o a

-- The next edge in its own outline.
unfoldable pub next_of : List (List ℕ) → ℕ → ℕ
next_of [] a = a
next_of (o ∷ os) a = let r = next_of os a in cond (member a o) (next_in o a) r

-- The ring successor of a standing edge: take the next edge in its own outline; while that one doesn't stand, take the edge that
-- follows its reverse in the reverse's outline.
abbrev pub Successor : (ℕ → Type 0) → (ℕ → ℕ) → (ℕ → ℕ) → ℕ → ℕ → Type 0
Successor G rev next a b = Lands (Stands G rev) (λ w. next (rev w)) (next a) b

-- Two cells hold some edge and its reverse.
abbrev pub Touch : Table → ℕ → ℕ → Type 0
Touch t x y = (a : ℕ) × Memᴰ a (outline_rows t x) × Memᴰ (reverse_of t a) (outline_rows t y)

-- A chain of cells joins two, each next two in E.
pub data Chain (E : ℕ → ℕ → Type 0) : ℕ → ℕ → Type 0 where
  alone : {x : ℕ} → Chain E x x
  pair : {x y : ℕ} → E x y → Chain E x y
  back : {x y : ℕ} → Chain E x y → Chain E y x
  joined : {x y z : ℕ} → Chain E x y → Chain E y z → Chain E x z

-- Two cells are in one group when a chain of accepted cells joins them, each next two holding some edge and its reverse.
abbrev pub OneGroup : Table → List ℕ → ℕ → ℕ → Type 0
OneGroup t cs x y = Chain (λ v w. Memᴰ v cs × Memᴰ w cs × Touch t v w) x y

-- ---- worked out afresh from a table and a cell list

abbrev pub GivenBy : Table → List ℕ → ℕ → Type 0
GivenBy t cs a = Given (outlines t cs) a

abbrev pub StandsIn : Table → List ℕ → ℕ → Type 0
StandsIn t cs a = Stands (GivenBy t cs) (reverse_of t) a

abbrev pub SuccessorIn : Table → List ℕ → ℕ → ℕ → Type 0
SuccessorIn t cs a b = Successor (GivenBy t cs) (reverse_of t) (next_of (outlines t cs)) a b
