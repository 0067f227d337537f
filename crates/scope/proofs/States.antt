-- A state as far as calls read it, what it holds of the accepted cells, and what one accepted offer does to it.
--     State                 rows held, the next link of each, the place of the cell in whose name it is held, a root for each place
--     Holds t cs s          the rows held are those that stand for the cells cs, the links their successors, the roots tell the groups
--     Beside                the outline of one more cell beside the rows held
--     PairsGone             all pairs gone, on any state: links by the successor rule over the links before, cells of pairs united
-- Assumes nothing.
use mathlib.Core.Path.{◌≡◌}
use mathlib.Core.Logic.{◌⊎◌, ◌≢◌}
use mathlib.Core.List.{List, Memᴰ}
use Prim.Native.Nat.{ℕ, ◌<◌}
use lib.ListN.{length}
use Rattle.scope.specs.Lists.{at}
use Rattle.scope.specs.Table.{Table, reverse_of, outline_rows}
use Rattle.scope.specs.Standing.{Stands, Successor, next_in, StandsIn, SuccessorIn}
use Rattle.scope.proofs.Offer.{Joined}
use Rattle.scope.proofs.Labels.{Labelled}
use Rattle.scope.proofs.Groups.{TellsGroups}

pub record State : Type 1 where
  pub has : ℕ → Type 0
  pub link : ℕ → ℕ
  pub cell : ℕ → ℕ
  pub root : ℕ → ℕ

pub record Holds (t : Table) (cs : List ℕ) (s : State) : Type 0 where
  pub stands : (a : ℕ) → s.has a → StandsIn t cs a
  pub all : (a : ℕ) → StandsIn t cs a → s.has a
  pub links : (a : ℕ) → s.has a → SuccessorIn t cs a (s.link a)
  pub place : (a : ℕ) → s.has a → s.cell a < length cs
  pub gives : (a : ℕ) → s.has a → Memᴰ a (outline_rows t (at cs (s.cell a)))
  pub groups : TellsGroups t cs s.root

-- The outline of x beside the rows held, linked in walk order, in the name of place n, which is a root of its own.
pub record Beside (t : Table) (x n : ℕ) (s s₀ : State) : Type 0 where
  pub rows : Joined s.has (λ a. Memᴰ a (outline_rows t x)) s₀.has s.link (next_in (outline_rows t x)) s₀.link
  pub old_cell : (a : ℕ) → s.has a → s₀.cell a ≡ s.cell a
  pub new_cell : (a : ℕ) → Memᴰ a (outline_rows t x) → s₀.cell a ≡ n
  pub old_root : (p : ℕ) → p < n → s₀.root p ≡ s.root p
  pub new_root : (p : ℕ) → p < n → s₀.root p ≢ s₀.root n

-- An edge and its reverse are held, in the names of p and q.
abbrev pub Cancels : Table → State → ℕ → ℕ → Type 0
Cancels t s p q = (a : ℕ) × s.has a × s.has (reverse_of t a) × (s.cell a ≡ p) × (s.cell (reverse_of t a) ≡ q)

-- Two of the first n places have one root, or a pair that cancels is held in their names.
abbrev pub Unites : Table → ℕ → State → ℕ → ℕ → Type 0
Unites t n s p q = (p < n) × (q < n) × ((s.root p ≡ s.root q) ⊎ Cancels t s p q)

-- An edge cancels when its reverse is held; the links left are those of the successor rule over the links before; each cancelled pair
-- unites its cells, and nothing else does. On any state.
pub record PairsGone (t : Table) (n : ℕ) (s₀ s' : State) : Type 0 where
  pub dec : (a : ℕ) → Dec (s₀.has a)
  pub out : (a : ℕ) → s'.has a → Stands s₀.has (reverse_of t) a
  pub stay : (a : ℕ) → Stands s₀.has (reverse_of t) a → s'.has a
  pub rule : (a : ℕ) → s'.has a → Successor s₀.has (reverse_of t) s₀.link a (s'.link a)
  pub cell : (a : ℕ) → s'.has a → s'.cell a ≡ s₀.cell a
  pub united : Labelled n (Unites t n s₀) s'.root
