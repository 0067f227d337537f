-- What find, union, root and add ask and promise, over the parents ps and ranks rs of n places held. The equations to scope's definitions
-- determine each answer and each list left; what follows from them stands beside them for the callers.
-- Assumes nothing.
use Rattle.std.specs.Prelude.{◌≡◌, List, ℕ, ◌+◌, ◌<◌, ◌^◌, length, set}
use Rattle.scope.specs.Lists.{at}
use Rattle.scope.specs.UnionFind.{finding, root_of, hang, uniting}
use Rattle.scope.proofs.Halving.{Forest}

pub record Found (ps rs : List ℕ) (n a r : ℕ) (ps' : List ℕ) : Type 0 where
  pub root : r ≡ (finding ps a).root
  pub left : ps' ≡ (finding ps a).parents
  pub keeps : Forest ps' rs n
  pub held : r < n
  pub top : at ps' r ≡ r
  -- every root stays one, and every place keeps its root
  pub roots : (i : ℕ) → at ps i ≡ i → at ps' i ≡ i
  pub same : (i : ℕ) → i < n → root_of ps' i ≡ root_of ps i

-- Hanging one root under another, which has the rank k: both are places, and the numbers fit.
pub record HangAsks (ps rs : List ℕ) (low top k : ℕ) : Type 0 where
  pub low_in : low < length ps
  pub top_in : top < length rs
  pub ranked : k ≡ at rs top
  pub fits : top < 2 ^ 32
  pub grows : k + 1 < 2 ^ 32

abbrev pub Hung : List ℕ → List ℕ → ℕ → ℕ → List ℕ → List ℕ → Type 0
Hung ps rs low top ps' rs' = (ps' ≡ (hang ps rs low top).parents) × (rs' ≡ (hang ps rs low top).ranks)

pub record UnionAsks (ps rs : List ℕ) (n a b : ℕ) : Type 0 where
  pub forest : Forest ps rs n
  pub a_held : a < n
  pub b_held : b < n
  pub fits : n < 2 ^ 32

pub record Joined (ps rs : List ℕ) (n a b : ℕ) (ps' rs' : List ℕ) : Type 0 where
  pub left : record { parents = ps'; ranks = rs' } ≡ uniting ps rs a b
  pub keeps : Forest ps' rs' n

-- One more place, its own parent, of rank 0.
pub record AddAsks (ps rs : List ℕ) (n : ℕ) : Type 0 where
  pub forest : Forest ps rs n
  pub room : n < length ps
  pub fits : n < 2 ^ 32

pub record Added (ps rs : List ℕ) (n : ℕ) (ps' rs' : List ℕ) : Type 0 where
  pub parents : ps' ≡ set ps n n
  pub ranks : rs' ≡ set rs n 0
  pub keeps : Forest ps' rs' (n + 1)
