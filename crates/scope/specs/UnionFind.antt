-- Document 01, "Standing edges, rings, groups": find and union keep the parents and ranks the Rust steps leave.
-- Assumes nothing.
use Rattle.std.specs.Prelude.{ℕ, zero, suc, ◌+◌, cond, List, eqb, ltb, length, set}
use Rattle.scope.specs.Lists.{at}

-- What find answers, and the parents it leaves.
pub record Halved : Type 0 where
  pub root : ℕ
  pub parents : List ℕ

-- Find, at most k turns: at each, where a is no root, its parent becomes its parent's parent, and find goes on there.
unfoldable pub halve : ℕ → List ℕ → ℕ → Halved
halve zero ps a = record { root = a; parents = ps }
halve (suc k) ps a =
    let r = halve k (set ps a (at ps (at ps a))) (at ps (at ps a)) in
    cond (eqb (at ps a) a) (record { root = a; parents = ps }) r

-- As many turns as there are places are enough.
unfoldable pub finding : List ℕ → ℕ → Halved
finding ps a = halve (length ps) ps a

-- The root of a, with nothing changed: at most k steps up.
unfoldable pub climb : ℕ → List ℕ → ℕ → ℕ
climb zero ps a = a
climb (suc k) ps a = let r = climb k ps (at ps a) in cond (eqb (at ps a) a) a r

unfoldable pub root_of : List ℕ → ℕ → ℕ
root_of ps a = climb (length ps) ps a

-- The parents and ranks that union leaves.
pub record United : Type 0 where
  pub parents : List ℕ
  pub ranks : List ℕ

-- Rank grows at every union, also of unequal ranks.
abbrev pub hang : List ℕ → List ℕ → ℕ → ℕ → United
hang ps rs low top = record { parents = set ps low top; ranks = set rs top (at rs top + 1) }

-- The root of the lower rank goes under the other; at equal ranks the second under the first.
abbrev pub unite_roots : List ℕ → List ℕ → ℕ → ℕ → United
unite_roots ps rs a b =
    cond (eqb a b) (record { parents = ps; ranks = rs })
    (cond (ltb (at rs a) (at rs b)) (hang ps rs a b) (hang ps rs b a))

unfoldable pub uniting : List ℕ → List ℕ → ℕ → ℕ → United
uniting ps rs a b =
    let fa = finding ps a in
    let fb = finding fa.parents b in
    unite_roots fb.parents rs fa.root fb.root
