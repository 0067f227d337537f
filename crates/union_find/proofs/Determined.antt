-- What the public promises of this crate allow is one outcome each.
-- Assumes nothing.
use mathlib.Core.Path.{◌≡◌, sym, ◌∙◌, ap}
use mathlib.Core.List.{List}
use Prim.Native.Nat.{ℕ}
use Rattle.scope.specs.UnionFind.{United}
use Rattle.union_find.specs.Asked.{Found, Joined, Added}

pub found_one : {ps rs ps' ps'' : List ℕ} {n a r r' : ℕ} → Found ps rs n a r ps' → Found ps rs n a r' ps'' → (r ≡ r') × (ps' ≡ ps'')
found_one F G = (F.root ∙ sym G.root, F.left ∙ sym G.left)

pub joined_one : {ps rs ps' rs' ps'' rs'' : List ℕ} {n a b : ℕ} → Joined ps rs n a b ps' rs' → Joined ps rs n a b ps'' rs'' → (ps' ≡ ps'') × (rs' ≡ rs'')
joined_one J K = let e = J.left ∙ sym K.left in (ap (λ (u : United). u.parents) e, ap (λ (u : United). u.ranks) e)

pub added_one : {ps rs ps' rs' ps'' rs'' : List ℕ} {n : ℕ} → Added ps rs n ps' rs' → Added ps rs n ps'' rs'' → (ps' ≡ ps'') × (rs' ≡ rs'')
added_one A B = (A.parents ∙ sym B.parents, A.ranks ∙ sym B.ranks)
