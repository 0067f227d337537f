-- Groups of places and of cells, and the place that names a group.
--     places_group, group_places     a chain of places is a chain of cells, and back, in a list of different cells
--     group_labels, labels_group     so labels that tell the groups apart are labels of the touching places, and back
--     group_agrees                   `group_place` is the same for two places exactly when their cells are in one group
--     group_lowest                   and it is the lowest place of the group
--     group_by                       any labels of the places that tell the groups apart have the same lowest places
-- Assumes nothing.
use mathlib.Core.Path.{◌≡◌, refl, sym, ap, subst}
use mathlib.Core.Logic.{◌↔◌}
use mathlib.Core.Bool.{not}
use mathlib.Core.List.{List, Memᴰ}
use Prim.Native.Nat.{ℕ, ◌≤◌, ◌<◌}
use native.Mathlib.Omega.{arith}
use borrow.Author.Tests.{eq-eqb, eqb-true, not-false}
use lib.Dec.{eqb}
use lib.ListN.{length}
use Rattle.scope.specs.Lists.{at, first_bad}
use Rattle.scope.specs.Table.{Table}
use Rattle.scope.specs.Standing.{Chain, pair, back, joined, Touch, OneGroup}
use Rattle.scope.specs.Afresh.{label_all, group_place}
use Rattle.scope.proofs.Tests.{clash, same}
use Rattle.scope.proofs.Scan.{Lowest, first_bad_lowest, first_bad_same}
use Rattle.scope.proofs.Members.{Fresh, mem_at, place, fresh_at}
use Rattle.scope.proofs.Chains.{chain_map}
use Rattle.scope.proofs.Labels.{Labelled, labelled_iff}
use Rattle.scope.proofs.LabelsAfresh.{TouchAt, labels_agree}

-- ---- places and cells

-- the place of a cell
unfoldable pub place_of : List ℕ → ℕ → ℕ
place_of cs c = first_bad (λ i. not (eqb (at cs i) c)) (length cs)

module _ (cs : List ℕ) where
  pub place_of_in : (c : ℕ) → Memᴰ c cs → (place_of cs c < length cs) × (at cs (place_of cs c) ≡ c)
  unfolding place_of
  place_of_in c m = (low, eqb-true (at cs r) c (not-false (eqb (at cs r) c) (L.here low)))
    where
      r : ℕ
      r = first_bad (λ i. not (eqb (at cs i) c)) (length cs)

      L : Lowest (λ i. not (eqb (at cs i) c)) (length cs) r
      L = first_bad_lowest (λ i. not (eqb (at cs i) c)) (length cs)

      low : r < length cs
      low =
          let z = place m in
          let h : z.0 < r → ⊥ = λ l. clash (L.before z.0 l) (ap not (eq-eqb (at cs z.0) c z.2)) in
          omega (arith, z.1)

  pub place_of_at : Fresh cs → (p : ℕ) → p < length cs → place_of cs (at cs p) ≡ p
  place_of_at f p h = let z = place_of_in (at cs p) (mem_at cs p h) in fresh_at cs f (place_of cs (at cs p)) p z.0 h z.1

module _ (t : Table) (cs : List ℕ) where
  pub places_group : {p q : ℕ} → Chain (TouchAt t cs) p q → OneGroup t cs (at cs p) (at cs q)
  places_group c = chain_map (at cs) (λ p q e. (mem_at cs p e.0, mem_at cs q e.1, e.2)) c

  pub group_places : Fresh cs → (p q : ℕ) → p < length cs → q < length cs → OneGroup t cs (at cs p) (at cs q) → Chain (TouchAt t cs) p q
  group_places f p q h k c =
      subst (λ (w : ℕ). Chain (TouchAt t cs) w q) (place_of_at cs f p h) (subst (Chain (TouchAt t cs) (place_of cs (at cs p))) (place_of_at cs f q k)
      (chain_map (place_of cs) (λ v w e. step v w e) c))
    where
      step : (v w : ℕ) → Memᴰ v cs × Memᴰ w cs × Touch t v w → TouchAt t cs (place_of cs v) (place_of cs w)
      step v w (i, j, e) =
          let x = place_of_in cs v i in
          let y = place_of_in cs w j in
          (x.0, y.0, subst (λ (u : ℕ). Touch t u (at cs (place_of cs w))) (sym x.1) (subst (Touch t v) (sym y.1) e))

-- the labels f tell the groups of the cells apart
abbrev pub TellsGroups : Table → List ℕ → (ℕ → ℕ) → Type 0
TellsGroups t cs f = (p q : ℕ) → p < length cs → q < length cs → (f p ≡ f q) ↔ OneGroup t cs (at cs p) (at cs q)

module _ (t : Table) (cs : List ℕ) (f : ℕ → ℕ) (fresh : Fresh cs) where
  pub labels_group : Labelled (length cs) (TouchAt t cs) f → TellsGroups t cs f
  labels_group L p q h k =
      let e = labelled_iff L p q h k in
      (λ x. places_group t cs (e.0 x), λ g. e.1 (group_places t cs fresh p q h k g))

  pub group_labels : TellsGroups t cs f → Labelled (length cs) (TouchAt t cs) f
  group_labels T = record {
    sound = λ p q h k e. group_places t cs fresh p q h k ((T p q h k).0 e);
    complete = λ p q e. (T p q e.0 e.1).1 (places_group t cs (pair e));
    pairs_in = λ p q e. (e.0, e.1);
  }

-- ---- the lowest place of a label

-- the lowest place below n that f does not tell from i
abbrev lowest_like : (ℕ → ℕ) → ℕ → ℕ → ℕ
lowest_like f n i = first_bad (λ j. not (eqb (f j) (f i))) n

module _ (f : ℕ → ℕ) (n i : ℕ) (h : i < n) where
  L : Lowest (λ j. not (eqb (f j) (f i))) n (lowest_like f n i)
  L = first_bad_lowest (λ j. not (eqb (f j) (f i))) n

  like_least : (j : ℕ) → f j ≡ f i → lowest_like f n i ≤ j
  like_least j e = let z : j < lowest_like f n i → ⊥ = λ l. clash (L.before j l) (ap not (eq-eqb (f j) (f i) e)) in omega arith

  like_below : lowest_like f n i < n
  like_below = let z = like_least i refl in omega arith

  like_same : f (lowest_like f n i) ≡ f i
  like_same = eqb-true (f (lowest_like f n i)) (f i) (not-false (eqb (f (lowest_like f n i)) (f i)) (L.here like_below))

-- what a group's place is
pub record LowestPlace (t : Table) (cs : List ℕ) (i r : ℕ) : Type 0 where
  pub below : r < length cs
  pub inside : OneGroup t cs (at cs r) (at cs i)
  pub least : (j : ℕ) → j < length cs → OneGroup t cs (at cs j) (at cs i) → r ≤ j

module _ (t : Table) (cs : List ℕ) (fresh : Fresh cs) where
  told : TellsGroups t cs (at (label_all t cs (length cs)))
  told = labels_group t cs (at (label_all t cs (length cs))) fresh (labels_agree t cs)

  -- THE GROUP'S PLACE is the lowest of its cells' places
  pub group_lowest : (i : ℕ) → i < length cs → LowestPlace t cs i (group_place t cs i)
  unfolding group_place
  group_lowest i h =
      let f = at (label_all t cs (length cs)) in
      let n = length cs in
      record {
        below = like_below f n i h;
        inside = (told (lowest_like f n i) i (like_below f n i h) h).0 (like_same f n i h);
        least = λ j k g. like_least f n i h j ((told j i k h).1 g);
      }

  -- any labelling of the places that tells the groups apart has these lowest places
  pub group_by : (f : ℕ → ℕ) → TellsGroups t cs f → (i : ℕ) → i < length cs → first_bad (λ j. not (eqb (f j) (f i))) (length cs) ≡ group_place t cs i
  unfolding group_place
  group_by f T i h =
      let g = at (label_all t cs (length cs)) in
      first_bad_same (λ j. not (eqb (f j) (f i))) (λ j. not (eqb (g j) (g i))) (length cs) (λ k l. ap not (same (eqb (f k) (f i)) (eqb (g k) (g i))
      (λ e. eq-eqb (g k) (g i) ((told k i l h).1 ((T k i l h).0 (eqb-true (f k) (f i) e))))
      (λ e. eq-eqb (f k) (f i) ((T k i l h).1 ((told k i l h).0 (eqb-true (g k) (g i) e))))))

-- two groups with one lowest place are one, and one group has one lowest place
pub lowest_one : {t : Table} {cs : List ℕ} {i j r s : ℕ} → LowestPlace t cs i r → LowestPlace t cs j s → OneGroup t cs (at cs i) (at cs j) → r ≡ s
lowest_one {r = r} {s = s} A B g =
    let h : r ≤ s = A.least s B.below (joined B.inside (back g)) in
    let k : s ≤ r = B.least r A.below (joined A.inside g) in
    omega arith

pub group_agrees : (t : Table) (cs : List ℕ) → Fresh cs → TellsGroups t cs (group_place t cs)
group_agrees t cs f i j h k =
    let A = group_lowest t cs f i h in
    let B = group_lowest t cs f j k in
    (λ e. joined (back A.inside) (subst (λ (w : ℕ). OneGroup t cs (at cs w) (at cs j)) (sym e) B.inside), λ g. lowest_one A B g)
