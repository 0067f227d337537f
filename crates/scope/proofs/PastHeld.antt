-- PAST THE HELD CELLS an accepted offer leaves the places as they were: find and union touch held places alone, and the new cell takes the first
-- place past them.
--     halve_past, uniting_past, united_past     parents and ranks under find, a union, and the unions of all pairs
--     taken_past                                what an accepted offer leaves there
-- Assumes nothing.
use mathlib.Core.Path.{◌≡◌, refl, ◌∙◌}
use mathlib.Core.Bool.{Bool, true, false, cond}
use mathlib.Core.List.Memᴰ
use mathlib.Core.List.{List, [], ◌∷◌}
use Prim.Native.Nat.{ℕ, zero, suc, ◌≤◌, ◌<◌}
use native.Mathlib.Omega.{arith}
use lib.ListN.{length}
use lib.Seq.{get_or-set_other}
use lib.Dec.{eqb, ltb}
use borrow.Author.Tests.{eq-eqb, ne_eqb}
use Rattle.scope.specs.Lists.{at}
use Rattle.scope.specs.Table.{Table}
use Rattle.scope.specs.Memory.{Memory, held}
use Rattle.scope.specs.UnionFind.{halve, finding, United, hang, unite_roots, uniting}
use Rattle.scope.specs.Pool.{placed, unite_pairs, taking}
use Rattle.scope.proofs.Sums.{by_eq}
use Rattle.scope.proofs.Halving.{Forest, up, turn_there, turn_keeps, halve_keeps, halve_held}
use Rattle.scope.proofs.Unions.{uniting_keeps}
use Rattle.scope.proofs.Pairs.{PairsHeld}
use Rattle.scope.proofs.Sound.{Offered}
use Rattle.scope.proofs.Taking.{placed_for, one_place_more, pairs_met, taken_places, taken_parent, taken_rank, placed_forest, pairs_held}

pub halve_past : (rs : List ℕ) (n k : ℕ) (ps : List ℕ) → Forest ps rs n → (a : ℕ) → a < n → (i : ℕ) → n ≤ i → at (halve k ps a).parents i ≡ at ps i
unfolding halve
halve_past rs n zero ps w a h i l = refl
halve_past rs n (suc k) ps w a h i l = by_eq (at ps a) a
    (λ e. rw (eq-eqb (at ps a) a e))
    (λ e. rw (ne_eqb (at ps a) a e) (halve_past rs n k _ (turn_keeps rs n ps w a h e) _ (up rs n ps w a h) i l ∙ turn_there rs n ps w a h i (omega arith)))

-- two lists of parents and ranks agree from place n on
pub record SamePast (n : ℕ) (u w : United) : Type 0 where
  pub parents : (i : ℕ) → n ≤ i → at w.parents i ≡ at u.parents i
  pub ranks : (i : ℕ) → n ≤ i → at w.ranks i ≡ at u.ranks i

roots_past : (ps rs : List ℕ) (n a b : ℕ) → a < n → b < n → SamePast n (record { parents = ps; ranks = rs }) (unite_roots ps rs a b)
roots_past ps rs n a b ha hb = go (eqb a b) (ltb (at rs a) (at rs b))
  where
    hung : (low top : ℕ) → low < n → top < n → SamePast n (record { parents = ps; ranks = rs }) (hang ps rs low top)
    hung low top h k = record {
      parents = λ i l. get_or-set_other ps low i top 0 (omega arith);
      ranks = λ i l. get_or-set_other rs top i _ 0 (omega arith);
    }

    go : (s t : Bool) → SamePast n (record { parents = ps; ranks = rs }) (cond s (record { parents = ps; ranks = rs }) (cond t (hang ps rs a b) (hang ps rs b a)))
    go true t = record { parents = λ i l. refl; ranks = λ i l. refl }
    go false true = hung a b ha hb
    go false false = hung b a hb ha

pub uniting_past : (ps rs : List ℕ) (n : ℕ) → Forest ps rs n → (a b : ℕ) → a < n → b < n → SamePast n (record { parents = ps; ranks = rs }) (uniting ps rs a b)
unfolding uniting finding
uniting_past ps rs n w a b ha hb =
    let wa = halve_keeps rs n (length ps) ps w a ha in
    let k = length (finding ps a).parents in
    let r = roots_past _ rs n _ _ (halve_held rs n (length ps) ps w a ha) (halve_held rs n k _ wa b hb) in
    record {
      parents = λ i l. r.parents i l ∙ halve_past rs n k _ wa b hb i l ∙ halve_past rs n (length ps) ps w a ha i l;
      ranks = r.ranks;
    }

pub united_past : (t : Table) (m : Memory) (n : ℕ) (ss : List ℕ) (u : United) → Forest u.parents u.ranks n → PairsHeld t m n ss → SamePast n u (unite_pairs t m ss u)
unfolding unite_pairs
united_past t m n [] u w h = record { parents = λ i l. refl; ranks = λ i l. refl }
united_past t m n (s ∷ ss) u w h =
    let q = h s (Memᴰ.head refl) in
    let one = uniting_past u.parents u.ranks n w _ _ q.0 q.1 in
    let rest = united_past t m n ss _ (uniting_keeps u.parents u.ranks n w _ _ q.0 q.1) (λ k i. h k (Memᴰ.tail i)) in
    record { parents = λ i l. rest.parents i l ∙ one.parents i l; ranks = λ i l. rest.ranks i l ∙ one.ranks i l }

-- AN ACCEPTED OFFER
pub record PastLeft (m m' : Memory) : Type 0 where
  pub cells : (i : ℕ) → held m < i → at m'.cells i ≡ at m.cells i
  pub parent : (i : ℕ) → held m < i → at m'.parent i ≡ at m.parent i
  pub rank : (i : ℕ) → held m < i → at m'.rank i ≡ at m.rank i

pub taken_past : {t : Table} {m : Memory} {x : ℕ} → Offered t m x → PastLeft m (taking t m x)
unfolding placed
taken_past {t} {m} {x} O =
    let u = united_past t (placed_for t m x) (suc (held m)) (pairs_met t m x) (one_place_more t m x) (placed_forest O) (pairs_held O) in
    record {
      cells = λ i l. rw (taken_places t m x) (get_or-set_other m.cells (held m) i x 0 (omega arith));
      parent = λ i l. rw (taken_parent t m x) (u.parents i (omega arith) ∙ get_or-set_other m.parent (held m) i (held m) 0 (omega arith));
      rank = λ i l. rw (taken_rank t m x) (u.ranks i (omega arith) ∙ get_or-set_other m.rank (held m) i 0 0 (omega arith));
    }
