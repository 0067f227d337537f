-- THE ROWS DRAWN: of cells that are proper, the edge list drawn afresh holds the rows that stand, each once.
--     drawn_standing     a row is in it exactly when it stands
--     drawn_once         no row is there twice
--     no_ring            no ring is drawn exactly where no row stands
-- Assumes nothing.
use Prim.Native.Nat.{ℕ}
use mathlib.Core.Path.{◌≡◌, refl, subst}
use mathlib.Core.Logic.{◌⊎◌, inl, inr, ◌↔◌}
use mathlib.Core.Bool.{true}
use mathlib.Core.List.Memᴰ
use mathlib.Core.List.{List, [], ◌∷◌, map, Memᴰ}
use native.Mathlib.Omega.{arith}
use borrow.Author.Tests.{eq-eqb, eqb-true}
use lib.Dec.{eqb}
use lib.ListN.{length}
use Rattle.scope.specs.Table.{Table, row_count, reverse_of}
use Rattle.scope.specs.Standing.{outlines, StandsIn}
use Rattle.scope.specs.Afresh.{is_standing, successor, standing_rows, rings}
use Rattle.scope.proofs.Tests.{same}
use Rattle.scope.proofs.Members.{Fresh, mem_below}
use Rattle.scope.proofs.Cycle.{iter, Permutes}
use Rattle.scope.proofs.Rings.{ring_fresh, ring_one, starts_stand}
use Rattle.scope.proofs.Sorted.{sort_perm}
use Rattle.scope.proofs.Perms.{perm_sym, perm_in, perm_fresh, fresh_append}
use Rattle.scope.proofs.Proper.{Proper}
use Rattle.scope.proofs.Agree.{starts, rows_agree, rings_agree, starts_fresh, row_ring, standing_permutes}
use Rattle.scope.proofs.Drawn.{ring_from, drawn_before, drawn, drawn_rings, laid, drawn_rings_lem}

-- ---- the rows laid end to end

laid_mem : (f : ℕ → List ℕ) (l : List ℕ) {a : ℕ} → Memᴰ a (laid (map f l)) → (r : ℕ) × Memᴰ r l × Memᴰ a (f r)
unfolding laid
laid_mem f [] i = absurd (Memᴰ.not-nil i)
laid_mem f (r ∷ l) {a} i = go (λ j. laid_mem f l j) (Memᴰ.append_cases (f r) i)
  where
    go : (Memᴰ a (laid (map f l)) → (q : ℕ) × Memᴰ q l × Memᴰ a (f q)) → Memᴰ a (f r) ⊎ Memᴰ a (laid (map f l))
        → (q : ℕ) × Memᴰ q (r ∷ l) × Memᴰ a (f q)
    go ih (inl j) = (r, Memᴰ.head refl, j)
    go ih (inr j) = let z = ih j in (z.0, Memᴰ.tail z.1, z.2)

mem_laid : {l : List ℕ} {ls : List (List ℕ)} {a : ℕ} → Memᴰ l ls → Memᴰ a l → Memᴰ a (laid ls)
unfolding laid
mem_laid {a = a} (Memᴰ.head {xs = ls} e) i = Memᴰ.append_left (laid ls) (subst (Memᴰ a) e i)
mem_laid (Memᴰ.tail {x = k} j) i = Memᴰ.append_right k (mem_laid j i)

laid_fresh : (f : ℕ → List ℕ) (l : List ℕ) → Fresh l → ((r : ℕ) → Memᴰ r l → Fresh (f r))
    → ((r q a : ℕ) → Memᴰ r l → Memᴰ q l → Memᴰ a (f r) → Memᴰ a (f q) → r ≡ q) → Fresh (laid (map f l))
unfolding laid
laid_fresh f [] g one apart = tt
laid_fresh f (r ∷ l) g one apart =
    fresh_append (f r) (laid (map f l)) (one r (Memᴰ.head refl))
    (laid_fresh f l g.1 (λ q i. one q (Memᴰ.tail i)) (λ p q a i j. apart p q a (Memᴰ.tail i) (Memᴰ.tail j)))
    (λ a i j. let z = laid_mem f l j in g.0 (Memᴰ.cast (apart r z.0 a (Memᴰ.head refl) (Memᴰ.tail z.1) i z.2) z.1))

empty : {A : Type 0} (l : List A) → ((a : A) → Memᴰ a l → ⊥) → length l ≡ 0
empty [] f = refl
empty (x ∷ l) f = absurd (f x (Memᴰ.head refl))

not_empty : {A : Type 0} {l : List A} {a : A} → length l ≡ 0 → Memᴰ a l → ⊥
not_empty e (Memᴰ.head p) = omega arith
not_empty e (Memᴰ.tail i) = omega arith

module _ {t : Table} {cs : List ℕ} (P : Proper t cs) where
  abbrev R : Permutes (row_count t) (λ a. is_standing (outlines t cs) (reverse_of t) a ≡ true) (successor t cs)
  R = standing_permutes P

  drawn_start : (r : ℕ) → Memᴰ r (drawn t cs) → Memᴰ r (starts t cs)
  unfolding drawn
  drawn_start r i = perm_in (perm_sym (sort_perm (drawn_before t cs) (starts t cs))) i

  -- THE EDGE LIST HOLDS THE ROWS THAT STAND
  pub drawn_standing : (a : ℕ) → Memᴰ a (laid (drawn_rings t cs)) ↔ StandsIn t cs a
  drawn_standing a = (
    λ i. let z = laid_mem (ring_from t cs) (drawn t cs) i in
        let l = perm_in (perm_sym (drawn_rings_lem t cs)) (Memᴰ.map (ring_from t cs) z.1) in
        (rings_agree P (ring_from t cs z.0) l).1.standing a z.2,
    λ s. let z = row_ring P a s in mem_laid (perm_in (drawn_rings_lem t cs) z.1) z.2,
  )

  -- EACH ONCE
  pub drawn_once : Fresh (laid (drawn_rings t cs))
  drawn_once = laid_fresh (ring_from t cs) (drawn t cs) fresh
      (λ r i. ring_fresh R r (starts_stand R r (mem_below _ _ r (drawn_start r i)).1))
      (λ r q a i j. ring_one R r q a (drawn_start r i) (drawn_start q j))
    where
      fresh : Fresh (drawn t cs)
      fresh = unfold drawn in perm_fresh (sort_perm (drawn_before t cs) (starts t cs)) (starts_fresh P)

  -- no ring is drawn exactly where no row stands
  pub no_ring : eqb (length (rings t cs)) 0 ≡ eqb (length (standing_rows t cs)) 0
  no_ring = same (eqb (length (rings t cs)) 0) (eqb (length (standing_rows t cs)) 0)
      (λ e. eq-eqb _ 0 (empty (standing_rows t cs) (λ a i. not_empty (eqb-true _ 0 e) (row_ring P a ((rows_agree P a).0 i)).1)))
      (λ e. eq-eqb _ 0 (empty (rings t cs) (λ l i.
      let r = rings_agree P l i in
      let a = iter (successor t cs) 0 r.0 in
      not_empty (eqb-true _ 0 e) ((rows_agree P a).1 (r.1.standing a (r.1.whole 0))))))
