-- Where the first half of the rows names the second and is named back, every row is paired: the second half has no row beside those that
-- are named, by the pigeonhole.
--     halves_paired
-- Assumes nothing.
use Prim.Native.Nat.{ℕ, ◌-◌, ◌*◌, ◌<◌, ◌≤◌}
use mathlib.Core.Path.{◌≡◌, refl, sym, ◌∙◌, ap}
use mathlib.Core.Bool.{Bool, true, false, ◌&&◌, not}
use mathlib.Core.List.Memᴰ
use mathlib.Core.List.{List, ◌∷◌, Memᴰ}
use mathlib.Core.Logic.{⊎_elim}
use native.Mathlib.Omega.{arith}
use lib.Dec.{eqb, leb, ltb}
use lib.ListN.{length}
use borrow.Author.Tests.{eq-eqb, ne_eqb, eqb-true, lt-ltb, ltb-true, le-leb, leb-true, not-true, not-false}
use Rattle.scope.specs.Lists.{at, below, first_bad, passes}
use Rattle.scope.specs.Table.{paired}
use Rattle.scope.proofs.Tests.{either, clash, and_left, and_right, and_both, le_or_lt}
use Rattle.scope.proofs.Scan.{passes_at, passes_all, passes_fails, first_bad_lowest}
use Rattle.scope.proofs.Members.{below_mem, mem_below, below_fresh}
use Rattle.scope.proofs.Pigeonhole.{fresh_within, one_to_one}
use Rattle.edge_table.specs.Straight.{crosses}

paired_from : (rs : List ℕ) (i : ℕ) → at rs i < length rs → (at rs i ≡ i → ⊥) → at rs (at rs i) ≡ i → paired rs i ≡ true
unfolding paired
paired_from rs i inside apart back =
    and_both _ _ (and_both _ _ (lt-ltb (at rs i) (length rs) inside) (ap not (ne_eqb (at rs i) i apart))) (eq-eqb (at rs (at rs i)) i back)

module _ (rs : List ℕ) (half : ℕ) (even : length rs ≡ 2 * half) (cross : passes (crosses half rs) half ≡ true) where
  abbrev rows : ℕ
  rows = length rs

  abbrev any : ℕ → Bool
  any q = true

  module _ (i : ℕ) (h : i < half) where
    both : (leb half (at rs i) && ltb (at rs i) rows) ≡ true
    both = and_left _ (eqb (at rs (at rs i)) i) (passes_at (crosses half rs) half cross i h)

    there : half ≤ at rs i
    there = leb-true half (at rs i) (and_left _ (ltb (at rs i) rows) both)

    inside : at rs i < rows
    inside = ltb-true (at rs i) rows (and_right (leb half (at rs i)) _ both)

    back : at rs (at rs i) ≡ i
    back = eqb-true _ _ (and_right (leb half (at rs i) && ltb (at rs i) rows) _ (passes_at (crosses half rs) half cross i h))

    low : paired rs i ≡ true
    low = paired_from rs i inside (λ e. let t = there in omega arith) back

  module _ (j : ℕ) (up : half ≤ j) (within : j < rows) where
    abbrev unnamed : ℕ → Bool
    unnamed i = not (eqb (at rs i) j)

    abbrev other : ℕ → Bool
    other q = leb half q && not (eqb q j)

    apart : Memᴰ j (below other rows) → ⊥
    apart i = clash (eq-eqb j j refl) (not-true _ (and_right (leb half j) _ (mem_below other rows j i).1))

    also : (q : ℕ) → Memᴰ q (j ∷ below other rows) → Memᴰ q (below (leb half) rows)
    also q i = ⊎_elim
        (λ (e : q ≡ j). Memᴰ.cast e (below_mem (leb half) rows j within (le-leb half j up)))
        (λ k. let l = mem_below other rows q k in below_mem (leb half) rows q l.0 (and_left (leb half q) _ l.1))
        (Memᴰ.cases_cons i)

    -- were j not named, the first half would be named by fewer rows than it has
    is_named : passes unnamed half ≡ true → ⊥
    is_named none =
        let a = one_to_one (at rs) (below any half) (below other rows) (below_fresh any half)
        (λ i m. let l = (mem_below any half i m).0 in below_mem other rows (at rs i) (inside i l) (and_both _ _ (le-leb half (at rs i) (there i l)) (passes_at unnamed half none i l)))
        (λ i k m o e. let x = back i (mem_below any half i m).0 in let y = back k (mem_below any half k o).0 in let z = ap (at rs) e in omega arith) in
        let b = fresh_within (j ∷ below other rows) (below (leb half) rows) (apart, below_fresh other rows) also in
        let d = one_to_one (λ q. q - half) (below (leb half) rows) (below any half) (below_fresh (leb half) rows)
        (λ q m. let l = mem_below (leb half) rows q m in let g = leb-true half q l.1 in let w = l.0 in below_mem any half (q - half) (omega arith) refl)
        (λ q p m o e. let g = leb-true half q (mem_below (leb half) rows q m).1 in let f = leb-true half p (mem_below (leb half) rows p o).1 in omega arith) in
        omega arith

    high : paired rs j ≡ true
    high = ⊎_elim
        (λ (e : passes unnamed half ≡ true). absurd (is_named e))
        (λ (e : passes unnamed half ≡ false).
        let i : ℕ = first_bad unnamed half in
        let l : i < half = passes_fails unnamed half e in
        let names : at rs i ≡ j = eqb-true _ _ (not-false _ ((first_bad_lowest unnamed half).here l)) in
        let b : at rs j ≡ i = sym (ap (at rs) names) ∙ back i l in
        paired_from rs j (omega arith) (λ z. omega arith) (ap (at rs) b ∙ names))
        (either (passes unnamed half))

  pub halves_paired : passes (paired rs) rows ≡ true
  halves_paired = passes_all (paired rs) rows (λ k l. ⊎_elim (λ (u : half ≤ k). high k u l) (λ (d : k < half). low k d) (le_or_lt half k))
