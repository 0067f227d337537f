-- What the laws of standing rows ask of a table and a list of accepted cells, in a form that knows no order of the cells.
--     Proper t cs                    reverses pair up, the cells are different, each outline's rows are in the table, none twice, none in two outlines
--     table_reverses                 a table that breaks no rule pairs its rows up
--     given_of, given_by             a row is given when it is in the outline of some cell
--     proper_apart, proper_turns     then the outlines are apart, and `next_of` permutes the given rows
--     SameMembers cs ds              the same cells, in whatever order; `proper_same`
--     proper_less, proper_front      a proper list without its first cell is proper, and so is one whose last cell comes first
-- Assumes nothing.
use mathlib.Core.Path.{◌≡◌, refl, sym, ◌∙◌, ap, subst}
use mathlib.Core.Logic.{◌⊎◌, inl, inr}
use mathlib.Core.Bool.{Bool, true, ◌&&◌, not}
use mathlib.Core.List.Memᴰ
use mathlib.Core.List.{List, [], ◌∷◌, ◌++◌, Memᴰ}
use Prim.Native.Nat.{ℕ, ◌<◌}
use borrow.Author.Tests.{ltb-true, eqb-true, eqb-false, not-true}
use lib.Dec.{eqb, ltb}
use lib.Ieee.{nan}
use lib.ListN.{length, get_or}
use Rattle.scope.specs.Lists.{at, passes}
use Rattle.scope.specs.Cells.{valid_edge}
use Rattle.scope.specs.Table.{Table, row_count, reverse_of, outline_rows, ascends, paired, is_finite, row_good}
use Rattle.scope.specs.Standing.{outlines, GivenBy, next_of, next_in}
use Rattle.scope.proofs.Tests.{and_left, and_right}
use Rattle.scope.proofs.Scan.{passes_at}
use Rattle.scope.proofs.Members.{Fresh, fresh_front}
use Rattle.scope.proofs.Successor.{Reverses, Turns}
use Rattle.scope.proofs.Outlines.{Apart, turns, next_of_new, next_of_old}

pub record Proper (t : Table) (cs : List ℕ) : Type 0 where
  pub reverses : Reverses (λ a. a < row_count t) (reverse_of t)
  pub distinct : Fresh cs
  pub in_table : (x a : ℕ) → Memᴰ x cs → Memᴰ a (outline_rows t x) → a < row_count t
  pub once : (x : ℕ) → Memᴰ x cs → Fresh (outline_rows t x)
  pub apart : (x y a : ℕ) → Memᴰ x cs → Memᴰ y cs → Memᴰ a (outline_rows t x) → Memᴰ a (outline_rows t y) → x ≡ y

-- ---- the table

module _ (t : Table) (len : length t.reverse ≡ row_count t) (good : passes (row_good t) (row_count t) ≡ true) where
  row_paired : (a : ℕ) → a < row_count t → paired t.reverse a ≡ true
  unfolding row_good
  row_paired a h =
      let valid = valid_edge (at t.edges a) && ascends t.edges a in
      let finite = is_finite (get_or t.area a nan) in
      and_right valid (paired t.reverse a) (and_left (valid && paired t.reverse a) finite (passes_at (row_good t) (row_count t) good a h))

  three : (b c d : Bool) → (b && c && d) ≡ true → (b ≡ true) × (c ≡ true) × (d ≡ true)
  three b c d e = (and_left b c (and_left (b && c) d e), and_right b c (and_left (b && c) d e), and_right (b && c) d e)

  paired_parts : (a : ℕ) → a < row_count t
      → (ltb (at t.reverse a) (length t.reverse) ≡ true) × (not (eqb (at t.reverse a) a) ≡ true) × (eqb (at t.reverse (at t.reverse a)) a ≡ true)
  unfolding paired
  paired_parts a h = three _ _ _ (row_paired a h)

  pub table_reverses : Reverses (λ a. a < row_count t) (reverse_of t)
  table_reverses = record {
    rev_in = λ a h. rw len at (ltb-true (reverse_of t a) (length t.reverse) (paired_parts a h).0);
    rev_rev = λ a h. eqb-true (reverse_of t (reverse_of t a)) a (paired_parts a h).2;
    rev_ne = λ a h. eqb-false (reverse_of t a) a (not-true (eqb (reverse_of t a) a) (paired_parts a h).1);
  }

-- ---- given by cells

pub given_of : (t : Table) {x : ℕ} {cs : List ℕ} (a : ℕ) → Memᴰ x cs → Memᴰ a (outline_rows t x) → GivenBy t cs a
given_of t a (Memᴰ.head e) m = inl (subst (λ (w : ℕ). Memᴰ a (outline_rows t w)) e m)
given_of t a (Memᴰ.tail i) m = inr (given_of t a i m)

pub given_by : (t : Table) (cs : List ℕ) (a : ℕ) → GivenBy t cs a → (x : ℕ) × Memᴰ x cs × Memᴰ a (outline_rows t x)
given_by t [] a g = absurd g
given_by t (x ∷ cs) a (inl m) = (x, Memᴰ.head refl, m)
given_by t (x ∷ cs) a (inr g) = let r = given_by t cs a g in (r.0, Memᴰ.tail r.1, r.2)

-- the next of a row is that in its own outline
pub next_of_lem : (t : Table) {x : ℕ} {cs : List ℕ} (a : ℕ) → Apart (outlines t cs) → Memᴰ x cs → Memᴰ a (outline_rows t x)
    → next_of (outlines t cs) a ≡ next_in (outline_rows t x) a
next_of_lem t {x = x} a A (Memᴰ.head {x = y} {xs = cs} e) m =
    next_of_new (outline_rows t y) (outlines t cs) a (subst (λ (w : ℕ). Memᴰ a (outline_rows t w)) e m) ∙ ap (λ (w : ℕ). next_in (outline_rows t w) a) (sym e)
next_of_lem t a A (Memᴰ.tail {x = y} {xs = cs} i) m =
    next_of_old (outline_rows t y) (outlines t cs) a (λ k. A.1 a k (given_of t a i m)) ∙ next_of_lem t a A.2 i m

-- ---- proper lists

pub proper_less : {t : Table} {x : ℕ} {cs : List ℕ} → Proper t (x ∷ cs) → Proper t cs
proper_less P = record {
  reverses = P.reverses;
  distinct = P.distinct.1;
  in_table = λ x a i. P.in_table x a (Memᴰ.tail i);
  once = λ x i. P.once x (Memᴰ.tail i);
  apart = λ x y a i j. P.apart x y a (Memᴰ.tail i) (Memᴰ.tail j);
}

pub proper_apart : (t : Table) (cs : List ℕ) → Proper t cs → Apart (outlines t cs)
proper_apart t [] P = tt
proper_apart t (x ∷ cs) P = (P.once x (Memᴰ.head refl), λ a m g. cross a m (given_by t cs a g), proper_apart t cs (proper_less P))
  where
    cross : (a : ℕ) → Memᴰ a (outline_rows t x) → (y : ℕ) × Memᴰ y cs × Memᴰ a (outline_rows t y) → ⊥
    cross a m (y, j, k) = P.distinct.0 (Memᴰ.cast (P.apart x y a (Memᴰ.head refl) (Memᴰ.tail j) m k) j)

pub proper_given : {t : Table} {cs : List ℕ} → Proper t cs → (a : ℕ) → GivenBy t cs a → a < row_count t
proper_given {t} {cs} P a g = let r = given_by t cs a g in P.in_table r.0 a r.1 r.2

pub proper_turns : {t : Table} {cs : List ℕ} → Proper t cs → Turns (λ a. a < row_count t) (GivenBy t cs) (next_of (outlines t cs))
proper_turns {t} {cs} P = turns (outlines t cs) (proper_apart t cs P) (proper_given P)

-- the same cells, in whatever order
abbrev pub SameMembers : List ℕ → List ℕ → Type 0
SameMembers cs ds = ((x : ℕ) → Memᴰ x cs → Memᴰ x ds) × ((x : ℕ) → Memᴰ x ds → Memᴰ x cs)

pub proper_same : {t : Table} {cs ds : List ℕ} → SameMembers cs ds → Fresh ds → Proper t cs → Proper t ds
proper_same E f P = record {
  reverses = P.reverses;
  distinct = f;
  in_table = λ x a i. P.in_table x a (E.1 x i);
  once = λ x i. P.once x (E.1 x i);
  apart = λ x y a i j. P.apart x y a (E.1 x i) (E.1 y j);
}

-- one more cell, at the end or in front
pub last_first : (cs : List ℕ) (x : ℕ) → SameMembers (cs ++ (x ∷ [])) (x ∷ cs)
last_first cs x = (λ y m. go y (Memᴰ.append_cases cs m), λ y m. back y (Memᴰ.cases_cons m))
  where
    go : (y : ℕ) → Memᴰ y cs ⊎ Memᴰ y (x ∷ []) → Memᴰ y (x ∷ cs)
    go y (inl m) = Memᴰ.tail m
    go y (inr m) = Memᴰ.head (Memᴰ.eq_of_singleton m)

    back : (y : ℕ) → (y ≡ x) ⊎ Memᴰ y cs → Memᴰ y (cs ++ (x ∷ []))
    back y (inl e) = Memᴰ.append_right cs (Memᴰ.head e)
    back y (inr m) = Memᴰ.append_left (x ∷ []) m

pub proper_front : {t : Table} (cs : List ℕ) (x : ℕ) → Proper t (cs ++ (x ∷ [])) → Proper t (x ∷ cs)
proper_front cs x P = proper_same (last_first cs x) (fresh_front cs x P.distinct) P
