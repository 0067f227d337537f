-- One cell against the held ones is tested as the held list with the cell at its end, so a list that passes is a run of offers that pass.
--     offer_is_list     the same answer, with the same index, where the held cells pass
--     offers_in_turn    each cell of a list that passes, passes against the cells before it, and these pass
-- Assumes nothing.
use Prim.Native.Nat.{ℕ, suc, ◌+◌, ◌<◌, ◌≤◌}
use mathlib.Core.Path.{◌≡◌, refl, sym, ◌∙◌, ap}
use mathlib.Core.Bool.{Bool, true, not}
use mathlib.Core.List.{List, [], ◌∷◌, ◌++◌, append_assoc}
use mathlib.Core.Logic.{⊎_elim}
use native.Mathlib.Nat.{eq-or-lt_of_le}
use native.Mathlib.Omega.{arith}
use lib.Dec.{eqb}
use lib.ListN.{length, get_or-append, length-append}
use lib.Seq.{get_or-append-add}
use borrow.Author.Tests.{ne_eqb}
use Rattle.std.specs.Prelude.{Ok}
use Rattle.scope.specs.declared.Refusal.{Refusal}
use Rattle.scope.specs.declared.Refusal.TheVariants.{InvalidCell, DuplicateInput, UnsupportedResolution}
use Rattle.scope.specs.Lists.{at, first_bad, passes}
use Rattle.scope.specs.Answers.{require, require_none, ◌▷◌, Verdict}
use Rattle.scope.specs.Cells.{valid_cell}
use Rattle.scope.specs.CellLists.{valid_at, differs, first_of_its_kind, resolution_fits, resolution_fits_at, not_under, under_none, list_verdict, not_over, cell_verdict}
use Rattle.scope.proofs.Tests.{same}
use Rattle.scope.proofs.Scan.{first_bad_same, passes_at, passes_all}
use Rattle.scope.proofs.Verdicts.{none_accepts, require_more}
use Rattle.scope.proofs.CellLists.{ListGood, list_good, prefix_accepted, not_under_itself}

module _ (cs : List ℕ) (x : ℕ) where
  abbrev with : List ℕ
  with = cs ++ (x ∷ [])

  one_more : length with ≡ suc (length cs)
  one_more = length-append cs (x ∷ []) ∙ (omega arith)

  at_held : (i : ℕ) → i < length cs → at with i ≡ at cs i
  at_held i h = get_or-append cs (x ∷ []) 0 i h

  at_new : at with (length cs) ≡ x
  at_new = let e : length cs ≡ length cs + 0 = omega arith in rw e (get_or-append-add cs (x ∷ []) 0 0)

  -- a test of the longer list that agrees with one of the held cells below their number, and at it with one of the new cell
  more : (why : ℕ → Refusal) (ok ko : ℕ → Bool) (b : Bool) → ((i : ℕ) → i < length cs → ok i ≡ ko i) → ok (length cs) ≡ b
      → require_none why (length with) (first_bad ok (length with)) ≡ (require_none why (length cs) (first_bad ko (length cs)) ▷ require b (why (length cs)))
  more why ok ko b p q = rw (one_more, require_more why ok (length cs), first_bad_same ok ko (length cs) p, q)

  -- the same where the held cells pass
  last : (why : ℕ → Refusal) (ok : ℕ → Bool) (b : Bool) → ((i : ℕ) → i < length cs → ok i ≡ true) → ok (length cs) ≡ b
      → require_none why (length with) (first_bad ok (length with)) ≡ require b (why (length cs))
  last why ok b p q =
      more why ok ok b (λ i h. refl) q ∙ ap (λ (v : Verdict). v ▷ require b (why (length cs))) (none_accepts why ok (length cs) p)

-- a number up to n is below n or n
up_to : {P : ℕ → Type 0} (n : ℕ) → ((j : ℕ) → j < n → P j) → P n → (j : ℕ) → j < suc n → P j
up_to {P} n f p j h = let m : j ≤ n = omega arith in ⊎_elim (λ e. rw e p) (f j) (eq-or-lt_of_le m)

module _ (mode target room : ℕ) (cs : List ℕ) (x : ℕ) (g : ListGood mode target room cs) where
  abbrev n : ℕ
  n = length cs

  held_first : (i : ℕ) → i < n → first_of_its_kind (with cs x) i ≡ true
  held_first i h = passes_all (differs (with cs x) (at (with cs x) i)) i (λ j l.
      rw (at_held cs x i h, at_held cs x j (omega arith))
      (ap not (ne_eqb (at cs j) (at cs i) (λ e. let z = g.once j i (omega arith) h e in omega arith))))

  new_first : first_of_its_kind (with cs x) n ≡ passes (differs cs x) n
  new_first = ap (λ (r : ℕ). eqb r n) (first_bad_same _ _ n (λ j l. rw (at_new cs x, at_held cs x j l)))

  held_under : (i : ℕ) → i < n → under_none (with cs x) i ≡ not_over cs x i
  held_under i h = same _ _
      (λ e. rw (at_held cs x i h, at_new cs x) at (passes_at (not_under (with cs x) (at (with cs x) i)) (length (with cs x)) e n (let o = one_more cs x in omega arith)))
      (λ e. passes_all (not_under (with cs x) (at (with cs x) i)) (length (with cs x)) (rw (one_more cs x) (up_to n
      (λ j l. rw (at_held cs x i h, at_held cs x j l) (ap not (g.apart i j h l)))
      (rw (at_held cs x i h, at_new cs x) e))))

  new_under : under_none (with cs x) n ≡ passes (not_under cs x) n
  new_under = same _ _
      (λ e. passes_all (not_under cs x) n (λ j l.
      rw (at_new cs x, at_held cs x j l) at (passes_at (not_under (with cs x) (at (with cs x) n)) (length (with cs x)) e j (let o = one_more cs x in omega arith))))
      (λ e. passes_all (not_under (with cs x) (at (with cs x) n)) (length (with cs x)) (rw (one_more cs x) (up_to n
      (λ j l. rw (at_new cs x, at_held cs x j l) (passes_at (not_under cs x) n e j l))
      (rw (at_new cs x) (ap not (not_under_itself x))))))

pub offer_is_list : (mode target room capacity : ℕ) (cs : List ℕ) (x : ℕ) → list_verdict mode target room cs ≡ Ok tt
    → cell_verdict mode target capacity cs x ≡ list_verdict mode target capacity (cs ++ (x ∷ []))
unfolding list_verdict cell_verdict
offer_is_list mode target room capacity cs x e =
    let g = list_good mode target room cs e in
    let n : ℕ = length cs in
    let t₂ = last cs x InvalidCell (valid_at (with cs x)) (valid_cell x) (λ i h. rw (at_held cs x i h) (g.valid i h)) (ap valid_cell (at_new cs x)) in
    let t₃ = last cs x DuplicateInput (first_of_its_kind (with cs x)) (passes (differs cs x) n) (held_first mode target room cs x g) (new_first mode target room cs x g) in
    let t₄ = last cs x UnsupportedResolution (resolution_fits_at mode target (with cs x)) (resolution_fits mode target x) (λ i h. rw (at_held cs x i h) (g.fits i h)) (ap (resolution_fits mode target) (at_new cs x)) in
    let t₅ = more cs x DuplicateInput (under_none (with cs x)) (not_over cs x) (passes (not_under cs x) n) (held_under mode target room cs x g) (new_under mode target room cs x g) in
    sym (rw (t₂, t₃, t₄, t₅, one_more cs x))

-- a cell in a list that passes, with the cells before it
pub offers_in_turn : (mode target capacity : ℕ) (cs : List ℕ) (x : ℕ) (xs : List ℕ) → list_verdict mode target capacity (cs ++ (x ∷ xs)) ≡ Ok tt
    → (list_verdict mode target capacity cs ≡ Ok tt) × (cell_verdict mode target capacity cs x ≡ Ok tt)
offers_in_turn mode target capacity cs x xs e =
    let held = prefix_accepted mode target capacity cs (x ∷ xs) e in
    let with-x = prefix_accepted mode target capacity (cs ++ (x ∷ [])) xs (rw append_assoc e) in
    (held, offer_is_list mode target capacity capacity cs x held ∙ with-x)
