-- The sweep that raises each index of a sorted part to that of a cell over it: from the last place down, with the last cell that lay under
-- none as the top.
--     Raising            the loop's invariant: the places from p on are done
--     raising_start, raising_more, raising_done     its moves; raising-index: the top is an index
-- Assumes nothing.
use Prim.Native.Nat.{ℕ, ◌+◌, ◌<◌, ◌≤◌}
use mathlib.Core.Path.{◌≡◌, refl, sym, ◌∙◌, ap, subst}
use mathlib.Core.Bool.{true, false}
use mathlib.Core.List.{List}
use mathlib.Core.Logic.{◌⊎◌, inl, inr, ⊎_elim}
use native.Mathlib.Omega.{arith}
use lib.Dec.{eqb}
use lib.ListN.{length, set, length-set}
use lib.Seq.{get_or-set_same, get_or-set_other}
use borrow.Author.Tests.{lt-ltb, le-ltb, eqb-true, eqb-false}
use Rattle.scope.specs.Lists.{at}
use Rattle.scope.specs.Cells.{valid_cell, under}
use Rattle.scope.proofs.Tests.{either, clash, le_or_lt}
use Rattle.scope.proofs.Members.{cases}
use Rattle.cell_lookup.specs.Order.{key_of, place}
use Rattle.cell_lookup.specs.Lookup.{Ordered, Raised, top_over}
use Rattle.cell_lookup.proofs.Places.{place_is}
use Rattle.cell_lookup.proofs.Blocks.{under_below, between, under_trans}
use Rattle.cell_lookup.proofs.Lookups.{ordered_ascending}

-- cell j is that of t, or lies under it
abbrev Over : List ℕ → ℕ → ℕ → Type 0
Over part j t = (at part j ≡ at part t) ⊎ (under (at part j) (at part t) ≡ true)

pub record Raising (part a₀ a : List ℕ) (p top : ℕ) : Type 0 where
  pub left : p ≤ length part
  pub size : length a ≡ length a₀
  pub kept : (q : ℕ) → q < p → at a q ≡ at a₀ q
  pub no_top : length part ≤ p → length part ≤ top
  pub is_top : p < length part → top ≡ at a p
  pub below : (q : ℕ) → p ≤ q → q < length part → at a q < length part
  pub order : (q r : ℕ) → p ≤ q → q ≤ r → r < length part → key_of (at part (at a q)) ≤ key_of (at part (at a r))
  pub highest : (q j : ℕ) → p ≤ q → q < length part → j < length part → under (at part (at a q)) (at part j) ≡ false
  pub over : (q : ℕ) → p ≤ q → q < length part → Over part (at a₀ q) (at a q)

pub raising_start : {part a : List ℕ} → Raising part a a (length part) (length part)
raising_start = record {
  left = omega arith;
  size = refl;
  kept = λ q h. refl;
  no_top = λ h. h;
  is_top = λ h. absurd (omega arith);
  below = λ q h l. absurd (omega arith);
  order = λ q r h g l. absurd (omega arith);
  highest = λ q j h l. absurd (omega arith);
  over = λ q h l. absurd (omega arith);
}

-- what the top at a place must have
record Tops (part a₀ a : List ℕ) (p t : ℕ) : Type 0 where
  pub index : t < length part
  pub none_over : (j : ℕ) → j < length part → under (at part t) (at part j) ≡ false
  pub covers : Over part (at a₀ p) t
  pub key_le : p + 1 < length part → key_of (at part t) ≤ key_of (at part (at a (p + 1)))

module _ {part a₀ a : List ℕ} (p g : ℕ) {top : ℕ} (O : Ordered part a₀) (R₀ : Raising part a₀ a g top) (e₀ : g ≡ p + 1) where
  abbrev n : ℕ
  n = length part

  R : Raising part a₀ a (p + 1) top
  R = subst (λ (m : ℕ). Raising part a₀ a m top) e₀ R₀

  here : p < n
  here = omega (arith, R.left)

  cell_valid : (q : ℕ) → q < n → valid_cell (at part (at a₀ q)) ≡ true
  cell_valid q h = O.valid (at a₀ q) (O.sorted.perm.below q h)

  -- the next place's key is no lower
  next_key : p + 1 < n → key_of (at part (at a₀ p)) ≤ key_of (at part (at a (p + 1)))
  next_key h =
      let k = (ordered_ascending O).order p (p + 1) (omega arith) h in
      let b : key_of (at part (at a₀ (p + 1))) ≤ key_of (at part (at a (p + 1))) = ⊎_elim
      (λ z. let y = ap key_of z in omega arith)
      (λ z. let y = under_below _ _ (cell_valid (p + 1) h) (O.valid _ (R.below (p + 1) (omega arith) h)) z in omega arith)
      (R.over (p + 1) (omega arith) h) in
      omega arith

  -- a cell under another of the part lies under the top
  covered : (j : ℕ) → j < n → under (at part (at a₀ p)) (at part j) ≡ true → (top < n) × (under (at part (at a₀ p)) (at part top) ≡ true)
  covered j l u =
      let r : ℕ = place n a₀ j in
      let rn : r < n = O.sorted.perm.each j l in
      let rj : at a₀ r ≡ j = place_is O.sorted.perm j l in
      let lower = under_below _ _ (cell_valid p here) (O.valid j l) u in
      let pr : p < r = ⊎_elim
      (λ (h : r ≤ p).
      let k : key_of (at part (at a₀ r)) ≤ key_of (at part (at a₀ p)) = (ordered_ascending O).order r p h here in
      let s : key_of (at part (at a₀ r)) ≡ key_of (at part j) = ap (λ (i : ℕ). key_of (at part i)) rj in
      absurd (omega arith))
      (λ (h : p < r). h)
      (le_or_lt r p) in
      let pn : p + 1 < n = omega arith in
      let is : top ≡ at a (p + 1) = R.is_top pn in
      let tn : top < n = rw is (R.below (p + 1) (omega arith) pn) in
      let rb : at a r < n = R.below r (omega arith) rn in
      let v : under (at part (at a₀ p)) (at part (at a r)) ≡ true = ⊎_elim
      (λ z. rw (← z, rj) u)
      (λ z. under_trans _ _ _ u (subst (λ (i : ℕ). under (at part i) (at part (at a r)) ≡ true) rj z))
      (R.over r (omega arith) rn) in (
        tn,
        ⊎_elim
            (λ t. rw (eqb-true (at part top) (at part (at a r)) t) v)
            (λ t. absurd (clash
            (between (at part (at a₀ p)) (at part top) (at part (at a r)) (O.valid top tn) (O.valid (at a r) rb) v
            (rw is (next_key pn)) (rw is (R.order (p + 1) r (omega arith) (omega arith) rn)) (eqb-false (at part top) (at part (at a r)) t))
            (rw is (R.highest (p + 1) (at a r) (omega arith) pn rb))))
            (either (eqb (at part top) (at part (at a r)))),
      )

  -- the top there is
  tops : {t : ℕ} → t ≡ top_over part (at a₀ p) top → Tops part a₀ a p t
  unfolding top_over
  tops {t} e = ⊎_elim
      (λ (h : n ≤ top). own (e ∙ rw (le-ltb top n h)) (λ j l u. let w = covered j l u in omega (arith, w.0)))
      (λ (h : top < n). ⊎_elim
      (λ (u : under (at part (at a₀ p)) (at part top) ≡ true).
      let pn : p + 1 < n = ⊎_elim (λ (m : n ≤ p + 1). absurd (let z = R.no_top m in omega arith)) (λ (m : p + 1 < n). m) (le_or_lt n (p + 1)) in
      let is : t ≡ top = e ∙ rw (lt-ltb top n h, u) in
      let ia : t ≡ at a (p + 1) = is ∙ R.is_top pn in
      record {
        index = omega arith;
        none_over = λ j l. rw ia (R.highest (p + 1) j (omega arith) pn l);
        covers = inr (rw is u);
        key_le = λ _. rw ia (omega arith);
      })
      (λ (u : under (at part (at a₀ p)) (at part top) ≡ false). own (e ∙ rw (lt-ltb top n h, u)) (λ j l v. clash (covered j l v).1 u))
      (either (under (at part (at a₀ p)) (at part top))))
      (le_or_lt n top)
    where
      own : t ≡ at a₀ p → ((j : ℕ) → j < n → under (at part (at a₀ p)) (at part j) ≡ true → ⊥) → Tops part a₀ a p t
      own is f = record {
        index = rw is (O.sorted.perm.below p here);
        none_over = λ j l. rw is (⊎_elim (λ u. absurd (f j l u)) (λ u. u) (either (under (at part (at a₀ p)) (at part j))));
        covers = inl (ap (at part) (sym is));
        key_le = λ h. rw is (next_key h);
      }

  pub raising_index : {t : ℕ} → t ≡ top_over part (at a p) top → t < n
  raising_index e = (tops (e ∙ ap (λ (j : ℕ). top_over part j top) (R.kept p (omega arith)))).index

  pub raising_more : {t : ℕ} {b : List ℕ} → t ≡ top_over part (at a p) top → b ≡ set a p t → Raising part a₀ b p t
  raising_more {t} {b} e s =
      let T = tops (e ∙ ap (λ (j : ℕ). top_over part j top) (R.kept p (omega arith))) in
      let room : p < length a = let z = O.sorted.perm.room in omega (arith, R.size) in
      let same : at b p ≡ t = rw s (get_or-set_same a p t 0 room) in
      let else : (q : ℕ) → (q ≡ p → ⊥) → at b q ≡ at a q = λ q d. rw s (get_or-set_other a p q t 0 d) in
      record {
        left = omega arith;
        size = rw (s, length-set) R.size;
        kept = λ q h. else q (λ z. omega arith) ∙ R.kept q (omega arith);
        no_top = λ h. absurd (omega arith);
        is_top = λ _. sym same;
        below = λ q h l. cases q p (λ z. rw (z, same) T.index) (λ d. rw (else q d) (R.below q (omega arith) l));
        order = λ q r h m l. cases q p
            (λ z. cases r p
            (λ y. rw (z, y) (omega arith))
            (λ d. rw (z, same, else r d)
            (let k = T.key_le (omega arith) in let o = R.order (p + 1) r (omega arith) (omega arith) l in omega arith)))
            (λ d. rw (else q d, else r (λ y. omega arith)) (R.order q r (omega arith) m l));
        highest = λ q j h l i. cases q p (λ z. rw (z, same) (T.none_over j i)) (λ d. rw (else q d) (R.highest q j (omega arith) l i));
        over = λ q h l. cases q p (λ z. rw (z, same) T.covers) (λ d. rw (else q d) (R.over q (omega arith) l));
      }

pub raising_done : {part a₀ a : List ℕ} {p top : ℕ} → Ordered part a₀ → Raising part a₀ a p top → p ≤ 0 → Raised part a
raising_done {part} {a₀} {a} O R h =
    record {
      valid = O.valid;
      ascending = record {
        room = let z = O.sorted.perm.room in omega (arith, R.size);
        below = λ q l. R.below q (omega arith) l;
        order = λ q r g l. R.order q r (omega arith) g l;
      };
      top = λ q j l i. R.highest q j (omega arith) l i;
      over = place (length part) a₀;
      over_in = O.sorted.perm.each;
      over_is = λ j l. subst (λ (i : ℕ). Over part i (at a (place (length part) a₀ j))) (place_is O.sorted.perm j l)
          (R.over (place (length part) a₀ j) (omega arith) (O.sorted.perm.each j l));
    }
