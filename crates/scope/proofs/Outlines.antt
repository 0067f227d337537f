-- The next row in an outline and in the outlines of all accepted cells.
--     next_in_at             `next_in` goes from each place to the one after it, cyclically (`onward`)
--     next_in_in, -injects   it permutes the outline
--     Apart os              no outline has a row twice, and no two share a row
--     turns                 then `next_of` permutes the given rows
--     outlines_join         ONE MORE CELL: what the laws of Offer ask for
-- Assumes nothing.
use mathlib.Core.Path.{◌≡◌, refl, sym, ◌∙◌, ap}
use mathlib.Core.Logic.{◌⊎◌, inl, inr}
use mathlib.Core.Bool.{cond}
use mathlib.Core.List.Memᴰ
use mathlib.Core.List.{List, [], ◌∷◌, Memᴰ}
use Prim.Native.Nat.{ℕ, zero, suc, ◌<◌}
use native.Mathlib.Omega.{arith}
use borrow.Author.Tests.{eq-eqb, ne_eqb}
use lib.Dec.{eqb}
use lib.ListN.{length}
use Rattle.scope.specs.Lists.{at}
use Rattle.scope.specs.Standing.{Given, next_after, next_in, next_of}
use Rattle.scope.proofs.Members.{cases, Fresh, mem_dec, mem_at, place, fresh_at, member_true, member_false}
use Rattle.scope.proofs.Successor.{Turns}
use Rattle.scope.proofs.Offer.{Joined}

-- ---- the next in an outline

next_after_mid : (h c : ℕ) (t : List ℕ) (i : ℕ) → Fresh (c ∷ t) → suc i < length (c ∷ t) → next_after h c t (at (c ∷ t) i) ≡ at (c ∷ t) (suc i)
unfolding next_after
next_after_mid h c [] i f l = absurd (omega arith)
next_after_mid h c (d ∷ t) zero f l = rw (eq-eqb c c refl, next_after)
next_after_mid h c (d ∷ t) (suc i) f l = rw (ne_eqb (at (d ∷ t) i) c (λ e. f.0 (Memᴰ.cast (sym e) (mem_at (d ∷ t) i (omega arith)))), next_after) (next_after_mid h d t i f.1 (omega arith))

next_after_end : (h c : ℕ) (t : List ℕ) (i : ℕ) → Fresh (c ∷ t) → suc i ≡ length (c ∷ t) → next_after h c t (at (c ∷ t) i) ≡ h
unfolding next_after
next_after_end h c [] i f l = refl
next_after_end h c (d ∷ t) zero f l = absurd (omega arith)
next_after_end h c (d ∷ t) (suc i) f l = rw (ne_eqb (at (d ∷ t) i) c (λ e. f.0 (Memᴰ.cast (sym e) (mem_at (d ∷ t) i (omega arith)))), next_after) (next_after_end h d t i f.1 (omega arith))

-- the place after i in a list of n
unfoldable pub onward : ℕ → ℕ → ℕ
onward n i = cond (eqb (suc i) n) 0 (suc i)

pub onward_mid : (n i : ℕ) → suc i < n → onward n i ≡ suc i
unfolding onward
onward_mid n i h = rw (ne_eqb (suc i) n (omega arith))

pub onward_end : (n i : ℕ) → suc i ≡ n → onward n i ≡ 0
unfolding onward
onward_end n i h = rw (eq-eqb (suc i) n h)

pub next_in_at : (o : List ℕ) (i : ℕ) → Fresh o → i < length o → next_in o (at o i) ≡ at o (onward (length o) i)
unfolding next_in
next_in_at [] i f h = absurd (omega arith)
next_in_at (c ∷ t) i f h = cases (suc i) (length (c ∷ t))
    (λ e. rw (onward_end (length (c ∷ t)) i e) (next_after_end c c t i f e))
    (λ m. rw (onward_mid (length (c ∷ t)) i (omega arith)) (next_after_mid c c t i f (omega arith)))

pub onward_lt : (n i : ℕ) → i < n → onward n i < n
onward_lt n i h = cases (suc i) n (λ e. rw (onward_end n i e) (omega arith)) (λ m. rw (onward_mid n i (omega arith)) (omega arith))

pub onward_inj : (n i j : ℕ) → i < n → j < n → onward n i ≡ onward n j → i ≡ j
onward_inj n i j h k e = cases (suc i) n
    (λ p. cases (suc j) n (λ q. omega arith) (λ q. absurd (zero_suc (sym (onward_end n i p) ∙ e ∙ onward_mid n j (omega arith)))))
    (λ p. cases (suc j) n (λ q. absurd (zero_suc (sym (onward_end n j q) ∙ sym e ∙ onward_mid n i (omega arith)))) (λ q. both (sym (onward_mid n i (omega arith)) ∙ e ∙ onward_mid n j (omega arith))))
  where
    zero_suc : {m : ℕ} → 0 ≡ suc m → ⊥
    zero_suc e = omega arith

    both : suc i ≡ suc j → i ≡ j
    both e = omega arith

-- every place is the next of one
pub onward_onto : (n j : ℕ) → j < n → (i : ℕ) × (i < n) × (onward n i ≡ j)
onward_onto zero j h = absurd (omega arith)
onward_onto (suc n) zero h = (n, omega arith, onward_end (suc n) n refl)
onward_onto (suc n) (suc j) h = (j, omega arith, onward_mid (suc n) j h)

pub next_in_in : (o : List ℕ) (a : ℕ) → Fresh o → Memᴰ a o → Memᴰ (next_in o a) o
next_in_in o a f m = go (place m)
  where
    go : (i : ℕ) × (i < length o) × (at o i ≡ a) → Memᴰ (next_in o a) o
    go (i, h, e) = Memᴰ.cast (ap (next_in o) (sym e) ∙ next_in_at o i f h) (mem_at o (onward (length o) i) (onward_lt (length o) i h))

pub next_in_injects : (o : List ℕ) (a b : ℕ) → Fresh o → Memᴰ a o → Memᴰ b o → next_in o a ≡ next_in o b → a ≡ b
next_in_injects o a b f m k q = go (place m) (place k)
  where
    go : (i : ℕ) × (i < length o) × (at o i ≡ a) → (i : ℕ) × (i < length o) × (at o i ≡ b) → a ≡ b
    go (i, h, e) (j, l, d) = sym e ∙ ap (at o) (onward_inj (length o) i j h l
        (fresh_at o f (onward (length o) i) (onward (length o) j) (onward_lt (length o) i h) (onward_lt (length o) j l)
        (sym (ap (next_in o) (sym e) ∙ next_in_at o i f h) ∙ q ∙ ap (next_in o) (sym d) ∙ next_in_at o j f l))) ∙ d

-- ---- all outlines

abbrev pub Apart : List (List ℕ) → Type 0
Apart [] = Unit {0}
Apart (o ∷ os) = Fresh o × ((a : ℕ) → Memᴰ a o → Given os a → ⊥) × Apart os

pub next_of_new : (o : List ℕ) (os : List (List ℕ)) (a : ℕ) → Memᴰ a o → next_of (o ∷ os) a ≡ next_in o a
unfolding next_of
next_of_new o os a m = rw (member_true m, next_of)

pub next_of_old : (o : List ℕ) (os : List (List ℕ)) (a : ℕ) → (Memᴰ a o → ⊥) → next_of (o ∷ os) a ≡ next_of os a
unfolding next_of
next_of_old o os a n = rw (member_false a o n, next_of)

-- ONE MORE CELL
pub outlines_join : (o : List ℕ) (os : List (List ℕ)) → Apart (o ∷ os) → Joined (Given os) (λ a. Memᴰ a o) (Given (o ∷ os)) (next_of os) (next_in o) (next_of (o ∷ os))
outlines_join o os A = record {
  old = λ a g. inr g;
  new = λ a m. inl m;
  either = λ a g. swap a g;
  apart = λ a g m. A.1 a m g;
  on_old = λ a g. next_of_old o os a (λ m. A.1 a m g);
  on_new = λ a m. next_of_new o os a m;
}
  where
    swap : (a : ℕ) → Memᴰ a o ⊎ Given os a → Given os a ⊎ Memᴰ a o
    swap a (inl m) = inr m
    swap a (inr g) = inl g

given_dec : (os : List (List ℕ)) (a : ℕ) → Dec (Given os a)
given_dec [] a = no (λ x. x)
given_dec (o ∷ os) a = go (mem_dec a o) (given_dec os a)
  where
    go : Dec (Memᴰ a o) → Dec (Given os a) → Dec (Memᴰ a o ⊎ Given os a)
    go (yes m) d = yes (inl m)
    go (no m) (yes g) = yes (inr g)
    go (no m) (no g) = no (λ h. out h)
      where
        out : Memᴰ a o ⊎ Given os a → ⊥
        out (inl k) = m k
        out (inr k) = g k

next_of_in : (os : List (List ℕ)) → Apart os → (a : ℕ) → Given os a → Given os (next_of os a)
next_of_in [] A a g = absurd g
next_of_in (o ∷ os) A a (inl m) = inl (Memᴰ.cast (next_of_new o os a m) (next_in_in o a A.0 m))
next_of_in (o ∷ os) A a (inr g) = inr (rw (next_of_old o os a (λ m. A.1 a m g)) (next_of_in os A.2 a g))

next_of_injects : (os : List (List ℕ)) → Apart os → (a b : ℕ) → Given os a → Given os b → next_of os a ≡ next_of os b → a ≡ b
next_of_injects [] A a b g h e = absurd g
next_of_injects (o ∷ os) A a b (inl m) (inl k) e = next_in_injects o a b A.0 m k (sym (next_of_new o os a m) ∙ e ∙ next_of_new o os b k)
next_of_injects (o ∷ os) A a b (inl m) (inr h) e = absurd (A.1 (next_of os b)
    (Memᴰ.cast (sym (next_of_old o os b (λ k. A.1 b k h)) ∙ sym e ∙ next_of_new o os a m) (next_in_in o a A.0 m)) (next_of_in os A.2 b h))
next_of_injects (o ∷ os) A a b (inr g) (inl k) e = absurd (A.1 (next_of os a)
    (Memᴰ.cast (sym (next_of_old o os a (λ m. A.1 a m g)) ∙ e ∙ next_of_new o os b k) (next_in_in o b A.0 k)) (next_of_in os A.2 a g))
next_of_injects (o ∷ os) A a b (inr g) (inr h) e = next_of_injects os A.2 a b g h (sym (next_of_old o os a (λ m. A.1 a m g)) ∙ e ∙ next_of_old o os b (λ k. A.1 b k h))

pub turns : {Row : ℕ → Type 0} (os : List (List ℕ)) → Apart os → ((a : ℕ) → Given os a → Row a) → Turns Row (Given os) (next_of os)
turns os A row = record { given_row = row; given_dec = given_dec os; next_in = next_of_in os A; next_injects = next_of_injects os A }
