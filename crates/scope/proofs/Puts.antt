-- Values stored at given places, one after the other; a list whose first member goes to its end; the first members of a list.
--     put_all_length, put_all_at, put_all_other     what `put_all` leaves at the places named, each once, and at every other
--     rotate_at, rotate_fresh, mem_rotate        `rotate` holds at each place the member after it, cyclically
--     take_fresh, mem_take                       the first members of a list
-- Assumes nothing.
use mathlib.Core.Path.{◌≡◌, refl, ◌∙◌, ap}
use mathlib.Core.Logic.{◌⊎◌, inl, inr}
use mathlib.Core.List.Memᴰ
use mathlib.Core.List.{List, [], ◌∷◌, Memᴰ}
use Prim.Native.Nat.{ℕ, zero, suc, ◌<◌}
use native.Mathlib.Omega.{arith}
use lib.ListN.{length, set, take, length-set, length-append, get_or-append}
use lib.Seq.{get_or-set_same, get_or-set_other, get_or-append_seam}
use Rattle.scope.specs.Lists.{at, rotate, put_all}
use Rattle.scope.proofs.Members.{cases, Fresh, fresh_last}
use Rattle.scope.proofs.Outlines.{onward, onward_mid, onward_end}

-- ---- stores

pub put_all_length : (ks vs l : List ℕ) → length (put_all ks vs l) ≡ length l
unfolding put_all
put_all_length [] vs l = refl
put_all_length (k ∷ ks) [] l = refl
put_all_length (k ∷ ks) (v ∷ vs) l = put_all_length ks vs (set l k v) ∙ length-set l k v

pub put_all_other : (ks vs l : List ℕ) (j : ℕ) → (Memᴰ j ks → ⊥) → at (put_all ks vs l) j ≡ at l j
unfolding put_all
put_all_other [] vs l j n = refl
put_all_other (k ∷ ks) [] l j n = refl
put_all_other (k ∷ ks) (v ∷ vs) l j n =
    put_all_other ks vs (set l k v) j (λ m. n (Memᴰ.tail m)) ∙ get_or-set_other l k j v 0 (λ e. n (Memᴰ.head e))

pub put_all_at : (ks vs l : List ℕ) (i : ℕ) → Fresh ks → length vs ≡ length ks → i < length ks → at ks i < length l
    → at (put_all ks vs l) (at ks i) ≡ at vs i
unfolding put_all
put_all_at [] vs l i f e h b = absurd (omega arith)
put_all_at (k ∷ ks) [] l i f e h b = absurd (omega arith)
put_all_at (k ∷ ks) (v ∷ vs) l zero f e h b = put_all_other ks vs (set l k v) k f.0 ∙ get_or-set_same l k v 0 b
put_all_at (k ∷ ks) (v ∷ vs) l (suc i) f e h b = put_all_at ks vs (set l k v) i f.1 (omega arith) (omega arith) (rw (length-set l k v) b)

-- ---- the first member at the end

pub rotate_length : (l : List ℕ) → length (rotate l) ≡ length l
rotate_length [] = refl
rotate_length (x ∷ l) = length-append l (x ∷ []) ∙ omega arith

pub rotate_at : (l : List ℕ) (i : ℕ) → i < length l → at (rotate l) i ≡ at l (onward (length l) i)
rotate_at [] i h = absurd (omega arith)
rotate_at (x ∷ l) i h = cases i (length l)
    (λ e. rw (onward_end (length (x ∷ l)) i (ap suc e), e) (get_or-append_seam l x [] 0))
    (λ d. rw (onward_mid (length (x ∷ l)) i (omega arith)) (get_or-append l (x ∷ []) 0 i (omega arith)))

pub rotate_fresh : (l : List ℕ) → Fresh l → Fresh (rotate l)
rotate_fresh [] f = tt
rotate_fresh (x ∷ l) f = fresh_last l x f.1 f.0

pub mem_rotate : (l : List ℕ) (a : ℕ) → Memᴰ a (rotate l) → Memᴰ a l
mem_rotate [] a m = m
mem_rotate (x ∷ l) a m = go (Memᴰ.append_cases l m)
  where
    go : Memᴰ a l ⊎ Memᴰ a (x ∷ []) → Memᴰ a (x ∷ l)
    go (inl i) = Memᴰ.tail i
    go (inr i) = Memᴰ.head (Memᴰ.eq_of_singleton i)

-- ---- the first members

pub mem_take : (n : ℕ) (l : List ℕ) (a : ℕ) → Memᴰ a (take n l) → Memᴰ a l
mem_take zero l a m = absurd (Memᴰ.not-nil m)
mem_take (suc n) [] a m = m
mem_take (suc n) (x ∷ l) a m = go (λ i. mem_take n l a i) (Memᴰ.cases_cons m)
  where
    go : (Memᴰ a (take n l) → Memᴰ a l) → (a ≡ x) ⊎ Memᴰ a (take n l) → Memᴰ a (x ∷ l)
    go ih (inl e) = Memᴰ.head e
    go ih (inr i) = Memᴰ.tail (ih i)

pub take_fresh : (n : ℕ) (l : List ℕ) → Fresh l → Fresh (take n l)
take_fresh zero l f = tt
take_fresh (suc n) [] f = tt
take_fresh (suc n) (x ∷ l) f = (λ m. f.0 (mem_take n l x m), take_fresh n l f.1)
