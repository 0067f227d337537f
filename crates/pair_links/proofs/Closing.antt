-- Every link in range: what the code's link functions ask of the two slices, and that each of them keeps it.
--     links_in                        the links of a slot in range are in range, in either list
--     closed_drop, closed_swap        taking a slot out and exchanging two nexts keep that
--     swapped_closed, dropped_closed, pair_all     the three steps of `merge_arcs`: what the next step asks, and what all of them leave
-- Assumes nothing.
use mathlib.Core.Path.{◌≡◌, refl, sym, ◌∙◌, subst}
use mathlib.Core.List.{List}
use Prim.Native.Nat.{ℕ, ◌<◌}
use native.Mathlib.Omega.{arith}
use lib.ListN.{length, set, length-set}
use lib.Seq.{get_or-set_same, get_or-set_other}
use Rattle.scope.specs.Lists.{at}
use Rattle.scope.proofs.Members.{cases}
use Rattle.pair_links.specs.Links.{swap_next, swap_prev, drop_next, drop_prev, pair_next, pair_prev, clear_two, Closed}

-- a store of a number below n keeps every element below n
below_set : (l : List ℕ) (n i v : ℕ) → v < n → ((k : ℕ) → k < length l → at l k < n) → (k : ℕ) → k < length (set l i v) → at (set l i v) k < n
below_set l n i v h all k b =
    let b' : k < length l = rw length-set at b in
    cases k i (λ e. rw (e, get_or-set_same l i v 0 (rw e at b')) h) (λ d. rw (get_or-set_other l i k v 0 d) (all k b'))

pub closed_set : {prev next : List ℕ} (i v j u : ℕ) → v < length next → u < length prev → Closed prev next → Closed (set prev j u) (set next i v)
closed_set {prev} {next} i v j u h k C = record {
  fits = rw (length-set next i v) C.fits;
  even = length-set prev j u ∙ C.even ∙ sym (length-set next i v);
  next_below = λ a b. subst (λ (n : ℕ). at (set next i v) a < n) (sym (length-set next i v)) (below_set next (length next) i v h C.next_below a b);
  prev_below = λ a b. subst (λ (n : ℕ). at (set prev j u) a < n) (sym (length-set prev j u)) (below_set prev (length prev) j u k C.prev_below a b);
}

-- the links of a slot in range are in range, in either list
pub links_in : {prev next : List ℕ} → Closed prev next → (i : ℕ) → i < length next → (at next i < length next) × (at next i < length prev) × (at prev i < length next) × (at prev i < length prev)
links_in C i h =
    let a = C.next_below i h in
    let b = C.prev_below i (rw C.even h) in
    let e = C.even in
    (a, omega arith, omega arith, b)

pub closed_drop : {prev next : List ℕ} → Closed prev next → (x : ℕ) → x < length next → Closed (drop_prev next prev x) (drop_next next prev x)
unfolding drop_next drop_prev
closed_drop {prev} {next} C x h = let l = links_in C x h in closed_set (at prev x) (at next x) (at next x) (at prev x) l.0 l.3 C

pub closed_swap : {prev next : List ℕ} → Closed prev next → (x y : ℕ) → x < length next → y < length next → Closed (swap_prev next prev x y) (swap_next next x y)
unfolding swap_next swap_prev
closed_swap {prev} {next} C x y h k =
    let a = links_in C x h in
    let b = links_in C y k in
    let e = C.even in
    let D = closed_set x (at next y) (at next y) x b.0 (omega arith) C in
    closed_set y (at next x) (at next x) y (rw length-set a.0) (rw length-set (omega arith)) D

pub length_drop_next : (next prev : List ℕ) (x : ℕ) → length (drop_next next prev x) ≡ length next
unfolding drop_next
length_drop_next next prev x = length-set next (at prev x) (at next x)

pub length_swap_next : (next : List ℕ) (x y : ℕ) → length (swap_next next x y) ≡ length next
unfolding swap_next
length_swap_next next x y = simp length-set

-- ---- the three steps of `merge_arcs`, over plain lists: what the next step asks, and what all of them leave

module _ (next prev n₁ p₁ : List ℕ) (x y : ℕ) (C : Closed prev next) (hx : x < length next) (hy : y < length next) (e₁ : n₁ ≡ swap_next next x y) (f₁ : p₁ ≡ swap_prev next prev x y) where
  pub swapped_closed : Closed p₁ n₁ × (x < length n₁)
  swapped_closed = rw (e₁, f₁) (closed_swap C x y hx hy, rw length_swap_next hx)

  module _ (n₂ p₂ : List ℕ) (e₂ : n₂ ≡ drop_next n₁ p₁ x) (f₂ : p₂ ≡ drop_prev n₁ p₁ x) where
    pub dropped_closed : Closed p₂ n₂ × (y < length n₂)
    dropped_closed = rw (e₂, f₂) (closed_drop swapped_closed.0 x swapped_closed.1, rw (length_drop_next, e₁, length_swap_next) hy)

    pub pair_all : (n₃ p₃ : List ℕ) → n₃ ≡ drop_next n₂ p₂ y → p₃ ≡ drop_prev n₂ p₂ y → (n₃ ≡ pair_next next prev x y) × (p₃ ≡ pair_prev next prev x y)
    unfolding pair_next pair_prev
    pair_all n₃ p₃ e₃ f₃ = (cc, cc)

pub closed_pair : {prev next : List ℕ} → Closed prev next → (x y : ℕ) → x < length next → y < length next → Closed (pair_prev next prev x y) (pair_next next prev x y)
unfolding pair_next pair_prev
closed_pair {prev} {next} C x y h k =
    let q = dropped_closed next prev (swap_next next x y) (swap_prev next prev x y) x y C h k refl refl (drop_next (swap_next next x y) (swap_prev next prev x y) x) (drop_prev (swap_next next x y) (swap_prev next prev x y) x) refl refl in
    closed_drop q.0 y q.1

-- ---- the stores of the code, by what each says

pub swap_stored : (next prev : List ℕ) (x y : ℕ) {a b : ℕ} {n₁ n₂ p₁ p₂ : List ℕ} → a ≡ at next x → b ≡ at next y
    → n₁ ≡ set next x b → n₂ ≡ set n₁ y a → p₁ ≡ set prev b x → p₂ ≡ set p₁ a y → (n₂ ≡ swap_next next x y) × (p₂ ≡ swap_prev next prev x y)
unfolding swap_next swap_prev
swap_stored next prev x y ea eb e₁ e₂ f₁ f₂ = (rw (e₂, e₁, ea, eb), rw (f₂, f₁, ea, eb))

pub drop_stored : (next prev : List ℕ) (x : ℕ) {p q : ℕ} {n₁ p₁ : List ℕ} → p ≡ at prev x → q ≡ at next x
    → n₁ ≡ set next p q → p₁ ≡ set prev q p → (n₁ ≡ drop_next next prev x) × (p₁ ≡ drop_prev next prev x)
unfolding drop_next drop_prev
drop_stored next prev x ep eq e f = (rw (e, ep, eq), rw (f, ep, eq))

pub clear_stored : (l : List ℕ) (x y : ℕ) {l₁ l₂ : List ℕ} → l₁ ≡ set l x 0 → l₂ ≡ set l₁ y 0 → l₂ ≡ clear_two l x y
unfolding clear_two
clear_stored l x y e f = rw (f, e)
