-- OUTPUTS THAT ARE ALWAYS LONG ENOUGH: half as many records, and half as many rows in the edge list, as the table has rows.
--     edges_half          twice the edges that are read out are no more than the rows: each is in one ring, and its reverse in none
--     outputs_enough      so outputs of that size fit, whatever state passes the rules
--     read_enough         read out is then refused by 10, 1 or 9 of its first tests alone
--     dissolve_enough     and dissolve, once its list has passed, by 5, 6 or 7 alone
-- Assumes nothing.
use Prim.Native.Nat.{ℕ, ◌*◌, ◌≤◌, ◌<◌}
use mathlib.Core.Path.{◌≡◌, refl, sym, ◌∙◌, ap, subst}
use mathlib.Core.Bool.{Bool, true, ◌&&◌}
use mathlib.Core.Logic.{◌⊎◌, inl, inr}
use mathlib.Core.List.Memᴰ
use mathlib.Core.List.{List, [], ◌∷◌, ◌++◌, map, Memᴰ}
use native.Mathlib.Omega.{arith}
use lib.ListN.{length, length-append, length-map}
use borrow.Author.Tests.{le-leb}
use Rattle.scope.specs.declared.Refusal.TheVariants.{BadLengths}
use Rattle.std.specs.Prelude.{Err, Ok}
use Rattle.scope.specs.Answers.{require, ◌▷◌, Verdict}
use Rattle.scope.specs.Table.{Table, row_count, reverse_of}
use Rattle.scope.specs.Memory.{Memory, Output, has_slot, opened, lengths_fit, mode_fits, outputs_agree}
use Rattle.scope.specs.Afresh.{ring}
use Rattle.scope.specs.Order.{View, view, stands_at, next_row, ring_at, lowest_rows, ordered, edge_rows}
use Rattle.scope.specs.Calls.{open_verdict, state_verdict, output_fits, read_verdict, offering_all, dissolve_verdict}
use Rattle.scope.proofs.Tests.{and_left, and_both}
use Rattle.scope.proofs.Verdicts.{first_accepts, second_accepts, require_holds, require_accepts}
use Rattle.scope.proofs.Members.{Fresh, mem_below, below_fresh}
use Rattle.scope.proofs.Pigeonhole.{fresh_length, fresh_map}
use Rattle.scope.proofs.Cycle.{iter_in, Permutes}
use Rattle.scope.proofs.Rings.{mem_ring, ring_fresh, ring_one, starts_stand}
use Rattle.scope.proofs.Successor.{Reverses}
use Rattle.scope.proofs.Linked.{true_has}
use Rattle.scope.proofs.Sorted.{Perm, none, skip, swap, both}
use Rattle.scope.proofs.Perms.{fresh_append}
use Rattle.scope.proofs.RingOrder.{ordered_all}
use Rattle.scope.proofs.Lengths.{lengths_good}
use Rattle.scope.proofs.Sound.{Sound, sound_state, sound_linked, sound_reverses, none_both}
use Rattle.scope.proofs.Untouched.{rows_permute}
use Rattle.scope.proofs.Run.{opened_shown, all_shown}

-- ---- each edge is in one ring

in_ring : (v : View) (l : List ℕ) (a : ℕ) → Memᴰ a (edge_rows v l) → (r : ℕ) × Memᴰ r l × Memᴰ a (ring_at v r)
unfolding edge_rows
in_ring v [] a i = absurd (Memᴰ.not-nil i)
in_ring v (r ∷ l) a i = go (λ j. in_ring v l a j) (Memᴰ.append_cases (ring_at v r) i)
  where
    go : (Memᴰ a (edge_rows v l) → (q : ℕ) × Memᴰ q l × Memᴰ a (ring_at v q)) → Memᴰ a (ring_at v r) ⊎ Memᴰ a (edge_rows v l)
        → (q : ℕ) × Memᴰ q (r ∷ l) × Memᴰ a (ring_at v q)
    go ih (inl j) = (r, Memᴰ.head refl, j)
    go ih (inr j) = let z = ih j in (z.0, Memᴰ.tail z.1, z.2)

-- the rings in another order have as many edges
edges_perm : (v : View) {l k : List ℕ} → Perm l k → length (edge_rows v l) ≡ length (edge_rows v k)
unfolding edge_rows
edges_perm v none = refl
edges_perm v (skip {x = x} {l = l} {l' = k} p) =
    let a = length-append (ring_at v x) (edge_rows v l) in let b = length-append (ring_at v x) (edge_rows v k) in let e = edges_perm v p in omega arith
edges_perm v (swap {x = x} {y = y} {l = l}) =
    let a = length-append (ring_at v x) (ring_at v y ++ edge_rows v l) in let b = length-append (ring_at v y) (edge_rows v l) in
    let c = length-append (ring_at v y) (ring_at v x ++ edge_rows v l) in let d = length-append (ring_at v x) (edge_rows v l) in
    omega arith
edges_perm v (both p q) = let a = edges_perm v p in let b = edges_perm v q in omega arith

-- and no ring is empty
edges_least : (v : View) (l : List ℕ) → length l ≤ length (edge_rows v l)
unfolding edge_rows ring
edges_least v [] = omega arith
edges_least v (r ∷ l) = let a = edges_least v l in let b = length-append (ring_at v r) (edge_rows v l) in omega arith

module _ (v : View) (R : Permutes (length v.row_slot) (λ r. stands_at v.row_slot r ≡ true) (next_row v.row_slot v.slot_row v.next)) where
  abbrev n : ℕ
  n = length v.row_slot

  stands : (r : ℕ) → Memᴰ r (lowest_rows v) → stands_at v.row_slot r ≡ true
  stands r i = starts_stand R r (mem_below _ n r i).1

  edges_fresh : (l : List ℕ) → Fresh l → ((r : ℕ) → Memᴰ r l → Memᴰ r (lowest_rows v)) → Fresh (edge_rows v l)
  unfolding edge_rows
  edges_fresh [] f s = tt
  edges_fresh (r ∷ l) f s =
      let here = s r (Memᴰ.head refl) in
      fresh_append (ring_at v r) (edge_rows v l) (ring_fresh R r (stands r here)) (edges_fresh l f.1 (λ q i. s q (Memᴰ.tail i)))
      (λ a i j. let z = in_ring v l a j in f.0 (Memᴰ.cast (ring_one R r z.0 a here (s z.0 (Memᴰ.tail z.1)) i z.2) z.1))

  -- an edge that is read out stands
  edge_stands : (a : ℕ) → Memᴰ a (edge_rows v (lowest_rows v)) → stands_at v.row_slot a ≡ true
  edge_stands a i =
      let z = in_ring v (lowest_rows v) a i in
      let u = stands z.0 z.1 in
      let k = mem_ring R z.0 a u z.2 in
      subst (λ (b : ℕ). stands_at v.row_slot b ≡ true) (sym k.1) (iter_in R k.0 z.0 u)

  -- where of a row and its reverse at most one stands, what stands and its reverses are different rows
  pub edges_half : (rev : ℕ → ℕ) → Reverses (λ a. a < n) rev → ((a : ℕ) → stands_at v.row_slot a ≡ true → stands_at v.row_slot (rev a) ≡ true → ⊥)
      → 2 * length (edge_rows v (ordered v)) ≤ n
  edges_half rev Q apart =
      let l = edge_rows v (lowest_rows v) in
      let inside : (a : ℕ) → Memᴰ a l → a < n = λ a i. R.small a (edge_stands a i) in
      let fresh = edges_fresh (lowest_rows v) (below_fresh _ n) (λ r i. i) in
      let back : Fresh (map rev l) = fresh_map rev l fresh (λ a b i j e. sym (Q.rev_rev a (inside a i)) ∙ ap rev e ∙ Q.rev_rev b (inside b j)) in
      let most = fresh_length n (l ++ map rev l)
      (fresh_append l (map rev l) fresh back (λ a i j.
      let z = Memᴰ.of_map rev l j in
      apart z.0 (edge_stands z.0 z.1) (subst (λ (b : ℕ). stands_at v.row_slot b ≡ true) (sym z.2) (edge_stands a i))))
      (λ a i. within rev l Q inside a (Memᴰ.append_cases l i)) in
      let both = length-append l (map rev l) in
      let same = edges_perm v (ordered_all v) in
      omega (arith, length-map l rev)
    where
      within : (rev : ℕ → ℕ) (l : List ℕ) → Reverses (λ a. a < n) rev → ((a : ℕ) → Memᴰ a l → a < n) → (a : ℕ) → Memᴰ a l ⊎ Memᴰ a (map rev l) → a < n
      within rev l Q inside a (inl i) = inside a i
      within rev l Q inside a (inr j) = let z = Memᴰ.of_map rev l j in subst (λ (b : ℕ). b < n) z.2 (Q.rev_in z.0 (inside z.0 z.1))

-- ---- the calls

-- a test that holds where the one before it accepts refuses nothing
extra : (v : Verdict) (b : Bool) → (v ≡ Ok tt → b ≡ true) → (v ▷ require b BadLengths) ≡ v
extra (Ok _) b h = require_accepts b BadLengths (h refl)
extra (Err why) b h = refl

module _ (t : Table) (o : Output) (records : row_count t ≤ 2 * length o.start) (rows : row_count t ≤ 2 * length o.edges) where
  pub outputs_enough : {m : Memory} → Sound t m → output_fits (view t m) o ≡ true
  unfolding output_fits
  outputs_enough {m} S =
      let v = view t m in
      let all = S.lengths.row_slot in
      let R : Permutes (length m.row_slot) (λ r. has_slot m r ≡ true) (next_row m.row_slot m.slot_row m.next) =
      subst (λ (k : ℕ). Permutes k (λ r. has_slot m r ≡ true) (next_row m.row_slot m.slot_row m.next)) (sym all) (rows_permute (sound_linked S)) in
      let Q : Reverses (λ a. a < length m.row_slot) (reverse_of t) = subst (λ (k : ℕ). Reverses (λ a. a < k) (reverse_of t)) (sym all) (sound_reverses S) in
      let half = edges_half v R (reverse_of t) Q (λ a e d. none_both S a (true_has m a e) (true_has m (reverse_of t a) d)) in
      let least = edges_least v (ordered v) in
      let a : length (ordered v) ≤ length o.start = omega arith in
      let b : length (edge_rows v (ordered v)) ≤ length o.edges = omega arith in
      and_both _ _ (le-leb _ _ a) (le-leb _ _ b)

  pub read_enough : (m : Memory) → read_verdict t m o ≡ (require (outputs_agree o) BadLengths ▷ state_verdict t m)
  unfolding read_verdict
  read_enough m = ap (λ (w : Verdict). require (outputs_agree o) BadLengths ▷ w) (extra (state_verdict t m) (output_fits (view t m) o) (λ e. outputs_enough (sound_state t m e)))

  module _ (m : Memory) (mode : ℕ) (cs : List ℕ) where
    opened_first : dissolve_verdict t m mode cs o ≡ Ok tt → open_verdict t m mode ≡ Ok tt
    unfolding dissolve_verdict
    opened_first e = first_accepts _ _ (second_accepts (require (outputs_agree o) BadLengths) _ e)

    last_sound : open_verdict t m mode ≡ Ok tt → (offering_all t (opened mode m) cs).answer ≡ Ok tt → Sound t (offering_all t (opened mode m) cs).left
    unfolding open_verdict
    last_sound e a =
        let lengths = lengths_good t m (and_left (lengths_fit t m) (mode_fits mode) (require_holds _ BadLengths (first_accepts _ _ e))) in
        (all_shown t (opened mode m) [] cs (opened_shown t m mode (second_accepts (require (lengths_fit t m && mode_fits mode) BadLengths) _ e) lengths) a).sound

    pub dissolve_enough : dissolve_verdict t m mode cs o ≡ Ok tt
        → ((offering_all t (opened mode m) cs).answer ▷ require (output_fits (view t (offering_all t (opened mode m) cs).left) o) BadLengths) ≡ (offering_all t (opened mode m) cs).answer
    dissolve_enough e = extra (offering_all t (opened mode m) cs).answer _ (λ a. outputs_enough (last_sound (opened_first e) a))
