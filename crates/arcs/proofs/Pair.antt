-- A pair of slots x, y = mate x is taken out of the links: the nexts of the two exchanged, then each taken out. No case is degenerate:
-- where next is itself, where next is the mate, and for the last pair of a ring.
--     Passes        from a slot that stays, take the next; while that is x or y, take the next of its mate
--     Removed       what a removal has to leave
--     pair_removed  the code's stores leave that; `pair_rest`: and all else as it was
-- Assumes nothing.
use mathlib.Core.Path.{◌≡◌, sym, ◌∙◌, subst}
use mathlib.Core.Logic.{◌⊎◌, inl, inr, ◌≢◌}
use mathlib.Core.List.{List}
use Prim.Native.Nat.{ℕ, ◌<◌}
use lib.ListN.{length, length-set}
use Rattle.scope.specs.Lists.{at}
use Rattle.scope.specs.Standing.{Lands}
use Rattle.scope.proofs.Members.{cases, Put, put_set}
use Rattle.scope.proofs.Lands.{lands_from, lands_map, stage_from}
use Rattle.pair_links.specs.Links.{swap_next, swap_prev, drop_next, drop_prev, pair_next, pair_prev}
use Rattle.arcs.proofs.Round.{Put₂, put_set₂, Round, Less, next_injects, swap_round, unlink_round, unlink_lands}

-- U without the pair
abbrev pub Less₂ : (ℕ → Type 0) → ℕ → ℕ → ℕ → Type 0
Less₂ U x y a = U a × (a ≢ x) × (a ≢ y)

-- The links after the pair is gone: from a place that stays, take the next; while that is x or y, take the next of its mate.
abbrev pub Passes : (ℕ → Type 0) → (ℕ → ℕ) → (ℕ → ℕ) → ℕ → ℕ → ℕ → ℕ → Type 0
Passes U mate next x y a b = Lands (Less₂ U x y) (λ w. next (mate w)) (next a) b

-- x and y are each other's mate
pub record Mates (mate : ℕ → ℕ) (x y : ℕ) : Type 0 where
  pub apart : x ≢ y
  pub there : mate x ≡ y
  pub back : mate y ≡ x

-- what a removal has to leave
pub record Removed (U : ℕ → Type 0) (mate next : ℕ → ℕ) (x y : ℕ) (next' prev' : ℕ → ℕ) : Type 0 where
  pub round : Round (Less₂ U x y) next' prev'
  pub passes : (a : ℕ) → Less₂ U x y a → Passes U mate next x y a (next' a)

-- a place of U that does not stay is x or y
gone : (U : ℕ → Type 0) (x y a : ℕ) → U a → (Less₂ U x y a → ⊥) → (a ≡ x) ⊎ (a ≡ y)
gone U x y a u n = cases a x inl (λ m. cases a y inr (λ k. absurd (n (u, m, k))))

-- ---- by swap and two unlinks: no case is degenerate

module _ {U : ℕ → Type 0} {mate next prev next₁ prev₁ next₂ prev₂ next₃ prev₃ : ℕ → ℕ} {x y : ℕ} (L : Round U next prev) (ux : U x) (uy : U y) (M : Mates mate x y)
    (N₁ : Put₂ next next₁ x (next y) y (next x)) (P₁ : Put₂ prev prev₁ (next y) x (next x) y)
    (N₂ : Put next₁ next₂ (prev₁ x) (next₁ x)) (P₂ : Put prev₁ prev₂ (next₁ x) (prev₁ x))
    (N₃ : Put next₂ next₃ (prev₂ y) (next₂ y)) (P₃ : Put prev₂ prev₃ (next₂ y) (prev₂ y)) where
  L₁ : Round U next₁ prev₁
  L₁ = swap_round L ux uy N₁ P₁

  L₂ : Round (Less U x) next₂ prev₂
  L₂ = unlink_round L₁ ux N₂ P₂

  y_left : Less U x y
  y_left = (uy, λ (e : y ≡ x). M.apart (sym e))

  L₃ : Round (Less (Less U x) y) next₃ prev₃
  L₃ = unlink_round L₂ y_left N₃ P₃

  three_lands : (a : ℕ) → Less (Less U x) y a → Lands (Less (Less U x) y) next₁ (next₁ a) (next₃ a)
  three_lands a s = stage_from (λ w t. t.0) (λ w t _. unlink_lands L₁ ux N₂ P₂ w t) (unlink_lands L₁ ux N₂ P₂ a s.0) (unlink_lands L₂ y_left N₃ P₃ a s)

  turn : (w : ℕ) → U w → (Less (Less U x) y w → ⊥) → next₁ w ≡ next (mate w)
  turn w u n = go (gone U x y w u (λ s. n ((s.0, s.1), s.2)))
    where
      go : (w ≡ x) ⊎ (w ≡ y) → next₁ w ≡ next (mate w)
      go (inl e) = rw (e, M.there) N₁.put₁
      go (inr e) = rw (e, M.back) N₁.put₂

  pub three_steps : Removed U mate next x y next₃ prev₃
  three_steps = record {
    round = record {
      next_in = λ a s. flat (next₃ a) (L₃.next_in a ((s.0, s.1), s.2));
      prev_in = λ a s. flat (prev₃ a) (L₃.prev_in a ((s.0, s.1), s.2));
      prev_next = λ a s. L₃.prev_next a ((s.0, s.1), s.2);
      next_prev = λ a s. L₃.next_prev a ((s.0, s.1), s.2);
    };
    passes = λ a s. lands_map (λ w. w) U (λ w u t. flat w t) (λ w u t. ((t.0, t.1), t.2)) (λ w u n. L₁.next_in w u) turn
        (L.next_in a s.0) (lands_from (N₁.rest a s.1 s.2) (three_lands a ((s.0, s.1), s.2)));
  }
    where
      flat : (w : ℕ) → Less (Less U x) y w → Less₂ U x y w
      flat w t = (t.0.0, t.0.1, t.1)

  -- what is not in U is left as it was
  pub three_rest : (a : ℕ) → (U a → ⊥) → (next₃ a ≡ next a) × (prev₃ a ≡ prev a)
  three_rest a n = (
    N₃.rest a (off (prev₂ y) (L₂.prev_in y y_left).0) ∙ N₂.rest a (off (prev₁ x) (L₁.prev_in x ux)) ∙ N₁.rest a (off x ux) (off y uy),
    P₃.rest a (off (next₂ y) (L₂.next_in y y_left).0) ∙ P₂.rest a (off (next₁ x) (L₁.next_in x ux)) ∙ P₁.rest a (off (next y) (L.next_in y uy)) (off (next x) (L.next_in x ux)),
  )
    where
      off : (b : ℕ) → U b → a ≢ b
      off b u e = n (subst (λ (z : ℕ). U z) (sym e) u)

module _ {U : ℕ → Type 0} {mate : ℕ → ℕ} (next prev : List ℕ) {x y : ℕ} (L : Round U (at next) (at prev))
    (fn : (a : ℕ) → U a → a < length next) (fp : (a : ℕ) → U a → a < length prev) (ux : U x) (uy : U y) (M : Mates mate x y) where
  drop_put : (n p : List ℕ) (W : ℕ → Type 0) → ((a : ℕ) → W a → U a) → Round W (at n) (at p) → length n ≡ length next → length p ≡ length prev → (z : ℕ) → W z
      → Put (at n) (at (drop_next n p z)) (at p z) (at n z) × Put (at p) (at (drop_prev n p z)) (at n z) (at p z) × (length (drop_next n p z) ≡ length next) × (length (drop_prev n p z) ≡ length prev)
  unfolding drop_next drop_prev
  drop_put n p W sub K en ep z v = (
    put_set n (at p z) (at n z) (rw en (fn (at p z) (sub (at p z) (K.prev_in z v)))),
    put_set p (at n z) (at p z) (rw ep (fp (at n z) (sub (at n z) (K.next_in z v)))),
    length-set n (at p z) (at n z) ∙ en,
    length-set p (at n z) (at p z) ∙ ep,
  )

  N₁ : Put₂ (at next) (at (swap_next next x y)) x (at next y) y (at next x)
  unfolding swap_next
  N₁ = put_set₂ next x (at next y) y (at next x) M.apart (fn x ux) (fn y uy)

  P₁ : Put₂ (at prev) (at (swap_prev next prev x y)) (at next y) x (at next x) y
  unfolding swap_prev
  P₁ = put_set₂ prev (at next y) x (at next x) y (λ (e : at next y ≡ at next x). M.apart (sym (next_injects L y x uy ux e))) (fp (at next y) (L.next_in y uy)) (fp (at next x) (L.next_in x ux))

  en₁ : length (swap_next next x y) ≡ length next
  unfolding swap_next
  en₁ = simp length-set

  ep₁ : length (swap_prev next prev x y) ≡ length prev
  unfolding swap_prev
  ep₁ = simp length-set

  pub pair_removed : Removed U mate (at next) x y (at (pair_next next prev x y)) (at (pair_prev next prev x y))
  unfolding pair_next pair_prev
  pair_removed =
      let M₁ = swap_round L ux uy N₁ P₁ in
      let D₂ = drop_put (swap_next next x y) (swap_prev next prev x y) U (λ a u. u) M₁ en₁ ep₁ x ux in
      let M₂ = unlink_round M₁ ux D₂.0 D₂.1 in
      let D₃ = drop_put (drop_next (swap_next next x y) (swap_prev next prev x y) x) (drop_prev (swap_next next x y) (swap_prev next prev x y) x) (Less U x) (λ a u. u.0) M₂ D₂.2 D₂.3 y (uy, λ (e : y ≡ x). M.apart (sym e)) in
      three_steps L ux uy M N₁ P₁ D₂.0 D₂.1 D₃.0 D₃.1

  pub pair_rest : (a : ℕ) → (U a → ⊥) → (at (pair_next next prev x y) a ≡ at next a) × (at (pair_prev next prev x y) a ≡ at prev a)
  unfolding pair_next pair_prev
  pair_rest a n =
      let M₁ = swap_round L ux uy N₁ P₁ in
      let D₂ = drop_put (swap_next next x y) (swap_prev next prev x y) U (λ a u. u) M₁ en₁ ep₁ x ux in
      let M₂ = unlink_round M₁ ux D₂.0 D₂.1 in
      let D₃ = drop_put (drop_next (swap_next next x y) (swap_prev next prev x y) x) (drop_prev (swap_next next x y) (swap_prev next prev x y) x) (Less U x) (λ a u. u.0) M₂ D₂.2 D₂.3 y (uy, λ (e : y ≡ x). M.apart (sym e)) in
      three_rest L ux uy M N₁ P₁ D₂.0 D₂.1 D₃.0 D₃.1 a n
