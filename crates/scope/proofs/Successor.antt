-- The ring successor over any set G of given rows and any next row `next` in the outlines.
--     Reverses Row rev             rev pairs up the rows of a table: an involution without fixed points
--     Turns Row G next             next permutes the given rows
--     successor_total              every standing row has its successor; `successor_run`: in at most n steps
--     successor_stands             it stands
--     successor_one                it is one row
--     successor_injective          and no other row's
--     successor_same               it depends on which rows are given and on the next of each, and on nothing else
-- Assumes nothing.
use mathlib.Core.Path.{◌≡◌, refl, sym, ◌∙◌, ap, subst}
use mathlib.Core.Logic.{◌⊎◌, inl, inr, ◌≢◌}
use Prim.Native.Nat.{ℕ, ◌<◌, ◌≤◌}
use Rattle.scope.specs.Standing.{Lands, here, on, Stands, Successor}
use Rattle.scope.proofs.Lands.{lands_stop, lands_from, lands_map, lands_unique}
use Rattle.scope.proofs.Finite.{Steps, steps, lands_total}

-- reverses in a table of rows
pub record Reverses (Row : ℕ → Type 0) (rev : ℕ → ℕ) : Type 0 where
  pub rev_in : (a : ℕ) → Row a → Row (rev a)
  pub rev_rev : (a : ℕ) → Row a → rev (rev a) ≡ a
  pub rev_ne : (a : ℕ) → Row a → rev a ≢ a

-- next is a permutation of the given rows
pub record Turns (Row G : ℕ → Type 0) (next : ℕ → ℕ) : Type 0 where
  pub given_row : (a : ℕ) → G a → Row a
  pub given_dec : (a : ℕ) → Dec (G a)
  pub next_in : (a : ℕ) → G a → G (next a)
  pub next_injects : (a b : ℕ) → G a → G b → next a ≡ next b → a ≡ b

-- a given row that does not stand has its reverse given
pub rev_given : {G : ℕ → Type 0} (rev : ℕ → ℕ) → ((a : ℕ) → Dec (G a)) → (a : ℕ) → G a → (Stands G rev a → ⊥) → G (rev a)
rev_given {G} rev dec a h n = go (dec (rev a))
  where
    go : Dec (G (rev a)) → G (rev a)
    go (yes g) = g
    go (no m) = absurd (n (h, m))

pub successor_same : {Row G G' : ℕ → Type 0} {rev next next' : ℕ → ℕ} → Turns Row G next → ((a : ℕ) → G a → G' a) → ((a : ℕ) → G' a → G a)
    → ((a : ℕ) → G a → next a ≡ next' a) → (a b : ℕ) → G a → Successor G rev next a b → Successor G' rev next' a b
successor_same {G = G} {G' = G'} {rev} {next} {next'} W p q e a b g r =
    lands_from (e a g) (lands_map (λ w. w) G
    (λ w h s. (p w s.0, λ k. s.1 (q (rev w) k)))
    (λ w h s. (q w s.0, λ k. s.1 (p (rev w) k)))
    (λ w h n. W.next_in (rev w) (rev_given rev W.given_dec w h n))
    (λ w h n. e (rev w) (rev_given rev W.given_dec w h n))
    (W.next_in a g) r)

-- ---- two ways that land at one place: one of them runs into the other

data Reach (S : ℕ → Type 0) (f : ℕ → ℕ) (x : ℕ) : ℕ → Type 0 where
  start : Reach S f x x
  pass : {w : ℕ} → (S w → ⊥) → Reach S f x w → Reach S f x (f w)

reach_cons : {S : ℕ → Type 0} {f : ℕ → ℕ} {x z : ℕ} → (S x → ⊥) → Reach S f (f x) z → Reach S f x z
reach_cons n start = pass n start
reach_cons n (pass m r) = pass m (reach_cons n r)

lands_reach : {S : ℕ → Type 0} {f : ℕ → ℕ} {x y : ℕ} → Lands S f x y → Reach S f x y
lands_reach (here s) = start
lands_reach (on n r) = reach_cons n (lands_reach r)

-- the last step of a way
reach_last : {S : ℕ → Type 0} {f : ℕ → ℕ} {x z : ℕ} → Reach S f x z → (z ≡ x) ⊎ ((w : ℕ) × (S w → ⊥) × Reach S f x w × (f w ≡ z))
reach_last start = inl refl
reach_last (pass {w = w} n r) = inr (w, n, r, refl)

module _ {n : ℕ} {U S : ℕ → Type 0} {f : ℕ → ℕ} (st : Steps n U S f) where
  reach_in : {x z : ℕ} → U x → Reach S f x z → U z
  reach_in u start = u
  reach_in u (pass {w = w} m r) = st.keeps w (reach_in u r) m

  merge : {x y c : ℕ} → U x → U y → Lands S f x c → Lands S f y c → Reach S f y x ⊎ Reach S f x y
  merge u v (here s) q = inl (lands_reach q)
  merge {y = y} u v (on {x = x} n r) q = go (merge (st.keeps x u n) v r q)
    where
      back : (f x ≡ y) ⊎ ((w : ℕ) × (S w → ⊥) × Reach S f y w × (f w ≡ f x)) → Reach S f y x ⊎ Reach S f x y
      back (inl e) = inr (subst (λ (z : ℕ). Reach S f x z) e (pass n start))
      back (inr (w, m, k, e)) = inl (subst (λ (z : ℕ). Reach S f y z) (st.injects w x (reach_in v k) m u n e) k)

      go : Reach S f y (f x) ⊎ Reach S f (f x) y → Reach S f y x ⊎ Reach S f x y
      go (inl k) = back (reach_last k)
      go (inr k) = inr (reach_cons n k)

  -- where neither start is stepped to, the starts are one
  pub lands_inj : {x y c : ℕ} → U x → U y → ((a : ℕ) → U a → (S a → ⊥) → f a ≢ x) → ((a : ℕ) → U a → (S a → ⊥) → f a ≢ y)
      → Lands S f x c → Lands S f y c → x ≡ y
  lands_inj {x} {y} u v fx fy p q = go (merge u v p q)
    where
      one : (x ≡ y) ⊎ ((w : ℕ) × (S w → ⊥) × Reach S f y w × (f w ≡ x)) → x ≡ y
      one (inl e) = e
      one (inr (w, m, k, e)) = absurd (fx w (reach_in v k) m e)

      two : (y ≡ x) ⊎ ((w : ℕ) × (S w → ⊥) × Reach S f x w × (f w ≡ y)) → x ≡ y
      two (inl e) = sym e
      two (inr (w, m, k, e)) = absurd (fy w (reach_in u k) m e)

      go : Reach S f y x ⊎ Reach S f x y → x ≡ y
      go (inl k) = one (reach_last k)
      go (inr k) = two (reach_last k)

module _ {Row G : ℕ → Type 0} {rev next : ℕ → ℕ} (n : ℕ) (rows : (a : ℕ) → Row a → a < n) (R : Reverses Row rev) (W : Turns Row G next) where
  rev_inj : (a b : ℕ) → Row a → Row b → rev a ≡ rev b → a ≡ b
  rev_inj a b h k e = sym (R.rev_rev a h) ∙ ap rev e ∙ R.rev_rev b k

  successor_steps : Steps n G (Stands G rev) (λ w. next (rev w))
  successor_steps = record {
    below = λ a g. rows a (W.given_row a g);
    keeps = λ a g m. W.next_in (rev a) (rev_given rev W.given_dec a g m);
    injects = λ a b g m h k e. rev_inj a b (W.given_row a g) (W.given_row b h)
        (W.next_injects (rev a) (rev b) (rev_given rev W.given_dec a g m) (rev_given rev W.given_dec b h k) e);
  }

  -- the next of a standing row is the next of no row's reverse
  successor_first : (a : ℕ) → Stands G rev a → (w : ℕ) → G w → (Stands G rev w → ⊥) → next (rev w) ≢ next a
  successor_first a s w g m e =
      let h = rev_given rev W.given_dec w g m in
      s.1 (subst (λ (v : ℕ). G v) (sym (R.rev_rev w (W.given_row w g)) ∙ ap rev (W.next_injects (rev w) a h s.0 e)) g)

  pub stands_dec : (a : ℕ) → Dec (Stands G rev a)
  stands_dec a = go (W.given_dec a) (W.given_dec (rev a))
    where
      go : Dec (G a) → Dec (G (rev a)) → Dec (Stands G rev a)
      go (yes g) (no m) = yes (g, m)
      go (yes g) (yes h) = no (λ s. s.1 h)
      go (no m) d = no (λ s. m s.0)

  pub successor_run : (a : ℕ) → Stands G rev a → (b : ℕ) × (r : Successor G rev next a b) × (steps r ≤ n)
  successor_run a s = lands_total n G (Stands G rev) (λ w. next (rev w)) successor_steps stands_dec (next a) (W.next_in a s.0) (successor_first a s)

  pub successor_total : (a : ℕ) → Stands G rev a → (b : ℕ) × Successor G rev next a b
  successor_total a s = let r = successor_run a s in (r.0, r.1)

  pub successor_stands : (a b : ℕ) → Successor G rev next a b → Stands G rev b
  successor_stands a b r = lands_stop r

  pub successor_one : (a b c : ℕ) → Successor G rev next a b → Successor G rev next a c → b ≡ c
  successor_one a b c p q = lands_unique p q

  pub successor_injective : (a b c : ℕ) → Stands G rev a → Stands G rev b → Successor G rev next a c → Successor G rev next b c → a ≡ b
  successor_injective a b c s t p q =
      W.next_injects a b s.0 t.0 (lands_inj successor_steps (W.next_in a s.0) (W.next_in b t.0) (successor_first a s) (successor_first b t) p q)
