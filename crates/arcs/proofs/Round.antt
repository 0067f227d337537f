-- Links that go round: `next` and `prev` inverse to each other on a set U of slots. Exchanging the nexts of two slots and taking a slot out
-- keep that, in a ring of one too.
--     Put₂                          two stores, by what they do at each place
--     Round U next prev             the links of the slots in U
--     swap_round                    the nexts of x and y exchanged
--     unlink_round, unlink_lands    x taken out: the links left are the first returns of those before
-- Assumes nothing.
use mathlib.Core.Path.{◌≡◌, refl, sym, ◌∙◌, ap}
use mathlib.Core.Logic.{◌≢◌}
use mathlib.Core.List.{List}
use Prim.Native.Nat.{ℕ, ◌<◌}
use lib.ListN.{length, set, length-set}
use Rattle.scope.specs.Lists.{at}
use Rattle.scope.specs.Standing.{Lands, here, on}
use Rattle.scope.proofs.Members.{cases, Put, put_set}
use Rattle.scope.proofs.Lands.{lands_from, lands_to}

pub record Put₂ (f g : ℕ → ℕ) (i v j u : ℕ) : Type 0 where
  pub put₁ : g i ≡ v
  pub put₂ : g j ≡ u
  pub rest : (w : ℕ) → w ≢ i → w ≢ j → g w ≡ f w

pub put_put : {f g h : ℕ → ℕ} {i v j u : ℕ} → i ≢ j → Put f g i v → Put g h j u → Put₂ f h i v j u
put_put {i = i} d p q = record {
  put₁ = q.rest i d ∙ p.put;
  put₂ = q.put;
  rest = λ w m k. q.rest w k ∙ p.rest w m;
}

pub put_set₂ : (l : List ℕ) (i v j u : ℕ) → i ≢ j → i < length l → j < length l → Put₂ (at l) (at (set (set l i v) j u)) i v j u
put_set₂ l i v j u d h k = put_put d (put_set l i v h) (put_set (set l i v) j u (rw length-set k))

-- the links of the places in U
pub record Round (U : ℕ → Type 0) (next prev : ℕ → ℕ) : Type 0 where
  pub next_in : (a : ℕ) → U a → U (next a)
  pub prev_in : (a : ℕ) → U a → U (prev a)
  pub prev_next : (a : ℕ) → U a → prev (next a) ≡ a
  pub next_prev : (a : ℕ) → U a → next (prev a) ≡ a

abbrev pub Less : (ℕ → Type 0) → ℕ → ℕ → Type 0
Less U x a = U a × (a ≢ x)

module _ {U : ℕ → Type 0} {next prev : ℕ → ℕ} (L : Round U next prev) where
  pub round_flip : Round U prev next
  round_flip = record { next_in = L.prev_in; prev_in = L.next_in; prev_next = L.next_prev; next_prev = L.prev_next }

  pub next_injects : (a b : ℕ) → U a → U b → next a ≡ next b → a ≡ b
  next_injects a b u v e = sym (L.prev_next a u) ∙ ap prev e ∙ L.prev_next b v

-- Exchange the nexts of x and y: three of the four fields are by cases, and `cc` closes each.
module _ {U : ℕ → Type 0} {next prev next' prev' : ℕ → ℕ} {x y : ℕ} (L : Round U next prev) (ux : U x) (uy : U y)
    (N : Put₂ next next' x (next y) y (next x)) (P : Put₂ prev prev' (next y) x (next x) y) where
  pub swap_round : Round U next' prev'
  swap_round = record {
    next_in = λ a u. cases a x (λ e. rw (e, N.put₁) (L.next_in y uy)) (λ m.
        cases a y (λ e. rw (e, N.put₂) (L.next_in x ux)) (λ k. rw (N.rest a m k) (L.next_in a u)));
    prev_in = λ a u. cases a (next y) (λ e. rw (e, P.put₁) ux) (λ m.
        cases a (next x) (λ e. rw (e, P.put₂) uy) (λ k. rw (P.rest a m k) (L.prev_in a u)));
    prev_next = λ a u. cases a x (λ e. rw (e, N.put₁, P.put₁)) (λ m.
        cases a y (λ e. rw (e, N.put₂, P.put₂)) (λ k.
        rw (N.rest a m k, P.rest (next a) (λ e. k (next_injects L a y u uy e)) (λ e. m (next_injects L a x u ux e))) (L.prev_next a u)));
    next_prev = λ a u. cases a (next y) (λ e. rw (e, P.put₁) N.put₁) (λ m.
        cases a (next x) (λ e. rw (e, P.put₂) N.put₂) (λ k.
        rw (P.rest a m k, N.rest (prev a) (λ e. k (sym (L.next_prev a u) ∙ ap next e)) (λ e. m (sym (L.next_prev a u) ∙ ap next e))) (L.next_prev a u)));
  }

-- Take x out: it works for a ring of one too.
module _ {U : ℕ → Type 0} {next prev next' prev' : ℕ → ℕ} {x : ℕ} (L : Round U next prev) (ux : U x)
    (N : Put next next' (prev x) (next x)) (P : Put prev prev' (next x) (prev x)) where
  unlink_in : (a : ℕ) → Less U x a → Less U x (next' a)
  unlink_in a (u, d) = cases a (prev x)
      (λ e. rw (e, N.put) (L.next_in x ux, λ (h : next x ≡ x). d (e ∙ ap prev (sym h) ∙ L.prev_next x ux)))
      (λ m. rw (N.rest a m) (L.next_in a u, λ (h : next a ≡ x). m (sym (L.prev_next a u) ∙ ap prev h)))

  unlink_back : (a : ℕ) → Less U x a → prev' (next' a) ≡ a
  unlink_back a (u, d) = cases a (prev x)
      (λ e. rw (e, N.put, P.put))
      (λ m. rw (N.rest a m, P.rest (next a) (λ e. d (next_injects L a x u ux e))) (L.prev_next a u))

  -- the first return of next
  pub unlink_lands : (a : ℕ) → Less U x a → Lands (Less U x) next (next a) (next' a)
  unlink_lands a (u, d) = cases a (prev x)
      (λ e. lands_from (sym (ap next e ∙ L.next_prev x ux)) (lands_to (sym (ap next' e ∙ N.put))
      (on (λ s. s.1 refl) (here (L.next_in x ux, λ (h : next x ≡ x). d (e ∙ ap prev (sym h) ∙ L.prev_next x ux))))))
      (λ m. lands_to (sym (N.rest a m)) (here (L.next_in a u, λ (h : next a ≡ x). m (sym (L.prev_next a u) ∙ ap prev h))))

module _ {U : ℕ → Type 0} {next prev next' prev' : ℕ → ℕ} {x : ℕ} (L : Round U next prev) (ux : U x)
    (N : Put next next' (prev x) (next x)) (P : Put prev prev' (next x) (prev x)) where
  pub unlink_round : Round (Less U x) next' prev'
  unlink_round = record {
    next_in = unlink_in L ux N P;
    prev_in = unlink_in (round_flip L) ux P N;
    prev_next = unlink_back L ux N P;
    next_prev = unlink_back (round_flip L) ux P N;
  }
