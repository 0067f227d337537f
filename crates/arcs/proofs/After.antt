-- Pairs taken out one after the other, against the links before the first.
--     After            U is what is left, next its links: each the first return, over what is gone, of the links before
--     after_none       nothing is gone
--     after_pair       one more pair is: by staging
--     after_same, round_same     the same for a set and links that agree
-- Assumes nothing.
use mathlib.Core.Path.{◌≡◌, sym}
use Prim.Native.Nat.{ℕ}
use Rattle.scope.specs.Standing.{Lands, here}
use Rattle.scope.proofs.Members.{cases}
use Rattle.scope.proofs.Lands.{lands_same, lands_to, stage_from}
use Rattle.arcs.proofs.Round.{Round}
use Rattle.arcs.proofs.Pair.{Less₂, Mates, Removed}

pub record After (mate before : ℕ → ℕ) (U : ℕ → Type 0) (next : ℕ → ℕ) : Type 0 where
  pub links : (a : ℕ) → U a → Lands U (λ w. before (mate w)) (before a) (next a)

pub after_none : {mate next : ℕ → ℕ} {U : ℕ → Type 0} → ((a : ℕ) → U a → U (next a)) → After mate next U next
after_none keeps = record { links = λ a u. here (keeps a u) }

pub after_pair : {mate before next next' prev' : ℕ → ℕ} {U : ℕ → Type 0} {x y : ℕ}
    → After mate before U next → U x → U y → Mates mate x y → Removed U mate next x y next' prev' → After mate before (Less₂ U x y) next'
after_pair {mate} {before} {next} {next'} {U = U} {x} {y} A ux uy M R = record {
  links = λ a s. stage_from (λ w t. t.0) back (A.links a s.0) (R.passes a s);
}
  where
    back : (w : ℕ) → U w → (Less₂ U x y w → ⊥) → Lands U (λ v. before (mate v)) (before (mate w)) (next (mate w))
    back w u n = cases w x (λ e. rw (e, M.there) (A.links y uy)) (λ m. cases w y (λ e. rw (e, M.back) (A.links x ux)) (λ k. absurd (n (u, m, k))))

module _ {U U' : ℕ → Type 0} (to : (a : ℕ) → U a → U' a) (from : (a : ℕ) → U' a → U a) where
  pub after_same : {mate before next next' : ℕ → ℕ} → ((a : ℕ) → U' a → next' a ≡ next a) → After mate before U next → After mate before U' next'
  after_same e A = record { links = λ a u. lands_to (sym (e a u)) (lands_same to from (A.links a (from a u))) }

  pub round_same : {next prev next' prev' : ℕ → ℕ} → ((a : ℕ) → U' a → next' a ≡ next a) → ((a : ℕ) → U' a → prev' a ≡ prev a)
      → Round U next prev → Round U' next' prev'
  round_same {next} {prev} e f L = record {
    next_in = λ a u. rw (e a u) (to (next a) (L.next_in a (from a u)));
    prev_in = λ a u. rw (f a u) (to (prev a) (L.prev_in a (from a u)));
    prev_next = λ a u. rw (e a u, f (next a) (to (next a) (L.next_in a (from a u)))) (L.prev_next a (from a u));
    next_prev = λ a u. rw (f a u, e (prev a) (to (prev a) (L.prev_in a (from a u)))) (L.next_prev a (from a u));
  }
