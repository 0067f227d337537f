-- THE OFFER: the links of the standing rows with a new outline beside them, all pairs gone, are the successors over one more cell.
--     Joined               G with next and O with turn, apart, are both together G' with next'
--     stands_in, -out      what stands of all that is given is what stands of the rows held
--     offer_links          THE OFFER: the successor rule over the rows held, old links and new outline, is the rule over all that is given
--     link_kept            a link to a row whose reverse is not in the new outline is kept
--     ring_kept            UNTOUCHED RINGS: a ring that holds no reverse of an edge of the new outline keeps every link
-- Assumes nothing.
use mathlib.Core.Path.{◌≡◌, sym, subst}
use mathlib.Core.Logic.{◌⊎◌, inl, inr}
use Prim.Native.Nat.{ℕ, zero, suc}
use Rattle.scope.specs.Standing.{Lands, here, Stands, Successor}
use Rattle.scope.proofs.Lands.{lands_stop, lands_same, lands_from, lands_to, lands_map, lands_unique, stage_from}
use Rattle.scope.proofs.Successor.{Reverses, Turns, rev_given}
use Rattle.scope.proofs.Cycle.{iter, iter_zero, iter_last}

-- G given with next, O the new outline with turn: both together
pub record Joined (G O G' : ℕ → Type 0) (next turn next' : ℕ → ℕ) : Type 0 where
  pub old : (a : ℕ) → G a → G' a
  pub new : (a : ℕ) → O a → G' a
  pub either : (a : ℕ) → G' a → G a ⊎ O a
  pub apart : (a : ℕ) → G a → O a → ⊥
  pub on_old : (a : ℕ) → G a → next' a ≡ next a
  pub on_new : (a : ℕ) → O a → next' a ≡ turn a

module _ {Row G O G' H : ℕ → Type 0} {rev next turn next' link linked : ℕ → ℕ} (R : Reverses Row rev) (W : Turns Row G next)
    (J : Joined G O G' next turn next') (J₀ : Joined (Stands G rev) O H link turn linked)
    (turn_in : (a : ℕ) → O a → O (turn a)) (new_row : (a : ℕ) → O a → Row a)
    (old_links : (a : ℕ) → Stands G rev a → Successor G rev next a (link a)) where
  -- a given row is among the places exactly when it stood
  held : (a : ℕ) → G a → H a → Stands G rev a
  held a g h = go (J₀.either a h)
    where
      go : Stands G rev a ⊎ O a → Stands G rev a
      go (inl s) = s
      go (inr o) = absurd (J.apart a g o)

  into : (a : ℕ) → H a → G' a
  into a h = go (J₀.either a h)
    where
      go : Stands G rev a ⊎ O a → G' a
      go (inl s) = J.old a s.0
      go (inr o) = J.new a o

  pub stands_in : (a : ℕ) → Stands G' rev a → Stands H rev a
  stands_in a (g, n) = (go (J.either a g), λ h. n (into (rev a) h))
    where
      go : G a ⊎ O a → H a
      go (inl h) = J₀.old a (h, λ k. n (J.old (rev a) k))
      go (inr o) = J₀.new a o

  pub stands_out : (a : ℕ) → Stands H rev a → Stands G' rev a
  stands_out a (h, n) = (into a h, λ g. go (J.either (rev a) g) (J₀.either a h))
    where
      go : G (rev a) ⊎ O (rev a) → Stands G rev a ⊎ O a → ⊥
      go (inr o) s = n (J₀.new (rev a) o)
      go (inl g) (inl s) = s.1 g
      -- the reverse was given and does not stand, so a itself was given: but a is new
      go (inl g) (inr o) = n (J₀.old (rev a) (g, λ (k : G (rev (rev a))). J.apart a (subst (λ (w : ℕ). G w) (R.rev_rev a (new_row a o)) k) o))

  -- a link before is the first return over all that is given to the places held
  old_return : (a : ℕ) → Stands G rev a → Lands H (λ w. next' (rev w)) (next' a) (link a)
  old_return a s =
      lands_from (sym (J.on_old a s.0)) (lands_map (λ w. w) G
      (λ w g t. J₀.old w t)
      (λ w g h. held w g h)
      (λ w g n. W.next_in (rev w) (rev_given rev W.given_dec w g n))
      (λ w g n. sym (J.on_old (rev w) (rev_given rev W.given_dec w g n)))
      (W.next_in a s.0) (old_links a s))

  held_return : (a : ℕ) → H a → Lands H (λ w. next' (rev w)) (next' a) (linked a)
  held_return a h = go (J₀.either a h)
    where
      go : Stands G rev a ⊎ O a → Lands H (λ w. next' (rev w)) (next' a) (linked a)
      go (inl s) = lands_to (sym (J₀.on_old a s)) (old_return a s)
      go (inr o) = lands_from (sym (J.on_new a o)) (lands_to (sym (J₀.on_new a o)) (here (J₀.new (turn a) (turn_in a o))))

  -- THE OFFER
  pub offer_links : ((a : ℕ) → Dec (H a)) → (a b : ℕ) → Stands H rev a → Successor H rev linked a b → Successor G' rev next' a b
  offer_links dec a b s r = lands_same stands_out stands_in
      (stage_from (λ w t. t.0) (λ w h n. held_return (rev w) (rev_given rev dec w h n)) (held_return a s.0) r)

  -- a link whose end has no reverse in the new outline is kept: so a ring of such rows is kept, link for link
  pub link_kept : (a : ℕ) → Stands G rev a → (O (rev (link a)) → ⊥) → Successor H rev linked a (link a)
  link_kept a s n = lands_from (sym (J₀.on_old a s)) (here (J₀.old (link a) t, λ h. go (J₀.either (rev (link a)) h)))
    where
      t : Stands G rev (link a)
      t = lands_stop (old_links a s)

      go : Stands G rev (rev (link a)) ⊎ O (rev (link a)) → ⊥
      go (inl q) = t.1 q.0
      go (inr o) = n o

  -- it stands on, unless its reverse is in the new outline
  pub stands_kept : (a : ℕ) → Stands G rev a → (O (rev a) → ⊥) → Stands G' rev a
  stands_kept a s n = (J.old a s.0, λ g. go (J.either (rev a) g))
    where
      go : G (rev a) ⊎ O (rev a) → ⊥
      go (inl g) = s.1 g
      go (inr o) = n o

  -- every row of the ring of a, with links before and after
  module _ (dec : (a : ℕ) → Dec (H a)) (link' : ℕ → ℕ) (new_links : (a : ℕ) → Stands G' rev a → Successor G' rev next' a (link' a))
      (a : ℕ) (s : Stands G rev a) (untouched : (k : ℕ) → O (rev (iter link k a)) → ⊥) where
    ring_stood : (k : ℕ) → Stands G rev (iter link k a)
    ring_stood zero = subst (Stands G rev) (sym (iter_zero link a)) s
    ring_stood (suc k) = subst (Stands G rev) (sym (iter_last link k a)) (lands_stop (old_links (iter link k a) (ring_stood k)))

    pub ring_stands : (k : ℕ) → Stands G' rev (iter link k a)
    ring_stands k = stands_kept (iter link k a) (ring_stood k) (untouched k)

    -- UNTOUCHED RINGS
    pub ring_kept : (k : ℕ) → link' (iter link k a) ≡ link (iter link k a)
    ring_kept k =
        let x = iter link k a in
        lands_unique (new_links x (ring_stands k)) (offer_links dec x (link x) (stands_in x (ring_stands k))
        (link_kept x (ring_stood k) (λ o. untouched (suc k) (subst (λ (w : ℕ). O (rev w)) (sym (iter_last link k a)) o))))
