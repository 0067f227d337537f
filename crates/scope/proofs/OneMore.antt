-- ONE MORE ACCEPTED CELL: a state that holds what is worked out afresh from cells, its new outline placed and its pairs cancelled, holds what
-- is worked out afresh from one more cell.
--     front_stands, front_all, front_links     the rows that stand, and their successors
--     ring_untouched                           rings that hold no reverse of an edge of the new outline are left as they were
--     more_groups                              the groups: a cancelled pair is a touching pair of the new cell with another, or with itself
--     holds_offer                              all of it
-- Assumes nothing.
use mathlib.Core.Path.{◌≡◌, refl, sym, ◌∙◌, ap, subst}
use mathlib.Core.Logic.{◌⊎◌, inl, inr, ◌≢◌}
use mathlib.Core.List.{List, [], ◌∷◌, ◌++◌, Memᴰ}
use Prim.Native.Nat.{ℕ, suc, ◌<◌}
use native.Mathlib.Omega.{arith}
use lib.ListN.{length, length-append, get_or-append}
use lib.Seq.{get_or-append_seam}
use Rattle.scope.specs.Lists.{at}
use Rattle.scope.specs.Table.{Table, row_count, reverse_of, outline_rows}
use Rattle.scope.specs.Standing.{next_in, next_of, outlines, Chain, alone, pair, back, Touch, GivenBy, StandsIn, SuccessorIn}
use Rattle.scope.proofs.Members.{cases, Fresh, mem_at, fresh_at}
use Rattle.scope.proofs.Successor.{Turns}
use Rattle.scope.proofs.Cycle.{iter}
use Rattle.scope.proofs.Offer.{Joined, stands_in, stands_out, offer_links, ring_stands, ring_kept}
use Rattle.scope.proofs.Outlines.{next_in_in, outlines_join}
use Rattle.scope.proofs.Proper.{Proper, proper_less, proper_apart, proper_turns, proper_front, last_first, given_of}
use Rattle.scope.proofs.OrderFree.{stands_free, successor_free}
use Rattle.scope.proofs.Chains.{chain_mono}
use Rattle.scope.proofs.Labels.{Labelled, labelled_chain}
use Rattle.scope.proofs.LabelsAfresh.{TouchAt}
use Rattle.scope.proofs.Groups.{TellsGroups, group_labels, labels_group, group_places}
use Rattle.scope.proofs.States.{State, Holds, Beside, Unites, PairsGone}

-- ---- rows and links, with the new cell in front

module _ {t : Table} {cs : List ℕ} {x : ℕ} {s s₀ s' : State} (P : Proper t (x ∷ cs)) (K : Holds t cs s) (B : Beside t x (length cs) s s₀)
    (C : PairsGone t (suc (length cs)) s₀ s') where
  -- the rows held, under the name of the definition
  J₀ : Joined (StandsIn t cs) (λ a. Memᴰ a (outline_rows t x)) s₀.has s.link (next_in (outline_rows t x)) s₀.link
  J₀ = record {
    old = λ a h. B.rows.old a (K.all a h);
    new = B.rows.new;
    either = λ a h. go a (B.rows.either a h);
    apart = λ a h m. B.rows.apart a (K.all a h) m;
    on_old = λ a h. B.rows.on_old a (K.all a h);
    on_new = B.rows.on_new;
  }
    where
      go : (a : ℕ) → s.has a ⊎ Memᴰ a (outline_rows t x) → StandsIn t cs a ⊎ Memᴰ a (outline_rows t x)
      go a (inl h) = inl (K.stands a h)
      go a (inr m) = inr m

  J : Joined (GivenBy t cs) (λ a. Memᴰ a (outline_rows t x)) (GivenBy t (x ∷ cs)) (next_of (outlines t cs)) (next_in (outline_rows t x)) (next_of (outlines t (x ∷ cs)))
  J = outlines_join (outline_rows t x) (outlines t cs) (proper_apart t (x ∷ cs) P)

  W : Turns (λ a. a < row_count t) (GivenBy t cs) (next_of (outlines t cs))
  W = proper_turns (proper_less P)

  turn_in : (a : ℕ) → Memᴰ a (outline_rows t x) → Memᴰ (next_in (outline_rows t x) a) (outline_rows t x)
  turn_in a m = next_in_in (outline_rows t x) a (P.once x (Memᴰ.head refl)) m

  new_row : (a : ℕ) → Memᴰ a (outline_rows t x) → a < row_count t
  new_row a m = P.in_table x a (Memᴰ.head refl) m

  old_links : (a : ℕ) → StandsIn t cs a → SuccessorIn t cs a (s.link a)
  old_links a h = K.links a (K.all a h)

  pub front_stands : (a : ℕ) → s'.has a → StandsIn t (x ∷ cs) a
  front_stands a h = stands_out P.reverses W J J₀ turn_in new_row old_links a (C.out a h)

  pub front_all : (a : ℕ) → StandsIn t (x ∷ cs) a → s'.has a
  front_all a h = C.stay a (stands_in P.reverses W J J₀ turn_in new_row old_links a h)

  pub front_links : (a : ℕ) → s'.has a → SuccessorIn t (x ∷ cs) a (s'.link a)
  front_links a h = offer_links P.reverses W J J₀ turn_in new_row old_links C.dec a (s'.link a) (C.out a h) (C.rule a h)

  -- UNTOUCHED RINGS: a ring that holds no reverse of an edge of the new outline keeps its rows and every link
  pub ring_untouched : (a : ℕ) → s.has a → ((k : ℕ) → Memᴰ (reverse_of t (iter s.link k a)) (outline_rows t x) → ⊥)
      → (k : ℕ) → s'.has (iter s.link k a) × (s'.link (iter s.link k a) ≡ s.link (iter s.link k a))
  ring_untouched a h n k =
      let new_links : (a : ℕ) → StandsIn t (x ∷ cs) a → SuccessorIn t (x ∷ cs) a (s'.link a) = λ a u. front_links a (front_all a u) in
      let z = K.stands a h in (
        front_all (iter s.link k a) (ring_stands P.reverses W J J₀ turn_in new_row old_links C.dec s'.link new_links a z n k),
        ring_kept P.reverses W J J₀ turn_in new_row old_links C.dec s'.link new_links a z n k,
      )

-- ---- groups, with the new cell at the end

-- places of a list and one more
module _ (cs : List ℕ) (x : ℕ) where
  pub more_length : length (cs ++ (x ∷ [])) ≡ suc (length cs)
  more_length = let e = length-append cs (x ∷ []) in omega arith

  pub more_old : (p : ℕ) → p < length cs → at (cs ++ (x ∷ [])) p ≡ at cs p
  more_old p h = get_or-append cs (x ∷ []) 0 p h

  pub more_new : at (cs ++ (x ∷ [])) (length cs) ≡ x
  more_new = get_or-append_seam cs x [] 0

module _ {t : Table} {cs : List ℕ} {x : ℕ} {s s₀ s' : State} (P : Proper t (cs ++ (x ∷ []))) (K : Holds t cs s) (B : Beside t x (length cs) s s₀)
    (C : PairsGone t (suc (length cs)) s₀ s') where
  F : Proper t (x ∷ cs)
  F = proper_front cs x P

  fresh : Fresh cs
  fresh = F.distinct.1

  -- a row held is given by the cell at its place
  given_there : (a p : ℕ) → s₀.has a → s₀.cell a ≡ p → (p < suc (length cs)) × Memᴰ a (outline_rows t (at (cs ++ (x ∷ [])) p))
  given_there a p h e = go (B.rows.either a h)
    where
      go : s.has a ⊎ Memᴰ a (outline_rows t x) → (p < suc (length cs)) × Memᴰ a (outline_rows t (at (cs ++ (x ∷ [])) p))
      go (inl k) =
          let d : s.cell a ≡ p = sym (B.old_cell a k) ∙ e in
          let l : p < length cs = subst (λ (w : ℕ). w < length cs) d (K.place a k) in
          (omega arith, subst (λ (w : ℕ). Memᴰ a (outline_rows t w)) (ap (at cs) d ∙ sym (more_old cs x p l)) (K.gives a k))
      go (inr m) =
          let d : length cs ≡ p = sym (B.new_cell a m) ∙ e in
          (omega arith, subst (λ (w : ℕ). Memᴰ a (outline_rows t w)) (sym (more_new cs x) ∙ ap (at (cs ++ (x ∷ []))) d) m)

  -- touching places of the cells before touch on
  touch_on : (p q : ℕ) → TouchAt t cs p q → TouchAt t (cs ++ (x ∷ [])) p q
  touch_on p q (h, k, e) =
      let l = more_length cs x in
      (omega arith, omega arith, subst (λ (w : ℕ). Touch t w (at (cs ++ (x ∷ [])) q)) (sym (more_old cs x p h)) (subst (Touch t (at cs p)) (sym (more_old cs x q k)) e))

  to_touch : (p q : ℕ) → Unites t (suc (length cs)) s₀ p q → Chain (TouchAt t (cs ++ (x ∷ []))) p q
  to_touch p q (h, k, inr (a, i, j, d, e)) =
      let l = more_length cs x in
      pair {x = p} {y = q} (omega arith, omega arith, (a, (given_there a p i d).1, (given_there (reverse_of t a) q j e).1))
  to_touch p q (h, k, inl e) = cases p (length cs)
      (λ y. cases q (length cs)
      (λ z. subst (Chain (TouchAt t (cs ++ (x ∷ []))) p) (y ∙ sym z) alone)
      (λ z. absurd (B.new_root q (omega arith) (sym e ∙ ap s₀.root y))))
      (λ y. cases q (length cs)
      (λ z. absurd (B.new_root p (omega arith) (e ∙ ap s₀.root z)))
      (λ z. both (omega arith) (omega arith)))
    where
      both : p < length cs → q < length cs → Chain (TouchAt t (cs ++ (x ∷ []))) p q
      both l m = chain_mono touch_on (group_places t cs fresh p q l m ((K.groups p q l m).0 (sym (B.old_root p l) ∙ e ∙ B.old_root q m)))

  -- an edge of the new outline and its reverse in an old one: the reverse stood, so the pair cancels
  touch_new : (a q : ℕ) → q < length cs → Memᴰ a (outline_rows t x) → Memᴰ (reverse_of t a) (outline_rows t (at cs q)) → Chain (Unites t (suc (length cs)) s₀) (length cs) q
  touch_new a q h m k =
      pair {x = length cs} {y = q} (omega arith, omega arith, inr (a, B.rows.new a m, B.rows.old (reverse_of t a) old, B.new_cell a m, B.old_cell (reverse_of t a) old ∙ same))
    where
      given : GivenBy t cs (reverse_of t a)
      given = given_of t (reverse_of t a) (mem_at cs q h) k

      new : GivenBy t cs (reverse_of t (reverse_of t a)) → ⊥
      new g = (proper_apart t (x ∷ cs) F).1 a m (subst (GivenBy t cs) (F.reverses.rev_rev a (F.in_table x a (Memᴰ.head refl) m)) g)

      old : s.has (reverse_of t a)
      old = K.all (reverse_of t a) (given, new)

      -- it is held in the name of the one cell that gives it
      same : s.cell (reverse_of t a) ≡ q
      same = fresh_at cs fresh (s.cell (reverse_of t a)) q (K.place (reverse_of t a) old) h
          (F.apart (at cs (s.cell (reverse_of t a))) (at cs q) (reverse_of t a) (Memᴰ.tail (mem_at cs (s.cell (reverse_of t a)) (K.place (reverse_of t a) old)))
          (Memᴰ.tail (mem_at cs q h)) (K.gives (reverse_of t a) old) k)

  from_touch : (p q : ℕ) → TouchAt t (cs ++ (x ∷ [])) p q → Chain (Unites t (suc (length cs)) s₀) p q
  from_touch p q (h, k, (a, i, j)) = cases p (length cs)
      (λ y. cases q (length cs)
      (λ z. subst (Chain (Unites t (suc (length cs)) s₀) p) (y ∙ sym z) alone)
      (λ z. rw y (touch_new a q (small q k z) (row_new a p y i) (row_old (reverse_of t a) q (small q k z) j))))
      (λ y. cases q (length cs)
      (λ z. rw z (back (touch_new (reverse_of t a) p (small p h y) (row_new (reverse_of t a) q z j)
      (subst (λ (w : ℕ). Memᴰ w (outline_rows t (at cs p))) (sym (F.reverses.rev_rev a (in_row a p (small p h y) i))) (row_old a p (small p h y) i)))))
      (λ z. both (small p h y) (small q k z)))
    where
      small : (p : ℕ) → p < length (cs ++ (x ∷ [])) → p ≢ length cs → p < length cs
      small p h y = let l = more_length cs x in omega arith

      row_new : (b p : ℕ) → p ≡ length cs → Memᴰ b (outline_rows t (at (cs ++ (x ∷ [])) p)) → Memᴰ b (outline_rows t x)
      row_new b p y m = subst (λ (w : ℕ). Memᴰ b (outline_rows t w)) (ap (at (cs ++ (x ∷ []))) y ∙ more_new cs x) m

      row_old : (b p : ℕ) → p < length cs → Memᴰ b (outline_rows t (at (cs ++ (x ∷ [])) p)) → Memᴰ b (outline_rows t (at cs p))
      row_old b p l m = subst (λ (w : ℕ). Memᴰ b (outline_rows t w)) (more_old cs x p l) m

      in_row : (b p : ℕ) → p < length cs → Memᴰ b (outline_rows t (at (cs ++ (x ∷ [])) p)) → b < row_count t
      in_row b p l m = F.in_table (at cs p) b (Memᴰ.tail (mem_at cs p l)) (row_old b p l m)

      both : p < length cs → q < length cs → Chain (Unites t (suc (length cs)) s₀) p q
      both l m = pair {x = p} {y = q} (omega arith, omega arith, inl (B.old_root p l ∙ (group_labels t cs s.root fresh K.groups).complete p q (l, m, (a, row_old a p l i, row_old (reverse_of t a) q m j)) ∙ sym (B.old_root q m)))

  pub more_groups : TellsGroups t (cs ++ (x ∷ [])) s'.root
  more_groups = labels_group t (cs ++ (x ∷ [])) s'.root P.distinct (subst (λ (n : ℕ). Labelled n (TouchAt t (cs ++ (x ∷ []))) s'.root) (sym (more_length cs x))
      (labelled_chain to_touch from_touch (λ p q e. let l = more_length cs x in (omega (arith, e.0), omega (arith, e.1))) C.united))

  -- ONE MORE ACCEPTED CELL
  pub holds_offer : Holds t (cs ++ (x ∷ [])) s'
  holds_offer =
      let E = last_first cs x in
      let S : (a : ℕ) → s'.has a → s₀.has a = λ a h. (C.out a h).0 in
      let l = more_length cs x in
      record {
        stands = λ a h. stands_free t (E.1, E.0) a (front_stands F K B C a h);
        all = λ a h. front_all F K B C a (stands_free t E a h);
        links = λ a h. successor_free F P (E.1, E.0) a (s'.link a) (front_stands F K B C a h).0 (front_links F K B C a h);
        place = λ a h. let z = (given_there a (s'.cell a) (S a h) (sym (C.cell a h))).0 in omega arith;
        gives = λ a h. (given_there a (s'.cell a) (S a h) (sym (C.cell a h))).1;
        groups = more_groups;
      }
