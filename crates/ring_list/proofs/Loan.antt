-- A `&κ mut [T]` x of the caller's that is passed to a callee which writes it, and then, for good, to one which reads it. Of any element type; it says nothing of the crate.
--     at_name δ l, seen l     x under the name δ, at the list l; what is shared of it, at l
--     Lent             what is kept while x is lent again for the lifetime ν of a call (`Again.antt`'s `LentAgain`)
--     lends            own x ∗ [κ]_q  ⊢ ⇛ ∃ δ. own (the `&ν mut [T]` at δ) ∗ Lent
--     back_shared      given what the kit asks of elements that are shared, `Room` and that zs is as long:  [†ν] ∗ Lent ∗ finally δ zs  ⊢ ⇛ own (the `&κ [T]` of zs) ∗ (finally (name x) zs ∗ [κ]_q)        x comes back at zs and is shared for all the time that it has left
-- Assumes `Logic`.
use mathlib.Core.Path.{◌≡◌}
use Prim.Native.Nat.{ℕ}
use mathlib.Core.List.{List, [], ◌∷◌}
use lib.ListN.{length}
use seplogic.Ra.Ura.{Ura}
use mir.Syntax.{Lifetime, erased}
use base.Logic.{ent, sep, ex}
use base.Fml.{Lft, GName, Share, Fml, flft, fdead}
use types.Logic.{Logic, sem}
use types.Kit.{‵, ◌⊛◌, some, later, ◌$◌, ◌∵◌, !, qed, use2, use3, split, pick, fsplit, fjoin, frame, await, updating, now as at_once, show, done}
use denote.RattleType.{RattleType, RowLaws}
use denote.Shares.{Shares}
use denote.Shadow.{pure_l, pure_i}
use denote.Ref.{Bor, MutBor}
use denote.Slice.{MutSlice, ShrSlice, Room, room, finally, shr_slice_at, mut_slice_at, mut_slice_vals}
use borrow.Table.Owned as Owned
use borrow.Rule.Slice.Handed.{sl_Share}
use Rattle.ring_list.proofs.Again as Again

module _ (R : RattleType) (κ : Lft) (q : Share) (x : MutBor (List R.Denot)) where
  abbrev pub at_name : GName → List R.Denot → MutBor (List R.Denot)
  at_name δ l = record { ref_ptr = x.ref_ptr; ghost_name = δ; now = l }

  abbrev pub seen : List R.Denot → Bor (List R.Denot)
  seen l = record { ref_ptr = x.ref_ptr; now = l }

  abbrev pub Lent : ℕ → GName → Fml
  Lent ν δ = Again.LentAgain R κ (ν ∷ []) q x.ghost_name x.ref_ptr.0 x.ref_ptr.1 δ x.now

  module _ {M : Type 1} {𝓤 : Ura M} (𝓛 : Logic 𝓤) (ℓ ℓ' : Lifetime) where
    open 𝓛 use {H, A}

    pub lends : (ν : ℕ) → ent 𝓤 (sep 𝓤 (sem 𝓛 ((MutSlice ℓ κ R).own_val x (mut_slice_vals x))) (A.lft κ q))
        (H.⇛ (ex 𝓤 (λ (δ : GName). sep 𝓤 (sem 𝓛 ((MutSlice ℓ' (ν ∷ []) R).own_val (at_name δ x.now) (mut_slice_vals x))) (sem 𝓛 (Lent ν δ)))))
    lends ν = Again.lends_again R κ (ν ∷ []) q x.ghost_name x.ref_ptr.0 x.ref_ptr.1 𝓛 ℓ ℓ' x.now

    pub back_shared : RowLaws R → Shares 𝓛 R κ → (ν : ℕ) (δ : GName) (zs : List R.Denot) → Room R (length x.now) → length zs ≡ length x.now
        → ent 𝓤 (sep 𝓤 (A.dead (ν ∷ [])) (sep 𝓤 (sem 𝓛 (Lent ν δ)) (sem 𝓛 (finally R δ zs))))
        (H.⇛ (sep 𝓤 (sem 𝓛 ((ShrSlice ℓ' κ R).own_val (seen zs) (mut_slice_vals x))) (sep 𝓤 (sem 𝓛 (finally R x.ghost_name zs)) (A.lft κ q))))
    back_shared laws shares ν δ zs g e =
        qed 𝓛 (‵ (fdead (ν ∷ [])) ∷ ‵ (Lent ν δ) ∷ ‵ (finally R δ zs) ∷ []) ∵ updating ! $
        use3 𝓛 (later (‵ ((MutSlice ℓ κ R).own_val (at_name x.ghost_name zs) (mut_slice_vals x)) ⊛ ‵ (flft κ q))) (Again.comes_back R κ (ν ∷ []) q x.ghost_name x.ref_ptr.0 x.ref_ptr.1 𝓛 ℓ ℓ' x.now δ zs g e) $ await ! tt $ split ! $
        fsplit ! $ pure_l ! (mut_slice_at R (at_name x.ghost_name zs) (mut_slice_vals x)) (λ p. pure_i ! (room R (length zs)) (tt, tt) p.1 $ fjoin ! $
        use2 𝓛 (later (‵ ((Owned.ShrSlice erased κ R).own_val (seen zs)) ⊛ (‵ (finally R x.ghost_name zs) ⊛ ‵ (flft κ q)))) (sl_Share 𝓛 R x.ref_ptr.0 x.ref_ptr.1 x.ghost_name zs laws κ q shares) $ await ! tt $ split ! $
        fsplit ! $ pure_l ! (room R (length zs)) (λ r. pure_i ! (shr_slice_at R (seen zs) (mut_slice_vals x)) (tt, (tt, tt)) p $ fjoin ! $ at_once ! $
        frame ! $ split ! $ frame ! $ done !))
