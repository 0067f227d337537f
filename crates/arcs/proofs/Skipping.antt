-- A turn of `cancel_rows` at a row whose reverse has no slot: nothing changes.
--     met_skip, met_pair     the next of the slots met first, or not
--     kept, none             a number cleared or not
--     mate_is, mate_has      the slot of the reverse
--     cancelling_skip        the turn
-- Assumes nothing.
use mathlib.Core.Path.{◌≡◌, refl, sym, ◌∙◌, ap, subst}
use mathlib.Core.Logic.{⊎_elim, ◌≢◌}
use mathlib.Core.Bool.{Bool, true, false, ◌&&◌, not, cond}
use mathlib.Core.List.{List, ◌∷◌, Memᴰ}
use Prim.Native.Nat.{ℕ}
use borrow.Author.Tests.{not-true}
use Rattle.scope.specs.Lists.{at, member}
use Rattle.scope.specs.Table.{Table, reverse_of}
use Rattle.scope.specs.Memory.{Memory, slot_of}
use Rattle.scope.specs.Pool.{cancels, reverse_slot, met_first}
use Rattle.scope.proofs.Tests.{either, clash, and_left, and_right, and_both}
use Rattle.scope.proofs.Members.{member_true, member_mem}
use Rattle.scope.proofs.Linked.{Has, Linked, row_slot, cancels_has, mate_mate}
use Rattle.arcs.specs.CancelRows.{CancelAsks}
use Rattle.arcs.proofs.After.{after_same, round_same}
use Rattle.arcs.proofs.Gone.{gone, gone_met, gone_mate, gone_skip}
use Rattle.arcs.proofs.Cancelling.{Left, unless_gone, Cancelling}

-- ---- the slots met first

abbrev is_first : Table → Memory → List ℕ → ℕ → Bool
is_first t m l s = cancels t m s && not (member (reverse_slot t m s) l)

pub met_skip : (t : Table) (m : Memory) (l : List ℕ) (s : ℕ) (rest : List ℕ) → (cancels t m s ≡ true → Memᴰ (reverse_slot t m s) l)
    → met_first t m l (s ∷ rest) ≡ met_first t m (s ∷ l) rest
unfolding met_first
met_skip t m l s rest h = ⊎_elim
    (λ (e : is_first t m l s ≡ true).
    absurd (clash (member_true (h (and_left (cancels t m s) _ e))) (not-true (member (reverse_slot t m s) l) (and_right (cancels t m s) _ e))))
    (λ (e : is_first t m l s ≡ false). rw e)
    (either (is_first t m l s))

pub met_pair : (t : Table) (m : Memory) (l : List ℕ) (s : ℕ) (rest : List ℕ) → cancels t m s ≡ true → (Memᴰ (reverse_slot t m s) l → ⊥)
    → met_first t m l (s ∷ rest) ≡ s ∷ met_first t m (s ∷ l) rest
unfolding met_first
met_pair t m l s rest c n = rw (and_both (cancels t m s) _ c (ap not out))
  where
    out : member (reverse_slot t m s) l ≡ false
    out = ⊎_elim (λ e. absurd (n (member_mem (reverse_slot t m s) l e))) (λ e. e) (either (member (reverse_slot t m s) l))

-- ---- the row's slot

-- a number that was not cleared
pub kept : (b : Bool) (v : ℕ) → cond b 0 v ≢ 0 → (b ≡ false) × (v ≢ 0)
kept true v n = absurd (n refl)
kept false v n = (refl, n)

-- a 0 is the same, cleared or not
pub none : (a b : Bool) (v : ℕ) → v ≡ 0 → cond a 0 v ≡ cond b 0 v
none true true v e = refl
none true false v e = sym e
none false true v e = e
none false false v e = refl

module _ {t : Table} {m : Memory} (L : Linked t m) (row : ℕ) (has : Has m row) where
  -- the slot that holds the reverse is the slot of the row's reverse
  pub mate_is : reverse_slot t m (slot_of m row) ≡ slot_of m (reverse_of t row)
  mate_is = ap (λ (r : ℕ). slot_of m (reverse_of t r)) (row_slot L row has)

  pub mate_has : cancels t m (slot_of m row) ≡ true → Has m (reverse_of t row)
  mate_has c = subst (λ (r : ℕ). Has m (reverse_of t r)) (row_slot L row has) (cancels_has t m (slot_of m row) c)

-- ---- the turn

module _ {t : Table} {m : Memory} {n : ℕ} {o : List ℕ} (A : CancelAsks t m n o) (row : ℕ) (has : Has m row) {ss l rest : List ℕ} {pairs : ℕ} {m' : Memory}
    (C : Cancelling t m n ss l (slot_of m row ∷ rest) pairs m') (new : Memᴰ (slot_of m row) l → ⊥) (e : at m'.row_slot (reverse_of t row) ≡ 0) where
  -- if it cancels, it is gone: the pair was met before
  was_gone : cancels t m (slot_of m row) ≡ true → gone t m l (slot_of m row) ≡ true
  was_gone c = ⊎_elim
      (λ (g : gone t m l (slot_of m (reverse_of t row)) ≡ true).
      ap (gone t m l) (sym (mate_mate A.reverses A.linked (slot_of m row) c))
      ∙ gone_mate A.reverses A.linked l (reverse_slot t m (slot_of m row)) (ap (gone t m l) (mate_is A.linked row has) ∙ g))
      (λ (g : gone t m l (slot_of m (reverse_of t row)) ≡ false).
      absurd (mate_has A.linked row has c (sym (C.row_slot (reverse_of t row) ∙ rw g) ∙ e)))
      (either (gone t m l (slot_of m (reverse_of t row))))

  as_before : (w : ℕ) → gone t m (slot_of m row ∷ l) w ≡ gone t m l w
  as_before w = gone_skip A.reverses A.linked l (slot_of m row) w was_gone

  left_in : (a : ℕ) → Left t m l a → Left t m (slot_of m row ∷ l) a
  left_in a u = (u.0, as_before a ∙ u.1)

  left_out : (a : ℕ) → Left t m (slot_of m row ∷ l) a → Left t m l a
  left_out a u = (u.0, sym (as_before a) ∙ u.1)

  not_first : met_first t m l (slot_of m row ∷ rest) ≡ met_first t m (slot_of m row ∷ l) rest
  not_first = met_skip t m l (slot_of m row) rest (λ c. ⊎_elim (λ (i : Memᴰ (slot_of m row) l). absurd (new i)) (λ i. i) (gone_met t m l (slot_of m row) (was_gone c)))

  pub cancelling_skip : Cancelling t m n ss (slot_of m row ∷ l) rest pairs m'
  cancelling_skip = record {
    slot_row = λ s. C.slot_row s ∙ same s (at m.slot_row s);
    slot_cell = λ s. C.slot_cell s ∙ same s (at m.slot_cell s);
    row_slot = λ r. C.row_slot r ∙ same (slot_of m r) (at m.row_slot r);
    round = round_same left_in left_out (λ a u. refl) (λ a u. refl) C.round;
    after = after_same left_in left_out (λ a u. refl) C.after;
    next_clear = λ s k. C.next_clear s (λ u. k (left_in s u));
    prev_clear = λ s k. C.prev_clear s (λ u. k (left_in s u));
    united = rw (← not_first) C.united;
    count = rw (← not_first) C.count;
    used = C.used;
    forest = C.forest;
    long_parent = C.long_parent;
    long_rank = C.long_rank;
    long_row = C.long_row;
    long_cell = C.long_cell;
    long_prev = C.long_prev;
    long_next = C.long_next;
    long_slot = C.long_slot;
  }
    where
      same : (w v : ℕ) → unless_gone t m l w v ≡ unless_gone t m (slot_of m row ∷ l) w v
      same w v = ap (λ (b : Bool). cond b 0 v) (sym (as_before w))
