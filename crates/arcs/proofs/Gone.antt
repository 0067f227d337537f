-- The slots gone when the first slots of an outline have been met: those that cancel and were met, or whose mate was.
--     seen                      the first i slots, the last first, as `met_first` has them
--     gone                      the test; `gone_from`, `gone-to`: what it says
--     gone_mate                 of a pair both are gone or none
--     gone_skip, gone-pair, gone_else     one more slot met: nothing changes, or it and its mate are gone, and the others stay as they were
--     gone_all                  all met: what is gone is what cancels
-- Assumes nothing.
use mathlib.Core.Path.{◌≡◌, refl, sym, ◌∙◌, ap}
use mathlib.Core.Logic.{◌⊎◌, inl, inr, ⊎_elim, ◌≢◌}
use mathlib.Core.Bool.{Bool, true, false, ◌&&◌, ◌||◌}
use mathlib.Core.List.{List, [], ◌∷◌, Memᴰ}
use Prim.Native.Nat.{ℕ, zero, suc, ◌<◌}
use native.Mathlib.Omega.{arith}
use lib.ListN.{length}
use Rattle.scope.specs.Lists.{at, member}
use Rattle.scope.specs.Table.{Table, row_count, reverse_of}
use Rattle.scope.specs.Memory.{Memory}
use Rattle.scope.specs.Pool.{cancels, reverse_slot}
use Rattle.scope.proofs.Tests.{either, clash, same, and_left, and_right, and_both}
use Rattle.scope.proofs.Members.{cases, Fresh, place, fresh_at, member_true, member_mem}
use Rattle.scope.proofs.Successor.{Reverses}
use Rattle.scope.proofs.Linked.{Linked, mate_cancels, mate_mate}

-- ---- the slots met

unfoldable pub seen : List ℕ → ℕ → List ℕ
seen ss zero = []
seen ss (suc i) = at ss i ∷ seen ss i

pub seen_none : (ss : List ℕ) → seen ss 0 ≡ []
unfolding seen
seen_none ss = refl

pub seen_more : (ss : List ℕ) (i : ℕ) → seen ss (suc i) ≡ at ss i ∷ seen ss i
unfolding seen
seen_more ss i = refl

seen_place : (ss : List ℕ) (i a : ℕ) → Memᴰ a (seen ss i) → (j : ℕ) × (j < i) × (at ss j ≡ a)
unfolding seen
seen_place ss zero a m = absurd (mathlib.Core.List.Memᴰ.not-nil m)
seen_place ss (suc i) a m = ⊎_elim
    (λ (e : a ≡ at ss i). (i, omega arith, sym e))
    (λ (k : Memᴰ a (seen ss i)). let r = seen_place ss i a k in (r.0, omega (arith, r.1), r.2))
    (mathlib.Core.List.Memᴰ.cases_cons m)

place_seen : (ss : List ℕ) (i j : ℕ) → j < i → Memᴰ (at ss j) (seen ss i)
unfolding seen
place_seen ss zero j h = absurd (omega arith)
place_seen ss (suc i) j h = cases j i (λ e. mathlib.Core.List.Memᴰ.head (ap (at ss) e)) (λ d. mathlib.Core.List.Memᴰ.tail (place_seen ss i j (omega arith)))

-- the next slot was not met
pub seen_not : (ss : List ℕ) (i : ℕ) → Fresh ss → i < length ss → Memᴰ (at ss i) (seen ss i) → ⊥
seen_not ss i f h m = let r = seen_place ss i (at ss i) m in let e = fresh_at ss f r.0 i (omega (arith, r.1)) h r.2 in omega (arith, r.1)

-- in the end all were
pub seen_all : (ss : List ℕ) (a : ℕ) → Memᴰ a ss → Memᴰ a (seen ss (length ss))
seen_all ss a m = let r = place m in mathlib.Core.List.Memᴰ.cast (sym r.2) (place_seen ss (length ss) r.0 r.1)

-- ---- the slots gone

abbrev pub gone : Table → Memory → List ℕ → ℕ → Bool
gone t m l s = cancels t m s && (member s l || member (reverse_slot t m s) l)

or_either : (a b : Bool) → (a || b) ≡ true → (a ≡ true) ⊎ (b ≡ true)
or_either true b e = inl refl
or_either false b e = inr e

or_left : (a b : Bool) → a ≡ true → (a || b) ≡ true
or_left true b e = refl
or_left false b e = absurd (clash e refl)

or_right : (a b : Bool) → b ≡ true → (a || b) ≡ true
or_right true b e = refl
or_right false b e = e

module _ (t : Table) (m : Memory) where
  abbrev pub Met : List ℕ → ℕ → Type 0
  Met l s = Memᴰ s l ⊎ Memᴰ (reverse_slot t m s) l

  pub gone_from : (l : List ℕ) (s : ℕ) → cancels t m s ≡ true → Met l s → gone t m l s ≡ true
  gone_from l s c k = and_both (cancels t m s) _ c (⊎_elim
      (λ (i : Memᴰ s l). or_left (member s l) (member (reverse_slot t m s) l) (member_true i))
      (λ (i : Memᴰ (reverse_slot t m s) l). or_right (member s l) (member (reverse_slot t m s) l) (member_true i)) k)

  pub gone_cancels : (l : List ℕ) (s : ℕ) → gone t m l s ≡ true → cancels t m s ≡ true
  gone_cancels l s e = and_left (cancels t m s) _ e

  pub gone_met : (l : List ℕ) (s : ℕ) → gone t m l s ≡ true → Met l s
  gone_met l s e = ⊎_elim
      (λ (a : member s l ≡ true). inl (member_mem s l a))
      (λ (a : member (reverse_slot t m s) l ≡ true). inr (member_mem (reverse_slot t m s) l a))
      (or_either (member s l) (member (reverse_slot t m s) l) (and_right (cancels t m s) _ e))

  pub gone_none : (s : ℕ) → gone t m [] s ≡ false
  gone_none s = ⊎_elim (λ e. absurd (⊎_elim (λ i. mathlib.Core.List.Memᴰ.not-nil i) (λ i. mathlib.Core.List.Memᴰ.not-nil i) (gone_met [] s e))) (λ e. e) (either (gone t m [] s))

  -- what was gone stays gone
  pub gone_on : (l : List ℕ) (x s : ℕ) → gone t m l s ≡ true → gone t m (x ∷ l) s ≡ true
  gone_on l x s e = gone_from (x ∷ l) s (gone_cancels l s e) (⊎_elim (λ i. inl (mathlib.Core.List.Memᴰ.tail i)) (λ i. inr (mathlib.Core.List.Memᴰ.tail i)) (gone_met l s e))

  -- all met
  pub gone_all : (l : List ℕ) → ((s : ℕ) → cancels t m s ≡ true → Met l s) → (s : ℕ) → gone t m l s ≡ cancels t m s
  gone_all l h s = same _ _ (gone_cancels l s) (λ c. gone_from l s c (h s c))

module _ {t : Table} {m : Memory} (R : Reverses (λ a. a < row_count t) (reverse_of t)) (L : Linked t m) where
  pub gone_mate : (l : List ℕ) (s : ℕ) → gone t m l s ≡ true → gone t m l (reverse_slot t m s) ≡ true
  gone_mate l s e =
      let c = gone_cancels t m l s e in
      gone_from t m l (reverse_slot t m s) (mate_cancels R L s c)
      (⊎_elim (λ i. inr (mathlib.Core.List.Memᴰ.cast (mate_mate R L s c) i)) (λ i. inl i) (gone_met t m l s e))

  -- one more slot x is met
  module _ (l : List ℕ) (x w : ℕ) where
    -- w was gone before, or it is x, or its mate is
    parted : gone t m (x ∷ l) w ≡ true → (gone t m l w ≡ true) ⊎ ((w ≡ x) ⊎ (reverse_slot t m w ≡ x))
    parted e =
        let c = gone_cancels t m (x ∷ l) w e in
        ⊎_elim
        (λ (i : Memᴰ w (x ∷ l)). ⊎_elim (λ (q : w ≡ x). inr (inl q)) (λ (k : Memᴰ w l). inl (gone_from t m l w c (inl k))) (mathlib.Core.List.Memᴰ.cases_cons i))
        (λ (i : Memᴰ (reverse_slot t m w) (x ∷ l)).
        ⊎_elim (λ (q : reverse_slot t m w ≡ x). inr (inr q)) (λ (k : Memᴰ (reverse_slot t m w) l). inl (gone_from t m l w c (inr k))) (mathlib.Core.List.Memᴰ.cases_cons i))
        (gone_met t m (x ∷ l) w e)

    pub gone_skip : (cancels t m x ≡ true → gone t m l x ≡ true) → gone t m (x ∷ l) w ≡ gone t m l w
    gone_skip h = same _ _ (λ e. go e (parted e)) (gone_on t m l x w)
      where
        go : gone t m (x ∷ l) w ≡ true → (gone t m l w ≡ true) ⊎ ((w ≡ x) ⊎ (reverse_slot t m w ≡ x)) → gone t m l w ≡ true
        go e (inl g) = g
        go e (inr (inl q)) = ap (gone t m l) q ∙ h (ap (cancels t m) (sym q) ∙ gone_cancels t m (x ∷ l) w e)
        go e (inr (inr q)) =
            let c = gone_cancels t m (x ∷ l) w e in
            let g = h (ap (cancels t m) (sym q) ∙ mate_cancels R L w c) in
            ap (gone t m l) (sym (mate_mate R L w c) ∙ ap (reverse_slot t m) q) ∙ gone_mate l x g

    pub gone_else : w ≢ x → w ≢ reverse_slot t m x → gone t m (x ∷ l) w ≡ gone t m l w
    gone_else n k = same _ _ (λ e. go e (parted e)) (gone_on t m l x w)
      where
        go : gone t m (x ∷ l) w ≡ true → (gone t m l w ≡ true) ⊎ ((w ≡ x) ⊎ (reverse_slot t m w ≡ x)) → gone t m l w ≡ true
        go e (inl g) = g
        go e (inr (inl q)) = absurd (n q)
        go e (inr (inr q)) = absurd (k (sym (mate_mate R L w (gone_cancels t m (x ∷ l) w e)) ∙ ap (reverse_slot t m) q))

  pub gone_first : (l : List ℕ) (x : ℕ) → cancels t m x ≡ true → gone t m (x ∷ l) x ≡ true
  gone_first l x c = gone_from t m (x ∷ l) x c (inl (mathlib.Core.List.Memᴰ.head refl))

  pub gone_second : (l : List ℕ) (x : ℕ) → cancels t m x ≡ true → gone t m (x ∷ l) (reverse_slot t m x) ≡ true
  gone_second l x c = gone_mate (x ∷ l) x (gone_first l x c)
