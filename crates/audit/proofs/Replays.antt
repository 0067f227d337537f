-- REPLAYS ARE WHAT 3 REFUSES: in even mode an offer is refused by 3 exactly when its cell is held.
--     three_held      so it is of any state that passes the rules
--     replays_are     from a newly opened state, as many verdicts have the number 3 as offers are of a cell that is held then
-- Assumes nothing.
use Prim.Native.Nat.{ℕ, suc, ◌+◌, ◌<◌}
use mathlib.Core.Path.{◌≡◌, refl, sym, ◌∙◌, ap, ap₂}
use mathlib.Core.Bool.{Bool, true, false, ◌&&◌, not, cond}
use mathlib.Core.List.Memᴰ
use mathlib.Core.List.{List, [], ◌∷◌}
use mathlib.Core.Logic.{⊎_elim}
use borrow.Author.Tests.{eq-eqb, eqb-true}
use lib.Dec.{eqb, leb}
use lib.ListN.{length}
use Rattle.scope.specs.declared.Refusal.TheVariants.{InvalidCell, DuplicateInput, UnsupportedResolution, EdgeNotInTable, EdgeTwice, PoolFull, TooManyCells}
use Rattle.std.specs.Prelude.{Err, Ok}
use Rattle.scope.specs.Lists.{at, member, passes}
use Rattle.scope.specs.Cells.{valid_cell}
use Rattle.scope.specs.Answers.{refusal_number, refusal_of, require, ◌▷◌, if_accepted, Verdict}
use Rattle.scope.specs.Table.{Table, target_of, outline_rows}
use Rattle.scope.specs.CellLists.{differs, resolution_fits, cell_verdict}
use Rattle.scope.specs.Memory.{Memory, kept_mode, held, held_cells, places, opened, kept}
use Rattle.scope.specs.Pool.{all_in_table, names_twice, enough_slots, outline_verdict, taking}
use Rattle.scope.specs.Calls.{open_verdict, offer_verdict, offering}
use Rattle.scope.proofs.Tests.{either, clash, same, never, and_false, and_both}
use Rattle.scope.proofs.Scan.{passes_all, passes_not}
use Rattle.scope.proofs.Members.{place, mem_at, member_true, member_mem}
use Rattle.scope.proofs.Sound.{Sound, state_sound, sound_cells, offered}
use Rattle.scope.proofs.Taking.{taken_mode}
use Rattle.scope.proofs.TakingCells.{Shown}
use Rattle.scope.proofs.Run.{offer_shown}
use Rattle.scope.proofs.Dissolving.{open_shown}
use Rattle.audit.specs.Feed.{verdicts, count_of}

-- ---- one offer

-- the number 3 among an offer's tests: the cell is valid and not the first of its kind
three_of : (n h : ℕ) (valid once fits room inside twice slots : Bool)
    → eqb (refusal_of ((require valid (InvalidCell n) ▷ require once (DuplicateInput n) ▷ require fits (UnsupportedResolution n) ▷ (Ok tt) ▷ require room TooManyCells) ▷ require inside (EdgeNotInTable h) ▷ require twice (EdgeTwice h) ▷ require slots (PoolFull h))) 3
    ≡ (valid && not once)
unfolding refusal_of refusal_number
three_of n h false once fits room inside twice slots = refl
three_of n h true false fits room inside twice slots = refl
three_of n h true true false room inside twice slots = refl
three_of n h true true true false inside twice slots = refl
three_of n h true true true true false twice slots = refl
three_of n h true true true true true false slots = refl
three_of n h true true true true true true false = refl
three_of n h true true true true true true true = refl

-- a valid cell that some place has is a member, and the other way round
module _ (cs : List ℕ) (x : ℕ) (valid : (i : ℕ) → i < length cs → valid_cell (at cs i) ≡ true) where
  held_three : (valid_cell x && not (passes (differs cs x) (length cs))) ≡ member x cs
  held_three = same (valid_cell x && not (passes (differs cs x) (length cs))) (member x cs) to from
    where
      to : (valid_cell x && not (passes (differs cs x) (length cs))) ≡ true → member x cs ≡ true
      to e = ⊎_elim (λ m. m) (λ m. absurd (clash e (rw (passes_all (differs cs x) (length cs) (differ m), and_false (valid_cell x))))) (either (member x cs))
        where
          differ : member x cs ≡ false → (i : ℕ) → i < length cs → differs cs x i ≡ true
          differ m i h = ap not (never (eqb (at cs i) x) (λ q. clash (member_true (Memᴰ.cast (sym (eqb-true (at cs i) x q)) (mem_at cs i h))) m))

      from : member x cs ≡ true → (valid_cell x && not (passes (differs cs x) (length cs))) ≡ true
      from m =
          let p = place (member_mem x cs m) in
          and_both (valid_cell x) (not (passes (differs cs x) (length cs))) (sym (ap valid_cell p.2) ∙ valid p.0 p.1)
          (ap not (passes_not (differs cs x) (length cs) p.0 p.1 (ap not (eq-eqb (at cs p.0) x p.2))))

-- REFUSED BY 3 EXACTLY WHERE THE CELL IS HELD
pub three_held : {t : Table} {m : Memory} → Sound t m → kept_mode m ≡ 0 → (x : ℕ) → eqb (refusal_of (offer_verdict t m x)) 3 ≡ member x (held_cells m)
unfolding offer_verdict cell_verdict outline_verdict
three_held {t} {m} S even x =
    let cs = held_cells m in
    let o = outline_rows t x in
    rw (state_sound S, even)
    (three_of (length cs) (held m) (valid_cell x) (passes (differs cs x) (length cs)) (resolution_fits 0 (target_of t) x) (leb (suc (length cs)) (places m))
    (all_in_table t o) (not (names_twice o)) (enough_slots m o)
    ∙ held_three cs x (sound_cells S).valid)

-- ---- a feed

-- how many offers are of a cell that is held when it is offered
unfoldable pub replays_of : Table → Memory → List ℕ → ℕ
replays_of t m [] = 0
replays_of t m (x ∷ xs) = cond (member x (held_cells m)) 1 0 + replays_of t (offering t m x).left xs

module _ (t : Table) where
  left_even : (m : Memory) (x : ℕ) → kept_mode m ≡ 0 → kept_mode (offering t m x).left ≡ 0
  unfolding offering
  left_even m x e = go (offer_verdict t m x) refl
    where
      go : (v : Verdict) → offer_verdict t m x ≡ v → kept_mode (if_accepted v (taking t m x) m) ≡ 0
      go (Ok done) a = taken_mode (offered t m x a) ∙ e
      go (Err why) a = e

  answer_held : (m : Memory) (x : ℕ) → Sound t m → kept_mode m ≡ 0 → eqb (refusal_of (offering t m x).answer) 3 ≡ member x (held_cells m)
  unfolding offering
  answer_held m x S e = three_held S e x

  replays_count : (m : Memory) (cs xs : List ℕ) → Shown t m cs → kept_mode m ≡ 0 → count_of 3 (verdicts t m xs) ≡ replays_of t m xs
  unfolding count_of verdicts replays_of
  replays_count m cs [] S e = refl
  replays_count m cs (x ∷ xs) S e = ap₂ (λ (a b : ℕ). a + b)
      (ap (λ (b : Bool). cond b 1 0) (answer_held m x S.sound e))
      (replays_count (offering t m x).left _ xs (offer_shown t m cs x S) (left_even m x e))

-- THE REPLAYS OF A FEED
pub replays_are : (t : Table) (m : Memory) (mode : ℕ) → open_verdict t m mode ≡ Ok tt → kept mode ≡ 0 → (xs : List ℕ)
    → count_of 3 (verdicts t (opened mode m) xs) ≡ replays_of t (opened mode m) xs
unfolding opened
replays_are t m mode opens even xs = replays_count t (opened mode m) [] xs (open_shown t m mode opens) even
