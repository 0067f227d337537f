-- ONE MORE CELL SHOWS IT: a state that shows its accepted cells, and accepts a cell, shows these cells with that one when it has taken it.
--     shown_holds       a state that shows its cells holds them, as the laws of History ask
--     taken_shown       what a run of calls keeps, is kept
-- Assumes nothing.
use mathlib.Core.Path.{◌≡◌, sym, ◌∙◌, ap, subst}
use mathlib.Core.List.{List, [], ◌∷◌, ◌++◌}
use Prim.Native.Nat.{ℕ, suc, ◌<◌}
use lib.ListN.{length}
use Rattle.scope.specs.Lists.{at}
use Rattle.scope.specs.Table.{Table}
use Rattle.scope.specs.Memory.{Memory, held, held_cells, slot_of}
use Rattle.scope.specs.Pool.{taking}
use Rattle.scope.proofs.Proper.{Proper}
use Rattle.scope.proofs.States.{Holds, Beside, PairsGone}
use Rattle.scope.proofs.StateOf.{state_of, shows_holds, holds_shows}
use Rattle.scope.proofs.OneMore.{holds_offer}
use Rattle.scope.proofs.Linked.{at_in, Has, slot_used}
use Rattle.scope.proofs.Sound.{sound_linked, held_count, Offered}
use Rattle.scope.proofs.Taking.{placed_for, taken_cells}
use Rattle.scope.proofs.TakingRules.{taken_sound}
use Rattle.scope.proofs.TakingCells.{Shown, proper_more}
use Rattle.scope.proofs.TakingStates.{taken_beside, taken_gone}

module _ {t : Table} {m : Memory} {cs : List ℕ} (S : Shown t m cs) where
  pub shown_count : held m ≡ length cs
  shown_count = sym (held_count S.sound) ∙ ap length S.shows.cells

  pub shown_holds : Holds t cs (state_of m)
  shown_holds = shows_holds t m cs S.sound.lengths.row_slot shown_count S.proper owned S.shows
    where
      owned : (a : ℕ) → Has m a → at m.slot_cell (slot_of m a) < held m
      owned a h = let u = slot_used (sound_linked S.sound) a h in (S.sound.rules.slot_used (slot_of m a) (at_in m.slot_row (slot_of m a) u) u).cell_held

-- what the laws of History ask of an accepted offer
module _ {t : Table} {m : Memory} {cs : List ℕ} {x : ℕ} (S : Shown t m cs) (O : Offered t m x) where
  pub shown_proper : Proper t (cs ++ (x ∷ []))
  shown_proper = subst (λ (l : List ℕ). Proper t (l ++ (x ∷ []))) S.shows.cells (proper_more (subst (Proper t) (sym S.shows.cells) S.proper) O)

  pub shown_beside : Beside t x (length cs) (state_of m) (state_of (placed_for t m x))
  shown_beside = subst (λ (n : ℕ). Beside t x n (state_of m) (state_of (placed_for t m x))) (shown_count S) (taken_beside O)

  pub shown_gone : PairsGone t (suc (length cs)) (state_of (placed_for t m x)) (state_of (taking t m x))
  shown_gone = subst (λ (n : ℕ). PairsGone t (suc n) (state_of (placed_for t m x)) (state_of (taking t m x))) (shown_count S) (taken_gone O)

  pub taken_shown : Shown t (taking t m x) (cs ++ (x ∷ []))
  taken_shown =
      let held_is : held_cells (taking t m x) ≡ cs ++ (x ∷ []) = taken_cells O ∙ ap (λ (l : List ℕ). l ++ (x ∷ [])) S.shows.cells in
      let T = taken_sound O in
      record {
        sound = T;
        proper = shown_proper;
        shows = holds_shows t (taking t m x) (cs ++ (x ∷ [])) T.lengths.row_slot (sym (held_count T) ∙ ap length held_is) held_is
            (holds_offer shown_proper (shown_holds S) shown_beside shown_gone);
      }
