-- Two slots cleared and their flags set: free slots are flagged.
-- Assumes nothing.
use mathlib.Core.Path.{◌≡◌, ◌∙◌}
use mathlib.Core.Logic.{◌≢◌}
use mathlib.Core.List.{List}
use Prim.Native.Nat.{ℕ, ◌<◌}
use lib.ListN.{length, set, length-set}
use lib.Seq.{get_or-set_other}
use Rattle.scope.specs.Lists.{at}
use Rattle.free_slots.specs.Search.{Flags, vacated}
use Rattle.free_slots.proofs.Flagged.{flags_vacated}
use Rattle.pair_links.specs.Links.{clear_two}

pub clear_length : (l : List ℕ) (x y : ℕ) → length (clear_two l x y) ≡ length l
unfolding clear_two
clear_length l x y = simp length-set

clear_other : (l : List ℕ) (x y s : ℕ) → s ≢ x → s ≢ y → at (clear_two l x y) s ≡ at l s
unfolding clear_two
clear_other l x y s d k = get_or-set_other (set l x 0) y s 0 0 k ∙ get_or-set_other l x s 0 0 d

pub flags_cleared : {vacant slot_row : List ℕ} → Flags vacant slot_row → {x y : ℕ} → x < length slot_row → y < length slot_row
    → {slotRow' vacant' : List ℕ} → slotRow' ≡ clear_two slot_row x y → vacant' ≡ vacated (vacated vacant x) y → Flags vacant' slotRow'
flags_cleared {slot_row = slot_row} F {x} {y} hx hy e f = rw e (flags_vacated F hx hy (clear_length slot_row x y) (clear_other slot_row x y) f)
