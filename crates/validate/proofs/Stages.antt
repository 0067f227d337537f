-- The stages of a list's verdict that the code takes together.
-- Assumes nothing.
use Prim.Native.Nat.{ℕ, ◌<◌}
use mathlib.Core.Path.{◌≡◌}
use mathlib.Core.Bool.{Bool, true, false, not, cond}
use mathlib.Core.List.{List}
use native.Mathlib.Decide.{dec_lt}
use native.Mathlib.Omega.{arith}
use lib.ListN.{length}
use borrow.Author.Tests.{lt-ltb, le-ltb}
use Rattle.std.specs.Prelude.{Option, None, Some, Ok, Err}
use Rattle.scope.specs.declared.Refusal.{Refusal}
use Rattle.scope.specs.declared.Refusal.TheVariants.{InvalidCell, DuplicateInput, UnsupportedResolution}
use Rattle.scope.specs.Lists.{first_bad}
use Rattle.scope.specs.Answers.{Verdict, require_none, found_below, ◌▷◌}
use Rattle.scope.specs.CellLists.{is_even, valid_at, first_of_its_kind, resolution_fits_at, under_none, in_mixed, room_for, list_verdict}
use Rattle.scope.proofs.Scan.{first_bad_lowest}
use Rattle.validate.specs.Parts.{lowest, AllValid, Found}
use Rattle.validate.proofs.Joining.{found_second}

-- an index that is found is refused
abbrev pub refused : (ℕ → Refusal) → Option ℕ → Verdict
refused why None = Ok tt
refused why (Some i) = Err (why i)

refused_below : (why : ℕ → Refusal) (n r : ℕ) → require_none why n r ≡ refused why (found_below n r)
refused_below why n r = elim (dec_lt r n) [ yes h ↦ rw (lt-ltb r n h) | no h ↦ rw (le-ltb r n (omega arith)) ]

-- where no cell is invalid
pub all_valid : (cs : List ℕ) → lowest (valid_at cs) (length cs) ≡ None → AllValid cs
all_valid cs e i l = (first_bad_lowest (valid_at cs) (length cs)).before i (none_below (length cs) (first_bad (valid_at cs) (length cs)) e i l)
  where
    none_below : (n r : ℕ) → found_below n r ≡ None → (k : ℕ) → k < n → k < r
    none_below n r e k h = elim (dec_lt r n) [ yes g ↦ absurd (let w = rw (lt-ltb r n g) at e in cc) | no g ↦ omega arith ]

-- in even mode no nested cell is looked for
nested_is : {cs : List ℕ} (mode : ℕ) {s m : Option ℕ} → Found cs (length cs) (not (is_even mode)) s m
    → in_mixed mode (require_none DuplicateInput (length cs) (first_bad (under_none cs) (length cs))) ≡ refused DuplicateInput m
nested_is {cs} mode {s} {m} F = go (is_even mode) F.nested_is
  where
    go : (even : Bool) → m ≡ cond (not even) (lowest (under_none cs) (length cs)) None
        → cond even (Ok tt) (require_none DuplicateInput (length cs) (first_bad (under_none cs) (length cs))) ≡ refused DuplicateInput m
    go true e = rw e
    go false e = rw e (refused_below DuplicateInput (length cs) (first_bad (under_none cs) (length cs)))

module _ (mode target capacity : ℕ) (cs : List ℕ) where
  -- the lowest indices, each refused in turn
  pub stages : {s m : Option ℕ} → Found cs (length cs) (not (is_even mode)) s m
      → list_verdict mode target capacity cs
      ≡ refused InvalidCell (lowest (valid_at cs) (length cs))
      ▷ refused DuplicateInput s
      ▷ refused UnsupportedResolution (lowest (resolution_fits_at mode target cs) (length cs))
      ▷ refused DuplicateInput m
      ▷ room_for capacity (length cs)
  unfolding list_verdict
  stages {s} {m} F = rw (
    refused_below InvalidCell (length cs) (first_bad (valid_at cs) (length cs)),
    refused_below DuplicateInput (length cs) (first_bad (first_of_its_kind cs) (length cs)),
    refused_below UnsupportedResolution (length cs) (first_bad (resolution_fits_at mode target cs) (length cs)),
    nested_is mode F,
    ← found_second F,
  )

  pub invalid_stage : (i : ℕ) → lowest (valid_at cs) (length cs) ≡ Some i → list_verdict mode target capacity cs ≡ Err (InvalidCell i)
  unfolding list_verdict
  invalid_stage i e = rw (refused_below InvalidCell (length cs) (first_bad (valid_at cs) (length cs)), e)
