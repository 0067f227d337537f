-- A list of any length goes by parts: each cell of the list is looked up in each part, and the lowest clash is the lowest over the parts.
--     lowest, lower        the lowest number that fails, where there is one; the lower of two such
--     repeats, nests         cell i has an equal, cell j, before it; cell i lies under cell j
--     none_of, none_before     i clashes with no j of a part, from start to end; with no j before `done`
--     Against, Found         the lowest i that clashes, over a part, and over the parts up to `done`
-- Assumes nothing.
use Rattle.std.specs.Prelude.{ℕ, ◌+◌, ◌-◌, ◌<◌, ◌≤◌, ◌≡◌, Bool, true, ◌&&◌, not, cond, Option, None, Some, List, eqb, ltb, length, min}
use Rattle.scope.specs.Lists.{at, first_bad, passes}
use Rattle.scope.specs.Answers.{found_below}
use Rattle.scope.specs.Cells.{valid_cell, under}
use Rattle.cell_lookup.specs.Lookup.{new_to, clear_of, Ordered, Raised}

-- the lowest number below n at which the test fails, where there is one
abbrev pub lowest : (ℕ → Bool) → ℕ → Option ℕ
lowest ok n = found_below n (first_bad ok n)

abbrev pub lower : Option ℕ → Option ℕ → Option ℕ
lower None b = b
lower (Some x) None = Some x
lower (Some x) (Some y) = Some (min x y)

abbrev pub repeats : List ℕ → ℕ → ℕ → Bool
repeats cs i j = ltb j i && eqb (at cs j) (at cs i)

abbrev pub nests : List ℕ → ℕ → ℕ → Bool
nests cs i j = under (at cs i) (at cs j)

abbrev pub none_of : (ℕ → ℕ → Bool) → ℕ → ℕ → ℕ → Bool
none_of bad start end i = passes (λ j. not (bad i (start + j))) (end - start)

abbrev pub none_before : (ℕ → ℕ → Bool) → ℕ → ℕ → Bool
none_before bad done i = passes (λ j. not (bad i j)) done

-- nested cells are looked for in mixed mode alone
pub record Against (cs : List ℕ) (start end : ℕ) (mixed : Bool) (second nested : Option ℕ) : Type 0 where
  pub second_is : second ≡ lowest (none_of (repeats cs) start end) (length cs)
  pub nested_is : nested ≡ cond mixed (lowest (none_of (nests cs) start end) (length cs)) None

pub record Found (cs : List ℕ) (done : ℕ) (mixed : Bool) (second nested : Option ℕ) : Type 0 where
  pub second_is : second ≡ lowest (none_before (repeats cs) done) (length cs)
  pub nested_is : nested ≡ cond mixed (lowest (none_before (nests cs) done) (length cs)) None

-- ---- one part

abbrev pub new_against : List ℕ → List ℕ → ℕ → ℕ → Bool
new_against part cs start i = new_to part (at cs i) (i - start)

abbrev pub clear_against : List ℕ → List ℕ → ℕ → Bool
clear_against part cs i = clear_of part (at cs i)

abbrev pub AllValid : List ℕ → Type 0
AllValid cs = (i : ℕ) → i < length cs → valid_cell (at cs i) ≡ true

pub record SecondIn (part a cs : List ℕ) (start : ℕ) : Type 0 where
  pub ordered : Ordered part a
  pub valid : AllValid cs
  pub within : start ≤ length cs

pub record NestedIn (part a cs : List ℕ) : Type 0 where
  pub raised : Raised part a
  pub valid : AllValid cs

pub record PartIn (cs part : List ℕ) (start : ℕ) : Type 0 where
  pub valid : AllValid cs
  pub within : start + length part ≤ length cs
  pub same : (j : ℕ) → j < length part → at part j ≡ at cs (start + j)
  pub few : length part ≤ 16384
