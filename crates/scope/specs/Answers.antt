-- Document 01, "Numbered refusals": the answers' cases with the paper's numbers and values, and tests in a row.
-- Assumes nothing.
use Rattle.std.specs.Prelude.{ℕ, Bool, true, false, cond, ltb, Float, Result, Ok, Err, Option, Some, None}
use Rattle.std.specs.Float.{nan}
use Rattle.scope.specs.declared.Refusal.{Refusal}
use Rattle.scope.specs.declared.Refusal.TheVariants.{BadTable, InvalidCell, DuplicateInput, UnsupportedResolution, EdgeNotInTable, EdgeTwice, PoolFull, TooManyCells, BrokenState, BadLengths}
use Rattle.scope.specs.declared.ReadOut.{ReadOut}
use Rattle.scope.specs.declared.ReadOut.TheVariants.{Nothing, Closed, Outline}

infixr 20 ◌▷◌
-- A call is carried out, or refused.
abbrev pub Verdict : Type 0
Verdict = Result (Unit {0}) Refusal

-- Read out and dissolve answer, or are refused.
abbrev pub Answer : Type 0
Answer = Result ReadOut Refusal

-- ---- the paper's number for each refusal, and what it also returns

unfoldable pub refusal_number : Refusal → ℕ
refusal_number (BadTable row) = 1
refusal_number (InvalidCell index) = 2
refusal_number (DuplicateInput index) = 3
refusal_number (UnsupportedResolution index) = 4
refusal_number (EdgeNotInTable index) = 5
refusal_number (EdgeTwice index) = 6
refusal_number (PoolFull index) = 7
refusal_number TooManyCells = 8
refusal_number BrokenState = 9
refusal_number BadLengths = 10

unfoldable pub refusal_index : Refusal → ℕ
refusal_index (BadTable row) = row
refusal_index (InvalidCell index) = index
refusal_index (DuplicateInput index) = index
refusal_index (UnsupportedResolution index) = index
refusal_index (EdgeNotInTable index) = index
refusal_index (EdgeTwice index) = index
refusal_index (PoolFull index) = index
refusal_index TooManyCells = 0
refusal_index BrokenState = 0
refusal_index BadLengths = 0

-- ---- of a call: 0 where it is carried out

unfoldable pub refusal_of : Verdict → ℕ
refusal_of (Ok done) = 0
refusal_of (Err why) = refusal_number why

unfoldable pub index_of : Verdict → ℕ
index_of (Ok done) = 0
index_of (Err why) = refusal_index why

-- Read out answers: nothing, closed, or outline; here 0, 1 and 2, and 3 for a refusal.
unfoldable pub kind_of : Answer → ℕ
kind_of (Ok Nothing) = 0
kind_of (Ok Closed) = 1
kind_of (Ok (Outline polygons rings area)) = 2
kind_of (Err why) = 3

-- The refusal in a read out's answer.
unfoldable pub verdict_of : Answer → Verdict
verdict_of (Ok answer) = Ok tt
verdict_of (Err why) = Err why

-- Polygon count, ring count and the first outer area: those of an outline, else 0, 0 and none.
unfoldable pub polygons_of : Answer → ℕ
polygons_of (Ok Nothing) = 0
polygons_of (Ok Closed) = 0
polygons_of (Ok (Outline polygons rings area)) = polygons
polygons_of (Err why) = 0

unfoldable pub rings_of : Answer → ℕ
rings_of (Ok Nothing) = 0
rings_of (Ok Closed) = 0
rings_of (Ok (Outline polygons rings area)) = rings
rings_of (Err why) = 0

unfoldable pub area_in : Answer → Float
area_in (Ok Nothing) = nan
area_in (Ok Closed) = nan
area_in (Ok (Outline polygons rings area)) = area
area_in (Err why) = nan

-- ---- tests in a row: the first that refuses answers

-- accepted where the test holds, else the refusal
abbrev pub require : Bool → Refusal → Verdict
require true why = Ok tt
require false why = Err why

-- a lowest failure r below n is refused with its index; r = n means that none fails
abbrev pub require_none : (ℕ → Refusal) → ℕ → ℕ → Verdict
require_none why n r = cond (ltb r n) (Err (why r)) (Ok tt)

-- the first test, then, where it accepts, the second
abbrev pub ◌▷◌ : Verdict → Verdict → Verdict
Ok done ▷ next = next
Err why ▷ next = Err why

abbrev pub is_accepted : Verdict → Bool
is_accepted (Ok done) = true
is_accepted (Err why) = false

-- one thing where it accepts, another where it refuses
abbrev pub if_accepted : {A : Type 0} → Verdict → A → A → A
if_accepted (Ok done) accepted refused = accepted
if_accepted (Err why) accepted refused = refused

-- a row r below n is found, and r = n means that there is none
abbrev pub found_below : ℕ → ℕ → Option ℕ
found_below n r = cond (ltb r n) (Some r) None
