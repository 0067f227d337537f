-- The reading that has come to a line.
--     Come                         what the loop has shown at a line
--     come_none                    before the first line
--     cells_long, numbers_long     a store keeps the length, and so the room: same_room
--     ended_here, come_all         its ends: where it has come to, and with the text
-- Assumes nothing.
use Prim.Native.Nat.{ℕ, ◌+◌, ◌≤◌, min}
use mathlib.Core.Path.{◌≡◌, refl, sym, ◌∙◌, ap}
use mathlib.Core.List.{List, [], ◌++◌, append-nil}
use native.Mathlib.Omega.{arith}
use borrow.Author.Tests.{le-leb}
use lib.ListN.{length}
use lib.Seq.{sets, length-sets}
use Rattle.std.specs.Prelude.{Option, None}
use Rattle.cell_text.specs.declared.ListFault.{ListFault}
use Rattle.cell_text.specs.Lines.{lines, Reading, ended, reading, fitted, cells_in, answered, Stored}
use Rattle.cell_text.proofs.LinesLeft.{lines_few}

-- what was found before, and the rest
abbrev pub behind : List ℕ → List ℕ → Reading → Reading
behind cells numbers r = record { cells = cells ++ r.cells; numbers = numbers ++ r.numbers; end = r.end }

pub record Come (text cells₀ numbers₀ : List ℕ) (room : ℕ) (cells numbers : List ℕ) (later : List (List ℕ)) (number count : ℕ) : Type 0 where
  pub found : List ℕ
  pub places : List ℕ
  pub found_long : length found ≡ count
  pub places_long : length places ≡ count
  pub fits : count ≤ room
  pub cells_are : cells ≡ sets cells₀ 0 found
  pub numbers_are : numbers ≡ sets numbers₀ 0 places
  pub counted : number + length later ≤ length text + 1
  pub whole : reading 1 (lines text) ≡ behind found places (reading (number + 1) later)

pub come_none : (text cells numbers : List ℕ) (room : ℕ) {later : List (List ℕ)} → later ≡ lines text → Come text cells numbers room cells numbers later 0 0
come_none text cells numbers room {later} e = record {
  found = [];
  places = [];
  found_long = refl;
  places_long = refl;
  fits = omega arith;
  cells_are = refl;
  numbers_are = refl;
  counted = let f = lines_few text in let l = ap length e in omega arith;
  whole = ap (reading 1) (sym e);
}

-- a store keeps the length
module _ {text cells₀ numbers₀ : List ℕ} {room : ℕ} {cells numbers : List ℕ} {later : List (List ℕ)} {number count : ℕ} (C : Come text cells₀ numbers₀ room cells numbers later number count) where
  pub cells_long : length cells ≡ length cells₀
  cells_long = ap length C.cells_are ∙ length-sets cells₀ 0 C.found

  pub numbers_long : length numbers ≡ length numbers₀
  numbers_long = ap length C.numbers_are ∙ length-sets numbers₀ 0 C.places

  pub same_room : min (length cells) (length numbers) ≡ min (length cells₀) (length numbers₀)
  same_room = ap (λ (n : ℕ). min n (length numbers)) cells_long ∙ ap (λ (n : ℕ). min (length cells₀) n) numbers_long

-- a reading that ends where it has come to
pub ended_here : {text cells₀ numbers₀ : List ℕ} {room : ℕ} {cells numbers : List ℕ} {later : List (List ℕ)} {number count : ℕ} (C : Come text cells₀ numbers₀ room cells numbers later number count) (e : Option ListFault)
    → reading 1 (lines text) ≡ behind C.found C.places (ended e) → Stored (cells_in room text) cells₀ numbers₀ (answered e count) cells numbers
unfolding cells_in fitted
ended_here {text} {cells₀} {numbers₀} {room} {count = count} C e r =
    let m = C.found_long in let f = C.fits in
    let c = append-nil C.found in let k = append-nil C.places in
    let s : cells_in room text ≡ behind C.found C.places (ended e)
    = ap (fitted room) r ∙ rw (le-leb (length (C.found ++ [])) room (rw c (omega arith))) refl in
    record {
      answer_is = ap (answered e) (sym m ∙ ap length (sym c)) ∙ ap (λ (r : Reading). answered r.end (length r.cells)) (sym s);
      cells_are = C.cells_are ∙ ap (λ (x : List ℕ). sets cells₀ 0 x) (sym (ap (λ (r : Reading). r.cells) s ∙ c));
      numbers_are = C.numbers_are ∙ ap (λ (x : List ℕ). sets numbers₀ 0 x) (sym (ap (λ (r : Reading). r.numbers) s ∙ k));
    }

pub come_all : {text cells₀ numbers₀ : List ℕ} {room : ℕ} {cells numbers : List ℕ} {later : List (List ℕ)} {number count : ℕ} → Come text cells₀ numbers₀ room cells numbers later number count → later ≡ []
    → Stored (cells_in room text) cells₀ numbers₀ (answered None count) cells numbers
unfolding reading
come_all {number = number} C e = ended_here C None (C.whole ∙ ap (λ (l : List (List ℕ)). behind C.found C.places (reading (number + 1) l)) e)
