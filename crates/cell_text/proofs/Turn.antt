-- One turn of a reading: a line more.
--     come_passed, come_cell     it goes on: nothing to take, a cell that fits
--     come_fault, come_full      it ends: a fault, a cell with no room
--     come_goes, come_ends       the same by the answer of `take_line`
-- Assumes nothing.
use Prim.Native.Nat.{ℕ, suc, ◌+◌, ◌≤◌, ◌<◌}
use mathlib.Core.Path.{◌≡◌, refl, sym, ◌∙◌, ap}
use mathlib.Core.List.{List, [], ◌∷◌, ◌++◌, append_assoc}
use mathlib.Core.Logic.{⊎_elim}
use native.Mathlib.Numerals.{add-one}
use native.Mathlib.Omega.{arith}
use borrow.Author.Tests.{lt-leb, ltb-true, ltb-false}
use lib.Dec.{ltb}
use lib.ListN.{length, take, set, length-append}
use lib.Seq.{sets, take_at, get_or_at}
use Rattle.scope.specs.Lists.{at}
use Rattle.scope.proofs.Tests.{either}
use Rattle.std.specs.Prelude.{Option, Some, None, Result, Ok, Err}
use Rattle.cell_words.specs.declared.Wrong.{Wrong}
use Rattle.cell_words.specs.Words.{line_of}
use Rattle.cell_text.specs.declared.ListFault.TheVariants as fault
use Rattle.cell_text.specs.declared.Stopped.{Stopped}
use Rattle.cell_text.specs.Lines.{lines, Reading, and_line, reading, fitted, cells_in, listed_by, stored_by, answered, Stored, Took}
use Rattle.cell_text.proofs.Come.{Come, behind, ended_here}

-- one more value stored behind a run
sets_last : (b x : List ℕ) (v s k : ℕ) → k ≡ s + length x → set (sets b s x) k v ≡ sets b s (x ++ (v ∷ []))
sets_last b [] v s k e = ap (λ (z : ℕ). set b z v) (let z : k ≡ s = omega arith in z)
sets_last b (y ∷ x) v s k e = sets_last (set b s y) x v (suc s) k (omega arith)

-- a line, and what is read after it
module _ {text cells₀ numbers₀ : List ℕ} {room : ℕ} {cells numbers : List ℕ} {later : List (List ℕ)} {number count : ℕ} (C : Come text cells₀ numbers₀ room cells numbers later number count) {next : List ℕ} {behind_it : List (List ℕ)} (n : later ≡ next ∷ behind_it) where
  rest : Reading
  rest = reading (number + 1 + 1) behind_it

  read_next : {l : Result (Option ℕ) Wrong} → line_of next ≡ l → reading 1 (lines text) ≡ behind C.found C.places (and_line l (number + 1) rest)
  unfolding rest reading
  read_next {l} e =
      C.whole
      ∙ ap (λ (r : Reading). behind C.found C.places r)
      (ap (reading (number + 1)) n
      ∙ ap (λ (k : Result (Option ℕ) Wrong). and_line k (number + 1) (reading (suc (number + 1)) behind_it)) e
      ∙ ap (λ (k : ℕ). and_line l (number + 1) (reading k behind_it)) (sym (add-one (number + 1))))

  pub number_few : number ≤ length text
  number_few = let k = C.counted in let l = ap length n in omega arith

  pub come_passed : line_of next ≡ Ok None → Come text cells₀ numbers₀ room cells numbers behind_it (number + 1) count
  unfolding rest
  come_passed e =
      let k = C.counted in let l = ap length n in
      record {
        found = C.found;
        places = C.places;
        found_long = C.found_long;
        places_long = C.places_long;
        fits = C.fits;
        cells_are = C.cells_are;
        numbers_are = C.numbers_are;
        counted = omega arith;
        whole = read_next e;
      }

  pub come_cell : {x : ℕ} → line_of next ≡ Ok (Some x) → (count ≡ room → ⊥) → Come text cells₀ numbers₀ room (set cells count x) (set numbers count (number + 1)) behind_it (number + 1) (count + 1)
  unfolding rest
  come_cell {x} e full =
      let k = C.counted in let l = ap length n in let f = C.fits in
      let m = C.found_long in let p = C.places_long in
      record {
        found = C.found ++ (x ∷ []);
        places = C.places ++ ((number + 1) ∷ []);
        found_long = length-append C.found (x ∷ []) ∙ (let z : length C.found + 1 ≡ count + 1 = omega arith in z);
        places_long = length-append C.places ((number + 1) ∷ []) ∙ (let z : length C.places + 1 ≡ count + 1 = omega arith in z);
        fits = omega arith;
        cells_are = ap (λ (l : List ℕ). set l count x) C.cells_are ∙ sets_last cells₀ C.found x 0 count (omega arith);
        numbers_are = ap (λ (l : List ℕ). set l count (number + 1)) C.numbers_are ∙ sets_last numbers₀ C.places (number + 1) 0 count (omega arith);
        counted = omega arith;
        whole = read_next e
            ∙ ap (λ (l : List ℕ). record { cells = l; numbers = C.places ++ ((number + 1) ∷ rest.numbers); end = rest.end }) (sym (append_assoc C.found (x ∷ []) rest.cells))
            ∙ ap (λ (l : List ℕ). record { cells = (C.found ++ (x ∷ [])) ++ rest.cells; numbers = l; end = rest.end }) (sym (append_assoc C.places ((number + 1) ∷ []) rest.numbers));
      }

  pub come_fault : {wrong : Wrong} → line_of next ≡ Err wrong → Stored (cells_in room text) cells₀ numbers₀ (Err (record { count = count; fault = fault.Wrong (number + 1) wrong })) cells numbers
  come_fault {wrong} e = ended_here C (Some (fault.Wrong (number + 1) wrong)) (read_next e)

  pub come_full : {x : ℕ} → line_of next ≡ Ok (Some x) → count ≡ room → Stored (cells_in room text) cells₀ numbers₀ (Err (record { count = count; fault = fault.TooMany (number + 1) })) cells numbers
  unfolding cells_in fitted
  come_full {x} e full =
      let m = C.found_long in let p = C.places_long in
      let r = read_next e in
      let long : room < length (C.found ++ (x ∷ rest.cells)) = rw length-append (omega arith) in
      let s : cells_in room text ≡ record { cells = take room (C.found ++ (x ∷ rest.cells)); numbers = take room (C.places ++ ((number + 1) ∷ rest.numbers)); end = Some (fault.TooMany (at (C.places ++ ((number + 1) ∷ rest.numbers)) room)) }
      = ap (fitted room) r ∙ rw (lt-leb (length (C.found ++ (x ∷ rest.cells))) room long) refl in
      let c : take room (C.found ++ (x ∷ rest.cells)) ≡ C.found = take_at C.found (x ∷ rest.cells) room (m ∙ full) in
      let k : take room (C.places ++ ((number + 1) ∷ rest.numbers)) ≡ C.places = take_at C.places ((number + 1) ∷ rest.numbers) room (p ∙ full) in
      let l : at (C.places ++ ((number + 1) ∷ rest.numbers)) room ≡ number + 1 = get_or_at C.places (number + 1) rest.numbers 0 room (p ∙ full) in
      record {
        answer_is = ap (λ (z : ℕ). answered (Some (fault.TooMany (number + 1))) z) (sym m ∙ ap length (sym c))
            ∙ ap (λ (z : ℕ). answered (Some (fault.TooMany z)) (length (take room (C.found ++ (x ∷ rest.cells))))) (sym l)
            ∙ ap (λ (r : Reading). answered r.end (length r.cells)) (sym s);
        cells_are = C.cells_are ∙ ap (λ (x : List ℕ). sets cells₀ 0 x) (sym (ap (λ (r : Reading). r.cells) s ∙ c));
        numbers_are = C.numbers_are ∙ ap (λ (x : List ℕ). sets numbers₀ 0 x) (sym (ap (λ (r : Reading). r.numbers) s ∙ k));
      }

  module _ {room' : ℕ} (same : room' ≡ room) {answer : Result ℕ Stopped} {cells' numbers' : List ℕ} where
    pub come_goes : (l : Result (Option ℕ) Wrong) → line_of next ≡ l → Took room' l (number + 1) count cells numbers answer cells' numbers' → {k : ℕ} → answer ≡ Ok k
        → Come text cells₀ numbers₀ room cells' numbers' behind_it (number + 1) k
    unfolding listed_by stored_by
    come_goes (Ok None) e T {k} w = let z : count ≡ k = cc (T.listed, w) in rw (T.cells_are, T.numbers_are, ← z) (come_passed e)
    come_goes (Ok (Some x)) e T {k} w = ⊎_elim
        (λ t. let s = rw t at T.listed in let c = rw t at T.cells_are in let p = rw t at T.numbers_are in let z : count + 1 ≡ k = cc (s, w) in
        rw (c, p, ← z) (come_cell e (λ z. let f = ltb-true count room' t in omega (arith, f, same, z))))
        (λ t. let s = rw t at T.listed in cc (s, w))
        (either (ltb count room'))
    come_goes (Err wrong) e T w = cc (T.listed, w)

    pub come_ends : (l : Result (Option ℕ) Wrong) → line_of next ≡ l → Took room' l (number + 1) count cells numbers answer cells' numbers' → {stopped : Stopped} → answer ≡ Err stopped
        → Stored (cells_in room text) cells₀ numbers₀ (Err stopped) cells' numbers'
    unfolding listed_by stored_by
    come_ends (Ok None) e T w = cc (T.listed, w)
    come_ends (Ok (Some x)) e T {stopped} w = ⊎_elim
        (λ t. let s = rw t at T.listed in cc (s, w))
        (λ t. let s = rw t at T.listed in let c = rw t at T.cells_are in let p = rw t at T.numbers_are in
        rw (← w, s, c, p) (come_full e (let f = ltb-false count room' t in omega (arith, f, same, C.fits))))
        (either (ltb count room'))
    come_ends (Err wrong) e T w = rw (← w, T.listed, T.cells_are, T.numbers_are) (come_fault e)
