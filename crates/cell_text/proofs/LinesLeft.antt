-- The lines of a text, one after the other.
--     left            the lines still to come: of what is left of the text, or none
--     left_next       the next of them, and those behind it
--     lines_few       there are at most as many as bytes, and one more
-- Assumes nothing.
use Prim.Native.Nat.{ℕ, suc, ◌≤◌, ◌<◌}
use mathlib.Core.Path.{◌≡◌, refl, sym, ◌∙◌, ap}
use mathlib.Core.Bool.{Bool, true, false, cond}
use mathlib.Core.List.{List, [], ◌∷◌, ◌++◌}
use mathlib.Core.Logic.{⊎_elim}
use native.Mathlib.Omega.{arith}
use lib.Dec.{eqb}
use lib.ListN.{length, get_or, length-append, get_or-append}
use lib.Seq.{get_or-append_seam}
use borrow.Author.Tests.{eqb-true}
use Rattle.scope.proofs.Tests.{either}
use Rattle.std.specs.Bool.{MatchBool}
use Rattle.std.specs.List.{IsFirstMatchOrLen}
use Rattle.cell_text.specs.Lines.{onto, lines}

abbrev pub left : List ℕ → Bool → List (List ℕ)
left rest true = []
left rest false = lines rest

-- no newline stands in a line
abbrev Within : List ℕ → Type 0
Within l = (k : ℕ) → k < length l → eqb (get_or l k 0) 10 ≡ false

within_tail : (b : ℕ) (l : List ℕ) → Within (b ∷ l) → Within l
within_tail b l w = λ k h. w (suc k) (omega arith)

lines_end : (l : List ℕ) → Within l → lines l ≡ l ∷ []
unfolding lines
lines_end [] w = refl
lines_end (b ∷ l) w = ap (λ (t : Bool). cond t ([] ∷ lines l) (onto b (lines l))) (w 0 (omega arith)) ∙ ap (onto b) (lines_end l (within_tail b l w))

lines_more : (l rest : List ℕ) → Within l → lines (l ++ (10 ∷ rest)) ≡ l ∷ lines rest
unfolding lines
lines_more [] rest w = refl
lines_more (b ∷ l) rest w =
    ap (λ (t : Bool). cond t ([] ∷ lines (l ++ (10 ∷ rest))) (onto b (lines (l ++ (10 ∷ rest))))) (w 0 (omega arith))
    ∙ ap (onto b) (lines_more l rest (within_tail b l w))

first_line : (line rest rest' : List ℕ) (done : Bool) → MatchBool done (rest ≡ line) ((y : ℕ) × (rest ≡ line ++ (y ∷ rest'))) → IsFirstMatchOrLen (λ b. eqb b 10) rest (length line)
    → lines rest ≡ line ∷ left rest' done
first_line line rest rest' true e f =
    ap lines e ∙ lines_end line (λ k h. ap (λ (r : List ℕ). eqb (get_or r k 0) 10) (sym e) ∙ f.0 k 0 (omega arith) h)
first_line line rest rest' false e f =
    let long : length line < length rest = rw e.1 (omega (arith, length-append line (e.0 ∷ rest'))) in
    let y : e.0 ≡ 10 = eqb-true e.0 10 (ap (λ (b : ℕ). eqb b 10) (sym (get_or-append_seam line e.0 rest' 0)) ∙ ap (λ (r : List ℕ). eqb (get_or r (length line) 0) 10) (sym e.1) ∙ f.1 long 0) in
    ap lines (e.1 ∙ ap (λ (b : ℕ). line ++ (b ∷ rest')) y)
    ∙ lines_more line rest' (λ k h. ap (λ (b : ℕ). eqb b 10) (sym (get_or-append line (e.0 ∷ rest') 0 k h)) ∙ ap (λ (r : List ℕ). eqb (get_or r k 0) 10) (sym e.1) ∙ f.0 k 0 (omega arith) h)

pub left_next : (line rest rest' : List ℕ) (done' : Bool) {done : Bool} → done ≡ false → MatchBool done' (rest ≡ line) ((y : ℕ) × (rest ≡ line ++ (y ∷ rest'))) → IsFirstMatchOrLen (λ b. eqb b 10) rest (length line)
    → left rest done ≡ line ∷ left rest' done'
left_next line rest rest' done' d e f = ap (left rest) d ∙ first_line line rest rest' done' e f

onto_few : (b n : ℕ) (ls : List (List ℕ)) → length ls ≤ suc n → length (onto b ls) ≤ suc n
onto_few b n [] h = omega arith
onto_few b n (l ∷ ls) h = h

pub lines_few : (s : List ℕ) → length (lines s) ≤ suc (length s)
unfolding lines
lines_few [] = omega arith
lines_few (b ∷ s) = ⊎_elim
    (λ e. rw e (let h = lines_few s in omega arith))
    (λ e. rw e (onto_few b (suc (length s)) (lines s) (let h = lines_few s in omega arith)))
    (either (eqb b 10))
