-- Texts of one line, put together.
--     unbroken_more, either_unbroken      two texts that end no line, one behind the other, and one of the two
--     shown_unbroken, numeral_unbroken    a name as it is shown, and a number, end none
--     line_behind                         one line with such a text before it
--     name-.., number-..                  a name or a number before a text that ends no line, and before one line
--     LineEnd, line_end                   what `one_line` says: a line end at the end, and none before
-- Assumes nothing.
use Prim.Native.Nat.{ℕ, zero, suc, ◌+◌, ◌-◌, ◌/◌, ◌%◌}
use mathlib.Core.Path.{◌≡◌, refl, sym, ◌∙◌, ap}
use mathlib.Core.Bool.{Bool, true, false, ◌&&◌, cond, not}
use mathlib.Core.List.{List, [], ◌∷◌, ◌++◌}
use mathlib.Core.Logic.{⊎_elim}
use native.Mathlib.Omega.{arith}
use borrow.Author.Tests.{not-true, ne_eqb, eqb-true}
use lib.Dec.{eqb, ltb, leb}
use Rattle.scope.proofs.Tests.{either, and_left, and_right, and_both, clash}
use Rattle.text.proofs.Names.{clear_byte}
use Rattle.text.specs.Text.{is_control, shown_byte, shown, glyph, numeral_in, numeral, decimal, unbroken, is_empty, one_line}

pub unbroken_more : (x y : List ℕ) → unbroken x ≡ true → unbroken y ≡ true → unbroken (x ++ y) ≡ true
unfolding unbroken
unbroken_more [] y p q = q
unbroken_more (b ∷ x) y p q = and_both _ _ (and_left (not (eqb b 10)) (unbroken x) p) (unbroken_more x y (and_right (not (eqb b 10)) (unbroken x) p) q)

pub either_unbroken : (b : Bool) (x y : List ℕ) → unbroken x ≡ true → unbroken y ≡ true → unbroken (cond b x y) ≡ true
either_unbroken true x y p q = p
either_unbroken false x y p q = q

pub line_behind : (x y : List ℕ) → unbroken x ≡ true → one_line y ≡ true → one_line (x ++ y) ≡ true
unfolding unbroken one_line
line_behind [] y p q = q
line_behind (b ∷ x) y p q = ap (λ (t : Bool). cond t (is_empty (x ++ y)) (one_line (x ++ y))) (not-true (eqb b 10) (and_left (not (eqb b 10)) (unbroken x) p))
    ∙ line_behind x y (and_right (not (eqb b 10)) (unbroken x) p) q

-- a byte before an unbroken text
byte_before : (b : ℕ) (x : List ℕ) → (b ≡ 10 → ⊥) → unbroken x ≡ true → unbroken (b ∷ x) ≡ true
unfolding unbroken
byte_before b x n p = and_both _ _ (ap not (ne_eqb b 10 n)) p

pub shown_unbroken : (name : List ℕ) → unbroken (shown name) ≡ true
unfolding shown unbroken
shown_unbroken [] = refl
shown_unbroken (b ∷ name) = byte_before (shown_byte b) (shown name) (λ e. clash (ap is_control e) (clear_byte b)) (shown_unbroken name)

glyph_no_end : (d : ℕ) → glyph d ≡ 10 → ⊥
glyph_no_end d e = ⊎_elim
    (λ t. let g = sym (ap (λ (b : Bool). cond b (48 + d) (87 + d)) t) ∙ e in omega arith)
    (λ t. let g = sym (ap (λ (b : Bool). cond b (48 + d) (87 + d)) t) ∙ e in omega arith)
    (either (ltb d 10))

numeral_in_unbroken : (fuel base least n : ℕ) → unbroken (numeral_in fuel base least n) ≡ true
unfolding numeral_in unbroken
numeral_in_unbroken zero base least n = byte_before (glyph (n % base)) [] (glyph_no_end (n % base)) refl
numeral_in_unbroken (suc fuel) base least n = unbroken_more (cond (ltb n base && leb least 1) [] (numeral_in fuel base (least - 1) (n / base))) (glyph (n % base) ∷ [])
    (either_unbroken (ltb n base && leb least 1) [] (numeral_in fuel base (least - 1) (n / base)) refl (numeral_in_unbroken fuel base (least - 1) (n / base)))
    (byte_before (glyph (n % base)) [] (glyph_no_end (n % base)) refl)

pub numeral_unbroken : (base least n : ℕ) → unbroken (numeral base least n) ≡ true
unfolding numeral
numeral_unbroken base least n = numeral_in_unbroken (n + least) base least n

-- ---- with a name or a number before it

pub name_unbroken : (name y : List ℕ) → unbroken y ≡ true → unbroken (shown name ++ y) ≡ true
name_unbroken name y p = unbroken_more (shown name) y (shown_unbroken name) p

pub number_unbroken : (n : ℕ) (y : List ℕ) → unbroken y ≡ true → unbroken (decimal n ++ y) ≡ true
number_unbroken n y p = unbroken_more (decimal n) y (numeral_unbroken 10 1 n) p

pub name_line : (name y : List ℕ) → one_line y ≡ true → one_line (shown name ++ y) ≡ true
name_line name y p = line_behind (shown name) y (shown_unbroken name) p

pub number_line : (n : ℕ) (y : List ℕ) → one_line y ≡ true → one_line (decimal n ++ y) ≡ true
number_line n y p = line_behind (decimal n) y (numeral_unbroken 10 1 n) p

-- ---- what one line is

pub record LineEnd (text : List ℕ) : Type 0 where
  pub front : List ℕ
  pub whole : text ≡ front ++ (10 ∷ [])
  pub clear : unbroken front ≡ true

-- a text that is empty
nothing : (text : List ℕ) → is_empty text ≡ true → text ≡ []
nothing [] e = refl
nothing (b ∷ text) e = absurd (clash e refl)

pub line_end : (text : List ℕ) → one_line text ≡ true → LineEnd text
unfolding unbroken one_line
line_end [] e = absurd (clash e refl)
line_end (b ∷ text) e = ⊎_elim
    (λ (t : eqb b 10 ≡ true). record {
      front = [];
      whole = ap (λ (l : List ℕ). b ∷ l) (nothing text (rw t at e)) ∙ ap (λ (k : ℕ). k ∷ []) (eqb-true b 10 t);
      clear = refl;
    })
    (λ (t : eqb b 10 ≡ false). let rest = line_end text (rw t at e) in record {
      front = b ∷ rest.front;
      whole = ap (λ (l : List ℕ). b ∷ l) rest.whole;
      clear = and_both _ _ (ap not t) rest.clear;
    })
    (either (eqb b 10))
