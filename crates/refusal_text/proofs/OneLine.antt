-- A refusal in words is one line, whatever bytes the names of the files hold.
-- Assumes nothing.
use Prim.Native.Nat.{ℕ}
use mathlib.Core.Path.{◌≡◌, refl}
use mathlib.Core.Bool.{true, ◌&&◌}
use mathlib.Core.List.{List, ◌++◌}
use lib.Dec.{eqb, leb}
use Rattle.text.specs.Text.{ascii, unbroken, one_line}
use Rattle.text.proofs.Lines.{unbroken_more, either_unbroken, name_unbroken, number_unbroken, line_behind}
use Rattle.note_text.specs.Notes.{noted}
use Rattle.refusal_text.specs.Refusals.{memory_words, refusal_words, reason_words, refusal_place, refusal_text}

memory_unbroken : (n : ℕ) → unbroken (memory_words n) ≡ true
unfolding unbroken
memory_unbroken n = either_unbroken (eqb n 7) _ _ refl (either_unbroken (eqb n 8) _ _ refl (either_unbroken (eqb n 9) _ _ refl refl))

words_unbroken : (n : ℕ) → unbroken (refusal_words n) ≡ true
unfolding refusal_words unbroken
words_unbroken n =
    either_unbroken (eqb n 1) _ _ refl
    (either_unbroken (eqb n 2) _ _ refl
    (either_unbroken (eqb n 3) _ _ refl
    (either_unbroken (eqb n 4) _ _ refl
    (either_unbroken (eqb n 5) _ _ refl
    (either_unbroken (eqb n 6) _ _ refl
    (memory_unbroken n))))))

reason_unbroken : (n index : ℕ) → unbroken (reason_words n index) ≡ true
unfolding unbroken
reason_unbroken n index = either_unbroken (eqb n 1) _ _ (either_unbroken (eqb index 0) _ _ refl refl) (words_unbroken n)

module _ (table list : List ℕ) (n index line : ℕ) where
  place_unbroken : unbroken (refusal_place table list n index line) ≡ true
  unfolding refusal_place unbroken
  place_unbroken =
      either_unbroken (eqb n 1) _ _ (name_unbroken table _ (number_unbroken index _ refl))
      (either_unbroken (leb 2 n && leb n 7) _ _ (name_unbroken list _ (number_unbroken line _ refl))
      (either_unbroken (eqb n 8) _ _ (name_unbroken list _ refl) refl))

  pub refusal_line : one_line (refusal_text table list n index line) ≡ true
  unfolding refusal_text unbroken one_line
  refusal_line = line_behind (refusal_place table list n index line ++ noted (ascii "refused ") n (ascii ", ") ++ reason_words n index) _
      (unbroken_more (refusal_place table list n index line ++ noted (ascii "refused ") n (ascii ", ")) _
      (unbroken_more (refusal_place table list n index line) _ place_unbroken (number_unbroken n _ refl))
      (reason_unbroken n index))
      refl
