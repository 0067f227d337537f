-- Names as they are shown.
--     shown_long     a byte for each byte of the name
--     shown_at       byte by byte
--     clear_byte, shown_clear     no byte is a control byte
--     shown_as_is    a name without control bytes is shown as it is
--     shows_next, shows_all     the loop that shows a name byte by byte
-- Assumes nothing.
use Prim.Native.Nat.{ℕ, zero, suc, ◌+◌, ◌<◌, ◌≤◌}
use mathlib.Core.Path.{◌≡◌, refl, ◌∙◌, ap}
use mathlib.Core.Bool.{Bool, false, cond}
use mathlib.Core.List.{List, [], ◌∷◌}
use mathlib.Core.Logic.{⊎_elim}
use native.Mathlib.Omega.{arith}
use lib.ListN.{length, length-map}
use Rattle.scope.specs.Lists.{at}
use Rattle.scope.proofs.Tests.{either}
use Rattle.text.specs.Text.{is_control, shown_byte, shown, Wrote}
use Rattle.text.proofs.Writing.{Writes, writes_next, writes_all}

pub shown_long : (name : List ℕ) → length (shown name) ≡ length name
unfolding shown
shown_long name = length-map name shown_byte

pub shown_at : (name : List ℕ) (i : ℕ) → i < length name → at (shown name) i ≡ shown_byte (at name i)
unfolding shown
shown_at [] i h = absurd (omega arith)
shown_at (b ∷ name) zero h = refl
shown_at (b ∷ name) (suc i) h = shown_at name i (omega arith)

pub clear_byte : (b : ℕ) → is_control (shown_byte b) ≡ false
clear_byte b = ⊎_elim
    (λ e. ap (λ (t : Bool). is_control (cond t 63 b)) e)
    (λ e. ap (λ (t : Bool). is_control (cond t 63 b)) e ∙ e)
    (either (is_control b))

pub shown_clear : (name : List ℕ) (i : ℕ) → i < length name → is_control (at (shown name) i) ≡ false
shown_clear name i h = ap is_control (shown_at name i h) ∙ clear_byte (at name i)

pub shown_as_is : (name : List ℕ) → ((i : ℕ) → i < length name → is_control (at name i) ≡ false) → shown name ≡ name
unfolding shown
shown_as_is [] plain = refl
shown_as_is (b ∷ name) plain =
    ap (λ (t : Bool). cond t 63 b ∷ shown name) (plain 0 (omega arith))
    ∙ ap (λ (l : List ℕ). b ∷ l) (shown_as_is name (λ i h. plain (suc i) (omega arith)))

-- ---- byte by byte

module _ (name : List ℕ) {b : List ℕ} {a : ℕ} {b₁ : List ℕ} {a₁ i : ℕ} (W : Writes (shown name) b a b₁ a₁ i) where
  pub shows_next : {b₂ : List ℕ} {a₂ v : ℕ} → i < length name → v ≡ shown_byte (at name i) → Wrote b₁ a₁ b₂ a₂ (v ∷ []) → Writes (shown name) b a b₂ a₂ (i + 1)
  shows_next h e U = let l = shown_long name in writes_next W (omega arith) (rw (shown_at name i h, ← e) U)

  pub shows_all : length name ≤ i → Wrote b a b₁ a₁ (shown name)
  shows_all h = let l = shown_long name in writes_all W (omega arith)
