-- Runs of bytes stored one after the other.
--     sets_append      a run stored behind another is the two joined
--     Written, written_none, written_next     the invariant of a loop that stores the i-th run at start + w · i, and its moves
--     behind           one store after another
--     copied           a run copied into a slice
--     bytes64_is       the eight bytes of a number, each by its own quotient
-- Assumes nothing.
use mathlib.Core.Path.{◌≡◌, refl, sym, ◌∙◌, ap}
use mathlib.Core.List.{List, [], ◌∷◌, ◌++◌, append_assoc}
use Prim.Native.Nat.{ℕ, suc, ◌+◌, ◌*◌, ◌/◌, ◌%◌, ◌≤◌, ◌<◌}
use native.Mathlib.Numerals.{add-one}
use native.Mathlib.Omega.{arith}
use lib.ListN.{length, set, take, drop}
use lib.Seq.{sets, length-sets, sets-eq}
use borrow.Rule.Slice.PartMut.{put_mid}
use Rattle.std.proofs.lemmas.Slice.{put_mid-paste}
use Rattle.std.proofs.lemmas.List.Edits.{paste_all}
use Rattle.scope.specs.Bytes.{bytes64, joined}
use Rattle.scope.proofs.RoundTrip.{joined_length}

pub sets_append : {A : Type 0} (b x y : List A) (s k : ℕ) → k ≡ s + length x → sets (sets b s x) k y ≡ sets b s (x ++ y)
sets_append b [] y s k e = ap (λ (z : ℕ). sets b z y) (let z : k ≡ s = omega arith in z)
sets_append b (v ∷ x) y s k e = sets_append (set b s v) x y (suc s) k (omega arith)

pub record Written (f : ℕ → List ℕ) (b₀ : List ℕ) (start n : ℕ) (b : List ℕ) (i : ℕ) : Type 0 where
  pub within : i ≤ n
  pub runs : b ≡ sets b₀ start (joined f i)
  pub len : length b ≡ length b₀

pub written_none : (f : ℕ → List ℕ) (b : List ℕ) (start n : ℕ) → Written f b start n b 0
unfolding joined
written_none f b start n = record { within = omega arith; runs = refl; len = refl }

module _ {f : ℕ → List ℕ} {b₀ : List ℕ} {start n : ℕ} {b : List ℕ} {i : ℕ} (W : Written f b₀ start n b i) (w : ℕ) (e : (i : ℕ) → length (f i) ≡ w) where
  pub written_next : i < n → (b' : List ℕ) → b' ≡ sets b (start + w * i) (f i) → Written f b₀ start n b' (i + 1)
  unfolding joined
  written_next h b' s = record {
    within = omega arith;
    runs = s ∙ ap (λ (l : List ℕ). sets l (start + w * i) (f i)) W.runs
        ∙ sets_append b₀ (joined f i) (f i) start (start + w * i) (ap (λ (k : ℕ). start + k) (sym (joined_length f w e i)))
        ∙ ap (λ (k : ℕ). sets b₀ start (joined f k)) (sym (add-one i));
    len = ap length s ∙ length-sets b (start + w * i) (f i) ∙ W.len;
  }

-- ---- runs behind each other

pub behind : (b x y : List ℕ) (s : ℕ) {k : ℕ} {b₁ b₂ : List ℕ} → b₁ ≡ sets b s x → b₂ ≡ sets b₁ k y → k ≡ s + length x → b₂ ≡ sets b s (x ++ y)
behind b x y s {k} p q e = q ∙ ap (λ (l : List ℕ). sets l k y) p ∙ sets_append b x y s k e

pub copied : (b : List ℕ) (at k : ℕ) (ys vs : List ℕ) → ys ≡ vs → k ≡ length vs → at + k ≤ length b → put_mid at k b ys ≡ sets b at vs
copied b at k ys vs e l h = put_mid-paste at k b ys vs (length vs) e (sym l) refl ∙ paste_all b at vs (length vs) refl
    ∙ sym (append_assoc (take at b) vs (drop (at + length vs) b)) ∙ sym (sets-eq vs b at (omega arith))

pub bytes64_is : (n : ℕ) → n % 256 ∷ n / 256 % 256 ∷ n / 65536 % 256 ∷ n / 16777216 % 256
    ∷ n / 4294967296 % 256 ∷ n / 1099511627776 % 256 ∷ n / 281474976710656 % 256 ∷ n / 72057594037927936 % 256 ∷ [] ≡ bytes64 n
bytes64_is n =
    let a : n / 1099511627776 ≡ n / 4294967296 / 256 = omega arith in
    let b : n / 281474976710656 ≡ n / 4294967296 / 65536 = omega arith in
    let c : n / 72057594037927936 ≡ n / 4294967296 / 16777216 = omega arith in
    rw (a, b, c)
