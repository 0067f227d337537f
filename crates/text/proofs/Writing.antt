-- One text written behind another.
--     wrote_none, wrote_more     nothing is written; two texts in a row are the two joined
--     wrote_long, wrote_within   the slice keeps its length, and the place is in it
--     wrote_past, wrote_one      one byte at the end of the slice, and before it
--     wrote_copied               a list, copied as far as the slice goes
--     Writes, writes_none, writes_next, writes_all     the loop that writes a list byte by byte
--     Runs, runs_none, runs_next                       the loop that writes the texts f 0, f 1, ..
-- Assumes nothing.
use Prim.Native.Nat.{ℕ, suc, ◌+◌, ◌-◌, ◌≤◌, ◌<◌, min}
use mathlib.Core.Path.{◌≡◌, refl, sym, ◌∙◌, ap}
use mathlib.Core.List.{List, [], ◌∷◌, ◌++◌, append_assoc}
use mathlib.Core.Logic.{⊎_elim}
use native.Mathlib.Nat.{min-eq_left, min-eq_right, min-le_right, add-zero}
use native.Mathlib.Numerals.{add-one}
use native.Mathlib.Omega.{arith}
use lib.ListN.{length, set, take, drop, get_or, length-append}
use lib.Seq.{sets, length-sets, sets-eq, set_out, take-suc, take_all}
use borrow.Rule.Slice.PartMut.{put_mid}
use Rattle.std.proofs.lemmas.List.{length-take-le, take-append-drop}
use Rattle.std.proofs.lemmas.List.Edits.{paste_all}
use Rattle.std.proofs.lemmas.Slice.{put_mid-paste}
use Rattle.scope.specs.Bytes.{joined}
use Rattle.scope.proofs.Tests.{le_or_lt}
use Rattle.text.specs.Text.{Wrote}

-- a store past the end changes nothing
sets_past : (b y : List ℕ) (k : ℕ) → length b ≤ k → sets b k y ≡ b
sets_past b [] k h = refl
sets_past b (v ∷ y) k h = let e = set_out b k v h in sets_past (set b k v) y (suc k) (rw e (omega arith)) ∙ e

sets_append : (b x y : List ℕ) (s k : ℕ) → k ≡ s + length x → sets (sets b s x) k y ≡ sets b s (x ++ y)
sets_append b [] y s k e = ap (λ (z : ℕ). sets b z y) (let z : k ≡ s = omega arith in z)
sets_append b (v ∷ x) y s k e = sets_append (set b s v) x y (suc s) k (omega arith)

pub wrote_none : (b : List ℕ) (a : ℕ) → a ≤ length b → Wrote b a b a []
wrote_none b a h = record { bytes = refl; place = sym (ap (λ (k : ℕ). min k (length b)) (add-zero a) ∙ min-eq_left h) }

module _ {b : List ℕ} {a : ℕ} {b₁ : List ℕ} {a₁ : ℕ} {x : List ℕ} (W : Wrote b a b₁ a₁ x) where
  pub wrote_long : length b₁ ≡ length b
  wrote_long = ap length W.bytes ∙ length-sets b a x

  pub wrote_within : a₁ ≤ length b₁
  wrote_within = let l = wrote_long in let p = W.place in omega (arith, min-le_right (a + length x) (length b))

  pub wrote_more : {b₂ : List ℕ} {a₂ : ℕ} {y : List ℕ} → Wrote b₁ a₁ b₂ a₂ y → Wrote b a b₂ a₂ (x ++ y)
  wrote_more {b₂} {a₂} {y} U =
      let l = wrote_long in
      let n = length-append x y in
      ⊎_elim
      (λ (h : a + length x ≤ length b).
      let e : a₁ ≡ a + length x = W.place ∙ min-eq_left h in
      record {
        bytes = U.bytes ∙ ap (λ (k : List ℕ). sets k a₁ y) W.bytes ∙ sets_append b x y a a₁ e;
        place = U.place ∙ ap (λ (k : ℕ). min (k + length y) (length b₁)) e
            ∙ ap (λ (k : ℕ). min (a + length x + length y) k) l
            ∙ ap (λ (k : ℕ). min k (length b)) (let z : a + length x + length y ≡ a + length (x ++ y) = omega arith in z);
      })
      (λ (h : length b < a + length x).
      let e : a₁ ≡ length b = W.place ∙ min-eq_right (let z : length b ≤ a + length x = omega arith in z) in
      record {
        bytes = U.bytes ∙ sets_past b₁ y a₁ (omega arith) ∙ W.bytes
            ∙ sym (sets_past (sets b a x) y (a + length x) (rw (length-sets b a x) (omega arith)))
            ∙ sets_append b x y a (a + length x) refl;
        place = U.place ∙ min-eq_right (let z : length b₁ ≤ a₁ + length y = omega arith in z) ∙ l
            ∙ sym (min-eq_right (let z : length b ≤ a + length (x ++ y) = omega arith in z));
      })
      (le_or_lt (a + length x) (length b))

-- ---- one byte

pub wrote_one : (b : List ℕ) (a v : ℕ) → a < length b → Wrote b a (set b a v) (a + 1) (v ∷ [])
wrote_one b a v h = record { bytes = refl; place = sym (min-eq_left (omega arith)) }

pub wrote_past : (b : List ℕ) (a v : ℕ) → a ≤ length b → length b ≤ a → Wrote b a b a (v ∷ [])
wrote_past b a v h k = record {
  bytes = sym (set_out b a v k);
  place = (let z : a ≡ length b = omega arith in z) ∙ sym (min-eq_right (omega arith));
}

-- ---- a list, copied as far as the slice goes

pub wrote_copied : (b : List ℕ) (a n k : ℕ) (ys bytes : List ℕ) → a ≤ length b → n ≡ min (length bytes) (length b - a) → k ≡ n → ys ≡ take n bytes
    → Wrote b a (put_mid a k b ys) (a + n) bytes
wrote_copied b a n k ys bytes h e f g =
    let l : length (take n bytes) ≡ n = length-take-le n bytes (omega arith) in
    let m : n ≡ length (take n bytes) = sym l in
    record {
      bytes = put_mid-paste a k b ys (take n bytes) n g (sym f) m ∙ paste_all b a (take n bytes) n m
          ∙ sym (append_assoc (take a b) (take n bytes) (drop (a + n) b))
          ∙ ap (λ (i : ℕ). take a b ++ take n bytes ++ drop (a + i) b) m
          ∙ sym (sets-eq (take n bytes) b a (omega arith))
          ∙ ⊎_elim
          (λ (w : length bytes ≤ n). ap (sets b a) (take_all n bytes w))
          (λ (w : n < length bytes). sym (sets_past (sets b a (take n bytes)) (drop n bytes) (a + n) (rw (length-sets b a (take n bytes)) (omega arith)))
          ∙ sets_append b (take n bytes) (drop n bytes) a (a + n) (ap (λ (i : ℕ). a + i) m) ∙ ap (sets b a) (take-append-drop n bytes))
          (le_or_lt (length bytes) n);
      place = omega arith;
    }

-- ---- a list, byte by byte

pub record Writes (bytes b : List ℕ) (a : ℕ) (b' : List ℕ) (place i : ℕ) : Type 0 where
  pub within : i ≤ length bytes
  pub wrote : Wrote b a b' place (take i bytes)

pub writes_none : (bytes b : List ℕ) (a : ℕ) → a ≤ length b → Writes bytes b a b a 0
writes_none bytes b a h = record { within = omega arith; wrote = wrote_none b a h }

pub writes_next : {bytes b : List ℕ} {a : ℕ} {b₁ : List ℕ} {a₁ i : ℕ} {b₂ : List ℕ} {a₂ : ℕ} → Writes bytes b a b₁ a₁ i → i < length bytes → Wrote b₁ a₁ b₂ a₂ (get_or bytes i 0 ∷ []) → Writes bytes b a b₂ a₂ (i + 1)
writes_next {bytes} {b} {a} {i = i} {b₂ = b₂} {a₂ = a₂} W h U = record {
  within = omega arith;
  wrote = rw (add-one i, take-suc bytes i 0 h) (wrote_more W.wrote U);
}

pub writes_all : {bytes b : List ℕ} {a : ℕ} {b' : List ℕ} {place i : ℕ} → Writes bytes b a b' place i → length bytes ≤ i → Wrote b a b' place bytes
writes_all {bytes} {b} {a} {b'} {place} {i} W h = rw (take_all i bytes h) at W.wrote

-- ---- texts, one after the other

pub record Runs (f : ℕ → List ℕ) (n : ℕ) (b : List ℕ) (a : ℕ) (b' : List ℕ) (place i : ℕ) : Type 0 where
  pub within : i ≤ n
  pub wrote : Wrote b a b' place (joined f i)

pub runs_none : (f : ℕ → List ℕ) (n : ℕ) (b : List ℕ) (a : ℕ) → a ≤ length b → Runs f n b a b a 0
unfolding joined
runs_none f n b a h = record { within = omega arith; wrote = wrote_none b a h }

pub runs_next : {f : ℕ → List ℕ} {n : ℕ} {b : List ℕ} {a : ℕ} {b₁ : List ℕ} {a₁ i : ℕ} {b₂ : List ℕ} {a₂ : ℕ} → Runs f n b a b₁ a₁ i → i < n → Wrote b₁ a₁ b₂ a₂ (f i) → Runs f n b a b₂ a₂ (i + 1)
unfolding joined
runs_next {f} {i = i} R h U = record { within = omega arith; wrote = rw (add-one i) (wrote_more R.wrote U) }

pub runs_all : {f : ℕ → List ℕ} {n : ℕ} {b : List ℕ} {a : ℕ} {b' : List ℕ} {place i : ℕ} → Runs f n b a b' place i → n ≤ i → Wrote b a b' place (joined f n)
runs_all {f} {n} {b} {a} {b'} {place} {i} R h =
    let w = R.within in rw (let z : i ≡ n = omega arith in z) at R.wrote
