-- Passes that gather bits: what the bits tell at the end, they tell of every row.
--     Showing, showing_start, -more, -done     the loop, from row 1 on: where what is gathered is clear, the test holds at every row so far
--     sevens_start, sevens_more                the digits 7
--     rising_start, rising_more, rising_done   neighbours in order, by the top bit
-- Assumes nothing.
use Prim.Native.Nat.{ℕ, ◌+◌, ◌-◌, ◌^◌, ◌<◌, ◌≤◌}
use mathlib.Core.Path.{◌≡◌, sym, ◌∙◌, ap}
use mathlib.Core.Bool.{Bool, true, ◌&&◌}
use mathlib.Core.List.{List}
use mathlib.Core.Logic.{⊎_elim}
use native.Mathlib.Nat.{eq-or-lt_of_le}
use native.Mathlib.Omega.{arith}
use lib.Bits.{bit_and, bit_or, bit_xor, or_add_and, xor_add_and, and_le_l, and_le_r}
use lib.Dec.{eqb, ltb}
use lib.ListN.{length}
use borrow.Author.Tests.{eq-eqb, ne_eqb, lt-ltb, ltb-true}
use Rattle.scope.specs.Lists.{at, passes}
use Rattle.scope.specs.Table.{ascends}
use Rattle.scope.proofs.Tests.{and_left, and_right, and_both}
use Rattle.scope.proofs.Scan.{passes_at, passes_all}

-- ---- the loop

pub record Showing (ok : ℕ → Bool) (n i : ℕ) (clear : Type 0) : Type 0 where
  pub within : i ≤ n
  pub so_far : clear → (k : ℕ) → k < i → ok k ≡ true

pub showing_start : {ok : ℕ → Bool} {n : ℕ} {clear : Type 0} → 0 < n → (clear → ok 0 ≡ true) → Showing ok n 1 clear
showing_start {ok} h first = record {
  within = omega arith;
  so_far = λ c k l. let z : k ≡ 0 = omega arith in ap ok z ∙ first c;
}

module _ {ok : ℕ → Bool} {n i : ℕ} {clear : Type 0} (S : Showing ok n i clear) where
  pub showing_more : i < n → {still : Type 0} → (still → clear × (ok i ≡ true)) → Showing ok n (i + 1) still
  showing_more h back = record {
    within = omega arith;
    so_far = λ c k l.
        let m : k ≤ i = omega arith in
        ⊎_elim (λ (q : k ≡ i). ap ok q ∙ (back c).1) (λ (g : k < i). S.so_far (back c).0 k g) (eq-or-lt_of_le m);
  }

  pub showing_done : n ≤ i → clear → passes ok n ≡ true
  showing_done h c = passes_all ok n (λ k l. S.so_far c k (omega arith))

-- ---- bits

or_none : (a b : ℕ) → bit_or a b ≡ 0 → (a ≡ 0) × (b ≡ 0)
or_none a b e =
    let s = or_add_and a b in
    let l = and_le_l a b in
    let r = and_le_r a b in
    (omega arith, omega arith)

xor_none : (a b : ℕ) → bit_xor a b ≡ 0 → a ≡ b
xor_none a b e =
    let s = xor_add_and a b in
    let l = and_le_l a b in
    let r = and_le_r a b in
    omega arith

pub sevens_start : (found wanted : ℕ) {off : ℕ} → off ≡ bit_xor found wanted → off ≡ 0 → eqb found wanted ≡ true
sevens_start found wanted e z = eq-eqb _ _ (xor_none found wanted (sym e ∙ z))

pub sevens_more : (off found wanted : ℕ) {more : ℕ} → more ≡ bit_xor found wanted → bit_or off more ≡ 0 → (off ≡ 0) × (eqb found wanted ≡ true)
sevens_more off found wanted {more} e z =
    let both = or_none off more z in
    (both.0, sevens_start found wanted e both.1)

-- ---- neighbours in order

abbrev pub rises : List ℕ → ℕ → Bool
rises es i = ascends es i && ltb (at es i) (2 ^ 63)

pub rising_start : (es : List ℕ) → at es 0 < 2 ^ 63 → rises es 0 ≡ true
unfolding ascends
rising_start es h = lt-ltb (at es 0) (2 ^ 63) h

above : (es : List ℕ) (i : ℕ) → 0 < i → at es (i - 1) < at es i → ascends es i ≡ true
unfolding ascends
above es i p l = rw (ne_eqb i 0 (λ z. omega arith)) (lt-ltb (at es (i - 1)) (at es i) l)

pub rising_more : (es : List ℕ) {i rising d inverse : ℕ} → Showing (rises es) (length es) i (2 ^ 63 ≤ rising) → 0 < i → i < length es
    → (2 ^ 63 ≤ d → at es (i - 1) < 2 ^ 63 → at es (i - 1) < at es i) → (2 ^ 63 ≤ inverse → at es i < 2 ^ 63)
    → Showing (rises es) (length es) (i + 1) (2 ^ 63 ≤ bit_and (bit_and rising d) inverse)
rising_more es {i} {rising} {d} {inverse} S p h step low = showing_more S h (λ c.
    let a = and_le_l (bit_and rising d) inverse in
    let b = and_le_r (bit_and rising d) inverse in
    let e = and_le_l rising d in
    let f = and_le_r rising d in
    let kept : 2 ^ 63 ≤ rising = omega arith in
    let before : at es (i - 1) < 2 ^ 63 = ltb-true _ _ (and_right (ascends es (i - 1)) _ (S.so_far kept (i - 1) (omega arith))) in
    (kept, and_both (ascends es i) _ (above es i p (step (omega arith) before)) (lt-ltb (at es i) (2 ^ 63) (low (omega arith)))))

pub rising_done : (es : List ℕ) {i rising : ℕ} → Showing (rises es) (length es) i (2 ^ 63 ≤ rising) → length es ≤ i → 2 ^ 63 ≤ rising → passes (ascends es) (length es) ≡ true
rising_done es S h c =
    let all = showing_done S h c in
    passes_all (ascends es) (length es) (λ k l. and_left (ascends es k) _ (passes_at (rises es) (length es) all k l))
