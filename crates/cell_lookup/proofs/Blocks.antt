-- The descendants of a valid cell are the numbers of a block that ends with the cell's own key, its base cell and digits.
--     same_key        valid cells with equal keys are equal: the resolution can be read off the digits
--     under_below     a cell's key is below that of every cell that it lies under
--     between         what stands between a cell and one that it lies under lies under that too
--     under_trans     a cell under one that lies under a third lies under the third
-- Assumes nothing.
use mathlib.Core.Path.{◌≡◌, ◌∙◌, ap, sym, subst}
use mathlib.Core.Bool.{true}
use Prim.Native.Nat.{ℕ, zero, suc, ◌+◌, ◌-◌, ◌*◌, ◌/◌, ◌%◌, ◌^◌, ◌<◌, ◌≤◌}
use native.Mathlib.Nat.{div-add-mod', mod-lt}
use native.Mathlib.Decide.{dec_lt}
use native.Mathlib.Omega.{arith}
use lib.Pow.{shr-shr, shr_mono, mod-mod-pow, mod-pow-add, pow-add, pow_pos}
use lib.Dec.{ltb}
use borrow.Author.Tests.{eq-eqb, lt-ltb, le-leb, eqb-true, ltb-true}
use Rattle.scope.specs.Cells.{resolution_of, weight, digit, under, valid_cell}
use Rattle.scope.proofs.Tests.{and_left, and_right, and_both}
use Rattle.scope.proofs.Cells.{cell_top, cell_fits, cell_after}
use Rattle.index.proofs.Prefix.{under_at_once, low_digit}
use Rattle.scope.proofs.Members.{cases}
use Rattle.cell_lookup.specs.Order.{key_of}

-- how wide a cell's block is
abbrev width : ℕ → ℕ
width x = weight (resolution_of x)

resolution_small : (x : ℕ) → resolution_of x < 16
resolution_small x = omega arith

-- equal leading digits have an equal last one
digit_by : (x y r : ℕ) → key_of x / weight r ≡ key_of y / weight r → digit x r ≡ digit y r
digit_by x y r e = sym (low_digit x 52 r (omega arith)) ∙ ap (λ (n : ℕ). n % 8) e ∙ low_digit y 52 r (omega arith)

own_digit : (x : ℕ) → valid_cell x ≡ true → 0 < resolution_of x → digit x (resolution_of x) < 7
own_digit x v h =
    ltb-true _ _ (rw (le-leb (resolution_of x) (resolution_of x) (omega arith)) at (cell_fits x v (resolution_of x) h (let r = resolution_small x in omega arith)))

-- ---- a cell's key is the last of its block

-- m digits of 7 at the end
ends : (x m : ℕ) → ((j : ℕ) → j < m → x / 2 ^ (3 * j) % 8 ≡ 7) → x % 2 ^ (3 * m) ≡ 2 ^ (3 * m) - 1
ends x zero f = omega arith
ends x (suc m) f =
    let e : 3 * suc m ≡ 3 + 3 * m = omega arith in
    let i = ends x m (λ j h. f j (omega arith)) in
    let a : x % 2 ^ (3 + 3 * m) ≡ x / 2 ^ (3 * m) % 8 * 2 ^ (3 * m) + x % 2 ^ (3 * m) = mod-pow-add x 3 (3 * m) in
    let b : 2 ^ (3 + 3 * m) ≡ 8 * 2 ^ (3 * m) = pow-add 2 3 (3 * m) in
    let p = pow_pos (3 * m) in
    rw (e, a, f m (omega arith), i, b) (omega arith)

block_end : (x : ℕ) → valid_cell x ≡ true → key_of x % width x ≡ width x - 1
block_end x v =
    let m : ℕ = 15 - resolution_of x in
    let r = resolution_small x in
    let e : 52 ≡ (52 - 3 * m) + 3 * m = omega arith in
    subst (λ (q : ℕ). x % 2 ^ q % 2 ^ (3 * m) ≡ x % 2 ^ (3 * m)) (sym e) (mod-mod-pow x (52 - 3 * m) (3 * m))
    ∙ ends x m (λ j h.
    let g : 15 - (15 - j) ≡ j = omega arith in
    subst (λ (q : ℕ). x / 2 ^ (3 * q) % 8 ≡ 7) g (cell_after x v (15 - j) (omega arith) (omega arith)))

last : (a b t d r : ℕ) → a ≡ t + r → r < d → b ≡ t + (d - 1) → a ≤ b
last a b t d r p q s = omega arith

in_block_le : (a b : ℕ) → valid_cell b ≡ true → key_of a / width b ≡ key_of b / width b → key_of a ≤ key_of b
in_block_le a b v e =
    last (key_of a) (key_of b) (key_of b / width b * width b) (width b) (key_of a % width b)
    (sym (div-add-mod' (key_of a) (width b)) ∙ ap (λ (q : ℕ). q * width b + key_of a % width b) e)
    (mod-lt (key_of a) (pow_pos (3 * (15 - resolution_of b))))
    (sym (div-add-mod' (key_of b) (width b)) ∙ ap (λ (r : ℕ). key_of b / width b * width b + r) (block_end b v))

-- ---- cells with equal keys

-- of two valid cells with the same digits neither is finer
no_finer : (a b : ℕ) → valid_cell a ≡ true → valid_cell b ≡ true → key_of a ≡ key_of b → resolution_of b < resolution_of a → ⊥
no_finer a b va vb e h =
    let d = digit_by a b (resolution_of a) (ap (λ (q : ℕ). q / width a) e) in
    let s = cell_after b vb (resolution_of a) h (let r = resolution_small a in omega arith) in
    let o = own_digit a va (omega arith) in
    omega arith

whole : (x : ℕ) → x / 2 ^ 56 ≡ 8 → x ≡ 8 * 2 ^ 56 + resolution_of x * 2 ^ 52 + key_of x
whole x h = omega arith

pub same_key : (x y : ℕ) → valid_cell x ≡ true → valid_cell y ≡ true → key_of x ≡ key_of y → x ≡ y
same_key x y vx vy e =
    let p = no_finer x y vx vy e in
    let q = no_finer y x vy vx (sym e) in
    let r : resolution_of x ≡ resolution_of y = omega arith in
    whole x (cell_top x vx) ∙ ap (λ (n : ℕ). 8 * 2 ^ 56 + n * 2 ^ 52 + key_of x) r
    ∙ ap (λ (n : ℕ). 8 * 2 ^ 56 + resolution_of y * 2 ^ 52 + n) e ∙ sym (whole y (cell_top y vy))

-- ---- cells under another

under_parts : (a b : ℕ) → under a b ≡ true → (resolution_of b < resolution_of a) × (key_of a / width b ≡ key_of b / width b)
under_parts a b u =
    let e = sym (under_at_once a b) ∙ u in (
      ltb-true _ _ (and_left (ltb (resolution_of b) (resolution_of a)) _ e),
      eqb-true _ _ (and_right (ltb (resolution_of b) (resolution_of a)) _ e),
    )

under_from : (a b : ℕ) → resolution_of b < resolution_of a → key_of a / width b ≡ key_of b / width b → under a b ≡ true
under_from a b h e = under_at_once a b ∙ and_both _ _ (lt-ltb _ _ h) (eq-eqb _ _ e)

pub under_below : (a b : ℕ) → valid_cell a ≡ true → valid_cell b ≡ true → under a b ≡ true → key_of a < key_of b
under_below a b va vb u =
    let p = under_parts a b u in
    let l = in_block_le a b vb p.1 in
    let n : (key_of a ≡ key_of b → ⊥) = λ e. no_finer a b va vb e p.0 in
    omega arith

-- a valid cell of the block, and not its last, lies under the last
in_block : (q b : ℕ) → valid_cell q ≡ true → valid_cell b ≡ true → key_of q / width b ≡ key_of b / width b → (q ≡ b → ⊥) → under q b ≡ true
in_block q b vq vb e n = elim (dec_lt (resolution_of b) (resolution_of q)) [
  | yes h ↦ under_from q b h e
  | no h ↦ absurd (cases (resolution_of q) (resolution_of b)
      (λ z.
      let g : key_of q % width b ≡ width b - 1 = subst (λ (r : ℕ). key_of q % weight r ≡ weight r - 1) z (block_end q vq) in
      n (same_key q b vq vb
      (sym (div-add-mod' (key_of q) (width b)) ∙ ap (λ (m : ℕ). m * width b + key_of q % width b) e
      ∙ ap (λ (m : ℕ). key_of b / width b * width b + m) (g ∙ sym (block_end b vb)) ∙ div-add-mod' (key_of b) (width b))))
      (λ z.
      let l : resolution_of q < resolution_of b = omega arith in
      let s = cell_after q vq (resolution_of b) l (let r = resolution_small b in omega arith) in
      let o = own_digit b vb (omega arith) in
      let d = digit_by q b (resolution_of b) e in
      omega arith))
]

squeezed : (x y z : ℕ) → x ≤ y → y ≤ z → x ≡ z → y ≡ z
squeezed x y z p q e = omega arith

pub between : (a q b : ℕ) → valid_cell q ≡ true → valid_cell b ≡ true → under a b ≡ true → key_of a ≤ key_of q → key_of q ≤ key_of b → (q ≡ b → ⊥) → under q b ≡ true
between a q b vq vb u h g n =
    let e = (under_parts a b u).1 in
    let x = shr_mono (3 * (15 - resolution_of b)) h in
    let y = shr_mono (3 * (15 - resolution_of b)) g in
    in_block q b vq vb (squeezed _ _ _ x y e) n

pub under_trans : (a b d : ℕ) → under a b ≡ true → under b d ≡ true → under a d ≡ true
under_trans a b d u v =
    let p = under_parts a b u in
    let q = under_parts b d v in
    let r = resolution_small b in
    let s : ℕ = 3 * (15 - resolution_of b) in
    let j : ℕ = 3 * (resolution_of b - resolution_of d) in
    let e : 3 * (15 - resolution_of d) ≡ s + j = omega (arith, q.0) in
    under_from a d (omega (arith, p.0, q.0))
    (ap (λ (m : ℕ). key_of a / 2 ^ m) e ∙ sym (shr-shr (key_of a) s j) ∙ ap (λ (m : ℕ). m / 2 ^ j) p.1
    ∙ shr-shr (key_of b) s j ∙ ap (λ (m : ℕ). key_of b / 2 ^ m) (sym e) ∙ q.1)
