-- The held cells, copied into the front of a list that has a place for each.
--     full_cells       how long full memory's cells are
--     first_copied     the first cells of a copy are those that were copied
--     held_copied      as many as there is room for are all of them
-- Assumes nothing.
use Prim.Native.Nat.{ℕ, ◌+◌, ◌≤◌, ◌<◌}
use mathlib.Core.Path.{◌≡◌, sym, ◌∙◌, ap}
use mathlib.Core.List.{List}
use native.Mathlib.Nat.{min-le_left, min-le_right}
use native.Mathlib.Omega.{arith}
use lib.ListN.{length, take, length-take, length-replicate}
use lib.Seq.{paste, take-paste, take_all, get_or-take, ext_get_or, length-take-le}
use Rattle.scope.specs.Table.{Table}
use Rattle.scope.specs.Memory.{Memory}
use Rattle.scope.specs.Bytes.{cleared}
use Rattle.full_size.specs.Drawing.{full_memory}

module _ (t : Table) {m : Memory} (e : m ≡ full_memory t) where
  pub full_cells : length m.cells ≡ 16384
  unfolding cleared
  full_cells = ap (λ (k : Memory). length k.cells) e ∙ length-replicate {A = ℕ} 16384 0

-- as many of the first h cells as there are k places for
count_within : (h k : ℕ) (l : List ℕ) → (length (take k (take h l)) ≤ h) × (length (take k (take h l)) ≤ k) × (length (take k (take h l)) ≤ length l)
count_within h k l =
    let a = min-le_left k (length (take h l)) in let b = min-le_right k (length (take h l)) in
    let c = min-le_left h (length l) in let d = min-le_right h (length l) in
    let e = length-take k (take h l) in let f = length-take h l in
    (omega arith, omega arith, omega arith)

cut : (h k : ℕ) (l : List ℕ) → take (length (take k (take h l))) l ≡ take k (take h l)
cut h k l =
    let w = count_within h k l in
    let n = length (take k (take h l)) in
    let long : length (take n l) ≡ n = length-take-le n l w.2 in
    ext_get_or 0 (take n l) (take k (take h l)) long
    (λ i q. let s : i < n = omega arith in
    get_or-take n l i 0 s ∙ sym (get_or-take k (take h l) i 0 (omega arith) ∙ get_or-take h l i 0 (omega arith)))

pub first_copied : (h : ℕ) (l list : List ℕ) {n : ℕ} {list' : List ℕ} → n ≡ length (take (length list) (take h l)) → list' ≡ paste list 0 l n
    → take n list' ≡ take (length list) (take h l)
first_copied h l list {n} {list'} e f =
    let w = count_within h (length list) l in
    let within : n ≤ length l = omega arith in
    let none : 0 + n ≡ n = omega arith in
    ap (take n) f ∙ ap (λ (k : ℕ). take k (paste list 0 l n)) (sym none) ∙ take-paste list 0 l n (omega arith) within ∙ ap (λ (k : ℕ). take k l) e ∙ cut h (length list) l

pub held_copied : (h : ℕ) (l list : List ℕ) {n : ℕ} {list' : List ℕ} → 16384 ≡ length list → length l ≡ 16384
    → n ≡ length (take (length list) (take h l)) → list' ≡ paste list 0 l n → take n list' ≡ take h l
held_copied h l list a b e f =
    let g = length-take h l in let w = min-le_right h (length l) in
    first_copied h l list e f ∙ take_all (length list) (take h l) (omega arith)
