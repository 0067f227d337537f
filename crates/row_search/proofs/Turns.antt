-- The search for a row takes at most 17 turns in a table of 65,536 rows. Each turn of the loop of `find_row` is a `Turn`, and its proof has
-- `halvings` of the rows left as its measure, which a turn makes smaller.
--     turn_less       a turn takes 1 off `halvings` at least
--     turns_most      so no more turns follow each other than `halvings` says
--     at_most_17      AT MOST 17 TURNS AMONG 65,536 ROWS
-- Assumes nothing.
use Prim.Native.Nat.{ℕ, zero, suc, ◌*◌, ◌^◌, ◌<◌, ◌≤◌}
use mathlib.Core.Path.{◌≡◌}
use mathlib.Core.Bool.{false}
use mathlib.Core.Logic.{⊎_elim}
use native.Mathlib.Nat.{pow-suc}
use native.Mathlib.Omega.{arith}
use lib.Dec.{leb}
use borrow.Author.Tests.{lt-leb, leb-false}
use Rattle.scope.proofs.Tests.{clash, le_or_lt}
use Rattle.scope.proofs.Scan.{first_bad_lowest}
use Rattle.row_search.specs.Turns.{Turn, Turns, halvings}

halvings_below : (n k : ℕ) → k < 65 → n < 2 ^ k → halvings n ≤ k
unfolding halvings
halvings_below n k h l =
    ⊎_elim
    (λ (g : halvings n ≤ k). g)
    (λ (g : k < halvings n). absurd (clash ((first_bad_lowest (λ k. leb (2 ^ k) n) 65).before k g) (lt-leb (2 ^ k) n l)))
    (le_or_lt (halvings n) k)

pub turn_less : {n m : ℕ} → n < 2 ^ 64 → Turn n m → halvings m < halvings n
unfolding halvings
turn_less {n} {m} small t = go (halvings n) (halvings_below n 64 (omega arith) small) (first_bad_lowest (λ k. leb (2 ^ k) n) 65).here
  where
    go : (k : ℕ) → k ≤ 64 → (k < 65 → leb (2 ^ k) n ≡ false) → halvings m < k
    go zero h f = absurd (let w : n < 2 ^ 0 = leb-false (2 ^ 0) n (f (omega arith)) in omega (arith, t.some))
    go (suc k) h f =
        let w : n < 2 ^ k * 2 = rw pow-suc at (leb-false (2 ^ suc k) n (f (omega arith))) in
        let l : halvings m ≤ k = halvings_below m k (omega arith) (omega (arith, t.half)) in
        omega arith

pub turns_most : (k n : ℕ) → n < 2 ^ 64 → Turns k n → k ≤ halvings n
turns_most zero n small ts = omega arith
turns_most (suc k) n small ts =
    let t : Turn n ts.0 = ts.1 in
    let l = turns_most k ts.0 (omega (arith, t.half)) ts.2 in
    let w = turn_less small t in
    omega arith

pub at_most_17 : (k n : ℕ) → n ≤ 65536 → Turns k n → k ≤ 17
at_most_17 k n h ts =
    let l = turns_most k n (omega arith) ts in
    let w = halvings_below n 17 (omega arith) (omega arith) in
    omega arith
