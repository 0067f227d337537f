-- A result says all that its verdict says, but an index past 2^32 − 1.
--     result_done      it is 0 only where the call is carried out
--     result_tells     equal results come of equal verdicts, where the indexes fit 32 bits
--     low              a refusal has a number of at most 10, so that a result fits its 64 bits
-- Assumes nothing.
use Prim.Native.Nat.{ℕ, ◌^◌, ◌<◌, ◌≤◌}
use mathlib.Core.Path.{◌≡◌, refl, sym, ◌∙◌, ap, ap₂}
use mathlib.Core.Bool.{cond}
use native.Mathlib.Omega.{arith}
use lib.Dec.{eqb}
use borrow.Author.Tests.{lt-ltb}
use Rattle.std.specs.Prelude.{Err, Ok}
use Rattle.scope.specs.declared.Refusal.{Refusal}
use Rattle.scope.specs.declared.Refusal.TheVariants.{BadTable, InvalidCell, DuplicateInput, UnsupportedResolution, EdgeNotInTable, EdgeTwice, PoolFull, TooManyCells, BrokenState, BadLengths}
use Rattle.scope.specs.Answers.{Verdict, refusal_number, refusal_index, refusal_of, index_of}
use Rattle.scope.specs.Bytes.{in32, result_of}
use Rattle.scope.proofs.Numbered.{why_numbered, numbered, number_most}

fits : (n : ℕ) → n < 2 ^ 32 → in32 n ≡ n
fits n h = rw (lt-ltb n (2 ^ 32) h)

-- the refusal of a number and an index
told_by : ℕ → ℕ → Refusal
told_by n i =
    cond (eqb n 1) (BadTable i) (cond (eqb n 2) (InvalidCell i) (cond (eqb n 3) (DuplicateInput i) (cond (eqb n 4) (UnsupportedResolution i)
    (cond (eqb n 5) (EdgeNotInTable i) (cond (eqb n 6) (EdgeTwice i) (cond (eqb n 7) (PoolFull i) (cond (eqb n 8) TooManyCells (cond (eqb n 9) BrokenState BadLengths))))))))

told : (why : Refusal) → told_by (refusal_number why) (refusal_index why) ≡ why
unfolding refusal_number refusal_index told_by
told (BadTable row) = refl
told (InvalidCell index) = refl
told (DuplicateInput index) = refl
told (UnsupportedResolution index) = refl
told (EdgeNotInTable index) = refl
told (EdgeTwice index) = refl
told (PoolFull index) = refl
told TooManyCells = refl
told BrokenState = refl
told BadLengths = refl

pub result_done : (v : Verdict) → result_of v ≡ 0 → v ≡ Ok tt
unfolding result_of refusal_of index_of
result_done (Ok done) e = refl
result_done (Err why) e = let l = (why_numbered why).least in absurd (omega arith)

pub result_tells : (v w : Verdict) → index_of v < 2 ^ 32 → index_of w < 2 ^ 32 → result_of v ≡ result_of w → v ≡ w
unfolding result_of refusal_of index_of
result_tells (Ok done) (Ok done') f g e = refl
result_tells (Ok done) (Err why) f g e = let l = (why_numbered why).least in absurd (omega arith)
result_tells (Err why) (Ok done) f g e = let l = (why_numbered why).least in absurd (omega arith)
result_tells (Err why) (Err why') f g e =
    let i = fits (refusal_index why) f in let i' = fits (refusal_index why') g in
    let same : refusal_number why ≡ refusal_number why' = omega arith in
    let there : refusal_index why ≡ refusal_index why' = omega arith in
    let whys : why ≡ why' = sym (told why) ∙ ap₂ told_by same there ∙ told why' in
    ap (λ (r : Refusal). Err r) whys

pub low : (v : Verdict) → refusal_of v ≤ 10
low v = number_most v (numbered v)
