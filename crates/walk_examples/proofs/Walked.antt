-- What a loop over a walk keeps: the walk goes on, and the digest so far with the edges left gives the outline's.
-- Assumes nothing.
use Prim.Native.Nat.{ℕ, ◌+◌, ◌*◌, ◌%◌, ◌<◌}
use mathlib.Core.Path.{◌≡◌, sym, ◌∙◌, ap}
use native.Mathlib.Omega.{arith}
use lib.ListN.{length}
use Rattle.std.proofs.lemmas.List.{nil_from_length}
use Rattle.scope.specs.Walk.{outline}
use Rattle.gosper.specs.declared.Gosper.{Gosper}
use Rattle.gosper.specs.declared.Stepped.{Stepped}
use Rattle.gosper.specs.Walking.{Walking, Begins, Steps, rest}
use Rattle.walk_examples.specs.Digest.{digest_from}

pub record Summed (x t : ℕ) (g : Gosper) (sum : ℕ) : Type 0 where
  pub walking : Walking g
  pub digest : digest_from sum (rest g) ≡ digest_from 0 (outline x t)
  pub low : sum < 1000000007

pub sum_start : {x t : ℕ} {g : Gosper} → Begins x t g → Summed x t g 0
sum_start B = record { walking = B.walking; digest = ap (digest_from 0) B.rest; low = omega arith }

pub sum_step : {x t sum : ℕ} {g : Gosper} {s : Stepped} → Summed x t g sum → Steps g s → Summed x t s.walk ((sum * 31 + s.edge % 1000000007) % 1000000007)
unfolding digest_from
sum_step {sum = sum} S T = record { walking = T.walking; digest = sym (ap (digest_from sum) T.rest) ∙ S.digest; low = omega arith }

pub sum_end : {x t sum : ℕ} {g : Gosper} → Summed x t g sum → length (rest g) ≡ 0 → sum ≡ digest_from 0 (outline x t)
unfolding digest_from
sum_end {sum = sum} {g} S e = sym (ap (digest_from sum) (nil_from_length (rest g) e)) ∙ S.digest
