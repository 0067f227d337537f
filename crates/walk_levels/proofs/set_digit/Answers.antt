-- `walk_levels::set_digit` meets its contract.
-- Assumes nothing.
use mathlib.Core.Path.{refl}
use Prim.Native.Nat.{◌*◌, ◌-◌}
use native.Mathlib.Omega.{arith}
use Rattle.walk_levels.proofs.OneDigit.{old_exact, new_exact, put_64}
use Rattle.walk_levels.proofs.set_digit.Goals as goal

pub overflow_add-result : goal.overflow_add-result
overflow_add-result c = let a = c.args in
    let s = 3 * (15 - a.r) in
    record {
      fits =
          rw (old_exact a.scratchpad s (omega arith), new_exact a.d s (omega arith) c.requires.1)
          (put_64 a.scratchpad s a.d (omega arith) c.requires.1 (omega arith));
    }

pub returns : goal.returns
returns c = let a = c.args in
    let s = 3 * (15 - a.r) in
    record {
      scratchpad = rw (old_exact a.scratchpad s (omega arith), new_exact a.d s (omega arith) c.requires.1);
      changed = refl;
    }
