-- After the walk: its marks can be cleared, and are then as they were.
-- Assumes nothing.
use mathlib.Core.Path.{◌≡◌, ◌∙◌, ap}
use mathlib.Core.List.{List}
use Prim.Native.Nat.{ℕ}
use native.Mathlib.Omega.{arith}
use lib.ListN.{length, replicate, take}
use Rattle.scope.specs.Lists.{zeros}
use Rattle.taking.specs.declared.lookup.Outlined.{Outlined}
use Rattle.taking.specs.Outlines.{OutlineAsks, FindsMarked, UnmarkAsks}
use Rattle.taking.proofs.Marking.{marks_clear}

module _ {es mark₀ rows₀ : List ℕ} {x : ℕ} (asks : OutlineAsks es mark₀ rows₀ x) where
  pub unmark_asks : {mark rows : List ℕ} {r : Outlined} → FindsMarked es x mark rows r → length mark ≡ length mark₀ → UnmarkAsks mark (take r.count rows)
  unmark_asks f e = record {
    inside = λ a m. let k = f.inside a m in omega (arith, asks.marks);
    off = f.marks.off;
  }

  pub marks_back : (mark : List ℕ) {left : List ℕ} → left ≡ zeros mark → length mark ≡ length mark₀ → left ≡ mark₀
  marks_back mark q e = q ∙ ap (λ (n : ℕ). replicate n 0) e ∙ marks_clear mark₀ asks.clear
