-- The way up from a cell to its root: how long it is, and what it says of the cell's group.
--     depth            the steps to the root; `depth_up`: one fewer from the parent
--     root_up          the parent has the same root
--     group_lowest     a cell whose root no lower cell has is the lowest of its group; `group_same`: cells of one root are of one group; `group_low`: it is no later
-- Assumes nothing.
use Prim.Native.Nat.{ℕ, zero, suc, ◌+◌, ◌-◌, ◌≤◌, ◌<◌}
use mathlib.Core.Path.{◌≡◌, refl, sym, ◌∙◌, ap}
use mathlib.Core.Bool.{cond, not}
use mathlib.Core.Logic.{◌≢◌}
use mathlib.Core.List.{List}
use native.Mathlib.Omega.{arith}
use borrow.Author.Tests.{eq-eqb, ne_eqb}
use lib.Dec.{eqb}
use lib.ListN.{length}
use Rattle.scope.specs.Lists.{at, first_bad}
use Rattle.scope.specs.UnionFind.{root_of}
use Rattle.scope.specs.Order.{group_of}
use Rattle.scope.proofs.Tests.{clash}
use Rattle.scope.proofs.Scan.{first_bad_lowest, first_bad_is}
use Rattle.scope.proofs.Members.{cases}
use Rattle.scope.proofs.Halving.{Forest, rank_low}
use Rattle.scope.proofs.Climb.{climb_on, climb_end}

-- the steps to the root, at most k
unfoldable pub depth : List ℕ → ℕ → ℕ → ℕ
depth parent zero c = 0
depth parent (suc k) c = let r = suc (depth parent k (at parent c)) in cond (eqb (at parent c) c) 0 r

depth_root : (parent : List ℕ) (k c : ℕ) → at parent c ≡ c → depth parent k c ≡ 0
unfolding depth
depth_root parent zero c e = refl
depth_root parent (suc k) c e = rw (eq-eqb (at parent c) c e)

depth_on : (parent : List ℕ) (k c : ℕ) → at parent c ≢ c → depth parent (suc k) c ≡ suc (depth parent k (at parent c))
unfolding depth
depth_on parent k c n = rw (ne_eqb (at parent c) c n)

module _ {parent ranks : List ℕ} {held : ℕ} (F : Forest parent ranks held) where
  -- a cell whose rank leaves no room for a higher one is a root
  top_root : (c : ℕ) → c < held → held ≤ at ranks c → at parent c ≡ c
  top_root c h k = cases (at parent c) c (λ e. e)
      (λ n. absurd (let r = F.rises c h n in let t = rank_low ranks held parent F (at parent c) (F.inside c h) in omega arith))

  -- more steps change nothing
  depth_more : (k c : ℕ) → c < held → held ≤ k + at ranks c → depth parent (suc k) c ≡ depth parent k c
  depth_more zero c h l = let e = top_root c h (omega arith) in depth_root parent 1 c e ∙ sym (depth_root parent 0 c e)
  depth_more (suc k) c h l = cases (at parent c) c
      (λ e. depth_root parent (suc (suc k)) c e ∙ sym (depth_root parent (suc k) c e))
      (λ n. depth_on parent (suc k) c n ∙ ap suc (depth_more k (at parent c) (F.inside c h) (let r = F.rises c h n in omega arith)) ∙ sym (depth_on parent k c n))

  pub depth_up : (c : ℕ) → c < held → at parent c ≢ c → depth parent held c ≡ suc (depth parent held (at parent c))
  depth_up c h n =
      let r = F.rises c h n in
      let e : held ≡ suc (held - 1) = omega arith in
      ap (λ (k : ℕ). depth parent k c) e ∙ depth_on parent (held - 1) c n
      ∙ ap suc (sym (ap (λ (k : ℕ). depth parent k (at parent c)) e ∙ depth_more (held - 1) (at parent c) (F.inside c h) (omega arith)))

  pub root_up : (c : ℕ) → c < held → root_of parent (at parent c) ≡ root_of parent c
  unfolding root_of
  root_up c h = cases (at parent c) c (λ e. ap (root_of parent) e) (λ n. climb_on ranks held (length parent) parent F c h F.room n)

pub root_own : (parent : List ℕ) (c : ℕ) → at parent c ≡ c → root_of parent c ≡ c
unfolding root_of
root_own parent c e = climb_end (length parent) parent c e

-- ---- groups

pub group_same : (parent : List ℕ) (held c d : ℕ) → root_of parent c ≡ root_of parent d → group_of parent held c ≡ group_of parent held d
unfolding group_of
group_same parent held c d e = ap (λ (z : ℕ). first_bad (λ p. not (eqb (root_of parent p) z)) held) e

pub group_lowest : (parent : List ℕ) (held c : ℕ) → c < held → ((j : ℕ) → j < c → root_of parent j ≢ root_of parent c) → group_of parent held c ≡ c
unfolding group_of
group_lowest parent held c h n = sym (first_bad_is (λ p. not (eqb (root_of parent p) (root_of parent c))) held (record {
  within = omega arith;
  before = λ k l. ap not (ne_eqb (root_of parent k) (root_of parent c) (n k l));
  here = λ l. ap not (eq-eqb (root_of parent c) (root_of parent c) refl);
}))

-- a held cell's group is held
pub group_low : (parent : List ℕ) (held c : ℕ) → c < held → group_of parent held c ≤ c
unfolding group_of
group_low parent held c h =
    let L = first_bad_lowest (λ p. not (eqb (root_of parent p) (root_of parent c))) held in
    let no_later : c < first_bad (λ p. not (eqb (root_of parent p) (root_of parent c))) held → ⊥ = λ l. clash (L.before c l) (ap not (eq-eqb (root_of parent c) (root_of parent c) refl)) in
    omega arith
