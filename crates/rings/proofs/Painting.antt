-- The marks of the cells' groups: climbing to a mark or a root, marking the way up, and the pass over the cells.
-- Assumes nothing.
use Prim.Native.Nat.{ℕ, zero, suc, ◌+◌, ◌*◌, ◌≤◌, ◌<◌}
use mathlib.Core.Path.{◌≡◌, refl, sym, ◌∙◌, ap}
use mathlib.Core.Bool.{Bool, true, false, cond}
use mathlib.Core.Logic.{◌⊎◌, inl, inr, ⊎_elim, ◌≢◌}
use mathlib.Core.List.{List}
use native.Mathlib.Numerals.{add-one}
use native.Mathlib.Omega.{arith}
use borrow.Author.Tests.{eq-eqb, ne_eqb}
use lib.Dec.{eqb}
use lib.ListN.{length, set, length-set}
use lib.Seq.{get_or-set_same, get_or-set_other}
use Rattle.scope.specs.Lists.{at}
use Rattle.scope.specs.UnionFind.{climb, root_of}
use Rattle.scope.specs.Order.{group_of}
use Rattle.scope.proofs.Members.{cases}
use Rattle.rings.specs.Grouping.{GroupPass, PathReady, PaintReady, Painted, GroupsReady, Grouped}
use Rattle.rings.proofs.Paths.{depth, depth_up, root_up, root_own, group_same, group_lowest, group_low}

-- marks go up to the root
marks_up : {parent mark : List ℕ} {held p : ℕ} → GroupPass parent mark held p → (k c : ℕ) → c < held → at mark c ≢ 0 → at mark (climb k parent c) ≢ 0
unfolding climb
marks_up G zero c h n = n
marks_up {parent} {mark} G (suc k) c h n = cases (at parent c) c
    (λ e. rw (eq-eqb (at parent c) c e) n)
    (λ d. rw (ne_eqb (at parent c) c d) (marks_up G k (at parent c) (G.parents.forest.inside c h) (G.shut c h n)))

-- ---- climbing from p

pub record ClimbInv (parent mark : List ℕ) (held p i : ℕ) : Type 0 where
  pub ready : PathReady parent mark held p
  pub low : i < held
  pub same : root_of parent i ≡ root_of parent p

pub climb_start : {parent mark : List ℕ} {held p : ℕ} → PathReady parent mark held p → ClimbInv parent mark held p p
climb_start R = record { ready = R; low = R.low; same = refl }

module _ {parent mark : List ℕ} {held p i : ℕ} (I : ClimbInv parent mark held p i) where
  pub climb_in : (i < length mark) × (i < length parent) × (p < 65536)
  climb_in =
      let a = I.low in let b = I.ready.pass.space in let c = I.ready.pass.parents.forest.room in let d = I.ready.low in let e = I.ready.pass.parents.few in
      (omega arith, omega arith, omega arith)

  pub climb_up : {q : ℕ} → q ≡ at parent i → ClimbInv parent mark held p q
  climb_up e = record {
    ready = I.ready;
    low = rw e (I.ready.pass.parents.forest.inside i I.low);
    same = ap (root_of parent) e ∙ root_up I.ready.pass.parents.forest i I.low ∙ I.same;
  }

  pub climb_less : {q : ℕ} → q ≡ at parent i → q ≢ i → depth parent held q < depth parent held i
  climb_less {q} e n =
      let d = depth_up I.ready.pass.parents.forest i I.low (λ z. n (e ∙ z)) in
      let f : depth parent held q ≡ depth parent held (at parent i) = ap (depth parent held) e in
      omega arith

  pub climb_marked : at mark i ≢ 0 → at mark i ≡ suc (group_of parent held p)
  climb_marked h = I.ready.pass.good i I.low h ∙ ap suc (group_same parent held i p I.same)

  -- an unmarked root: no lower cell has it
  pub climb_new : at mark i ≡ 0 → {q : ℕ} → q ≡ at parent i → q ≡ i → p + 1 ≡ suc (group_of parent held p)
  unfolding root_of
  climb_new z e f = add-one p ∙ ap suc (sym (group_lowest parent held p I.ready.low apart))
    where
      apart : (j : ℕ) → j < p → root_of parent j ≢ root_of parent p
      apart j l s =
          let c = I.ready.low in
          marks_up I.ready.pass (length parent) j (omega arith) (I.ready.pass.done j l) (ap (at mark) (s ∙ sym I.same ∙ root_own parent i (sym e ∙ f)) ∙ z)

-- ---- marking the way up from p

-- what is left to do: twice the way to the root, and one where the cell has no mark yet
abbrev pub todo : List ℕ → ℕ → List ℕ → ℕ → ℕ
todo parent held mark i = 2 * depth parent held i + cond (eqb (at mark i) 0) 1 0

at_most_one : (b : Bool) → cond {A = ℕ} b 1 0 ≤ 1
at_most_one true = omega arith
at_most_one false = omega arith

pub record PaintInv (parent mark₀ : List ℕ) (held p v : ℕ) (mark : List ℕ) (i : ℕ) : Type 0 where
  pub ready : PaintReady parent mark₀ held p v
  pub low : i < held
  pub same : root_of parent i ≡ root_of parent p
  pub done : (q : ℕ) → q < p → at mark q ≢ 0
  pub here : (at mark p ≢ 0) ⊎ (i ≡ p)
  pub shut : (q : ℕ) → q < held → at mark q ≢ 0 → (at mark (at parent q) ≢ 0) ⊎ (at parent q ≡ i)
  pub good : (q : ℕ) → q < held → at mark q ≢ 0 → at mark q ≡ suc (group_of parent held q)
  pub len : length mark ≡ length mark₀

pub paint_start : {parent mark : List ℕ} {held p v : ℕ} → PaintReady parent mark held p v → PaintInv parent mark held p v mark p
paint_start R = record {
  ready = R;
  low = R.path.low;
  same = refl;
  done = R.path.pass.done;
  here = inr refl;
  shut = λ q l n. inl (R.path.pass.shut q l n);
  good = R.path.pass.good;
  len = refl;
}

module _ {parent mark₀ : List ℕ} {held p v : ℕ} {mark : List ℕ} {i : ℕ} (I : PaintInv parent mark₀ held p v mark i) where
  pub paint_in : (i < length mark) × (i < length parent)
  paint_in = let a = I.low in let b = I.ready.path.pass.space in let c = I.ready.path.pass.parents.forest.room in let d = I.len in (omega arith, omega arith)

  v_some : v ≢ 0
  v_some = let e = I.ready.v_is in omega arith

  -- a group is a held cell
  pub paint_value : v < 4294967296
  paint_value =
      let e = I.ready.v_is in let g = group_low parent held p I.ready.path.low in let f = I.ready.path.pass.parents.few in
      omega arith

  module _ (z : at mark i ≡ 0) {q : ℕ} (e : q ≡ at parent i) where
    set_i : at (set mark i v) i ≡ v
    set_i = get_or-set_same mark i v 0 paint_in.0

    kept : (c : ℕ) → at mark c ≢ 0 → at (set mark i v) c ≢ 0
    kept c n = cases c i (λ f s. n (ap (at mark) f ∙ z)) (λ d s. n (sym (get_or-set_other mark i c v 0 d) ∙ s))

    at_i : (c : ℕ) → c ≡ i → at (set mark i v) c ≢ 0
    at_i c f s = v_some (sym set_i ∙ ap (at (set mark i v)) (sym f) ∙ s)

    pub paint_next : PaintInv parent mark₀ held p v (set mark i v) q
    paint_next = record {
      ready = I.ready;
      low = rw e (I.ready.path.pass.parents.forest.inside i I.low);
      same = ap (root_of parent) e ∙ root_up I.ready.path.pass.parents.forest i I.low ∙ I.same;
      done = λ c h. kept c (I.done c h);
      here = inl (⊎_elim (λ n. kept p n) (λ f. at_i p (sym f)) I.here);
      shut = λ c h n. cases c i
          (λ f. inr (ap (at parent) f ∙ sym e))
          (λ d. ⊎_elim (λ k. inl (kept (at parent c) k)) (λ f. inl (at_i (at parent c) f)) (I.shut c h (λ s. n (get_or-set_other mark i c v 0 d ∙ s))));
      good = λ c h n. cases c i
          (λ f. ap (at (set mark i v)) f ∙ set_i ∙ I.ready.v_is ∙ ap suc (group_same parent held p c (sym (ap (root_of parent) f ∙ I.same))))
          (λ d. get_or-set_other mark i c v 0 d ∙ I.good c h (λ s. n (get_or-set_other mark i c v 0 d ∙ s)));
      len = length-set mark i v ∙ I.len;
    }

    -- the way up is shorter from the parent, and at a root the mark ends it
    pub paint_less : todo parent held (set mark i v) q < todo parent held mark i
    paint_less =
        let one : cond {A = ℕ} (eqb (at mark i) 0) 1 0 ≡ 1 = rw (eq-eqb (at mark i) 0 z) in
        cases q i
        (λ f. let n : cond {A = ℕ} (eqb (at (set mark i v) i) 0) 1 0 ≡ 0 = rw (ne_eqb (at (set mark i v) i) 0 (at_i i refl)) in rw f (omega arith))
        (λ d.
        let s = at_most_one (eqb (at (set mark i v) q) 0) in
        let t = depth_up I.ready.path.pass.parents.forest i I.low (λ w. d (e ∙ w)) in
        let u : depth parent held q ≡ depth parent held (at parent i) = ap (depth parent held) e in
        omega arith)

  pub paint_end : at mark i ≢ 0 → Painted parent mark₀ held p mark
  paint_end n = record {
    pass = record {
      parents = I.ready.path.pass.parents;
      space = let a = I.ready.path.pass.space in let l = I.len in omega arith;
      done = λ q h. cases q p (λ e s. first (ap (at mark) (sym e) ∙ s)) (λ d. I.done q (omega arith));
      shut = λ q h k. ⊎_elim (λ m. m) (λ e s. n (ap (at mark) (sym e) ∙ s)) (I.shut q h k);
      good = I.good;
    };
    len = I.len;
  }
    where
      first : at mark p ≢ 0
      first = ⊎_elim (λ k. k) (λ f s. n (ap (at mark) f ∙ s)) I.here

-- ---- the pass over the cells

pub record GroupsInv (parent mark₀ : List ℕ) (held : ℕ) (mark : List ℕ) (p : ℕ) : Type 0 where
  pub pass : GroupPass parent mark held p
  pub most : p ≤ held
  pub len : length mark ≡ length mark₀

pub groups_start : {parent mark : List ℕ} {held : ℕ} → GroupsReady parent mark held → GroupsInv parent mark held mark 0
groups_start R = record {
  pass = record {
    parents = R.parents;
    space = R.space;
    done = λ q h. absurd (omega arith);
    shut = λ q h n. absurd (n (R.clear q));
    good = λ q h n. absurd (n (R.clear q));
  };
  most = omega arith;
  len = refl;
}

module _ {parent mark₀ : List ℕ} {held : ℕ} {mark : List ℕ} {p : ℕ} (I : GroupsInv parent mark₀ held mark p) where
  pub groups_next : p < held → {mark' : List ℕ} → Painted parent mark held p mark' → GroupsInv parent mark₀ held mark' (p + 1)
  groups_next h P = record { pass = P.pass; most = omega arith; len = P.len ∙ I.len }

  pub groups_end : held ≤ p → Grouped parent mark₀ held mark
  groups_end h = record { groups = λ q l. I.pass.good q l (I.pass.done q (omega arith)); len = I.len }
