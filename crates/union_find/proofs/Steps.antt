-- A turn of find, its end, and the ways of union, each over plain lists and by what each step of the code says.
--     Turned, find_turn     a turn at what is no root
--     found                 the loop stopped
--     hang_asks             what hanging a root asks
--     joined-..             union by its two finds and its tests
-- Assumes nothing.
use mathlib.Core.Path.{◌≡◌, sym, ap, ◌∙◌}
use mathlib.Core.List.{List}
use Prim.Native.Nat.{ℕ, ◌≤◌, ◌<◌, ◌^◌}
use native.Mathlib.Omega.{arith}
use lib.ListN.{length, set, length-set}
use borrow.Author.Tests.{eq-eqb, ne_eqb, lt-ltb, le-ltb}
use Rattle.scope.specs.Lists.{at}
use Rattle.scope.specs.UnionFind.{halve, finding, unite_roots, uniting}
use Rattle.scope.proofs.Halving.{Forest, rank_low, up, rises_two, turn_here, turn_keeps, halve_turn, halve_keeps, halve_held, halve_root, halve_roots}
use Rattle.scope.proofs.Climb.{find_same}
use Rattle.scope.proofs.Unions.{hang_keeps, hang_low}
use Rattle.union_find.specs.Asked.{Found, HangAsks, Hung, Joined}

-- What a turn of find at x, which is no root, has done when it comes to x' and leaves ps'.
pub record Turned (rs : List ℕ) (n k : ℕ) (ps : List ℕ) (x : ℕ) (ps' : List ℕ) (x' : ℕ) : Type 0 where
  pub keeps : Forest ps' rs n
  pub held : x' < n
  pub same : halve k ps' x' ≡ halve k ps x
  pub long : length ps' ≡ length ps
  pub higher : at rs x < at rs x'
  pub low : at rs x' ≤ n

pub find_turn : (rs : List ℕ) (n k : ℕ) (ps : List ℕ) (x : ℕ) {q p g x' : ℕ} {ps' : List ℕ} → Forest ps rs n → x < n → n ≤ k
    → q ≡ at ps x → (q ≡ x → ⊥) → p ≡ at ps x → g ≡ at ps p → ps' ≡ set ps x g → x' ≡ at ps' x → Turned rs n k ps x ps' x'
find_turn rs n k ps x w h m eq ne ep eg es ex =
    let no : at ps x ≡ x → ⊥ = λ z. ne (eq ∙ z) in
    let es' = rw (eg, ep) at es in
    let ex' = rw (es', turn_here rs n ps w x h) at ex in
    rw (es', ex') (record {
      keeps = turn_keeps rs n ps w x h no;
      held = up rs n ps w x h;
      same = sym (halve_turn rs n k ps w x h m no);
      long = simp length-set;
      higher = rises_two rs n ps w x h no;
      low = rank_low rs n ps w _ (up rs n ps w x h);
    })

pub found : (rs : List ℕ) (n : ℕ) (ps : List ℕ) (a r : ℕ) (ps' : List ℕ) → Forest ps rs n → a < n
    → halve (length ps) ps a ≡ record { root = r; parents = ps' } → Found ps rs n a r ps'
unfolding finding
found rs n ps a r ps' w h e =
    let e₀ : (halve (length ps) ps a).root ≡ r = ap (λ z. z.root) e in
    let e₁ : (halve (length ps) ps a).parents ≡ ps' = ap (λ z. z.parents) e in
    record {
      root = sym e₀;
      left = sym e₁;
      keeps = rw e₁ at (halve_keeps rs n (length ps) ps w a h);
      held = rw e₀ at (halve_held rs n (length ps) ps w a h);
      top = rw (e₁, e₀) at (halve_root rs n (length ps) ps w a h (omega (arith, w.room)));
      roots = λ i q. rw e₁ at (halve_roots (length ps) ps a i q);
      same = λ i l. rw e₁ at (find_same rs n ps w a h i l);
    }

pub hang_asks : (ps rs : List ℕ) (n : ℕ) → Forest ps rs n → (low top k : ℕ) → low < n → top < n → at ps top ≡ top → k ≡ at rs top → n < 2 ^ 32 → HangAsks ps rs low top k
hang_asks ps rs n w low top k hl ht rt e m = record {
  low_in = omega (arith, w.room);
  top_in = omega (arith, w.room, w.ranks);
  ranked = e;
  fits = omega arith;
  grows = omega (arith, hang_low ps rs n w top ht rt);
}

module _ (ps rs : List ℕ) (n a b ra rb : ℕ) (ps₁ ps₂ : List ℕ) (fa : Found ps rs n a ra ps₁) (fb : Found ps₁ rs n b rb ps₂) where
  union_as : uniting ps rs a b ≡ unite_roots ps₂ rs ra rb
  unfolding uniting
  union_as = rw (← fa.root, ← fa.left, ← fb.root, ← fb.left)

  pub joined_same : ra ≡ rb → Joined ps rs n a b ps₂ rs
  joined_same e = record { left = sym (union_as ∙ rw (eq-eqb ra rb e)); keeps = fb.keeps }

  pub joined_lower : (ps' rs' : List ℕ) → (ra ≡ rb → ⊥) → at rs ra < at rs rb → Hung ps₂ rs ra rb ps' rs' → Joined ps rs n a b ps' rs'
  joined_lower ps' rs' ne l k = record {
    left = sym (union_as ∙ rw (ne_eqb ra rb ne, lt-ltb (at rs ra) (at rs rb) l, k.0, k.1));
    keeps = rw (k.0, k.1) (hang_keeps ps₂ rs n fb.keeps rb ra fb.held fa.held fb.top (fb.roots ra fa.top) (λ z. ne (sym z)) (omega arith));
  }

  pub joined_upper : (ps' rs' : List ℕ) → (ra ≡ rb → ⊥) → at rs rb ≤ at rs ra → Hung ps₂ rs rb ra ps' rs' → Joined ps rs n a b ps' rs'
  joined_upper ps' rs' ne l k = record {
    left = sym (union_as ∙ rw (ne_eqb ra rb ne, le-ltb (at rs ra) (at rs rb) l, k.0, k.1));
    keeps = rw (k.0, k.1) (hang_keeps ps₂ rs n fb.keeps ra rb fa.held fb.held (fb.roots ra fa.top) fb.top ne l);
  }
