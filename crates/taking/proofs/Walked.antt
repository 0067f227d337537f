-- The walk over an outline's edges, as lists: which rows have been stored, whether one was named twice, and what that says at the end.
--     Walked es whole rest stored twice     the edges `rest` of `whole` are left
--     walked_start, walked_new, walked_again     the moves of the loop; `walked_few`, `walked_room`: a new row has room
--     walked_absent, walked_all, walked_twice, walked_rows     what the outline's rows then are
-- Assumes nothing.
use mathlib.Core.Path.{◌≡◌, refl, sym, ◌∙◌, ap, subst}
use mathlib.Core.Logic.{◌⊎◌, inl, inr, ⊎_elim}
use mathlib.Core.Bool.{Bool, true, false}
use mathlib.Core.List.Memᴰ
use mathlib.Core.List.{List, [], ◌∷◌, ◌++◌, map, append_assoc, append-nil, Memᴰ}
use Prim.Native.Nat.{ℕ, suc, ◌+◌, ◌<◌, ◌≤◌}
use native.Mathlib.Omega.{arith}
use lib.Dec.{ltb}
use lib.ListN.{length, length-append, length-map}
use lib.Seq.{get_or-append_seam}
use borrow.Author.Tests.{lt-ltb, le-ltb}
use Rattle.scope.specs.Lists.{at}
use Rattle.scope.specs.Table.{row_of}
use Rattle.scope.specs.Pool.{names_twice}
use Rattle.scope.proofs.Tests.{either, clash}
use Rattle.scope.proofs.Scan.{passes_all, passes_not}
use Rattle.scope.proofs.Members.{Fresh, fresh_last, fresh_front, fresh_test, member_false, mem_at}
use Rattle.scope.proofs.Pigeonhole.{fresh_length, fresh_within}
use Rattle.scope.proofs.Below.{map_append}
use Rattle.taking.specs.Outlines.{all_in}

pub record Walked (es whole rest stored : List ℕ) (twice : Bool) : Type 0 where
  pub seen : List ℕ
  pub cut : seen ++ rest ≡ whole
  pub present : (a : ℕ) → Memᴰ a (map (row_of es) seen) → a < length es
  pub fresh : Fresh stored
  pub seen_row : (a : ℕ) → Memᴰ a stored → Memᴰ a (map (row_of es) seen)
  pub once : twice ≡ false → stored ≡ map (row_of es) seen
  pub again : twice ≡ true → Fresh (map (row_of es) seen) → ⊥

pub walked_start : (es whole : List ℕ) → Walked es whole whole [] false
walked_start es whole = record {
  seen = [];
  cut = refl;
  present = λ a m. absurd (Memᴰ.not-nil m);
  fresh = tt;
  seen_row = λ a m. m;
  once = λ e. refl;
  again = λ e. absurd (clash e refl);
}

pub walked_inside : {es whole rest stored : List ℕ} {twice : Bool} → Walked es whole rest stored twice → (a : ℕ) → Memᴰ a stored → a < length es
walked_inside w a m = w.present a (w.seen_row a m)

-- no more rows are stored than edges were walked
pub walked_few : {es whole rest stored : List ℕ} {twice : Bool} → Walked es whole rest stored twice → length stored + length rest ≤ length whole
walked_few {es} {whole} {rest} {stored} w =
    let a = fresh_within stored (map (row_of es) w.seen) w.fresh w.seen_row in
    let b = length-map w.seen (row_of es) in
    let c = length-append w.seen rest in
    let d = ap length w.cut in
    omega arith

-- ---- one edge more

module _ {es whole rest stored : List ℕ} {e : ℕ} {twice : Bool} (w : Walked es whole (e ∷ rest) stored twice) where
  abbrev rows : List ℕ
  rows = map (row_of es) w.seen

  abbrev more : List ℕ
  more = w.seen ++ (e ∷ [])

  more_cut : more ++ rest ≡ whole
  more_cut = append_assoc w.seen (e ∷ []) rest ∙ w.cut

  more_rows : map (row_of es) more ≡ rows ++ (row_of es e ∷ [])
  more_rows = map_append (row_of es) w.seen (e ∷ [])

  more_present : row_of es e < length es → (a : ℕ) → Memᴰ a (map (row_of es) more) → a < length es
  more_present h a m = go (Memᴰ.append_cases rows (subst (λ (l : List ℕ). Memᴰ a l) more_rows m))
    where
      go : Memᴰ a (map (row_of es) w.seen) ⊎ Memᴰ a (row_of es e ∷ []) → a < length es
      go (inl k) = w.present a k
      go (inr k) = rw (Memᴰ.eq_of_singleton k) h

  pub walked_room : row_of es e < length es → (Memᴰ (row_of es e) stored → ⊥) → length stored < length es
  walked_room h n =
      let k = fresh_length (length es) (stored ++ (row_of es e ∷ [])) (fresh_last stored (row_of es e) w.fresh n)
      (λ a m. go a (Memᴰ.append_cases stored m)) in
      let c = length-append stored (row_of es e ∷ []) in
      omega arith
    where
      go : (a : ℕ) → Memᴰ a stored ⊎ Memᴰ a (row_of es e ∷ []) → a < length es
      go a (inl m) = walked_inside w a m
      go a (inr m) = rw (Memᴰ.eq_of_singleton m) h

  pub walked_new : row_of es e < length es → (Memᴰ (row_of es e) stored → ⊥) → Walked es whole rest (stored ++ (row_of es e ∷ [])) twice
  walked_new h n = record {
    seen = more;
    cut = more_cut;
    present = more_present h;
    fresh = fresh_last stored (row_of es e) w.fresh n;
    seen_row = λ a m. rw more_rows (go a (Memᴰ.append_cases stored m));
    once = λ q. ap (λ (l : List ℕ). l ++ (row_of es e ∷ [])) (w.once q) ∙ sym more_rows;
    again = λ q f. w.again q (fresh_front rows (row_of es e) (subst Fresh more_rows f)).1;
  }
    where
      go : (a : ℕ) → Memᴰ a stored ⊎ Memᴰ a (row_of es e ∷ []) → Memᴰ a (map (row_of es) w.seen ++ (row_of es e ∷ []))
      go a (inl m) = Memᴰ.append_left (row_of es e ∷ []) (w.seen_row a m)
      go a (inr m) = Memᴰ.append_right (map (row_of es) w.seen) m

  pub walked_again : row_of es e < length es → Memᴰ (row_of es e) stored → Walked es whole rest stored true
  walked_again h m = record {
    seen = more;
    cut = more_cut;
    present = more_present h;
    fresh = w.fresh;
    seen_row = λ a k. rw more_rows (Memᴰ.append_left (row_of es e ∷ []) (w.seen_row a k));
    once = λ q. absurd (clash refl q);
    again = λ q f. (fresh_front rows (row_of es e) (subst Fresh more_rows f)).0 (w.seen_row (row_of es e) m);
  }

  -- an edge that is absent
  pub walked_absent : length es ≤ row_of es e → all_in es (map (row_of es) whole) ≡ false
  walked_absent h =
      let o = map (row_of es) whole in
      let split : o ≡ rows ++ (row_of es e ∷ map (row_of es) rest) = ap (map (row_of es)) (sym w.cut) ∙ map_append (row_of es) w.seen (e ∷ rest) in
      let long : length o ≡ length rows + suc (length (map (row_of es) rest)) = ap length split ∙ length-append rows _ in
      let here : at o (length rows) ≡ row_of es e = ap (λ (l : List ℕ). at l (length rows)) split ∙ get_or-append_seam rows (row_of es e) (map (row_of es) rest) 0 in
      passes_not (λ i. ltb (at o i) (length es)) (length o) (length rows) (omega arith) (le-ltb (at o (length rows)) (length es) (rw here h))

-- ---- no edge is left

fresh_names : (l : List ℕ) → Fresh l → names_twice l ≡ false
unfolding names_twice
fresh_names [] f = refl
fresh_names (x ∷ l) f = rw (member_false x l f.0) (fresh_names l f.1)

module _ {es whole stored : List ℕ} {twice : Bool} (w : Walked es whole [] stored twice) where
  all_seen : w.seen ≡ whole
  all_seen = sym (append-nil w.seen) ∙ w.cut

  pub walked_all : all_in es (map (row_of es) whole) ≡ true
  walked_all =
      let o = map (row_of es) whole in
      passes_all (λ i. ltb (at o i) (length es)) (length o)
      (λ i h. lt-ltb _ _ (w.present (at o i) (subst (λ (l : List ℕ). Memᴰ (at o i) (map (row_of es) l)) (sym all_seen) (mem_at o i h))))

  pub walked_rows : twice ≡ false → stored ≡ map (row_of es) whole
  walked_rows q = w.once q ∙ ap (map (row_of es)) all_seen

  pub walked_twice : twice ≡ names_twice (map (row_of es) whole)
  walked_twice = ⊎_elim
      (λ (q : twice ≡ true). q ∙ sym (⊎_elim (λ n. n) (λ n. absurd (w.again q (subst (λ (l : List ℕ). Fresh (map (row_of es) l)) (sym all_seen) (fresh_test _ n)))) (either (names_twice (map (row_of es) whole)))))
      (λ (q : twice ≡ false). q ∙ sym (fresh_names (map (row_of es) whole) (subst Fresh (walked_rows q) w.fresh)))
      (either twice)
