-- The loop over an outline's edges, with its marks and its stored rows: start, a new row, a row again, an absent edge, the end.
-- Assumes nothing.
use mathlib.Core.Path.{◌≡◌, refl, sym, ◌∙◌, ap, subst}
use mathlib.Core.Bool.{Bool, true, false, not, cond}
use mathlib.Core.List.{List, [], ◌∷◌, ◌++◌, map, Memᴰ}
use Prim.Native.Nat.{ℕ, ◌+◌, ◌<◌, ◌≤◌}
use native.Mathlib.Omega.{arith}
use lib.Dec.{ltb}
use lib.ListN.{length, take}
use lib.Seq.{length-take-le}
use borrow.Author.Tests.{ltb-true, ltb-false}
use Rattle.std.specs.Prelude.{Some, None}
use Rattle.scope.specs.Lists.{at}
use Rattle.scope.specs.Cells.{resolution_of}
use Rattle.scope.specs.Walk.{outline}
use Rattle.scope.specs.Table.{row_of, find_row}
use Rattle.scope.proofs.Tests.{clash}
use Rattle.taking.specs.Outlines.{OutlineAsks, Marks, RowAsks, StoresRow, FindsMarked}
use Rattle.taking.proofs.Walked.{Walked, walked_start, walked_inside, walked_few, walked_room, walked_new, walked_again, walked_absent, walked_all, walked_rows, walked_twice}

-- ---- what the search for an edge's row says

row_found : (es : List ℕ) (e r : ℕ) → Some r ≡ find_row es e → (r ≡ row_of es e) × (row_of es e < length es)
unfolding find_row
row_found es e r q = go (ltb (row_of es e) (length es)) refl q
  where
    go : (b : Bool) → ltb (row_of es e) (length es) ≡ b → Some r ≡ cond b (Some (row_of es e)) None → (r ≡ row_of es e) × (row_of es e < length es)
    go true t p = (cc, ltb-true _ _ t)
    go false t p = let z : ◌≡◌ {A = ℕ} 0 1 = cc in absurd (omega arith)

row_missed : (es : List ℕ) (e : ℕ) → None ≡ find_row es e → length es ≤ row_of es e
unfolding find_row
row_missed es e q = go (ltb (row_of es e) (length es)) refl q
  where
    go : (b : Bool) → ltb (row_of es e) (length es) ≡ b → None ≡ cond b (Some (row_of es e)) None → length es ≤ row_of es e
    go true t p = let z : ◌≡◌ {A = ℕ} 0 1 = cc in absurd (omega arith)
    go false t p = ltb-false _ _ t

-- ---- the loop

pub record Looking (es mark₀ rows₀ : List ℕ) (x : ℕ) (mark rows left : List ℕ) (count : ℕ) (twice : Bool) : Type 0 where
  pub marks_long : length mark ≡ length mark₀
  pub rows_long : length rows ≡ length rows₀
  pub count_in : count ≤ length es
  pub stored_in : count ≤ length rows
  pub marks : Marks mark (take count rows)
  pub walked : Walked es (outline x (resolution_of (at es 0))) left (take count rows) twice

module _ {es mark₀ rows₀ : List ℕ} {x : ℕ} (asks : OutlineAsks es mark₀ rows₀ x) where
  pub looking_start : {left : List ℕ} → left ≡ outline x (resolution_of (at es 0)) → Looking es mark₀ rows₀ x mark₀ rows₀ left 0 false
  looking_start q = record {
    marks_long = refl;
    rows_long = refl;
    count_in = omega arith;
    stored_in = omega arith;
    marks = record { on = λ a m. absurd (mathlib.Core.List.Memᴰ.not-nil m); off = λ a n. asks.clear a };
    walked = rw q (walked_start es (outline x (resolution_of (at es 0))));
  }

  module _ {mark rows left more : List ℕ} {count e : ℕ} {twice : Bool} (L : Looking es mark₀ rows₀ x mark rows left count twice) (q : left ≡ e ∷ more) where
    here : Walked es (outline x (resolution_of (at es 0))) (e ∷ more) (take count rows) twice
    here = subst (λ (l : List ℕ). Walked es (outline x (resolution_of (at es 0))) l (take count rows) twice) q L.walked

    stored_many : length (take count rows) ≡ count
    stored_many = length-take-le count rows L.stored_in

    pub looking_absent : None ≡ find_row es e → FindsMarked es x mark rows (record { count = count; absent = true; twice = twice })
    looking_absent f =
        let gone = walked_absent here (row_missed es e f) in
        record {
          found = record {
            count_in = L.stored_in;
            absent = sym (ap not gone);
            twice = λ z. absurd (clash refl z);
            stored = λ z. absurd (clash refl z);
          };
          marks = L.marks;
          inside = walked_inside L.walked;
        }

    module _ {row : ℕ} (f : Some row ≡ find_row es e) where
      row_low : row < length es
      row_low = let r = row_found es e row f in omega (arith, r.0, r.1)

      -- a row that is not stored has room, in the table and in the outline
      new_room : (Memᴰ (row_of es e) (take count rows) → ⊥) → count + 1 ≤ length rows
      new_room fresh =
          let s = stored_many in
          let a = walked_room here (row_found es e row f).1 fresh in
          let b = walked_few here in
          let k = asks.room.fits (count + 1) (omega arith) (omega arith) in
          omega (arith, k, L.rows_long)

      pub looking_row : RowAsks mark rows count row
      looking_row =
          let r = row_found es e row f in
          let k = row_low in let l = L.marks_long in
          record {
            row_in = omega (arith, asks.marks);
            row_small = omega (arith, asks.most);
            marks = L.marks;
            room = λ z.
                let n = new_room (λ m. let o = L.marks.on (row_of es e) m in let v : at mark (row_of es e) ≡ 0 = subst (λ (k : ℕ). at mark k ≡ 0) r.0 z in omega arith) in
                omega arith;
            count_in = L.stored_in;
          }

      module _ {mark' rows' : List ℕ} {new : Bool} (S : StoresRow mark rows count row mark' rows' new) (ml : length mark' ≡ length mark) (rl : length rows' ≡ length rows) where
        pub looking_new : new ≡ true → Looking es mark₀ rows₀ x mark' rows' more (count + 1) twice
        looking_new t =
            let r = row_found es e row f in
            let fresh : Memᴰ (row_of es e) (take count rows) → ⊥ = λ m. S.fresh t (rw r.0 m) in
            let room = walked_room here r.1 fresh in
            let n = new_room fresh in
            let s = stored_many in
            record {
              marks_long = ml ∙ L.marks_long;
              rows_long = rl ∙ L.rows_long;
              count_in = omega arith;
              stored_in = omega (arith, n, rl);
              marks = S.marked t;
              walked = rw (S.stored t, r.0) (walked_new here r.1 fresh);
            }

        pub looking_again : new ≡ false → Looking es mark₀ rows₀ x mark' rows' more count true
        looking_again t =
            let r = row_found es e row f in
            record {
              marks_long = ml ∙ L.marks_long;
              rows_long = rl ∙ L.rows_long;
              count_in = L.count_in;
              stored_in = omega (arith, L.stored_in, rl);
              marks = rw (S.same_marks t, S.same_rows t) L.marks;
              walked = rw (S.same_rows t) (walked_again here r.1 (subst (λ (k : ℕ). Memᴰ k (take count rows)) r.0 (S.again t)));
            }

  pub looking_end : {mark rows left : List ℕ} {count : ℕ} {twice : Bool} → Looking es mark₀ rows₀ x mark rows left count twice → length left ≡ 0
      → FindsMarked es x mark rows (record { count = count; absent = false; twice = twice })
  looking_end {mark} {rows} {left} {count} {twice} L z =
      let w = subst (λ (l : List ℕ). Walked es (outline x (resolution_of (at es 0))) l (take count rows) twice) (empty left z) L.walked in
      record {
        found = record {
          count_in = L.stored_in;
          absent = sym (ap not (walked_all w));
          twice = λ _. walked_twice w;
          stored = λ _ t. walked_rows w t;
        };
        marks = L.marks;
        inside = walked_inside L.walked;
      }
    where
      empty : (l : List ℕ) → length l ≡ 0 → l ≡ []
      empty [] e = refl
      empty (y ∷ l) e = absurd (omega arith)
