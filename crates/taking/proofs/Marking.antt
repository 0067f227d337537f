-- The marks of the rows that are stored: one row more, and all cleared again.
--     row_again, row_stored     a row that is marked is stored already; another is stored and marked
--     Clearing                  the marks from the i-th stored row on are still to be cleared; its moves
--     marks_clear               marks that are all 0 are zeros
-- Assumes nothing.
use mathlib.Core.Path.{◌≡◌, refl, sym, ◌∙◌, ap, subst}
use mathlib.Core.Logic.{◌⊎◌, inl, inr, ⊎_elim}
use mathlib.Core.Bool.{true, false}
use mathlib.Core.List.Memᴰ
use mathlib.Core.List.{List, [], ◌∷◌, ◌++◌, Memᴰ}
use Prim.Native.Nat.{ℕ, suc, ◌+◌, ◌<◌, ◌≤◌}
use native.Mathlib.Numerals.{add-one}
use native.Mathlib.Omega.{arith}
use lib.ListN.{length, set, take, drop, length-set, length-replicate, get_or-replicate, drop_of_length-le}
use lib.Seq.{get_or-set_same, get_or-set_other, take-suc-set, drop-cons, ext_get_or}
use Rattle.scope.specs.Lists.{at, zeros}
use Rattle.scope.proofs.Tests.{clash}
use Rattle.scope.proofs.Members.{cases, mem_dec, mem_at}
use Rattle.taking.specs.Outlines.{RowAsks, StoresRow, UnmarkAsks}

-- ---- one row

module _ {mark rows : List ℕ} {count row : ℕ} (asks : RowAsks mark rows count row) where
  abbrev stored : List ℕ
  stored = take count rows

  pub row_again : (at mark row ≡ 0 → ⊥) → StoresRow mark rows count row mark rows false
  row_again n = record {
    fresh = λ e. absurd (clash e refl);
    stored = λ e. absurd (clash e refl);
    marked = λ e. absurd (clash e refl);
    again = λ e. go (mem_dec row stored);
    same_rows = λ e. refl;
    same_marks = λ e. refl;
  }
    where
      go : Dec (Memᴰ row (take count rows)) → Memᴰ row (take count rows)
      go (yes m) = m
      go (no m) = absurd (n (asks.marks.off row m))

  pub row_stored : at mark row ≡ 0 → {mark' rows' : List ℕ} → mark' ≡ set mark row 1 → rows' ≡ set rows count row → StoresRow mark rows count row mark' rows' true
  row_stored z {mark'} {rows'} p q = record {
    fresh = λ e m. let k = asks.marks.on row m in omega arith;
    stored = λ e. longer;
    marked = λ e. record {
      on = λ a m. rw p (on a (Memᴰ.append_cases stored (subst (λ (l : List ℕ). Memᴰ a l) longer m)));
      off = λ a n. rw p (cases a row
          (λ (h : a ≡ row). absurd (n (rw longer (Memᴰ.append_right stored (Memᴰ.head h)))))
          (λ d. get_or-set_other mark row a 1 0 d ∙ asks.marks.off a (λ m. n (rw longer (Memᴰ.append_left (row ∷ []) m)))));
    };
    again = λ e. absurd (clash refl e);
    same_rows = λ e. absurd (clash refl e);
    same_marks = λ e. absurd (clash refl e);
  }
    where
      longer : take (count + 1) rows' ≡ take count rows ++ (row ∷ [])
      longer = rw (q, add-one count) (take-suc-set rows count row (asks.room z))

      on : (a : ℕ) → Memᴰ a (take count rows) ⊎ Memᴰ a (row ∷ []) → at (set mark row 1) a ≡ 1
      on a (inl m) = cases a row
          (λ (h : a ≡ row). rw h (get_or-set_same mark row 1 0 asks.row_in))
          (λ d. get_or-set_other mark row a 1 0 d ∙ asks.marks.on a m)
      on a (inr m) = rw (Memᴰ.eq_of_singleton m) (get_or-set_same mark row 1 0 asks.row_in)

-- ---- all of them

pub record Clearing (mark₀ stored mark : List ℕ) (i : ℕ) : Type 0 where
  pub within : i ≤ length stored
  pub long : length mark ≡ length mark₀
  pub off : (a : ℕ) → (Memᴰ a (drop i stored) → ⊥) → at mark a ≡ 0

module _ {mark₀ stored : List ℕ} (asks : UnmarkAsks mark₀ stored) where
  pub clearing_start : Clearing mark₀ stored mark₀ 0
  clearing_start = record { within = omega arith; long = refl; off = asks.off }

  pub clearing_row : (i : ℕ) → i < length stored → at stored i < length mark₀
  clearing_row i h = asks.inside (at stored i) (mem_at stored i h)

  module _ {mark : List ℕ} {i : ℕ} (c : Clearing mark₀ stored mark i) where
    pub clearing_more : i < length stored → {mark' : List ℕ} → mark' ≡ set mark (at stored i) 0 → Clearing mark₀ stored mark' (i + 1)
    clearing_more h {mark'} p = record {
      within = omega arith;
      long = ap length p ∙ length-set mark (at stored i) 0 ∙ c.long;
      off = λ a m. rw p (cases a (at stored i)
          (λ (e : a ≡ at stored i). rw e (get_or-set_same mark (at stored i) 0 0 (rw c.long (clearing_row i h))))
          (λ d. get_or-set_other mark (at stored i) a 0 0 d ∙ c.off a (λ k. m (rw (add-one i) (later a d k)))));
    }
      where
        later : (a : ℕ) → (a ≡ at stored i → ⊥) → Memᴰ a (drop i stored) → Memᴰ a (drop (suc i) stored)
        later a d m = ⊎_elim (λ e. absurd (d e)) (λ k. k) (Memᴰ.cases_cons (subst (λ (l : List ℕ). Memᴰ a l) (drop-cons stored i 0 h) m))

    pub clearing_done : length stored ≤ i → mark ≡ zeros mark₀
    clearing_done h = ext_get_or 0 mark (zeros mark₀) (c.long ∙ sym (length-replicate (length mark₀) 0))
        (λ a l. c.off a (none a) ∙ sym (get_or-replicate (length mark₀) a 0 0 (rw c.long at l)))
      where
        none : (a : ℕ) → Memᴰ a (drop i stored) → ⊥
        none a m = Memᴰ.not-nil (subst (λ (l : List ℕ). Memᴰ a l) (drop_of_length-le stored {i = i} h) m)

pub marks_clear : (mark : List ℕ) → ((a : ℕ) → at mark a ≡ 0) → zeros mark ≡ mark
marks_clear mark f =
    let long : length (zeros mark) ≡ length mark = length-replicate (length mark) 0 in
    ext_get_or 0 (zeros mark) mark long (λ a h. get_or-replicate (length mark) a 0 0 (omega arith) ∙ sym (f a))
