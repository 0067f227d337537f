-- Taking a cell: what its outline's answer says of 5, 6 and 7, and what is left.
--     outline_asks, answer_is     the outline can be looked up, and its answer is `outline_verdict`
--     not_taken, add_asks, is_taken     a refusal, the call that adds the edges, and its outcome
-- Assumes nothing.
use mathlib.Core.Path.{◌≡◌, refl, sym, ◌∙◌, ap, subst}
use mathlib.Core.Logic.{⊎_elim}
use mathlib.Core.Bool.{Bool, true, false, not}
use mathlib.Core.List.{List}
use Prim.Native.Nat.{ℕ, ◌+◌, ◌-◌, ◌*◌, ◌≤◌, ◌<◌}
use native.Mathlib.Omega.{arith}
use lib.Dec.{leb}
use lib.ListN.{length, take, get_or-eq_default}
use lib.Seq.{length-take-le}
use borrow.Author.Tests.{leb-true, not-true}
use Rattle.scope.specs.declared.Refusal.{Refusal}
use Rattle.scope.specs.declared.Refusal.TheVariants.{InvalidCell, EdgeNotInTable, EdgeTwice, PoolFull}
use Rattle.std.specs.Prelude.{Ok, Err}
use Rattle.scope.specs.Lists.{at}
use Rattle.scope.specs.Answers.{require, ◌▷◌, Verdict}
use Rattle.scope.specs.Cells.{valid_cell}
use Rattle.scope.specs.Table.{Table, outline_rows}
use Rattle.scope.specs.CellLists.{cell_verdict}
use Rattle.scope.specs.Memory.{Memory, held, held_cells, slots}
use Rattle.scope.specs.Pool.{free_slots, all_in_table, names_twice, enough_slots, outline_verdict, taking}
use Rattle.scope.specs.Calls.{outcome}
use Rattle.scope.proofs.Tests.{clash, le_or_lt}
use Rattle.scope.proofs.Verdicts.{first_accepts, second_accepts, require_holds}
use Rattle.scope.proofs.Below.{below_count}
use Rattle.scope.proofs.Sound.{Sound, sound_table, Offered}
use Rattle.arcs.specs.Taking.{AddAsks, Added}
use Rattle.taking.specs.declared.lookup.Outlined.{Outlined}
use Rattle.taking.specs.Outlines.{OutlineAsks, Finds}
use Rattle.taking.specs.Taking.{outline_answer, TakeAsks, Takes}
use Rattle.answers.proofs.Outcomes.{carried_out, turned_down}

pub marks_all : {t : Table} {m : Memory} → Sound t m → (a : ℕ) → at m.row_mark a ≡ 0
marks_all {t} {m} S a = ⊎_elim
    (λ (h : length m.row_mark ≤ a). get_or-eq_default m.row_mark 0 h)
    (λ (h : a < length m.row_mark). S.rules.row_marks a h)
    (le_or_lt (length m.row_mark) a)

pub valid_cell_lem : (mode target capacity : ℕ) (cs : List ℕ) (x : ℕ) → cell_verdict mode target capacity cs x ≡ Ok tt → valid_cell x ≡ true
unfolding cell_verdict
valid_cell_lem mode target capacity cs x e = require_holds (valid_cell x) (InvalidCell (length cs)) (first_accepts (require (valid_cell x) (InvalidCell (length cs))) _ e)

pub free_few : (m : Memory) → length (free_slots m) ≤ slots m
unfolding free_slots
free_few m = below_count _ (slots m)

-- ---- 5, 6, 7

answers : (absent twice all again enough : Bool) (count held free : ℕ) → absent ≡ not all → (absent ≡ false → twice ≡ again) → (absent ≡ false → twice ≡ false → leb count free ≡ enough)
    → (require (not absent) (EdgeNotInTable held) ▷ require (not twice) (EdgeTwice held) ▷ require (leb count free) (PoolFull held)) ≡ (require all (EdgeNotInTable held) ▷ require (not again) (EdgeTwice held) ▷ require enough (PoolFull held))
answers true twice true again enough count held free p q r = absurd (clash {b = true} refl p)
answers true twice false again enough count held free p q r = refl
answers false twice false again enough count held free p q r = absurd (clash {b = not false} refl (sym p))
answers false true true again enough count held free p q r = rw (← q refl)
answers false false true again enough count held free p q r = rw (← q refl, r refl refl)

module _ {t : Table} {m : Memory} {rows vacant : List ℕ} {x free : ℕ} (asks : TakeAsks t m rows vacant x free) where
  pub outline_asks : OutlineAsks t.edges m.row_mark rows x
  outline_asks =
      let T = sound_table asks.sound in
      record {
        valid = valid_cell_lem _ _ _ (held_cells m) x asks.cell;
        sorted = T.sorted;
        some = omega (arith, T.two);
        most = T.most;
        marks = asks.sound.lengths.row_mark;
        clear = marks_all asks.sound;
        room = asks.room;
      }

  module _ {rows' : List ℕ} {r : Outlined} (f : Finds t.edges x rows' r) where
    count_is : r.absent ≡ false → r.twice ≡ false → r.count ≡ length (outline_rows t x)
    unfolding outline_rows
    count_is a w = sym (length-take-le r.count rows' f.count_in) ∙ ap length (f.stored a w)

    pub answer_is : outline_answer r (held m) free ≡ outline_verdict t m (outline_rows t x)
    unfolding outline_answer outline_verdict outline_rows
    answer_is = answers r.absent r.twice (all_in_table t (outline_rows t x)) (names_twice (outline_rows t x)) (enough_slots m (outline_rows t x)) r.count (held m) free
        f.absent f.twice (λ a w. rw (count_is a w, asks.free_count))

    -- what was found is tested against the count of held cells, and the marks are as they were
    module _ {v : Verdict} {n : ℕ} {row_mark : List ℕ} (p : v ≡ outline_answer r n free) (k : n ≡ held m) (s : row_mark ≡ m.row_mark) where
      q : v ≡ outline_answer r (held m) free
      q = p ∙ rw k

      pub verdict_is : v ≡ outline_verdict t m (outline_rows t x)
      verdict_is = q ∙ answer_is

      -- the state with these marks
      abbrev pub marked : Memory
      marked = record m { row_mark = row_mark }

      marked_is : marked ≡ m
      marked_is = rw s

      pub not_taken : {why : Refusal} → v ≡ Err why → Takes t m x (Err why) marked vacant
      not_taken {why} e = record {
        done = ap (λ (l : Memory). record { answer = Err why; left = l }) marked_is ∙ turned_down (Err why) (taking t m x) m refl ∙ ap (λ (w : Verdict). outcome w (taking t m x) m) (sym e ∙ verdict_is);
        free_count = λ k z. cc;
        flags = asks.flags;
      }

      module _ (e : v ≡ Ok tt) where
        found_all : (r.absent ≡ false) × (r.twice ≡ false)
        unfolding outline_answer
        found_all =
            let all = sym q ∙ e in
            let one = require (not r.absent) (EdgeNotInTable (held m)) in
            let two = require (not r.twice) (EdgeTwice (held m)) in
            (not-true r.absent (require_holds _ (EdgeNotInTable _) (first_accepts one _ all)), not-true r.twice (require_holds _ (EdgeTwice _) (first_accepts two _ (second_accepts one _ all))))

        pub enough : r.count ≤ free
        unfolding outline_answer
        enough =
            let all = sym q ∙ e in
            let one = require (not r.absent) (EdgeNotInTable (held m)) in
            let two = require (not r.twice) (EdgeTwice (held m)) in
            leb-true _ _ (require_holds _ (PoolFull _) (second_accepts two _ (second_accepts one _ all)))

        offers : Offered t m x
        offers = record { sound = asks.sound; cell = asks.cell; outline = sym verdict_is ∙ e }

        rows_are : take r.count rows' ≡ outline_rows t x
        unfolding outline_rows
        rows_are = f.stored found_all.0 found_all.1

        pub add_asks : AddAsks t marked vacant x (take r.count rows')
        add_asks = record {
          offered = subst (λ (l : Memory). Offered t l x) (sym marked_is) offers;
          flags = asks.flags;
          rows = rows_are;
        }

        module _ {m₂ : Memory} {pairs : ℕ} {vacant' : List ℕ} (added : Added t marked x pairs m₂ vacant') where
          free_then : length (free_slots m₂) + r.count ≡ free + 2 * pairs
          free_then = rw (count_is found_all.0 found_all.1, asks.free_count) (added.free ∙ ap (λ (l : Memory). length (free_slots l) + 2 * pairs) marked_is)

          pub free_fits : slots m₂ ≡ slots m → (2 * pairs ≤ 131072) × (free - r.count + 2 * pairs ≤ 65536)
          free_fits h = let k = free_few m₂ in let f = free_then in let n = enough in let c = free_few m in let l = asks.sound.lengths.most_slots in let z = asks.free_count in (omega arith, omega arith)

          pub is_taken : Takes t m x (Ok (free - r.count + 2 * pairs)) m₂ vacant'
          is_taken = record {
            done = carried_out (Ok tt) (taking t m x) m refl (added.left ∙ ap (λ (l : Memory). taking t l x) marked_is) ∙ ap (λ (w : Verdict). outcome w (taking t m x) m) (sym e ∙ verdict_is);
            free_count = λ k z. let f = free_then in let n = enough in let y : free - r.count + 2 * pairs ≡ k = cc in omega arith;
            flags = added.flags;
          }
