-- Parts of a list: what a lookup in a part says of the list, and the lowest clash over the parts as that of the list.
--     from_part                 the scan for second ones begins with the part
--     against_even, against_mixed     a part's scans, over the list
--     found_start, found_more   the lowest clashes over more and more parts; found-second: over all of them
-- Assumes nothing.
use Prim.Native.Nat.{ℕ, ◌+◌, ◌-◌, ◌*◌, ◌<◌, ◌≤◌, min}
use mathlib.Core.Path.{◌≡◌, refl, sym, ◌∙◌, ap, subst}
use mathlib.Core.Bool.{Bool, true, false, ◌&&◌, not, cond}
use mathlib.Core.List.{List, ◌++◌}
use mathlib.Core.Logic.{⊎_elim}
use native.Mathlib.Decide.{dec_lt}
use native.Mathlib.Omega.{arith}
use lib.Dec.{eqb, ltb}
use lib.ListN.{length, length-append, get_or-append}
use Rattle.std.proofs.lemmas.List.{get_or-append-add}
use borrow.Author.Tests.{lt-ltb, le-ltb, not-true, not-false}
use Rattle.std.specs.Prelude.{Option, None}
use Rattle.validate.proofs.Lowest.{no_index, lower_is}
use Rattle.scope.specs.Answers.{found_below}
use Rattle.scope.specs.Lists.{at, first_bad, passes}
use Rattle.scope.specs.CellLists.{differs, first_of_its_kind, not_under}
use Rattle.scope.proofs.Tests.{clash, same, le_or_lt}
use Rattle.scope.proofs.Scan.{first_bad_lowest, first_bad_same, lowest_from, passes_at, passes_all, passes_not, passes_fails, Going}
use Rattle.validate.specs.Sorting.{InOrder}
use Rattle.cell_lookup.specs.Lookup.{differs_before, Ordered}
use Rattle.validate.specs.Parts.{lowest, lower, repeats, nests, none_of, none_before, Against, Found, new_against, clear_against, PartIn, AllValid}

-- ---- a part, and the list

-- no cell before the part has an equal before it there
pub from_part : (part cs : List ℕ) (start : ℕ) → start ≤ length cs → Going (new_against part cs start) (length cs) start
from_part part cs start h = record {
  within = h;
  passed = λ i l. passes_all (differs_before part (at cs i) (i - start)) (length part) (λ j k.
      ap (λ (b : Bool). not (b && eqb (at part j) (at cs i))) (le-ltb j (i - start) (omega arith)));
}

shifted : (j start i : ℕ) → ltb j (i - start) ≡ ltb (start + j) i
shifted j start i = elim (dec_lt (start + j) i) [
  | yes h ↦ lt-ltb j (i - start) (omega arith) ∙ sym (lt-ltb (start + j) i h)
  | no h ↦ le-ltb j (i - start) (omega arith) ∙ sym (le-ltb (start + j) i (omega arith))
]

module _ (cs part : List ℕ) (start : ℕ) (P : PartIn cs part start) where
  abbrev end : ℕ
  end = start + length part

  size : length part ≡ end - start
  size = omega arith

  pub part_ordered : {a₀ a : List ℕ} → InOrder part a₀ a → Ordered part a
  part_ordered S = record {
    few = P.few;
    valid = λ j h. rw (P.same j h) (P.valid (start + j) (omega (arith, P.within)));
    sorted = S.sorted;
  }

  -- tests that agree at every cell of the part
  over_part : (ok ko : ℕ → Bool) → ((j : ℕ) → j < length part → ok j ≡ ko j) → passes ok (length part) ≡ passes ko (end - start)
  over_part ok ko e = ap (λ (r : ℕ). eqb r (length part)) (first_bad_same ok ko (length part) e) ∙ ap (passes ko) size

  second_of : lowest (new_against part cs start) (length cs) ≡ lowest (none_of (repeats cs) start end) (length cs)
  second_of = ap (found_below (length cs)) (first_bad_same _ _ (length cs) (λ i h.
      over_part (differs_before part (at cs i) (i - start)) (λ j. not (repeats cs i (start + j))) (λ j l. rw (shifted j start i, P.same j l))))

  nested_of : lowest (clear_against part cs) (length cs) ≡ lowest (none_of (nests cs) start end) (length cs)
  nested_of = ap (found_below (length cs)) (first_bad_same _ _ (length cs) (λ i h. over_part (not_under part (at cs i)) (λ j. not (nests cs i (start + j))) (λ j l. rw (P.same j l))))

  module _ {second : Option ℕ} (s : second ≡ lowest (new_against part cs start) (length cs)) where
    pub against_even : {mixed : Bool} → not mixed ≡ true → Against cs start end mixed second None
    against_even {mixed} m = record { second_is = s ∙ second_of; nested_is = sym (rw (not-true mixed m)) }

    pub against_mixed : {mixed : Bool} {nested : Option ℕ} → not mixed ≡ false → nested ≡ lowest (clear_against part cs) (length cs) → Against cs start end mixed second nested
    against_mixed {mixed} m e = record { second_is = s ∙ second_of; nested_is = e ∙ nested_of ∙ sym (rw (not-false mixed m)) }

-- ---- the parts, one after the other

-- no failure is below the lowest
lowest_le : (ok : ℕ → Bool) (n k : ℕ) → ok k ≡ false → first_bad ok n ≤ k
lowest_le ok n k e = ⊎_elim (λ h. h) (λ (h : k < first_bad ok n). absurd (clash ((first_bad_lowest ok n).before k h) e)) (le_or_lt (first_bad ok n) k)

module _ (bad : ℕ → ℕ → Bool) (start end n : ℕ) (order : start ≤ end) where
  abbrev first : ℕ
  first = first_bad (none_before bad start) n

  abbrev second : ℕ
  second = first_bad (none_of bad start end) n

  -- what clashes before the end does so before the start, or from the start on
  before_end : (i : ℕ) → none_before bad end i ≡ false → min first second ≤ i
  before_end i e =
      let j : ℕ = first_bad (λ k. not (bad i k)) end in
      let jn : j < end = passes_fails (λ k. not (bad i k)) end e in
      let b : not (bad i j) ≡ false = (first_bad_lowest (λ k. not (bad i k)) end).here jn in
      ⊎_elim
      (λ (h : start ≤ j).
      let s : start + (j - start) ≡ j = omega arith in
      let c : none_of bad start end i ≡ false = passes_not (λ k. not (bad i (start + k))) (end - start) (j - start) (omega arith) (rw s b) in
      let l = lowest_le (none_of bad start end) n i c in omega arith)
      (λ (h : j < start).
      let l = lowest_le (none_before bad start) n i (passes_not (λ k. not (bad i k)) start j h b) in omega arith)
      (le_or_lt start j)

  first_clash : (i : ℕ) → none_before bad start i ≡ false → none_before bad end i ≡ false
  first_clash i e =
      let j = passes_fails (λ k. not (bad i k)) start e in
      passes_not (λ k. not (bad i k)) end (first_bad (λ k. not (bad i k)) start) (omega arith) ((first_bad_lowest (λ k. not (bad i k)) start).here j)

  second_clash : (i : ℕ) → none_of bad start end i ≡ false → none_before bad end i ≡ false
  second_clash i e =
      let j = passes_fails (λ k. not (bad i (start + k))) (end - start) e in
      passes_not (λ k. not (bad i k)) end (start + first_bad (λ k. not (bad i (start + k))) (end - start)) (omega arith)
      ((first_bad_lowest (λ k. not (bad i (start + k))) (end - start)).here j)

  pub join : min first second ≡ first_bad (none_before bad end) n
  join = lowest_from (none_before bad end) n (min first second) (let w = (first_bad_lowest (none_before bad start) n).within in omega arith)
      (λ k h e. before_end k e)
      (λ h. ⊎_elim
      (λ (l : first ≤ second).
      let e : min first second ≡ first = omega arith in
      rw e (first_clash first ((first_bad_lowest (none_before bad start) n).here (omega arith))))
      (λ (l : second < first).
      let e : min first second ≡ second = omega arith in
      rw e (second_clash second ((first_bad_lowest (none_of bad start end) n).here (omega arith))))
      (le_or_lt first second))

none_clash : (bad : ℕ → ℕ → Bool) (n : ℕ) → n ≡ first_bad (none_before bad 0) n
none_clash bad n = lowest_from (none_before bad 0) n n (omega arith)
    (λ k h e. absurd (clash (passes_all (λ j. not (bad k j)) 0 (λ j l. absurd (omega arith))) e))
    (λ h. absurd (omega arith))

none_lowest : (bad : ℕ → ℕ → Bool) (n : ℕ) → None ≡ lowest (none_before bad 0) n
none_lowest bad n = sym (ap (found_below n) (sym (none_clash bad n)) ∙ no_index n)

pub found_start : (cs : List ℕ) (mixed : Bool) → Found cs 0 mixed None None
found_start cs true = record { second_is = none_lowest (repeats cs) (length cs); nested_is = none_lowest (nests cs) (length cs) }
found_start cs false = record { second_is = none_lowest (repeats cs) (length cs); nested_is = refl }

lowest_join : (bad : ℕ → ℕ → Bool) (start end n : ℕ) → start ≤ end → lower (lowest (none_before bad start) n) (lowest (none_of bad start end) n) ≡ lowest (none_before bad end) n
lowest_join bad start end n h = lower_is n _ _ ∙ ap (found_below n) (join bad start end n h)

pub found_more : {cs : List ℕ} {start end : ℕ} {mixed : Bool} {s m t k : Option ℕ} → start ≤ end → Found cs start mixed s m → Against cs start end mixed t k
    → {a b : Option ℕ} → a ≡ lower s t → b ≡ lower m k → Found cs end mixed a b
found_more {cs} {start} {end} {mixed} {s} {m} {t} {k} h F A {a} {b} ea eb = record {
  second_is = ea ∙ rw (F.second_is, A.second_is) (lowest_join (repeats cs) start end (length cs) h);
  nested_is = eb ∙ nested mixed F.nested_is A.nested_is;
}
  where
    nested : (x : Bool) → m ≡ cond x (lowest (none_before (nests cs) start) (length cs)) None
        → k ≡ cond x (lowest (none_of (nests cs) start end) (length cs)) None
        → lower m k ≡ cond x (lowest (none_before (nests cs) end) (length cs)) None
    nested true p q = rw (p, q) (lowest_join (nests cs) start end (length cs) h)
    nested false p q = rw (p, q)

-- a walk over the parts: `count` are done, and `rest` is to come
pub record Parting (cs : List ℕ) (mixed : Bool) (size count : ℕ) (rest : List ℕ) (second nested : Option ℕ) : Type 0 where
  pub size_is : size ≡ 16384
  pub within : length rest ≤ length cs
  pub start : 0 < length rest → count * 16384 ≡ length cs - length rest
  pub same : (j : ℕ) → j < length rest → at rest j ≡ at cs (length cs - length rest + j)
  pub found : Found cs (length cs - length rest) mixed second nested

pub parting_start : {cs rest : List ℕ} {mixed : Bool} {size count : ℕ} → size ≡ 16384 → count ≡ 0 → rest ≡ cs → Parting cs mixed size count rest None None
parting_start {cs} {rest} {mixed} {size} {count} s n e =
    let none : length cs - length cs ≡ 0 = omega arith in
    rw e (record {
      size_is = s;
      within = omega arith;
      start = λ h. omega arith;
      same = λ j h. ap (at cs) (omega arith);
      found = rw none (found_start cs mixed);
    })

module _ {cs rest : List ℕ} (part rest' : List ℕ) {mixed : Bool} {size count : ℕ} {second nested : Option ℕ} (P : Parting cs mixed size count rest second nested)
    (cut : rest ≡ part ++ rest') (long : length part ≡ min size (length rest)) (some : 0 < length rest) where
  lengths : length rest ≡ length part + length rest'
  lengths = ap length cut ∙ length-append part rest'

  pub parting_part : AllValid cs → {k : ℕ} → k ≡ count → PartIn cs part (k * 16384)
  parting_part V {k} e =
      let s = P.start some in
      rw e (record {
        valid = V;
        within = omega (arith, s, lengths, P.within);
        same = λ j h. sym (ap (λ (l : List ℕ). at l j) cut ∙ get_or-append part rest' 0 j h) ∙ P.same j (omega (arith, lengths)) ∙ ap (at cs) (omega arith);
        few = omega (arith, P.size_is);
      })

  pub parting_more : {k count' size' : ℕ} → k ≡ count → count' ≡ count + 1 → size' ≡ size → {t m a b : Option ℕ}
      → Against cs (k * 16384) (k * 16384 + length part) mixed t m → a ≡ lower second t → b ≡ lower nested m
      → Parting cs mixed size' count' rest' a b
  parting_more {k} {count'} {size'} ek ec es {t} {m} {a} {b} A ea eb =
      let s = P.start some in
      let k_is : k * 16384 ≡ length cs - length rest = ap (λ (i : ℕ). i * 16384) ek ∙ s in
      let to : k * 16384 + length part ≡ length cs - length rest' = omega (arith, lengths, P.within) in
      record {
        size_is = es ∙ P.size_is;
        within = omega (arith, lengths, P.within);
        start = λ h. omega (arith, lengths, P.within, P.size_is);
        same = λ j h. sym (ap (λ (l : List ℕ). at l (length part + j)) cut ∙ get_or-append-add part rest' j 0) ∙ P.same (length part + j) (omega (arith, lengths)) ∙ ap (at cs) (omega (arith, lengths, P.within));
        found = subst (λ (e : ℕ). Found cs e mixed a b) to (found_more (omega arith) (subst (λ (i : ℕ). Found cs i mixed second nested) (sym k_is) P.found) A ea eb);
      }

-- over the whole list
pub found_second : {cs : List ℕ} {mixed : Bool} {s m : Option ℕ} → Found cs (length cs) mixed s m → s ≡ lowest (first_of_its_kind cs) (length cs)
found_second {cs} F = F.second_is ∙ ap (found_below (length cs)) (first_bad_same _ _ (length cs) (λ i h. same _ _
    (λ e. passes_all (differs cs (at cs i)) i (λ j l.
    rw (lt-ltb j i l) at (passes_at (λ k. not (repeats cs i k)) (length cs) e j (omega arith))))
    (λ e. passes_all (λ k. not (repeats cs i k)) (length cs) (λ j l. ⊎_elim
    (λ (g : i ≤ j). rw (le-ltb j i g))
    (λ (g : j < i). rw (lt-ltb j i g) (passes_at (differs cs (at cs i)) i e j g))
    (le_or_lt i j)))))
