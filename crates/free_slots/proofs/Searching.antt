-- The search for a free slot.
--     from_same                        the lowest failure from i on looks at nothing below i
--     free_here, free_on, free_end     the search as a loop
--     all_more                         whether all pass, with one more
--     First                            what the search finds: `free_first`, and it is the only such slot, `first_one`; `find_first`: as `find` answers
-- Assumes nothing.
use mathlib.Core.Path.{◌≡◌, refl, sym, ◌∙◌, ap}
use mathlib.Core.Logic.{◌≢◌, ⊎_elim}
use mathlib.Core.Bool.{Bool, true, false, ◌&&◌, not, cond}
use mathlib.Core.List.{List, [], ◌∷◌, ◌++◌}
use Prim.Native.Nat.{ℕ, zero, suc, ◌+◌, ◌-◌, ◌≤◌, ◌<◌}
use native.Mathlib.Numerals.{add-one}
use native.Mathlib.Omega.{arith}
use lib.Dec.{eqb}
use lib.ListN.{length, take, drop, length-take, length-drop, length-append, get_or-append}
use lib.Seq.{get_or-take, get_or-drop}
use Rattle.std.proofs.lemmas.List.{get_or-append-add}
use borrow.Author.Tests.{eq-eqb, ne_eqb}
use Rattle.std.specs.Prelude.{Option, None, Some}
use Rattle.std.specs.Option.{MatchOption, unwrap_or}
use Rattle.std.specs.List.{list_all}
use Rattle.scope.specs.Lists.{at, from}
use Rattle.scope.proofs.Tests.{clash, either, and_left, and_right}
use Rattle.scope.proofs.Members.{cases}
use Rattle.free_slots.specs.Search.{free_from}

pub from_same : (ok ko : ℕ → Bool) (n i : ℕ) → ((k : ℕ) → i ≤ k → ok k ≡ ko k) → from ok n i ≡ from ko n i
unfolding from
from_same ok ko zero i e = refl
from_same ok ko (suc n) i e = rw (e i (omega arith)) (ap (λ (r : ℕ). cond (ko i) r i) (from_same ok ko n (suc i) (λ k h. e k (omega arith))))

module _ (rows : List ℕ) (i : ℕ) where
  pub free_end : length rows ≤ i → free_from rows i ≡ i
  unfolding from
  free_end h = rw (let e : length rows - i ≡ 0 = omega arith in e)

  module _ (h : i < length rows) where
    one_more : length rows - i ≡ suc (length rows - (i + 1))
    one_more = omega arith

    pub free_here : at rows i ≡ 0 → free_from rows i ≡ i
    unfolding from
    free_here e = rw (one_more, ap not (eq-eqb (at rows i) 0 e))

    pub free_on : (at rows i ≡ 0 → ⊥) → free_from rows (i + 1) ≡ free_from rows i
    unfolding from
    free_on e = rw (one_more, ap not (ne_eqb (at rows i) 0 e), add-one)

-- ---- several slots at a time

pub all_more : (ok : ℕ → Bool) (xs : List ℕ) (x : ℕ) → list_all ok (xs ++ x ∷ []) ≡ (list_all ok xs && ok x)
all_more ok [] x = and_true (ok x)
  where
    and_true : (b : Bool) → (b && true) ≡ b
    and_true true = refl
    and_true false = refl
all_more ok (y ∷ xs) x = ap (λ (b : Bool). ok y && b) (all_more ok xs x) ∙ and_assoc (ok y) (list_all ok xs) (ok x)
  where
    and_assoc : (a b d : Bool) → (a && (b && d)) ≡ ((a && b) && d)
    and_assoc true b d = refl
    and_assoc false b d = refl

all_at : (xs : List ℕ) → list_all (λ x. not (eqb x 0)) xs ≡ true → (k : ℕ) → k < length xs → at xs k ≢ 0
all_at [] e k h = absurd (omega arith)
all_at (x ∷ xs) e zero h = λ z. clash (and_left (not (eqb x 0)) _ e) (ap not (eq-eqb x 0 z))
all_at (x ∷ xs) e (suc k) h = all_at xs (and_right (not (eqb x 0)) _ e) k (omega arith)

passed : (rows : List ℕ) (n i : ℕ) → i + n ≤ length rows → ((k : ℕ) → k < n → at rows (i + k) ≢ 0) → free_from rows (i + n) ≡ free_from rows i
passed rows zero i h u = ap (free_from rows) (omega arith)
passed rows (suc n) i h u =
    let next : i + suc n ≡ i + 1 + n = omega arith in
    let here : at rows i ≢ 0 = λ z. u 0 (omega arith) (ap (at rows) (omega arith) ∙ z) in
    ap (free_from rows) next
    ∙ passed rows n (i + 1) (omega arith) (λ k l z. u (k + 1) (omega arith) (ap (at rows) (omega arith) ∙ z))
    ∙ free_on rows i (omega arith) here

-- a walk by eights that stands at `slot`, with `rest` to come
pub record Skipping (rows : List ℕ) (start slot size : ℕ) (rest : List ℕ) : Type 0 where
  pub size_is : size ≡ 8
  pub within : slot + length rest ≤ length rows
  pub same : (j : ℕ) → j < length rest → at rest j ≡ at rows (slot + j)
  pub found : free_from rows slot ≡ free_from rows start

pub skip_start : {rows rest : List ℕ} {start size : ℕ} → start ≤ length rows → size ≡ 8 → rest ≡ take (length rows - start) (drop start rows) → Skipping rows start start size rest
skip_start {rows} {rest} {start} h s e =
    let long : length rest ≡ length rows - start = rw (e, length-take, length-drop) (omega arith) in
    record {
      size_is = s;
      within = omega arith;
      same = λ j l. rw e (get_or-take (length rows - start) (drop start rows) j 0 (omega arith) ∙ get_or-drop start rows j 0);
      found = refl;
    }

pub skip_more : {rows rest : List ℕ} {start slot size size' : ℕ} (eight rest' : List ℕ) → Skipping rows start slot size rest → rest ≡ eight ++ rest' → length eight ≡ size
    → list_all (λ x. not (eqb x 0)) eight ≡ true → size' ≡ size → Skipping rows start (slot + 8) size' rest'
skip_more {rows} {rest} {start} {slot} eight rest' S cut long used same =
    let all : length rest ≡ length eight + length rest' = ap length cut ∙ length-append eight rest' in
    let w = S.within in
    let eight_long : length eight ≡ 8 = long ∙ S.size_is in
    record {
      size_is = same ∙ S.size_is;
      within = omega arith;
      same = λ j h. sym (ap (λ (l : List ℕ). at l (length eight + j)) cut ∙ get_or-append-add eight rest' j 0) ∙ S.same (length eight + j) (omega arith) ∙ ap (at rows) (omega arith);
      found = passed rows 8 slot (omega arith) (λ k h z.
          all_at eight used k (omega arith) (sym (ap (λ (l : List ℕ). at l k) cut ∙ get_or-append eight rest' 0 k (omega arith)) ∙ S.same k (omega arith) ∙ z)) ∙ S.found;
    }

-- ---- what is found

pub record First (rows : List ℕ) (i s : ℕ) : Type 0 where
  pub high : i ≤ s
  pub within : s ≤ length rows
  pub used : (k : ℕ) → i ≤ k → k < s → at rows k ≢ 0
  pub free : s < length rows → at rows s ≡ 0

-- the same of any test
record FirstOf (ok : ℕ → Bool) (n i s : ℕ) : Type 0 where
  high : i ≤ s
  within : s ≤ i + n
  pass : (k : ℕ) → i ≤ k → k < s → ok k ≡ true
  fail : s < i + n → ok s ≡ false

from_first : (ok : ℕ → Bool) (n i : ℕ) → FirstOf ok n i (from ok n i)
unfolding from
from_first ok zero i = record { high = omega arith; within = omega arith; pass = λ k h l. absurd (omega arith); fail = λ h. absurd (omega arith) }
from_first ok (suc n) i = ⊎_elim
    (λ (t : ok i ≡ true). rw t
    (let r = from_first ok n (suc i) in
    record {
      high = omega (arith, r.high);
      within = omega (arith, r.within);
      pass = λ k h l. cases k i (λ e. ap ok e ∙ t) (λ d. r.pass k (omega arith) l);
      fail = λ h. r.fail (omega arith);
    }))
    (λ (t : ok i ≡ false). rw t (record { high = omega arith; within = omega arith; pass = λ k h l. absurd (omega arith); fail = λ h. t }))
    (either (ok i))

pub free_first : (rows : List ℕ) (i : ℕ) → i ≤ length rows → First rows i (free_from rows i)
free_first rows i h =
    let r = from_first (λ s. not (eqb (at rows s) 0)) (length rows - i) i in
    record {
      high = r.high;
      within = omega (arith, r.within);
      used = λ k g l z. clash (r.pass k g l) (ap not (eq-eqb (at rows k) 0 z));
      free = λ g. cases (at rows (free_from rows i)) 0 (λ z. z) (λ u. absurd (clash (ap not (ne_eqb (at rows (free_from rows i)) 0 u)) (r.fail (omega arith))));
    }

not_lower : {rows : List ℕ} {i s r : ℕ} → First rows i s → First rows i r → s < r → ⊥
not_lower {rows} {i} {s} {r} S R h = R.used s S.high h (S.free (omega (arith, R.within)))

pub first_one : {rows : List ℕ} {i s r : ℕ} → First rows i s → First rows i r → s ≡ r
first_one S R = let p = not_lower S R in let q = not_lower R S in omega arith

-- what `find` answers over the slots from i on, or the number of slots
pub find_first : (rows : List ℕ) (i : ℕ) (r : Option ℕ) → i ≤ length rows
    → MatchOption r ((k : ℕ) → i ≤ k → k < length rows → at rows k ≢ 0) (λ s. (i ≤ s) × (s < length rows) × (at rows s ≡ 0) × ((k : ℕ) → i ≤ k → k < s → at rows k ≢ 0))
    → unwrap_or r (length rows) ≡ free_from rows i
find_first rows i None h m = first_one (record { high = h; within = omega arith; used = m; free = λ l. absurd (omega arith) }) (free_first rows i h)
find_first rows i (Some s) h m = first_one (record { high = m.0; within = omega (arith, m.1); used = m.3; free = λ l. m.2 }) (free_first rows i h)
