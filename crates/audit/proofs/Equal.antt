-- What a comparison says.
--     numbers_equal                     same numbers place for place are one list
--     numbers_decided, areas_decided, answer_decided     the comparison as the code makes it
--     first_refused, second_refused     a refusal is the same as no other answer, be it another refusal
-- Assumes nothing.
use Prim.Native.Nat.{ℕ}
use mathlib.Core.Path.{◌≡◌, refl, ◌∙◌, ap, subst}
use mathlib.Core.Bool.{Bool, true, false, ◌&&◌}
use mathlib.Core.List.{List}
use native.Mathlib.Nat.{min-eq_left}
use native.Mathlib.Omega.{arith}
use borrow.Author.Tests.{eq-eqb, eqb-true}
use lib.Dec.{eqb}
use lib.Ieee.{Float, nan}
use lib.ListN.{length}
use lib.Pointwise.{pointwise}
use lib.Seq.{ext_get_or}
use Rattle.std.specs.Prelude.{Err, Ok, is_ok}
use Rattle.std.specs.List.{list_all, zip}
use Rattle.std.specs.Float.{binary64}
use Rattle.std.specs.Float.Ieee.{to_bits}
use Rattle.std.proofs.lemmas.Slice.Eq.{slice_eq-Decides}
use Rattle.std.proofs.lemmas.Slice.Zip.{length-zip, get_or-zip}
use Rattle.scope.specs.declared.Refusal.{Refusal}
use Rattle.scope.specs.declared.ReadOut.TheVariants.{Nothing, Closed, Outline}
use Rattle.scope.specs.Lists.{at, passes}
use Rattle.scope.specs.Answers.{kind_of, polygons_of, rings_of, is_accepted, verdict_of, Answer}
use Rattle.scope.specs.Bytes.{area_bits}
use Rattle.scope.proofs.Tests.{and_left, and_right, and_both, same}
use Rattle.scope.proofs.Scan.{passes_at, passes_all}
use Rattle.scope.proofs.Iterated.{all_scan}
use Rattle.answer_numbers.specs.Sums.{Sums}
use Rattle.answer_numbers.specs.declared.Summary.{Summary}
use Rattle.audit.specs.Same.{same_at, same_numbers, same_bits_at, same_areas, same_answer}

-- ---- numbers

pub numbers_equal : (a b : List ℕ) → same_numbers a b ≡ true → a ≡ b
unfolding same_numbers
numbers_equal a b e =
    ext_get_or 0 a b (eqb-true (length a) (length b) (and_left _ _ e))
    (λ i h. eqb-true (at a i) (at b i) (passes_at (same_at a b) (length a) (and_right (eqb (length a) (length b)) _ e) i h))

numbers_self : (a : List ℕ) → same_numbers a a ≡ true
unfolding same_numbers
numbers_self a =
    and_both (eqb (length a) (length a)) (passes (same_at a a) (length a)) (eq-eqb (length a) (length a) refl)
    (passes_all (same_at a a) (length a) (λ k h. eq-eqb (at a k) (at a k) refl))

pub numbers_decided : (a b : List ℕ) {r : Bool} → r ≡ pointwise eqb a b → r ≡ same_numbers a b
numbers_decided a b {r} e =
    let d = slice_eq-Decides (λ (x y : ℕ). (eqb-true x y, eq-eqb x y)) a b r e in
    same r (same_numbers a b) (λ h. subst (λ (l : List ℕ). same_numbers a l ≡ true) (d.0 h) (numbers_self a)) (λ h. d.1 (numbers_equal a b h))

-- ---- areas, pair by pair

pub areas_decided : (a b : List Float) → length a ≡ length b → list_all (λ (p : Float × Float). eqb (to_bits binary64 p.0) (to_bits binary64 p.1)) (zip a b) ≡ same_areas a b
unfolding same_areas
areas_decided a b e =
    let long : length (zip a b) ≡ length a = length-zip a b ∙ min-eq_left (omega arith) in
    all_scan (nan, nan) (λ (p : Float × Float). eqb (to_bits binary64 p.0) (to_bits binary64 p.1)) (same_bits_at a b) (zip a b)
    (λ k h. ap (λ (p : Float × Float). eqb (to_bits binary64 p.0) (to_bits binary64 p.1)) (get_or-zip a b k (nan, nan) (omega arith) (omega arith)))
    ∙ rw (long, eq-eqb (length a) (length b) e) refl

-- ---- answers

ok_accepts : (r : Answer) → is_ok r ≡ is_accepted (verdict_of r)
unfolding verdict_of
ok_accepts (Ok answer) = refl
ok_accepts (Err why) = refl

regroup : (a k p r b : Bool) → (a && (k && (p && (r && b)))) ≡ (a && k && p && r && b)
regroup false k p r b = refl
regroup true false p r b = refl
regroup true true false r b = refl
regroup true true true false b = refl
regroup true true true true b = refl

pub answer_decided : (r s : Answer) {a b : Bool} {x y : Summary} → a ≡ is_ok r → b ≡ is_ok s → Sums r x → Sums s y
    → ((a && b) && (eqb x.kind y.kind && (eqb x.polygons y.polygons && (eqb x.rings y.rings && eqb x.area y.area)))) ≡ same_answer r s
unfolding same_answer
answer_decided r s a b x y =
    rw (a, b, ok_accepts r, ok_accepts s, x.0, x.1, x.2, x.3, y.0, y.1, y.2, y.3)
    (regroup (is_accepted (verdict_of r) && is_accepted (verdict_of s)) (eqb (kind_of r) (kind_of s)) (eqb (polygons_of r) (polygons_of s)) (eqb (rings_of r) (rings_of s)) (eqb (area_bits r) (area_bits s)))

pub first_refused : (why : Refusal) (s : Answer) → same_answer (Err why) s ≡ false
unfolding same_answer verdict_of
first_refused why s = refl

pub second_refused : (r : Answer) (why : Refusal) → same_answer r (Err why) ≡ false
unfolding same_answer verdict_of
second_refused (Ok Nothing) why = refl
second_refused (Ok Closed) why = refl
second_refused (Ok (Outline polygons rings area)) why = refl
second_refused (Err this) why = refl
