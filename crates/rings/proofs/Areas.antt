-- The area of a ring, its terms added from its first row on.
-- Assumes nothing.
use Prim.Native.Nat.{ℕ, ◌+◌, ◌<◌}
use mathlib.Core.Path.{◌≡◌, refl, sym, ◌∙◌, ap}
use mathlib.Core.List.{List, [], ◌∷◌, ◌++◌}
use native.Mathlib.Numerals.{add-one}
use lib.Ieee.{Float, nan}
use lib.ListN.{length, get_or, take}
use lib.Seq.{take-suc}
use Rattle.scope.specs.Lists.{at}
use Rattle.scope.specs.Area.{Adder, no_terms, added, add_all}
use Rattle.scope.proofs.Below.{map_append}
use Rattle.rings.specs.Laying.{terms_of}

add_last : (a : Adder) (l : List Float) (x : Float) → add_all a (l ++ (x ∷ [])) ≡ added (add_all a l) x
unfolding add_all
add_last a [] x = refl
add_last a (y ∷ l) x = add_last (added a y) l x

-- the terms of the first i rows are added
abbrev pub AreaInv : List Float → List ℕ → Adder → ℕ → Type 0
AreaInv terms rows a i = a ≡ add_all no_terms (terms_of terms (take i rows))

pub area_start : (terms : List Float) (rows : List ℕ) {a : Adder} → a ≡ no_terms → AreaInv terms rows a 0
unfolding add_all
area_start terms rows e = e

pub area_next : (terms : List Float) (rows : List ℕ) (i : ℕ) {a : Adder} → AreaInv terms rows a i → i < length rows → {b : Adder} → b ≡ added a (get_or terms (at rows i) nan)
    → AreaInv terms rows b (i + 1)
area_next terms rows i {a} I h f =
    f ∙ ap (λ (z : Adder). added z (get_or terms (at rows i) nan)) I
    ∙ sym (add_last no_terms (terms_of terms (take i rows)) (get_or terms (at rows i) nan))
    ∙ ap (add_all no_terms) (sym (map_append (λ x. get_or terms x nan) (take i rows) (at rows i ∷ []))
    ∙ ap (terms_of terms) (sym (ap (λ (z : ℕ). take z rows) (add-one i) ∙ take-suc rows i 0 h)))
