-- New values in front of what lay there: `over new old` by its places.
--     over_front, over_back, over_at, over_length     the new values come first, then what lay behind their places
--     front_over                                      a list whose front holds the new values and whose rest is the old one's
-- Assumes nothing.
use Prim.Native.Nat.{ℕ, ◌≤◌, ◌<◌}
use mathlib.Core.Path.{◌≡◌, refl, sym, ◌∙◌, ap, ap₂}
use mathlib.Core.List.{List, ◌++◌}
use native.Mathlib.Omega.{arith}
use lib.ListN.{length, get_or, take, drop, length-append, length-drop, take-append-drop, get_or-append}
use lib.Seq.{take_at, drop_at}
use Rattle.scope.specs.Calls.{over}

module _ {A : Type 0} (new old : List A) where
  pub over_front : take (length new) (over new old) ≡ new
  over_front = take_at new (drop (length new) old) (length new) refl

  pub over_back : drop (length new) (over new old) ≡ drop (length new) old
  over_back = drop_at new (drop (length new) old) (length new) refl

  pub over_at : (i : ℕ) (d : A) → i < length new → get_or (over new old) i d ≡ get_or new i d
  over_at i d h = get_or-append new (drop (length new) old) d i h

  pub over_length : length new ≤ length old → length (over new old) ≡ length old
  over_length h = length-append new (drop (length new) old) ∙ (let e = length-drop (length new) old in omega arith)

pub front_over : {A : Type 0} (new l old : List A) {n : ℕ} → take n l ≡ new → length new ≡ n → drop n l ≡ drop n old → l ≡ over new old
front_over {A} new l old {n} e len b =
    sym (take-append-drop n l) ∙ ap₂ (λ (x y : List A). x ++ y) e (b ∙ ap (λ (z : ℕ). drop z old) (sym len))
