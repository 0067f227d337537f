-- Two places of a list cleared, by what each place holds.
--     clear_put                  0 at the two, elsewhere as before
--     pair_length                a pair taken out leaves the links as long as before
--     clear_more                 numbers cleared where a test holds: at two places more
-- Assumes nothing.
use mathlib.Core.Path.{◌≡◌, sym, ◌∙◌, ap}
use mathlib.Core.Logic.{◌≢◌}
use mathlib.Core.Bool.{Bool, true, cond}
use mathlib.Core.List.{List}
use Prim.Native.Nat.{ℕ, ◌<◌}
use lib.ListN.{length, length-set}
use Rattle.scope.specs.Lists.{at}
use Rattle.scope.proofs.Members.{cases}
use Rattle.pair_links.specs.Links.{swap_next, swap_prev, drop_next, drop_prev, pair_next, pair_prev, clear_two}
use Rattle.arcs.proofs.Round.{Put₂, put_set₂}

pub clear_put : (l : List ℕ) (x y : ℕ) → x ≢ y → x < length l → y < length l → Put₂ (at l) (at (clear_two l x y)) x 0 y 0
unfolding clear_two
clear_put l x y d h k = put_set₂ l x 0 y 0 d h k

pub pair_length : (next prev : List ℕ) (x y : ℕ) → (length (pair_next next prev x y) ≡ length next) × (length (pair_prev next prev x y) ≡ length prev)
unfolding pair_next pair_prev swap_next swap_prev drop_next drop_prev
pair_length next prev x y = (simp length-set, simp length-set)

-- numbers cleared where a test holds: at two places more
pub clear_more : (l : List ℕ) (x y : ℕ) → x ≢ y → x < length l → y < length l → (f : ℕ → ℕ) (g h : ℕ → Bool) → g x ≡ true → g y ≡ true
    → ((w : ℕ) → w ≢ x → w ≢ y → cond (h w) 0 (f w) ≡ cond (g w) 0 (f w)) → ((w : ℕ) → at l w ≡ cond (h w) 0 (f w)) → (w : ℕ) → at (clear_two l x y) w ≡ cond (g w) 0 (f w)
clear_more l x y d hx hy f g h gx gy e k w =
    let P = clear_put l x y d hx hy in
    cases w x (λ q. ap (at (clear_two l x y)) q ∙ P.put₁ ∙ sym (rw (ap g q ∙ gx)))
    (λ nx. cases w y (λ q. ap (at (clear_two l x y)) q ∙ P.put₂ ∙ sym (rw (ap g q ∙ gy)))
    (λ ny. P.rest w nx ny ∙ k w ∙ e w nx ny))
