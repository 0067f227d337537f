-- Links that pass over pairs: `forth` and `back` are inverse on a set U of numbers below n, and what goes of U is paired up by `mate`.
-- From a number that stays, follow the link; while that one goes, follow the link of its mate.
--     Paired          what is asked of the links and the pairs; `turned`: the same for the links backward
--     returned        the way as a computation, `follow` with n steps
--     returns         it lands at what stays: n steps are enough
--     returned_in     and in U; `returned_stays`
--     returned_back   the links backward lead back: what is left has inverse links again
-- Assumes nothing.
use mathlib.Core.Path.{◌≡◌, refl, sym, ◌∙◌, ap}
use mathlib.Core.Bool.{Bool, true, false, not}
use Prim.Native.Nat.{ℕ, ◌<◌}
use borrow.Author.Tests.{not-true}
use Rattle.scope.specs.Lists.{follow}
use Rattle.scope.specs.Standing.{Lands, here, on}
use Rattle.scope.proofs.Tests.{clash}
use Rattle.scope.proofs.Lands.{lands_stop, lands_from, lands_to, lands_unique}
use Rattle.scope.proofs.Finite.{Steps, lands_total, follow_is}

pub record Paired (n : ℕ) (U : ℕ → Type 0) (goes : ℕ → Bool) (mate forth back : ℕ → ℕ) : Type 0 where
  pub small : (a : ℕ) → U a → a < n
  pub goes_in : (a : ℕ) → goes a ≡ true → U a
  pub mate_goes : (a : ℕ) → goes a ≡ true → goes (mate a) ≡ true
  pub mate_mate : (a : ℕ) → goes a ≡ true → mate (mate a) ≡ a
  pub forth_in : (a : ℕ) → U a → U (forth a)
  pub back_in : (a : ℕ) → U a → U (back a)
  pub back_forth : (a : ℕ) → U a → back (forth a) ≡ a
  pub forth_back : (a : ℕ) → U a → forth (back a) ≡ a

pub turned : {n : ℕ} {U : ℕ → Type 0} {goes : ℕ → Bool} {mate forth back : ℕ → ℕ} → Paired n U goes mate forth back → Paired n U goes mate back forth
turned P = record {
  small = P.small;
  goes_in = P.goes_in;
  mate_goes = P.mate_goes;
  mate_mate = P.mate_mate;
  forth_in = P.back_in;
  back_in = P.forth_in;
  back_forth = P.forth_back;
  forth_back = P.back_forth;
}

-- the way over what goes
abbrev pub Over : (ℕ → Bool) → (ℕ → ℕ) → (ℕ → ℕ) → ℕ → ℕ → Type 0
Over goes mate forth x y = Lands (λ w. not (goes w) ≡ true) (λ w. forth (mate w)) x y

abbrev pub returned : ℕ → (ℕ → Bool) → (ℕ → ℕ) → (ℕ → ℕ) → ℕ → ℕ
returned n goes mate forth a = follow (λ w. not (goes w)) (λ w. forth (mate w)) n (forth a)

-- what is no stop goes
not_stop : (b : Bool) → (not b ≡ true → ⊥) → b ≡ true
not_stop true n = refl
not_stop false n = absurd (n refl)

stop_dec : (b : Bool) → Dec (not b ≡ true)
stop_dec true = no (λ e. clash e refl)
stop_dec false = yes refl

module _ {n : ℕ} {U : ℕ → Type 0} {goes : ℕ → Bool} {mate forth back : ℕ → ℕ} (P : Paired n U goes mate forth back) where
  forth_injects : (a b : ℕ) → U a → U b → forth a ≡ forth b → a ≡ b
  forth_injects a b u v e = sym (P.back_forth a u) ∙ ap back e ∙ P.back_forth b v

  mate_in : (a : ℕ) → goes a ≡ true → U (mate a)
  mate_in a g = P.goes_in (mate a) (P.mate_goes a g)

  over_steps : Steps n U (λ w. not (goes w) ≡ true) (λ w. forth (mate w))
  over_steps = record {
    below = P.small;
    keeps = λ a u m. P.forth_in (mate a) (mate_in a (not_stop (goes a) m));
    injects = λ a b u m v k e.
        let g = not_stop (goes a) m in
        let h = not_stop (goes b) k in
        sym (P.mate_mate a g) ∙ ap mate (forth_injects (mate a) (mate b) (mate_in a g) (mate_in b h) e) ∙ P.mate_mate b h;
  }

  -- from what stays: no link of a mate is the link of a
  pub returns : (a : ℕ) → U a → goes a ≡ false → Over goes mate forth (forth a) (returned n goes mate forth a)
  returns a u s =
      let r = lands_total n U (λ w. not (goes w) ≡ true) (λ w. forth (mate w)) over_steps (λ w. stop_dec (goes w)) (forth a) (P.forth_in a u) first in
      lands_to (sym (follow_is (λ w. not (goes w)) n r.1 r.2)) r.1
    where
      first : (w : ℕ) → U w → (not (goes w) ≡ true → ⊥) → forth (mate w) ≡ forth a → ⊥
      first w v m e =
          let g = not_stop (goes w) m in
          clash (P.mate_goes w g) (ap goes (forth_injects (mate w) a (mate_in w g) u e) ∙ s)

  over_in : {x y : ℕ} → U x → Over goes mate forth x y → U y
  over_in u (here s) = u
  over_in u (on {x = x} m r) = over_in (P.forth_in (mate x) (mate_in x (not_stop (goes x) m))) r

  pub returned_stays : (a : ℕ) → U a → goes a ≡ false → goes (returned n goes mate forth a) ≡ false
  returned_stays a u s = not-true (goes (returned n goes mate forth a)) (lands_stop (returns a u s))

  pub returned_in : (a : ℕ) → U a → goes a ≡ false → U (returned n goes mate forth a)
  returned_in a u s = over_in (P.forth_in a u) (returns a u s)

  -- the way backward from the end of a way is that from before its start
  over_back : {x y z : ℕ} → U x → Over goes mate forth x y → Over goes mate back (back x) z → Over goes mate back (back y) z
  over_back u (here s) q = q
  over_back {z = z} u (on {x = x} m r) q =
      let g = not_stop (goes x) m in
      let v = mate_in x g in
      over_back (P.forth_in (mate x) v) r (lands_from (sym (P.back_forth (mate x) v))
      (on (λ s. clash (P.mate_goes x g) (not-true (goes (mate x)) s)) (lands_from (sym (ap back (P.mate_mate x g))) q)))

  pub over_turns : (a y : ℕ) → U a → goes a ≡ false → Over goes mate forth (forth a) y → Over goes mate back (back y) a
  over_turns a y u s r = over_back (P.forth_in a u) r (lands_from (sym (P.back_forth a u)) (here (ap not s)))

module _ {n : ℕ} {U : ℕ → Type 0} {goes : ℕ → Bool} {mate forth back : ℕ → ℕ} (P : Paired n U goes mate forth back) where
  pub returned_back : (a : ℕ) → U a → goes a ≡ false → returned n goes mate back (returned n goes mate forth a) ≡ a
  returned_back a u s =
      let y = returned n goes mate forth a in
      lands_unique (returns (turned P) y (returned_in P a u s) (returned_stays P a u s)) (over_turns P a y u s (returns P a u s))
