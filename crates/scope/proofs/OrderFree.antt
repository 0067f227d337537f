-- IN WHATEVER ORDER: which rows are given and stand, their successors and the groups depend on which cells are accepted, and on nothing else.
--     given_free, stands_free      the same rows are given and stand
--     successor_free               and have the same successors
--     group_free                   the same cells are in one group
-- Assumes nothing.
use mathlib.Core.Path.{◌≡◌, sym, ◌∙◌}
use mathlib.Core.List.{List, Memᴰ}
use Prim.Native.Nat.{ℕ}
use Rattle.scope.specs.Table.{Table, reverse_of}
use Rattle.scope.specs.Standing.{outlines, GivenBy, StandsIn, SuccessorIn, OneGroup, next_of}
use Rattle.scope.proofs.Successor.{successor_same}
use Rattle.scope.proofs.Proper.{Proper, SameMembers, given_of, given_by, next_of_lem, proper_apart, proper_turns}
use Rattle.scope.proofs.Chains.{chain_mono}

pub given_free : (t : Table) {cs ds : List ℕ} → ((x : ℕ) → Memᴰ x cs → Memᴰ x ds) → (a : ℕ) → GivenBy t cs a → GivenBy t ds a
given_free t {cs} E a g = let r = given_by t cs a g in given_of t a (E r.0 r.1) r.2

pub stands_free : (t : Table) {cs ds : List ℕ} → SameMembers cs ds → (a : ℕ) → StandsIn t cs a → StandsIn t ds a
stands_free t E a s = (given_free t E.0 a s.0, λ g. s.1 (given_free t E.1 (reverse_of t a) g))

pub group_free : (t : Table) {cs ds : List ℕ} → ((x : ℕ) → Memᴰ x cs → Memᴰ x ds) → {x y : ℕ} → OneGroup t cs x y → OneGroup t ds x y
group_free t E p = chain_mono (λ v w e. (E v e.0, E w e.1, e.2)) p

module _ {t : Table} {cs ds : List ℕ} (P : Proper t cs) (Q : Proper t ds) (E : SameMembers cs ds) where
  next_free : (a : ℕ) → GivenBy t cs a → next_of (outlines t cs) a ≡ next_of (outlines t ds) a
  next_free a g =
      let r = given_by t cs a g in
      next_of_lem t a (proper_apart t cs P) r.1 r.2 ∙ sym (next_of_lem t a (proper_apart t ds Q) (E.0 r.0 r.1) r.2)

  pub successor_free : (a b : ℕ) → GivenBy t cs a → SuccessorIn t cs a b → SuccessorIn t ds a b
  successor_free a b g r = successor_same (proper_turns P) (given_free t E.0) (given_free t E.1) next_free a b g r
