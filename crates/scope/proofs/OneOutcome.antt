-- ONE OUTCOME: document 01, "any two outcomes it allows are equal".
--     Determines P     any two outcomes that the promise P allows are equal
--     one_outcome      a promise that is an equation does so, be it of a number, a list, or a record of the answer and every lent slice;
--     one_beside       so does one with anything beside it, as a bound
-- That each public promise has this form, or a law of its own, is seen by tests/promises.
-- Assumes nothing.
use mathlib.Core.Path.{◌≡◌, sym, ◌∙◌}

abbrev pub Determines : {A : Type 0} → (A → Type 0) → Type 0
Determines {A} P = (r s : A) → P r → P s → r ≡ s

pub one_outcome : {A : Type 0} (a : A) → Determines (λ (r : A). r ≡ a)
one_outcome a r s p q = p ∙ sym q

pub one_beside : {A : Type 0} (a : A) (Q : A → Type 0) → Determines (λ (r : A). (r ≡ a) × Q r)
one_beside a Q r s p q = p.0 ∙ sym q.0
