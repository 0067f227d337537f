-- What `filled` says, record by record, for whoever reads or cites `fill_rings`.
--     keeps      there are as many records as before
--     first      the first n are those of the four lists
--     after      the others are as they were
-- Assumes nothing.
use mathlib.Core.Path.{◌≡◌, refl, sym, ◌∙◌, ap, subst}
use Prim.Native.Nat.{ℕ, zero, suc, ◌≤◌, ◌<◌}
use native.Mathlib.Nat.{not-suc-le-zero, le_of_suc-le-suc, lt_irrefl}
use native.Mathlib.Omega.{arith}
use mathlib.Core.List.{List}
use mathlib.Core.Logic.{◌⊎◌, inl, inr, ⊎_elim}
use lib.ListN.{length, length-set}
use lib.Seq.{get_or-set_same, get_or-set_other}
use lib.Ieee.{Float}
use Rattle.ring_records.specs.Records.{blank, ring_at, record_at, filled}
use Rattle.ring_records.specs.declared.Ring.{Ring}

-- below the next number: below it, or it
below_next : (k i : ℕ) → k < suc i → (k < i) ⊎ (k ≡ i)
below_next zero zero h = inr refl
below_next zero (suc i) h = inl (omega arith)
below_next (suc k) zero h = absurd (not-suc-le-zero (le_of_suc-le-suc h))
below_next (suc k) (suc i) h = ⊎_elim (λ l. inl (omega (arith, l))) (λ e. inr (ap suc e)) (below_next k i (le_of_suc-le-suc h))

module _ (ss ls gs : List ℕ) (zs : List Float) (rs : List Ring) where
  pub keeps : (n : ℕ) → length (filled ss ls gs zs n rs) ≡ length rs
  keeps zero = refl
  keeps (suc i) = length-set (filled ss ls gs zs i rs) i (record_at ss ls gs zs i) ∙ keeps i

  pub after : (n k : ℕ) → n ≤ k → ring_at (filled ss ls gs zs n rs) k ≡ ring_at rs k
  after zero k h = refl
  after (suc i) k h = get_or-set_other (filled ss ls gs zs i rs) i k (record_at ss ls gs zs i) blank (λ e. lt_irrefl i (subst (λ (m : ℕ). i < m) e h)) ∙ after i k (omega (arith, h))

  pub first : (n k : ℕ) → n ≤ length rs → k < n → ring_at (filled ss ls gs zs n rs) k ≡ record_at ss ls gs zs k
  first zero k f h = absurd (not-suc-le-zero h)
  first (suc i) k f h =
      ⊎_elim
      (λ l. get_or-set_other (filled ss ls gs zs i rs) i k (record_at ss ls gs zs i) blank (λ e. lt_irrefl i (subst (λ (m : ℕ). m < i) e l)) ∙ first i k (omega (arith, f)) l)
      (λ e. subst (λ (m : ℕ). ring_at (filled ss ls gs zs (suc i) rs) m ≡ record_at ss ls gs zs m) (sym e) (get_or-set_same (filled ss ls gs zs i rs) i (record_at ss ls gs zs i) blank (subst (λ (m : ℕ). i < m) (sym (keeps i)) f)))
      (below_next k i h)
