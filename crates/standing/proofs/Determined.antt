-- Each call's promise determines its answer and every lent slice: any two outcomes that it allows are equal.
--     open_determined, offer_determined, read_out_determined
--     readings          so of any equation of a reading, dissolve's too
-- Assumes nothing.
use mathlib.Core.Path.{◌≡◌, sym, ◌∙◌, ap}
use Prim.Native.Nat.{ℕ}
use Rattle.scope.specs.Answers.{Answer, Verdict}
use Rattle.scope.specs.Table.{Table}
use Rattle.scope.specs.Memory.{Memory, Output}
use Rattle.scope.specs.Calls.{Outcome, opening, offering, Reading, reading_out}
use Rattle.standing.specs.Promises.{Opens, Offers, ReadsOut}

outcomes : (o : Outcome) {r r' : Verdict} {m m' : Memory} → record { answer = r; left = m } ≡ o → record { answer = r'; left = m' } ≡ o → (r ≡ r') × (m ≡ m')
outcomes o p q = let e = p ∙ sym q in (ap (λ (x : Outcome). x.answer) e, ap (λ (x : Outcome). x.left) e)

pub readings : (o : Reading) {r r' : Answer} {m m' : Memory} {k l : Output} → record { answer = r; left = m; out = k } ≡ o → record { answer = r'; left = m'; out = l } ≡ o
    → (r ≡ r') × (m ≡ m') × (k ≡ l)
readings o p q = let e = p ∙ sym q in (ap (λ (x : Reading). x.answer) e, ap (λ (x : Reading). x.left) e, ap (λ (x : Reading). x.out) e)

module _ (t : Table) (m : Memory) where
  pub open_determined : (mode : ℕ) {r r' : Verdict} {m' m'' : Memory} → Opens t m mode r m' → Opens t m mode r' m'' → (r ≡ r') × (m' ≡ m'')
  open_determined mode = outcomes (opening t m mode)

  pub offer_determined : (cell : ℕ) {r r' : Verdict} {m' m'' : Memory} → Offers t m cell r m' → Offers t m cell r' m'' → (r ≡ r') × (m' ≡ m'')
  offer_determined cell = outcomes (offering t m cell)

  pub read_out_determined : (o : Output) {r r' : Answer} {m' m'' : Memory} {o' o'' : Output} → ReadsOut t m o r m' o' → ReadsOut t m o r' m'' o''
      → (r ≡ r') × (m' ≡ m'') × (o' ≡ o'')
  read_out_determined o = readings (reading_out t m o)
