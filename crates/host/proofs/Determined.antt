-- Each export's promise determines its result and every lent slice: any two outcomes that it allows are equal.
--     zo_open_determined, zo_offer_determined, zo_read_out_determined, zo_dissolve_determined
-- The exports on bytes promise what `byte_calls` says, which has the laws.
-- Assumes nothing.
use Prim.Native.Nat.{ℕ}
use mathlib.Core.Path.{◌≡◌, sym, ◌∙◌, ap}
use mathlib.Core.List.{List}
use Rattle.scope.specs.Table.{Table}
use Rattle.scope.specs.Memory.{Memory, Output}
use Rattle.scope.specs.Calls.{opening, offering}
use Rattle.host.specs.Full.{Called, called, Told, reading_told, dissolving_told, CallsOpen, CallsOffer, TellsReadOut, TellsDissolve}

calls : (o : Called) {r s : ℕ} {m n : Memory} → record { result = r; left = m } ≡ o → record { result = s; left = n } ≡ o → (r ≡ s) × (m ≡ n)
calls o p q = let e = p ∙ sym q in (ap (λ (x : Called). x.result) e, ap (λ (x : Called). x.left) e)

tellings : (o : Told) {r s : ℕ} {m n : Memory} {k l : Output} {a b : List ℕ} → record { result = r; left = m; out = k; summary = a } ≡ o
    → record { result = s; left = n; out = l; summary = b } ≡ o → (r ≡ s) × (m ≡ n) × (k ≡ l) × (a ≡ b)
tellings o p q =
    let e = p ∙ sym q in
    (ap (λ (x : Told). x.result) e, ap (λ (x : Told). x.left) e, ap (λ (x : Told). x.out) e, ap (λ (x : Told). x.summary) e)

module _ (t : Table) (m : Memory) where
  pub zo_open_determined : (mode : ℕ) {r r' : ℕ} {m' m'' : Memory} → CallsOpen t m mode r m' → CallsOpen t m mode r' m'' → (r ≡ r') × (m' ≡ m'')
  zo_open_determined mode = calls (called (opening t m mode))

  pub zo_offer_determined : (cell : ℕ) {r r' : ℕ} {m' m'' : Memory} → CallsOffer t m cell r m' → CallsOffer t m cell r' m'' → (r ≡ r') × (m' ≡ m'')
  zo_offer_determined cell = calls (called (offering t m cell))

  pub zo_read_out_determined : (o : Output) (summary : List ℕ) {r r' : ℕ} {m' m'' : Memory} {o' o'' : Output} {s' s'' : List ℕ}
      → TellsReadOut t m o summary r m' o' s' → TellsReadOut t m o summary r' m'' o'' s'' → (r ≡ r') × (m' ≡ m'') × (o' ≡ o'') × (s' ≡ s'')
  zo_read_out_determined o summary = tellings (reading_told t m o summary)

  pub zo_dissolve_determined : (mode : ℕ) (cs : List ℕ) (o : Output) (summary : List ℕ) {r r' : ℕ} {m' m'' : Memory} {o' o'' : Output} {s' s'' : List ℕ}
      → TellsDissolve t m mode cs o summary r m' o' s' → TellsDissolve t m mode cs o summary r' m'' o'' s'' → (r ≡ r') × (m' ≡ m'') × (o' ≡ o'') × (s' ≡ s'')
  zo_dissolve_determined mode cs o summary = tellings (dissolving_told t m mode cs o summary)
