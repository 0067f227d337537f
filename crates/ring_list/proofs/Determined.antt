-- The promises over records determine the answer and every lent slice: any two outcomes that they allow are equal.
--     rings_read_determined, rings_dissolve_determined
-- Assumes nothing.
use Prim.Native.Nat.{ℕ}
use mathlib.Core.Path.{◌≡◌, sym, ◌∙◌, ap}
use mathlib.Core.List.{List}
use Rattle.scope.specs.Answers.{Answer}
use Rattle.scope.specs.Table.{Table}
use Rattle.scope.specs.Memory.{Memory, Output}
use Rattle.ring_records.specs.declared.Ring.{Ring}
use Rattle.ring_list.specs.Listing.{Listing, reading_rings, dissolving_rings, ReadsRings, DissolvesRings}

listings : (l : Listing) {r r' : Answer} {m m' : Memory} {o o' : Output} {s s' : List Ring} → record { reading = record { answer = r; left = m; out = o }; rings = s } ≡ l
    → record { reading = record { answer = r'; left = m'; out = o' }; rings = s' } ≡ l → (r ≡ r') × (m ≡ m') × (o ≡ o') × (s ≡ s')
listings l p q =
    let e = p ∙ sym q in
    (ap (λ (x : Listing). x.reading.answer) e, ap (λ (x : Listing). x.reading.left) e, ap (λ (x : Listing). x.reading.out) e, ap (λ (x : Listing). x.rings) e)

module _ (t : Table) (m : Memory) where
  pub rings_read_determined : (o : Output) (rings : List Ring) {r r' : Answer} {m' m'' : Memory} {o' o'' : Output} {s' s'' : List Ring}
      → ReadsRings t m o rings r m' o' s' → ReadsRings t m o rings r' m'' o'' s'' → (r ≡ r') × (m' ≡ m'') × (o' ≡ o'') × (s' ≡ s'')
  rings_read_determined o rings = listings (reading_rings t m o rings)

  pub rings_dissolve_determined : (mode : ℕ) (cs : List ℕ) (o : Output) (rings : List Ring) {r r' : Answer} {m' m'' : Memory} {o' o'' : Output} {s' s'' : List Ring}
      → DissolvesRings t m mode cs o rings r m' o' s' → DissolvesRings t m mode cs o rings r' m'' o'' s'' → (r ≡ r') × (m' ≡ m'') × (o' ≡ o'') × (s' ≡ s'')
  rings_dissolve_determined mode cs o rings = listings (dissolving_rings t m mode cs o rings)
