-- Accepted offers and replays are together no more than the cells of the feed.
--     points_low     so their sum is a number of 64 bits
-- Assumes nothing.
use Prim.Native.Nat.{ℕ, ◌≤◌, ◌<◌, ◌^◌}
use mathlib.Core.Path.{◌≡◌, refl, sym, subst}
use mathlib.Core.List.{List, [], ◌∷◌}
use native.Mathlib.Omega.{arith}
use lib.ListN.{length}
use Rattle.std.specs.Prelude.{Err, Ok}
use Rattle.scope.specs.Answers.{if_accepted, Verdict}
use Rattle.scope.specs.Table.{Table}
use Rattle.scope.specs.Memory.{Memory, Output}
use Rattle.scope.specs.Calls.{offering, opening}
use Rattle.audit.specs.Feed.{verdicts, feeding, tally, points_unchecked}
use Rattle.audit.proofs.Tally.{tally_at, counts_most}
use Rattle.full_size.specs.Drawing.{full_memory}
use Rattle.feed_audit.specs.Audit.{beginning, reading_fed, standing, Audit, auditing}

verdicts_many : (t : Table) (m : Memory) (xs : List ℕ) → length (verdicts t m xs) ≡ length xs
unfolding verdicts
verdicts_many t m [] = refl
verdicts_many t m (x ∷ xs) = let e = verdicts_many t (offering t m x).left xs in omega arith

offered_few : (v : Verdict) (xs : List ℕ) → length (if_accepted v xs []) ≤ length xs
offered_few (Ok done) xs = omega arith
offered_few (Err why) xs = omega arith

feed_few : (t : Table) (m : Memory) (xs : List ℕ) → points_unchecked (tally (verdicts t m xs)) ≤ length xs
feed_few t m xs =
    let most = counts_most 0 3 (λ (q : 0 ≡ 3). omega arith) (verdicts t m xs) in
    let many = verdicts_many t m xs in
    rw (tally_at (verdicts t m xs) 0 (omega arith), tally_at (verdicts t m xs) 3 (omega arith)) (omega arith)

points_few : (t : Table) (m : Memory) (xs : List ℕ) → points_unchecked (beginning t m xs).fed.counts ≤ length xs
unfolding beginning feeding
points_few t m xs =
    let b = opening t m 2 in
    let f = feed_few t b.left (if_accepted b.answer xs []) in
    let g = offered_few b.answer xs in
    omega (arith, f, g)

audit_few : (t : Table) (xs : List ℕ) (o p : Output) → points_unchecked (auditing t xs o p).counts ≤ length xs
unfolding auditing standing reading_fed
audit_few t xs o p = points_few t (full_memory t) xs

pub points_low : (t : Table) (xs : List ℕ) (o p : Output) {a : Audit} → a ≡ auditing t xs o p → length xs ≤ 65536 → points_unchecked a.counts < 2 ^ 64
points_low t xs o p e h = let f = audit_few t xs o p in subst (λ (k : Audit). points_unchecked k.counts < 2 ^ 64) (sym e) (omega arith)
