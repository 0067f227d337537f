-- Rings laid out with their areas: what stands in the places of a ring is the ring.
-- Assumes nothing.
use Prim.Native.Nat.{ℕ, ◌+◌, ◌≤◌, ◌<◌}
use mathlib.Core.Path.{◌≡◌, sym, ◌∙◌, ap, subst}
use mathlib.Core.List.{List, ◌++◌}
use native.Mathlib.Omega.{arith}
use lib.Ieee.{Float, nan}
use lib.ListN.{length, take, drop, take-append-drop}
use lib.Seq.{slice, take-take, take_at, drop_at}
use Rattle.scope.specs.Lists.{at}
use Rattle.scope.specs.Area.{area_of}
use Rattle.scope.specs.Order.{next_row}
use Rattle.scope.proofs.Rules.{zero_not}
use Rattle.scope.proofs.Cycle.{iter, iter_in, orbit_at}
use Rattle.ring_sort.specs.Fill.{Filling}
use Rattle.ring_sort.proofs.Fills.{filling_as}
use Rattle.rings.specs.Links.{OnRing, ring_in, end_to_end}
use Rattle.rings.specs.Laying.{laid_in, LayAllReady, LaidAll, terms_of, AreaReady, area_laid, AreasReady, OutReady, LaidOut}
use Rattle.rings.proofs.Rounds.{links_permute, turns, ring_rows, ring_length}
use Rattle.rings.proofs.Counting.{end_append}
use Rattle.rings.proofs.Laying.{laid_next, laid_count, ring_ends}

-- a row of a ring is a row
row_low : {row_slot slot_row next : List ℕ} {r : ℕ} → OnRing row_slot slot_row next r → (k : ℕ) → k < length (ring_in row_slot slot_row next r) → at (ring_in row_slot slot_row next r) k < length row_slot
row_low {row_slot} {slot_row} {next} {r} O k h =
    let l = ring_length O in
    subst (λ (a : ℕ). a < length row_slot)
    (sym (ap (λ (z : List ℕ). at z k) (ring_rows O) ∙ orbit_at (next_row row_slot slot_row next) (turns O) r k (omega arith)))
    ((links_permute O.links).small (iter (next_row row_slot slot_row next) k r) (iter_in (links_permute O.links) k r (zero_not (at row_slot r) O.stands)))

module _ {row_slot slot_row next rows : List ℕ} {n : ℕ} {edges start size edges' start' size' : List ℕ}
    (R : LayAllReady row_slot slot_row next rows n edges start size) (L : LaidAll row_slot slot_row next rows n edges start size edges' start' size') (i : ℕ) (h : i < n) where
  from_i : at start' i ≡ length (laid_in row_slot slot_row next rows i)
  from_i = L.starts.wrote i h

  size_i : at size' i ≡ length (ring_in row_slot slot_row next (at rows i))
  size_i = L.sizes.wrote i h

  to_i : at start' i + at size' i ≡ length (laid_in row_slot slot_row next rows (i + 1))
  to_i = let a = from_i in let b = size_i in let r = R.rows_in in let c = laid_count row_slot slot_row next rows i (omega arith) in omega arith

  to_most : at start' i + at size' i ≤ length (laid_in row_slot slot_row next rows n)
  to_most = let a = ring_ends row_slot slot_row next rows i n h R.rows_in in let b = from_i in let c = size_i in omega arith

  -- the rings up to this one come first
  laid_front : take (at start' i + at size' i) (laid_in row_slot slot_row next rows n) ≡ laid_in row_slot slot_row next rows (i + 1)
  laid_front =
      ap (take (at start' i + at size' i)) (
      ap (end_to_end (ring_in row_slot slot_row next)) (sym (take-append-drop (i + 1) (take n rows))
      ∙ ap (λ (z : List ℕ). z ++ drop (i + 1) (take n rows)) (take-take (i + 1) n rows (omega arith)))
      ∙ end_append (ring_in row_slot slot_row next) (take (i + 1) rows) (drop (i + 1) (take n rows)))
      ∙ take_at (laid_in row_slot slot_row next rows (i + 1)) (end_to_end (ring_in row_slot slot_row next) (drop (i + 1) (take n rows))) (at start' i + at size' i) (sym to_i)

  pub ring_laid : slice (at start' i) (at start' i + at size' i) edges' ≡ ring_in row_slot slot_row next (at rows i)
  ring_laid =
      ap (drop (at start' i)) (
      sym (take-take (at start' i + at size' i) (length (laid_in row_slot slot_row next rows n)) edges' to_most)
      ∙ ap (take (at start' i + at size' i)) L.wrote ∙ laid_front ∙ laid_next row_slot slot_row next rows i (let r = R.rows_in in omega arith))
      ∙ drop_at (laid_in row_slot slot_row next rows i) (ring_in row_slot slot_row next (at rows i)) (at start' i) (sym from_i)

  pub area_ready : {terms : List Float} → length terms ≡ length row_slot → AreaReady terms edges' (at start' i) (at start' i + at size' i)
  area_ready {terms} t = record {
    from_to = omega arith;
    to_in = let a = to_most in let b = R.room in let c = L.len in omega arith;
    rows_in = rw (ring_laid, t) (row_low (record { links = R.links; stands = R.stand i h }));
  }

module _ {row_slot slot_row next : List ℕ} {terms : List Float} {rows : List ℕ} {n : ℕ} {edges start size : List ℕ} {area : List Float}
    (R : OutReady row_slot slot_row next terms rows n edges start size area) {edges' start' size' : List ℕ} (L : LaidAll row_slot slot_row next rows n edges start size edges' start' size') where
  pub out_areas : AreasReady terms edges' start' size' area n
  out_areas = record {
    starts = let a = R.lay.start_room in let b = L.starts.len in omega arith;
    sizes = let a = R.lay.size_room in let b = L.sizes.len in omega arith;
    room = R.area_room;
    ready = λ i h. area_ready R.lay L i h R.term_count;
  }

  pub out_end : {area' : List Float} → Filling nan (area_laid terms edges' start' size') area area' n → LaidOut row_slot slot_row next terms rows n edges start size area edges' start' size' area'
  out_end F = record { laid = L; areas = filling_as (λ i h. ap (λ (l : List ℕ). area_of (terms_of terms l)) (ring_laid R.lay L i h)) F }
