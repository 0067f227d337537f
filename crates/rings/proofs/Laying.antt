-- Rings laid end to end: the loop that lays one ring, and the loop over all.
-- Assumes nothing.
use Prim.Native.Nat.{ℕ, zero, suc, ◌+◌, ◌-◌, ◌≤◌, ◌<◌}
use mathlib.Core.Path.{◌≡◌, refl, sym, ◌∙◌, ap, ap₂, subst}
use mathlib.Core.Bool.{Bool, true, false, not}
use mathlib.Core.Logic.{◌≢◌}
use mathlib.Core.List.{List, [], ◌∷◌, ◌++◌, append_assoc, append-nil}
use native.Mathlib.Numerals.{add-one}
use native.Mathlib.Omega.{arith}
use borrow.Author.Tests.{eq-eqb, ne_eqb}
use lib.Dec.{eqb}
use lib.ListN.{length, set, take, drop, length-set, length-append, take-append-drop}
use lib.Seq.{take-suc, take-suc-set, drop-set-lt, take-take}
use Rattle.scope.specs.Lists.{at}
use Rattle.scope.specs.Order.{next_row}
use Rattle.scope.proofs.Cycle.{orbit, orbit_last}
use Rattle.ring_sort.specs.Fill.{Filling}
use Rattle.ring_sort.proofs.Fills.{filling_none, filling_next}
use Rattle.ring_sort.proofs.Parts.{drop_more, part_whole}
use Rattle.rings.specs.Links.{OnRing, ring_in, end_to_end}
use Rattle.rings.specs.Laying.{LayReady, Laid, laid_in, LayAllReady, LaidAll}
use Rattle.rings.proofs.Rounds.{turns, turns_period, turns_most, ring_rows, ring_length, Round, round_start, round_low, round_next}
use Rattle.rings.proofs.Counting.{end_last}

-- ---- one ring

pub record LayInv (row_slot slot_row next out₀ : List ℕ) (from r : ℕ) (out : List ℕ) (k x : ℕ) (more : Bool) : Type 0 where
  pub ready : LayReady row_slot slot_row next out₀ from r
  pub round : Round row_slot slot_row next r k x more
  pub wrote : take (from + k) out ≡ take from out₀ ++ orbit (next_row row_slot slot_row next) k r
  pub behind : drop (from + k) out ≡ drop (from + k) out₀
  pub len : length out ≡ length out₀

pub lay_start : {row_slot slot_row next out : List ℕ} {from r : ℕ} → LayReady row_slot slot_row next out from r → LayInv row_slot slot_row next out from r out 0 r true
unfolding orbit
lay_start {out = out} {from = from} R = record {
  ready = R;
  round = round_start R.ring;
  wrote = ap (λ (z : ℕ). take z out) (let z : from + 0 ≡ from = omega arith in z) ∙ sym (append-nil (take from out));
  behind = refl;
  len = refl;
}

module _ {row_slot slot_row next out₀ : List ℕ} {from r : ℕ} {out : List ℕ} {k x : ℕ} {more : Bool} (I : LayInv row_slot slot_row next out₀ from r out k x more) where
  pub lay_room : more ≡ true → (from + k < length out) × (x < 65536)
  lay_room e =
      let a = I.round.goes e in let b = I.ready.room in let c = ring_length I.round.on in let d = I.len in
      let f = round_low I.round in let g = I.round.on.links.few in
      (omega arith, omega arith)

  pub lay_next : more ≡ true → (y : ℕ) → y ≡ next_row row_slot slot_row next x → LayInv row_slot slot_row next out₀ from r (set out (from + k) x) (k + 1) y (not (eqb y r))
  lay_next e y f = record {
    ready = I.ready;
    round = round_next I.round e y f;
    wrote = ap (λ (a : ℕ). take a (set out (from + k) x)) (let z : from + (k + 1) ≡ suc (from + k) = omega arith in z)
        ∙ take-suc-set out (from + k) x (lay_room e).0 ∙ ap (λ (l : List ℕ). l ++ (x ∷ [])) I.wrote
        ∙ append_assoc (take from out₀) (orbit (next_row row_slot slot_row next) k r) (x ∷ [])
        ∙ ap (λ (l : List ℕ). take from out₀ ++ l) (ap (λ (a : ℕ). orbit (next_row row_slot slot_row next) k r ++ (a ∷ [])) I.round.x_is
        ∙ sym (orbit_last (next_row row_slot slot_row next) k r) ∙ ap (λ (a : ℕ). orbit (next_row row_slot slot_row next) a r) (sym (add-one k)));
    behind = drop-set-lt (from + (k + 1)) out (from + k) x (omega arith) ∙ drop_more (from + k) (from + (k + 1)) out out₀ (omega arith) I.behind;
    len = length-set out (from + k) x ∙ I.len;
  }

  pub lay_end : more ≡ false → Laid row_slot slot_row next out₀ from r out k
  lay_end e =
      let k_is : k ≡ turns I.round.on = I.round.ends e in
      let l = ring_length I.round.on in let h = I.ready.room in
      record {
        count = k_is ∙ sym l;
        part = part_whole (omega arith) (omega arith)
            (I.wrote ∙ ap (λ (z : List ℕ). take from out₀ ++ z) (ap (λ (a : ℕ). orbit (next_row row_slot slot_row next) a r) k_is ∙ sym (ring_rows I.round.on)))
            I.behind I.len;
      }

module _ {row_slot slot_row next out₀ : List ℕ} {from r : ℕ} {out : List ℕ} {k x : ℕ} (I : LayInv row_slot slot_row next out₀ from r out k x true)
    {y : ℕ} (f : y ≡ next_row row_slot slot_row next x) where
  -- on to another row, or back at the first
  pub lay_on : y ≢ r → LayInv row_slot slot_row next out₀ from r (set out (from + k) x) (k + 1) y true
  lay_on d = subst (λ (b : Bool). LayInv row_slot slot_row next out₀ from r (set out (from + k) x) (k + 1) y b) (ap not (ne_eqb y r d)) (lay_next I refl y f)

  pub lay_back : y ≡ r → Laid row_slot slot_row next out₀ from r (set out (from + k) x) (k + 1)
  lay_back q = lay_end (lay_next I refl y f) (ap not (eq-eqb y r q))

-- ---- all rings

-- with one ring more
pub laid_next : (row_slot slot_row next rows : List ℕ) (i : ℕ) → i < length rows → laid_in row_slot slot_row next rows (i + 1) ≡ laid_in row_slot slot_row next rows i ++ ring_in row_slot slot_row next (at rows i)
laid_next row_slot slot_row next rows i h =
    ap (λ (z : ℕ). laid_in row_slot slot_row next rows z) (add-one i) ∙ ap (end_to_end (ring_in row_slot slot_row next)) (take-suc rows i 0 h)
    ∙ end_last (ring_in row_slot slot_row next) (take i rows) (at rows i)

pub laid_count : (row_slot slot_row next rows : List ℕ) (i : ℕ) → i < length rows
    → length (laid_in row_slot slot_row next rows (i + 1)) ≡ length (laid_in row_slot slot_row next rows i) + length (ring_in row_slot slot_row next (at rows i))
laid_count row_slot slot_row next rows i h = ap length (laid_next row_slot slot_row next rows i h) ∙ length-append (laid_in row_slot slot_row next rows i) (ring_in row_slot slot_row next (at rows i))

-- where a ring ends is no further than where the last one ends
pub laid_most : (row_slot slot_row next rows : List ℕ) (i d : ℕ) → i + d ≤ length rows → length (laid_in row_slot slot_row next rows i) ≤ length (laid_in row_slot slot_row next rows (i + d))
laid_most row_slot slot_row next rows i zero h = rw (let z : i + 0 ≡ i = omega arith in z) (let z = length (laid_in row_slot slot_row next rows i) in omega arith)
laid_most row_slot slot_row next rows i (suc d) h = rw (let z : i + suc d ≡ i + d + 1 = omega arith in z)
    (let a = laid_most row_slot slot_row next rows i d (omega arith) in let b = laid_count row_slot slot_row next rows (i + d) (omega arith) in omega arith)

pub ring_ends : (row_slot slot_row next rows : List ℕ) (i n : ℕ) → i < n → n ≤ length rows
    → length (laid_in row_slot slot_row next rows i) + length (ring_in row_slot slot_row next (at rows i)) ≤ length (laid_in row_slot slot_row next rows n)
ring_ends row_slot slot_row next rows i n h k =
    let a = laid_count row_slot slot_row next rows i (omega arith) in
    let b = laid_most row_slot slot_row next rows (i + 1) (n - (i + 1)) (omega arith) in
    let c : length (laid_in row_slot slot_row next rows (i + 1 + (n - (i + 1)))) ≡ length (laid_in row_slot slot_row next rows n) =
    ap (λ (z : ℕ). length (laid_in row_slot slot_row next rows z)) (let z : i + 1 + (n - (i + 1)) ≡ n = omega arith in z) in
    omega arith

pub record LayAllInv (row_slot slot_row next rows : List ℕ) (n : ℕ) (edges₀ start₀ size₀ edges start size : List ℕ) (i k : ℕ) : Type 0 where
  pub ready : LayAllReady row_slot slot_row next rows n edges₀ start₀ size₀
  pub most : i ≤ n
  pub count : k ≡ length (laid_in row_slot slot_row next rows i)
  pub wrote : take k edges ≡ laid_in row_slot slot_row next rows i
  pub behind : drop k edges ≡ drop k edges₀
  pub len : length edges ≡ length edges₀
  pub starts : Filling 0 (λ i. length (laid_in row_slot slot_row next rows i)) start₀ start i
  pub sizes : Filling 0 (λ i. length (ring_in row_slot slot_row next (at rows i))) size₀ size i

pub all_start : {row_slot slot_row next rows : List ℕ} {n : ℕ} {edges start size : List ℕ} → LayAllReady row_slot slot_row next rows n edges start size
    → LayAllInv row_slot slot_row next rows n edges start size edges start size 0 0
unfolding end_to_end
all_start {start = start} {size = size} R = record {
  ready = R;
  most = omega arith;
  count = refl;
  wrote = refl;
  behind = refl;
  len = refl;
  starts = filling_none start;
  sizes = filling_none size;
}

module _ {row_slot slot_row next rows : List ℕ} {n : ℕ} {edges₀ start₀ size₀ edges start size : List ℕ} {i k : ℕ}
    (I : LayAllInv row_slot slot_row next rows n edges₀ start₀ size₀ edges start size i k) (h : i < n) where
  fits : k + length (ring_in row_slot slot_row next (at rows i)) ≤ length (laid_in row_slot slot_row next rows n)
  fits = let a = ring_ends row_slot slot_row next rows i n h I.ready.rows_in in let b = I.count in omega arith

  pub all_in : (i < length rows) × (i < length start) × (i < length size)
  all_in =
      let a = I.ready.rows_in in let b = I.ready.start_room in let c = I.ready.size_room in let d = I.starts.len in let e = I.sizes.len in
      (omega arith, omega arith, omega arith)

  ring_on : OnRing row_slot slot_row next (at rows i)
  ring_on = record { links = I.ready.links; stands = I.ready.stand i h }

  pub all_lay : {r : ℕ} → r ≡ at rows i → LayReady row_slot slot_row next edges k r
  all_lay e = rw e (record { ring = ring_on; room = let a = fits in let b = I.ready.room in let c = I.len in omega arith })

  module _ {r : ℕ} (e : r ≡ at rows i) {edges' : List ℕ} {c : ℕ} (L : Laid row_slot slot_row next edges k r edges' c) where
    c_is : c ≡ length (ring_in row_slot slot_row next (at rows i))
    c_is = L.count ∙ ap (λ (z : ℕ). length (ring_in row_slot slot_row next z)) e

    pub all_few : (k < 4294967296) × (c < 4294967296) × (k + c ≤ 4294967296)
    all_few =
        let a = c_is in let b = fits in let f = I.ready.few in
        let l = ring_length ring_on in let t = turns_most ring_on in let g = I.ready.links.few in let s = (turns_period ring_on).some in
        (omega arith, omega arith, omega arith)

    pub all_next : {x y : ℕ} → x ≡ k → y ≡ c → LayAllInv row_slot slot_row next rows n edges₀ start₀ size₀ edges' (set start i x) (set size i y) (i + 1) (k + c)
    all_next {x} {y} ex ey = record {
      ready = I.ready;
      most = omega arith;
      count = let a = I.count in let b = c_is in let d = laid_count row_slot slot_row next rows i all_in.0 in omega arith;
      wrote = sym (take-append-drop k (take (k + c) edges'))
          ∙ ap₂ (λ (a b : List ℕ). a ++ b) (take-take k (k + c) edges' (omega arith) ∙ L.part.front ∙ I.wrote) (L.part.part ∙ ap (ring_in row_slot slot_row next) e)
          ∙ sym (laid_next row_slot slot_row next rows i all_in.0);
      behind = L.part.back ∙ drop_more k (k + c) edges edges₀ (omega arith) I.behind;
      len = L.part.len ∙ I.len;
      starts = filling_next I.starts all_in.1 x (ex ∙ I.count);
      sizes = filling_next I.sizes all_in.2 y (ey ∙ c_is);
    }

pub all_end : {row_slot slot_row next rows : List ℕ} {n : ℕ} {edges₀ start₀ size₀ edges start size : List ℕ} {i k : ℕ}
    → LayAllInv row_slot slot_row next rows n edges₀ start₀ size₀ edges start size i k → n ≤ i → LaidAll row_slot slot_row next rows n edges₀ start₀ size₀ edges start size
all_end {row_slot} {slot_row} {next} {rows} {n} {edges₀} {start₀} {size₀} {edges} {start} {size} {i} {k} I h =
    let all : i ≡ n = (let a = I.most in omega arith) in
    let k_is : k ≡ length (laid_in row_slot slot_row next rows n) = I.count ∙ ap (λ (z : ℕ). length (laid_in row_slot slot_row next rows z)) all in
    record {
      wrote = ap (λ (z : ℕ). take z edges) (sym k_is) ∙ I.wrote ∙ ap (laid_in row_slot slot_row next rows) all;
      behind = subst (λ (z : ℕ). drop z edges ≡ drop z edges₀) k_is I.behind;
      len = I.len;
      starts = subst (λ (z : ℕ). Filling 0 (λ i. length (laid_in row_slot slot_row next rows i)) start₀ start z) all I.starts;
      sizes = subst (λ (z : ℕ). Filling 0 (λ i. length (ring_in row_slot slot_row next (at rows i))) size₀ size z) all I.sizes;
    }
