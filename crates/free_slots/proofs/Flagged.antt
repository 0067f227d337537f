-- The search by flags.
--     word_asks, slot-in         the free slot's flag is set: a word has one, and its lowest is no higher than the free slot
--     searched, searched_on      what the search leaves
--     flags_vacated              two slots are free again, and their flags set
-- Assumes nothing.
use mathlib.Core.Path.{◌≡◌, sym, ap, ◌∙◌}
use mathlib.Core.Logic.{◌≢◌, ⊎_elim}
use mathlib.Core.List.{List}
use native.Mathlib.Nat.{pow-suc}
use Prim.Native.Nat.{ℕ, suc, ◌+◌, ◌-◌, ◌*◌, ◌/◌, ◌%◌, ◌≤◌, ◌<◌, ◌^◌}
use native.Mathlib.Omega.{arith}
use lib.Bits.{bit_and, bit_or}
use lib.Count.{count_trailing_zeros, trailing_le}
use lib.ListN.{length, set, length-set}
use lib.Pow.{pow_pos, pow_mono}
use lib.Seq.{get_or-set_same, get_or-set_other}
use Rattle.scope.specs.Lists.{at}
use Rattle.scope.proofs.Tests.{le_or_lt}
use Rattle.scope.proofs.Members.{cases}
use Rattle.free_slots.specs.Search.{free_from, digit_at, Flags, vacated, WordAsks, WordFound, SearchAsks, Searched}
use Rattle.free_slots.proofs.Searching.{First, free_first}
use Rattle.free_slots.proofs.Digits.{zero_none, lowest_low, without_lowest, or_left, or_right, power_digit}

-- ---- the search

-- as many words as a slot below the pool's size needs
pub word_in : {vacant slot_row : List ℕ} → Flags vacant slot_row → (s : ℕ) → s < length slot_row → s / 64 < length vacant
word_in F s h = let r = F.room in omega arith

not_one : (w k : ℕ) → w ≡ 0 → digit_at w k ≢ 1
not_one w k z e = let q : ◌≡◌ {A = ℕ} 0 1 = sym (zero_none k) ∙ ap (λ (n : ℕ). digit_at n k) (sym z) ∙ e in omega arith

-- a slot that is free after a store of a number was free before
free_before : (rows : List ℕ) (s k v : ℕ) → s < length rows → v ≢ 0 → at (set rows s v) k ≡ 0 → (k ≢ s) × (at rows k ≡ 0)
free_before rows s k v h n z = cases k s
    (λ e. absurd (n (sym (ap (at (set rows s v)) e ∙ get_or-set_same rows s v 0 h) ∙ z)))
    (λ d. (d, sym (get_or-set_other rows s k v 0 d) ∙ z))

module _ {slot_row vacant : List ℕ} {start : ℕ} (A : SearchAsks slot_row vacant start) where
  found : First slot_row start (free_from slot_row start)
  found = free_first slot_row start A.cursor

  -- all slots below the one that is found are used
  pub below_used : (k : ℕ) → k < free_from slot_row start → at slot_row k ≢ 0
  below_used k h = ⊎_elim (λ (g : start ≤ k). found.used k g h) (λ (g : k < start). A.packed k g) (le_or_lt start k)

  flagged : digit_at (at vacant (free_from slot_row start / 64)) (free_from slot_row start % 64) ≡ 1
  flagged = A.flags.shown (free_from slot_row start) A.some (found.free A.some)

  has_flag : at vacant (free_from slot_row start / 64) ≢ 0
  has_flag z = not_one (at vacant (free_from slot_row start / 64)) (free_from slot_row start % 64) z flagged

  pub word_asks : WordAsks vacant (start / 64)
  word_asks = record {
    word = free_from slot_row start / 64;
    high = omega (arith, found.high);
    within = word_in A.flags (free_from slot_row start) A.some;
    some = has_flag;
  }

  module _ {place : ℕ} (W : WordFound vacant (start / 64) place) {word bit : ℕ} (w : word ≡ at vacant place) (b : bit ≡ count_trailing_zeros 64 word) where
    place_low : place ≤ free_from slot_row start / 64
    place_low = ⊎_elim
        (λ (h : place ≤ free_from slot_row start / 64). h)
        (λ (h : free_from slot_row start / 64 < place).
        absurd (has_flag (W.none (free_from slot_row start / 64) (omega (arith, found.high)) h)))
        (le_or_lt place (free_from slot_row start / 64))

    -- in the free slot's word no flag stands below its own
    in_word : place ≡ free_from slot_row start / 64 → bit ≤ free_from slot_row start % 64
    in_word e =
        let l = lowest_low 64 word (free_from slot_row start % 64) (omega arith) (ap (λ (n : ℕ). digit_at n (free_from slot_row start % 64)) (w ∙ ap (at vacant) e) ∙ flagged) in
        omega (arith, l, b)

    slot_low : 64 * place + bit ≤ free_from slot_row start
    slot_low = cases place (free_from slot_row start / 64)
        (λ e. omega (arith, in_word e, e))
        (λ d. let l = trailing_le 64 word in omega (arith, place_low, d, l, b))

    pub slot-in : 64 * place + bit < length slot_row
    slot-in = omega (arith, slot_low, A.some)

    pub searched : at slot_row (64 * place + bit) ≡ 0 → {vacant' : List ℕ} → vacant' ≡ set vacant place (bit_and word (word - 1)) → Searched slot_row start (64 * place + bit) vacant'
    searched z e = rw e (record {
      found = ⊎_elim
          (λ (h : free_from slot_row start ≤ 64 * place + bit). omega (arith, h, slot_low))
          (λ (h : 64 * place + bit < free_from slot_row start). absurd (below_used (64 * place + bit) h z))
          (le_or_lt (free_from slot_row start) (64 * place + bit));
      flags = λ v n. record {
        room = rw (length-set slot_row (64 * place + bit) v, length-set) A.flags.room;
        shown = λ s h q.
            let f = free_before slot_row (64 * place + bit) s v slot-in n q in
            let old = A.flags.shown s (rw length-set at h) f.1 in
            cases (s / 64) place
            (λ g. ap (λ (l : ℕ). digit_at (at (set vacant place (bit_and word (word - 1))) l) (s % 64)) g
            ∙ ap (λ (l : ℕ). digit_at l (s % 64)) (get_or-set_same vacant place (bit_and word (word - 1)) 0 W.within)
            ∙ without_lowest 64 word (s % 64) (omega arith) (ap (λ (l : ℕ). digit_at l (s % 64)) (w ∙ ap (at vacant) (sym g)) ∙ old) (λ t. f.0 (omega (arith, t, b, g))))
            (λ d. ap (λ (l : ℕ). digit_at l (s % 64)) (get_or-set_other vacant place (s / 64) (bit_and word (word - 1)) 0 d) ∙ old);
      };
    })

  -- found without the flags, which stay
  pub searched_on : {r : ℕ} → r ≡ free_from slot_row start → Searched slot_row start r vacant
  searched_on {r} e = record {
    found = e;
    flags = λ v n. record {
      room = rw length-set A.flags.room;
      shown = λ s h q. A.flags.shown s (rw length-set at h) (free_before slot_row r s v (omega (arith, e, A.some)) n q).1;
    };
  }

-- ---- slots that are free again

shifted : (k : ℕ) → k < 64 → 1 * 2 ^ k % 18446744073709551616 ≡ 2 ^ k
shifted k h =
    let below : 2 ^ suc k ≤ 18446744073709551616 = pow_mono h in
    let twice = pow-suc 2 k in
    let some = pow_pos k in omega arith

pub vacate_stored : (vacant : List ℕ) (x : ℕ) → set vacant (x / 64) (bit_or (at vacant (x / 64)) (1 * 2 ^ (x % 64) % 18446744073709551616)) ≡ vacated vacant x
unfolding vacated
vacate_stored vacant x = ap (λ (n : ℕ). set vacant (x / 64) (bit_or (at vacant (x / 64)) n)) (shifted (x % 64) (omega arith))

module _ (vacant : List ℕ) (x : ℕ) where
  pub vacated_length : length (vacated vacant x) ≡ length vacant
  unfolding vacated
  vacated_length = simp length-set

  -- no flag is lost, and that of the slot is set
  vacated_old : (s : ℕ) → s / 64 < length vacant → digit_at (at vacant (s / 64)) (s % 64) ≡ 1 → digit_at (at (vacated vacant x) (s / 64)) (s % 64) ≡ 1
  unfolding vacated
  vacated_old s h e = cases (s / 64) (x / 64)
      (λ g. ap (λ (l : ℕ). digit_at (at (set vacant (x / 64) (bit_or (at vacant (x / 64)) (2 ^ (x % 64)))) l) (s % 64)) g
      ∙ ap (λ (l : ℕ). digit_at l (s % 64)) (get_or-set_same vacant (x / 64) (bit_or (at vacant (x / 64)) (2 ^ (x % 64))) 0 (rw g at h))
      ∙ or_left (at vacant (x / 64)) (2 ^ (x % 64)) (s % 64) (ap (λ (l : ℕ). digit_at (at vacant l) (s % 64)) (sym g) ∙ e))
      (λ d. ap (λ (l : ℕ). digit_at l (s % 64)) (get_or-set_other vacant (x / 64) (s / 64) (bit_or (at vacant (x / 64)) (2 ^ (x % 64))) 0 d) ∙ e)

  vacated_own : x / 64 < length vacant → digit_at (at (vacated vacant x) (x / 64)) (x % 64) ≡ 1
  unfolding vacated
  vacated_own h =
      ap (λ (l : ℕ). digit_at l (x % 64)) (get_or-set_same vacant (x / 64) (bit_or (at vacant (x / 64)) (2 ^ (x % 64))) 0 h)
      ∙ or_right (at vacant (x / 64)) (2 ^ (x % 64)) (x % 64) (power_digit (x % 64))

-- A list of slots in which x and y alone may be free anew.
pub flags_vacated : {vacant slot_row : List ℕ} → Flags vacant slot_row → {x y : ℕ} → x < length slot_row → y < length slot_row
    → {slotRow' vacant' : List ℕ} → length slotRow' ≡ length slot_row → ((s : ℕ) → s ≢ x → s ≢ y → at slotRow' s ≡ at slot_row s)
    → vacant' ≡ vacated (vacated vacant x) y → Flags vacant' slotRow'
flags_vacated {vacant} {slot_row} F {x} {y} hx hy long same e = rw e (record {
  room = rw (vacated_length (vacated vacant x) y, vacated_length vacant x, long) F.room;
  shown = λ s h z.
      let s-in = word_in F s (omega (arith, long)) in
      cases s y
      (λ q. rw q (vacated_own (vacated vacant x) y (rw (vacated_length vacant x) (word_in F y hy))))
      (λ ny. vacated_old (vacated vacant x) y s (rw (vacated_length vacant x) s-in)
      (cases s x
      (λ q. rw q (vacated_own vacant x (word_in F x hx)))
      (λ nx. vacated_old vacant x s s-in (F.shown s (omega (arith, long)) (sym (same s nx ny) ∙ z)))));
})
