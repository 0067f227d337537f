-- DEMAND 3 ON BYTES: the state that a call of zone_standing leaves, read back from its bytes, is the one that the call leaves in the memory that
-- the bytes held; so runs on bytes are runs in memory, and from an accepted opening on the bytes show the accepted cells.
--     ByteState state     as many bytes as the capacities say, whose places fit their widths; `bytes_state`: any bytes of that length are
--     call_of              the call that a call number and its value stand for; one that is no call leaves what reading out leaves
--     standing_left       THE STATE A CALL LEAVES
--     standings, standings_run     a run of calls on bytes
--     bytes_show          THE DEMAND
-- Assumes nothing.
use mathlib.Core.Path.{◌≡◌, refl, sym, ◌∙◌, ap, subst}
use mathlib.Core.Bool.{Bool, true, false, cond}
use mathlib.Core.List.{List, [], ◌∷◌, map}
use Prim.Native.Nat.{ℕ, ◌^◌}
use lib.Dec.{eqb}
use lib.ListN.{length}
use borrow.Author.Tests.{eq-eqb}
use Rattle.scope.specs.Answers.{Verdict}
use Rattle.std.specs.Prelude.{Err, Ok}
use Rattle.scope.specs.Table.{Table, row_count}
use Rattle.scope.specs.Memory.{Memory, opened}
use Rattle.scope.specs.Memory as Memory
use Rattle.scope.specs.Pool.{taking}
use Rattle.scope.specs.Calls.{outcome, open_verdict, opening, offer_verdict, offering, reading_out}
use Rattle.scope.specs.Demands.{Call, opens, offers, reads_out, leaves, accepted, run, Shows}
use Rattle.scope.specs.Bytes.{rows_in, table_in, state_in, state_size, table_fits, room_fits, cleared_output, Left, refused, storing, showing, calling, zone_standing}
use Rattle.scope.proofs.Tests.{and_both}
use Rattle.scope.proofs.Below.{tabulate_length}
use Rattle.scope.proofs.Sound.{Sound, offered}
use Rattle.scope.proofs.Taking.{taken_room}
use Rattle.scope.proofs.TakingRules.{pool_same, taken_sound}
use Rattle.scope.proofs.Run.{read_leaves}
use Rattle.scope.proofs.Dissolving.{open_shown, opened_places, opened_slots}
use Rattle.scope.proofs.Begun.{begun_shown}
use Rattle.scope.proofs.RoundTrip.{Stored, state_long, state_back}
use Rattle.scope.proofs.ByteStates.{Low, PlacesLow, sound_stored, opened_low, taken_low, read_low}

-- one call: the bytes lent for the answer, the call's number and its value
pub record ByteCall : Type 0 where
  pub out : List ℕ
  pub call : ℕ
  pub value : ℕ

module _ (tableBytes : List ℕ) (slots places : ℕ) where
  abbrev t : Table
  t = table_in tableBytes

  abbrev rows : ℕ
  rows = rows_in tableBytes

  abbrev held : List ℕ → Memory
  held state = state_in rows slots places state

  pub record ByteState (state : List ℕ) : Type 0 where
    pub long : length state ≡ state_size rows slots places
    pub low : PlacesLow (held state)

  pub bytes_state : (state : List ℕ) → length state ≡ state_size rows slots places → Low (2 ^ 8) state → ByteState state
  bytes_state state e b = record { long = e; low = read_low state b rows slots places }

  row_count_lem : row_count t ≡ rows
  unfolding table_in
  row_count_lem = tabulate_length _ 0 rows

  slots_are : (state : List ℕ) → Memory.slots (held state) ≡ slots
  unfolding state_in
  slots_are state = tabulate_length _ 0 slots

  places_are : (state : List ℕ) → Memory.places (held state) ≡ places
  unfolding state_in
  places_are state = tabulate_length _ 0 places

  -- what a call leaves of a state of these capacities
  pub record Leaves (m : Memory) : Type 0 where
    pub sound : Sound t m
    pub low : PlacesLow m
    pub slot_count : Memory.slots m ≡ slots
    pub place_count : Memory.places m ≡ places

  stored : {m : Memory} → Leaves m → Stored rows slots places m
  stored {m} K =
      subst (λ (r : ℕ). Stored r slots places m) row_count_lem
      (subst (λ (s : ℕ). Stored (row_count t) s places m) K.slot_count
      (subst (λ (p : ℕ). Stored (row_count t) (Memory.slots m) p m) K.place_count (sound_stored K.sound K.low)))

  -- ---- one call

  store : (v : Verdict) (after : Memory) (state out : List ℕ) → ByteState state → (v ≡ Ok tt → Leaves after)
      → (held (storing (outcome v after (held state)) state out).state ≡ (outcome v after (held state)).left)
      × ByteState (storing (outcome v after (held state)) state out).state
  unfolding storing
  store (Ok tt) after state out B f =
      let S = stored (f refl) in
      (state_back S, record { long = state_long S; low = subst PlacesLow (sym (state_back S)) (f refl).low })
  store (Err why) after state out B f = (refl, B)

  unfoldable pub call_of : ℕ → ℕ → Call
  call_of call value = cond (eqb call 0) (opens value) (cond (eqb call 1) (offers value) (reads_out (cleared_output (row_count t))))

  module _ (state out : List ℕ) (call value : ℕ) (B : ByteState state) where
    abbrev m : Memory
    m = held state

    opens_left : open_verdict t m value ≡ Ok tt → Leaves (opened value m)
    opens_left e = record {
      sound = (open_shown t m value e).sound;
      low = opened_low value m;
      slot_count = opened_slots m value ∙ slots_are state;
      place_count = opened_places m value ∙ places_are state;
    }

    offers_left : offer_verdict t m value ≡ Ok tt → Leaves (taking t m value)
    offers_left e =
        let O = offered t m value e in
        record {
          sound = taken_sound O;
          low = taken_low O B.low;
          slot_count = pool_same O ∙ slots_are state;
          place_count = taken_room O ∙ places_are state;
        }

    -- the state after a call, as the call's number says
    called : (held (calling t m state out call value).state ≡ leaves t (call_of call value) m) × ByteState (calling t m state out call value).state
    unfolding calling call_of leaves opening offering showing
    called = go (eqb call 0) (eqb call 1) (eqb call 2)
      where
        done : Bool → Bool → Bool → Left
        done a b c = cond a (storing (opening t m value) state out) (cond b (storing (offering t m value) state out)
            (cond c (showing (reading_out t m (cleared_output (row_count t))) state out) (refused state out)))

        go : (a b c : Bool) → (held (done a b c).state ≡ leaves t (cond a (opens value) (cond b (offers value) (reads_out (cleared_output (row_count t))))) m)
            × ByteState (done a b c).state
        go true b c = store (open_verdict t m value) (opened value m) state out B opens_left
        go false true c = store (offer_verdict t m value) (taking t m value) state out B offers_left
        go false false true = (sym (read_leaves t m (cleared_output (row_count t))), B)
        go false false false = (sym (read_leaves t m (cleared_output (row_count t))), B)

    -- THE STATE A CALL LEAVES
    pub standing_left : table_fits tableBytes ≡ true → room_fits slots places ≡ true
        → (held (zone_standing tableBytes state out slots places call value).state ≡ leaves t (call_of call value) (held state))
        × ByteState (zone_standing tableBytes state out slots places call value).state
    unfolding zone_standing
    standing_left f r = rw (and_both _ _ (and_both _ _ f r) (eq-eqb (length state) (state_size rows slots places) B.long)) called

  -- ---- runs of calls

  unfoldable pub standings : List ByteCall → List ℕ → List ℕ
  standings [] state = state
  standings (c ∷ cs) state = standings cs (zone_standing tableBytes state c.out slots places c.call c.value).state

  abbrev pub calls_of : List ByteCall → List Call
  calls_of cs = map (λ c. call_of c.call c.value) cs

  module _ (f : table_fits tableBytes ≡ true) (r : room_fits slots places ≡ true) where
    pub standings_run : (cs : List ByteCall) (state ds : List ℕ) → ByteState state
        → held (standings cs state) ≡ (run t (calls_of cs) (record { memory = held state; cells = ds })).memory
    unfolding standings run
    standings_run [] state ds B = refl
    standings_run (c ∷ cs) state ds B =
        let k = standing_left state c.out c.call c.value B f r in
        let es = accepted t (call_of c.call c.value) (held state) ds in
        standings_run cs _ es k.1 ∙ ap (λ (m : Memory). (run t (calls_of cs) (record { memory = m; cells = es })).memory) k.0

    -- THE DEMAND
    pub bytes_show : (cs : List ByteCall) (state out ds : List ℕ) (mode : ℕ) → ByteState state → open_verdict t (held state) mode ≡ Ok tt
        → Shows t (held (standings (record { out = out; call = 0; value = mode } ∷ cs) state))
        (run t (opens mode ∷ calls_of cs) (record { memory = held state; cells = ds })).cells
    unfolding call_of
    bytes_show cs state out ds mode B e =
        subst (λ (m : Memory). Shows t m (run t (opens mode ∷ calls_of cs) (record { memory = held state; cells = ds })).cells)
        (sym (standings_run (record { out = out; call = 0; value = mode } ∷ cs) state ds B))
        (begun_shown t (opens mode) (calls_of cs) (record { memory = held state; cells = ds }) e).shows
