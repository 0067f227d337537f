-- The entry points on bytes by the test of their limits.
--     dissolve_within, standing_within     passed, the bytes are within the limits
--     dissolves, stands                    and the entry point is the call on what is decoded
--     dissolve_refused, standing_refused   failed, it is refusal 10
-- Assumes nothing.
use Prim.Native.Nat.{ℕ, ◌%◌, ◌≤◌}
use mathlib.Core.Path.{◌≡◌, sym, ◌∙◌, ap}
use mathlib.Core.Bool.{Bool, true, false, ◌&&◌, cond}
use mathlib.Core.List.{List, []}
use lib.Dec.{eqb, leb}
use lib.ListN.{length}
use borrow.Author.Tests.{eqb-true, leb-true}
use Rattle.std.specs.Prelude.{Err}
use Rattle.scope.specs.declared.Refusal.TheVariants.{BadLengths}
use Rattle.scope.specs.Table.{row_count}
use Rattle.scope.specs.Calls.{dissolving}
use Rattle.scope.specs.Bytes.{Left, refused, result_of, rows_in, table_in, cells_in, state_in, state_size, cleared, cleared_output, showing, calling, table_fits, list_fits, room_fits, zone_dissolving, zone_standing}
use Rattle.scope.proofs.Tests.{and_left, and_right}
use Rattle.byte_limits.proofs.Rooms.{table_rows}
use Rattle.byte_limits.specs.Within.{DissolveWithin, StandingWithin}

rows_fit : (tableBytes : List ℕ) → table_fits tableBytes ≡ true → rows_in tableBytes ≤ 1024
rows_fit tableBytes e = leb-true _ _ (and_right (eqb (length tableBytes % 20) 0) _ e)

slots_fit : (slots places : ℕ) → room_fits slots places ≡ true → slots ≤ 1024
slots_fit slots places e = leb-true _ _ (and_left (leb slots 1024) (leb places 256) e)

places_fit : (slots places : ℕ) → room_fits slots places ≡ true → places ≤ 256
places_fit slots places e = leb-true _ _ (and_right (leb slots 1024) (leb places 256) e)

module _ (tableBytes cellBytes : List ℕ) (slots places : ℕ) where
  abbrev pub dissolve_fits : Bool
  dissolve_fits = table_fits tableBytes && list_fits cellBytes && room_fits slots places

  pub dissolve_within : dissolve_fits ≡ true → DissolveWithin tableBytes cellBytes slots places
  dissolve_within e =
      let both = and_left (table_fits tableBytes && list_fits cellBytes) _ e in
      let room = and_right (table_fits tableBytes && list_fits cellBytes) _ e in
      record {
        few_rows = rows_fit tableBytes (and_left (table_fits tableBytes) _ both);
        few_cells = leb-true _ _ (and_right (eqb (length cellBytes % 8) 0) _ (and_right (table_fits tableBytes) (list_fits cellBytes) both));
        few_slots = slots_fit slots places room;
        few_places = places_fit slots places room;
      }

  module _ (out : List ℕ) (mode : ℕ) where
    pub dissolves : {l : Left} → dissolve_fits ≡ true
        → l ≡ showing (dissolving (table_in tableBytes) (cleared (rows_in tableBytes) slots places) mode (cells_in cellBytes) (cleared_output (rows_in tableBytes))) [] out
        → l ≡ zone_dissolving tableBytes cellBytes out mode slots places
    unfolding zone_dissolving
    dissolves e p =
        p ∙ ap (λ (n : ℕ). showing (dissolving (table_in tableBytes) (cleared n slots places) mode (cells_in cellBytes) (cleared_output n)) [] out) (sym (table_rows tableBytes))
        ∙ ap (λ (b : Bool). cond b (showing (dissolving (table_in tableBytes) (cleared (row_count (table_in tableBytes)) slots places) mode (cells_in cellBytes) (cleared_output (row_count (table_in tableBytes)))) [] out) (refused [] out)) (sym e)

    pub dissolve_refused : {result : ℕ} → dissolve_fits ≡ false → result ≡ result_of (Err BadLengths)
        → record { result = result; state = []; out = out } ≡ zone_dissolving tableBytes cellBytes out mode slots places
    unfolding zone_dissolving
    dissolve_refused e p = rw (e, p)

module _ (tableBytes state : List ℕ) (slots places : ℕ) where
  abbrev pub standing_fits : Bool
  standing_fits = table_fits tableBytes && room_fits slots places && eqb (length state) (state_size (rows_in tableBytes) slots places)

  pub standing_within : standing_fits ≡ true → StandingWithin tableBytes state slots places
  standing_within e =
      let both = and_left (table_fits tableBytes && room_fits slots places) _ e in
      let room = and_right (table_fits tableBytes) (room_fits slots places) both in
      record {
        few_rows = rows_fit tableBytes (and_left (table_fits tableBytes) _ both);
        few_slots = slots_fit slots places room;
        few_places = places_fit slots places room;
        whole = eqb-true _ _ (and_right (table_fits tableBytes && room_fits slots places) _ e);
      }

  module _ (out : List ℕ) (call value : ℕ) where
    pub stands : {l : Left} → standing_fits ≡ true → l ≡ calling (table_in tableBytes) (state_in (rows_in tableBytes) slots places state) state out call value
        → l ≡ zone_standing tableBytes state out slots places call value
    unfolding zone_standing
    stands e p = p ∙ ap (λ (b : Bool). cond b (calling (table_in tableBytes) (state_in (rows_in tableBytes) slots places state) state out call value) (refused state out)) (sym e)

    pub standing_refused : {result : ℕ} → standing_fits ≡ false → result ≡ result_of (Err BadLengths)
        → record { result = result; state = state; out = out } ≡ zone_standing tableBytes state out slots places call value
    unfolding zone_standing
    standing_refused e p = rw (e, p)
