-- Reports, as they can be printed.
--     size_told, same_report          a report's size, and two reports of one size and kind
--     page                            a text that was written from the front of a slice on
--     kept, left_out                  what `in_room` leaves of a report that fits, and of one that may be cut off
--     filled                          two reports that fill the same slice come to the same
--     reported_in                     a report that was written and then brought into its room
--     in_written, in_slice, within    they lie in their slice
--     printed                         so what is printed is the whole text; or, where there is no room for it, the line that says so
-- Assumes nothing.
use Prim.Native.Nat.{ℕ, ◌+◌, ◌≤◌, ◌<◌, min}
use mathlib.Core.Path.{◌≡◌, refl, sym, ◌∙◌, ap, subst}
use mathlib.Core.Bool.{Bool, true, false, cond}
use mathlib.Core.List.{List}
use mathlib.Core.Logic.{⊎_elim}
use native.Mathlib.Nat.{min-eq_left, min-eq_right, min-le_right}
use native.Mathlib.Omega.{arith}
use borrow.Author.Tests.{lt-ltb, le-ltb, ltb-true}
use lib.Dec.{ltb}
use lib.ListN.{length, take}
use lib.Seq.{sets, length-sets}
use Rattle.scope.proofs.Tests.{either, le_or_lt}
use Rattle.text.specs.Text.{Wrote}
use Rattle.std.specs.Prelude.{Ok, Err, is_ok}
use Rattle.desk.specs.Reports.{Report, report_of, size_of, left_out_text, Page, written, in_room, report_in}
use Rattle.desk.proofs.Whole.{whole}

pub size_told : (done : Bool) (n : ℕ) → size_of (report_of done n) ≡ n
size_told true n = refl
size_told false n = refl

report_told : (r : Report) → r ≡ report_of (is_ok r) (size_of r)
report_told (Ok n) = refl
report_told (Err n) = refl

pub same_report : (r r' : Report) → size_of r ≡ size_of r' → is_ok r ≡ is_ok r' → r ≡ r'
same_report r r' e f = report_told r ∙ ap (report_of (is_ok r)) e ∙ ap (λ (b : Bool). report_of b (size_of r')) f ∙ sym (report_told r')

from_front : (text slice : List ℕ) → min (0 + length text) (length slice) ≡ min (length text) (length slice)
from_front text slice = ap (λ (k : ℕ). min k (length slice)) (let z : 0 + length text ≡ length text = omega arith in z)

pub page : {slice after text : List ℕ} {n : ℕ} (done : Bool) → Wrote slice 0 after n text
    → record { text = after; report = report_of done n } ≡ written slice text done
page {slice} {after} {text} {n} done W =
    ap (λ (x : List ℕ). record { text = x; report = report_of done n }) W.bytes
    ∙ ap (λ (k : ℕ). record { text = sets slice 0 text; report = report_of done k }) (W.place ∙ from_front text slice)

-- ---- by the room

pub kept : (name text : List ℕ) (r : Report) → (size_of r) < length text → record { text = text; report = r } ≡ in_room name (record { text = text; report = r })
unfolding in_room
kept name text r h = rw (lt-ltb (size_of r) (length text) h) refl

pub left_out : (name text : List ℕ) (r : Report) → length text ≤ (size_of r) → {after : List ℕ} {n : ℕ} → Wrote text 0 after n (left_out_text name)
    → record { text = after; report = Err n } ≡ in_room name (record { text = text; report = r })
unfolding in_room
left_out name text r h W = rw (le-ltb (size_of r) (length text) h) (page false W)

pub filled : (name text : List ℕ) (r r' : Report) → length text ≤ (size_of r) → length text ≤ (size_of r')
    → in_room name (record { text = text; report = r }) ≡ in_room name (record { text = text; report = r' })
unfolding in_room
filled name text r r' h h' = rw (le-ltb (size_of r) (length text) h, le-ltb (size_of r') (length text) h') refl

pub reported_in : {slice after text : List ℕ} (r : Report) {done : Bool} {p : Page} (name : List ℕ) → Wrote slice 0 after (size_of r) text → is_ok r ≡ done
    → p ≡ in_room name (record { text = after; report = r }) → p ≡ report_in slice name text done
reported_in {slice} {after} {text} r name W e q =
    q ∙ ap (λ (x : Report). in_room name (record { text = after; report = x })) (report_told r) ∙ ap (in_room name) (page (is_ok r) W ∙ ap (written slice text) e)

-- ---- within the slice

pub in_written : (slice text : List ℕ) (done : Bool) → size_of (written slice text done).report ≤ length (written slice text done).text
in_written slice text done = rw (size_told done (min (length text) (length slice)), length-sets slice 0 text) (min-le_right (length text) (length slice))

pub in_slice : (name : List ℕ) (p : Page) → size_of (in_room name p).report ≤ length (in_room name p).text
unfolding in_room
in_slice name p = ⊎_elim
    (λ (e : ltb (size_of p.report) (length p.text) ≡ true). rw e (let h = ltb-true (size_of p.report) (length p.text) e in omega arith))
    (λ (e : ltb (size_of p.report) (length p.text) ≡ false). rw e (in_written p.text (left_out_text name) false))
    (either (ltb (size_of p.report) (length p.text)))

pub within : {text : List ℕ} {r : Report} {p : Page} → record { text = text; report = r } ≡ p → size_of p.report ≤ length p.text → (size_of r) ≤ length text
within e h = subst (λ (q : Page). size_of q.report ≤ length q.text) (sym e) h

-- ---- what is printed

front : (slice text : List ℕ) (done : Bool) → length text < length slice → take (size_of (written slice text done).report) (written slice text done).text ≡ text
front slice text done h =
    let e : min (length text) (length slice) ≡ length text = min-eq_left (omega arith) in
    rw (size_told done (min (length text) (length slice))) (whole {before = slice} (record { bytes = refl; place = sym (from_front text slice) }) (omega arith))

pub printed : (slice name text : List ℕ) (done : Bool) → length (left_out_text name) < length slice
    → take (size_of (report_in slice name text done).report) (report_in slice name text done).text ≡ cond (ltb (length text) (length slice)) text (left_out_text name)
unfolding in_room
printed slice name text done room =
    let long = length-sets slice 0 text in
    ⊎_elim
    (λ (h : length slice ≤ length text).
    let e : min (length text) (length slice) ≡ length slice = min-eq_right h in
    let full : length (sets slice 0 text) ≤ min (length text) (length slice) = omega arith in
    rw (size_told done (min (length text) (length slice)), le-ltb (length text) (length slice) h, le-ltb (min (length text) (length slice)) (length (sets slice 0 text)) full)
    (front (sets slice 0 text) (left_out_text name) false (omega arith)))
    (λ (h : length text < length slice).
    let e : min (length text) (length slice) ≡ length text = min-eq_left (omega arith) in
    let free : min (length text) (length slice) < length (sets slice 0 text) = omega arith in
    rw (size_told done (min (length text) (length slice)), lt-ltb (length text) (length slice) h, lt-ltb (min (length text) (length slice)) (length (sets slice 0 text)) free) (front slice text done h))
    (le_or_lt (length slice) (length text))
