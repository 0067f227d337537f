-- What an audit says, as text: the offers by their verdicts, the replays, the standing outline beside the one dissolved afresh, and the points.
-- Assumes nothing.
use Rattle.std.specs.Prelude.{ℕ, ◌+◌, Bool, cond, List, [], ◌++◌, eqb, Err, Ok}
use Rattle.scope.specs.Answers.{refusal_number, Answer}
use Rattle.scope.specs.declared.ReadOut.TheVariants.{Nothing, Closed, Outline}
use Rattle.scope.specs.Lists.{at}
use Rattle.scope.specs.Bytes.{joined}
use Rattle.text.specs.Text.{ascii}
use Rattle.note_text.specs.Notes.{noted}
use Rattle.refusal_text.specs.Refusals.{refusal_words}
use Rattle.audit.specs.Feed.{accepted_in, replays_in, points_unchecked, points_credited, points_over}

-- ---- the offers

-- how many were refused by a number, with its words; nothing where none was
unfoldable pub refused_text : List ℕ → ℕ → List ℕ
refused_text counts number =
    let n = at counts number in
    cond (eqb n 0) [] (noted (ascii "refused by ") number (ascii ": ") ++ noted [] n (ascii ", ") ++ refusal_words number ++ ascii "\n")

-- of 1 to 10
abbrev pub refusals_text : List ℕ → List ℕ
refusals_text counts = joined (λ i. refused_text counts (i + 1)) 10

unfoldable pub offers_text : ℕ → List ℕ → List ℕ
offers_text offered counts =
    noted (ascii "offered ") offered (ascii "\n")
    ++ noted (ascii "accepted ") (accepted_in counts) (ascii "\n")
    ++ refusals_text counts
    ++ noted (ascii "replays that would each have drawn a second outline ") (replays_in counts) (ascii "\n")

-- ---- the standing outline

abbrev pub counts_text : ℕ → ℕ → List ℕ
counts_text polygons rings = noted (ascii "standing outline: polygons ") polygons [] ++ noted (ascii ", rings ") rings (ascii "\n")

unfoldable pub unread_text : ℕ → List ℕ
unread_text number = noted (ascii "standing outline: refused ") number (ascii ", ") ++ refusal_words number ++ ascii "\n"

unfoldable pub standing_text : Answer → List ℕ
standing_text (Ok Nothing) = ascii "standing outline: nothing, no cell is held\n"
standing_text (Ok Closed) = ascii "standing outline: closed, no edge stands\n"
standing_text (Ok (Outline polygons rings area)) = counts_text polygons rings
standing_text (Err why) = unread_text (refusal_number why)

abbrev pub afresh_text : Bool → List ℕ
afresh_text same = cond same (ascii "dissolved afresh from the accepted cells: the same\n") (ascii "dissolved afresh from the accepted cells: ANOTHER OUTLINE\n")

-- ---- the points

unfoldable pub points_text : ℕ → List ℕ → List ℕ
points_text visits counts =
    noted (ascii "one visit to each held cell: visits ") visits (ascii "\n")
    ++ noted (ascii "points credited without the check ") (points_unchecked counts) (ascii "\n")
    ++ noted (ascii "points credited here ") (points_credited counts) (ascii "\n")
    ++ noted (ascii "points over ") (points_over visits counts) (ascii "\n")

unfoldable pub audit_text : ℕ → List ℕ → Answer → Bool → ℕ → List ℕ
audit_text offered counts standing same visits = offers_text offered counts ++ standing_text standing ++ afresh_text same ++ points_text visits counts
