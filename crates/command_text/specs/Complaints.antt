-- What is said of a command line that cannot be taken: one line with the tool's name, which argument, and why.
--     said_of      the line for a whole command line, nothing where nothing is wrong
-- Assumes nothing.
use Rattle.std.specs.Prelude.{ℕ, ◌-◌, Bool, cond, List, [], ◌++◌, eqb, ltb, length, get_or, Option, Some, None, Result, Ok, Err}
use Rattle.text.specs.Text.{ascii, shown, decimal}
use Rattle.command_line.specs.declared.tools.Tool.{Tool}
use Rattle.command_line.specs.declared.tools.Tool.TheVariants.{Outline, TillImport, YearAudit}
use Rattle.command_line.specs.declared.line.Command.{Command}
use Rattle.command_line.specs.declared.line.Stop.{Stop}
use Rattle.command_line.specs.declared.line.Stop.TheVariants.{Help, Fault, ModeWanted, FilesWanted}
use Rattle.command_line.specs.Words.{begins_as_option}
use Rattle.command_line.specs.Lines.{line_of, status_of}

-- Of a word that is neither empty nor too long: it follows --mode and is none, it is no option, or there are two files already. A mode is
-- wanted behind --mode.
unfoldable pub misplaced_text : Bool → List ℕ → List ℕ
misplaced_text mode_wanted s =
    cond mode_wanted (ascii " is no mode, which is even or mixed")
    (cond (begins_as_option s) (ascii " is no option (a file of that name is given as ./" ++ shown s ++ ascii ")")
    (ascii " is one file too many"))

unfoldable pub reason_text : Bool → List ℕ → List ℕ
reason_text mode_wanted s =
    cond (eqb (length s) 0) (ascii " is empty")
    (cond (ltb 4096 (length s)) (ascii " is longer than 4096 bytes")
    (ascii ", " ++ shown s ++ ascii "," ++ misplaced_text mode_wanted s))

-- word k
abbrev pub fault_text : ℕ → Bool → List ℕ → List ℕ
fault_text k mode_wanted s = ascii "argument " ++ decimal k ++ reason_text mode_wanted s

-- the files that a tool wants
unfoldable pub files_text : Tool → List ℕ
files_text Outline = ascii "a TABLE and a CELLS file are wanted"
files_text TillImport = ascii "a TABLE and one CELLS file or more are wanted"
files_text YearAudit = ascii "a TABLE and a FEED file are wanted"

unfoldable pub name_text : Tool → List ℕ
name_text Outline = ascii "outline"
name_text TillImport = ascii "till_import"
name_text YearAudit = ascii "year_audit"

abbrev pub begin_text : Tool → List ℕ
begin_text t = name_text t ++ ascii ": "

abbrev pub end_text : Tool → List ℕ
end_text t = ascii "; " ++ name_text t ++ ascii " --help says more\n"

-- s is the word that cannot be taken, where there is one
unfoldable pub complaint_text : Tool → Result Command Stop → Bool → List ℕ → List ℕ
complaint_text t (Ok c) mode_wanted s = []
complaint_text t (Err Help) mode_wanted s = []
complaint_text t (Err (Fault k)) mode_wanted s = begin_text t ++ fault_text k mode_wanted s ++ end_text t
complaint_text t (Err ModeWanted) mode_wanted s = begin_text t ++ ascii "--mode is the last argument, and even or mixed has to follow" ++ end_text t
complaint_text t (Err FilesWanted) mode_wanted s = begin_text t ++ files_text t ++ end_text t

-- words are counted from 1; none where there is no such word
abbrev pub word_at : List (List ℕ) → Option ℕ → List ℕ
word_at ws None = []
word_at ws (Some k) = get_or ws (k - 1) []

abbrev pub said_of : Tool → List (List ℕ) → List ℕ
said_of t ws = let o = line_of t ws in complaint_text t (status_of o) o.mode_wanted (word_at ws o.fault)
