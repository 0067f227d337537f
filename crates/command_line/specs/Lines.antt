-- A command line, taken word by word: options, and files, the table first. --help counts wherever it stands; the first word that cannot be
-- taken is named by its number; a mode has to follow --mode.
--     line_of      what the words of a command line come to
--     status_of    all that is needed; or help, or what is wrong
-- Assumes nothing.
use Rattle.std.specs.Prelude.{ℕ, zero, suc, Bool, true, false, cond, List, [], ◌∷◌, Option, Some, None, Result, Ok, Err}
use Rattle.command_line.specs.declared.tools.Tool.{Tool}
use Rattle.command_line.specs.declared.words.Word.{Word}
use Rattle.command_line.specs.declared.words.Word.TheVariants as word
use Rattle.command_line.specs.declared.line.Mode.{Mode}
use Rattle.command_line.specs.declared.line.Mode.TheVariants as mode
use Rattle.command_line.specs.declared.line.Line.{Line}
use Rattle.command_line.specs.declared.line.Command.{Command}
use Rattle.command_line.specs.declared.line.Stop.{Stop}
use Rattle.command_line.specs.declared.line.Stop.TheVariants as stop
use Rattle.command_line.specs.Tools.{takes_many}
use Rattle.command_line.specs.Words.{word_of}

-- Modes are the library's: 0 even, 1 mixed, 2 names none.
abbrev pub mode_number : Mode → ℕ
mode_number mode.Even = 0
mode_number mode.Mixed = 1
mode_number mode.Unnamed = 2

-- ---- the words so far

abbrev pub no_words : Line
no_words = record { help = false; rows = false; mode = mode.Unnamed; mode_wanted = false; table = None; list = None; fault = None }

abbrev pub with_help : Line → Line
with_help o = record { help = true; rows = o.rows; mode = o.mode; mode_wanted = o.mode_wanted; table = o.table; list = o.list; fault = o.fault }

abbrev pub with_rows : Line → Line
with_rows o = record { help = o.help; rows = true; mode = o.mode; mode_wanted = o.mode_wanted; table = o.table; list = o.list; fault = o.fault }

abbrev pub with_mode_wanted : Line → Line
with_mode_wanted o = record { help = o.help; rows = o.rows; mode = o.mode; mode_wanted = true; table = o.table; list = o.list; fault = o.fault }

abbrev pub with_mode : Line → Mode → Line
with_mode o m = record { help = o.help; rows = o.rows; mode = m; mode_wanted = false; table = o.table; list = o.list; fault = o.fault }

-- the number of a word, which is none where it is 0
abbrev pub numbered : ℕ → Option ℕ
numbered zero = None
numbered (suc k) = Some (suc k)

abbrev pub with_table : Line → ℕ → Line
with_table o k = record { help = o.help; rows = o.rows; mode = o.mode; mode_wanted = o.mode_wanted; table = numbered k; list = o.list; fault = o.fault }

abbrev pub with_list : Line → ℕ → Line
with_list o k = record { help = o.help; rows = o.rows; mode = o.mode; mode_wanted = o.mode_wanted; table = o.table; list = numbered k; fault = o.fault }

abbrev pub with_fault : Line → ℕ → Line
with_fault o k = record { help = o.help; rows = o.rows; mode = o.mode; mode_wanted = o.mode_wanted; table = o.table; list = o.list; fault = numbered k }

-- ---- word k

-- A file beyond the second is one too many, or one list more.
abbrev pub beyond_table : Tool → Line → ℕ → Option ℕ → Line
beyond_table t o k None = with_list o k
beyond_table t o k (Some list) = cond (takes_many t) o (with_fault o k)

abbrev pub file_behind : Tool → Line → ℕ → Option ℕ → Line
file_behind t o k None = with_table o k
file_behind t o k (Some table) = beyond_table t o k o.list

unfoldable pub file_taken : Tool → Line → ℕ → Line
file_taken t o k = file_behind t o k o.table

-- after --mode
unfoldable pub mode_taken : Line → ℕ → Option Word → Line
mode_taken o k (Some word.Help) = with_fault o k
mode_taken o k (Some word.Rows) = with_fault o k
mode_taken o k (Some word.Mode) = with_fault o k
mode_taken o k (Some word.Even) = with_mode o mode.Even
mode_taken o k (Some word.Mixed) = with_mode o mode.Mixed
mode_taken o k (Some word.File) = with_fault o k
mode_taken o k None = with_fault o k

-- anywhere else; a file may be called even or mixed
unfoldable pub word_taken : Tool → Line → ℕ → Option Word → Line
word_taken t o k (Some word.Help) = with_help o
word_taken t o k (Some word.Rows) = with_rows o
word_taken t o k (Some word.Mode) = with_mode_wanted o
word_taken t o k (Some word.Even) = file_taken t o k
word_taken t o k (Some word.Mixed) = file_taken t o k
word_taken t o k (Some word.File) = file_taken t o k
word_taken t o k None = with_fault o k

abbrev pub is_help : Option Word → Bool
is_help (Some word.Help) = true
is_help (Some word.Rows) = false
is_help (Some word.Mode) = false
is_help (Some word.Even) = false
is_help (Some word.Mixed) = false
is_help (Some word.File) = false
is_help None = false

-- Once a word could not be taken, no other is.
abbrev pub unless_faulty : Option ℕ → Line → Line → Line
unless_faulty None o r = r
unless_faulty (Some k) o r = o

-- Help is found anywhere.
unfoldable pub known_taken : Tool → Line → ℕ → Option Word → Line
known_taken t o k w =
    cond (is_help w) (with_help o)
    (unless_faulty o.fault o (cond o.mode_wanted (mode_taken o k w) (word_taken t o k w)))

abbrev pub taken : Tool → Line → ℕ → List ℕ → Line
taken t o k s = known_taken t o k (word_of t s)

-- ---- what they come to

-- the words from word k on
unfoldable pub line_from : Tool → ℕ → Line → List (List ℕ) → Line
line_from t k o [] = o
line_from t k o (w ∷ ws) = line_from t (suc k) (taken t o k w) ws

abbrev pub line_of : Tool → List (List ℕ) → Line
line_of t ws = line_from t 1 no_words ws

-- 0 where there is none
abbrev pub number_of : Option ℕ → ℕ
number_of None = 0
number_of (Some k) = k

-- Two files are wanted, of which the list is the second: it is asked for alone.
abbrev pub with_files : Line → Option ℕ → Result Command Stop
with_files o None = Err stop.FilesWanted
with_files o (Some list) = Ok (record { rows = o.rows; mode = o.mode; table = number_of o.table; list = list })

abbrev pub unless_fault : Option ℕ → Result Command Stop → Result Command Stop
unless_fault None r = r
unless_fault (Some k) r = Err (stop.Fault k)

unfoldable pub status_of : Line → Result Command Stop
status_of o =
    cond o.help (Err stop.Help)
    (unless_fault o.fault (cond o.mode_wanted (Err stop.ModeWanted) (with_files o o.list)))
