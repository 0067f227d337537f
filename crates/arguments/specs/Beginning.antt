-- Where a tool begins: what is said of its command line, and what it is handed on. Which words were given no contract can say; but a line is
-- what `command_line` makes of some words.
-- Assumes nothing.
use Rattle.std.specs.Prelude.{ℕ, ◌≡◌, cond, List, Option, Some, None, Result, Ok, Err}
use Rattle.command_line.specs.declared.tools.Tool.{Tool}
use Rattle.command_line.specs.declared.line.Line.{Line}
use Rattle.command_line.specs.declared.line.Command.{Command}
use Rattle.command_line.specs.declared.line.Stop.{Stop}
use Rattle.command_line.specs.Lines.{taken, line_of, status_of}
use Rattle.command_text.specs.Complaints.{complaint_text}
use Rattle.command_text.specs.Help.{help_text}

-- the line after word k
pub record SomeWord (tool : Tool) (line : Line) (k : ℕ) (r : Line) : Type 0 where
  pub word : List ℕ
  pub takes : r ≡ taken tool line k word

pub record SomeWords (tool : Tool) (r : Line) : Type 0 where
  pub words : List (List ℕ)
  pub comes : r ≡ line_of tool words

-- The help, where it is asked for; else what is wrong, nothing where nothing is. The word is the one that cannot be taken, where there is one.
unfoldable pub line_text : Tool → Line → List ℕ → List ℕ
line_text tool line word = cond line.help (help_text tool) (complaint_text tool (status_of line) line.mode_wanted word)

abbrev pub begun_by : Result Command Stop → Option Command
begun_by (Ok command) = Some command
begun_by (Err stop) = None

-- A tool goes on where its line has all that is needed.
abbrev pub begun_of : Line → Option Command
begun_of line = begun_by (status_of line)

pub record SomeBegun (tool : Tool) (r : Option Command) : Type 0 where
  pub words : List (List ℕ)
  pub begins : r ≡ begun_of (line_of tool words)
