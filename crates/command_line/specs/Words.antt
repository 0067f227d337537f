-- What a word of the command line means, by its text. A word that begins with - is an option, or no word that can be taken.
-- Assumes nothing.
use Rattle.std.specs.Prelude.{ℕ, Bool, ◌&&◌, cond, List, eqb, ltb, leb, length, Option, Some, None, bytes_eq}
use Rattle.scope.specs.Lists.{at}
use Rattle.text.specs.Text.{ascii}
use Rattle.command_line.specs.declared.tools.Tool.{Tool}
use Rattle.command_line.specs.declared.words.Word.{Word}
use Rattle.command_line.specs.declared.words.Word.TheVariants.{Help, Rows, Mode, Even, Mixed, File}
use Rattle.command_line.specs.Tools.{takes_options}

-- neither empty nor longer than a path can be
abbrev pub fits : List ℕ → Bool
fits s = ltb 0 (length s) && leb (length s) 4096

-- beside --help, of a tool that has some
unfoldable pub own_option : List ℕ → Option Word
own_option s = cond (bytes_eq s (ascii "--rows")) (Some Rows) (cond (bytes_eq s (ascii "--mode")) (Some Mode) None)

unfoldable pub option_of : Tool → List ℕ → Option Word
option_of t s = cond (bytes_eq s (ascii "--help")) (Some Help) (cond (takes_options t) (own_option s) None)

unfoldable pub name_of : List ℕ → Word
name_of s = cond (bytes_eq s (ascii "even")) Even (cond (bytes_eq s (ascii "mixed")) Mixed File)

abbrev pub begins_as_option : List ℕ → Bool
begins_as_option s = eqb (at s 0) 45

-- None where no tool can take it
unfoldable pub word_of : Tool → List ℕ → Option Word
word_of t s = cond (begins_as_option s) (option_of t s) (cond (fits s) (Some (name_of s)) None)
