-- Command lines, taken word by word, and what they come to: the files and options.
-- Assumes nothing.
use mathlib.Core.Path.{◌≡◌, refl}
use mathlib.Core.Bool.{true, false}
use mathlib.Core.List.{[], ◌∷◌}
use Rattle.std.specs.Prelude.{Some, None}
use Rattle.text.specs.Text.{ascii}
use Rattle.command_line.specs.declared.tools.Tool.TheVariants.{Outline, TillImport}
use Rattle.command_line.specs.declared.line.Mode.TheVariants as mode
use Rattle.command_line.specs.Words.{own_option, option_of, name_of, word_of}
use Rattle.command_line.specs.Lines.{file_taken, mode_taken, word_taken, known_taken, line_from, line_of}

-- two files; the mode is named by none
two_files : line_of Outline (ascii "t" ∷ ascii "c" ∷ []) ≡ record { help = false; rows = false; mode = mode.Unnamed; mode_wanted = false; table = Some 1; list = Some 2; fault = None }
unfolding line_from known_taken word_taken file_taken word_of option_of name_of
two_files = refl

-- options stand anywhere, and a file may be called even
all_options : line_of Outline (ascii "--mode" ∷ ascii "mixed" ∷ ascii "even" ∷ ascii "--rows" ∷ ascii "c" ∷ []) ≡ record { help = false; rows = true; mode = mode.Mixed; mode_wanted = false; table = Some 3; list = Some 5; fault = None }
unfolding line_from known_taken word_taken mode_taken file_taken word_of option_of own_option name_of
all_options = refl

-- as many lists as there are
three_lists : line_of TillImport (ascii "t" ∷ ascii "a" ∷ ascii "b" ∷ ascii "c" ∷ []) ≡ record { help = false; rows = false; mode = mode.Unnamed; mode_wanted = false; table = Some 1; list = Some 2; fault = None }
unfolding line_from known_taken word_taken file_taken word_of option_of name_of
three_lists = refl
