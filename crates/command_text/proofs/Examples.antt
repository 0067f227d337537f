-- Command lines that cannot be taken, and the one line that is said of each.
-- Assumes nothing.
use mathlib.Core.Path.{◌≡◌, refl}
use mathlib.Core.List.{[], ◌∷◌}
use Rattle.text.specs.Text.{ascii, shown, numeral, numeral_in}
use Rattle.command_line.specs.declared.tools.Tool.TheVariants.{Outline, TillImport, YearAudit}
use Rattle.command_line.specs.Words.{own_option, option_of, name_of, word_of}
use Rattle.command_line.specs.Lines.{file_taken, mode_taken, word_taken, known_taken, line_from, status_of}
use Rattle.command_text.specs.Complaints.{name_text, misplaced_text, reason_text, files_text, complaint_text, said_of}

no_words : said_of YearAudit [] ≡ ascii "year_audit: a TABLE and a FEED file are wanted; year_audit --help says more\n"
unfolding line_from status_of complaint_text files_text name_text
no_words = refl

-- the first word that cannot be taken is the one named
unknown_option : said_of Outline (ascii "t" ∷ ascii "--row" ∷ ascii "" ∷ ascii "d" ∷ []) ≡ ascii "outline: argument 2, --row, is no option (a file of that name is given as ./--row); outline --help says more\n"
unfolding line_from known_taken word_taken file_taken word_of option_of own_option name_of status_of complaint_text reason_text misplaced_text shown name_text numeral numeral_in
unknown_option = refl

-- an option of another tool is none
others_option : said_of YearAudit (ascii "--rows" ∷ ascii "t" ∷ ascii "c" ∷ []) ≡ ascii "year_audit: argument 1, --rows, is no option (a file of that name is given as ./--rows); year_audit --help says more\n"
unfolding line_from known_taken word_taken file_taken word_of option_of name_of status_of complaint_text reason_text misplaced_text shown name_text numeral numeral_in
others_option = refl

empty_word : said_of TillImport (ascii "t" ∷ ascii "a" ∷ ascii "" ∷ []) ≡ ascii "till_import: argument 3 is empty; till_import --help says more\n"
unfolding line_from known_taken word_taken file_taken word_of option_of name_of status_of complaint_text reason_text name_text numeral numeral_in
empty_word = refl

third_file : said_of Outline (ascii "t" ∷ ascii "c" ∷ ascii "d" ∷ []) ≡ ascii "outline: argument 3, d, is one file too many; outline --help says more\n"
unfolding line_from known_taken word_taken file_taken word_of option_of name_of status_of complaint_text reason_text misplaced_text shown name_text numeral numeral_in
third_file = refl

odd_mode : said_of Outline (ascii "--mode" ∷ ascii "odd" ∷ ascii "t" ∷ ascii "c" ∷ []) ≡ ascii "outline: argument 2, odd, is no mode, which is even or mixed; outline --help says more\n"
unfolding line_from known_taken word_taken mode_taken word_of option_of own_option name_of status_of complaint_text reason_text misplaced_text shown name_text numeral numeral_in
odd_mode = refl

no_mode : said_of Outline (ascii "t" ∷ ascii "c" ∷ ascii "--mode" ∷ []) ≡ ascii "outline: --mode is the last argument, and even or mixed has to follow; outline --help says more\n"
unfolding line_from known_taken word_taken file_taken word_of option_of own_option name_of status_of complaint_text name_text
no_mode = refl
