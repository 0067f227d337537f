-- The help of each tool, in one form: its use and what it does, its arguments, where answers and complaints go.
-- Assumes nothing.
use Rattle.std.specs.Prelude.{ℕ, List, ◌++◌}
use Rattle.text.specs.Text.{ascii}
use Rattle.command_line.specs.declared.tools.Tool.{Tool}
use Rattle.command_line.specs.declared.tools.Tool.TheVariants.{Outline, TillImport, YearAudit}

unfoldable pub use_text : Tool → List ℕ
use_text Outline = ascii "usage: outline TABLE CELLS [--mode even|mixed] [--rows]\nDissolves the cells of a list and prints their outline: what it counts, then each polygon with its group and its rings, the outer\nfirst, and of each ring its area (on a sphere of radius 1) and its edges.\n"
use_text TillImport = ascii "usage: till_import TABLE CELLS...\nDissolves zones one after the other, each into a fresh state, and prints of each a line with its answer, then each ring as a\nlist on one line: outer or inner, group, area (on a sphere of radius 1) and edges. A zone that is refused does not stop the next.\n"
use_text YearAudit = ascii "usage: year_audit TABLE FEED\nOffers the cells of a feed one by one to a standing state, replays and all, and prints how many were offered, accepted, and refused\nby number; how many replays would each have drawn a second outline; whether the standing outline is the one dissolved afresh from\nthe accepted cells; and what one visit to each held cell is credited, without the check and with it.\n"

unfoldable pub list_text : Tool → List ℕ
list_text Outline = ascii "  CELLS   text: one cell a line in hexadecimal, with or without 0x; blank lines and what follows a # are passed over\n  --mode  even: all cells are of the table's resolution; mixed: coarser ones too, none under another; none named means even\n  --rows  edges by their rows in the table, instead of their numbers in hexadecimal\n"
list_text TillImport = ascii "  CELLS   text, a file for each zone: one cell a line in hexadecimal, with or without 0x, all of the table's resolution, each\n          once; blank lines and what follows a # are passed over\n"
list_text YearAudit = ascii "  FEED    text: one cell a line in hexadecimal, with or without 0x, in the order of arrival, at most 65,536 cells; blank lines\n          and what follows a # are passed over\n"

unfoldable pub help_text : Tool → List ℕ
help_text t =
    use_text t
    ++ ascii "  TABLE   edge table: rows of 20 bytes, the edge (u64), the row of its reverse (u32), the bits of its area term (u64), least byte first\n"
    ++ list_text t
    ++ ascii "  --help  this text, wherever it stands; a file whose name begins with - is given as ./-name\nAnswers go to standard output. What is wrong with an argument or a file, or why the library refuses a table or a list, is one line on\nstandard error, and then the exit status is 1.\n"
