-- The tools, and how their command lines differ: outline alone has options beside --help, till_import alone takes more than one list.
-- Assumes nothing.
use Rattle.std.specs.Prelude.{Bool, true, false}
use Rattle.command_line.specs.declared.tools.Tool.{Tool}
use Rattle.command_line.specs.declared.tools.Tool.TheVariants.{Outline, TillImport, YearAudit}

abbrev pub takes_options : Tool → Bool
takes_options Outline = true
takes_options TillImport = false
takes_options YearAudit = false

abbrev pub takes_many : Tool → Bool
takes_many Outline = false
takes_many TillImport = true
takes_many YearAudit = false
