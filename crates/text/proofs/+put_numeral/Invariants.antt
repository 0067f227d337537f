use Rattle.std.proofs.Common.{◌+◌}
use Rattle.text.proofs.+put_numeral.Given as goal

-- a number's digits, or those asked for, grow fewer
abbrev pub decreases-put_numeral : goal.decreases-put_numeral
decreases-put_numeral l = l.n + l.least
