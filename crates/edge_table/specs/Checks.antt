-- What the check of three lent slices answers: any slices may be given, and their lengths are tested first.
-- Assumes nothing.
use Rattle.scope.specs.declared.Refusal.TheVariants.{BadLengths}
use Rattle.scope.specs.Answers.{require, ◌▷◌, Verdict}
use Rattle.scope.specs.Table.{Table, table_verdict}
use Rattle.scope.specs.Memory.{table_agrees}

-- Refusals 10 and 1, in order of test.
unfoldable pub checked : Table → Verdict
checked t = require (table_agrees t) BadLengths ▷ table_verdict t
