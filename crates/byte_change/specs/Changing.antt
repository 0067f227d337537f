-- The calls that change a state: it is opened in a mode, or offered a cell.
-- Assumes nothing.
use Rattle.scope.specs.Table.{Table}
use Rattle.scope.specs.Memory.{Memory}
use Rattle.scope.specs.Calls.{Outcome, opening, offering}
use Rattle.byte_change.specs.declared.Change.{Change}
use Rattle.byte_change.specs.declared.Change.TheVariants.{Open, Offer}

unfoldable pub changing : Table → Memory → Change → Outcome
changing t m (Open mode) = opening t m mode
changing t m (Offer cell) = offering t m cell
