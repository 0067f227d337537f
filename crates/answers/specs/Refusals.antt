-- A refusal as read out and dissolve answer it.
-- Assumes nothing.
use Rattle.scope.specs.Answers.{Answer, Verdict}
use Rattle.std.specs.Prelude.{Err, Ok}
use Rattle.scope.specs.declared.ReadOut.TheVariants.{Nothing}

unfoldable pub refusal_in : Verdict → Answer
refusal_in (Ok done) = (Ok Nothing)
refusal_in (Err why) = Err why
