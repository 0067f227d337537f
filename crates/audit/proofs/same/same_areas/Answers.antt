-- `audit::same::same_areas` meets its contract. Pair by pair, where they are of one length.
-- Assumes nothing.
use mathlib.Core.Path.{◌∙◌}
use borrow.Author.Tests.{ne_eqb}
use lib.Dec.{eqb}
use lib.Ieee.{Float}
use Rattle.std.specs.Float.{binary64}
use Rattle.std.specs.Float.Ieee.{to_bits}
use Rattle.std.proofs.Common.{rules, tests}
use Rattle.std.proofs.lemmas.Iterator.{YieldsList-from_slice, YieldsList-from_zip}
use Rattle.std.proofs.lemmas.Iterator.Consumers.{YieldsList-at}
use Rattle.std.proofs.lemmas.Iterator.Search.{all_from_yields_List}
use Rattle.audit.specs.Same.{same_areas}
use Rattle.audit.proofs.Equal.{areas_decided}
use Rattle.audit.proofs.same.same_areas.Goals as goal

pub returns-then-a-b : goal.returns-then-a-b
returns-then-a-b c =
    let a = c.args.a.now in
    let b = c.args.b.now in
    let pairs = YieldsList-from_zip (YieldsList-at c.zip.ensures.first (YieldsList-from_slice a c.iter.ensures.rest)) (YieldsList-from_slice b c.zip.ensures.second.0) in
    all_from_yields_List (λ (p : Float × Float). eqb (to_bits binary64 p.0) (to_bits binary64 p.1)) c.all.new.self _ _ c.all.ensures.ran pairs (λ x r q k. search (rules, tests))
    ∙ areas_decided a b c.if-a-b.true

pub returns-else-a-b : goal.returns-else-a-b
unfolding same_areas
returns-else-a-b c = rw (ne_eqb _ _ c.if-a-b.false)
