-- `files::reason_of` meets its contract. By the number.
-- Assumes nothing.
use mathlib.Core.Path.{◌≡◌, ◌∙◌}
use mir.Syntax.{w32}
use mir.Val.{of_z}
use Rattle.std.proofs.Common.{arith}
use Rattle.std.proofs.lemmas.Bool.Decides.{nat_tests}
use Rattle.files.specs.declared.Reason.TheVariants as reason
use Rattle.files.specs.Files.{reason_by}
use Rattle.files.proofs.Numbers.{reason_bits}
use Rattle.files.proofs.reason_of.Goals as goal

pub returns-in-2 : goal.returns-in-2
returns-in-2 c =
    let e : reason.Missing ≡ reason_by (of_z w32 c.args.error) = grind (arith, nat_tests) in
    e ∙ reason_bits c.args.error c.ranges.error

pub returns-in-21 : goal.returns-in-21
returns-in-21 c =
    let e : reason.Directory ≡ reason_by (of_z w32 c.args.error) = grind (arith, nat_tests) in
    e ∙ reason_bits c.args.error c.ranges.error

pub returns-in-13 : goal.returns-in-13
returns-in-13 c =
    let e : reason.Forbidden ≡ reason_by (of_z w32 c.args.error) = grind (arith, nat_tests) in
    e ∙ reason_bits c.args.error c.ranges.error

pub returns-in_default : goal.returns-in_default
returns-in_default c =
    let e : reason.Other ≡ reason_by (of_z w32 c.args.error) = grind (arith, nat_tests) in
    e ∙ reason_bits c.args.error c.ranges.error
