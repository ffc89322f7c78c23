use Rattle.std.proofs.Common.{◌∙◌, rules, FitsSigned, to_z, of_z}
use Rattle.std.specs.Int.{w128}
use Rattle.std.proofs.lemmas.Int.{to_z-of_z}
use Rattle.kat_linear.specs.Rows.{form_of}
use Rattle.kat_point.specs.Values.{number_at}
use Rattle.kat_point.proofs.Decisive.{read_when}
use Rattle.kat_point.proofs.checking.has_value.Goals as goal

pub returns-in-Some : goal.returns-in-Some
returns-in-Some c =
    let fits : FitsSigned w128 c.in-Some.sum = search rules in
    read_when (number_at c.args.nums.now) (form_of c.args.row.now) c.args.value c.is_told.result (to_z w128 (of_z w128 c.in-Some.sum)) (to_z-of_z w128 c.in-Some.sum fits ∙ c.in-Some.ensures) c.is_told.ensures.met c.is_told.ensures.above
