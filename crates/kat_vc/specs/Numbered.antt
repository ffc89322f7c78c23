-- Used inside only.
-- What the program's conditions are.
use Rattle.kat_type.specs.Types.{operation_form, query_form}
use Rattle.kat_vc.specs.Conditions as conditions
use Rattle.kat_vc.specs.Conditions.Condition.{start, step, answers}
use Rattle.kat_vc.specs.declared.by_number.Condition.{Condition}
use Rattle.kat_vc.specs.declared.by_number.Condition.TheVariants.{Start, Step, Answers}

abbrev pub condition_of : Condition → conditions.Condition
condition_of (Start claim) = start claim.now
condition_of (Step number op claim) = step number (operation_form op.now) claim.now
condition_of (Answers number query) = answers number (query_form query.now)
