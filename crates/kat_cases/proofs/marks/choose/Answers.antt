use Rattle.std.proofs.Common.{◌-◌, arith, rules, FitsSigned, to_z, of_z}
use Rattle.std.specs.Int.{w32}
use Rattle.std.proofs.lemmas.Int.{to_z-of_z}
use Rattle.kat_clause.specs.Literals.{has_of}
use Rattle.kat_cases.proofs.Choices.{none_more, found_here}
use Rattle.kat_cases.proofs.marks.choose.Goals as goal

pub returns-in-Some : goal.returns-in-Some
returns-in-Some c =
    let fits : FitsSigned w32 c.in-Some.literal = search rules in
    found_here (has_of c.args.marks.now) c.args.clauses.now (c.back.i - 1) c.back.i c.index-clauses-i.result c.deref.result.now c.in-Some.literal (to_z w32 (of_z w32 c.in-Some.literal)) (omega arith) (omega arith) c.index-clauses-i.is c.deref.ensures.value (to_z-of_z w32 c.in-Some.literal fits) c.in-Some.ensures c.back.invariant.1

pub back-preserved : goal.back-preserved
back-preserved c = (omega arith, none_more (has_of c.args.marks.now) c.args.clauses.now (c.back.i - 1) c.back.i c.index-clauses-i.result c.deref.result.now (omega arith) (omega arith) c.index-clauses-i.is c.deref.ensures.value c.in_default.ensures c.back.invariant.1)
