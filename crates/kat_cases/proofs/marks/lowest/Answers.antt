use Rattle.std.proofs.Common.{◌∙◌, arith, rules, FitsSigned, to_z, of_z}
use Rattle.std.specs.Int.{w32}
use Rattle.std.proofs.lemmas.Int.{to_z-of_z}
use Rattle.std.proofs.lemmas.List.{length-map}
use Rattle.kat_clause.specs.Literals.{has_of}
use Rattle.kat_form.specs.Encodings.{senses_of, sense_of}
use Rattle.kat_cases.proofs.Loops.{lowest_turn, lowest_found}
use Rattle.kat_cases.proofs.marks.lowest.Goals as goal

pub returns-then-not-is_known : goal.returns-then-not-is_known
returns-then-not-is_known c =
    let fits : FitsSigned w32 c.variable_at.result = search rules in
    lowest_found (has_of c.args.marks.now) (senses_of c.args.meanings.now) c.loop-i.i c.is_known.result (to_z w32 (of_z w32 c.variable_at.result))
    (omega (arith, c.loop-i-test.true, length-map c.args.meanings.now sense_of)) c.is_known.ensures c.if-not-is_known.true (to_z-of_z w32 c.variable_at.result fits ∙ c.variable_at.ensures) c.loop-i.invariant

pub loop-i-preserved : goal.loop-i-preserved
loop-i-preserved c =
    lowest_turn (has_of c.args.marks.now) (senses_of c.args.meanings.now) c.loop-i.i c.is_known.result
    (omega (arith, c.loop-i-test.true, length-map c.args.meanings.now sense_of)) c.is_known.ensures c.if-not-is_known.false c.loop-i.invariant
