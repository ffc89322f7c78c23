use Rattle.std.proofs.Common.{◌≤◌, List, All, refl, subst, arith}
use Rattle.kat_clause.specs.Literals.{has_of}
use Rattle.kat_form.specs.declared.Meaning.{Meaning}
use Rattle.kat_form.specs.Encodings.{senses_of}
use Rattle.kat_potential.specs.Differences.{IsMetApart}
use Rattle.kat_cases.specs.Nodes.{held_from, rows}
use Rattle.kat_cases.proofs.Judgings.{split_at}
use Rattle.kat_cases.proofs.judging.split_at_values.Goals as goal

pub returns : goal.returns
returns c =
    let few : c.args.encoded.now.numbers ≤ 60 = omega (arith, c.if-encoded-gt-MOST_NUMBERS.false) in
    let P : List Meaning → Type 0 = λ ms. All (IsMetApart c.args.encoded.now.numbers c.as_slice.result.now) (rows (held_from (has_of c.args.marks.now) 1 (senses_of ms))) in
    split_at c.args.encoded.now (has_of c.args.marks.now) c.as_slice.result.now c.split.result few c.requires.walkable (subst P c.deref.ensures.value (c.if-not-are_met.ensures refl)) c.split.ensures
