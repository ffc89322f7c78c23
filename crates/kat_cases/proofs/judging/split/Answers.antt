use Rattle.std.proofs.Common.{◌≤◌, ◌^◌, ℤ, List, Vec, All, unsigned_abs, length, subst, sym, arith}
use Rattle.std.specs.Global.{Global}
use Rattle.std.proofs.lemmas.List.{length-map}
use Rattle.kat_form.specs.Encodings.{senses_of, sense_of}
use Rattle.kat_cases.proofs.Judgings.{clauses_small}
use Rattle.kat_cases.proofs.judging.split.Goals as goal

pub choose-requires : goal.choose-requires
choose-requires c =
    let P : List (Vec ℤ Global) → Type 0 = λ cs. All (λ (d : Vec ℤ Global). All (λ k. unsigned_abs k ≤ 2 ^ 28) d.items) cs in
    subst P (sym c.deref-2.ensures.value)
    (clauses_small (length (senses_of c.args.encoded.now.meanings.items)) c.args.encoded.now.clauses.items (omega (arith, c.requires.variables, length-map c.args.encoded.now.meanings.items sense_of)) c.requires.walkable.fit.literals)
