use Rattle.std.proofs.Common.{◌≡◌, ◌++◌, All, [], Option, subst, option_map}
use Rattle.std.proofs.lemmas.List.Elements.{All-head}
use Rattle.kat_watch.specs.Watched.{AreLiterals}
use Rattle.kat_refute.specs.declared.ProofLine.{ProofLine}
use Rattle.kat_refute.specs.Lines.{Line, line_of, literals_of}
use Rattle.kat_cases.specs.Walks.{own}
use Rattle.kat_cases.specs.Stacks.{path_of}
use Rattle.kat_cases.proofs.Branches.{with_nothing, ok_always, more_nothing}
use Rattle.kat_cases.proofs.stack.Walk.own_core.Goals as goal

pub line_core-requires-clause-literals : goal.line_core-requires-clause-literals
line_core-requires-clause-literals c =
    let P : Option ProofLine → Type 0 = λ o. All (λ l. AreLiterals c.args.known.now.greatest (literals_of l)) (own (option_map line_of o)) in
    All-head (λ (l : Line). AreLiterals c.args.known.now.greatest (literals_of l)) (line_of c.in-Some.line) [] (subst P c.in-Some.is c.requires.literals)

pub returns-in-Some : goal.returns-in-Some
returns-in-Some c = rw c.in-Some.is (record { core = c.line_core.ensures.core; walk = c.line_core.ensures.walk; known = c.line_core.ensures.known })

pub returns-in-None : goal.returns-in-None
returns-in-None c =
    let now = c.args.self.now in
    rw c.in-None.is (record {
      core = with_nothing c.plain_core.result c.args.known.now.clauses (path_of now.steps) c.plain_core.ensures.core;
      walk = ok_always c.plain_core.result (now ≡ record { steps = now.steps; lines = now.lines ++ []; left = now.left }) (more_nothing now);
      known = c.plain_core.ensures.known;
    })
