use Rattle.std.proofs.Common.{ap, ◌∙◌, reverse}
use Rattle.kat_cases.specs.Stacks.{path_of}
use Rattle.kat_cases.proofs.Paths.{back_same, shrinks_on}
use Rattle.kat_cases.proofs.Ways.{path_may}
use Rattle.kat_cases.proofs.stack.Walk.plain_core.Goals as goal

pub shrink-requires-clause-assumed : goal.shrink-requires-clause-assumed
shrink-requires-clause-assumed c =
    back_same c.args.known.now.assumed c.deref.result.now (path_of c.args.self.now.steps) c.requires.assumed (ap reverse c.deref.ensures.value ∙ c.in_ok-path.ensures)

pub shrink-requires-clause-path : goal.shrink-requires-clause-path
shrink-requires-clause-path c =
    path_may c.args.known.now.greatest (path_of c.args.self.now.steps) c.deref.result.now (ap reverse c.deref.ensures.value ∙ c.in_ok-path.ensures) c.requires.path

pub returns-clause-core : goal.returns-clause-core
returns-clause-core c = λ F a b. shrinks_on c.args.known.now.clauses F (reverse c.deref.result.now) (path_of c.args.self.now.steps) c.in_ok-core.core.items a b (ap reverse c.deref.ensures.value ∙ c.in_ok-path.ensures) c.in_ok-core.ensures.core
