use Rattle.std.proofs.Common.{ap, sym, subst, ◌∙◌, ℤ, List, [], ◌∷◌, ◌++◌, reverse}
use Rattle.kat_watch.specs.Watched.{AreLiterals}
use Rattle.kat_cases.specs.Walks.{Shrinks}
use Rattle.kat_cases.specs.Stacks.{path_of}
use Rattle.kat_cases.proofs.Paths.{back_same, shrinks_on, among_more}
use Rattle.kat_cases.proofs.Ways.{path_may}
use Rattle.kat_cases.proofs.stack.Walk.line_core.Goals as goal

pub shrink-requires-clause-assumed : goal.shrink-requires-clause-assumed
shrink-requires-clause-assumed c =
    back_same c.args.known.now.assumed c.deref.result.now (path_of c.args.self.now.steps) c.requires.assumed (ap reverse c.deref.ensures.value ∙ c.in_ok-path.ensures)

pub shrink-requires-clause-path : goal.shrink-requires-clause-path
shrink-requires-clause-path c =
    path_may c.args.known.now.greatest (path_of c.args.self.now.steps) c.deref.result.now (ap reverse c.deref.ensures.value ∙ c.in_ok-path.ensures) c.requires.path

pub shrink-requires-clause-guest : goal.shrink-requires-clause-guest
shrink-requires-clause-guest c = let P : List ℤ → Type 0 = AreLiterals c.args.known.now.greatest in subst P (sym c.literals.ensures) c.requires.literals

pub returns-clause-core : goal.returns-clause-core
returns-clause-core c = λ F a b.
    let old = c.args.known.now.clauses in
    let given = c.literals.result.now in
    let path = path_of c.args.self.now.steps in
    let core = c.in_ok-core.core.items in
    let Q : List ℤ → Type 0 = λ l. Shrinks (F ++ l ∷ []) path [] core in
    subst Q c.literals.ensures
    (shrinks_on (old ++ given ∷ []) (F ++ given ∷ []) (reverse c.deref.result.now) path core
    (among_more old F given given (λ k. (λ h. h, λ h. h)) a) (among_more F old given given (λ k. (λ h. h, λ h. h)) b)
    (ap reverse c.deref.ensures.value ∙ c.in_ok-path.ensures) c.in_ok-core.ensures.core)
