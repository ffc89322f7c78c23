use Rattle.std.proofs.Common.{ap, sym, subst, ◌∙◌, refl, ℤ, List, [], ◌++◌, reverse}
use Rattle.std.proofs.lemmas.List.{append-nil}
use Rattle.kat_clause.specs.Known.{Known}
use Rattle.kat_form.specs.Encodings.{encoding}
use Rattle.kat_walks.specs.Walks.{Stays}
use Rattle.kat_walks.proofs.NodeJudgings.{again_stands}
use Rattle.kat_walks.proofs.WalkPaths.{stays_on}
use Rattle.kat_walks.proofs.cores.plain_core.Goals as goal

pub returns-clause-core : goal.returns-clause-core
returns-clause-core c =
    let F = (encoding c.args.encoded.now).clauses in
    let core = c.in_ok-core.core.items in
    let P : List (List ℤ) → Type 0 = λ G. Stays G (reverse c.args.path.now) [] core in
    subst P (sym (append-nil F)) (stays_on c.args.known.now.clauses F (reverse c.args.path.now) (reverse c.args.path.now) core c.requires.among c.requires.all refl c.in_ok-core.ensures.core)

pub returns-clause-stands : goal.returns-clause-stands
returns-clause-stands c =
    let done = c.in_ok-assume_all.ensures in
    again_stands (encoding c.args.encoded.now) c.args.encoded.now.numbers c.args.known.now c.assume_all.new.known c.args.path.now c.requires
    (done.clauses ∙ ap (λ (k : Known). k.clauses) c.undo.ensures ∙ c.in_ok-core.ensures.clauses)
    (done.greatest ∙ ap (λ (k : Known). k.greatest) c.undo.ensures ∙ c.in_ok-core.ensures.greatest)
    (done.assumed ∙ ap (λ (k : Known). k.assumed ++ c.args.path.now) c.undo.ensures)
