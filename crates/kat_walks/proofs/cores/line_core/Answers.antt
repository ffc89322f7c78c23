use Rattle.std.proofs.Common.{ap, sym, subst, ◌∙◌, ℕ, ℤ, List, [], ◌∷◌, ◌++◌, reverse}
use Rattle.kat_clause.specs.Known.{AreUpTo, Known}
use Rattle.kat_form.specs.Encodings.{encoding}
use Rattle.kat_walks.specs.Walks.{Stays}
use Rattle.kat_walks.proofs.NodeJudgings.{again_stands, own_up_to}
use Rattle.kat_walks.proofs.cores.line_core.Goals as goal

pub tried_with-requires-clause-clause_up_to : goal.tried_with-requires-clause-clause_up_to
tried_with-requires-clause-clause_up_to c =
    let P : List ℤ → Type 0 = AreUpTo c.args.known.now.greatest in
    let Q : ℕ → Type 0 = λ g. AreUpTo g c.args.clause.now.items in
    subst P (sym c.deref.ensures.value) (subst Q (sym c.requires.stands.greatest) (own_up_to (encoding c.args.encoded.now) c.args.encoded.now.numbers c.args.path.now c.args.clause.now.items c.requires.node))

pub returns-clause-core : goal.returns-clause-core
returns-clause-core c =
    let F = (encoding c.args.encoded.now).clauses in
    let core = c.in_ok-core.core.items in
    let P : List ℤ → Type 0 = λ l. Stays (F ++ l ∷ []) (reverse c.args.path.now) [] core in
    subst P c.deref.ensures.value (c.in_ok-core.ensures.core F c.requires.stands.among c.requires.stands.all)

pub returns-clause-stands : goal.returns-clause-stands
returns-clause-stands c =
    let done = c.in_ok-assume_all.ensures in
    again_stands (encoding c.args.encoded.now) c.args.encoded.now.numbers c.args.known.now c.assume_all.new.known c.args.path.now c.requires.stands
    (done.clauses ∙ ap (λ (k : Known). k.clauses) c.in_ok-core.ensures.known)
    (done.greatest ∙ ap (λ (k : Known). k.greatest) c.in_ok-core.ensures.known)
    (done.assumed ∙ ap (λ (k : Known). k.assumed ++ c.args.path.now) c.in_ok-core.ensures.known)
