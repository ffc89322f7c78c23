use Rattle.std.proofs.Common.{ap, sym, subst, ◌∙◌, refl, ℕ, ℤ, List, [], ◌∷◌, ◌++◌, reverse}
use Rattle.kat_clause.specs.Known.{AreUpTo, Known}
use Rattle.kat_clause.proofs.Laws.{members_back}
use Rattle.kat_walks.specs.Walks.{Stays}
use Rattle.kat_walks.proofs.WalkPaths.{among_more, stays_on}
use Rattle.kat_walks.proofs.cores.tried_with.Goals as goal

pub shrink-requires-clause-assumed : goal.shrink-requires-clause-assumed
shrink-requires-clause-assumed c = ap (λ (k : Known). k.assumed) c.in_ok-add.ensures.ok.is ∙ c.requires.assumed

pub shrink-requires-clause-up_to : goal.shrink-requires-clause-up_to
shrink-requires-clause-up_to c =
    let P : ℕ → Type 0 = λ g. AreUpTo g c.args.path.now in
    subst P (sym (ap (λ (v : Known). v.greatest) c.in_ok-add.ensures.ok.is)) c.requires.up_to

pub returns-clause-core : goal.returns-clause-core
returns-clause-core c = λ F a b.
    let adds = c.in_ok-add.ensures.ok in
    let old = c.args.known.now.clauses in
    let given = c.args.clause.now in
    let core = c.in_ok-core.core.items in
    let P : List (List ℤ) → Type 0 = λ G. Stays G (reverse c.args.path.now) [] core in
    stays_on (old ++ adds.added ∷ []) (F ++ given ∷ []) (reverse c.args.path.now) (reverse c.args.path.now) core
    (among_more old F adds.added given adds.same a) (among_more F old given adds.added (members_back adds.added given adds.same) b)
    refl (subst P (ap (λ (k : Known). k.clauses) adds.is) c.in_ok-core.ensures.core)
