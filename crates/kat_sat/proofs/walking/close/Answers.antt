use Rattle.std.proofs.Common.{ℤ, List, ◌++◌, option_map, subst, sym}
use Rattle.kat_refute.specs.Lines.{line_of, added}
use Rattle.kat_cases.specs.Walks.{own}
use Rattle.kat_clause.proofs.Laws.{among_itself}
use Rattle.kat_cases.specs.Stacks.{AreSmall, path_of}
use Rattle.kat_cases.proofs.Branches.{core_small}
use Rattle.kat_cases.proofs.Ways.{path_limit}
use Rattle.kat_sat.proofs.walking.close.Goals as goal

pub record-requires : goal.record-requires
record-requires c =
    let clauses = c.args.known.now.clauses in
    let P : List ℤ → Type 0 = AreSmall in
    subst P (sym c.deref.ensures.value)
    (core_small (clauses ++ added (own (option_map line_of c.args.line))) (path_of c.args.walk.now.steps) c.in_ok-core.core.items c.args.known.now.greatest (c.in_ok-core.ensures.core clauses (among_itself clauses) (among_itself clauses)) (path_limit c.args.known.now.greatest (path_of c.args.walk.now.steps) c.requires.path) c.requires.limit)
