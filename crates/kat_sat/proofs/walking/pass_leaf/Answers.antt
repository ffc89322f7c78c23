use Rattle.std.proofs.Common.{◌-◌, ◌^◌, option_map, subst, sym, arith}
use Rattle.kat_refute.specs.Lines.{line_of}
use Rattle.kat_cases.specs.Stacks.{Progress, HasCore, Unwound, path_of}
use Rattle.kat_clause.specs.Known.{Known}
use Rattle.kat_cases.specs.Guests.{IsPath}
use Rattle.kat_cases.proofs.Ways.{path_more}
use Rattle.kat_cases.proofs.Branches.{leaf_core}
use Rattle.kat_sat.proofs.walking.pass_leaf.Goals as goal

pub unwind-requires : goal.unwind-requires
unwind-requires c =
    let P : Progress → Type 0 = λ p. IsPath (2 ^ 28) (path_of p.steps) in
    subst P (sym c.in_ok-core.ensures.walk) (path_more c.args.known.now.greatest (2 ^ 28) (path_of c.args.walk.now.steps) c.requires.limit c.requires.path)

pub assume-requires-clause-path : goal.assume-requires-clause-path
assume-requires-clause-path c =
    let P : Progress → Type 0 = λ p. IsPath c.args.known.now.greatest (path_of p.steps) in
    let Q : Known → Type 0 = λ v. IsPath v.greatest (path_of c.unwind.new.self.steps) in
    subst Q (sym c.in_ok-core.ensures.known) (c.in_ok-unwind.ensures.path c.args.known.now.greatest (subst P (sym c.in_ok-core.ensures.walk) c.requires.path))

pub returns-then-not-branch-clause-unwound : goal.returns-then-not-branch-clause-unwound
returns-then-not-branch-clause-unwound c = λ s effort keeps judged stands.
    let now = c.args.walk.now in
    let P : Progress → Type 0 = λ p. HasCore s effort p c.in_ok-core.core.items in
    let R = Unwound s effort c.unwind.new.self in
    let h = leaf_core s effort now.steps now.left (now.left - 1) now.lines (option_map line_of c.args.line) c.in_ok-core.core.items stands judged (omega (arith, c.requires.left)) (c.in_ok-core.ensures.core s.encoding.clauses keeps.among keeps.all) in
    subst R c.if-not-branch.true (c.in_ok-unwind.ensures.unwound s effort (subst P (sym c.in_ok-core.ensures.walk) h))

pub returns-clause-unwound : goal.returns-clause-unwound
returns-clause-unwound c = λ s effort keeps judged stands.
    let now = c.args.walk.now in
    let P : Progress → Type 0 = λ p. HasCore s effort p c.in_ok-core.core.items in
    let R = Unwound s effort c.unwind.new.self in
    let h = leaf_core s effort now.steps now.left (now.left - 1) now.lines (option_map line_of c.args.line) c.in_ok-core.core.items stands judged (omega (arith, c.requires.left)) (c.in_ok-core.ensures.core s.encoding.clauses keeps.among keeps.all) in
    subst R c.if-not-branch.false (c.in_ok-unwind.ensures.unwound s effort (subst P (sym c.in_ok-core.ensures.walk) h))
