use Rattle.std.proofs.Common.{◌≡◌, ap, ◌∙◌, rules, arith, FitsSigned}
use Rattle.std.specs.Int.{w32}
use Rattle.std.proofs.lemmas.Int.{to_z-of_z}
use Rattle.kat_clause.specs.Clauses.{lists}
use Rattle.kat_clause.specs.Literals.{code_of}
use Rattle.kat_watch.proofs.Calls.{has_done, has_below}
use Rattle.kat_watch.proofs.watches.Watches.has.Goals as goal

pub index-requires : goal.index-requires
index-requires c =
    let inside = c.self.inside in
    let k = c.args.literal in
    let fits : FitsSigned w32 k = search rules in
    let code : c.code.result ≡ code_of k = c.code.ensures ∙ ap code_of (to_z-of_z w32 k fits) in
    omega (arith, code, has_below (lists inside.clauses.items) inside.shorts.items inside.links inside.set c.args.self.now k c.self.view_is c.self.invariant c.requires, inside.set.marks.ok.0)

pub returns : goal.returns
returns c =
    let inside = c.self.inside in
    let k = c.args.literal in
    let fits : FitsSigned w32 k = search rules in
    let code : c.code.result ≡ code_of k = c.code.ensures ∙ ap code_of (to_z-of_z w32 k fits) in
    has_done (lists inside.clauses.items) inside.shorts.items inside.links inside.set c.args.self.now k c.code.result c.index.result.now c.self.view_is c.self.invariant c.requires code c.index.ensures
