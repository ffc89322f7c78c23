use Rattle.std.proofs.Common.{◌↔◌, List, Bool, IsTrue, sym, subst, Contains}
use Rattle.kat_clause.specs.Clauses.{lists}
use Rattle.kat_clause.specs.Literals.{has_of}
use Rattle.kat_watch.specs.Watched.{literals}
use Rattle.kat_watch.proofs.Calls.{marks_done}
use Rattle.kat_watch.proofs.watches.Watches.marks.Goals as goal

pub returns : goal.returns
returns c = λ k.
    let P : List Bool → Type 0 = λ ms. IsTrue (has_of ms k) ↔ Contains (literals c.args.self.now.trail) k in
    subst P (sym c.deref.ensures.value) (marks_done (lists c.self.inside.clauses.items) c.self.inside.shorts.items c.self.inside.links c.self.inside.set c.args.self.now c.self.view_is c.self.invariant k)
