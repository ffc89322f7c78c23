use Rattle.std.proofs.Common.{◌≡◌, ℤ, List, ◌++◌, ap, subst}
use Rattle.std.specs.Result.{OnOk}
use Rattle.kat_clause.specs.Clauses.{SameMembers, opposites}
use Rattle.kat_clause.specs.Readings.{Given}
use Rattle.kat_clause.proofs.Indexes.{below_size}
use Rattle.kat_clause.proofs.reading.HintReader.deny.Goals as goal

pub deny_all-requires-clause-below : goal.deny_all-requires-clause-below
deny_all-requires-clause-below c = λ k has.
    let greatest : c.self.inside.greatest ≡ c.args.self.now.greatest = ap (λ (g : Given). g.greatest) c.self.view_is in
    rw (c.self.invariant.size, greatest) (below_size c.args.self.now.greatest k (c.requires k has))

pub returns-clause-ok : goal.returns-clause-ok
returns-clause-ok c =
    let known : c.self.inside.set.trail.items ≡ c.args.self.now.known = ap (λ (g : Given). g.known) c.self.view_is in
    let P : List ℤ → Type 0 = λ old. OnOk c.deny_all.result (SameMembers c.deny_all.new.set.trail.items (old ++ opposites c.args.line.now)) in
    subst P known c.deny_all.ensures.ok
