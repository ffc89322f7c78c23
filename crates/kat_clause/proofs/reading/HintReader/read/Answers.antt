use Rattle.std.proofs.Common.{◌≡◌, ℤ, List, IfOk, ap, subst}
use Rattle.kat_clause.specs.Readings.{Given, Reads}
use Rattle.kat_clause.proofs.Indexes.{below_size}
use Rattle.kat_clause.proofs.reading.HintReader.read.Goals as goal

pub read_clause-requires-clause-below : goal.read_clause-requires-clause-below
read_clause-requires-clause-below c = λ k has.
    let greatest : c.self.inside.greatest ≡ c.args.self.now.greatest = ap (λ (g : Given). g.greatest) c.self.view_is in
    rw (c.self.invariant.size, greatest) (below_size c.args.self.now.greatest k (c.requires k has))

pub returns-clause-step : goal.returns-clause-step
returns-clause-step c =
    let known : c.self.inside.set.trail.items ≡ c.args.self.now.known = ap (λ (g : Given). g.known) c.self.view_is in
    let P : List ℤ → Type 0 = λ old. IfOk c.read_clause.result (Reads c.args.clause.now old c.read_clause.new.set.trail.items) in
    subst P known c.read_clause.ensures.step
