use Rattle.std.proofs.Common.{◌≡◌, ◌↔◌, ℤ, neg_ℤ, true, ap, ◌∙◌, subst, Contains}
use Rattle.kat_clause.specs.Clauses.{Derived, opposites}
use Rattle.kat_clause.specs.Known.{Known}
use Rattle.kat_watch.specs.Watched.{literals}
use Rattle.kat_cases.specs.Assuming.{assumed_in, kept_in}
use Rattle.kat_cases.specs.Guests.{AreApart}
use Rattle.kat_cases.proofs.Assuming.{settled_derives}
use Rattle.kat_cases.proofs.assumptions.Assumptions.tells_apart.Goals as goal

pub returns-clause-apart : goal.returns-clause-apart
returns-clause-apart c =
    let inside = c.self.inside in
    let on : inside.settled ≡ true = ap (λ (v : Known). v.settled) c.self.view_is ∙ c.requires in
    let told : (k : ℤ) → Contains (literals inside.watches.trail) k ↔ Derived inside.watches.clauses (opposites (assumed_in inside.levels.items)) k =
    settled_derives inside.watches (assumed_in inside.levels.items) (kept_in inside.levels.items) inside.clash inside.settled on c.tells_supported.ensures.supported c.self.invariant in
    let P : Known → Type 0 = λ v. AreApart v.clauses v.assumed in
    subst P c.self.view_is (λ k d e. c.tells_supported.ensures.apart k ((told k).1 d) ((told (neg_ℤ k)).1 e))
