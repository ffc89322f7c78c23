use Rattle.std.proofs.Common.{◌≡◌, ℕ, unsigned_abs, None, get_or, ap, ◌∙◌, rules, arith, FitsSigned}
use Rattle.std.specs.Int.{w32}
use Rattle.std.proofs.lemmas.Int.{to_z-of_z}
use Rattle.std.proofs.lemmas.List.{get_or_default}
use Rattle.kat_clause.specs.Clauses.{lists}
use Rattle.kat_watch.specs.States.{reason_at}
use Rattle.kat_watch.proofs.Calls.{reason_variable, reason_step, reason_forces}
use Rattle.kat_watch.proofs.watches.Watches.reason.Goals as goal

pub index-requires : goal.index-requires
index-requires c =
    let inside = c.self.inside in
    let k = c.args.literal in
    let fits : FitsSigned w32 k = search rules in
    let abs : c.unsigned_abs.result ≡ unsigned_abs k = c.unsigned_abs.ensures.value ∙ ap unsigned_abs (to_z-of_z w32 k fits) in
    omega (arith, abs, reason_variable (lists inside.clauses.items) inside.shorts.items inside.links inside.set c.args.self.now k c.self.view_is c.self.invariant c.requires, inside.set.reasons.ok.0)

pub returns-clause-step : goal.returns-clause-step
returns-clause-step c =
    let inside = c.self.inside in
    let k = c.args.literal in
    let o = c.index.result.now in
    let fits : FitsSigned w32 k = search rules in
    let abs : c.unsigned_abs.result ≡ unsigned_abs k = c.unsigned_abs.ensures.value ∙ ap unsigned_abs (to_z-of_z w32 k fits) in
    let below = reason_variable (lists inside.clauses.items) inside.shorts.items inside.links inside.set c.args.self.now k c.self.view_is c.self.invariant c.requires in
    let read : o ≡ reason_at inside.set.reasons.items k = c.index.ensures ∙ ap (λ (n : ℕ). get_or inside.set.reasons.items n o) abs ∙ get_or_default inside.set.reasons.items (unsigned_abs k) o None below in
    reason_step (lists inside.clauses.items) inside.set c.args.self.now k o c.self.view_is read

pub returns-clause-forces : goal.returns-clause-forces
returns-clause-forces c =
    let inside = c.self.inside in
    let k = c.args.literal in
    let o = c.index.result.now in
    let fits : FitsSigned w32 k = search rules in
    let abs : c.unsigned_abs.result ≡ unsigned_abs k = c.unsigned_abs.ensures.value ∙ ap unsigned_abs (to_z-of_z w32 k fits) in
    let below = reason_variable (lists inside.clauses.items) inside.shorts.items inside.links inside.set c.args.self.now k c.self.view_is c.self.invariant c.requires in
    let read : o ≡ reason_at inside.set.reasons.items k = c.index.ensures ∙ ap (λ (n : ℕ). get_or inside.set.reasons.items n o) abs ∙ get_or_default inside.set.reasons.items (unsigned_abs k) o None below in
    reason_forces (lists inside.clauses.items) inside.shorts.items inside.links inside.set c.args.self.now k o c.self.view_is c.self.invariant read
