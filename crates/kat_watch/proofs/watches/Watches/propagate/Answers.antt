use Rattle.std.proofs.Common.{ℕ, ℤ, List, Vec, Some, None, subst}
use Rattle.std.specs.Global.{Global}
use Rattle.kat_clause.specs.Clauses.{lists}
use Rattle.kat_watch.specs.States.{PassesAll, WalksAll}
use Rattle.kat_watch.specs.declared.watches.Propagation.TheVariants.{Quiet, Conflict}
use Rattle.kat_watch.proofs.Cores.{advances_trans}
use Rattle.kat_watch.proofs.Passes.{state_after}
use Rattle.kat_watch.proofs.Calls.{propagates, quiet_after}
use Rattle.kat_watch.proofs.watches.Watches.propagate.Goals as goal

pub returns-in-Some : goal.returns-in-Some
returns-in-Some c =
    let inside = c.self.inside in
    let new = c.pass_shorts.new.set in
    let P : List (Vec ℤ Global) → Type 0 = λ cs. PassesAll (lists cs) c.deref-2.result.now inside.links inside.set new (Some c.in-Some.short) in
    let Q : List ℕ → Type 0 = λ ns. PassesAll (lists inside.clauses.items) ns inside.links inside.set new (Some c.in-Some.short) in
    let passes = subst Q c.deref-2.ensures.value (subst P c.deref.ensures.value c.in-Some.ensures) in
    propagates (lists inside.clauses.items) inside.set new c.args.self.now (Conflict c.in-Some.short) c.self.view_is passes.advances passes.ends

pub invariant_of-self-in-Some-walk_all : goal.invariant_of-self-in-Some-walk_all
invariant_of-self-in-Some-walk_all c =
    let inside = c.self.inside in
    let mid = c.pass_shorts.new.set in
    let new = c.walk_all.new.set in
    let P : List (Vec ℤ Global) → Type 0 = λ cs. PassesAll (lists cs) c.deref-2.result.now inside.links inside.set mid None in
    let Q : List ℕ → Type 0 = λ ns. PassesAll (lists inside.clauses.items) ns inside.links inside.set mid None in
    let passes = subst Q c.deref-2.ensures.value (subst P c.deref.ensures.value c.in_default.ensures) in
    let R : List (Vec ℤ Global) → Type 0 = λ cs. WalksAll (lists cs) c.walk_all.new.links mid new (Some c.in-Some-walk_all.number) in
    state_after (lists inside.clauses.items) inside.shorts.items inside.links c.walk_all.new.links mid new (Some c.in-Some-walk_all.number) passes.state (subst R c.deref-3.ensures.value c.in-Some-walk_all.ensures)

pub returns-in-Some-walk_all : goal.returns-in-Some-walk_all
returns-in-Some-walk_all c =
    let inside = c.self.inside in
    let mid = c.pass_shorts.new.set in
    let new = c.walk_all.new.set in
    let P : List (Vec ℤ Global) → Type 0 = λ cs. PassesAll (lists cs) c.deref-2.result.now inside.links inside.set mid None in
    let Q : List ℕ → Type 0 = λ ns. PassesAll (lists inside.clauses.items) ns inside.links inside.set mid None in
    let passes = subst Q c.deref-2.ensures.value (subst P c.deref.ensures.value c.in_default.ensures) in
    let R : List (Vec ℤ Global) → Type 0 = λ cs. WalksAll (lists cs) c.walk_all.new.links mid new (Some c.in-Some-walk_all.number) in
    let walks = subst R c.deref-3.ensures.value c.in-Some-walk_all.ensures in
    propagates (lists inside.clauses.items) inside.set new c.args.self.now (Conflict c.in-Some-walk_all.number) c.self.view_is (advances_trans (lists inside.clauses.items) inside.set mid new passes.advances walks.advances) walks.ends

pub invariant_of-self-2 : goal.invariant_of-self-2
invariant_of-self-2 c =
    let inside = c.self.inside in
    let mid = c.pass_shorts.new.set in
    let new = c.walk_all.new.set in
    let P : List (Vec ℤ Global) → Type 0 = λ cs. PassesAll (lists cs) c.deref-2.result.now inside.links inside.set mid None in
    let Q : List ℕ → Type 0 = λ ns. PassesAll (lists inside.clauses.items) ns inside.links inside.set mid None in
    let passes = subst Q c.deref-2.ensures.value (subst P c.deref.ensures.value c.in_default.ensures) in
    let R : List (Vec ℤ Global) → Type 0 = λ cs. WalksAll (lists cs) c.walk_all.new.links mid new None in
    state_after (lists inside.clauses.items) inside.shorts.items inside.links c.walk_all.new.links mid new None passes.state (subst R c.deref-3.ensures.value c.in_default-walk_all.ensures)

pub returns : goal.returns
returns c =
    let inside = c.self.inside in
    let mid = c.pass_shorts.new.set in
    let new = c.walk_all.new.set in
    let clauses = lists inside.clauses.items in
    let P : List (Vec ℤ Global) → Type 0 = λ cs. PassesAll (lists cs) c.deref-2.result.now inside.links inside.set mid None in
    let Q : List ℕ → Type 0 = λ ns. PassesAll clauses ns inside.links inside.set mid None in
    let passes = subst Q c.deref-2.ensures.value (subst P c.deref.ensures.value c.in_default.ensures) in
    let R : List (Vec ℤ Global) → Type 0 = λ cs. WalksAll (lists cs) c.walk_all.new.links mid new None in
    let walks = subst R c.deref-3.ensures.value c.in_default-walk_all.ensures in
    propagates clauses inside.set new c.args.self.now Quiet c.self.view_is (advances_trans clauses inside.set mid new passes.advances walks.advances)
    (quiet_after clauses inside.shorts.items inside.links c.walk_all.new.links mid new c.tells_arranged.ensures passes.state passes.ends walks)
