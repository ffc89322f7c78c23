use Rattle.std.proofs.Common.{◌≤◌, ℤ, List, length, Bool, true, false, Ok, refl, sym, ◌∙◌, subst, Vec}
use Rattle.std.specs.Global.{Global}
use Rattle.std.proofs.lemmas.Bool.{false≢true}
use Rattle.kat_clause.specs.Clauses.{lists, Follows, opposites}
use Rattle.kat_clause.specs.Known.{Known}
use Rattle.kat_clause.specs.Tables.{rows}
use Rattle.kat_clause.specs.Propagations.{Advances, LooksAtNew, LooksUp}
use Rattle.kat_clause.specs.Levels.{assumed_in}
use Rattle.kat_clause.proofs.Runs.{Advances-trans, follows_not}
use Rattle.kat_clause.proofs.Levels.{consistent_advances, consistent_settled}
use Rattle.kat_clause.proofs.known.Clauses.propagate.Goals as goal

pub look_at_new-requires : goal.look_at_new-requires
look_at_new-requires c = rw (c.deref.ensures.value, c.self.invariant.marks ∙ sym c.self.invariant.size) c.self.invariant.index.below

pub invariant_of-self : goal.invariant_of-self
invariant_of-self c =
    let inside = c.self.inside in
    let clauses = lists inside.clauses.items in
    let on : Advances clauses inside.set c.look_at_new.new.self = rw c.deref.ensures.value at c.in_err-look_at_new.ensures in
    consistent_advances inside.greatest clauses (rows inside.table.items) inside.set c.look_at_new.new.self inside.levels.items inside.settled on c.self.invariant

pub invariant_of-self-then-branch : goal.invariant_of-self-then-branch
invariant_of-self-then-branch c =
    let inside = c.self.inside in
    let clauses = lists inside.clauses.items in
    let P : List (Vec ℤ Global) → Type 0 = λ cs. LooksAtNew (lists cs) inside.set c.look_at_new.new.self (Ok c.in_ok-look_at_new.field-0) in
    let Q : Bool → Type 0 = λ b. LooksAtNew clauses inside.set c.look_at_new.new.self (Ok b) in
    let looked : LooksAtNew clauses inside.set c.look_at_new.new.self (Ok true) = subst Q c.if-branch.true (subst P c.deref.ensures.value c.in_ok-look_at_new.ensures) in
    consistent_advances inside.greatest clauses (rows inside.table.items) inside.set c.look_at_new.new.self inside.levels.items inside.settled looked.0 c.self.invariant

pub returns-then-branch-clause-falsified : goal.returns-then-branch-clause-falsified
returns-then-branch-clause-falsified c =
    let inside = c.self.inside in
    let clauses = lists inside.clauses.items in
    let P : List (Vec ℤ Global) → Type 0 = λ cs. LooksAtNew (lists cs) inside.set c.look_at_new.new.self (Ok c.in_ok-look_at_new.field-0) in
    let Q : Bool → Type 0 = λ b. LooksAtNew clauses inside.set c.look_at_new.new.self (Ok b) in
    let looked : LooksAtNew clauses inside.set c.look_at_new.new.self (Ok true) = subst Q c.if-branch.true (subst P c.deref.ensures.value c.in_ok-look_at_new.ensures) in
    let F : Known → Type 0 = λ v. Follows v.clauses (opposites v.assumed) in
    (λ _. subst F c.self.view_is (looked.1 (assumed_in inside.levels.items) c.self.invariant.holds), λ _. refl)

pub invariant_of-self-in_err-look_up : goal.invariant_of-self-in_err-look_up
invariant_of-self-in_err-look_up c =
    let inside = c.self.inside in
    let clauses = lists inside.clauses.items in
    let P : List (Vec ℤ Global) → Type 0 = λ cs. LooksAtNew (lists cs) inside.set c.look_at_new.new.self (Ok c.in_ok-look_at_new.field-0) in
    let Q : Bool → Type 0 = λ b. LooksAtNew clauses inside.set c.look_at_new.new.self (Ok b) in
    let first : LooksAtNew clauses inside.set c.look_at_new.new.self (Ok false) = subst Q c.if-branch.false (subst P c.deref.ensures.value c.in_ok-look_at_new.ensures) in
    let second : length clauses ≤ c.look_at_new.new.self.seen → Advances clauses c.look_at_new.new.self c.look_up.new.self = rw c.deref-2.ensures.value at c.in_err-look_up.ensures in
    consistent_advances inside.greatest clauses (rows inside.table.items) inside.set c.look_up.new.self inside.levels.items inside.settled (Advances-trans clauses inside.set c.look_at_new.new.self c.look_up.new.self first.0 (second first.1)) c.self.invariant

pub invariant_of-self-then-branch-2 : goal.invariant_of-self-then-branch-2
invariant_of-self-then-branch-2 c =
    let inside = c.self.inside in
    let clauses = lists inside.clauses.items in
    let P : List (Vec ℤ Global) → Type 0 = λ cs. LooksAtNew (lists cs) inside.set c.look_at_new.new.self (Ok c.in_ok-look_at_new.field-0) in
    let Q : Bool → Type 0 = λ b. LooksAtNew clauses inside.set c.look_at_new.new.self (Ok b) in
    let first : LooksAtNew clauses inside.set c.look_at_new.new.self (Ok false) = subst Q c.if-branch.false (subst P c.deref.ensures.value c.in_ok-look_at_new.ensures) in
    let R : List (Vec ℤ Global) → Type 0 = λ cs. LooksUp (lists cs) c.look_at_new.new.self c.look_up.new.self (Ok c.in_ok-look_up.field-0) in
    let S : Bool → Type 0 = λ b. LooksUp clauses c.look_at_new.new.self c.look_up.new.self (Ok b) in
    let second : LooksUp clauses c.look_at_new.new.self c.look_up.new.self (Ok true) = subst S c.if-branch-2.true (subst R c.deref-2.ensures.value c.in_ok-look_up.ensures) in
    consistent_advances inside.greatest clauses (rows inside.table.items) inside.set c.look_up.new.self inside.levels.items inside.settled (Advances-trans clauses inside.set c.look_at_new.new.self c.look_up.new.self first.0 (second first.1).0) c.self.invariant

pub returns-then-branch-2-clause-falsified : goal.returns-then-branch-2-clause-falsified
returns-then-branch-2-clause-falsified c =
    let inside = c.self.inside in
    let clauses = lists inside.clauses.items in
    let P : List (Vec ℤ Global) → Type 0 = λ cs. LooksAtNew (lists cs) inside.set c.look_at_new.new.self (Ok c.in_ok-look_at_new.field-0) in
    let Q : Bool → Type 0 = λ b. LooksAtNew clauses inside.set c.look_at_new.new.self (Ok b) in
    let first : LooksAtNew clauses inside.set c.look_at_new.new.self (Ok false) = subst Q c.if-branch.false (subst P c.deref.ensures.value c.in_ok-look_at_new.ensures) in
    let R : List (Vec ℤ Global) → Type 0 = λ cs. LooksUp (lists cs) c.look_at_new.new.self c.look_up.new.self (Ok c.in_ok-look_up.field-0) in
    let S : Bool → Type 0 = λ b. LooksUp clauses c.look_at_new.new.self c.look_up.new.self (Ok b) in
    let second : LooksUp clauses c.look_at_new.new.self c.look_up.new.self (Ok true) = subst S c.if-branch-2.true (subst R c.deref-2.ensures.value c.in_ok-look_up.ensures) in
    let F : Known → Type 0 = λ v. Follows v.clauses (opposites v.assumed) in
    (λ _. subst F c.self.view_is ((second first.1).1 (assumed_in inside.levels.items) (first.0.holds (assumed_in inside.levels.items) c.self.invariant.holds)), λ _. refl)

pub invariant_of-self-2 : goal.invariant_of-self-2
invariant_of-self-2 c =
    let inside = c.self.inside in
    let clauses = lists inside.clauses.items in
    let P : List (Vec ℤ Global) → Type 0 = λ cs. LooksAtNew (lists cs) inside.set c.look_at_new.new.self (Ok c.in_ok-look_at_new.field-0) in
    let Q : Bool → Type 0 = λ b. LooksAtNew clauses inside.set c.look_at_new.new.self (Ok b) in
    let first : LooksAtNew clauses inside.set c.look_at_new.new.self (Ok false) = subst Q c.if-branch.false (subst P c.deref.ensures.value c.in_ok-look_at_new.ensures) in
    let R : List (Vec ℤ Global) → Type 0 = λ cs. LooksUp (lists cs) c.look_at_new.new.self c.look_up.new.self (Ok c.in_ok-look_up.field-0) in
    let S : Bool → Type 0 = λ b. LooksUp clauses c.look_at_new.new.self c.look_up.new.self (Ok b) in
    let second : LooksUp clauses c.look_at_new.new.self c.look_up.new.self (Ok false) = subst S c.if-branch-2.false (subst R c.deref-2.ensures.value c.in_ok-look_up.ensures) in
    consistent_settled inside.greatest clauses (rows inside.table.items) c.look_up.new.self inside.levels.items false (second first.1).1
    (consistent_advances inside.greatest clauses (rows inside.table.items) inside.set c.look_up.new.self inside.levels.items inside.settled (Advances-trans clauses inside.set c.look_at_new.new.self c.look_up.new.self first.0 (second first.1).0) c.self.invariant)

pub returns-clause-falsified : goal.returns-clause-falsified
returns-clause-falsified c =
    let inside = c.self.inside in
    let clauses = lists inside.clauses.items in
    let assumed = assumed_in inside.levels.items in
    let P : List (Vec ℤ Global) → Type 0 = λ cs. LooksAtNew (lists cs) inside.set c.look_at_new.new.self (Ok c.in_ok-look_at_new.field-0) in
    let Q : Bool → Type 0 = λ b. LooksAtNew clauses inside.set c.look_at_new.new.self (Ok b) in
    let first : LooksAtNew clauses inside.set c.look_at_new.new.self (Ok false) = subst Q c.if-branch.false (subst P c.deref.ensures.value c.in_ok-look_at_new.ensures) in
    let R : List (Vec ℤ Global) → Type 0 = λ cs. LooksUp (lists cs) c.look_at_new.new.self c.look_up.new.self (Ok c.in_ok-look_up.field-0) in
    let S : Bool → Type 0 = λ b. LooksUp clauses c.look_at_new.new.self c.look_up.new.self (Ok b) in
    let second : LooksUp clauses c.look_at_new.new.self c.look_up.new.self (Ok false) = subst S c.if-branch-2.false (subst R c.deref-2.ensures.value c.in_ok-look_up.ensures) in
    let on : Advances clauses inside.set c.look_up.new.self = Advances-trans clauses inside.set c.look_at_new.new.self c.look_up.new.self first.0 (second first.1).0 in
    let never : Follows clauses (opposites assumed) → ⊥ = follows_not clauses assumed c.look_up.new.self (second first.1).1 (on.holds assumed c.self.invariant.holds) in
    let F : Known → Type 0 = λ v. Follows v.clauses (opposites v.assumed) → ⊥ in
    (λ e. absurd (false≢true e), λ h. absurd (subst F c.self.view_is never h))
