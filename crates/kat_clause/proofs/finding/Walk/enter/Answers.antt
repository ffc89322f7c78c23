use Rattle.std.proofs.Common.{◌≡◌, ◌+◌, ◌++◌, ◌∷◌, ℕ, ℤ, neg_ℤ, List, Bool, [], length, get_or, refl, sym, ap, ◌∙◌, subst, rules, FitsSigned}
use Rattle.std.specs.Int.{w32}
use Rattle.std.proofs.lemmas.Int.{to_z-of_z}
use Rattle.kat_clause.specs.declared.finding.Walk.{Walk}
use Rattle.kat_clause.specs.Clauses.{lists, SameMembers}
use Rattle.kat_clause.specs.Literals.{code_of}
use Rattle.kat_clause.specs.Tables.{rows, AreBelow}
use Rattle.kat_clause.specs.Propagations.{Enters, Grows, unmarked}
use Rattle.kat_clause.specs.Findings.{AreNoticed}
use Rattle.kat_clause.proofs.Sets.{Grows-enters}
use Rattle.kat_clause.proofs.ReadingSteps.{members_enter}
use Rattle.kat_clause.proofs.WalkSteps.{entered_walk, entered_noticed, entered_fresh}
use Rattle.kat_clause.proofs.finding.Walk.enter.Goals as goal

pub look_all-requires-clause-below : goal.look_all-requires-clause-below
look_all-requires-clause-below c =
    let literal = c.args.literal in
    let fits : FitsSigned w32 literal = search rules in
    let P : ℤ → Type 0 = Enters c.args.self.now.set c.enter.new.self in
    let enters : Enters c.args.self.now.set c.enter.new.self literal = subst P (to_z-of_z w32 literal fits) c.in_ok-enter.ensures.ok in
    let grows : Grows c.args.self.now.set c.enter.new.self = Grows-enters c.args.self.now.set c.enter.new.self literal c.requires.literal enters in
    let size : length c.enter.new.self.marks.items ≡ length (rows c.args.table.now) = grows.size ∙ c.requires.size in
    let Q : ℕ → Type 0 = λ n. AreBelow n (lists c.args.clauses.now) in
    subst Q (sym size) c.requires.index.below

pub look_all-requires-clause-walk : goal.look_all-requires-clause-walk
look_all-requires-clause-walk c =
    let literal = c.args.literal in
    let fits : FitsSigned w32 literal = search rules in
    let P : ℤ → Type 0 = Enters c.args.self.now.set c.enter.new.self in
    let enters : Enters c.args.self.now.set c.enter.new.self literal = subst P (to_z-of_z w32 literal fits) c.in_ok-enter.ensures.ok in
    entered_walk (lists c.args.clauses.now) c.args.self.now _ literal c.requires.literal enters refl refl c.requires.walk

pub returns-clause-entered : goal.returns-clause-entered
returns-clause-entered c =
    let literal = c.args.literal in
    let fits : FitsSigned w32 literal = search rules in
    let P : ℤ → Type 0 = Enters c.args.self.now.set c.enter.new.self in
    let enters : Enters c.args.self.now.set c.enter.new.self literal = subst P (to_z-of_z w32 literal fits) c.in_ok-enter.ensures.ok in
    let Q : List ℤ → Type 0 = λ trail. SameMembers trail (c.args.self.now.set.trail.items ++ literal ∷ []) in
    subst Q (sym c.look_all.ensures.set.trail) (members_enter c.args.self.now.set c.enter.new.self literal c.requires.walk.is_set enters)

pub returns-clause-fresh : goal.returns-clause-fresh
returns-clause-fresh c = λ fresh.
    let literal = c.args.literal in
    let fits : FitsSigned w32 literal = search rules in
    let P : ℤ → Type 0 = Enters c.args.self.now.set c.enter.new.self in
    let enters : Enters c.args.self.now.set c.enter.new.self literal = subst P (to_z-of_z w32 literal fits) c.in_ok-enter.ensures.ok in
    let Q : List Bool → Type 0 = λ marks. unmarked marks + 1 ≡ unmarked c.args.self.now.set.marks.items in
    subst Q (sym c.look_all.ensures.set.marks) (entered_fresh c.args.self.now.set c.enter.new.self literal c.requires.walk.is_set c.requires.literal enters fresh)

pub returns-clause-noticed : goal.returns-clause-noticed
returns-clause-noticed c = λ pending giving before.
    let literal = c.args.literal in
    let fits : FitsSigned w32 literal = search rules in
    let P : ℤ → Type 0 = Enters c.args.self.now.set c.enter.new.self in
    let enters : Enters c.args.self.now.set c.enter.new.self literal = subst P (to_z-of_z w32 literal fits) c.in_ok-enter.ensures.ok in
    let mid : Walk = record { set = c.enter.new.self; places = c.args.self.now.places; queue = c.args.self.now.queue; falsified = c.args.self.now.falsified } in
    let code : c.opposite_code.result ≡ code_of (neg_ℤ literal) = c.opposite_code.ensures ∙ ap (λ (k : ℤ). code_of (neg_ℤ k)) (to_z-of_z w32 literal fits) in
    let row : c.row.result.now ≡ get_or (rows c.args.table.now) (code_of (neg_ℤ literal)) [] = c.row.ensures ∙ ap (λ (x : ℕ). get_or (rows c.args.table.now) x []) code in
    let Q : List ℕ → Type 0 = λ numbers. AreNoticed (lists c.args.clauses.now) numbers mid in
    c.in_ok-look_all.ensures.noticed (subst Q (sym row) (entered_noticed (lists c.args.clauses.now) (rows c.args.table.now) pending c.args.self.now mid literal c.requires.index c.requires.walk.is_set enters refl refl giving before))
