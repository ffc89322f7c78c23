use Rattle.std.proofs.Common.{◌<◌, ℤ, pos, length, get_or, refl, rules, FitsSigned, subst}
use Rattle.std.specs.Int.{w32}
use Rattle.std.proofs.lemmas.Int.{to_z-of_z}
use Rattle.std.proofs.lemmas.Bool.{false≢true}
use Rattle.kat_clause.specs.Literals.{code_of}
use Rattle.kat_clause.specs.Propagations.{IsIn, Enters}
use Rattle.kat_clause.proofs.Codes.{Contains-at}
use Rattle.kat_clause.proofs.Sets.{Grows-same, SameSet-itself, Grows-enters, IsIn-enters, IsSound-enters, visits_falsified, settled_open, settled_unit, forced_at}
use Rattle.kat_clause.proofs.propagation.Propagation.visit.Goals as goal

pub returns-in_default : goal.returns-in_default
returns-in_default c = (SameSet-itself c.args.self.now, visits_falsified c.args.clause.now c.args.self.now (rw c.deref.ensures.value at c.in_default.ensures))

pub returns-then-not-is_only_open : goal.returns-then-not-is_only_open
returns-then-not-is_only_open c =
    let found = rw c.deref.ensures.value at c.in-Some.ensures in
    let more = rw c.deref-2.ensures.value at c.if-not-is_only_open.ensures.1 in (
      Grows-same c.args.self.now c.args.self.now (SameSet-itself c.args.self.now),
      (λ clauses line among sound. sound),
      settled_open c.args.clause.now c.args.self.now (IsIn c.args.self.now) c.in-Some.first found.0 found.1 (λ all. false≢true (more all)),
    )

pub returns : goal.returns
returns c =
    let found = rw c.deref.ensures.value at c.in-Some.ensures in
    let behind = rw c.deref-2.ensures.value at (c.if-not-is_only_open.ensures.0 refl) in
    let literal = get_or c.args.clause.now c.in-Some.first (pos 0) in
    let below : code_of literal < length c.args.self.now.marks.items = (c.requires literal (Contains-at c.args.clause.now c.in-Some.first found.0)).0 in
    let fits : FitsSigned w32 literal = search rules in
    let P : ℤ → Type 0 = Enters c.args.self.now c.enter.new.self in
    let enters : Enters c.args.self.now c.enter.new.self literal = subst P (to_z-of_z w32 literal fits) c.in_ok-enter.ensures.ok in (
      Grows-enters c.args.self.now c.enter.new.self literal below enters,
      (λ clauses line among sound. IsSound-enters clauses line c.args.self.now c.enter.new.self literal enters (forced_at c.args.clause.now c.args.self.now c.in-Some.first found.0 found.2 behind clauses line among sound) sound),
      settled_unit c.args.clause.now c.args.self.now (IsIn c.enter.new.self) c.in-Some.first found.0 found.1 (IsIn-enters c.args.self.now c.enter.new.self literal below enters),
    )
