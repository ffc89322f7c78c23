use Rattle.std.proofs.Common.{◌≡◌, ◌-◌, ℕ, ◌∙◌, ◌++◌, ℤ, List, ap, sym, subst, arith, rules, FitsSigned, to_z, of_z, get_or, pos, length, take, option_map}
use Rattle.std.specs.Int.{w32}
use Rattle.std.proofs.lemmas.Int.{to_z-of_z}
use Rattle.std.proofs.lemmas.List.{length-take, take_at, length-append}
use Rattle.kat_clause.specs.Known.{Known}
use Rattle.kat_cases.specs.Guests.{MayBeAssumed, with_guest}
use Rattle.kat_cases.proofs.Paths.{decided, front_same}
use Rattle.kat_cases.proofs.Tries.{tries_out, tries_kept, tried_all}
use Rattle.kat_cases.proofs.Ways.{may_within, front_within, stay_within}
use Rattle.kat_cases.proofs.cores.shrink.Goals as goal

pub falsifies-requires-clause-literals : goal.falsifies-requires-clause-literals
falsifies-requires-clause-literals c =
    let i = c.back.i - 1 in
    let path = c.args.path.now in
    let stay = c.back.stay.items in
    let front : c.undo.new.self.assumed ≡ take (c.back.i - 1) c.args.path.now = ap (λ (k : Known). k.assumed) c.undo.ensures ∙ front_same c.back.known.assumed path i c.back.i (omega arith) c.back.invariant.prefix in
    let greatest : c.undo.new.self.greatest ≡ c.args.known.now.greatest = ap (λ (k : Known). k.greatest) c.undo.ensures ∙ c.back.invariant.greatest in
    let P : ℕ → Type 0 = λ g. MayBeAssumed g (c.undo.new.self.assumed ++ c.deref.result.now) in
    let Q : List ℤ → Type 0 = λ a. MayBeAssumed c.args.known.now.greatest (a ++ c.deref.result.now) in
    let R : List ℤ → Type 0 = λ s. MayBeAssumed c.args.known.now.greatest (take (c.back.i - 1) c.args.path.now ++ s) in
    subst P (sym greatest) (subst Q (sym front) (subst R (sym c.deref.ensures.value)
    (may_within c.args.known.now.greatest (take i path ++ stay) path (front_within path stay i c.back.invariant.stays) c.requires.path)))

pub back-preserved-then-branch : goal.back-preserved-then-branch
back-preserved-then-branch c =
    let i = c.back.i - 1 in
    let path = c.args.path.now in
    let clauses = with_guest c.args.known.now.clauses (option_map (λ g. g.now) c.args.guest) in
    let stay = c.back.stay.items in
    let front : c.undo.new.self.assumed ≡ take (c.back.i - 1) c.args.path.now = ap (λ (k : Known). k.assumed) c.undo.ensures ∙ front_same c.back.known.assumed path i c.back.i (omega arith) c.back.invariant.prefix in
    let size : length c.undo.new.self.assumed ≡ c.back.i - 1 = ap length front ∙ (omega (arith, length-take i path, c.back.invariant.within)) in
    let assumed = c.in_ok-falsifies.ensures.assumed in
    let same : c.undo.new.self.clauses ≡ c.args.known.now.clauses = ap (λ (k : Known). k.clauses) c.undo.ensures ∙ c.back.invariant.clauses in
    let greatest : c.falsifies.new.known.greatest ≡ c.back.known.greatest = c.in_ok-falsifies.ensures.greatest ∙ ap (λ (k : Known). k.greatest) c.undo.ensures in
    let d = decided clauses _ (take i path) c.undo.new.self.assumed c.deref.result.now c.in_ok-falsifies.field-0 (ap (λ cs. with_guest cs (option_map (λ g. g.now) c.args.guest)) same) front c.in_ok-falsifies.ensures.falsified in
    record {
      within = omega (arith, c.back.invariant.within);
      longer = omega (arith, ap length assumed, length-append c.undo.new.self.assumed c.deref.result.now, size);
      prefix = ap (take i) assumed ∙ take_at c.undo.new.self.assumed c.deref.result.now i size ∙ front;
      clauses = c.in_ok-falsifies.ensures.clauses ∙ same;
      greatest = greatest ∙ c.back.invariant.greatest;
      stays = c.back.invariant.stays;
      goes = tries_out clauses path i c.back.i stay c.deref.result.now c.in_ok-falsifies.field-0 (omega (arith, c.back.invariant.within)) (omega arith) d.0 c.deref.ensures.value c.if-branch.true c.back.invariant.goes;
    }

pub back-preserved : goal.back-preserved
back-preserved c =
    let k = get_or c.args.path.now (c.back.i - 1) (pos 0) in
    let fits : FitsSigned w32 (get_or c.args.path.now (c.back.i - 1) (pos 0)) = search rules in
    let i = c.back.i - 1 in
    let path = c.args.path.now in
    let clauses = with_guest c.args.known.now.clauses (option_map (λ g. g.now) c.args.guest) in
    let stay = c.back.stay.items in
    let front : c.undo.new.self.assumed ≡ take (c.back.i - 1) c.args.path.now = ap (λ (k : Known). k.assumed) c.undo.ensures ∙ front_same c.back.known.assumed path i c.back.i (omega arith) c.back.invariant.prefix in
    let size : length c.undo.new.self.assumed ≡ c.back.i - 1 = ap length front ∙ (omega (arith, length-take i path, c.back.invariant.within)) in
    let assumed = c.in_ok-falsifies.ensures.assumed in
    let same : c.undo.new.self.clauses ≡ c.args.known.now.clauses = ap (λ (k : Known). k.clauses) c.undo.ensures ∙ c.back.invariant.clauses in
    let greatest : c.falsifies.new.known.greatest ≡ c.back.known.greatest = c.in_ok-falsifies.ensures.greatest ∙ ap (λ (k : Known). k.greatest) c.undo.ensures in
    let d = decided clauses _ (take i path) c.undo.new.self.assumed c.deref.result.now c.in_ok-falsifies.field-0 (ap (λ cs. with_guest cs (option_map (λ g. g.now) c.args.guest)) same) front c.in_ok-falsifies.ensures.falsified in
    record {
      within = omega (arith, c.back.invariant.within);
      longer = omega (arith, ap length assumed, length-append c.undo.new.self.assumed c.deref.result.now, size);
      prefix = ap (take i) assumed ∙ take_at c.undo.new.self.assumed c.deref.result.now i size ∙ front;
      clauses = c.in_ok-falsifies.ensures.clauses ∙ same;
      greatest = greatest ∙ c.back.invariant.greatest;
      stays = stay_within stay c.push.new.self.items path (to_z w32 (of_z w32 k)) i (omega (arith, c.back.invariant.within)) c.back.invariant.stays (to_z-of_z w32 k fits) c.in_ok-push.ensures.items;
      goes = tries_kept clauses path i c.back.i stay c.deref.result.now c.push.new.self.items (to_z w32 (of_z w32 k)) c.in_ok-falsifies.field-0 (omega (arith, c.back.invariant.within)) (omega arith) d.1 c.deref.ensures.value c.if-branch.false (to_z-of_z w32 k fits) c.in_ok-push.ensures.items c.back.invariant.goes;
    }

pub returns-clause-core : goal.returns-clause-core
returns-clause-core c = tried_all (with_guest c.args.known.now.clauses (option_map (λ g. g.now) c.args.guest)) c.args.path.now c.back.i c.back.stay.items (omega arith) c.back.invariant.goes
