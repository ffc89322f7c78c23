-- A block is read line by line.
use Rattle.std.proofs.Common.{◌≡◌, ℕ, suc, ◌+◌, ◌≤◌, List, [], ◌++◌, length, Option, None, Some, Result, Ok, Err, refl, sym, ap, ◌∙◌, subst, arith}
use Rattle.std.specs.Prelude.{IfOk, MatchOption}
use Rattle.kat_block.specs.Blocks.{IsDueIn, IsWideIn, conjunct_in}
use Rattle.kat_block.specs.Left.{IsBlock, IsStepOf}
use Rattle.kat_block.specs.declared.left.Block.{Block}
use Rattle.kat_block.proofs.Alikes.{alike}
use Rattle.kat_design.specs.Designs.{DesignForm}
use Rattle.kat_points.specs.Points.{PointForm}
use Rattle.kat_relation.specs.declared.relations.Conjunct.{Conjunct}
use Rattle.kat_said.specs.Sayings.{IsHeldLine, IsHeldSaid, IsLineOf, SaidForm, said_form}
use Rattle.kat_said.specs.Sayings.IsHeldSaid.{a_drop, a_fail, itself}
use Rattle.kat_said.specs.Sayings.SaidForm.{drops}
use Rattle.kat_said.specs.declared.judging.Audit.{Audit}
use Rattle.kat_said.specs.declared.judging.Audit.TheVariants.{Bad, WidePoint}
use Rattle.kat_said.specs.declared.judging.Step.{Step}
use Rattle.kat_said.specs.declared.judging.Step.TheVariants.{Due, Fault, Wide}
use Rattle.kat_said.specs.declared.said.Place.{Place}
use Rattle.kat_said.specs.declared.said.Said.{Said}
use Rattle.kat_type.specs.Types.{TypeForm}
use Rattle.kat_type.specs.declared.signatures.Signature.{Signature}
use Rattle.kat_due.specs.Dues.{Ask, IsNext, Phase, State, behind_said, goes_to}
use Rattle.kat_due.specs.Dues.Phase.{at_design, in_block}
use Rattle.kat_due.specs.Readings.{DropsAt, IsAskedOf, IsBehind, IsClosed, IsCut, IsEnding, IsToldIn, JudgesFrom, histories_at, state_at}
use Rattle.kat_due.specs.declared.reading.Reading.{Reading}
use Rattle.kat_due.proofs.Coming.{of_verdict}
use Rattle.kat_due.proofs.Lines.{block_due, block_fault, block_missing, block_none, block_wide}
use Rattle.kat_due.proofs.Refuting.{closed_state}
use Rattle.kat_due.proofs.States.{same_state}

-- the next design is so in any phase
pub next_in : (ask : Ask) (sig : Signature) (old new : Reading) (p q : Phase) (d : DesignForm) → new.count ≡ old.count → new.passed ≡ old.passed → IsNext ask (state_at sig old p) d → IsNext ask (state_at sig new q) d
next_in ask sig old new p q d c e next =
    let asked = next.asked in
    let few = next.few in
    record {
      there = rw c next.there;
      asked = omega (arith, c, asked);
      few = omega (arith, e, few);
    }

pub next_here : (ask : Ask) (sig : Signature) (r : Reading) (p q : Phase) (d : DesignForm) → IsNext ask (state_at sig r p) d → IsNext ask (state_at sig r q) d
next_here ask sig r p q d next = record { there = next.there; asked = next.asked; few = next.few }

-- what was asked is asked of the type
due_asked : (ask : Ask) (ty : TypeForm) (effort : ℕ) (d : DesignForm) (cs : List Conjunct) (dropped : List ℕ) (said : SaidForm) → IsAskedOf ask ty effort → IsDueIn ty d cs effort dropped said → IsDueIn ask.ty d cs ask.effort dropped said
due_asked ask ty effort d cs dropped said asked h =
    let P : TypeForm → Type 0 = λ x. IsDueIn x d cs effort dropped said in
    let Q : ℕ → Type 0 = λ x. IsDueIn ask.ty d cs x dropped said in
    subst Q (sym asked.of_effort) (subst P (sym asked.of_type) h)

asked_due : (ask : Ask) (ty : TypeForm) (effort : ℕ) (d : DesignForm) (cs : List Conjunct) (dropped : List ℕ) (said : SaidForm) → IsAskedOf ask ty effort → IsDueIn ask.ty d cs ask.effort dropped said → IsDueIn ty d cs effort dropped said
asked_due ask ty effort d cs dropped said asked h =
    let P : TypeForm → Type 0 = λ x. IsDueIn x d cs effort dropped said in
    let Q : ℕ → Type 0 = λ x. IsDueIn ask.ty d cs x dropped said in
    subst P asked.of_type (subst Q asked.of_effort h)

wide_asked : (ask : Ask) (ty : TypeForm) (effort : ℕ) (d : DesignForm) (cs : List Conjunct) (dropped : List ℕ) (said : SaidForm) → IsAskedOf ask ty effort → IsWideIn ty d cs dropped said → IsWideIn ask.ty d cs dropped said
wide_asked ask ty effort d cs dropped said asked h = let P : TypeForm → Type 0 = λ x. IsWideIn x d cs dropped said in subst P (sym asked.of_type) h

asked_wide : (ask : Ask) (ty : TypeForm) (effort : ℕ) (d : DesignForm) (cs : List Conjunct) (dropped : List ℕ) (said : SaidForm) → IsAskedOf ask ty effort → IsWideIn ask.ty d cs dropped said → IsWideIn ty d cs dropped said
asked_wide ask ty effort d cs dropped said asked h = let P : TypeForm → Type 0 = λ x. IsWideIn x d cs dropped said in subst P asked.of_type h

-- what is reported of a line is told of what it is held as
step_held : (ty : TypeForm) (d : DesignForm) (cs : List Conjunct) (effort : ℕ) (dropped : List ℕ) (said held : SaidForm) (step : Step) → IsHeldSaid said held → IsStepOf ty d cs effort dropped held step → IsStepOf ty d cs effort dropped said step
step_held ty d cs effort dropped said held Due is told = let same = alike ty d cs effort dropped said held is in (λ w. told.0 (same.0.0 w), same.1.1 told.1)
step_held ty d cs effort dropped said held Fault is told = let same = alike ty d cs effort dropped said held is in (λ w. told.0 (same.0.0 w), λ due. told.1 (same.1.0 due))
step_held ty d cs effort dropped said held Wide is told = let same = alike ty d cs effort dropped said held is in same.0.1 told

behind_held : (s : State) (cs : List Conjunct) (dropped : List ℕ) (said held : SaidForm) → IsHeldSaid said held → behind_said s cs dropped held ≡ behind_said s cs dropped said
behind_held s cs dropped said held (a_drop is) = refl
behind_held s cs dropped said held (a_fail is) = refl
behind_held s cs dropped said held itself = refl

-- a line of a block that is due
pub told_due : (ask : Ask) (ty : TypeForm) (effort : ℕ) (sig : Signature) (d : DesignForm) (cs : List Conjunct) (dropped line : List ℕ) (said : SaidForm) (old new : Reading) (step : Step) → IsAskedOf ask ty effort
    → IsNext ask (state_at sig old at_design) d → IsCut old new line → IsHeldLine line said → step ≡ Due → IsStepOf ty d cs effort dropped said step
    → (v : Audit) → JudgesFrom ask (behind_said (state_at sig old (in_block cs dropped)) cs dropped said) new.left.now v → JudgesFrom ask (state_at sig old (in_block cs dropped)) old.left.now v
told_due ask ty effort sig d cs dropped line said old new step asked next cut is e h v judges =
    let P : Step → Type 0 = λ x. IsStepOf ty d cs effort dropped said x in
    let Q : State → Type 0 = λ t. JudgesFrom ask t new.left.now v in
    let due = step_held ty d cs effort dropped is.said said Due is.kept (subst P e h) in
    block_due ask (state_at sig old (in_block cs dropped)) d cs dropped is.said line old.left.now new.left.now refl (next_here ask sig old at_design (in_block cs dropped) d next) cut.cut is.says
    (λ w. due.0 (asked_wide ask ty effort d cs dropped is.said asked w)) (due_asked ask ty effort d cs dropped is.said asked due.1)
    v (subst Q (behind_held (state_at sig old (in_block cs dropped)) cs dropped is.said said is.kept) judges)

-- one that isn't
on_one : (n m : ℕ) (v : Audit) → m ≡ n + 1 → v ≡ Bad m → Bad (suc n) ≡ v
on_one n m v e is = let on : suc n ≡ m = omega (arith, e) in ap (λ (k : ℕ). Bad k) on ∙ sym is

pub told_fault : (ask : Ask) (ty : TypeForm) (effort : ℕ) (sig : Signature) (d : DesignForm) (cs : List Conjunct) (dropped line : List ℕ) (said : SaidForm) (old new : Reading) (step : Step) (due : ℕ) → IsAskedOf ask ty effort
    → IsNext ask (state_at sig old at_design) d → IsCut old new line → IsHeldLine line said → step ≡ Fault → IsStepOf ty d cs effort dropped said step → due ≡ old.lines + 1
    → JudgesFrom ask (state_at sig old (in_block cs dropped)) old.left.now (Bad due)
told_fault ask ty effort sig d cs dropped line said old new step due asked next cut is e h n =
    let P : Step → Type 0 = λ x. IsStepOf ty d cs effort dropped said x in
    let wrong = step_held ty d cs effort dropped is.said said Fault is.kept (subst P e h) in
    of_verdict ask (state_at sig old (in_block cs dropped)) old.left.now (Bad (suc old.lines)) (Bad due) (on_one old.lines due (Bad due) n refl)
    (block_fault ask (state_at sig old (in_block cs dropped)) d cs dropped is.said line old.left.now new.left.now refl (next_here ask sig old at_design (in_block cs dropped) d next) cut.cut is.says
    (λ w. wrong.0 (asked_wide ask ty effort d cs dropped is.said asked w)) (λ x. wrong.1 (asked_due ask ty effort d cs dropped is.said asked x)))

pub told_wide : (ask : Ask) (ty : TypeForm) (effort : ℕ) (sig : Signature) (d : DesignForm) (cs : List Conjunct) (dropped line : List ℕ) (said : SaidForm) (old new : Reading) (step : Step) (due : ℕ) → IsAskedOf ask ty effort
    → IsNext ask (state_at sig old at_design) d → IsCut old new line → IsHeldLine line said → step ≡ Wide → IsStepOf ty d cs effort dropped said step → due ≡ old.lines + 1
    → JudgesFrom ask (state_at sig old (in_block cs dropped)) old.left.now (WidePoint due)
told_wide ask ty effort sig d cs dropped line said old new step due asked next cut is e h n =
    let P : Step → Type 0 = λ x. IsStepOf ty d cs effort dropped said x in
    let on : suc old.lines ≡ due = omega (arith, n) in
    of_verdict ask (state_at sig old (in_block cs dropped)) old.left.now (WidePoint (suc old.lines)) (WidePoint due) (ap (λ (k : ℕ). WidePoint k) on)
    (block_wide ask (state_at sig old (in_block cs dropped)) d cs dropped is.said line old.left.now new.left.now refl (next_here ask sig old at_design (in_block cs dropped) d next) cut.cut is.says
    (wide_asked ask ty effort d cs dropped is.said asked (step_held ty d cs effort dropped is.said said Wide is.kept (subst P e h))))

pub told_none : (ask : Ask) (sig : Signature) (cs : List Conjunct) (dropped line : List ℕ) (old new : Reading) (due : ℕ) → IsCut old new line → ((said : SaidForm) → IsLineOf line said → ⊥) → due ≡ old.lines + 1
    → JudgesFrom ask (state_at sig old (in_block cs dropped)) old.left.now (Bad due)
told_none ask sig cs dropped line old new due cut none n =
    of_verdict ask (state_at sig old (in_block cs dropped)) old.left.now (Bad (suc old.lines)) (Bad due) (on_one old.lines due (Bad due) n refl)
    (block_none ask (state_at sig old (in_block cs dropped)) cs dropped line old.left.now new.left.now refl cut.cut none)

pub told_missing : (ask : Ask) (sig : Signature) (cs : List Conjunct) (dropped : List ℕ) (old : Reading) (due : ℕ) → old.left.now ≡ [] → due ≡ old.lines + 1
    → JudgesFrom ask (state_at sig old (in_block cs dropped)) old.left.now (Bad due)
told_missing ask sig cs dropped old due empty n =
    of_verdict ask (state_at sig old (in_block cs dropped)) old.left.now (Bad (suc old.lines)) (Bad due) (on_one old.lines due (Bad due) n refl)
    (block_missing ask (state_at sig old (in_block cs dropped)) cs dropped old.left.now refl empty)

-- the lines of a block were read as far as this
pub record InLines (ty : TypeForm) (sig : Signature) (effort : ℕ) (d : DesignForm) (first : Block) (old : Reading) (block : Block) (r : Reading) : Type 0 where
  pub is_block : IsBlock block
  pub room : r.lines + length r.left.now ≤ old.lines + length old.left.now
  pub count : r.count ≡ old.count
  pub cited : r.cited.items ≡ old.cited.items
  pub passed : r.passed ≡ old.passed
  pub comes : (ask : Ask) → IsAskedOf ask ty effort → IsNext ask (state_at sig old at_design) d
      → (v : Audit) → JudgesFrom ask (state_at sig r (in_block block.candidates.conjuncts block.dropped.items)) r.left.now v
      → JudgesFrom ask (state_at sig old (in_block first.candidates.conjuncts first.dropped.items)) old.left.now v

pub lines_first : (ty : TypeForm) (sig : Signature) (effort : ℕ) (d : DesignForm) (first : Block) (old : Reading) → IsBlock first → InLines ty sig effort d first old first old
lines_first ty sig effort d first old is = record { is_block = is; room = omega arith; count = refl; cited = refl; passed = refl; comes = λ ask asked next v h. h }

-- a candidate more is dropped
dropped_state : (sig : Signature) (old new : Reading) (cs ds : List Conjunct) (m n : List ℕ) (line : List ℕ) (at : Place) (point : PointForm) → IsCut old new line → ds ≡ cs → n ≡ m ++ conjunct_in at
    → state_at sig new (in_block ds n) ≡ behind_said (state_at sig old (in_block cs m)) cs m (drops at point)
dropped_state sig old new cs ds m n line at point cut same more =
    same_state new.lines (old.lines + 1) new.count old.count new.passed old.passed (histories_at sig new.cited.items) (histories_at sig old.cited.items) new.hidden old.hidden (in_block ds n)
    cut.lines cut.count (ap (histories_at sig) cut.cited) cut.passed cut.hidden
    ∙ ap (λ (k : List Conjunct). goes_to (state_at sig old (in_block cs m)) (in_block k n)) same
    ∙ ap (λ (k : List ℕ). goes_to (state_at sig old (in_block cs m)) (in_block cs k)) more

pub lines_on : (ty : TypeForm) (sig : Signature) (effort : ℕ) (d : DesignForm) (first : Block) (old : Reading) (block next_block : Block) (r s : Reading) (line : List ℕ) (said : SaidForm) (at : Place)
    → IsCut r s line → DropsAt said at → IsBlock next_block → next_block.candidates.conjuncts ≡ block.candidates.conjuncts → next_block.dropped.items ≡ block.dropped.items ++ conjunct_in at
    → ((ask : Ask) → IsAskedOf ask ty effort → IsNext ask (state_at sig r at_design) d → (v : Audit)
    → JudgesFrom ask (behind_said (state_at sig r (in_block block.candidates.conjuncts block.dropped.items)) block.candidates.conjuncts block.dropped.items said) s.left.now v
    → JudgesFrom ask (state_at sig r (in_block block.candidates.conjuncts block.dropped.items)) r.left.now v)
    → InLines ty sig effort d first old block r → InLines ty sig effort d first old next_block s
lines_on ty sig effort d first old block next_block r s line said at cut drop is same more told lines =
    let room = cut.room in
    let before = lines.room in
    record {
      is_block = is;
      room = omega (arith, room, before);
      count = cut.count ∙ lines.count;
      cited = cut.cited ∙ lines.cited;
      passed = cut.passed ∙ lines.passed;
      comes = λ ask asked next v h.
          let cs = block.candidates.conjuncts in
          let dropped = block.dropped.items in
          let P : State → Type 0 = λ x. JudgesFrom ask x s.left.now v in
          let Q : SaidForm → Type 0 = λ x. JudgesFrom ask (behind_said (state_at sig r (in_block cs dropped)) cs dropped x) s.left.now v in
          lines.comes ask asked next v
          (told ask asked (next_in ask sig old r at_design at_design d lines.count lines.passed next) v
          (subst Q (sym drop.1) (subst P (dropped_state sig r s cs next_block.candidates.conjuncts dropped next_block.dropped.items line at drop.0 cut same more) h)));
    }

-- the block ends
pub lines_close : (ty : TypeForm) (sig : Signature) (effort : ℕ) (d : DesignForm) (first : Block) (old : Reading) (block : Block) (r s new : Reading) (line : List ℕ) (said : SaidForm)
    → IsCut r s line → IsEnding said → IsClosed s new said
    → ((ask : Ask) → IsAskedOf ask ty effort → IsNext ask (state_at sig r at_design) d → (v : Audit)
    → JudgesFrom ask (behind_said (state_at sig r (in_block block.candidates.conjuncts block.dropped.items)) block.candidates.conjuncts block.dropped.items said) s.left.now v
    → JudgesFrom ask (state_at sig r (in_block block.candidates.conjuncts block.dropped.items)) r.left.now v)
    → InLines ty sig effort d first old block r
    → (ask : Ask) → IsAskedOf ask ty effort → IsNext ask (state_at sig old at_design) d → (v : Audit) → JudgesFrom ask (state_at sig new at_design) new.left.now v
    → JudgesFrom ask (state_at sig old (in_block first.candidates.conjuncts first.dropped.items)) old.left.now v
lines_close ty sig effort d first old block r s new line said cut ending closed told lines ask asked next v h =
    let cs = block.candidates.conjuncts in
    let dropped = block.dropped.items in
    let P : State → Type 0 = λ x. JudgesFrom ask x s.left.now v in
    let Q : List ℕ → Type 0 = λ x. JudgesFrom ask (state_at sig new at_design) x v in
    lines.comes ask asked next v
    (told ask asked (next_in ask sig old r at_design at_design d lines.count lines.passed next) v
    (subst P (sym (closed_state sig r s new cs dropped said line ending cut closed)) (subst Q closed.left h)))

pub closed_behind : (ty : TypeForm) (sig : Signature) (effort : ℕ) (d : DesignForm) (first : Block) (old : Reading) (block : Block) (r s new : Reading) (line : List ℕ) (said : SaidForm)
    → IsCut r s line → IsClosed s new said → InLines ty sig effort d first old block r → IsBehind old new 1 1
closed_behind ty sig effort d first old block r s new line said cut closed lines =
    let room = cut.room in
    let before = lines.room in
    let left = ap length closed.left in
    let read = closed.lines in
    let passed = closed.passed ∙ ap (λ (n : ℕ). n + 1) (cut.passed ∙ lines.passed) in
    record {
      count = closed.count ∙ ap (λ (n : ℕ). n + 1) (cut.count ∙ lines.count);
      passed = omega (arith, passed);
      room = omega (arith, room, before, left, read);
    }

-- a fault of a line is one of the block
pub lines_fault : (ty : TypeForm) (sig : Signature) (effort : ℕ) (d : DesignForm) (first : Block) (old : Reading) (block : Block) (r s : Reading) (o : Result Said Audit) (fault : Audit) → o ≡ Err fault
    → ((ask : Ask) → IsAskedOf ask ty effort → IsNext ask (state_at sig r at_design) d → IsToldIn ask sig block.candidates.conjuncts block.dropped.items r s o)
    → InLines ty sig effort d first old block r
    → (ask : Ask) → IsAskedOf ask ty effort → IsNext ask (state_at sig old at_design) d
    → JudgesFrom ask (state_at sig old (in_block first.candidates.conjuncts first.dropped.items)) old.left.now fault
lines_fault ty sig effort d first old block r s o fault e told lines ask asked next =
    let P : Result Said Audit → Type 0 = λ x. IsToldIn ask sig block.candidates.conjuncts block.dropped.items r s x in
    lines.comes ask asked next fault (subst P e (told ask asked (next_in ask sig old r at_design at_design d lines.count lines.passed next)))

-- a line that says something
pub lines_said : (ask : Ask) (sig : Signature) (block : Block) (r s : Reading) (o : Result Said Audit) (said : Said) → o ≡ Ok said → IsToldIn ask sig block.candidates.conjuncts block.dropped.items r s o
    → (v : Audit) → JudgesFrom ask (behind_said (state_at sig r (in_block block.candidates.conjuncts block.dropped.items)) block.candidates.conjuncts block.dropped.items (said_form said)) s.left.now v
    → JudgesFrom ask (state_at sig r (in_block block.candidates.conjuncts block.dropped.items)) r.left.now v
lines_said ask sig block r s o said e told = let P : Result Said Audit → Type 0 = λ x. IsToldIn ask sig block.candidates.conjuncts block.dropped.items r s x in subst P e told

-- the text ends within a block
pub lines_missing : (ty : TypeForm) (sig : Signature) (effort : ℕ) (d : DesignForm) (first : Block) (old : Reading) (block : Block) (r : Reading) (due : ℕ) → r.left.now ≡ [] → due ≡ r.lines + 1
    → InLines ty sig effort d first old block r → (ask : Ask) → IsAskedOf ask ty effort → IsNext ask (state_at sig old at_design) d
    → JudgesFrom ask (state_at sig old (in_block first.candidates.conjuncts first.dropped.items)) old.left.now (Bad due)
lines_missing ty sig effort d first old block r due empty n lines ask asked next =
    lines.comes ask asked next (Bad due) (told_missing ask sig block.candidates.conjuncts block.dropped.items r due empty n)

-- what is reported of a line, whatever was asked
pub each_said : (ty : TypeForm) (sig : Signature) (effort : ℕ) (d : DesignForm) (block : Block) (r s : Reading) (o : Result Said Audit) (said : Said) → o ≡ Ok said
    → ((ask : Ask) → IsAskedOf ask ty effort → IsNext ask (state_at sig r at_design) d → IsToldIn ask sig block.candidates.conjuncts block.dropped.items r s o)
    → (ask : Ask) → IsAskedOf ask ty effort → IsNext ask (state_at sig r at_design) d → (v : Audit)
    → JudgesFrom ask (behind_said (state_at sig r (in_block block.candidates.conjuncts block.dropped.items)) block.candidates.conjuncts block.dropped.items (said_form said)) s.left.now v
    → JudgesFrom ask (state_at sig r (in_block block.candidates.conjuncts block.dropped.items)) r.left.now v
each_said ty sig effort d block r s o said e told ask asked next v h = lines_said ask sig block r s o said e (told ask asked next) v h

pub said_cut : (r s : Reading) (o : Result Said Audit) (said : Said) → o ≡ Ok said → IfOk o (λ (x : Said). (line : List ℕ) × IsCut r s line) → (line : List ℕ) × IsCut r s line
said_cut r s o said e h = subst (λ (x : Result Said Audit). IfOk x (λ (y : Said). (line : List ℕ) × IsCut r s line)) e h

-- what is read of a line
pub unread : (line : List ℕ) (o : Option Said) → o ≡ None → MatchOption o ((s : SaidForm) → IsLineOf line s → ⊥) (λ (x : Said). IsHeldLine line (said_form x)) → (s : SaidForm) → IsLineOf line s → ⊥
unread line o e h = subst (λ (p : Option Said). MatchOption p ((s : SaidForm) → IsLineOf line s → ⊥) (λ (x : Said). IsHeldLine line (said_form x))) e h

pub read_as : (line : List ℕ) (o : Option Said) (said : Said) → o ≡ Some said → MatchOption o ((s : SaidForm) → IsLineOf line s → ⊥) (λ (x : Said). IsHeldLine line (said_form x)) → IsHeldLine line (said_form said)
read_as line o said e h = subst (λ (p : Option Said). MatchOption p ((s : SaidForm) → IsLineOf line s → ⊥) (λ (x : Said). IsHeldLine line (said_form x))) e h
