-- What comes of the last line.
use Rattle.std.proofs.Common.{◌≡◌, ℕ, suc, ◌+◌, ◌<◌, Bool, true, false, if◌then◌else◌, List, [], ◌∷◌, length, Option, None, refl, sym, ap, ◌∙◌, subst, arith}
use Rattle.std.specs.Prelude.{◌==◌, nat_eq, nat_lt}
use Rattle.std.proofs.lemmas.Bool.{eq-eqb, eqb-true, lt-ltb, ltb-true}
use Rattle.kat_design.specs.Designs.{DesignForm}
use Rattle.kat_said.specs.Judging.{Judges, lines_of, onto_first}
use Rattle.kat_said.specs.Judging.Judges.{is_over, not_due}
use Rattle.kat_said.specs.declared.judging.Audit.{Audit}
use Rattle.kat_said.specs.declared.judging.Audit.TheVariants.{Bad}
use Rattle.kat_type.specs.declared.signatures.Signature.{Signature}
use Rattle.kat_due.specs.Dues.{Ask, Due, IsNext, IsOver, IsWide, State, goes_to, last_line, verdict_of}
use Rattle.kat_due.specs.Dues.Due.{same_history, new_history, its_design, begins, says, last}
use Rattle.kat_due.specs.Dues.Phase.{at_design, finished}
use Rattle.kat_due.specs.Readings.{ComesTo, IsCut, IsMet, JudgesFrom, state_at}
use Rattle.kat_due.specs.Texts.{none_line, stopped_line, undecided_line}
use Rattle.kat_due.specs.declared.reading.Reading.{Reading}
use Rattle.kat_due.proofs.Coming.{at_lines, met, of_verdict}
use Rattle.kat_due.proofs.Expecting.{expects_last}
use Rattle.kat_due.proofs.States.{block_not_finished, cites_not_finished, not_finished}

-- nothing is due after the last line
nothing_due : (ask : Ask) (s : State) → s.phase ≡ finished → (l : List ℕ) (u : State) → Due ask s l u → ⊥
nothing_due ask s phase l u (same_history e other p n f t) = not_finished s.phase p phase
nothing_due ask s phase l u (new_history e k p n a f t) = not_finished s.phase p phase
nothing_due ask s phase l u (its_design e k p n t) = cites_not_finished s.phase k p phase
nothing_due ask s phase l u (begins e cs p n a all are t) = not_finished s.phase p phase
nothing_due ask s phase l u (says e cs dropped said p n due t) = block_not_finished s.phase cs dropped p phase
nothing_due ask s phase l u (last p none t) = not_finished s.phase p phase

nothing_wide : (ask : Ask) (s : State) → s.phase ≡ finished → (l : List ℕ) → IsWide ask s l → ⊥
nothing_wide ask s phase l w = block_not_finished s.phase w.candidates w.dropped w.place phase

-- so a further line is a fault
more_lines : (ask : Ask) (s : State) (ls : List (List ℕ)) → s.phase ≡ finished → (ls ≡ [] → ⊥) → Judges (IsWide ask) (Due ask) IsOver s.lines s ls (Bad (suc s.lines))
more_lines ask s [] phase some = absurd (some refl)
more_lines ask s (l ∷ ls) phase some = not_due (nothing_wide ask s phase l) (nothing_due ask s phase l)

-- a text that isn't empty has a line
onto_some : (b : ℕ) (ls : List (List ℕ)) → onto_first b ls ≡ [] → ⊥
onto_some b [] e = absurd (cc e)
onto_some b (l ∷ ls) e = absurd (cc e)

some_line : (is_end : Bool) (b : ℕ) (ls : List (List ℕ)) → (if is_end then (10 ∷ []) ∷ ls else onto_first b ls) ≡ [] → ⊥
some_line true b ls e = absurd (cc e)
some_line false b ls e = onto_some b ls e

lines_some : (bs : List ℕ) → (bs ≡ [] → ⊥) → lines_of bs ≡ [] → ⊥
lines_some [] some e = some refl
lines_some (b ∷ bs) some e = some_line (b == 10) b (lines_of bs) e

pub last_met : (ask : Ask) (sig : Signature) (old mid : Reading) (line : List ℕ) (o : Option Audit) → last_line ask (state_at sig old at_design) ≡ line
    → ((d : DesignForm) → IsNext ask (state_at sig old at_design) d → ⊥) → IsMet old mid line o
    → ComesTo ask (state_at sig old at_design) old.left.now (goes_to (state_at sig old at_design) finished) mid.left.now o
last_met ask sig old mid line o is none m =
    let s = state_at sig old at_design in
    met ask s (goes_to s finished) (last_line ask s) old mid refl (expects_last ask s refl none) o (subst (λ (x : List ℕ). IsMet old mid x o) (sym is) m)

-- the last line was read, and there are more bytes
pub last_more : (ask : Ask) (sig : Signature) (old mid : Reading) (line : List ℕ) (verdict : Audit) → last_line ask (state_at sig old at_design) ≡ line
    → ((d : DesignForm) → IsNext ask (state_at sig old at_design) d → ⊥) → IsCut old mid line → (mid.left.now ≡ [] → ⊥) → verdict ≡ Bad (mid.lines + 1)
    → JudgesFrom ask (state_at sig old at_design) old.left.now verdict
last_more ask sig old mid line verdict is none cut more told =
    let s = state_at sig old at_design in
    let t = goes_to s finished in
    let on : old.lines + 1 + 1 ≡ suc (old.lines + 1) = omega arith in
    of_verdict ask s old.left.now (Bad (suc t.lines)) verdict (sym (told ∙ ap (λ (n : ℕ). Bad (n + 1)) cut.lines ∙ ap (λ (n : ℕ). Bad n) on))
    (last_met ask sig old mid line None is none cut (Bad (suc t.lines)) (more_lines ask t (lines_of mid.left.now) refl (lines_some mid.left.now more)))

-- the last line was read, and there are none
pub last_end : (ask : Ask) (sig : Signature) (old mid : Reading) (line : List ℕ) → last_line ask (state_at sig old at_design) ≡ line
    → ((d : DesignForm) → IsNext ask (state_at sig old at_design) d → ⊥) → IsCut old mid line → mid.left.now ≡ [] → JudgesFrom ask (state_at sig old at_design) old.left.now (verdict_of mid.hidden)
last_end ask sig old mid line is none cut empty =
    let t = goes_to (state_at sig old at_design) finished in
    let verdict = verdict_of mid.hidden in
    last_met ask sig old mid line None is none cut verdict
    (at_lines ask t t.lines t.lines [] (lines_of mid.left.now) verdict refl (sym (ap lines_of empty)) (is_over (record { ended = refl; told = ap verdict_of cut.hidden })))

-- what the last line is
if_true : {A : Type 0} (b : Bool) (x y : A) → b ≡ true → (if b then x else y) ≡ x
if_true b x y e = rw e refl

if_false : {A : Type 0} (b : Bool) (x y : A) → b ≡ false → (if b then x else y) ≡ y
if_false b x y e = rw e refl

untrue : (b : Bool) → (b ≡ true → ⊥) → b ≡ false
untrue true e = absurd (e refl)
untrue false e = refl

no_more : (m n : ℕ) → m ≡ n → nat_lt m n ≡ false
no_more m n e = untrue (nat_lt m n) (λ is. let less = ltb-true m n is in omega (arith, e, less))

some_passed : (n : ℕ) → (n ≡ 0 → ⊥) → nat_eq n 0 ≡ false
some_passed n some = untrue (nat_eq n 0) (λ is. some (eqb-true n 0 is))

pub last_stopped : (ask : Ask) (s : State) → s.count < length ask.designs → last_line ask s ≡ stopped_line s.count ask.size
last_stopped ask s more =
    if_true (nat_lt s.count (length ask.designs)) (stopped_line s.count ask.size) (if nat_eq s.passed 0 then none_line ask.size else undecided_line ask.size) (lt-ltb s.count (length ask.designs) more)

at_end : (ask : Ask) (s : State) → s.count ≡ length ask.designs → last_line ask s ≡ (if nat_eq s.passed 0 then none_line ask.size else undecided_line ask.size)
at_end ask s all =
    if_false (nat_lt s.count (length ask.designs)) (stopped_line s.count ask.size) (if nat_eq s.passed 0 then none_line ask.size else undecided_line ask.size) (no_more s.count (length ask.designs) all)

pub last_none : (ask : Ask) (s : State) → s.count ≡ length ask.designs → s.passed ≡ 0 → last_line ask s ≡ none_line ask.size
last_none ask s all none = at_end ask s all ∙ if_true (nat_eq s.passed 0) (none_line ask.size) (undecided_line ask.size) (eq-eqb s.passed 0 none)

pub last_undecided : (ask : Ask) (s : State) → s.count ≡ length ask.designs → (s.passed ≡ 0 → ⊥) → last_line ask s ≡ undecided_line ask.size
last_undecided ask s all some = at_end ask s all ∙ if_false (nat_eq s.passed 0) (none_line ask.size) (undecided_line ask.size) (some_passed s.passed some)

-- whether bytes are left
pub is_nothing : (xs : List ℕ) (b : Bool) → b ≡ (length xs == 0) → b ≡ true → xs ≡ []
is_nothing [] b e t = refl
is_nothing (x ∷ xs) b e t = let k : suc (length xs) ≡ 0 = eqb-true (suc (length xs)) 0 (sym e ∙ t) in absurd (omega (arith, k))

pub is_something : (xs : List ℕ) (b : Bool) → b ≡ (length xs == 0) → b ≡ false → xs ≡ [] → ⊥
is_something xs b e f none = let k : true ≡ false = sym (e ∙ ap (λ (l : List ℕ). length l == 0) none) ∙ f in absurd (cc k)
