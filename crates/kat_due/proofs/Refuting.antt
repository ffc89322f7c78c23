-- What comes of the lines of a design.
use Rattle.std.proofs.Common.{◌≡◌, ℕ, ◌+◌, List, [], ◌∷◌, ◌++◌, length, Option, None, Some, refl, sym, ap, ◌∙◌, subst, arith, slice_get}
use Rattle.std.proofs.lemmas.List.{length-map}
use Rattle.kat_candidate.specs.Candidates.{AreCandidates}
use Rattle.kat_design.specs.Designs.{DesignForm}
use Rattle.kat_histories.specs.Histories.{histories}
use Rattle.kat_histories.specs.declared.histories.History.{History}
use Rattle.kat_relation.specs.declared.relations.Conjunct.{Conjunct}
use Rattle.kat_said.specs.Sayings.{SaidForm}
use Rattle.kat_said.specs.declared.judging.Audit.{Audit}
use Rattle.kat_type.specs.Signatures.{signature_of}
use Rattle.kat_type.specs.declared.signatures.Signature.{Signature}
use Rattle.kat_due.specs.Differences.{AgreesOn, FirstDiffersAt, IsFirstDifference, histories_for}
use Rattle.kat_due.specs.Dues.{Ask, IsNext, Phase, State, behind_refuted, behind_said, goes_to}
use Rattle.kat_due.specs.Dues.Phase.{at_design, cites, in_block}
use Rattle.kat_due.specs.Readings.{ComesTo, IsBehind, IsClosed, IsCut, IsEnding, IsMet, JudgesFrom, hidden_behind, histories_at, history_at, state_at}
use Rattle.kat_due.specs.Texts.{begin_line, differs_line, history_line}
use Rattle.kat_due.specs.declared.reading.Reading.{Reading}
use Rattle.kat_due.proofs.Citing.{cited_behind}
use Rattle.kat_due.proofs.Coming.{met}
use Rattle.kat_due.proofs.Expecting.{expects_again, expects_begin, expects_history, expects_its}
use Rattle.kat_due.proofs.Lines.{behind_end}
use Rattle.kat_due.proofs.States.{same_state}

-- a reading of which a design more was read than of another
pub record IsOneMore (mid new : Reading) (cited : List ℕ) : Type 0 where
  pub left : new.left.now ≡ mid.left.now
  pub lines : new.lines ≡ mid.lines
  pub count : new.count ≡ mid.count + 1
  pub cited_too : new.cited.items ≡ cited
  pub passed : new.passed ≡ mid.passed
  pub hidden : new.hidden ≡ mid.hidden

-- the state after a line by which a design is refuted
refuted_state : (sig : Signature) (old mid new : Reading) (phase : Phase) (line cited : List ℕ) (hs : List History) → IsCut old mid line → IsOneMore mid new cited → hs ≡ histories_at sig cited
    → behind_refuted (state_at sig old phase) hs ≡ state_at sig new at_design
refuted_state sig old mid new phase line cited hs cut more are =
    same_state (old.lines + 1) new.lines (old.count + 1) new.count old.passed new.passed hs (histories_at sig new.cited.items) old.hidden new.hidden at_design
    (sym (more.lines ∙ cut.lines)) (sym (more.count ∙ ap (λ (n : ℕ). n + 1) cut.count)) (are ∙ ap (histories_at sig) (sym more.cited_too)) (sym (more.passed ∙ cut.passed)) (sym (more.hidden ∙ cut.hidden))

-- and after one by which nothing is counted
further_state : (sig : Signature) (old new : Reading) (p q : Phase) (line : List ℕ) → IsCut old new line → goes_to (state_at sig old p) q ≡ state_at sig new q
further_state sig old new p q line cut =
    same_state (old.lines + 1) new.lines old.count new.count old.passed new.passed (histories_at sig old.cited.items) (histories_at sig new.cited.items) old.hidden new.hidden q
    (sym cut.lines) (sym cut.count) (ap (histories_at sig) (sym cut.cited)) (sym cut.passed) (sym cut.hidden)

pub behind_one : (old mid new : Reading) (line cited : List ℕ) → IsCut old mid line → IsOneMore mid new cited → IsBehind old new 1 1
behind_one old mid new line cited cut more =
    let a = more.count ∙ ap (λ (n : ℕ). n + 1) cut.count in
    let b = more.passed ∙ cut.passed in
    let c = more.lines in
    let d = ap length more.left in
    let e = cut.room in
    record { count = a; passed = omega (arith, b); room = omega (arith, c, d, e) }

-- a line as it was written into nothing
pub same_text : (old new : Reading) (text line : List ℕ) (o : Option Audit) → text ≡ line → IsMet old new text o → IsMet old new line o
same_text old new text line o e m = subst (λ (x : List ℕ). IsMet old new x o) e m

-- a design that a cited history refutes
pub again_comes : (ask : Ask) (sig : Signature) (d : DesignForm) (place : ℕ) (old mid : Reading) (o : Option Audit) → IsNext ask (state_at sig old at_design) d
    → FirstDiffersAt ask.ty d (histories_at sig old.cited.items) place → IsMet old mid (differs_line (old.count + 1) (place + 1) d) o
    → ComesTo ask (state_at sig old at_design) old.left.now (behind_refuted (state_at sig old at_design) (histories_at sig old.cited.items)) mid.left.now o
again_comes ask sig d place old mid o next first m =
    let s = state_at sig old at_design in
    met ask s (behind_refuted s s.cited) (differs_line (old.count + 1) (place + 1) d) old mid refl (expects_again ask s d place refl next first) o m

pub again_on : (ask : Ask) (sig : Signature) (d : DesignForm) (place : ℕ) (old mid new : Reading) → IsNext ask (state_at sig old at_design) d
    → FirstDiffersAt ask.ty d (histories_at sig old.cited.items) place → IsCut old mid (differs_line (old.count + 1) (place + 1) d) → IsOneMore mid new old.cited.items
    → (v : Audit) → JudgesFrom ask (state_at sig new at_design) new.left.now v → JudgesFrom ask (state_at sig old at_design) old.left.now v
again_on ask sig d place old mid new next first cut more v h =
    let s = state_at sig old at_design in
    let line = differs_line (old.count + 1) (place + 1) d in
    let P : State → Type 0 = λ x. JudgesFrom ask x mid.left.now v in
    let Q : List ℕ → Type 0 = λ x. JudgesFrom ask (state_at sig new at_design) x v in
    again_comes ask sig d place old mid None next first cut v
    (subst P (sym (refuted_state sig old mid new at_design line old.cited.items s.cited cut more refl)) (subst Q more.left h))

-- one that a further history refutes: first the history
pub history_comes : (ask : Ask) (sig : Signature) (d : DesignForm) (h : History) (old mid : Reading) (o : Option Audit) → sig ≡ signature_of ask.ty → IsNext ask (state_at sig old at_design) d
    → AgreesOn ask.ty d (histories_at sig old.cited.items) → IsFirstDifference ask.ty d (histories_for ask.ty) h → IsMet old mid (history_line sig (length old.cited.items + 1) h) o
    → ComesTo ask (state_at sig old at_design) old.left.now (goes_to (state_at sig old at_design) (cites h)) mid.left.now o
history_comes ask sig d h old mid o is next agrees first m =
    let s = state_at sig old at_design in
    let text : history_line sig (length old.cited.items + 1) h ≡ history_line (signature_of ask.ty) (length s.cited + 1) h
    = ap (λ (x : Signature). history_line x (length old.cited.items + 1) h) is
    ∙ ap (λ (n : ℕ). history_line (signature_of ask.ty) (n + 1) h) (sym (length-map old.cited.items (history_at sig))) in
    met ask s (goes_to s (cites h)) (history_line (signature_of ask.ty) (length s.cited + 1) h) old mid refl (expects_history ask s d h refl next agrees first) o
    (same_text old mid _ _ o text m)

pub history_on : (ask : Ask) (sig : Signature) (d : DesignForm) (h : History) (old mid : Reading) → sig ≡ signature_of ask.ty → IsNext ask (state_at sig old at_design) d
    → AgreesOn ask.ty d (histories_at sig old.cited.items) → IsFirstDifference ask.ty d (histories_for ask.ty) h → IsCut old mid (history_line sig (length old.cited.items + 1) h)
    → (v : Audit) → JudgesFrom ask (state_at sig mid (cites h)) mid.left.now v → JudgesFrom ask (state_at sig old at_design) old.left.now v
history_on ask sig d h old mid is next agrees first cut v judged =
    let P : State → Type 0 = λ x. JudgesFrom ask x mid.left.now v in
    history_comes ask sig d h old mid None is next agrees first cut v
    (subst P (sym (further_state sig old mid at_design (cites h) (history_line sig (length old.cited.items + 1) h) cut)) judged)

-- and then the design
pub its_comes : (ask : Ask) (sig : Signature) (d : DesignForm) (h : History) (old mid : Reading) (o : Option Audit) → IsNext ask (state_at sig old (cites h)) d
    → IsMet old mid (differs_line (old.count + 1) (length old.cited.items + 1) d) o
    → ComesTo ask (state_at sig old (cites h)) old.left.now (behind_refuted (state_at sig old (cites h)) (histories_at sig old.cited.items ++ h ∷ [])) mid.left.now o
its_comes ask sig d h old mid o next m =
    let s = state_at sig old (cites h) in
    met ask s (behind_refuted s (s.cited ++ h ∷ [])) (differs_line (s.count + 1) (length s.cited + 1) d) old mid refl (expects_its ask s d h refl next) o
    (same_text old mid _ _ o (ap (λ (n : ℕ). differs_line (old.count + 1) (n + 1) d) (sym (length-map old.cited.items (history_at sig)))) m)

pub its_on : (ask : Ask) (sig : Signature) (d : DesignForm) (h : History) (number : ℕ) (old mid new : Reading) → IsNext ask (state_at sig old (cites h)) d → slice_get (histories sig) number ≡ Some h
    → IsCut old mid (differs_line (old.count + 1) (length old.cited.items + 1) d) → IsOneMore mid new (old.cited.items ++ number ∷ [])
    → (v : Audit) → JudgesFrom ask (state_at sig new at_design) new.left.now v → JudgesFrom ask (state_at sig old (cites h)) old.left.now v
its_on ask sig d h number old mid new next there cut more v judged =
    let s = state_at sig old (cites h) in
    let line = differs_line (old.count + 1) (length old.cited.items + 1) d in
    let P : State → Type 0 = λ x. JudgesFrom ask x mid.left.now v in
    let Q : List ℕ → Type 0 = λ x. JudgesFrom ask (state_at sig new at_design) x v in
    its_comes ask sig d h old mid None next cut v
    (subst P
    (sym (refuted_state sig old mid new (cites h) line (old.cited.items ++ number ∷ []) (s.cited ++ h ∷ []) cut more
    (sym (cited_behind sig old.cited.items (old.cited.items ++ number ∷ []) number h refl there)))) (subst Q more.left judged))

-- one that no history refutes
pub begin_comes : (ask : Ask) (sig : Signature) (d : DesignForm) (cs : List Conjunct) (old mid : Reading) (o : Option Audit) → IsNext ask (state_at sig old at_design) d
    → AgreesOn ask.ty d (histories_at sig old.cited.items) → AgreesOn ask.ty d (histories_for ask.ty) → AreCandidates ask.ty d cs → IsMet old mid (begin_line (old.count + 1) d) o
    → ComesTo ask (state_at sig old at_design) old.left.now (goes_to (state_at sig old at_design) (in_block cs [])) mid.left.now o
begin_comes ask sig d cs old mid o next agrees all are m =
    let s = state_at sig old at_design in
    met ask s (goes_to s (in_block cs [])) (begin_line (old.count + 1) d) old mid refl (expects_begin ask s d cs refl next agrees all are) o m

pub begin_on : (ask : Ask) (sig : Signature) (d : DesignForm) (cs : List Conjunct) (old mid : Reading) → IsNext ask (state_at sig old at_design) d
    → AgreesOn ask.ty d (histories_at sig old.cited.items) → AgreesOn ask.ty d (histories_for ask.ty) → AreCandidates ask.ty d cs → IsCut old mid (begin_line (old.count + 1) d)
    → (v : Audit) → JudgesFrom ask (state_at sig mid (in_block cs [])) mid.left.now v → JudgesFrom ask (state_at sig old at_design) old.left.now v
begin_on ask sig d cs old mid next agrees all are cut v judged =
    let P : State → Type 0 = λ x. JudgesFrom ask x mid.left.now v in
    begin_comes ask sig d cs old mid None next agrees all are cut v
    (subst P (sym (further_state sig old mid at_design (in_block cs []) (begin_line (old.count + 1) d) cut)) judged)

-- a line of a block at which a candidate is dropped, and one that ends it
pub closed_state : (sig : Signature) (old mid new : Reading) (cs : List Conjunct) (dropped : List ℕ) (said : SaidForm) (line : List ℕ) → IsEnding said → IsCut old mid line → IsClosed mid new said
    → behind_said (state_at sig old (in_block cs dropped)) cs dropped said ≡ state_at sig new at_design
closed_state sig old mid new cs dropped said line is cut closed =
    let s = state_at sig old (in_block cs dropped) in
    behind_end s cs dropped said is
    ∙ same_state (old.lines + 1) new.lines (old.count + 1) new.count (old.passed + 1) new.passed (histories_at sig old.cited.items) (histories_at sig new.cited.items)
    (hidden_behind old.hidden (old.lines + 1) said) new.hidden at_design (sym (closed.lines ∙ cut.lines)) (sym (closed.count ∙ ap (λ (n : ℕ). n + 1) cut.count))
    (ap (histories_at sig) (sym (closed.cited ∙ cut.cited))) (sym (closed.passed ∙ ap (λ (n : ℕ). n + 1) cut.passed))
    (sym (closed.hidden ∙ ap (λ (h : Option ℕ). hidden_behind h mid.lines said) cut.hidden ∙ ap (λ (n : ℕ). hidden_behind old.hidden n said) cut.lines))

-- a design more is counted
abbrev pub counted : Reading → Reading
counted r = record { left = r.left; lines = r.lines; count = r.count + 1; cited = r.cited; passed = r.passed; hidden = r.hidden }

pub one_counted : (old mid : Reading) (line : List ℕ) → IsCut old mid line → IsOneMore mid (counted mid) old.cited.items
one_counted old mid line cut = record { left = refl; lines = refl; count = refl; cited_too = cut.cited; passed = refl; hidden = refl }
