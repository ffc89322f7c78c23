-- A design is judged by what is read of it.
use Rattle.std.proofs.Common.{◌≡◌, ℕ, suc, ◌+◌, length, arith, List, [], ◌∷◌, ◌++◌, Option, None, Some, Result, Ok, Err, refl, sym, ap, ◌∙◌, subst, slice_get}
use Rattle.std.specs.Prelude.{IfOk}
use Rattle.kat_design.specs.Designs.{DesignForm}
use Rattle.kat_block.specs.declared.left.Block.{Block}
use Rattle.kat_candidate.specs.Candidates.{AreCandidates}
use Rattle.kat_hist.specs.Firsts.{IsFirstPlace}
use Rattle.kat_histories.specs.Histories.{histories}
use Rattle.kat_histories.specs.declared.histories.History.{History}
use Rattle.kat_said.specs.Judging.{lines_of}
use Rattle.kat_said.specs.declared.judging.Audit.{Audit}
use Rattle.kat_said.specs.declared.judging.Audit.TheVariants.{Bad}
use Rattle.kat_type.specs.Signatures.{signature_of}
use Rattle.kat_type.specs.Types.{TypeForm}
use Rattle.kat_type.specs.declared.signatures.Signature.{Signature}
use Rattle.kat_due.specs.Differences.{AgreesOn, DiffersOn, FirstDiffersAt, IsFirstDifference, histories_for}
use Rattle.kat_due.specs.Dues.{Ask, IsNext}
use Rattle.kat_due.specs.Dues.Phase.{at_design, cites, in_block}
use Rattle.kat_due.specs.Readings.{AreNumbers, ComesTo, IsAskedOf, IsBehind, IsCut, IsMet, JudgesFrom, histories_at, state_at}
use Rattle.kat_due.specs.Texts.{begin_line, history_line}
use Rattle.kat_due.specs.declared.reading.Reading.{Reading}
use Rattle.kat_due.proofs.Citing.{numbers_behind}
use Rattle.kat_due.proofs.Coming.{comes_on, of_verdict, one_fault}
use Rattle.kat_due.proofs.Expecting.{no_begin}
use Rattle.kat_due.proofs.Refuting.{begin_on, history_on}
use Rattle.kat_due.proofs.States.{not_finished}
use Rattle.kat_due.proofs.Within.{next_in}

-- what is reported of a design that was judged
abbrev pub Judged : TypeForm → ℕ → Signature → DesignForm → Reading → Reading → Option Audit → Type 0
Judged ty effort sig d old new o = (ask : Ask) → IsAskedOf ask ty effort → IsNext ask (state_at sig old at_design) d → ComesTo ask (state_at sig old at_design) old.left.now (state_at sig new at_design) new.left.now o

-- and of one of which these were read
abbrev pub Again : DesignForm → ℕ → Reading → Reading → Option Audit → Type 0
Again d place old new o = (ask : Ask) (sig : Signature) → IsNext ask (state_at sig old at_design) d → FirstDiffersAt ask.ty d (histories_at sig old.cited.items) place
    → ComesTo ask (state_at sig old at_design) old.left.now (state_at sig new at_design) new.left.now o

abbrev pub Newly : Signature → DesignForm → History → Reading → Reading → Option Audit → Type 0
Newly sig d h old new o = (ask : Ask) → sig ≡ signature_of ask.ty → IsNext ask (state_at sig old at_design) d → AgreesOn ask.ty d (histories_at sig old.cited.items)
    → IsFirstDifference ask.ty d (histories_for ask.ty) h → ComesTo ask (state_at sig old at_design) old.left.now (state_at sig new at_design) new.left.now o

abbrev pub InBlock : TypeForm → ℕ → Signature → DesignForm → Reading → Reading → Option Audit → Type 0
InBlock ty effort sig d old new o = (ask : Ask) → IsAskedOf ask ty effort → IsNext ask (state_at sig old at_design) d → AgreesOn ty d (histories_at sig old.cited.items) → AgreesOn ty d (histories_for ty)
    → ComesTo ask (state_at sig old at_design) old.left.now (state_at sig new at_design) new.left.now o

-- what is first on the histories of the numbers that are kept
first_on : (ty : TypeForm) (sig : Signature) (d : DesignForm) (numbers cited : List ℕ) (o p : Option ℕ) → sig ≡ signature_of ty → numbers ≡ cited → o ≡ p
    → IsFirstPlace (DiffersOn ty d) (histories_at (signature_of ty) numbers) o → IsFirstPlace (DiffersOn ty d) (histories_at sig cited) p
first_on ty sig d numbers cited o p same are is h =
    let P : Option ℕ → Type 0 = λ x. IsFirstPlace (DiffersOn ty d) (histories_at (signature_of ty) numbers) x in
    let Q : List ℕ → Type 0 = λ x. IsFirstPlace (DiffersOn ty d) (histories_at (signature_of ty) x) p in
    let R : Signature → Type 0 = λ x. IsFirstPlace (DiffersOn ty d) (histories_at x cited) p in
    subst R (sym same) (subst Q are (subst P is h))

pub if_again : {E : Type 0} (r : Result (Option Audit) E) (ty : TypeForm) (effort : ℕ) (sig : Signature) (d : DesignForm) (place : ℕ) (numbers : List ℕ) (o : Option ℕ) (old new : Reading) → sig ≡ signature_of ty
    → numbers ≡ old.cited.items → o ≡ Some place → IsFirstPlace (DiffersOn ty d) (histories_at (signature_of ty) numbers) o → IfOk r (Again d place old new) → IfOk r (Judged ty effort sig d old new)
if_again (Ok fault) ty effort sig d place numbers o old new same are is first h = λ ask asked next.
    let P : TypeForm → Type 0 = λ x. FirstDiffersAt x d (histories_at sig old.cited.items) place in
    h ask sig next (subst P (sym asked.of_type) (first_on ty sig d numbers old.cited.items o (Some place) same are is first))
if_again (Err e) ty effort sig d place numbers o old new same are is first h = tt

pub if_newly : {E : Type 0} (r : Result (Option Audit) E) (ty : TypeForm) (effort : ℕ) (sig : Signature) (d : DesignForm) (number : ℕ) (history : History) (numbers : List ℕ) (o p : Option ℕ) (old new : Reading)
    → sig ≡ signature_of ty → numbers ≡ old.cited.items → o ≡ None → IsFirstPlace (DiffersOn ty d) (histories_at (signature_of ty) numbers) o
    → slice_get (histories_for ty) number ≡ Some history → p ≡ Some number → IsFirstPlace (DiffersOn ty d) (histories_for ty) p → IfOk r (Newly sig d history old new) → IfOk r (Judged ty effort sig d old new)
if_newly (Ok fault) ty effort sig d number history numbers o p old new same are is none there found first h = λ ask asked next.
    let P : TypeForm → Type 0 = λ x. AgreesOn x d (histories_at sig old.cited.items) in
    let Q : TypeForm → Type 0 = λ x. IsFirstDifference x d (histories_for x) history in
    let F : Option ℕ → Type 0 = λ x. IsFirstPlace (DiffersOn ty d) (histories_for ty) x in
    h ask (same ∙ ap signature_of (sym asked.of_type)) next (subst P (sym asked.of_type) (first_on ty sig d numbers old.cited.items o None same are is none))
    (subst Q (sym asked.of_type) (record { place = number; there = there; first = subst F found first }))
if_newly (Err e) ty effort sig d number history numbers o p old new same are is none there found first h = tt

pub if_block : {E : Type 0} (r : Result (Option Audit) E) (ty : TypeForm) (effort : ℕ) (sig : Signature) (d : DesignForm) (numbers : List ℕ) (o p : Option ℕ) (old new : Reading)
    → sig ≡ signature_of ty → numbers ≡ old.cited.items → o ≡ None → IsFirstPlace (DiffersOn ty d) (histories_at (signature_of ty) numbers) o
    → p ≡ None → IsFirstPlace (DiffersOn ty d) (histories_for ty) p → IfOk r (InBlock ty effort sig d old new) → IfOk r (Judged ty effort sig d old new)
if_block (Ok fault) ty effort sig d numbers o p old new same are is none found all h = λ ask asked next.
    let F : Option ℕ → Type 0 = λ x. IsFirstPlace (DiffersOn ty d) (histories_for ty) x in
    h ask asked next (first_on ty sig d numbers old.cited.items o None same are is none) (subst F found all)
if_block (Err e) ty effort sig d numbers o p old new same are is none found all h = tt

-- the numbers that are kept
pub if_same : {E : Type 0} (r : Result (Option Audit) E) (sig : Signature) (old new : List ℕ) → AreNumbers sig old → IfOk r (λ fault. fault ≡ None → new ≡ old) → IfOk r (λ fault. fault ≡ None → AreNumbers sig new)
if_same (Ok fault) sig old new are h = λ e. subst (λ (ns : List ℕ). AreNumbers sig ns) (sym (h e)) are
if_same (Err e) sig old new are h = tt

pub if_more : {E : Type 0} (r : Result (Option Audit) E) (sig : Signature) (old new : List ℕ) (number : ℕ) (history : History) → AreNumbers sig old → slice_get (histories sig) number ≡ Some history
    → IfOk r (λ fault. fault ≡ None → new ≡ old ++ number ∷ []) → IfOk r (λ fault. fault ≡ None → AreNumbers sig new)
if_more (Ok fault) sig old new number history are there h = λ e. numbers_behind sig old new number history (h e) there are
if_more (Err e) sig old new number history are there h = tt

-- a history was read, and then the design
abbrev pub Cited : DesignForm → ℕ → Reading → Reading → Option Audit → Type 0
Cited d number mid new o = (ask : Ask) (sig : Signature) (history : History) → slice_get (histories sig) number ≡ Some history → IsNext ask (state_at sig mid (cites history)) d
    → ComesTo ask (state_at sig mid (cites history)) mid.left.now (state_at sig new at_design) new.left.now o

pub newly_done : {E : Type 0} (r : Result (Option Audit) E) (sig : Signature) (d : DesignForm) (h : History) (number : ℕ) (old mid new : Reading) → slice_get (histories sig) number ≡ Some h
    → IsCut old mid (history_line sig (length old.cited.items + 1) h) → IfOk r (Cited d number mid new) → IfOk r (Newly sig d h old new)
newly_done (Ok o) sig d h number old mid new there cut cited = λ ask same next agrees first.
    comes_on ask (state_at sig old at_design) (state_at sig mid (cites h)) (state_at sig new at_design) old.left.now mid.left.now new.left.now o
    (history_on ask sig d h old mid same next agrees first cut) (cited ask sig h there (next_in ask sig old mid at_design (cites h) d cut.count cut.passed next))
newly_done (Err e) sig d h number old mid new there cut cited = tt

behind_cut : (old mid new : Reading) (line : List ℕ) (designs undecided : ℕ) → IsCut old mid line → IsBehind mid new designs undecided → IsBehind old new designs undecided
behind_cut old mid new line designs undecided cut behind =
    let a = behind.count in
    let b = cut.count in
    let p = behind.passed in
    let q = cut.passed in
    let r = behind.room in
    let s = cut.room in
    record { count = omega (arith, a, b); passed = omega (arith, p, q); room = omega (arith, r, s) }

pub if_behind : {E : Type 0} (r : Result (Option Audit) E) (old mid new : Reading) (line : List ℕ) (designs undecided : ℕ) → IsCut old mid line
    → IfOk r (λ fault. fault ≡ None → IsBehind mid new designs undecided) → IfOk r (λ fault. fault ≡ None → IsBehind old new designs undecided)
if_behind (Ok o) old mid new line designs undecided cut h = λ e. behind_cut old mid new line designs undecided cut (h e)
if_behind (Err e) old mid new line designs undecided cut h = tt

pub if_cited : {E : Type 0} (r : Result (Option Audit) E) (old mid new more : List ℕ) → mid ≡ old → IfOk r (λ fault. fault ≡ None → new ≡ mid ++ more) → IfOk r (λ fault. fault ≡ None → new ≡ old ++ more)
if_cited (Ok o) old mid new more same h = λ e. h e ∙ ap (λ (l : List ℕ). l ++ more) same
if_cited (Err e) old mid new more same h = tt

pub if_kept : {E : Type 0} (r : Result (Option Audit) E) (old mid new : List ℕ) → mid ≡ old → IfOk r (λ fault. fault ≡ None → new ≡ mid) → IfOk r (λ fault. fault ≡ None → new ≡ old)
if_kept (Ok o) old mid new same h = λ e. h e ∙ same
if_kept (Err e) old mid new same h = tt

-- a block doesn't begin
agrees_asked : (ask : Ask) (ty : TypeForm) (effort : ℕ) (d : DesignForm) (hs : List History) → IsAskedOf ask ty effort → AgreesOn ty d hs → AgreesOn ask.ty d hs
agrees_asked ask ty effort d hs asked h = let P : TypeForm → Type 0 = λ x. AgreesOn x d hs in subst P (sym asked.of_type) h

all_asked : (ask : Ask) (ty : TypeForm) (effort : ℕ) (d : DesignForm) → IsAskedOf ask ty effort → AgreesOn ty d (histories_for ty) → AgreesOn ask.ty d (histories_for ask.ty)
all_asked ask ty effort d asked h = let P : TypeForm → Type 0 = λ x. AgreesOn x d (histories_for x) in subst P (sym asked.of_type) h

pub begin_fault : (ty : TypeForm) (effort : ℕ) (sig : Signature) (d : DesignForm) (old mid : Reading) (o : Option Audit) (v : Audit) → o ≡ Some v → IsMet old mid (begin_line (old.count + 1) d) o
    → (ask : Ask) → IsAskedOf ask ty effort → IsNext ask (state_at sig old at_design) d → AgreesOn ty d (histories_at sig old.cited.items) → AgreesOn ty d (histories_for ty)
    → JudgesFrom ask (state_at sig old at_design) old.left.now v
begin_fault ty effort sig d old mid o v e met ask asked next agrees all =
    let m = subst (λ (x : Option Audit). IsMet old mid (begin_line (old.count + 1) d) x) e met in
    let s = state_at sig old at_design in
    of_verdict ask s old.left.now (Bad (suc s.lines)) v (sym m.0)
    (one_fault ask s (lines_of old.left.now) (λ w over. not_finished s.phase refl over.ended)
    (λ l rest is.
    no_begin ask s d refl next (agrees_asked ask ty effort d (histories_at sig old.cited.items) asked agrees) (all_asked ask ty effort d asked all) l
    (λ same. m.1 rest (is ∙ ap (λ (k : List ℕ). k ∷ rest) same))))

-- it begins, and its lines are read
abbrev pub OfLines : TypeForm → ℕ → Signature → DesignForm → Block → Reading → Reading → Option Audit → Type 0
OfLines ty effort sig d block mid new o = (ask : Ask) → IsAskedOf ask ty effort → IsNext ask (state_at sig mid at_design) d
    → ComesTo ask (state_at sig mid (in_block block.candidates.conjuncts block.dropped.items)) mid.left.now (state_at sig new at_design) new.left.now o

pub block_done : {E : Type 0} (r : Result (Option Audit) E) (ty : TypeForm) (effort : ℕ) (sig : Signature) (d : DesignForm) (block : Block) (old mid new : Reading) → AreCandidates ty d block.candidates.conjuncts
    → block.dropped.items ≡ [] → IsCut old mid (begin_line (old.count + 1) d) → IfOk r (OfLines ty effort sig d block mid new) → IfOk r (InBlock ty effort sig d old new)
block_done (Ok o) ty effort sig d block old mid new are none cut h = λ ask asked next agrees all.
    let cs = block.candidates.conjuncts in
    let P : TypeForm → Type 0 = λ x. AreCandidates x d cs in
    let Q : List ℕ → Type 0 = λ x. ComesTo ask (state_at sig mid (in_block cs x)) mid.left.now (state_at sig new at_design) new.left.now o in
    comes_on ask (state_at sig old at_design) (state_at sig mid (in_block cs [])) (state_at sig new at_design) old.left.now mid.left.now new.left.now o
    (begin_on ask sig d cs old mid next (agrees_asked ask ty effort d (histories_at sig old.cited.items) asked agrees) (all_asked ask ty effort d asked all) (subst P (sym asked.of_type) are) cut)
    (subst Q none (h ask asked (next_in ask sig old mid at_design at_design d cut.count cut.passed next)))
block_done (Err e) ty effort sig d block old mid new are none cut h = tt
