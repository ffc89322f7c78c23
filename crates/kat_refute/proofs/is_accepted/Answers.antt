use Rattle.std.proofs.Common.{◌≡◌, ℕ, length, List, [], ℤ, All, sym, ap, ◌∙◌, subst, Vec, Result, Bool, IfOk, IsTrue, ◌↔◌}
use Rattle.std.specs.Global.{Global}
use Rattle.std.specs.declared.alloc.AllocError.{AllocError}
use Rattle.std.proofs.lemmas.List.{length-map}
use Rattle.kat_clause.specs.Clauses.{Follows, lists}
use Rattle.kat_clause.specs.Known.{AreUpTo}
use Rattle.kat_form.specs.declared.Meaning.{Meaning}
use Rattle.kat_form.specs.Encodings.{Encoding, Sense, encoding, senses_of, sense_of, IsLiteral, AreFitAtoms}
use Rattle.kat_refute.specs.declared.ProofLine.{ProofLine}
use Rattle.kat_refute.specs.declared.ProofLine.TheVariants.{Rup, Linear, Hinted}
use Rattle.kat_refute.specs.Lines.{IsAcceptedLine, IsLinear, IsHintedLine, line_of}
use Rattle.kat_refute.proofs.is_accepted.Goals as goal

rup_same : (e : Encoding) (clauses : List (List ℤ)) (line : ProofLine) (lits : Vec ℤ Global) (count : ℕ) (literals : List ℤ) (r : Result Bool AllocError) → line ≡ Rup lits → literals ≡ lits.items → count ≡ length e.senses
    → IfOk r (λ b. IsTrue b ↔ (All (IsLiteral count) literals × Follows clauses literals)) → IfOk r (λ b. IsTrue b ↔ IsAcceptedLine e clauses (line_of line))
rup_same e clauses line lits count literals r is same size h =
    let P : ProofLine → Type 0 = λ x. IfOk r (λ b. IsTrue b ↔ IsAcceptedLine e clauses (line_of x)) in
    let Q : List ℤ → Type 0 = λ x. IfOk r (λ b. IsTrue b ↔ (All (IsLiteral (length e.senses)) x × Follows clauses x)) in
    let R : ℕ → Type 0 = λ x. IfOk r (λ b. IsTrue b ↔ (All (IsLiteral x) literals × Follows clauses literals)) in
    subst P (sym is) (subst Q same (subst R size h))

linear_same : (e : Encoding) (clauses : List (List ℤ)) (line : ProofLine) (lits ms : Vec ℤ Global) (meanings : List Meaning) (literals multipliers : List ℤ) (r : Result Bool AllocError) → line ≡ Linear lits ms → senses_of meanings ≡ e.senses → literals ≡ lits.items → multipliers ≡ ms.items
    → IfOk r (λ b. IsTrue b ↔ IsLinear (senses_of meanings) literals multipliers) → IfOk r (λ b. IsTrue b ↔ IsAcceptedLine e clauses (line_of line))
linear_same e clauses line lits ms meanings literals multipliers r is senses same same' h =
    let P : ProofLine → Type 0 = λ x. IfOk r (λ b. IsTrue b ↔ IsAcceptedLine e clauses (line_of x)) in
    let Q : List ℤ → Type 0 = λ x. IfOk r (λ b. IsTrue b ↔ IsLinear e.senses x ms.items) in
    let R : List ℤ → Type 0 = λ x. IfOk r (λ b. IsTrue b ↔ IsLinear e.senses literals x) in
    let S : List Sense → Type 0 = λ x. IfOk r (λ b. IsTrue b ↔ IsLinear x literals multipliers) in
    subst P (sym is) (subst Q same (subst R same' (subst S senses h)))

hinted_same : (e : Encoding) (clauses sets : List (List ℤ)) (line : ProofLine) (lits : Vec ℤ Global) (hs : Vec ℕ Global) (count : ℕ) (literals : List ℤ) (hints : List ℕ) (r : Result Bool AllocError) → line ≡ Hinted lits hs → literals ≡ lits.items → hints ≡ hs.items
    → count ≡ length e.senses → sets ≡ clauses
    → IfOk r (λ b. IsTrue b ↔ IsHintedLine count sets literals hints) → IfOk r (λ b. IsTrue b ↔ IsAcceptedLine e clauses (line_of line))
hinted_same e clauses sets line lits hs count literals hints r is same same' size all h =
    let P : ProofLine → Type 0 = λ x. IfOk r (λ b. IsTrue b ↔ IsAcceptedLine e clauses (line_of x)) in
    let Q : List ℤ → Type 0 = λ x. IfOk r (λ b. IsTrue b ↔ IsHintedLine (length e.senses) clauses x hs.items) in
    let R : List ℕ → Type 0 = λ x. IfOk r (λ b. IsTrue b ↔ IsHintedLine (length e.senses) clauses literals x) in
    let S : ℕ → Type 0 = λ n. IfOk r (λ b. IsTrue b ↔ IsHintedLine n clauses literals hints) in
    let T : List (List ℤ) → Type 0 = λ cs. IfOk r (λ b. IsTrue b ↔ IsHintedLine count cs literals hints) in
    subst P (sym is) (subst Q same (subst R same' (subst S size (subst T all h))))

pub is_linear-requires : goal.is_linear-requires
is_linear-requires c =
    let P : List Meaning → Type 0 = λ meanings. AreFitAtoms (senses_of meanings) in
    subst P (sym c.deref-in-Linear.ensures.value) c.requires.fit.atoms

pub returns-in-Rup-clause-accepted : goal.returns-in-Rup-clause-accepted
returns-in-Rup-clause-accepted c =
    let size : c.len.result ≡ length (senses_of c.args.encoded.now.meanings.items) = c.len.ensures ∙ c.args.encoded.now.meanings.ok.0 ∙ sym (length-map c.args.encoded.now.meanings.items sense_of) in
    rup_same (encoding c.args.encoded.now) c.args.known.now.clauses c.args.line.now c.in-Rup.lits c.len.result c.deref.result.now c.is_propagated.result c.in-Rup.is c.deref.ensures.value size c.is_propagated.ensures.propagated

pub returns-in-Linear-clause-accepted : goal.returns-in-Linear-clause-accepted
returns-in-Linear-clause-accepted c =
    linear_same (encoding c.args.encoded.now) c.args.known.now.clauses c.args.line.now c.in-Linear.lits c.in-Linear.multipliers c.deref-in-Linear.result.now c.deref-in-Linear-2.result.now c.deref-in-Linear-3.result.now c.is_linear.result c.in-Linear.is
    (ap senses_of c.deref-in-Linear.ensures.value) c.deref-in-Linear-2.ensures.value c.deref-in-Linear-3.ensures.value c.is_linear.ensures

pub is_hinted-requires : goal.is_hinted-requires
is_hinted-requires c =
    let size : c.len-in-Hinted.result ≡ length (senses_of c.args.encoded.now.meanings.items) = c.len-in-Hinted.ensures ∙ c.args.encoded.now.meanings.ok.0 ∙ sym (length-map c.args.encoded.now.meanings.items sense_of) in
    let P : List (List ℤ) → Type 0 = All (AreUpTo (length (senses_of c.args.encoded.now.meanings.items))) in
    let Q : ℕ → Type 0 = λ n. All (AreUpTo n) (lists c.clauses.result.now) in
    record { reader = c.requires.reader ∙ ap (λ (n : ℕ). record { greatest = n; known = [] }) (sym size); own = subst Q (sym size) (subst P (sym c.clauses.ensures) c.requires.own) }

pub returns-in-Hinted-clause-accepted : goal.returns-in-Hinted-clause-accepted
returns-in-Hinted-clause-accepted c =
    let size : c.len-in-Hinted.result ≡ length (senses_of c.args.encoded.now.meanings.items) = c.len-in-Hinted.ensures ∙ c.args.encoded.now.meanings.ok.0 ∙ sym (length-map c.args.encoded.now.meanings.items sense_of) in
    hinted_same (encoding c.args.encoded.now) c.args.known.now.clauses (lists c.clauses.result.now) c.args.line.now c.in-Hinted.lits c.in-Hinted.hints c.len-in-Hinted.result c.deref-in-Hinted.result.now c.deref-in-Hinted-2.result.now c.is_hinted.result c.in-Hinted.is
    c.deref-in-Hinted.ensures.value c.deref-in-Hinted-2.ensures.value size c.clauses.ensures c.is_hinted.ensures.hinted
