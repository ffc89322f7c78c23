use Rattle.std.proofs.Common.{◌≡◌, ℕ, ℤ, List, length, Vec, All, refl, sym, ◌∙◌, subst}
use Rattle.std.specs.Global.{Global}
use Rattle.std.proofs.lemmas.Bool.{both_ways}
use Rattle.std.proofs.lemmas.List.{length-map}
use Rattle.kat_clause.specs.Clauses.{lists}
use Rattle.kat_form.specs.declared.Meaning.{Meaning}
use Rattle.kat_form.specs.Encodings.{senses_of, sense_of, HasLiterals, AreFitAtoms}
use Rattle.kat_form.proofs.Encoded.is_fit.Goals as goal

-- the same clauses under another name, and the same count
literals_same : (all clauses : List (Vec ℤ Global)) (count n : ℕ) → clauses ≡ all → count ≡ n → All (HasLiterals count) (lists clauses) → All (HasLiterals n) (lists all)
literals_same all clauses count n same size h =
    let P : List (Vec ℤ Global) → Type 0 = λ cs. All (HasLiterals n) (lists cs) in
    let Q : ℕ → Type 0 = λ m. All (HasLiterals m) (lists clauses) in
    subst P same (subst Q size h)

pub returns-then-have_literals : goal.returns-then-have_literals
returns-then-have_literals c =
    let own = c.args.self.now in
    let size : c.len.result ≡ length (senses_of own.meanings.items) = c.len.ensures ∙ own.meanings.ok.0 ∙ sym (length-map own.meanings.items sense_of) in
    let P : List Meaning → Type 0 = λ meanings. AreFitAtoms (senses_of meanings) in (
      λ e. record {
        literals = literals_same own.clauses.items c.deref.result.now c.len.result (length (senses_of own.meanings.items)) c.deref.ensures.value size (c.if-have_literals.ensures.0 refl);
        atoms = subst P c.deref-then-have_literals.ensures.value (c.are_fit.ensures.0 e);
      },
      λ fit. c.are_fit.ensures.1 (subst P (sym c.deref-then-have_literals.ensures.value) fit.atoms),
    )

pub returns-else-have_literals : goal.returns-else-have_literals
returns-else-have_literals c =
    let own = c.args.self.now in
    let size : c.len.result ≡ length (senses_of own.meanings.items) = c.len.ensures ∙ own.meanings.ok.0 ∙ sym (length-map own.meanings.items sense_of) in (
      λ e. absurd (both_ways c.have_literals.result c.if-have_literals.false e),
      λ fit. c.have_literals.ensures.1 (literals_same c.deref.result.now own.clauses.items (length (senses_of own.meanings.items)) c.len.result (sym c.deref.ensures.value) (sym size) fit.literals),
    )
