use Rattle.std.proofs.Common.{◌≡◌, ℕ, All, length, sym, ◌∙◌, refl, subst}
use Rattle.std.proofs.lemmas.List.{length-map}
use Rattle.kat_clause.specs.Known.{AreUpTo}
use Rattle.kat_form.specs.Encodings.{encoding, senses_of, sense_of}
use Rattle.kat_refute.proofs.HintedSteps.{rup_gives}
use Rattle.kat_refute.proofs.with_hints.Goals as goal

pub returns-in-Rup-clause-line : goal.returns-in-Rup-clause-line
returns-in-Rup-clause-line c =
    let size : c.len.result ≡ length (senses_of c.args.encoded.now.meanings.items) = c.len.ensures ∙ c.args.encoded.now.meanings.ok.0 ∙ sym (length-map c.args.encoded.now.meanings.items sense_of) in
    rup_gives (encoding c.args.encoded.now) c.args.hinter.now.clauses c.args.hinter.now.clauses c.args.line.now c.in-Rup.lits c.len.result c.deref.result.now c.hint_line.result c.in-Rup.is c.deref.ensures.value size refl c.hint_line.ensures

pub is_hinted_by-requires-clause-own : goal.is_hinted_by-requires-clause-own
is_hinted_by-requires-clause-own c =
    let size : c.len-in-Hinted.result ≡ length (senses_of c.args.encoded.now.meanings.items) = c.len-in-Hinted.ensures ∙ c.args.encoded.now.meanings.ok.0 ∙ sym (length-map c.args.encoded.now.meanings.items sense_of) in
    let P : ℕ → Type 0 = λ n. All (AreUpTo n) c.args.hinter.now.clauses in
    subst P (sym size) c.requires.own
