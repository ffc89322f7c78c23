use Rattle.std.proofs.Common.{◌≡◌, ◌+◌, ◌<◌, ◌≤◌, ◌++◌, ◌∷◌, [], length, drop, get_or, List, ℤ, Option, Some, option_map, refl, sym, ap, ◌∙◌, arith, subst, All, Contains}
use Rattle.std.proofs.lemmas.List.{length-map, append-nil, map-append}
use Rattle.kat_clause.specs.Known.{AreUpTo}
use Rattle.kat_clause.specs.Numberings.{Numbering}
use Rattle.kat_form.specs.Encodings.{encoding, sense_of}
use Rattle.kat_refute.specs.declared.ProofLine.{ProofLine}
use Rattle.kat_refute.specs.Lines.{Line, line_of, lines_of, literals_of, IsAcceptedLine, clauses_before}
use Rattle.kat_refute.specs.HintedLines.{GivesLine, hinted_lines}
use Rattle.kat_refute.proofs.HintedRuns.{line_at, accepted_more, clauses_more, own_literals, own_start, own_more, reader_start, numbering_more, numbering_same}
use Rattle.kat_refute.proofs.HintedSteps.{hinted_more, hinted_all}
use Rattle.kat_refute.proofs.add_hints.Goals as goal

pub loop-line-init : goal.loop-line-init
loop-line-init c =
    let e = encoding c.args.encoded.now in
    let lines = lines_of c.args.lines.now in (
      numbering_same c.in_ok-hinter.hinter (length e.senses) e.clauses (e.clauses ++ []) c.in_ok-hinter.ensures (sym (append-nil e.clauses)),
      reader_start c.in_ok-reader.reader _ (length e.senses) c.in_ok-reader.ensures (c.len.ensures ∙ c.args.encoded.now.meanings.ok.0 ∙ sym (length-map c.args.encoded.now.meanings.items sense_of)),
      λ j h. absurd (omega (arith, h)),
      own_start e c.requires.fit.literals,
      ap (λ (ls : List ProofLine). lines_of ls ++ hinted_lines (e.clauses ++ []) lines) c.new-hinted.ensures.items ∙ ap (λ (cs : List (List ℤ)). hinted_lines cs lines) (append-nil e.clauses),
    )

pub with_hints-requires-clause-own : goal.with_hints-requires-clause-own
with_hints-requires-clause-own c =
    let P : List (List ℤ) → Type 0 = All (AreUpTo (length (encoding c.args.encoded.now).senses)) in
    subst P (sym (ap (λ (n : Numbering). n.clauses) c.loop-line.invariant.0)) c.loop-line.invariant.3

pub returns-in_default : goal.returns-in_default
returns-in_default c = λ shown.
    let e = encoding c.args.encoded.now in
    let lines = lines_of c.args.lines.now in
    let i = c.loop-line.line-index in
    let line = line_of c.line-item.result in
    let clauses = clauses_before e lines i in
    let is : line ≡ get_or lines i line = line_at c.args.lines.now i c.line-item.result c.loop-line-test.true c.line-item.is in
    let h : i < length lines = omega (arith, c.loop-line-test.true, length-map c.args.lines.now line_of) in
    let P : Option ProofLine → Type 0 = λ o. GivesLine e c.loop-line.hinter.clauses line (option_map line_of o) in
    let R : List (List ℤ) → Type 0 = λ cs. IsAcceptedLine e cs line → ⊥ in
    let never : IsAcceptedLine e clauses line → ⊥ = subst R (ap (λ (n : Numbering). n.clauses) c.loop-line.invariant.0) (subst P c.in_default.is c.in_ok-new.ensures.line) in
    let Q : Line → Type 0 = IsAcceptedLine e clauses in
    never (subst Q (sym is) (shown.accepted i h line))

pub add_line-requires : goal.add_line-requires
add_line-requires c = λ k has.
    let e = encoding c.args.encoded.now in
    let clauses = clauses_before e (lines_of c.args.lines.now) c.loop-line.line-index in
    let line = line_of c.line-item.result in
    let P : Option ProofLine → Type 0 = λ o. GivesLine e c.loop-line.hinter.clauses line (option_map line_of o) in
    let R : List (List ℤ) → Type 0 = λ cs. GivesLine e cs line (Some (line_of c.in-Some.new)) in
    let given : GivesLine e clauses line (Some (line_of c.in-Some.new)) = subst R (ap (λ (n : Numbering). n.clauses) c.loop-line.invariant.0) (subst P c.in-Some.is c.in_ok-new.ensures.line) in
    let Q : List ℤ → Type 0 = λ literals. Contains literals k in
    let greatest : c.loop-line.hinter.greatest ≡ length e.senses = ap (λ (n : Numbering). n.greatest) c.loop-line.invariant.0 in
    let up = own_literals e clauses line given.0 k (subst Q c.literals.ensures has) in
    omega (arith, greatest, up)

pub loop-line-preserved : goal.loop-line-preserved
loop-line-preserved c =
    let e = encoding c.args.encoded.now in
    let lines = lines_of c.args.lines.now in
    let i = c.loop-line.line-index in
    let line = line_of c.line-item.result in
    let clauses = clauses_before e lines i in
    let next = clauses_before e lines (i + 1) in
    let is : line ≡ get_or lines i line = line_at c.args.lines.now i c.line-item.result c.loop-line-test.true c.line-item.is in
    let h : i < length lines = omega (arith, c.loop-line-test.true, length-map c.args.lines.now line_of) in
    let P : Option ProofLine → Type 0 = λ o. GivesLine e c.loop-line.hinter.clauses line (option_map line_of o) in
    let R : List (List ℤ) → Type 0 = λ cs. GivesLine e cs line (Some (line_of c.in-Some.new)) in
    let given : GivesLine e clauses line (Some (line_of c.in-Some.new)) = subst R (ap (λ (n : Numbering). n.clauses) c.loop-line.invariant.0) (subst P c.in-Some.is c.in_ok-new.ensures.line) in
    let more : next ≡ clauses ++ literals_of line ∷ [] = clauses_more e lines i line is h in
    let front = lines_of c.loop-line.hinted.items in
    let pushed : lines_of c.push.new.self.items ≡ front ++ line_of c.in-Some.new ∷ [] = ap lines_of c.in_ok-push.ensures.items ∙ map-append line_of c.loop-line.hinted.items (c.in-Some.new ∷ []) in (
      numbering_more c.loop-line.hinter c.add_line.new.self (length e.senses) clauses next c.literals.result.now c.loop-line.invariant.0 c.in_ok-add_line.ensures.ok (more ∙ ap (λ (ls : List ℤ). clauses ++ ls ∷ []) (sym c.literals.ensures)),
      c.in_ok-new.ensures.reader ∙ c.loop-line.invariant.1,
      accepted_more e lines i line is h c.loop-line.invariant.2 given.0,
      own_more e lines i line is h c.loop-line.invariant.3 (own_literals e clauses line given.0),
      ap (λ (ls : List Line). ls ++ hinted_lines next (drop (i + 1) lines)) pushed ∙ hinted_more clauses next lines (hinted_lines e.clauses lines) front i line (line_of c.in-Some.new) is h more given.1 c.loop-line.invariant.4,
    )

pub returns : goal.returns
returns c =
    let e = encoding c.args.encoded.now in
    let lines = lines_of c.args.lines.now in
    let past : length lines ≤ c.loop-line.line-index = omega (arith, c.loop-line-test.false, length-map c.args.lines.now line_of) in (
      record {
        accepted = λ j below. c.loop-line.invariant.2 j (omega (arith, below, past));
        ends = c.if-not-ends_empty.ensures.0 refl;
      },
      hinted_all (clauses_before e lines c.loop-line.line-index) lines (lines_of c.loop-line.hinted.items) (hinted_lines e.clauses lines) c.loop-line.line-index past c.loop-line.invariant.4,
    )
