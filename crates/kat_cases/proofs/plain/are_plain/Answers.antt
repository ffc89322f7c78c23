use Rattle.std.proofs.Common.{◌≡◌, List, get_or, All, refl, sym, ap, ◌∙◌, arith, subst}
use Rattle.std.proofs.lemmas.List.{length-map, get_or-map, take_all}
use Rattle.std.proofs.lemmas.List.Elements.{All-more}
use Rattle.kat_refute.specs.Lines.{Line, line_of, lines_of}
use Rattle.kat_cases.specs.Decisions.{HasEachOnce, HasNoHints}
use Rattle.kat_cases.proofs.plain.are_plain.Goals as goal

pub loop-line-preserved : goal.loop-line-preserved
loop-line-preserved c =
    let i = c.loop-line.line-index in
    let lines = lines_of c.args.lines.now in
    let line = line_of c.line-item.result in
    let is : line ≡ get_or lines i line = ap line_of c.line-item.is ∙ sym (get_or-map line_of c.args.lines.now i c.line-item.result line (omega arith)) in
    let P : Line → Type 0 = HasEachOnce in
    let Q : Line → Type 0 = HasNoHints in
    let plain = c.if-not-is_plain.ensures refl in (
      All-more P lines i line (omega (arith, length-map c.args.lines.now line_of)) c.loop-line.invariant.0 (subst P is plain.0),
      All-more Q lines i line (omega (arith, length-map c.args.lines.now line_of)) c.loop-line.invariant.1 (subst Q is plain.1),
    )

pub returns : goal.returns
returns c = λ _.
    let P : List Line → Type 0 = All HasEachOnce in
    let Q : List Line → Type 0 = All HasNoHints in (
      subst P (take_all c.loop-line.line-index (lines_of c.args.lines.now) (omega (arith, length-map c.args.lines.now line_of))) c.loop-line.invariant.0,
      subst Q (take_all c.loop-line.line-index (lines_of c.args.lines.now) (omega (arith, length-map c.args.lines.now line_of))) c.loop-line.invariant.1,
    )
