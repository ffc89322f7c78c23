use Rattle.std.proofs.Common.{◌≡◌, ℕ, ◌+◌, ◌<◌, ◌≤◌, ◌++◌, ◌∷◌, [], length, take, get_or, List, ℤ, inl, inr, refl, sym, ap, ◌∙◌, arith, subst, Contains}
use Rattle.std.proofs.lemmas.Bool.{false≢true}
use Rattle.std.proofs.lemmas.List.{get_or_default, length-map, append-nil}
use Rattle.kat_clause.specs.Clauses.{SameMembers}
use Rattle.kat_clause.specs.Tables.{AreSetsOf}
use Rattle.kat_clause.specs.Known.{Known, Adds}
use Rattle.kat_clause.proofs.HintSets.{sets_push, sets_turned}
use Rattle.kat_form.specs.Encodings.{Encoding, encoding, sense_of, IsLiteral}
use Rattle.kat_refute.specs.declared.ProofLine.{ProofLine}
use Rattle.kat_refute.specs.Lines.{Line, line_of, lines_of, IsAcceptedLine, AreAccepted, IsFirstRefused, added, literals_of, clauses_before}
use Rattle.kat_refute.proofs.Refutations.{accepted_literals}
use Rattle.kat_refute.proofs.HintedRuns.{line_at, accepted_more, clauses_more, own_more, own_start, own_literals, own_sets, accepted_sets, reader_start}
use Rattle.kat_refute.proofs.check_lines.Goals as goal

-- the known clauses are sets of the condition's and the lines'
pub is_accepted-requires : goal.is_accepted-requires
is_accepted-requires c =
    let e = encoding c.args.encoded.now in
    let clauses = clauses_before e (lines_of c.args.lines.now) c.loop-i.i in
    record {
      fit = c.requires.fit;
      variables = c.loop-i.invariant.0;
      assumed = c.loop-i.invariant.2;
      reader = c.loop-i.invariant.4;
      own = own_sets (length e.senses) clauses c.loop-i.known.clauses c.loop-i.invariant.1 c.loop-i.invariant.5;
    }

pub add-requires : goal.add-requires
add-requires c = λ k has.
    let e = encoding c.args.encoded.now in
    let line = line_of c.index-lines-i.result in
    let accepted : IsAcceptedLine e c.loop-i.known.clauses line = c.in_ok-is_accepted.ensures.accepted.0 c.if-not-branch.false in
    let P : List ℤ → Type 0 = λ literals. Contains literals k in
    let literal : IsLiteral (length e.senses) k = accepted_literals e c.loop-i.known.clauses line accepted k (subst P c.literals.ensures has) in
    omega (arith, literal.1, c.loop-i.invariant.0, c.in_ok-is_accepted.ensures.greatest)

-- the known clauses with one more line
known_more : (e : Encoding) (lines : List Line) (i : ℕ) (line : Line) (literals : List ℤ) (old mid new : Known) → line ≡ get_or lines i line → i < length lines → literals ≡ literals_of line → mid.clauses ≡ old.clauses → Adds literals mid new
    → AreSetsOf (e.clauses ++ added (take i lines)) old.clauses → AreSetsOf (e.clauses ++ added (take (i + 1) lines)) new.clauses
known_more e lines i line literals old mid new is h same kept adds are =
    let clauses : new.clauses ≡ old.clauses ++ adds.added ∷ [] = ap (λ (k : Known). k.clauses) adds.is ∙ ap (λ (cs : List (List ℤ)). cs ++ adds.added ∷ []) kept in
    let P : List ℤ → Type 0 = SameMembers adds.added in
    let members : SameMembers adds.added (literals_of line) = subst P same adds.same in
    rw (clauses, clauses_more e lines i line is h) (sets_push (e.clauses ++ added (take i lines)) old.clauses (literals_of line) adds.added members are)

pub loop-i-preserved : goal.loop-i-preserved
loop-i-preserved c =
    let e = encoding c.args.encoded.now in
    let lines = lines_of c.args.lines.now in
    let i = c.loop-i.i in
    let line = line_of c.index-lines-i.result in
    let clauses = clauses_before e lines i in
    let is : line ≡ get_or lines i line = line_at c.args.lines.now i c.index-lines-i.result c.loop-i-test.true c.index-lines-i.is in
    let h : i < length lines = omega (arith, c.loop-i-test.true, length-map c.args.lines.now line_of) in
    let accepted : IsAcceptedLine e clauses line = accepted_sets e clauses c.loop-i.known.clauses c.loop-i.invariant.1 line (c.in_ok-is_accepted.ensures.accepted.0 c.if-not-branch.false) in
    let kept = c.in_ok-is_accepted.ensures in
    let adds = c.in_ok-add.ensures.ok in (
      ap (λ (k : Known). k.greatest) adds.is ∙ kept.greatest ∙ c.loop-i.invariant.0,
      known_more e lines i line c.literals.result.now c.loop-i.known c.is_accepted.new.known c.add.new.self is h c.literals.ensures kept.clauses adds c.loop-i.invariant.1,
      ap (λ (k : Known). k.assumed) adds.is ∙ kept.assumed ∙ c.loop-i.invariant.2,
      accepted_more e lines i line is h c.loop-i.invariant.3 accepted,
      kept.reader ∙ c.loop-i.invariant.4,
      own_more e lines i line is h c.loop-i.invariant.5 (own_literals e clauses line accepted),
    )

pub loop-i-init : goal.loop-i-init
loop-i-init c =
    let e = encoding c.args.encoded.now in
    let new = c.in_ok-known.ensures in (
      new.greatest,
      rw (append-nil e.clauses) new.clauses,
      new.assumed,
      λ j h. absurd (omega (arith, h)),
      reader_start c.in_ok-reader.reader _ (length e.senses) c.in_ok-reader.ensures (c.len.ensures ∙ c.args.encoded.now.meanings.ok.0 ∙ sym (length-map c.args.encoded.now.meanings.items sense_of)),
      own_start e c.requires.fit.literals,
    )

-- a line that is not accepted
refused : (e : Encoding) (lines : List Line) (i : ℕ) (line : Line) → line ≡ get_or lines i line → i < length lines → AreAccepted e lines i → (IsAcceptedLine e (clauses_before e lines i) line → ⊥) → IsFirstRefused e lines (i + 1)
refused e lines i line is h before never = record {
  place = i;
  counted = refl;
  within = h;
  before = before;
  here = λ d accepted.
      let Q : Line → Type 0 = IsAcceptedLine e (clauses_before e lines i) in
      never (subst Q (sym (is ∙ get_or_default lines i line d h)) accepted);
}

pub returns-then-not-branch : goal.returns-then-not-branch
returns-then-not-branch c =
    let e = encoding c.args.encoded.now in
    let lines = lines_of c.args.lines.now in
    let i = c.loop-i.i in
    let line = line_of c.index-lines-i.result in
    let is : line ≡ get_or lines i line = line_at c.args.lines.now i c.index-lines-i.result c.loop-i-test.true c.index-lines-i.is in
    let clauses = clauses_before e lines i in
    inl (refused e lines i line is (omega (arith, c.loop-i-test.true, length-map c.args.lines.now line_of)) c.loop-i.invariant.3
    (λ accepted. false≢true (sym c.if-not-branch.true ∙ c.in_ok-is_accepted.ensures.accepted.1 (accepted_sets e c.loop-i.known.clauses clauses (sets_turned clauses c.loop-i.known.clauses c.loop-i.invariant.1) line accepted))))

-- all lines are accepted
all_accepted : (e : Encoding) (lines : List ProofLine) (i : ℕ) → length lines ≤ i → AreAccepted e (lines_of lines) i → AreAccepted e (lines_of lines) (length (lines_of lines))
all_accepted e lines i h accepted = λ j below. accepted j (omega (arith, h, below, length-map lines line_of))

pub returns-then-ends_empty : goal.returns-then-ends_empty
returns-then-ends_empty c = record {
  accepted = all_accepted (encoding c.args.encoded.now) c.args.lines.now c.loop-i.i c.loop-i-test.false c.loop-i.invariant.3;
  ends = c.if-ends_empty.ensures.0 refl;
}

pub returns : goal.returns
returns c = inr (record {
  behind = ap (λ (n : ℕ). n + 1) (sym (length-map c.args.lines.now line_of));
  accepted = all_accepted (encoding c.args.encoded.now) c.args.lines.now c.loop-i.i c.loop-i-test.false c.loop-i.invariant.3;
  open_end = λ ends. false≢true (c.if-ends_empty.ensures.1 ends);
})
