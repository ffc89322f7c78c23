use Rattle.std.proofs.Common.{subst, sym}
use Rattle.kat_said.specs.Guesses.{IsPointFor, point_part}
use Rattle.kat_said.specs.Sayings.{SaidForm, said_form}
use Rattle.kat_said.proofs.Lines.{formless_unread, other_unread, wide_unread, written_read}
use Rattle.kat_said.proofs.reading.read_said.Goals as goal

pub returns-then-not-has_form : goal.returns-then-not-has_form
returns-then-not-has_form c = formless_unread c.args.line.now c.has_form.result c.has_form.ensures.lines c.if-not-has_form.true

pub returns-then-not-is_narrow : goal.returns-then-not-is_narrow
returns-then-not-is_narrow c = wide_unread c.args.line.now (said_form c.in_ok-said.said) c.is_narrow.result c.in_ok-said.ensures c.is_narrow.ensures.1 c.if-not-is_narrow.true

pub is_written-requires : goal.is_written-requires
is_written-requires c =
    let P : SaidForm → Type 0 = λ s. IsPointFor s (point_part s c.args.line.now) in
    record { narrow = c.is_narrow.ensures.0 c.if-not-is_narrow.false; point = subst P (sym c.in_ok-said.ensures) (c.has_form.ensures.point c.if-not-has_form.false) }

pub returns-then-not-branch : goal.returns-then-not-branch
returns-then-not-branch c = other_unread c.args.line.now (said_form c.in_ok-said.said) c.in_ok-is_written.field-0 c.in_ok-said.ensures c.in_ok-is_written.ensures.1 c.if-not-branch.true

pub returns : goal.returns
returns c = written_read c.args.line.now (said_form c.in_ok-said.said) c.in_ok-said.ensures (c.is_narrow.ensures.0 c.if-not-is_narrow.false) (c.in_ok-is_written.ensures.0 c.if-not-branch.false)
