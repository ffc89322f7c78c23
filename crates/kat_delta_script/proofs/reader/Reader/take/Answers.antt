use Rattle.std.proofs.Common.{◌≡◌, ◌<◌, ap, length, refl, rules, sym}
use Rattle.std.proofs.lemmas.List.{nil_from_length}
use Rattle.kat_delta_script.specs.declared.error.DeltaScriptError.TheVariants.{Script}
use Rattle.kat_delta_script.proofs.Agreeing.{counted_there}
use Rattle.kat_delta_script.proofs.Taking.{takes_blank, refuses_unreadable, refuses_broken, refuses_counts, takes_kept}
use Rattle.kat_delta_script.proofs.reader.Reader.take.Goals as goal

pub returns-then-is_empty-clause-takes : goal.returns-then-is_empty-clause-takes
returns-then-is_empty-clause-takes c =
    let zero : length c.args.line.now ≡ 0 = search rules in
    takes_blank _ _ _ _ (nil_from_length _ zero)

pub returns-in-None-clause-refuses : goal.returns-in-None-clause-refuses
returns-in-None-clause-refuses c =
    let some : 0 < length c.args.line.now = search rules in
    refuses_unreadable c.args.sig.now c.args.number c.args.line.now c.args.self.now c.unreadable.result c.unreadable.ensures some (rw c.in-None.is at c.in_ok-statement_of.ensures)

pub returns-in-Some-first_broken-clause-refuses : goal.returns-in-Some-first_broken-clause-refuses
returns-in-Some-first_broken-clause-refuses c =
    let one = rw c.in-Some.is at c.in_ok-statement_of.ensures in
    refuses_broken c.args.sig.now c.args.number c.args.line.now c.args.self.now c.in-Some.statement _ _ (ap Script c.refusal.ensures) one.0 (sym c.in-Some-first_broken.ensures.first)

pub returns-in-Some-refused_by_counts-clause-refuses : goal.returns-in-Some-refused_by_counts-clause-refuses
returns-in-Some-refused_by_counts-clause-refuses c =
    let one = rw c.in-Some.is at c.in_ok-statement_of.ensures in
    refuses_counts c.args.sig.now c.args.number c.args.line.now c.args.self.now c.in-Some.statement c.in-Some-refused_by_counts.error one.0 (sym c.in-None-first_broken.ensures.first)
    (λ place at s. counted_there c.args.sig.now c.args.self.now.ledger c.args.self.now.tally place c.args.number _ c.in-Some.statement _ (c.in-None-first_broken.ensures.kept refl) c.packet_in-packet.ensures.number
    c.in-Some-refused_by_counts.ensures at s)

pub returns-in-None-refused_by_counts-clause-takes : goal.returns-in-None-refused_by_counts-clause-takes
returns-in-None-refused_by_counts-clause-takes c =
    let one = rw c.in-Some.is at c.in_ok-statement_of.ensures in
    takes_kept c.args.sig.now c.args.number c.args.line.now c.args.self.now c.keep.new.self c.in-Some.statement c.keep.result one.0 (sym c.in-None-first_broken.ensures.first)
    (λ place at s. counted_there c.args.sig.now c.args.self.now.ledger c.args.self.now.tally place c.args.number _ c.in-Some.statement _ (c.in-None-first_broken.ensures.kept refl) c.packet_in-packet.ensures.number
    c.in-None-refused_by_counts.ensures at s)
    c.keep.ensures.stands c.keep.ensures.lines
