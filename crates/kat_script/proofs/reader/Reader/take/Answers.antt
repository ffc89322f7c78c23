use Rattle.std.proofs.Common.{◌≡◌, ◌<◌, length, rules, sym}
use Rattle.std.proofs.lemmas.List.{nil_from_length}
use Rattle.kat_script.proofs.Taking.{takes_blank, refuses_unreadable, refuses_broken, takes_kept}
use Rattle.kat_script.proofs.reader.Reader.take.Goals as goal

pub returns-then-is_empty-clause-takes : goal.returns-then-is_empty-clause-takes
returns-then-is_empty-clause-takes c =
    let zero : length c.args.line.now ≡ 0 = search rules in
    takes_blank _ _ _ _ (nil_from_length _ zero)

pub returns-in-None-clause-refuses : goal.returns-in-None-clause-refuses
returns-in-None-clause-refuses c =
    let some : 0 < length c.args.line.now = search rules in
    refuses_unreadable c.args.sig.now c.args.number c.args.line.now c.args.self.now some (rw c.in-None.is at c.in_ok-said_of.ensures.said)

pub returns-in-Some-first_broken-clause-refuses : goal.returns-in-Some-first_broken-clause-refuses
returns-in-Some-first_broken-clause-refuses c =
    let one = rw c.in-Some.is at c.in_ok-said_of.ensures.said in
    refuses_broken c.args.sig.now c.args.number c.args.line.now c.args.self.now c.in-Some.said _ _ c.refusal.ensures one.0 (sym c.in-Some-first_broken.ensures.first)

pub returns-in-None-first_broken-clause-takes : goal.returns-in-None-first_broken-clause-takes
returns-in-None-first_broken-clause-takes c =
    let one = rw c.in-Some.is at c.in_ok-said_of.ensures.said in
    takes_kept c.args.sig.now c.args.number c.args.line.now c.args.self.now c.keep.new.self c.in-Some.said c.keep.result one.0 (sym c.in-None-first_broken.ensures.first) c.keep.ensures.matches c.keep.ensures.lines
