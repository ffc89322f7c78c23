use Rattle.std.proofs.Common.{◌≡◌, List, sym, ap, ◌∙◌}
use Rattle.kat_clause.specs.Literals.{has_of}
use Rattle.kat_form.specs.declared.Meaning.{Meaning}
use Rattle.kat_form.specs.Encodings.{senses_of}
use Rattle.kat_cases.specs.Nodes.{literals, held_in, held_from, judged_open, last_unmet, lowest_open, truths_from}
use Rattle.kat_cases.specs.Nodes.End.{at_point}
use Rattle.kat_cases.specs.Settings.{setting_of}
use Rattle.kat_cases.proofs.Judgings.{ok_along, judged_again}
use Rattle.kat_cases.proofs.judging.judge_open.Goals as goal

pub returns-in-Some-clause-judged : goal.returns-in-Some-clause-judged
returns-in-Some-clause-judged c =
    let s = setting_of c.args.encoded.now in
    let has = has_of c.args.marks.now in
    let kept = c.in-Some.kept.now in
    let same : kept.literals.items ≡ literals (held_in (setting_of c.args.encoded.now) (has_of c.args.marks.now)) =
    c.in-Some.ensures.1 ∙ c.deref-2.ensures.value ∙ c.in_ok-literals.ensures ∙ ap (λ (ms : List Meaning). literals (held_from (has_of c.args.marks.now) 1 (senses_of ms))) c.deref.ensures.value in
    ok_along c.judge_point.result
    (judged_open (last_unmet has s.encoding.clauses) (at_point kept.den kept.nums.items (truths_from has 1 s.encoding.senses)) (lowest_open has 1 s.encoding.senses)) _
    (sym (judged_again s has c.args.last.now kept c.requires.recalls c.in-Some.ensures.0 same)) c.judge_point.ensures
